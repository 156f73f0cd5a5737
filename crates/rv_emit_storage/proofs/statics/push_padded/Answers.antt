use Rattle.std.proofs.Common.{◌++◌, ◌-◌, Result, Ok, Err, OnOk, replicate, length, ap, ◌∙◌}
use Rattle.std.proofs.lemmas.List.{append_assoc}
use Rattle.rv_emit_storage.proofs.Padding.{first_padded}
use Rattle.rv_emit_storage.proofs.statics.push_padded.Goals as goal

on_ok : {A E : Type 0} (r : Result A E) (P Q : Type 0) → (P → Q) → OnOk r P → OnOk r Q
on_ok (Ok x) P Q go h = go h
on_ok (Err x) P Q go h = tt

pub returns : goal.returns
returns c = on_ok c.push_zeros.result _ _
    (λ e. e ∙ ap (λ l. l ++ replicate (c.args.count - length c.first_bytes-first.result.now) 0) c.in_ok-extend_from_slice.ensures.items
    ∙ append_assoc c.args.made.now.items c.first_bytes-first.result.now (replicate (c.args.count - length c.first_bytes-first.result.now) 0)
    ∙ ap (λ l. c.args.made.now.items ++ l) (ap (λ l. l ++ replicate (c.args.count - length c.first_bytes-first.result.now) 0) c.first_bytes-first.ensures
    ∙ first_padded c.args.count (c.args.count - length c.first_bytes-first.result.now) c.args.bytes.now (ap (λ l. c.args.count - length l) c.first_bytes-first.ensures)))
    c.push_zeros.ensures

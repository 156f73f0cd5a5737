use Rattle.std.proofs.Common.{◌≡◌, true, false, Some, None, is_some, string_bytes, sym, ◌∙◌}
use Rattle.std.specs.HashMap.{get_by_text}
use Rattle.std.proofs.lemmas.Map.Text.{hash_map_updates_text}
use Rattle.c_type.proofs.Numbers.{kept, fresh, copied_some, copied_none}
use Rattle.c_type.proofs.item.number.Goals as goal

pub returns-then-is_some : goal.returns-then-is_some
returns-then-is_some c = λ names long numbering q.
    let is : is_some c.get.result ≡ true = sym c.is_some.ensures ∙ c.if-is_some.true in
    let there : is_some (get_by_text c.args.numbers.now c.args.name.now) ≡ true = rw c.get.ensures.value at (copied_some c.get.result is) in
    numbering q ∙ sym (kept q c.args.name.now names (rw (numbering c.args.name.now) at there))

pub returns : goal.returns
returns c = λ names long numbering q.
    let is : is_some c.get.result ≡ false = sym c.is_some.ensures ∙ c.if-is_some.false in
    let there : get_by_text c.args.numbers.now c.args.name.now ≡ None = sym c.get.ensures.value ∙ copied_none c.get.result is in
    rw (fresh q c.args.name.now names (sym (numbering c.args.name.now) ∙ there), long, sym (numbering q))
    (rw c.in_ok-name.ensures.ok at (hash_map_updates_text (string_bytes c.in_ok-name.name) c.args.numbers.now c.insert.new.self (Some c.args.count) c.in_ok-insert.ensures.updates q))

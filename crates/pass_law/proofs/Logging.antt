-- Changes one by one.
use Rattle.std.proofs.Common.{◌≡◌, ◌∙◌, ◌++◌, ◌+◌, ◌<◌, ℕ, List, [], ◌∷◌, ap, append_assoc, drop, get_or, length, sym}
use Rattle.std.proofs.lemmas.List.{at_drop_more, length-append}
use Rattle.debug_records.specs.declared.change.Change.{Change}
use Rattle.debug_records.specs.declared.change.Kind.{Kind}
use Rattle.debug_records.specs.declared.change.PassName.{PassName}
use Rattle.pass_law.specs.declared.cases.Case.{Case}
use Rattle.pass_law.specs.Cases.{logged}

-- the change of a case
abbrev pub change_of : PassName → Kind → ℕ → Case → Change
change_of pass kind n c = record { number = n; pass = pass; kind = kind; place = c.place; var = c.var }

-- one change more
pub longer : (before after : List Change) (x : Change) → after ≡ before ++ x ∷ [] → length after ≡ length before + 1
longer before after x e = ap length e ∙ length-append before (x ∷ [])

-- the next change and those of the cases behind it are those of the cases that were left
pub one_more : (pass : PassName) (kind : Kind) (before after : List Change) (xs : List Case) (i n : ℕ) (d : Case) (whole : List Change) → i < length xs → n ≡ length before + 1
    → after ≡ before ++ change_of pass kind n (get_or xs i d) ∷ [] → before ++ logged pass kind (length before) (drop i xs) ≡ whole
    → after ++ logged pass kind (length after) (drop (i + 1) xs) ≡ whole
one_more pass kind before after xs i n d whole lt number appended so_far =
    let rest = drop (i + 1) xs in
    ap (λ k. after ++ logged pass kind k rest) (longer before after (change_of pass kind n (get_or xs i d)) appended)
    ∙ ap (λ t. t ++ logged pass kind (length before + 1) rest) appended
    ∙ append_assoc before (change_of pass kind n (get_or xs i d) ∷ []) (logged pass kind (length before + 1) rest)
    ∙ ap (λ k. before ++ change_of pass kind k (get_or xs i d) ∷ logged pass kind (length before + 1) rest) number
    ∙ sym (at_drop_more (λ l. before ++ logged pass kind (length before) l) xs i d lt)
    ∙ so_far

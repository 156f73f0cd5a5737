use Rattle.std.proofs.Common.{◌≡◌, drop, map}
use Rattle.std.specs.List.{list_any}
use Rattle.c_token.specs.Bytes.{text_has}
use Rattle.c_token.proofs.punctuator.is_listed_at.Given as goal

abbrev pub invariant-loop-entry : goal.invariant-loop-entry
invariant-loop-entry l = list_any (text_has l.text l.at) (map (λ entry. entry.now) l.table) ≡ list_any (text_has l.text l.at) (map (λ entry. entry.now) (drop l.entry-index l.table))

-- What is found while a source is checked.
use Rattle.std.specs.Prelude.{ℕ, List, [], ◌∷◌, ◌++◌, map, take, Option, Some, None}
use Rattle.debug_records.specs.declared.source.Spot.{Spot}
use Rattle.debug_records.specs.declared.code.Code.{Code}
use Rattle.c_tree.specs.Programs.{LiteralTree, literal_view}
use Rattle.c_type_expressions.specs.declared.findings.Fault.{Fault}
use Rattle.c_type_expressions.specs.declared.findings.Findings as declared-findings

-- faults, calls of functions that are never defined, and string literals that are objects, each in the order in which
-- they are found
pub record FoundTree : Type 0 where
  pub faults : List Fault
  pub undefined : List Spot
  pub literals : List LiteralTree

abbrev pub findings_view : declared-findings.Findings → FoundTree
findings_view f =
    record { faults = f.faults.items; undefined = f.undefined.items; literals = map literal_view f.literals.items }

-- one more fault, of a construct from a first token to a last
abbrev pub faulted : Code → Spot → ℕ → FoundTree → FoundTree
faulted code first last s = record s { faults = s.faults ++ record { last = last; code = code; first = first } ∷ [] }

-- one more call of a function that is never defined
abbrev pub with_undefined : Spot → FoundTree → FoundTree
with_undefined first s = record s { undefined = s.undefined ++ first ∷ [] }

-- one more string literal that is an object, with a zero behind its bytes
abbrev pub with_literal : Spot → List ℕ → FoundTree → FoundTree
with_literal first bytes s = record s { literals = s.literals ++ record { spot = first; bytes = bytes ++ 0 ∷ [] } ∷ [] }

-- no more than so many calls and literals
abbrev pub restored : ℕ → ℕ → FoundTree → FoundTree
restored undefined literals s = record s { undefined = take undefined s.undefined; literals = take literals s.literals }

-- what a check gives, with all that was found so far
pub data Checked (A : Type 0) : Type 0 where
  gives : A → FoundTree → Checked A

-- a check, and another one behind it
abbrev pub check_next : {A B : Type 0} → Checked A → (A → FoundTree → Checked B) → Checked B
check_next (gives a s) f = f a s

-- a rule on what is there; nothing where it is not, since its own fault is found already
abbrev pub with_one : {A B : Type 0} → Option A → (A → FoundTree → Checked (Option B)) → FoundTree → Checked (Option B)
with_one None f s = gives None s
with_one (Some a) f s = f a s

-- what is checked of two operands, if both are values
abbrev pub with_two : {A B C : Type 0} → Option A → Option B → (A → B → FoundTree → Checked (Option C)) → FoundTree
    → Checked (Option C)
with_two (Some a) (Some b) f s = f a b s
with_two _ _ f s = gives None s

-- what is checked of three operands, if all are values
abbrev pub with_three : {A B C D : Type 0} → Option A → Option B → Option C
    → (A → B → C → FoundTree → Checked (Option D)) → FoundTree → Checked (Option D)
with_three (Some a) (Some b) (Some c) f s = f a b c s
with_three _ _ _ f s = gives None s

-- what a rule makes; where it makes nothing, the construct is at fault
abbrev pub judged : {A : Type 0} → Option A → Code → Spot → ℕ → FoundTree → Checked (Option A)
judged (Some a) code first last s = gives (Some a) s
judged None code first last s = gives None (faulted code first last s)

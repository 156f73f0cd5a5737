-- Instructions that neither mark a place, nor set or copy words, nor call a function, cost what their pieces are.
use Rattle.std.proofs.Common.{◌≡◌, ℕ, ◌≤◌, arith, refl, Option, Bool, true, false, cond, List, ◌∷◌}
use Rattle.std.specs.Prelude.{◌==◌}
use Rattle.graph_core.specs.declared.instruction.Callee.TheVariants as callee
use Rattle.graph_core.specs.Graphs.{Instruction, Marker, Note, Move, Operate, Truncate, Same, Address, Load, Store, Zero, CopyWords, Call}
use Rattle.graph_core.specs.Paths.{History, is_marker, place_by, called}
use Rattle.graph_homes.specs.Homed.{HomedForm}
use Rattle.rv_emit_storage.specs.Storages.{StorageForm}
use Rattle.rv_emit_words.specs.Growing.{CodeState}
use Rattle.rv_emit_runs.specs.Laid.{Arrangement}
use Rattle.rv_emit_runs.proofs.Steps.{longest_of}
use Rattle.rv_emit_runs.proofs.Tracks.{pieces_of, passing}
use Rattle.rv_emit_runs.proofs.Amounts.{plain_cost, early_cost, later_cost}

-- An instruction is such a one.
abbrev pub IsOther : Instruction → Type 0
IsOther (Marker p) = ⊥
IsOther (Zero object words) = ⊥
IsOther (CopyWords object bytes words) = ⊥
IsOther (Call target (callee.Function f) all) = ⊥
IsOther _ = Unit {0}

-- What it costs, and what a path knows behind it.
pub record Plain (h : HomedForm) (a : Arrangement) (g : StorageForm) (entry : ℕ) (i : Instruction) (s : CodeState) : Type 0 where
  pub longest : longest_of h a g entry i s ≡ pieces_of g entry i s
  pub plain : plain_cost g entry i s ≡ pieces_of g entry i s
  pub early : early_cost g entry i s ≡ 0
  pub later : later_cost g entry i s ≡ 0
  pub unmarked : is_marker i ≡ false
  pub place : (o : Option ℕ) → place_by i o ≡ o
  pub calls : (n : ℕ) (more : List Instruction) (history : History) (m : ℕ) → cond (called (passing n i more ∷ history)) 0 m ≤ cond (called history) 0 m

never : (b : Bool) → ◌≡◌ {A = ℕ} (cond b 0 0) 0
never true = refl
never false = refl

pub plain_is : (h : HomedForm) (a : Arrangement) (g : StorageForm) (entry : ℕ) (i : Instruction) (s : CodeState) → IsOther i → Plain h a g entry i s
plain_is h a g entry (Marker p) s other = absurd other
plain_is h a g entry (Zero o n) s other = absurd other
plain_is h a g entry (CopyWords o b n) s other = absurd other
plain_is h a g entry (Call t (callee.Function f) all) s other = absurd other
plain_is h a g entry (Note x v) s other = record { longest = refl; plain = refl; early = never (s.owner == entry); later = never (s.owner == entry); unmarked = refl; place = λ o. refl; calls = λ n more history m. omega arith }
plain_is h a g entry (Move x v) s other = record { longest = refl; plain = refl; early = never (s.owner == entry); later = never (s.owner == entry); unmarked = refl; place = λ o. refl; calls = λ n more history m. omega arith }
plain_is h a g entry (Operate x op y z) s other = record { longest = refl; plain = refl; early = never (s.owner == entry); later = never (s.owner == entry); unmarked = refl; place = λ o. refl; calls = λ n more history m. omega arith }
plain_is h a g entry (Truncate x t y) s other = record { longest = refl; plain = refl; early = never (s.owner == entry); later = never (s.owner == entry); unmarked = refl; place = λ o. refl; calls = λ n more history m. omega arith }
plain_is h a g entry (Same x y z) s other = record { longest = refl; plain = refl; early = never (s.owner == entry); later = never (s.owner == entry); unmarked = refl; place = λ o. refl; calls = λ n more history m. omega arith }
plain_is h a g entry (Address x y) s other = record { longest = refl; plain = refl; early = never (s.owner == entry); later = never (s.owner == entry); unmarked = refl; place = λ o. refl; calls = λ n more history m. omega arith }
plain_is h a g entry (Load x y l) s other = record { longest = refl; plain = refl; early = never (s.owner == entry); later = never (s.owner == entry); unmarked = refl; place = λ o. refl; calls = λ n more history m. omega arith }
plain_is h a g entry (Store y l v) s other = record { longest = refl; plain = refl; early = never (s.owner == entry); later = never (s.owner == entry); unmarked = refl; place = λ o. refl; calls = λ n more history m. omega arith }
plain_is h a g entry (Call t callee.Getchar all) s other = record { longest = refl; plain = refl; early = never (s.owner == entry); later = never (s.owner == entry); unmarked = refl; place = λ o. refl; calls = λ n more history m. omega arith }
plain_is h a g entry (Call t callee.Putchar all) s other = record { longest = refl; plain = refl; early = never (s.owner == entry); later = never (s.owner == entry); unmarked = refl; place = λ o. refl; calls = λ n more history m. omega arith }
plain_is h a g entry (Call t callee.Exit all) s other = record { longest = refl; plain = refl; early = never (s.owner == entry); later = never (s.owner == entry); unmarked = refl; place = λ o. refl; calls = λ n more history m. omega arith }

-- What goes and what is left of instructions: what they mark, note, call and read.
use Rattle.std.proofs.Common.{◌≡◌, ℕ, ◌⊎◌, inl, inr, Bool, true, false, true≢false, Option, Some, None, List, [], ◌∷◌, refl, sym, ap}
use Rattle.std.specs.Prelude.{◌||◌, if◌then◌else◌}
use Rattle.std.proofs.lemmas.Option.{none-some}
use Rattle.places.specs.declared.flow.Assignment.{Assignment}
use Rattle.graph_core.specs.declared.instruction.Callee.{Callee}
use Rattle.graph_core.specs.Graphs.{Operand, NoteValue, Instruction, Marker, Note, Move, Operate, Truncate, Same, Address, Load, Store, Zero, CopyWords, Call, End, Graph, Logged}
use Rattle.graph_core.specs.Paths.{place_by, writes, is_marker, is_call, notes, bound_at, owed_by}
use Rattle.graph_core.specs.Uses.{reads_of, target_of, is_computation}
use Rattle.graph_core.specs.Validity.{markers_in, place_behind}
use Rattle.dead_pass_rule.specs.Idle.{IsIdle, idle, Goes}
use Rattle.dead_pass_rule.specs.Removing.{without}
use Rattle.dead_pass_notes.specs.Said.{SaysAs, noted, unreached, other}
use Rattle.dead_pass.specs.LeftBy.{IsKeptAs, same, noted as kept_noted}
use Rattle.dead_pass_laws.specs.Staying.{IsLeft, stays, untargeted}

-- ---- What goes

-- What goes is a computation, or a call that writes a name.
pub data GoesAs : Instruction → Type 0 where
  computed : {i : Instruction} → is_computation i ≡ true → GoesAs i
  called : {x : ℕ} {f : Callee} {all : List Operand} → GoesAs (Call (Some x) f all)

-- What writes a name is one of these.
target_as : (i : Instruction) (x : ℕ) → target_of i ≡ Some x → GoesAs i
target_as (Marker p) x target = absurd (none-some x target)
target_as (Note y v) x target = absurd (none-some x target)
target_as (Move y a) x target = computed refl
target_as (Operate y o a b) x target = computed refl
target_as (Truncate y t a) x target = computed refl
target_as (Same y a b) x target = computed refl
target_as (Address y o) x target = computed refl
target_as (Load y f l) x target = computed refl
target_as (Store f l a) x target = absurd (none-some x target)
target_as (Zero o w) x target = absurd (none-some x target)
target_as (CopyWords o w v) x target = absurd (none-some x target)
target_as (Call None f all) x target = absurd (none-some x target)
target_as (Call (Some y) f all) x target = called

-- What is idle writes a name.
idle_as : {assignments : List Assignment} → (g : Graph) (n : ℕ) (i : Instruction) (rest : List Instruction) (e : End) → IsIdle assignments g n (i ∷ rest) e → GoesAs i
idle_as g n i rest e (idle {x = x} stands written may computes further) = target_as i x written

-- So what goes is one of these.
pub goes_as : {assignments : List Assignment} → (g : Graph) (n : ℕ) (i : Instruction) (rest : List Instruction) (e : End) → Goes assignments g n (i ∷ rest) e → GoesAs i
goes_as g n i rest e goes = idle_as g n i rest e goes.idle

-- What holds of a computation: it begins no place, notes nothing, calls nothing, and nothing is left of it where it goes.
pub record IsPlain (i : Instruction) : Type 0 where
  pub marker : is_marker i ≡ false
  pub call : is_call i ≡ false
  pub note : (x : ℕ) → notes x i ≡ false
  pub left : without i ≡ []
  pub place : (more : List Instruction) (o : Option ℕ) → place_behind (i ∷ more) o ≡ place_behind more o
  pub markers : (more : List Instruction) → markers_in (i ∷ more) ≡ markers_in more

-- So each computation is plain.
pub computed_plain : (i : Instruction) → is_computation i ≡ true → IsPlain i
computed_plain (Marker p) is = absurd (true≢false (sym is))
computed_plain (Note y v) is = absurd (true≢false (sym is))
computed_plain (Move y a) is = record { marker = refl; call = refl; note = λ x. refl; left = refl; place = λ more o. refl; markers = λ more. refl }
computed_plain (Operate y p a b) is = record { marker = refl; call = refl; note = λ x. refl; left = refl; place = λ more o. refl; markers = λ more. refl }
computed_plain (Truncate y t a) is = record { marker = refl; call = refl; note = λ x. refl; left = refl; place = λ more o. refl; markers = λ more. refl }
computed_plain (Same y a b) is = record { marker = refl; call = refl; note = λ x. refl; left = refl; place = λ more o. refl; markers = λ more. refl }
computed_plain (Address y a) is = record { marker = refl; call = refl; note = λ x. refl; left = refl; place = λ more o. refl; markers = λ more. refl }
computed_plain (Load y f l) is = record { marker = refl; call = refl; note = λ x. refl; left = refl; place = λ more o. refl; markers = λ more. refl }
computed_plain (Store f l a) is = absurd (true≢false (sym is))
computed_plain (Zero a w) is = absurd (true≢false (sym is))
computed_plain (CopyWords a w v) is = absurd (true≢false (sym is))
computed_plain (Call x f all) is = absurd (true≢false (sym is))

-- ---- What is left

-- Notes that are the same are of the same scalar,
pub note_name : {x y : ℕ} {v w : NoteValue} → Note x v ≡ Note y w → x ≡ y
note_name e = cc

-- and say the same.
pub note_value : {x y : ℕ} {v w : NoteValue} → Note x v ≡ Note y w → v ≡ w
note_value e = cc

-- What is left of one marks, notes, calls and reads the same, and writes no more.
pub record IsLike (i j : Instruction) : Type 0 where
  pub marker : is_marker j ≡ is_marker i
  pub place : (o : Option ℕ) → place_by j o ≡ place_by i o
  pub behind : (o : Option ℕ) → place_behind (j ∷ []) o ≡ place_behind (i ∷ []) o
  pub call : is_call j ≡ is_call i
  pub note : (x : ℕ) → notes x j ≡ notes x i
  pub reads : reads_of j ≡ reads_of i
  pub bound : (g : Graph) (x : ℕ) → bound_at g x j ≡ bound_at g x i
  pub write : (x : ℕ) → writes x i ≡ false → writes x j ≡ false

-- What is kept as it is, or as a note of the same scalar, writes the same.
pub kept_writes : (x : ℕ) {i j : Instruction} → IsKeptAs i j → writes x j ≡ writes x i
kept_writes x same = refl
kept_writes x kept_noted = refl

-- It has the same target, and is a computation or is none.
pub kept_target : {i j : Instruction} → IsKeptAs i j → target_of j ≡ target_of i
kept_target same = refl
kept_target kept_noted = refl

pub kept_computes : {i j : Instruction} → IsKeptAs i j → is_computation j ≡ is_computation i
kept_computes same = refl
kept_computes kept_noted = refl

-- So it does all the same.
kept_like : {i j : Instruction} → IsKeptAs i j → IsLike i j
kept_like same = record { marker = refl; place = λ o. refl; behind = λ o. refl; call = refl; note = λ x. refl; reads = refl; bound = λ g x. refl; write = λ x none. none }
kept_like kept_noted = record { marker = refl; place = λ o. refl; behind = λ o. refl; call = refl; note = λ x. refl; reads = refl; bound = λ g x. refl; write = λ x none. none }

module _ {assignments : List Assignment} (log : List Logged) (g : Graph) (n : ℕ) (rest : List Instruction) (e : End) where
  -- What a note shall say is said by a note of the same scalar, and else it is the same.
  pub said_kept : {i j : Instruction} → SaysAs assignments log g n rest e i j → IsKeptAs i j
  said_kept (noted reached stands said) = kept_noted
  said_kept (unreached none) = same
  said_kept (other none) = same

  -- So what is left of one is like it.
  pub left_like : {i j : Instruction} → IsLeft assignments log g n rest e i j → IsLike i j
  left_like (stays stay said) = kept_like (said_kept said)
  left_like (untargeted goes) = record { marker = refl; place = λ o. refl; behind = λ o. refl; call = refl; note = λ x. refl; reads = refl; bound = λ h x. refl; write = λ x none. refl }

-- What stays is kept, and what goes and leaves something is a call, which is no marker and no computation, and writes nothing any more.
abbrev pub StaysOrCalls : (assignments : List Assignment) (log : List Logged) (g : Graph) (n : ℕ) (rest : List Instruction) (e : End) (i j : Instruction) → Type 0
StaysOrCalls assignments log g n rest e i j =
    ((Goes assignments g n (i ∷ rest) e → ⊥) × SaysAs assignments log g n rest e i j) ⊎ (Goes assignments g n (i ∷ rest) e × (is_marker i ≡ false) × (is_computation i ≡ false) × ((x : ℕ) → writes x j ≡ false))

-- So it is of what is left.
pub left_cases : {assignments : List Assignment} → (log : List Logged) (g : Graph) (n : ℕ) (rest : List Instruction) (e : End) {i j : Instruction} → IsLeft assignments log g n rest e i j → StaysOrCalls assignments log g n rest e i j
left_cases log g n rest e (stays stay said) = inl (stay, said)
left_cases log g n rest e (untargeted goes) = inr (goes, refl, refl, λ x. refl)

-- neither a note nor a call
abbrev pub is_fixed : Instruction → Bool
is_fixed (Note x v) = false
is_fixed (Call x f all) = false
is_fixed _ = true

-- What is left and is neither a note nor a call was the same.
pub left_was : {assignments : List Assignment} → (log : List Logged) (g : Graph) (n : ℕ) (rest : List Instruction) (e : End) {i j : Instruction} → IsLeft assignments log g n rest e i j → is_fixed j ≡ true → i ≡ j
left_was log g n rest e (stays stay (noted reached stands said)) fixed = absurd (true≢false (sym fixed))
left_was log g n rest e (stays stay (unreached none)) fixed = refl
left_was log g n rest e (stays stay (other none)) fixed = refl
left_was log g n rest e (untargeted goes) fixed = absurd (true≢false (sym fixed))

-- What is left as a note was a note of the same scalar.
pub left_note : {assignments : List Assignment} → (log : List Logged) (g : Graph) (n : ℕ) (rest : List Instruction) (e : End) {i j : Instruction} (x : ℕ) (w : NoteValue) → IsLeft assignments log g n rest e i j → j ≡ Note x w → (v : NoteValue) × (i ≡ Note x v)
left_note log g n rest e x w (stays stay (noted {v = v} reached stands said)) one = (let name = note_name one in (v, ap (λ z. Note z v) name))
left_note log g n rest e x w (stays stay (unreached none)) one = (w, one)
left_note log g n rest e x w (stays stay (other none)) one = (w, one)
left_note log g n rest e x w (untargeted goes) one = cc

-- What goes is no marker.
pub going_plain : {i : Instruction} → GoesAs i → is_marker i ≡ false
going_plain (computed {i} is) = (computed_plain i is).marker
going_plain called = refl

-- What a marker is kept as is that marker.
pub kept_marker : {i j : Instruction} (p : ℕ) → IsKeptAs i j → i ≡ Marker p → j ≡ Marker p
kept_marker p same one = one
kept_marker p kept_noted one = cc

-- ---- Notes that are owed

-- Behind what is no marker a note is owed as by its write, or as before.
pub owed_plain : (assigns : ℕ → Bool) (x : ℕ) (i : Instruction) (before : Bool) → is_marker i ≡ false → owed_by assigns x i before ≡ (if notes x i then false else writes x i || before)
owed_plain assigns x (Marker p) before plain = absurd (true≢false plain)
owed_plain assigns x _ before plain = refl

-- Behind a marker it is owed, or is not, whatever was before.
pub owed_marker : (assigns : ℕ → Bool) (x : ℕ) {i j : Instruction} (b c : Bool) → IsKeptAs i j → is_marker i ≡ true → owed_by assigns x j c ≡ owed_by assigns x i b
owed_marker assigns x {i = Marker p} b c same marks = refl
owed_marker assigns x {i = Note y v} b c is marks = absurd (true≢false (sym marks))
owed_marker assigns x b c same marks = absurd (true≢false (sym marks))

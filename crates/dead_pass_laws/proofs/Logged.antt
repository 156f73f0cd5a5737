-- What the log tells of assignments that went.
use Rattle.std.proofs.Common.{◌≡◌, ℕ, zero, suc, ◌+◌, ◌<◌, Some, List, [], ◌∷◌, ◌++◌, length, map, refl, ap, ◌∙◌, arith}
use Rattle.std.specs.List.{Contains}
use Rattle.std.specs.Prelude.{slice_get, slice_index_or}
use Rattle.debug_records.specs.declared.change.PassName.{PassName}
use Rattle.debug_records.specs.declared.change.Kind.TheVariants.{Removed}
use Rattle.graph_core.specs.Graphs.{Graph, UnitForm}
use Rattle.graph_core.specs.Paths.{Among, front, behind}
use Rattle.graph_core.specs.WellMarked.{IsVariable, WasTaken}
use Rattle.pass_law.specs.declared.cases.Case.{Case}
use Rattle.pass_law.specs.Changes.{IsCaseOf, AddsChangesOf, logged_as}
use Rattle.dead_pass_notes.specs.Said.{IsDropped}
use Rattle.dead_pass_notes.specs.Writes.{IsRemovedWrite}
use Rattle.dead_pass_laws.proofs.Came.{HasRemoval}
use Rattle.base_laws.proofs.Lists.{front_at, map_at as mapped_at}

-- what a list has at one position it has at some
abbrev HasAt : {A : Type 0} → List A → A → Type 0
HasAt xs x = (k : ℕ) × (slice_get xs k ≡ Some x)

-- a member stands at some position
among_at : {A : Type 0} (xs : List A) (x : A) → Among x xs → HasAt xs x
among_at [] x among = elim among [ ]
among_at (y ∷ xs) x front = (0, refl)
among_at (y ∷ xs) x (behind later) = (let k = among_at xs x later in (suc k.0, k.1))

-- so does what the list contains
contained_at : {A : Type 0} (xs : List A) (k : ℕ) (x d : A) → k < length xs → slice_index_or xs k d ≡ x → slice_get xs k ≡ Some x
contained_at [] k x d less is = absurd (omega (arith, less))
contained_at (y ∷ xs) zero x d less is = ap (λ z. Some z) is
contained_at (y ∷ xs) (suc k) x d less is = contained_at xs k x d (omega (arith, less)) is

-- behind others it stands at a later one
behind_at : {A : Type 0} (xs ys : List A) (k : ℕ) (x : A) → slice_get ys k ≡ Some x → HasAt (xs ++ ys) x
behind_at [] ys k x at = (k, at)
behind_at (y ∷ xs) ys k x at = (let later = behind_at xs ys k x at in (suc later.0, later.1))

module _ (u v : UnitForm) (pass : PassName) (adds : AddsChangesOf pass Removed (λ before after. IsRemovedWrite u.assignments before) u v) where
  -- Of an assignment that went before some change tells.
  pub older_told : (p variable : ℕ) → WasTaken u.log p variable → HasRemoval v.log p variable
  older_told p variable was =
      let k = among_at u.log was.change was.logged in
      let at : slice_get v.log k.0 ≡ Some was.change = ap (λ l. slice_get l k.0) adds.log ∙ front_at u.log (map (logged_as pass Removed) adds.cases) k.0 was.change k.1 in
      (k.0 + 1, record { k = k.0; change = was.change; counted = refl; is = at; taken = was.taken; in_place = was.at; of = was.of })

  -- And of one that goes now.
  pub newer_told : (f : ℕ) (g h : Graph) → slice_get u.graphs f ≡ Some g → slice_get v.graphs f ≡ Some h → (p x variable : ℕ) → IsVariable g x variable → IsDropped u.assignments g p x → HasRemoval v.log p variable
  newer_told f g h stood stands p x variable scalar d =
      let c : Case = record { place = record { 0 = p }; block = d.n; index = length d.stands.before; operand = 0; var = record { 0 = variable } } in
      let is : IsRemovedWrite u.assignments g c = record { instruction = d.instruction; rest = d.rest; end = d.end; stood = d.stands; index = refl; goes = d.goes; x = x; written = d.target; variable = scalar; no_read = refl } in
      let one : IsCaseOf (λ before after. IsRemovedWrite u.assignments before) u.graphs v.graphs (f, c) = record { before = g; after = h; stood = stood; stands = stands; case = is } in
      let has : Contains adds.all.of (f, c) = adds.all.all.each (f, c) one in
      let there : slice_get adds.all.of has.0 ≡ Some (f, c) = contained_at adds.all.of has.0 (f, c) (f, c) has.1 has.2 in
      let case : slice_get adds.cases has.0 ≡ Some c = ap (λ l. slice_get l has.0) adds.all.are ∙ mapped_at (λ (a : ℕ × Case). a.1) adds.all.of has.0 (f, c) there in
      let change : slice_get (map (logged_as pass Removed) adds.cases) has.0 ≡ Some (logged_as pass Removed c) = mapped_at (logged_as pass Removed) adds.cases has.0 c case in
      let k = behind_at u.log (map (logged_as pass Removed) adds.cases) has.0 (logged_as pass Removed c) change in
      let at : slice_get v.log k.0 ≡ Some (logged_as pass Removed c) = ap (λ l. slice_get l k.0) adds.log ∙ k.1 in
      (k.0 + 1, record { k = k.0; change = logged_as pass Removed c; counted = refl; is = at; taken = refl; in_place = refl; of = refl })

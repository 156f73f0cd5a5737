-- Inner blocks that stand in a graph, and what computations are.
use Rattle.std.proofs.Common.{◌≡◌, ℕ, Bool, true, false, Option, Some, None, List, [], ◌∷◌, ◌++◌, length, slice_get, refl, sym, ap, ◌∙◌, subst, ◌==◌}
use Rattle.std.specs.Prelude.{◌||◌, ◌&&◌}
use Rattle.std.specs.List.{list_any}
use Rattle.graph_core.specs.Graphs as unit
use Rattle.graph_core.specs.Graphs.{Operand, Location, Instruction, Marker, Note, Move, Operate, Truncate, Same, Address, Load, Store, Zero, CopyWords, Call, End, Block}
use Rattle.graph_core.specs.Uses.{names_of, names_of_all, names_of_location, names_of_some, reads_of, target_of, is_computation}
use Rattle.graph_core.specs.Paths.{is_marker, is_call, notes, writes}
use Rattle.graph_build_steps.specs.Drafts.{Made, with_inner_block, label_of}
use Rattle.graph_build_laws.specs.Passing.{Grows}
use Rattle.graph_build_laws.specs.Points.{AtLabel, StandIn}
use Rattle.graph_build_laws.proofs.Instances.{got_before, got_next}
use Rattle.image_truth_units.proofs.Rules.{stands, lies, NoneStands, SomeClear, Clear}
use Rattle.base_laws.proofs.Options.{some_same}

module _ (blocks : List Block) (top : ℕ) where
  pub closed_before : (place : ℕ) (m : Made) → StandIn blocks top (with_inner_block place m) → StandIn blocks top m.inner
  closed_before place m st k b e = st k b (got_before m.inner (record { place = Some place; instructions = m.ops; end = m.end } ∷ []) k b e)

  pub closed_at : (G : List Instruction → End → Type 0) (place : ℕ) (m : Made) → StandIn blocks top (with_inner_block place m) → G m.ops m.end → AtLabel blocks G (label_of top m)
  closed_at G place m st h b e =
      let it : Block = record { place = Some place; instructions = m.ops; end = m.end } in
      let there : slice_get blocks (label_of top m) ≡ Some it = st (length m.inner) it (got_next m.inner it) in
      subst (λ (c : Block). G c.instructions c.end) (some_same (sym there ∙ e)) h

  pub grown : (xs ys : List Block) → Grows xs ys → StandIn blocks top ys → StandIn blocks top xs
  grown xs ys g st k b e = st k b (subst (λ (zs : List Block). slice_get zs k ≡ Some b) (sym g.1) (got_before xs g.0 k b e))

-- a computation is no marker, no note and no call
pub no_marker : (i : Instruction) → is_computation i ≡ true → is_marker i ≡ false
no_marker (Marker p) h = cc
no_marker (Note y v) h = cc
no_marker (Move y a) h = refl
no_marker (Operate y o a b) h = refl
no_marker (Truncate y t a) h = refl
no_marker (Same y a b) h = refl
no_marker (Address y o) h = refl
no_marker (Load y e l) h = refl
no_marker (Store e l a) h = cc
no_marker (Zero o k) h = cc
no_marker (CopyWords o b k) h = cc
no_marker (Call y f all) h = cc

pub no_note : (x : ℕ) (i : Instruction) → is_computation i ≡ true → notes x i ≡ false
no_note x (Marker p) h = cc
no_note x (Note y v) h = cc
no_note x (Move y a) h = refl
no_note x (Operate y o a b) h = refl
no_note x (Truncate y t a) h = refl
no_note x (Same y a b) h = refl
no_note x (Address y o) h = refl
no_note x (Load y e l) h = refl
no_note x (Store e l a) h = cc
no_note x (Zero o k) h = cc
no_note x (CopyWords o b k) h = cc
no_note x (Call y f all) h = cc

pub no_call : (i : Instruction) → is_computation i ≡ true → is_call i ≡ false
no_call (Marker p) h = cc
no_call (Note y v) h = cc
no_call (Move y a) h = refl
no_call (Operate y o a b) h = refl
no_call (Truncate y t a) h = refl
no_call (Same y a b) h = refl
no_call (Address y o) h = refl
no_call (Load y e l) h = refl
no_call (Store e l a) h = cc
no_call (Zero o k) h = cc
no_call (CopyWords o b k) h = cc
no_call (Call y f all) h = cc

-- what an instruction writes that has a target
pub writes_target : (x z : ℕ) (i : Instruction) → target_of i ≡ Some z → writes x i ≡ (z == x)
writes_target x z i h = ap (λ o. Rattle.std.specs.Option.option_map_or (λ (y : ℕ). y == x) o false) h

-- An instruction that reads none of some names does not read one of them.
module _ (y : ℕ) (temp : Bool) where
  -- the name that is asked about, if it is to be
  abbrev pub asked : ℕ → Bool
  asked z = temp && (z == y)

  any_append : (f : ℕ → Bool) (xs ys : List ℕ) → list_any f xs ≡ false → list_any f ys ≡ false → list_any f (xs ++ ys) ≡ false
  any_append f [] ys h k = k
  any_append f (x ∷ xs) ys h k = by (f x) h (λ h. any_append f xs ys h k)
    where
      by : (b : Bool) → b || list_any f xs ≡ false → (list_any f xs ≡ false → list_any f (xs ++ ys) ≡ false) → b || list_any f (xs ++ ys) ≡ false
      by true h later = cc
      by false h later = later h

  no_or : (b : Bool) → b ≡ false → b || false ≡ false
  no_or true h = cc
  no_or false h = refl

  abbrev Is : ℕ → Bool
  Is z = z == y

  pub operand_reads : temp ≡ true → (a : Operand) → stands asked a ≡ false → list_any (λ (z : ℕ). z == y) (names_of a) ≡ false
  operand_reads t (unit.Name z) h = no_or (z == y) (ap (λ b. b && (z == y)) (sym t) ∙ h)
  operand_reads t (unit.Constant w) h = refl
  operand_reads t (unit.StaticAddress o k) h = refl

  location_reads : temp ≡ true → (l : Location) → lies asked l ≡ false → list_any (λ (z : ℕ). z == y) (names_of_location l) ≡ false
  location_reads t (unit.At a) h = operand_reads t a h
  location_reads t (unit.Automatic o k) h = refl
  location_reads t (unit.Static o) h = refl

  all_read : temp ≡ true → (all : List Operand) → NoneStands asked all → list_any (λ (z : ℕ). z == y) (names_of_all all) ≡ false
  all_read t [] h = refl
  all_read t (a ∷ more) h = any_append (λ (z : ℕ). z == y) (names_of a) (names_of_all more) (operand_reads t a h.0) (all_read t more h.1)

  pub two_read : temp ≡ true → (a b : Operand) → stands asked a ≡ false → stands asked b ≡ false → list_any (λ (z : ℕ). z == y) (names_of a ++ names_of b) ≡ false
  two_read t a b h k = any_append (λ (z : ℕ). z == y) (names_of a) (names_of b) (operand_reads t a h) (operand_reads t b k)

  pub some_reads : temp ≡ true → (a : Option Operand) → SomeClear asked a → list_any (λ (z : ℕ). z == y) (names_of_some a) ≡ false
  some_reads t None h = refl
  some_reads t (Some a) h = operand_reads t a h

  pub instruction_reads : temp ≡ true → (i : Instruction) → Clear asked i → list_any (λ (z : ℕ). z == y) (reads_of i) ≡ false
  instruction_reads t (Marker p) h = refl
  instruction_reads t (Note z v) h = refl
  instruction_reads t (Move z a) h = operand_reads t a h
  instruction_reads t (Operate z o a b) h = two_read t a b h.0 h.1
  instruction_reads t (Truncate z u a) h = operand_reads t a h
  instruction_reads t (Same z a b) h = two_read t a b h.0 h.1
  instruction_reads t (Address z o) h = refl
  instruction_reads t (Load z e l) h = location_reads t l h
  instruction_reads t (Store e l a) h = any_append (λ (z : ℕ). z == y) (names_of_location l) (names_of a) (location_reads t l h.0) (operand_reads t a h.1)
  instruction_reads t (Zero o k) h = refl
  instruction_reads t (CopyWords o b k) h = refl
  instruction_reads t (Call z f all) h = all_read t all h

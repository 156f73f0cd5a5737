-- What a well-formed program keeps: how its places and objects stand in the text, and its limits.
use Rattle.std.proofs.Common.{◌≡◌, ℕ, zero, suc, ◌≤◌, ◌<◌, Bool, true, false, ◌&&◌, Option, Some, None, List, [], ◌∷◌, length, map, slice_get, refl, arith}
use Rattle.std.specs.Prelude.{nat_le, nat_lt, is_none, if◌then◌else◌}
use Rattle.std.proofs.lemmas.Option.{none-some, same_Some}
use Rattle.debug_records.specs.declared.code.Code.{Code}
use Rattle.debug_records.specs.declared.code.TheConstants.Code.{PROGRAM_WEIGHT, STATIC_OBJECTS, VISIBLE_PAIRS}
use Rattle.c_tree.specs.Programs.{AutomaticTree, LiteralTree, StaticTree, ProgramTree}
use Rattle.c_places.specs.Places.{Place, places_of_program}
use Rattle.c_type_bounds.specs.Bounds.{objects_room, program_breach}
use Rattle.c_type_bounds.specs.Visible.{visible_pairs}
use Rattle.c_type_laws.specs.Orders.{ascends, ascends_behind, never_falls}
use Rattle.c_type_laws.specs.Objects.{are_ended, are_static, arrays_are_kept}
use Rattle.c_type_laws.specs.Parameters.{parameters_single}
use Rattle.c_type_laws.specs.Laws.{IsWellFormed, objects_ascend, follow, is_main, are_objects, are_functions, is_within, is_sound, weight_of, places_ascend}
use Rattle.base_laws.proofs.Numbers.{at_most, not_less}
pub use Rattle.base_laws.proofs.Booleans.{two_true as both}
pub use Rattle.base_laws.proofs.Numbers.{is_less}

-- ---- Numbers in order

pub ascend_at : (ns : List ℕ) → ascends ns ≡ true → (i a b : ℕ) → slice_get ns i ≡ Some a → slice_get ns (suc i) ≡ Some b → a < b
ascend_at [] h i a b is at = absurd (none-some a is)
ascend_at (n ∷ []) h zero a b is at = absurd (none-some b at)
ascend_at (n ∷ []) h (suc i) a b is at = absurd (none-some a is)
ascend_at (n ∷ m ∷ more) h zero a b is at =
    let less = is_less n m (both (nat_lt n m) (ascends_behind m more) h).0 in
    let one : n ≡ a = same_Some n a is in
    let two : m ≡ b = same_Some m b at in
    omega (arith, less, one, two)
ascend_at (n ∷ m ∷ more) h (suc i) a b is at = ascend_at (m ∷ more) (both (nat_lt n m) (ascends_behind m more) h).1 i a b is at

pub falls_at : (last : ℕ) (ns : List ℕ) → never_falls last ns ≡ true → (i a b : ℕ) → slice_get ns i ≡ Some a → slice_get ns (suc i) ≡ Some b → a ≤ b
falls_at last [] h i a b is at = absurd (none-some a is)
falls_at last (n ∷ []) h zero a b is at = absurd (none-some b at)
falls_at last (n ∷ []) h (suc i) a b is at = absurd (none-some a is)
falls_at last (n ∷ m ∷ more) h zero a b is at =
    let rest = (both (nat_le last n) (nat_le n m && never_falls m more) h).1 in
    let less = at_most n m (both (nat_le n m) (never_falls m more) rest).0 in
    let one : n ≡ a = same_Some n a is in
    let two : m ≡ b = same_Some m b at in
    omega (arith, less, one, two)
falls_at last (n ∷ m ∷ more) h (suc i) a b is at = falls_at n (m ∷ more) (both (nat_le last n) (nat_le n m && never_falls m more) h).1 i a b is at

pub least_at : (last : ℕ) (ns : List ℕ) → never_falls last ns ≡ true → (i a : ℕ) → slice_get ns i ≡ Some a → last ≤ a
least_at last [] h i a is = absurd (none-some a is)
least_at last (n ∷ more) h zero a is =
    let least = at_most last n (both (nat_le last n) (never_falls n more) h).0 in
    let one : n ≡ a = same_Some n a is in
    omega (arith, least, one)
least_at last (n ∷ more) h (suc i) a is =
    let parts = both (nat_le last n) (never_falls n more) h in
    let least = at_most last n parts.0 in
    let later = least_at n more parts.1 i a is in
    omega (arith, least, later)

-- ---- All of it

-- What is known of a program.
pub record Facts (p : ProgramTree) : Type 0 where
  pub positions : ascends (map (λ (q : Place). q.spot.at) (places_of_program p)) ≡ true
  pub lines : never_falls 1 (map (λ (q : Place). q.spot.line) (places_of_program p)) ≡ true
  pub statics : ascends (map (λ (v : StaticTree). v.spot.at) p.statics) ≡ true
  pub automatics : ascends (map (λ (a : AutomaticTree). a.spot.at) p.automatics) ≡ true
  pub literals : ascends (map (λ (l : LiteralTree). l.spot.at) p.literals) ≡ true
  pub follow_all : follow 0 (length p.automatics) p.functions ≡ true
  pub main : is_main (slice_get p.functions p.main) ≡ true
  pub arrays : arrays_are_kept p.automatics ≡ true
  pub few : length p.functions ≤ 256
  pub room : objects_room p ≤ 1048576
  pub visible : visible_pairs p ≤ 1000000

if_none : (b : Bool) (code : Code) (rest : Option Code) → is_none (if b then Some code else rest) ≡ true → (b ≡ false) × (is_none rest ≡ true)
if_none true code rest h = cc
if_none false code rest h = (refl, h)

limits_kept : (p : ProgramTree) → is_none (program_breach p) ≡ true → (objects_room p ≤ 1048576) × (visible_pairs p ≤ 1000000)
limits_kept p h =
    let visible : Option Code = if nat_lt 1000000 (visible_pairs p) then Some VISIBLE_PAIRS else None in
    let rest : Option Code = if nat_lt 1048576 (objects_room p) then Some STATIC_OBJECTS else visible in
    let one = if_none (nat_lt 40000 p.weight) PROGRAM_WEIGHT rest h in
    let two = if_none (nat_lt 1048576 (objects_room p)) STATIC_OBJECTS visible one.1 in
    let three = if_none (nat_lt 1000000 (visible_pairs p)) VISIBLE_PAIRS None two.1 in
    (not_less 1048576 (objects_room p) two.0, not_less 1000000 (visible_pairs p) three.0)

pub facts_of : (p : ProgramTree) → IsWellFormed p → Facts p
facts_of p h =
    let ordered = objects_ascend p in
    let follows = follow 0 (length p.automatics) p.functions in
    let main = is_main (slice_get p.functions p.main) in
    let objects = are_objects p in
    let functions = are_functions p p.functions in
    let within = is_within p in
    let places = places_ascend (places_of_program p) in
    let singles = parameters_single p.automatics p.functions in
    let a = both (ordered && follows && main && objects && functions && within && places && singles) (is_sound p) h in
    let b = both (ordered && follows && main && objects && functions && within && places) singles a.0 in
    let c = both (ordered && follows && main && objects && functions && within) places b.0 in
    let d = both (ordered && follows && main && objects && functions) within c.0 in
    let e = both (ordered && follows && main && objects) functions d.0 in
    let f = both (ordered && follows && main) objects e.0 in
    let g = both (ordered && follows) main f.0 in
    let k = both ordered follows g.0 in
    let statics = ascends (map (λ (v : StaticTree). v.spot.at) p.statics) in
    let automatics = ascends (map (λ (a : AutomaticTree). a.spot.at) p.automatics) in
    let literals = ascends (map (λ (l : LiteralTree). l.spot.at) p.literals) in
    let l = both (statics && automatics) literals k.0 in
    let m = both statics automatics l.0 in
    let positions = ascends (map (λ (q : Place). q.spot.at) (places_of_program p)) in
    let lines = never_falls 1 (map (λ (q : Place). q.spot.line) (places_of_program p)) in
    let n = both positions lines c.1 in
    let o = both (nat_le (length p.functions) 256 && nat_le (weight_of p.functions) p.weight) (is_none (program_breach p)) d.1 in
    let q = both (nat_le (length p.functions) 256) (nat_le (weight_of p.functions) p.weight) o.0 in
    let r = both (arrays_are_kept p.automatics && are_static p p.statics && are_ended p.literals) (are_ended p.array_literals) f.1 in
    let s = both (arrays_are_kept p.automatics && are_static p p.statics) (are_ended p.literals) r.0 in
    let t = both (arrays_are_kept p.automatics) (are_static p p.statics) s.0 in
    let limits = limits_kept p o.1 in
    record {
      positions = n.0;
      lines = n.1;
      statics = m.0;
      automatics = m.1;
      literals = l.1;
      follow_all = k.1;
      main = g.1;
      arrays = t.0;
      few = at_most (length p.functions) 256 q.0;
      room = limits.0;
      visible = limits.1;
    }

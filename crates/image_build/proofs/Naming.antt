-- Names and sizes of a program that has them: each variable has a name, each array elements, and each literal bytes, for which 32 bits do.
use Rattle.std.proofs.Common.{◌≡◌, ◌≢◌, ℕ, zero, suc, ◌≤◌, subst, arith, nat_le, Bool, true, ◌&&◌, Some, List, [], ◌∷◌, length, slice_get}
use Rattle.std.proofs.lemmas.Bool.{leb-true, and_parts}
use Rattle.std.proofs.lemmas.Option.{none-some, same_Some}
use Rattle.c_tree.specs.declared.object_type.ObjectType.{ObjectType}
use Rattle.c_tree.specs.declared.object_type.ObjectType.TheVariants as type
use Rattle.c_tree.specs.Programs.{AutomaticTree, LiteralTree, StaticTree, ProgramTree}
use Rattle.c_type_laws.specs.Laws.{IsWellFormed}
use Rattle.c_type_laws.specs.Names.{has_elements, has_few_elements, is_name, literals_have_room, HasNames}
use Rattle.c_type_laws.specs.Objects.{is_kept_array}
use Rattle.c_type_laws.proofs.Named.{automatic_named, name_some, static_named}
use Rattle.graph_build_laws.proofs.Accepted.{facts_of}
use Rattle.image_truth_units.specs.Variables.{HasElements}

some_elements : (of : ObjectType) → has_elements of ≡ true → HasElements of
some_elements (type.Scalar s) h = tt
some_elements (type.Array element count) h = leb-true 1 count h

kept_elements : (in_memory : Bool) (of : ObjectType) → is_kept_array in_memory of ≡ true → HasElements of
kept_elements in_memory (type.Scalar s) h = tt
kept_elements in_memory (type.Array element count) h = leb-true 1 count (and_parts (nat_le 1 count) in_memory h).0

literal_there : (all : List LiteralTree) (n : ℕ) (l : LiteralTree) → literals_have_room all ≡ true → slice_get all n ≡ Some l → (1 ≤ length l.bytes) × (length l.bytes ≤ 1048576)
literal_there [] n l h is = absurd (none-some l is)
literal_there (x ∷ all) zero l h is =
    let here = and_parts (nat_le 1 (length x.bytes) && nat_le (length x.bytes) 1048576) (literals_have_room all) h in
    let both = and_parts (nat_le 1 (length x.bytes)) (nat_le (length x.bytes) 1048576) here.0 in
    subst (λ (z : LiteralTree). (1 ≤ length z.bytes) × (length z.bytes ≤ 1048576)) (same_Some x l is) (leb-true 1 (length x.bytes) both.0, leb-true (length x.bytes) 1048576 both.1)
literal_there (x ∷ all) (suc n) l h is = literal_there all n l (and_parts (nat_le 1 (length x.bytes) && nat_le (length x.bytes) 1048576) (literals_have_room all) h).1 is

module _ (p : ProgramTree) (formed : IsWellFormed p) (names : HasNames p) where
  -- A static variable has a name, and elements.
  pub static_law : (n : ℕ) (t : StaticTree) → slice_get p.statics n ≡ Some t → (t.name ≢ []) × HasElements t.of
  static_law n t is = let named = static_named p names n t is in (name_some t.name (and_parts (is_name t.name) (has_few_elements t.of) named.0).0, some_elements t.of named.1)

  -- So has an automatic one.
  pub automatic_law : (x : ℕ) (a : AutomaticTree) → slice_get p.automatics x ≡ Some a → (a.name ≢ []) × HasElements a.of
  automatic_law x a is =
      let named = automatic_named p names x a is in
      (name_some a.name (and_parts (is_name a.name) (has_few_elements a.of) named).0, kept_elements a.in_memory a.of ((facts_of p formed).arrays x a is))

  -- A literal has a byte at least, and fewer than 2 ^ 32.
  pub literal_law : (n : ℕ) (l : LiteralTree) → slice_get p.literals n ≡ Some l → (1 ≤ length l.bytes) × (length l.bytes ≤ 4294967295)
  literal_law n l is = let room = literal_there p.literals n l names.literals is in let few = room.1 in (room.0, omega (arith, few))

-- The types of declared objects: an array has elements.
use Rattle.std.proofs.Common.{◌≡◌, ℕ, suc, ◌+◌, ◌^◌, pos, max, List, length, nat_le, nat_lt, Bool, true, false, Option, Some, None, refl, arith}
use Rattle.std.specs.Prelude.{if◌then◌else◌}
use Rattle.debug_records.specs.declared.code.TheConstants.Code.{UNEXPECTED_KEYWORD}
use Rattle.debug_records.specs.declared.source.Spot.{Spot}
use Rattle.c_tree.specs.declared.extent.Extent.{Extent}
use Rattle.c_tree.specs.declared.object_type.Scalar.{Scalar}
use Rattle.c_tree.specs.declared.object_type.ObjectType.{ObjectType}
use Rattle.c_tree.specs.declared.object_type.ValueType.{ValueType}
use Rattle.c_tree.specs.declared.object_type.ValueType.TheVariants.{Integer}
use Rattle.c_tree.specs.Expressions.{ExpressionTree}
use Rattle.c_tree.specs.Declarations.{BracketsTree, Absent, Empty, Sized, InitializerTree, Value, Braces, DeclaratorTree}
use Rattle.c_tree.specs.Programs.{TypedFunctionTree, ProgramTree}
use Rattle.c_type_rules.specs.declared.constancy.Constancy.{Constancy}
use Rattle.c_type_rules.specs.declared.constancy.Constancy.TheVariants.{Known}
use Rattle.c_type_values.specs.Values.{ValueTree}
use Rattle.c_type_expressions.specs.Judgements.{array_count}
use Rattle.c_type_declarations.specs.Progress.{ProgressTree, means, value_met, breaks}
use Rattle.c_type_declarations.specs.Objects.{count, literal_for, initialized_count, implied_count, declared_count, count_or, sized_by, size_met, type_by, type_met}
use Rattle.c_type_laws.specs.Names.{has_few_elements}
use Rattle.c_source.specs.Constants.{HasNumbers}
use Rattle.c_source.specs.Findings.{HoldsOf}
use Rattle.c_source.specs.Values.{has_elements, IsTyped}
use Rattle.c_source.specs.Formed.{IsSizeFormed}
use Rattle.c_source.specs.Progress.{Ensures}
use Rattle.c_source.specs.Making.{Looks, MakesIfAny}
use Rattle.c_source.proofs.Judging.{le_true}
use Rattle.c_source.proofs.Coming.{next_ensures}
use Rattle.c_source.proofs.Looking.{looks_itself, looks_on, breaks_looks, value_makes}

-- a number of elements, one or more
abbrev pub IsSome : ℕ → Type 0
IsSome n = nat_le 1 n ≡ true

positive : (t : ValueType) (k : Constancy) → HoldsOf IsSome (array_count t k)
positive (Integer t) (Known (pos (suc n))) = le_true 1 (suc n) (omega arith)
positive _ _ = tt

initialized_some : (o : Option (Spot × List ℕ)) (i : InitializerTree) → IsSome (initialized_count o i)
initialized_some (Some l) i = le_true 1 (length l.1 + 1) (omega arith)
initialized_some None (Braces all) = le_true 1 (max (count all) 1) (omega arith)
initialized_some None (Value e) = refl

implied_some : (s : Scalar) (i : Option InitializerTree) → IsSome (implied_count s i)
implied_some s (Some i) = initialized_some (literal_for s i) i
implied_some s None = refl

module _ (p : ProgramTree) (f : TypedFunctionTree) (low : ℕ) where
  -- a check comes to a number of elements, which are one or more, and fewer than 2 ^ 32
  abbrev pub Counts : ProgressTree → ℕ → ProgressTree → Type 0
  Counts q n t = Looks p f low q t × IsSome n × (nat_lt n (2 ^ 32) ≡ true)

  -- and to the type of an object
  abbrev pub Types : ProgressTree → ObjectType → ProgressTree → Type 0
  Types q of t = Looks p f low q t × (has_elements of ≡ true) × (has_few_elements of ≡ true)

  counted_some : (n : ℕ) (extent : Extent) (q t : ProgressTree) → Looks p f low q t → IsSome n → Ensures (Counts q) (declared_count n extent t)
  counted_some n extent q t l h = by (nat_lt n (2 ^ 32)) refl
    where
      by : (b : Bool) → nat_lt n (2 ^ 32) ≡ b → Ensures (Counts q) (if b then means n t else means 1 (breaks UNEXPECTED_KEYWORD extent t))
      by true e = (l, h, e)
      by false e = (looks_on p f low l (breaks_looks p f low UNEXPECTED_KEYWORD extent t), refl, refl)

  or_some : (o : Option ℕ) (extent : Extent) (q t : ProgressTree) → Looks p f low q t → HoldsOf IsSome o → Ensures (Counts q) (count_or o extent t)
  or_some (Some n) extent q t l h = counted_some n extent q t l h
  or_some None extent q t l h = (looks_on p f low l (breaks_looks p f low UNEXPECTED_KEYWORD extent t), refl, refl)

  sized_some : (extent : Extent) (q : ProgressTree) (v : Option ValueTree) (t : ProgressTree) → Looks p f low q t → Ensures (Counts q) (sized_by extent v t)
  sized_some extent q (Some v) t l = or_some (array_count v.of v.constant) extent q t l (positive v.of v.constant)
  sized_some extent q None t l = (l, refl, refl)

  pub size_some : (extent : Extent) (e : ExpressionTree) (q : ProgressTree) → HasNumbers e → Ensures (Counts q) (size_met extent e q)
  size_some extent e q numbers = next_ensures (MakesIfAny p f low (IsTyped p f) q) (Counts q) (value_met e q) _ (value_makes p f low e q numbers) (λ v t h. sized_some extent q v t h.looks)

  -- the type of a declared object
  type_by_elements : (b : BracketsTree) (s : Scalar) (extent : Extent) (i : Option InitializerTree) (q : ProgressTree) → IsSizeFormed b → Ensures (Types q) (type_by b s extent i q)
  type_by_elements Absent s extent i q h = (looks_itself p f low q, refl, refl)
  type_by_elements Empty s extent i q h = next_ensures (Counts q) (Types q) (declared_count (implied_count s i) extent q) _ (counted_some (implied_count s i) extent q q (looks_itself p f low q) (implied_some s i)) (λ n t c. c)
  type_by_elements (Sized e) s extent i q h = next_ensures (Counts q) (Types q) (size_met extent e q) _ (size_some extent e q h) (λ n t c. c)

  pub type_elements : (s : Scalar) (d : DeclaratorTree) (q : ProgressTree) → IsSizeFormed d.brackets → Ensures (Types q) (type_met s d q)
  type_elements s d q h = type_by_elements d.brackets s d.extent d.initializer q h

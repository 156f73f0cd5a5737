-- What the initializers of static objects put into the objects fits them in an accepted source.
use Rattle.std.proofs.Common.{◌≡◌, ℕ, ◌+◌, List, [], length, Bool, true, false, Option, Some, None, refl, subst, arith}
use Rattle.std.specs.Prelude.{if◌then◌else◌}
use Rattle.std.specs.Option.{option_map_or}
use Rattle.debug_records.specs.declared.source.Spot.{Spot}
use Rattle.debug_records.specs.declared.code.TheConstants.Code.{INITIALIZER}
use Rattle.c_tree.specs.declared.extent.Extent.{Extent}
use Rattle.c_tree.specs.declared.object_type.Scalar.{Scalar}
use Rattle.c_tree.specs.declared.object_type.ObjectType.{ObjectType}
use Rattle.c_tree.specs.declared.object_type.ObjectType.TheVariants as object
use Rattle.c_tree.specs.Expressions.{ExpressionTree, Literal, Parenthesized}
use Rattle.c_tree.specs.Declarations.{InitializerTree, InitializerTrees, Value, Braces, none, first}
use Rattle.c_tree.specs.Programs.{TypedFunctionTree, ProgramTree}
use Rattle.c_type_rules.specs.declared.constancy.Constancy.{Constancy}
use Rattle.c_type_rules.specs.declared.constancy.Constancy.TheVariants.{Varies, Formed, Known, Address}
use Rattle.c_type_rules.specs.Types.{loaded_type}
use Rattle.c_type_values.specs.Values.{ValueTree}
use Rattle.c_type_declarations.specs.Progress.{ProgressTree, means}
use Rattle.c_type_declarations.specs.Objects.{is_plain_char, literal_in, only_in, literal_if_any, only_literal, literal_for, count}
use Rattle.c_type_declarations.specs.Initials.{scalar_met, within_count}
use Rattle.c_type_declarations.specs.Statics.{Contents, nothing, literal_bytes, constant_met, filled, fills_met, list_contents, put_met, contents_met}
use Rattle.c_type_laws.specs.Statics.{are_bytes}
use Rattle.c_source.specs.Constants.{HasNumbers}
use Rattle.c_source.specs.Findings.{HoldsOf}
use Rattle.c_source.specs.Formed.{IsInitializerFormed, AreInitializersFormed, IsInitialFormed}
use Rattle.c_source.specs.Progress.{Stands, Inside, Ensures}
use Rattle.c_source.specs.Making.{Looks, Makes, MakesIfAny, IsHeldIn}
use Rattle.c_source.specs.Storage.{Fills, Fits}
use Rattle.c_source.proofs.Constants.{varies_is}
use Rattle.c_source.proofs.Coming.{next_ensures, ensures_more, stands_before}
use Rattle.c_source.proofs.Looking.{looks_itself, looks_on, breaks_looks, misfit_looks, misfit_never, only_formed, scalar_makes}
use Rattle.c_source.proofs.Initialising.{within_looks, within_fits}
use Rattle.c_source.proofs.Storing.{nothing_fills, constant_fills, nothing_fits, scalar_fits, array_fits, literal_fits}

-- the literal that an expression is has bytes
literal_formed : (e : ExpressionTree) (l : Spot × List ℕ) → literal_in e ≡ Some l → HasNumbers e → are_bytes l.1 ≡ true
literal_formed (Literal extent bytes) l is h = let same : (extent.first, bytes) ≡ l = cc in subst (λ (x : Spot × List ℕ). are_bytes x.1 ≡ true) same h
literal_formed (Parenthesized extent e) l is h = literal_formed e l is h
literal_formed _ l is h = cc

-- a literal initialises arrays of `char` alone
char_by : (b : Bool) (o : Option (Spot × List ℕ)) (l : Spot × List ℕ) → (if b then o else None) ≡ Some l → (b ≡ true) × (o ≡ Some l)
char_by true o l e = (refl, e)
char_by false o l e = cc

module _ (p : ProgramTree) (f : TypedFunctionTree) (low : ℕ) where
  only_literal_formed : (i : InitializerTree) (l : Spot × List ℕ) → only_literal i ≡ Some l → IsInitializerFormed i → are_bytes l.1 ≡ true
  only_literal_formed (Value e) l is h = literal_formed e l is h
  only_literal_formed (Braces all) l is h = by (only_in all) refl is
    where
      by : (o : Option ExpressionTree) → only_in all ≡ o → literal_if_any o ≡ Some l → are_bytes l.1 ≡ true
      by (Some e) only is = literal_formed e l is (only_formed p f low all e only h)
      by None only is = cc

  constant_looks : (extent : Extent) (k : Constancy) (q : ProgressTree) → Looks p f low q (constant_met extent k q)
  constant_looks extent (Known z) q = looks_itself p f low q
  constant_looks extent (Address o at) q = looks_itself p f low q
  constant_looks extent Varies q = breaks_looks p f low INITIALIZER extent q
  constant_looks extent Formed q = breaks_looks p f low INITIALIZER extent q

  -- a scalar's value behind contents
  filled_makes : (s : Scalar) (extent : Extent) (v : Option ValueTree) (c : Contents) (q t : ProgressTree) (n : ℕ) → Looks p f low q t → (Inside p f low q → Stands p f t → HoldsOf (IsHeldIn p f s) v) → (Inside p f low q → Stands p f t → Fills p s n c)
      → Ensures (Makes p f low (Fills p s (n + 1)) q) (filled s extent v c t)
  filled_makes s extent (Some v) c q t n l h k =
      let on = constant_looks extent v.constant t in
      record { looks = looks_on p f low l on; holds = λ i e. let before = stands_before on.comes.advances e in let held = h i before in constant_fills p s n v.constant c (k i before) held.1 }
  filled_makes s extent None c q t n l h k = record { looks = l; holds = λ i e. constant_fills p s n Varies c (k i e) (varies_is p f (loaded_type s)) }

  -- initializers behind contents
  fills_make : (s : Scalar) (extent : Extent) (all : InitializerTrees) (c : Contents) (q t : ProgressTree) (n : ℕ) → AreInitializersFormed all → Looks p f low q t → (Inside p f low q → Stands p f t → Fills p s n c)
      → Ensures (Makes p f low (Fills p s (n + count all)) q) (fills_met s extent all c t)
  fills_make s extent none c q t n h l k = let e : n ≡ n + 0 = omega arith in record { looks = l; holds = λ i a. subst (λ (m : ℕ). Fills p s m c) e (k i a) }
  fills_make s extent (first i more) c q t n h l k =
      next_ensures (MakesIfAny p f low (IsHeldIn p f s) t) (Makes p f low (Fills p s (n + count (first i more))) q) (scalar_met s extent i t) _ (scalar_makes p f low s extent i t h.0)
      (λ v u made.
      next_ensures (Makes p f low (Fills p s (n + 1)) q) (Makes p f low (Fills p s (n + count (first i more))) q) (filled s extent v c u) (fills_met s extent more)
      (filled_makes s extent v c q u n (looks_on p f low l made.looks) (λ i e. made.holds (l.comes.inside i (stands_before made.looks.comes.advances e)) e) (λ i e. k i (stands_before made.looks.comes.advances e)))
      (λ d w one.
      ensures_more (Makes p f low (Fills p s ((n + 1) + count more)) q) (Makes p f low (Fills p s (n + count (first i more))) q) (fills_met s extent more d w) (fills_make s extent more d q w (n + 1) h.1 one.looks one.holds)
      (λ e x m. let same : (n + 1) + count more ≡ n + (count more + 1) = omega arith in record { looks = m.looks; holds = λ i a. subst (λ (z : ℕ). Fills p s z e) same (m.holds i a) })))

  -- a list in braces
  list_makes : (s : Scalar) (size : ℕ) (extent : Extent) (i : InitializerTree) (q : ProgressTree) → IsInitializerFormed i → Ensures (Makes p f low (Fits p (object.Array s size)) q) (list_contents s size extent i q)
  list_makes s size extent (Braces all) q h =
      let r = within_count (count all) size extent q in
      let looks = within_looks p f low (count all) size extent q in
      ensures_more (Makes p f low (Fills p s (0 + count all)) r) (Makes p f low (Fits p (object.Array s size)) q) (fills_met s extent all nothing r) (fills_make s extent all nothing r r 0 h (looks_itself p f low r) (λ i e. nothing_fills p s))
      (λ c t m.
      record {
        looks = looks_on p f low looks m.looks;
        holds = λ i e.
            let before = stands_before m.looks.comes.advances e in
            let same : 0 + count all ≡ count all = omega arith in
            array_fits p s size (count all) c (within_fits p f low (count all) size extent q before.accepts.faults) (subst (λ (z : ℕ). Fills p s z c) same (m.holds (looks.comes.inside i before) e));
      })
  list_makes s size extent (Value e) q h = record { looks = misfit_looks p f low extent e q h; holds = λ i stands. misfit_never p f low extent e q stands.accepts.faults }

  -- an initializer
  put_makes : (of : ObjectType) (extent : Extent) (i : InitializerTree) (q : ProgressTree) → IsInitializerFormed i → Ensures (Makes p f low (Fits p of) q) (put_met of extent i q)
  put_makes (object.Scalar s) extent i q h =
      next_ensures (MakesIfAny p f low (IsHeldIn p f s) q) (Makes p f low (Fits p (object.Scalar s)) q) (scalar_met s extent i q) _ (scalar_makes p f low s extent i q h)
      (λ v t made.
      ensures_more (Makes p f low (Fills p s 1) q) (Makes p f low (Fits p (object.Scalar s)) q) (filled s extent v nothing t) (filled_makes s extent v nothing q t 0 made.looks made.holds (λ i e. nothing_fills p s))
      (λ c u m. record { looks = m.looks; holds = λ i e. scalar_fits p s c (m.holds i e) }))
  put_makes (object.Array s size) extent i q h = by (literal_for s i) refl
    where
      by : (o : Option (Spot × List ℕ)) → literal_for s i ≡ o
          → Ensures (Makes p f low (Fits p (object.Array s size)) q) (option_map_or (λ l. means (record { bytes = literal_bytes size l.1; relocations = [] }) (within_count (length l.1) size extent q)) o (list_contents s size extent i q))
      by (Some l) is =
          let c = char_by (is_plain_char s) (only_literal i) l is in
          record { looks = within_looks p f low (length l.1) size extent q; holds = λ a e. literal_fits p s size l.1 c.0 (only_literal_formed i l c.1 h) }
      by None is = list_makes s size extent i q h

  pub contents_make : (of : ObjectType) (extent : Extent) (i : Option InitializerTree) (q : ProgressTree) → IsInitialFormed i → Ensures (Makes p f low (Fits p of) q) (contents_met of extent i q)
  contents_make of extent (Some i) q h = put_makes of extent i q h
  contents_make of extent None q h = record { looks = looks_itself p f low q; holds = λ i e. nothing_fits p of }

-- What the initializers of automatic objects write fits the objects.
use Rattle.std.proofs.Common.{◌≡◌, ℕ, ◌+◌, List, [], ◌∷◌, ◌++◌, length, slice_get, nat_le, nat_lt, Bool, true, false, Option, Some, None, refl, ap, ◌∙◌, arith, length-append}
use Rattle.std.specs.Prelude.{if◌then◌else◌, ◌==◌}
use Rattle.std.specs.Option.{option_map_or}
use Rattle.std.proofs.lemmas.Bool.Decides.{nat_tests}
use Rattle.debug_records.specs.declared.source.Spot.{Spot}
use Rattle.debug_records.specs.declared.code.TheConstants.Code.{INITIALIZER}
use Rattle.c_tree.specs.declared.extent.Extent.{Extent}
use Rattle.c_tree.specs.declared.types.IntegerType.TheVariants.{Char}
use Rattle.c_tree.specs.declared.object_type.Scalar.{Scalar}
use Rattle.c_tree.specs.declared.object_type.ObjectType.{ObjectType}
use Rattle.c_tree.specs.declared.object_type.ObjectType.TheVariants as object
use Rattle.c_tree.specs.Declarations.{InitializerTree, InitializerTrees, Value, Braces, none, first}
use Rattle.c_tree.specs.TypedExpressions.{RvalueTree}
use Rattle.c_tree.specs.TypedStatements.{InitialTree}
use Rattle.c_tree.specs.TypedStatements as typed-tree
use Rattle.c_tree.specs.Programs.{LiteralTree, TypedFunctionTree, ProgramTree}
use Rattle.c_type_rules.specs.Integers.{integer_size as size, scalar_size}
use Rattle.c_type_rules.specs.Types.{loaded_type, same_integer}
use Rattle.c_type_laws.specs.Kinds.{is_of}
use Rattle.c_type_laws.specs.Expressions.{kind_of}
use Rattle.c_type_laws.specs.Statements.{literal_fits, are_elements, initialises}
use Rattle.c_type_declarations.specs.Progress.{ProgressTree, breaks}
use Rattle.c_type_declarations.specs.Objects.{is_plain_char, only_literal, literal_for, count}
use Rattle.c_type_declarations.specs.Initials.{scalar_met, computed_tree, elements_met, within_count, with_array_literal, array_literal_met, list_met, written_met, initial_met}
use Rattle.c_source.specs.Formed.{IsInitializerFormed, AreInitializersFormed, IsInitialFormed}
use Rattle.c_source.specs.Progress.{Ensures}
use Rattle.c_source.specs.Making.{Looks, Makes, MakesIfAny, IsHeldIn}
use Rattle.c_source.proofs.Same.{two_true, both, integer_is}
use Rattle.c_source.proofs.Growing.{begins_itself, grows_itself, ended_push, ended_bytes, no_fault_before}
use Rattle.c_source.proofs.Judging.{at_end}
use Rattle.c_source.proofs.Coming.{next_ensures, stands_before, outer_itself}
use Rattle.c_source.proofs.Looking.{looks_itself, looks_on, breaks_looks, breaks_never, misfit_looks, misfit_never, scalar_makes, tree_held}
use Rattle.base_laws.proofs.Numbers.{at_least}

more_than : (a b : ℕ) → nat_le b a ≡ true → nat_le (b + 1) (a + 1) ≡ true
more_than a b h = grind (arith, nat_tests)

char_size : (s : Scalar) → is_plain_char s ≡ true → (scalar_size s == 1) ≡ true
char_size s h =
    let c = two_true (s.stars == 0) (same_integer s.base Char) h in
    ap (λ b. (if b then size s.base else 4) == 1) c.0 ∙ ap (λ t. size t == 1) (integer_is s.base Char c.1)

module _ (p : ProgramTree) (f : TypedFunctionTree) (low : ℕ) where
  -- there are no more initializers than elements
  pub within_looks : (given size : ℕ) (extent : Extent) (q : ProgressTree) → Looks p f low q (within_count given size extent q)
  within_looks given size extent q = by (nat_lt size given)
    where
      by : (b : Bool) → Looks p f low q (if b then breaks INITIALIZER extent q else q)
      by true = breaks_looks p f low INITIALIZER extent q
      by false = looks_itself p f low q

  pub within_fits : (given size : ℕ) (extent : Extent) (q : ProgressTree) → (within_count given size extent q).found.faults ≡ [] → nat_le given size ≡ true
  within_fits given size extent q h = by (nat_lt size given) refl h
    where
      by : (b : Bool) → nat_lt size given ≡ b → (if b then breaks INITIALIZER extent q else q).found.faults ≡ [] → nat_le given size ≡ true
      by true is h = breaks_never p f low INITIALIZER extent q h
      by false is h = at_least size given is

  -- initializers of elements
  abbrev Elements : ProgressTree → Scalar → ℕ → List RvalueTree → ProgressTree → Type 0
  Elements q s n vs t = Makes p f low (λ (all : List RvalueTree). are_elements p f s all ≡ true) q vs t × (length vs ≡ n)

  elements_make : (s : Scalar) (extent : Extent) (all : InitializerTrees) (q : ProgressTree) → AreInitializersFormed all → Ensures (Elements q s (count all)) (elements_met s extent all q)
  elements_make s extent none q h = (record { looks = looks_itself p f low q; holds = λ i e. refl }, refl)
  elements_make s extent (first i more) q h =
      next_ensures (MakesIfAny p f low (IsHeldIn p f s) q) (Elements q s (count (first i more))) (scalar_met s extent i q) _ (scalar_makes p f low s extent i q h.0)
      (λ v t one.
      next_ensures (Elements t s (count more)) (Elements q s (count (first i more))) (elements_met s extent more t) _ (elements_make s extent more t h.1)
      (λ vs u rest. (
        record {
          looks = looks_on p f low one.looks rest.0.looks;
          holds = λ i e.
              let before = stands_before rest.0.looks.comes.advances e in
              both (is_of (kind_of p f (computed_tree v)) (loaded_type s)) (are_elements p f s vs) (tree_held p f low s v (one.there before.accepts.faults) (one.holds i before)) (rest.0.holds (one.looks.comes.inside i before) e);
        },
        let n = rest.1 in omega arith,
      )))

  -- a literal that initialises an array
  literal_looks : (spot : Spot) (bytes : List ℕ) (q : ProgressTree) → Looks p f low q (with_array_literal spot bytes q)
  literal_looks spot bytes q =
      record {
        comes = record {
          advances = record {
            found = grows_itself q.found;
            automatics = begins_itself q.automatics;
            array_literals = (record { spot = spot; bytes = bytes ++ 0 ∷ [] } ∷ [], refl);
            statics = refl;
            signatures = refl;
            scopes = outer_itself q.names.scopes;
            kept = λ h. h;
            ended = λ h. ended_push q.array_literals (record { spot = spot; bytes = bytes ++ 0 ∷ [] }) h (ended_bytes bytes);
          };
          inside = λ i e. record { scopes = i.scopes; functions = i.functions; begun = i.begun };
        };
        same = refl;
        names = refl;
      }

  abbrev Writes : ProgressTree → ObjectType → InitialTree → ProgressTree → Type 0
  Writes q of i t = Makes p f low (λ (w : InitialTree). initialises p f of w ≡ true) q i t

  literal_fitting : (s : Scalar) (size : ℕ) (bytes : List ℕ) (o : Option LiteralTree) (l : LiteralTree) → o ≡ Some l → length l.bytes ≡ length bytes + 1 → is_plain_char s ≡ true → nat_le (length bytes) size ≡ true → literal_fits o s size ≡ true
  literal_fitting s size bytes o l is n char h = rw (is, n) (both (scalar_size s == 1) (nat_le (length bytes + 1) (size + 1)) (char_size s char) (more_than size (length bytes) h))

  array_literal_makes : (s : Scalar) (size : ℕ) (extent : Extent) (l : Spot × List ℕ) (q : ProgressTree) → is_plain_char s ≡ true → Ensures (Writes q (object.Array s size)) (array_literal_met size extent l q)
  array_literal_makes s size extent l q char =
      let r = within_count (length l.1) size extent q in
      let looks = looks_on p f low (within_looks (length l.1) size extent q) (literal_looks l.0 l.1 r) in
      record {
        looks = looks;
        holds = λ i e.
            let lit : LiteralTree = record { spot = l.0; bytes = l.1 ++ 0 ∷ [] } in
            let same = array_same (length l.1) size extent q in
            let at : slice_get p.array_literals (length q.array_literals) ≡ Some lit =
            ap (λ z. slice_get z (length q.array_literals)) (e.array_literals.1 ∙ ap (λ z. (z ++ lit ∷ []) ++ e.array_literals.0) same) ∙ at_end q.array_literals e.array_literals.0 lit in
            literal_fitting s size l.1 (slice_get p.array_literals (length q.array_literals)) lit at (length-append l.1 (0 ∷ [])) char (within_fits (length l.1) size extent q (no_fault_before (literal_looks l.0 l.1 r).comes.advances.found e.accepts.faults));
      }
    where
      array_same : (given size : ℕ) (extent : Extent) (q : ProgressTree) → (within_count given size extent q).array_literals ≡ q.array_literals
      array_same given size extent q = by (nat_lt size given)
        where
          by : (b : Bool) → (if b then breaks INITIALIZER extent q else q).array_literals ≡ q.array_literals
          by true = refl
          by false = refl

  -- a list in braces
  list_makes : (s : Scalar) (size : ℕ) (extent : Extent) (i : InitializerTree) (q : ProgressTree) → IsInitializerFormed i → Ensures (Writes q (object.Array s size)) (list_met s size extent i q)
  list_makes s size extent (Braces all) q h =
      let r = within_count (count all) size extent q in
      next_ensures (Elements r s (count all)) (Writes q (object.Array s size)) (elements_met s extent all r) _ (elements_make s extent all r h)
      (λ vs t made.
      record {
        looks = looks_on p f low (within_looks (count all) size extent q) made.0.looks;
        holds = λ i e.
            let before = stands_before made.0.looks.comes.advances e in
            both (nat_le (length vs) size) (are_elements p f s vs) (ap (λ n. nat_le n size) made.1 ∙ within_fits (count all) size extent q before.accepts.faults)
            (made.0.holds ((within_looks (count all) size extent q).comes.inside i before) e);
      })
  list_makes s size extent (Value e) q h = record { looks = misfit_looks p f low extent e q h; holds = λ i stands. misfit_never p f low extent e q stands.accepts.faults }

  -- what an initializer writes
  written_makes : (of : ObjectType) (extent : Extent) (i : InitializerTree) (q : ProgressTree) → IsInitializerFormed i → Ensures (Writes q of) (written_met of extent i q)
  written_makes (object.Scalar s) extent i q h =
      next_ensures (MakesIfAny p f low (IsHeldIn p f s) q) (Writes q (object.Scalar s)) (scalar_met s extent i q) _ (scalar_makes p f low s extent i q h)
      (λ v t made. record { looks = made.looks; holds = λ i e. tree_held p f low s v (made.there e.accepts.faults) (made.holds i e) })
  written_makes (object.Array s size) extent i q h = by (literal_for s i) refl
    where
      char_by : (b : Bool) (o : Option (Spot × List ℕ)) (l : Spot × List ℕ) → (if b then o else None) ≡ Some l → b ≡ true
      char_by true o l e = refl
      char_by false o l e = cc

      by : (o : Option (Spot × List ℕ)) → literal_for s i ≡ o → Ensures (Writes q (object.Array s size)) (option_map_or (λ l. array_literal_met size extent l q) o (list_met s size extent i q))
      by (Some l) is = array_literal_makes s size extent l q (char_by (is_plain_char s) (only_literal i) l is)
      by None is = list_makes s size extent i q h

  pub initial_makes : (of : ObjectType) (extent : Extent) (i : Option InitializerTree) (q : ProgressTree) → IsInitialFormed i → Ensures (Makes p f low (λ (w : InitialTree). initialises p f of w ≡ true) q) (initial_met of extent i q)
  initial_makes of extent (Some i) q h = written_makes of extent i q h
  initial_makes of extent None q h = record { looks = looks_itself p f low q; holds = λ i e. zero_fits of }
    where
      zero_fits : (of : ObjectType) → initialises p f of typed-tree.Zero ≡ true
      zero_fits (object.Scalar s) = refl
      zero_fits (object.Array s n) = refl

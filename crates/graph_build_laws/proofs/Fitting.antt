-- Statements of a well-formed program stand: their expressions are laid out, their variables are in order, and loops begin at places.
use Rattle.std.proofs.Common.{◌≡◌, ℕ, ◌+◌, ◌≤◌, Bool, true, false, not, Option, Some, None, List, [], ◌∷◌, ◌++◌, length, refl, arith}
use Rattle.std.specs.Prelude.{nat_le, nat_lt, slice_get}
use Rattle.std.proofs.lemmas.List.{length-append}
use Rattle.c_tree.specs.declared.types.IntegerType.{IntegerType}
use Rattle.c_tree.specs.declared.object_type.Scalar.{Scalar}
use Rattle.c_tree.specs.declared.object_type.ObjectType.{ObjectType}
use Rattle.c_tree.specs.declared.object_type.ObjectType.TheVariants as of-object
use Rattle.c_tree.specs.TypedExpressions.{RvalueTree}
use Rattle.c_tree.specs.TypedStatements as statement
use Rattle.c_tree.specs.TypedStatements.{InitialTree, Zero, Scalar as scalar-initial, Elements, Literal, DeclaredTree, TypedStartTree, Nothing, Value, Declares, StepTree, TypedStatementTree, Block, Declaration, Empty, Run, If, IfElse, While, DoWhile, For, Switch, Break, Continue, Return, TypedStatementTrees, case, default}
use Rattle.c_tree.specs.Programs.{AutomaticTree}
use Rattle.c_places.specs.Memory.{keeps, kept_values, kept_initial, kept_declared, kept_start, kept_option, kept_step, kept_by, kept_by_all}
use Rattle.c_places.specs.Places.{stop, brought, brought_by_start, places_of_head, places_of_step, places_of, places_of_all}
use Rattle.c_flow.specs.Flow.{start_place}
use Rattle.c_type_rules.specs.Types.{loaded_type}
use Rattle.c_type_laws.specs.Kind.{Kind, Wrong, NullPointer, Of}
use Rattle.c_type_laws.specs.Kinds.{is_of, is_typed, is_scalar}
use Rattle.c_type_laws.specs.Expressions.{kind_of}
use Rattle.c_type_laws.specs.Statements.{tested_type, is_label, is_switch, may_stand, is_void, same_spot, are_elements, initialises, declares_as, is_declared, are_declared, is_start, is_step, is_condition, is_returned, is_statement, are_statements}
use Rattle.c_type_laws.specs.Declarations.{declared_by, declared_by_start, declared_in, declared_in_all}
use Rattle.c_type_laws.specs.Plain.{is_body, is_plain, are_plain}
use Rattle.graph_build_laws.proofs.Targets.{AllFit, WayFits, fit_front, fit_back, start_fits}
use Rattle.graph_build_runs.proofs.Shapes.{typed_of, scalar_typed, two_true, three_true, four_true}
use Rattle.graph_build_runs.proofs.Activities.{Activity}
use Rattle.graph_build_runs.proofs.Outcomes.{There}
use Rattle.graph_build_runs.proofs.Formed.{IsPlain, ArePlain, behind_start, behind}
use Rattle.graph_build_runs.proofs.Forming.{LaidAt, LaidIn, StepFits}
use Rattle.graph_build_runs.proofs.DeclaratorKinds.{LaidAll, LaidInitial, DeclaratorStands}
use Rattle.graph_build_runs.proofs.Fitting.{DeclaratorsStand, StartStands, StatementStands, StatementsStand}
use Rattle.graph_build_laws.proofs.Kept.{InIt, front}
use Rattle.graph_build_laws.proofs.Declared.{AreNumbered, in_front, all_front, declared_next, in_longer, start_below, statement_below, values_front, declarators_front, option_front, step_front, kept_front, kept_all_front}

-- what may be a body is no declaration
body_plain : (s : TypedStatementTree) → is_body s ≡ true → IsPlain s
body_plain (Block all) h = tt
body_plain (Declaration all) h = cc
body_plain (Empty spot) h = tt
body_plain (Run spot e) h = tt
body_plain (If spot e s) h = tt
body_plain (IfElse spot e s r) h = tt
body_plain (While spot e s) h = tt
body_plain (DoWhile s spot e) h = tt
body_plain (For begin spot e step s) h = tt
body_plain (Switch spot e all) h = tt
body_plain (Break spot) h = tt
body_plain (Continue spot) h = tt
body_plain (Return spot e) h = tt

standing_plain : (t : IntegerType) (s : TypedStatementTree) → may_stand (Some t) s ≡ true → IsPlain s
standing_plain t (Block all) h = tt
standing_plain t (Declaration all) h = cc
standing_plain t (Empty spot) h = tt
standing_plain t (Run spot e) h = tt
standing_plain t (If spot e s) h = tt
standing_plain t (IfElse spot e s r) h = tt
standing_plain t (While spot e s) h = tt
standing_plain t (DoWhile s spot e) h = tt
standing_plain t (For begin spot e step s) h = tt
standing_plain t (Switch spot e all) h = tt
standing_plain t (Break spot) h = tt
standing_plain t (Continue spot) h = tt
standing_plain t (Return spot e) h = tt

switch_typed : (kind : Kind) → is_switch (tested_type kind) ≡ true → is_typed kind ≡ true
switch_typed Wrong h = cc
switch_typed NullPointer h = refl
switch_typed (Of t) h = refl

-- Declarators that are well typed, and whose initializers are laid out, stand.
abbrev pub DeclaratorsAre : Activity → Type 0
DeclaratorsAre k = (d : DeclaredTree) → is_declared k.setting.program k.setting.tree d ≡ true → LaidInitial k d.initial → DeclaratorStands k d

module _ (k : Activity) (laid_at : (e : RvalueTree) (ks : List ℕ) → is_typed (kind_of k.setting.program k.setting.tree e) ≡ true → InIt k.setting.program.automatics (keeps false e ks) → LaidAt k e) (stand : DeclaratorsAre k) (base : ℕ) where
  abbrev K : RvalueTree → Kind
  K e = kind_of k.setting.program k.setting.tree e

  abbrev M : List ℕ → Type 0
  M ks = InIt k.setting.program.automatics ks

  abbrev all : List AutomaticTree
  all = k.setting.program.automatics

  abbrev number : ℕ
  number = k.setting.function

  -- a place has its block
  abbrev Fits : ℕ → Type 0
  Fits at = There k (Some at)

  way_there : (o : Option ℕ) → WayFits number Fits o → There k o
  way_there None h = tt
  way_there (Some at) h = h

  elements_laid : (s : Scalar) (es : List RvalueTree) (ks : List ℕ) → are_elements k.setting.program k.setting.tree s es ≡ true → M (kept_values es ks) → LaidAll k es
  elements_laid s [] ks h m = tt
  elements_laid s (e ∷ more) ks h m =
      let b = two_true (is_of (K e) (loaded_type s)) (are_elements k.setting.program k.setting.tree s more) h in
      (laid_at e ks (typed_of (K e) (loaded_type s) b.0) (values_front all more (keeps false e ks) m), elements_laid s more (keeps false e ks) b.1 m)

  -- what a well-typed declarator writes is laid out
  initial_laid : (of : ObjectType) (i : InitialTree) (ks : List ℕ) → initialises k.setting.program k.setting.tree of i ≡ true → M (kept_initial i ks) → LaidInitial k i
  initial_laid of Zero ks h m = tt
  initial_laid (of-object.Scalar s) (scalar-initial e) ks h m = laid_at e ks (typed_of (K e) (loaded_type s) h) m
  initial_laid (of-object.Array s n) (scalar-initial e) ks h m = cc
  initial_laid (of-object.Scalar s) (Elements es) ks h m = cc
  initial_laid (of-object.Array s n) (Elements es) ks h m = elements_laid s es ks (two_true (nat_le (length es) n) (are_elements k.setting.program k.setting.tree s es) h).1 m
  initial_laid of (Literal n) ks h m = tt

  declared_laid : (d : DeclaredTree) (ks : List ℕ) (r : Option AutomaticTree) → declares_as k.setting.program k.setting.tree d r ≡ true → M (kept_initial d.initial ks) → LaidInitial k d.initial
  declared_laid d ks None h m = cc
  declared_laid d ks (Some a) h m = initial_laid a.of d.initial ks (two_true (same_spot d.spot a.spot) (initialises k.setting.program k.setting.tree a.of d.initial) h).1 m

  declarators_fit : (ds : List DeclaredTree) (vs ks : List ℕ) (low : ℕ) → low ≤ base + length vs → AreNumbered base (declared_by ds vs) → are_declared k.setting.program k.setting.tree ds ≡ true → M (kept_declared ds ks) → DeclaratorsStand k low ds
  declarators_fit [] vs ks low le n h m = tt
  declarators_fit (d ∷ more) vs ks low le n h m =
      let b = two_true (is_declared k.setting.program k.setting.tree d) (are_declared k.setting.program k.setting.tree more) h in
      let c = three_true (nat_le (k.setting.tree.first_variable + k.setting.tree.parameters) d.variable) (nat_lt d.variable (k.setting.tree.first_variable + k.setting.tree.variables)) (declares_as k.setting.program k.setting.tree d (slice_get k.setting.program.automatics d.variable)) b.0 in
      let next = declared_next base d more vs n in (
        omega (arith, le, next),
        stand d b.0 (declared_laid d ks (slice_get k.setting.program.automatics d.variable) c.2 (declarators_front all more (kept_initial d.initial ks) m)),
        declarators_fit more (vs ++ d.variable ∷ []) (kept_initial d.initial ks) (d.variable + 1) (omega (arith, next, length-append vs (d.variable ∷ []))) n b.1 m,
      )

  begin_fits : (begin : TypedStartTree) (vs ks : List ℕ) (low : ℕ) → low ≤ base + length vs → AreNumbered base (declared_by_start begin vs) → is_start k.setting.program k.setting.tree begin ≡ true → M (kept_start begin ks) → StartStands k low begin
  begin_fits Nothing vs ks low le n h m = tt
  begin_fits (Value spot e) vs ks low le n h m = laid_at e ks h m
  begin_fits (Declares ds) vs ks low le n h m = declarators_fit ds vs ks low le n h m

  condition_fits : (e : Option RvalueTree) (ks : List ℕ) → is_condition k.setting.program k.setting.tree e ≡ true → M (kept_option e ks) → LaidIn k e
  condition_fits None ks h m = tt
  condition_fits (Some e) ks h m = laid_at e ks (scalar_typed (K e) h) m

  step_fits : (p : Option StepTree) (ks : List ℕ) → is_step k.setting.program k.setting.tree p ≡ true → M (kept_step p ks) → StepFits k p
  step_fits None ks h m = tt
  step_fits (Some p) ks h m = laid_at p.value ks h m

  result_fits : (e : Option RvalueTree) (ks : List ℕ) → is_returned k.setting.program k.setting.tree e ≡ true → M (kept_option e ks) → LaidIn k e
  result_fits None ks h m = tt
  result_fits (Some e) ks h m = laid_at e ks (typed_of (K e) k.setting.tree.result (two_true (not (is_void k.setting.tree.result)) (is_of (K e) k.setting.tree.result) h).1) m

  -- no declaration stands directly in the block of a `switch`
  switch_plain : (b c : Bool) (o : Option IntegerType) (ss : TypedStatementTrees) → is_switch o ≡ true → are_statements k.setting.program k.setting.tree b c o ss ≡ true → ArePlain ss
  switch_plain b c None ss q h = cc
  switch_plain b c (Some t) statement.none q h = tt
  switch_plain b c (Some t) (statement.first s rest) q h =
      let d = three_true (may_stand (Some t) s) (is_statement k.setting.program k.setting.tree b c s) (are_statements k.setting.program k.setting.tree b c (Some t) rest) h in (standing_plain t s d.0, switch_plain b c (Some t) rest q d.2)
  switch_plain b c (Some t) (case z rest) q h = switch_plain b c (Some t) rest q (two_true (is_label (Some t) z) (are_statements k.setting.program k.setting.tree b c (Some t) rest) h).1
  switch_plain b c (Some t) (default rest) q h = switch_plain b c (Some t) rest q (two_true (is_switch (Some t)) (are_statements k.setting.program k.setting.tree b c (Some t) rest) h).1

  abbrev S : Bool → Bool → TypedStatementTree → Bool
  S b c s = is_statement k.setting.program k.setting.tree b c s

  mutual
    -- A statement stands,
    pub fits : (b c : Bool) (s : TypedStatementTree) (scope vs ks : List ℕ) (low : ℕ) → S b c s ≡ true → is_plain s ≡ true → low ≤ base + length vs → AreNumbered base (declared_in s vs) → M (kept_by s ks) → AllFit number Fits (places_of number scope s) → StatementStands k low s
    fits b c (Block ss) scope vs ks low h p le n m f = all_fit b c None ss scope vs ks low h p le n m f
    fits b c (Declaration ds) scope vs ks low h p le n m f = declarators_fit ds vs ks low le n h m
    fits b c (Empty spot) scope vs ks low h p le n m f = tt
    fits b c (Run spot e) scope vs ks low h p le n m f = laid_at e ks h m
    fits b c (If spot e s) scope vs ks low h p le n m f =
        let t = two_true (is_scalar (K e)) (S b c s) h in
        let q = two_true (is_body s) (is_plain s) p in
        (laid_at e ks (scalar_typed (K e) t.0) (kept_front all s (keeps false e ks) m), body_plain s q.0, fits b c s scope vs (keeps false e ks) low t.1 q.1 le n m f.1)
    fits b c (IfElse spot e s r) scope vs ks low h p le n m f =
        let t = three_true (is_scalar (K e)) (S b c s) (S b c r) h in
        let q = four_true (is_body s) (is_plain s) (is_body r) (is_plain r) p in
        let ks1 = keeps false e ks in
        let ks2 = kept_by s ks1 in
        let m1 = kept_front all r ks2 m in
        let ps = places_of number scope s in
        let pr = places_of number scope r in (
          laid_at e ks (scalar_typed (K e) t.0) (kept_front all s ks1 m1),
          body_plain s q.0,
          body_plain r q.2,
          fits b c s scope vs ks1 low t.1 q.1 le (in_front base r (declared_in s vs) n) m1 (fit_front number Fits ps pr f.1),
          fits b c r scope (declared_in s vs) ks2 low t.2 q.3 (omega (arith, le, in_longer s vs)) n m (fit_back number Fits ps pr f.1),
        )
    fits b c (While spot e s) scope vs ks low h p le n m f =
        let t = two_true (is_scalar (K e)) (S true true s) h in
        let q = two_true (is_body s) (is_plain s) p in
        (laid_at e ks (scalar_typed (K e) t.0) (kept_front all s (keeps false e ks) m), body_plain s q.0, fits true true s scope vs (keeps false e ks) low t.1 q.1 le n m f.1)
    fits b c (DoWhile s spot e) scope vs ks low h p le n m f =
        let t = two_true (is_scalar (K e)) (S true true s) h in
        let q = two_true (is_body s) (is_plain s) p in
        let ps = places_of number scope s in
        let own = stop number scope spot ∷ [] in
        let fs = fit_front number Fits ps own f in (
          laid_at e (kept_by s ks) (scalar_typed (K e) t.0) m,
          body_plain s q.0,
          fits true true s scope vs ks low t.1 q.1 le n (front all false e (kept_by s ks) m) fs,
          way_there (start_place s (Some spot.at)) (start_fits number Fits s scope (Some spot.at) fs (fit_back number Fits ps own f).0),
        )
    fits b c (For begin spot e step s) scope vs ks low h p le n m f =
        let t = four_true (is_start k.setting.program k.setting.tree begin) (is_condition k.setting.program k.setting.tree e) (is_step k.setting.program k.setting.tree step) (S true true s) h in
        let q = two_true (is_body s) (is_plain s) p in
        let ks1 = kept_start begin ks in
        let ks2 = kept_option e ks1 in
        let ks3 = kept_step step ks2 in
        let m3 = kept_front all s ks3 m in
        let m2 = step_front all step ks2 m3 in
        let m1 = option_front all e ks1 m2 in
        let vs1 = declared_by_start begin vs in
        let n1 = in_front base s vs1 n in
        let inside = scope ++ brought_by_start begin in
        let head = places_of_head number scope begin spot e ++ places_of_step number inside step in (
          begin_fits begin vs ks low le n1 t.0 m1,
          condition_fits e ks1 t.1 m2,
          step_fits step ks2 t.2 m3,
          body_plain s q.0,
          fits true true s inside vs1 ks3 (behind_start low begin) t.3 q.1 (start_below base begin vs low le n1) n m (fit_back number Fits head (places_of number inside s) f),
        )
    fits b c (Switch spot e ss) scope vs ks low h p le n m f =
        let o = tested_type (K e) in
        let t = two_true (is_switch o) (are_statements k.setting.program k.setting.tree true c o ss) h in
        (laid_at e ks (switch_typed (K e) t.0) (kept_all_front all ss (keeps false e ks) m), switch_plain true c o ss t.0 t.1, all_fit true c o ss scope vs (keeps false e ks) low t.1 p le n m f.1)
    fits b c (Break spot) scope vs ks low h p le n m f = tt
    fits b c (Continue spot) scope vs ks low h p le n m f = tt
    fits b c (Return spot e) scope vs ks low h p le n m f = result_fits e ks h m

    -- and so do statements in order.
    pub all_fit : (b c : Bool) (o : Option IntegerType) (ss : TypedStatementTrees) (scope vs ks : List ℕ) (low : ℕ) → are_statements k.setting.program k.setting.tree b c o ss ≡ true → are_plain ss ≡ true → low ≤ base + length vs → AreNumbered base (declared_in_all ss vs) → M (kept_by_all ss ks)
        → AllFit number Fits (places_of_all number scope ss) → StatementsStand k low ss
    all_fit b c o statement.none scope vs ks low h p le n m f = tt
    all_fit b c o (statement.first s rest) scope vs ks low h p le n m f =
        let t = three_true (may_stand o s) (S b c s) (are_statements k.setting.program k.setting.tree b c o rest) h in
        let q = two_true (is_plain s) (are_plain rest) p in
        let ps = places_of number scope s in
        let pr = places_of_all number (scope ++ brought s) rest in
        let n1 = all_front base rest (declared_in s vs) n in
        let ks1 = kept_by s ks in
        (fits b c s scope vs ks low t.1 q.0 le n1 (kept_all_front all rest ks1 m) (fit_front number Fits ps pr f), all_fit b c o rest (scope ++ brought s) (declared_in s vs) ks1 (behind low s) t.2 q.1 (statement_below base s vs low le n1) n m (fit_back number Fits ps pr f))
    all_fit b c o (case z rest) scope vs ks low h p le n m f = all_fit b c o rest scope vs ks low (two_true (is_label o z) (are_statements k.setting.program k.setting.tree b c o rest) h).1 p le n m f
    all_fit b c o (default rest) scope vs ks low h p le n m f = all_fit b c o rest scope vs ks low (two_true (is_switch o) (are_statements k.setting.program k.setting.tree b c o rest) h).1 p le n m f

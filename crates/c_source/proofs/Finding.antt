-- The literals that the check of an expression finds stand within the expression, in the order of the text.
use Rattle.std.proofs.Common.{◌≡◌, ℕ, ◌+◌, List, [], ◌∷◌, ◌++◌, length, Bool, true, false, Option, Some, None, refl, sym, ◌∙◌, subst, append_assoc, append-nil}
use Rattle.std.specs.Prelude.{if◌then◌else◌, ◌==◌}
use Rattle.debug_records.specs.declared.source.Spot.{Spot}
use Rattle.debug_records.specs.declared.code.Code.{Code}
use Rattle.debug_records.specs.declared.code.TheConstants.Code.{ARGUMENTS, OPERAND_TYPES, UNEXPECTED_KEYWORD}
use Rattle.c_tree.specs.declared.types.Base.{Base}
use Rattle.c_tree.specs.declared.types.Base.TheVariants as base
use Rattle.c_tree.specs.declared.types.IntegerType.{IntegerType}
use Rattle.c_tree.specs.declared.types.TypeName.{TypeName}
use Rattle.c_tree.specs.declared.operator.PrefixOperator.{PrefixOperator}
use Rattle.c_tree.specs.declared.operator.PrefixOperator.TheVariants as prefix
use Rattle.c_tree.specs.declared.operator.AssignmentOperator.{AssignmentOperator}
use Rattle.c_tree.specs.declared.operator.AssignmentOperator.TheVariants as assignment
use Rattle.c_tree.specs.declared.object_type.Scalar.{Scalar}
use Rattle.c_tree.specs.declared.object_type.ValueType.{ValueType}
use Rattle.c_tree.specs.declared.object_type.ValueType.TheVariants.{Void, Integer, Pointer}
use Rattle.c_tree.specs.declared.typed_expression.Callee.{Callee}
use Rattle.c_tree.specs.declared.typed_expression.Direction.{Direction}
use Rattle.c_tree.specs.declared.typed_expression.Given.{Given}
use Rattle.c_tree.specs.Ends.{first_spot, last_of}
use Rattle.c_tree.specs.Expressions.{ExpressionTree, Name, Constant, Literal, Parenthesized, Index, Call, PostIncrement, PostDecrement, Prefix, Cast, SizeofExpression, SizeofType, SizeofArray, Binary, Conditional, Assignment, Comma, ExpressionTrees}
use Rattle.c_tree.specs.Expressions as tree
use Rattle.c_type_values.specs.Values.{ValueTree, MeantTree, IsValue, meant_type}
use Rattle.c_type_values.specs.Operations.{is_scalar}
use Rattle.c_type_values.specs.Writing.{is_modifiable, is_updatable, stepped}
use Rattle.c_type_expressions.specs.declared.names.Meaning.{Meaning}
use Rattle.c_type_expressions.specs.declared.names.Meaning.TheVariants.{Variable, Function, EndOfFile}
use Rattle.c_type_expressions.specs.Names.{Names, SignatureTree, meaning_of}
use Rattle.c_type_expressions.specs.Findings.{FoundTree, Checked, gives, check_next, with_one, with_two, with_three, judged, faulted, restored, with_literal}
use Rattle.c_type_expressions.specs.Judgements.{Meant, valued, meaning_of_name, writing, stepping, prefixed, cast_from, cast_to, cast_meaning, measured, assigning, assignable, assignment_by, Passed, uncallable, noted, called}
use Rattle.c_type_expressions.specs.Expressions.{function_named, is_zero, call_meaning, typed, typed_all}
use Rattle.c_source.specs.TextOrder.{spots_of, spots_of_all}
use Rattle.c_source.proofs.Parts.{IsPart, part_none, part_all, part_first, part_last, part_with}
use Rattle.c_source.proofs.Adding.{Adds, adds_none, adds_on, adds_more, adds_taken, literal_spot}

-- the first token of an expression is the first of its spots
pub begins_with : (e : ExpressionTree) → IsPart (first_spot e ∷ []) (spots_of e)
begins_with (Name n) = part_all (n.spot ∷ [])
begins_with (Constant spot value type) = part_all (spot ∷ [])
begins_with (Literal extent bytes) = part_all (extent.first ∷ [])
begins_with (Parenthesized extent e) = part_with extent.first [] (spots_of e) (part_none (spots_of e))
begins_with (Index e i last) = part_first (first_spot e ∷ []) (spots_of e) (spots_of i) (begins_with e)
begins_with (Call e all last) = part_first (first_spot e ∷ []) (spots_of e) (spots_of_all all) (begins_with e)
begins_with (PostIncrement e last) = begins_with e
begins_with (PostDecrement e last) = begins_with e
begins_with (Prefix spot o e) = part_with spot [] (spots_of e) (part_none (spots_of e))
begins_with (Cast spot to e) = part_with spot [] (spots_of e) (part_none (spots_of e))
begins_with (SizeofExpression spot e) = part_with spot [] (spots_of e) (part_none (spots_of e))
begins_with (SizeofType extent type stars) = part_all (extent.first ∷ [])
begins_with (SizeofArray extent type stars e) = part_with extent.first [] (spots_of e) (part_none (spots_of e))
begins_with (Binary o a b) = part_first (first_spot a ∷ []) (spots_of a) (spots_of b) (begins_with a)
begins_with (Conditional c a b) = part_first (first_spot c ∷ []) (spots_of c ++ spots_of a) (spots_of b) (part_first (first_spot c ∷ []) (spots_of c) (spots_of a) (begins_with c))
begins_with (Assignment o a b) = part_first (first_spot a ∷ []) (spots_of a) (spots_of b) (begins_with a)
begins_with (Comma a b) = part_first (first_spot a ∷ []) (spots_of a) (spots_of b) (begins_with a)

-- literals are found within these spots
abbrev pub Finds : List Spot → FoundTree → FoundTree → Type 0
Finds whole s t = Adds literal_spot s.literals t.literals whole

-- so does a check
abbrev pub FindsIn : {A : Type 0} → List Spot → FoundTree → Checked A → Type 0
FindsIn whole s (gives a t) = Finds whole s t

finds_none : (whole : List Spot) (s t : FoundTree) → t.literals ≡ s.literals → Finds whole s t
finds_none whole s t h = adds_none literal_spot s.literals t.literals whole h

finds_itself : (whole : List Spot) (s : FoundTree) → Finds whole s s
finds_itself whole s = finds_none whole s s refl

-- a check, and another one behind it
finds_next : {A B : Type 0} (whole others : List Spot) (s : FoundTree) (q : Checked A) (g : A → FoundTree → Checked B) → FindsIn whole s q → ((a : A) (t : FoundTree) → FindsIn others t (g a t)) → FindsIn (whole ++ others) s (check_next q g)
finds_next {A} {B} whole others s (gives a t) g h k = by (g a t) (k a t)
  where
    by : (r : Checked B) → FindsIn others t r → FindsIn (whole ++ others) s r
    by (gives b u) j = adds_on literal_spot s.literals t.literals u.literals whole others h j

-- another one behind it that finds nothing
finds_then : {A B : Type 0} (whole : List Spot) (s : FoundTree) (q : Checked A) (g : A → FoundTree → Checked B) → FindsIn whole s q → ((a : A) (t : FoundTree) → FindsIn [] t (g a t)) → FindsIn whole s (check_next q g)
finds_then whole s q g h k = subst (λ z. FindsIn z s (check_next q g)) (append-nil whole) (finds_next whole [] s q g h k)

finds_more : {A : Type 0} (whole all : List Spot) (s : FoundTree) (q : Checked A) → IsPart whole all → FindsIn whole s q → FindsIn all s q
finds_more whole all s (gives a t) h k = adds_more literal_spot s.literals t.literals whole all h k

finds_inside : {A : Type 0} (x : Spot) (whole : List Spot) (s : FoundTree) (q : Checked A) → FindsIn whole s q → FindsIn (x ∷ whole) s q
finds_inside x whole s q h = finds_more whole (x ∷ whole) s q (part_last whole (x ∷ []) whole (part_all whole)) h

finds_from : {A : Type 0} (s r : FoundTree) (q : Checked A) → r.literals ≡ s.literals → FindsIn [] r q → FindsIn [] s q
finds_from s r (gives a t) e h = subst (λ z. Adds literal_spot z t.literals []) e h

pub finds_valued : (whole : List Spot) (s : FoundTree) (q : Meant) → FindsIn whole s q → FindsIn whole s (valued q)
finds_valued whole s (gives m t) h = h

finds_one : {A B : Type 0} (whole : List Spot) (m : Option A) (g : A → FoundTree → Checked (Option B)) (s : FoundTree) → ((a : A) → FindsIn whole s (g a s)) → FindsIn whole s (with_one m g s)
finds_one whole None g s h = finds_itself whole s
finds_one whole (Some a) g s h = h a

finds_two : {A B C : Type 0} (whole : List Spot) (m : Option A) (n : Option B) (g : A → B → FoundTree → Checked (Option C)) (s : FoundTree) → ((a : A) (b : B) → FindsIn whole s (g a b s)) → FindsIn whole s (with_two m n g s)
finds_two whole None None g s h = finds_itself whole s
finds_two whole None (Some b) g s h = finds_itself whole s
finds_two whole (Some a) None g s h = finds_itself whole s
finds_two whole (Some a) (Some b) g s h = h a b

finds_three : {A B C D : Type 0} (whole : List Spot) (l : Option A) (m : Option B) (n : Option C) (g : A → B → C → FoundTree → Checked (Option D)) (s : FoundTree) → ((a : A) (b : B) (c : C) → FindsIn whole s (g a b c s)) → FindsIn whole s (with_three l m n g s)
finds_three whole None m n g s h = lost
  where
    lost : FindsIn whole s (with_three None m n g s)
    lost = finds_itself whole s
finds_three whole (Some a) None n g s h = lost
  where
    lost : FindsIn whole s (with_three (Some a) None n g s)
    lost = finds_itself whole s
finds_three whole (Some a) (Some b) None g s h = finds_itself whole s
finds_three whole (Some a) (Some b) (Some c) g s h = h a b c

finds_judged : {A : Type 0} (whole : List Spot) (o : Option A) (code : Code) (first : Spot) (last : ℕ) (s : FoundTree) → FindsIn whole s (judged o code first last s)
finds_judged whole None code first last s = finds_itself whole s
finds_judged whole (Some a) code first last s = finds_itself whole s

-- what rules find: no literal
writing_same : (fine : Bool) (first : Spot) (last : ℕ) (s : FoundTree) → (writing fine first last s).literals ≡ s.literals
writing_same true first last s = refl
writing_same false first last s = refl

faulted_same : (fine : Bool) (code : Code) (first : Spot) (last : ℕ) (s : FoundTree) → (if fine then s else faulted code first last s).literals ≡ s.literals
faulted_same true code first last s = refl
faulted_same false code first last s = refl

noted_same : (c : Option Callee) (first : Spot) (s : FoundTree) → (noted c first s).literals ≡ s.literals
noted_same (Some c) first s = refl
noted_same None first s = refl

finds_stepping : (whole : List Spot) (d : Direction) (g : Given) (first : Spot) (last : ℕ) (m : MeantTree) (s : FoundTree) → FindsIn whole s (stepping d g first last m s)
finds_stepping whole d g first last m s = by (is_scalar (meant_type m))
  where
    by : (b : Bool) → FindsIn whole s (if b then gives (Some (IsValue (stepped d g m))) (writing (is_modifiable m) first last s) else gives None (faulted OPERAND_TYPES first last s))
    by true = finds_none whole s (writing (is_modifiable m) first last s) (writing_same (is_modifiable m) first last s)
    by false = finds_itself whole s

finds_prefixed : (whole : List Spot) (o : PrefixOperator) (first : Spot) (last : ℕ) (m : MeantTree) (s : FoundTree) → FindsIn whole s (prefixed o first last m s)
finds_prefixed whole prefix.AddressOf first last m s = finds_judged whole _ _ first last s
finds_prefixed whole prefix.Indirection first last m s = finds_judged whole _ _ first last s
finds_prefixed whole prefix.Plus first last m s = finds_judged whole _ _ first last s
finds_prefixed whole prefix.Minus first last m s = finds_judged whole _ _ first last s
finds_prefixed whole prefix.Complement first last m s = finds_judged whole _ _ first last s
finds_prefixed whole prefix.Not first last m s = finds_judged whole _ _ first last s
finds_prefixed whole prefix.Increment first last m s = finds_stepping whole _ _ first last m s
finds_prefixed whole prefix.Decrement first last m s = finds_stepping whole _ _ first last m s

finds_cast_from : (whole : List Spot) (of : ValueType) (t : IntegerType) (first : Spot) (last : ℕ) (v : ValueTree) (s : FoundTree) → FindsIn whole s (cast_from of t first last v s)
finds_cast_from whole (Integer u) t first last v s = finds_itself whole s
finds_cast_from whole (Pointer of) t first last v s = finds_itself whole s
finds_cast_from whole Void t first last v s = finds_itself whole s

finds_cast_to : (whole : List Spot) (b : Base) (first : Spot) (last : ℕ) (v : ValueTree) (s : FoundTree) → FindsIn whole s (cast_to b first last v s)
finds_cast_to whole base.Void first last v s = finds_itself whole s
finds_cast_to whole (base.Integer t) first last v s = finds_cast_from whole v.of t first last v s

finds_cast : (whole : List Spot) (to : TypeName) (first : Spot) (last : ℕ) (v : Option ValueTree) (s : FoundTree) → FindsIn whole s (cast_meaning to first last v s)
finds_cast whole to first last v s = by (to.stars == 0)
  where
    by : (b : Bool) → FindsIn whole s (if b then with_one v (cast_to to.base first last) s else gives None (faulted UNEXPECTED_KEYWORD first last s))
    by true = finds_one whole v (cast_to to.base first last) s (λ a. finds_cast_to whole to.base first last a s)
    by false = finds_itself whole s

finds_assigning : (whole : List Spot) (o : Option ValueTree) (first : Spot) (last : ℕ) (m : MeantTree) (s : FoundTree) → FindsIn whole s (assigning o first last m s)
finds_assigning whole (Some v) first last m s = finds_none whole s (writing (is_modifiable m) first last s) (writing_same (is_modifiable m) first last s)
finds_assigning whole None first last m s =
    let t = faulted OPERAND_TYPES first last s in finds_none whole s (writing (is_modifiable m) first last t) (writing_same (is_modifiable m) first last t)

finds_assignment : (whole : List Spot) (o : AssignmentOperator) (zero : Bool) (first : Spot) (last : ℕ) (m : MeantTree) (v : ValueTree) (s : FoundTree) → FindsIn whole s (assignment_by o zero first last m v s)
finds_assignment whole assignment.Assign zero first last m v s = finds_assigning whole (assignable (meant_type m) v zero) first last m s
finds_assignment whole (assignment.With o) zero first last m v s =
    let fine = is_updatable o (meant_type m) v.of in
    let t = if fine then s else faulted OPERAND_TYPES first last s in
    finds_none whole s (writing (is_modifiable m) first last t) (writing_same (is_modifiable m) first last t ∙ faulted_same fine OPERAND_TYPES first last s)

finds_named : (whole : List Spot) (m : Option Meaning) (spot : Spot) (s : FoundTree) → FindsIn whole s (meaning_of_name m spot s)
finds_named whole (Some (Variable object of)) spot s = finds_itself whole s
finds_named whole (Some EndOfFile) spot s = finds_itself whole s
finds_named whole (Some (Function k)) spot s = finds_itself whole s
finds_named whole None spot s = finds_itself whole s

finds_uncallable : (whole : List Spot) (first : Spot) (last : ℕ) (v : Option ValueTree) (s : FoundTree) → FindsIn whole s (uncallable first last v s)
finds_uncallable whole first last (Some v) s = finds_itself whole s
finds_uncallable whole first last None s = finds_itself whole s

-- a literal
finds_literal : (first : Spot) (bytes : List ℕ) (s : FoundTree) → Finds (first ∷ []) s (with_literal first bytes s)
finds_literal first bytes s = record { more = record { spot = first; bytes = bytes ++ 0 ∷ [] } ∷ []; is = refl; part = part_all (first ∷ []) }

-- a call
finds_call : (whole others : List Spot) (g : Option SignatureTree) (operand : Checked (Option ValueTree)) (arguments : List Scalar → ℕ → FoundTree → Checked Passed) (first : Spot) (last : ℕ) (s : FoundTree)
    → FindsIn whole s operand → ((types : List Scalar) (at : ℕ) (t : FoundTree) → FindsIn others t (arguments types at t)) → FindsIn (whole ++ others) s (call_meaning g operand arguments first last s)
finds_call whole others (Some g) operand arguments first last s h k =
    finds_more others (whole ++ others) s (check_next (arguments g.parameters 0 (noted g.callee first s)) (called g first last)) (part_last others whole others (part_all others))
    (finds_then others s (arguments g.parameters 0 (noted g.callee first s)) (called g first last)
    (by (noted g.callee first s) (arguments g.parameters 0 (noted g.callee first s)) (noted_same g.callee first s) (k g.parameters 0 (noted g.callee first s)))
    (λ q t. finds_none [] t (if q.fit then t else faulted ARGUMENTS first last t) (faulted_same q.fit ARGUMENTS first last t)))
  where
    by : (t : FoundTree) (q : Checked Passed) → t.literals ≡ s.literals → FindsIn others t q → FindsIn others s q
    by t (gives a u) e j = subst (λ z. Adds literal_spot z u.literals others) e j
finds_call whole others None operand arguments first last s h k =
    finds_next whole others s operand (λ f t. check_next (arguments [] 0 t) (λ q. uncallable first last f)) h
    (λ f t. finds_then others t (arguments [] 0 t) (λ q. uncallable first last f) (k [] 0 t) (λ q u. finds_uncallable [] first last f u))

module _ (names : Names) where
  mutual
    -- The check of an expression finds literals within it.
    pub typed_finds : (e : ExpressionTree) (s : FoundTree) → FindsIn (spots_of e) s (typed names e s)
    typed_finds (Name n) s = finds_named (n.spot ∷ []) (meaning_of names n.name) n.spot s
    typed_finds (Constant spot value type) s = finds_itself (spot ∷ []) s
    typed_finds (Literal extent bytes) s = finds_literal extent.first bytes s
    typed_finds (Parenthesized extent e) s = finds_more (spots_of e) (extent.first ∷ spots_of e) s (typed names e s) (part_last (spots_of e) (extent.first ∷ []) (spots_of e) (part_all (spots_of e))) (typed_finds e s)
    typed_finds (Index e i last) s =
        finds_next (spots_of e) (spots_of i) s (valued (typed names e s)) _ (finds_valued (spots_of e) s (typed names e s) (typed_finds e s))
        (λ a t.
        finds_then (spots_of i) t (valued (typed names i t)) _ (finds_valued (spots_of i) t (typed names i t) (typed_finds i t)) (λ b u. finds_two [] a b _ u (λ v w. finds_judged [] _ _ (first_spot e) last u)))
    typed_finds (Call e all last) s =
        finds_call (spots_of e) (spots_of_all all) (function_named names e) (valued (typed names e s)) (typed_all names all) (first_spot e) last s (finds_valued (spots_of e) s (typed names e s) (typed_finds e s)) (λ types at t. all_find all types at t)
    typed_finds (PostIncrement e last) s = finds_then (spots_of e) s (typed names e s) _ (typed_finds e s) (λ a t. finds_one [] a _ t (λ m. finds_stepping [] _ _ (first_spot e) last m t))
    typed_finds (PostDecrement e last) s = finds_then (spots_of e) s (typed names e s) _ (typed_finds e s) (λ a t. finds_one [] a _ t (λ m. finds_stepping [] _ _ (first_spot e) last m t))
    typed_finds (Prefix spot o e) s =
        finds_inside spot (spots_of e) s _ (finds_then (spots_of e) s (typed names e s) _ (typed_finds e s) (λ a t. finds_one [] a _ t (λ m. finds_prefixed [] o spot (last_of e) m t)))
    typed_finds (Cast spot to e) s =
        finds_inside spot (spots_of e) s _ (finds_then (spots_of e) s (valued (typed names e s)) _ (finds_valued (spots_of e) s (typed names e s) (typed_finds e s)) (λ a t. finds_cast [] to spot (last_of e) a t))
    typed_finds (SizeofExpression spot e) s = by (typed names e s) (typed_finds e s)
      where
        by : (q : Meant) → FindsIn (spots_of e) s q → FindsIn (spot ∷ spots_of e) s (check_next q (λ a t. with_one a (measured spot (last_of e)) (restored (length s.undefined) (length s.literals) t)))
        by (gives a t) h =
            let r = restored (length s.undefined) (length s.literals) t in
            finds_more [] (spot ∷ spots_of e) s (with_one a (measured spot (last_of e)) r) (part_none (spot ∷ spots_of e))
            (finds_from s r (with_one a (measured spot (last_of e)) r) (adds_taken literal_spot s.literals t.literals (spots_of e) h) (finds_one [] a (measured spot (last_of e)) r (λ m. finds_judged [] _ _ spot (last_of e) r)))
    typed_finds (SizeofType extent type stars) s = finds_itself (extent.first ∷ []) s
    typed_finds (SizeofArray extent type stars e) s =
        finds_inside extent.first (spots_of e) s _ (finds_then (spots_of e) s (valued (typed names e s)) _ (finds_valued (spots_of e) s (typed names e s) (typed_finds e s)) (λ a t. finds_one [] a _ t (λ v. finds_judged [] _ _ extent.first extent.last t)))
    typed_finds (Binary o a b) s =
        finds_next (spots_of a) (spots_of b) s (valued (typed names a s)) _ (finds_valued (spots_of a) s (typed names a s) (typed_finds a s))
        (λ x t.
        finds_then (spots_of b) t (valued (typed names b t)) _ (finds_valued (spots_of b) t (typed names b t) (typed_finds b t)) (λ y u. finds_two [] x y _ u (λ v w. finds_judged [] _ _ (first_spot a) (last_of b) u)))
    typed_finds (Conditional c a b) s =
        subst (λ z. FindsIn z s (typed names (Conditional c a b) s)) (sym (append_assoc (spots_of c) (spots_of a) (spots_of b)))
        (finds_next (spots_of c) (spots_of a ++ spots_of b) s (valued (typed names c s)) _ (finds_valued (spots_of c) s (typed names c s) (typed_finds c s))
        (λ x t.
        finds_next (spots_of a) (spots_of b) t (valued (typed names a t)) _ (finds_valued (spots_of a) t (typed names a t) (typed_finds a t))
        (λ y u.
        finds_then (spots_of b) u (valued (typed names b u)) _ (finds_valued (spots_of b) u (typed names b u) (typed_finds b u)) (λ z v. finds_three [] x y z _ v (λ k l m. finds_judged [] _ _ (first_spot c) (last_of b) v)))))
    typed_finds (Assignment o a b) s =
        finds_next (spots_of a) (spots_of b) s (typed names a s) _ (typed_finds a s)
        (λ x t.
        finds_then (spots_of b) t (valued (typed names b t)) _ (finds_valued (spots_of b) t (typed names b t) (typed_finds b t))
        (λ y u. finds_two [] x y _ u (λ v w. finds_assignment [] o (is_zero b) (first_spot a) (last_of b) v w u)))
    typed_finds (Comma a b) s =
        finds_next (spots_of a) (spots_of b) s (valued (typed names a s)) _ (finds_valued (spots_of a) s (typed names a s) (typed_finds a s))
        (λ x t. finds_then (spots_of b) t (valued (typed names b t)) _ (finds_valued (spots_of b) t (typed names b t) (typed_finds b t)) (λ y u. finds_two [] x y _ u (λ v w. finds_itself [] u)))

    -- so does that of arguments
    all_find : (all : ExpressionTrees) (types : List Scalar) (at : ℕ) (s : FoundTree) → FindsIn (spots_of_all all) s (typed_all names all types at s)
    all_find tree.none types at s = finds_itself [] s
    all_find (tree.first e rest) types at s =
        finds_next (spots_of e) (spots_of_all rest) s (valued (typed names e s)) _ (finds_valued (spots_of e) s (typed names e s) (typed_finds e s))
        (λ v t. finds_then (spots_of_all rest) t (typed_all names rest types (at + 1) t) _ (all_find rest types (at + 1) t) (λ q u. finds_itself [] u))

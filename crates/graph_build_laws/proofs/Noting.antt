-- An expression that surely writes a scalar notes it on each way through its code.
use Rattle.std.proofs.Common.{◌≡◌, ◌⊎◌, inl, inr, ℕ, ◌+◌, Bool, true, false, Option, Some, None, List, [], ◌∷◌, slice_get, refl, sym, ◌∙◌, subst, length, arith, ◌==◌, if◌then◌else◌}
use Rattle.std.specs.Prelude.{not, ◌||◌}
use Rattle.std.proofs.lemmas.Bool.Decides.{nat_tests}
use Rattle.c_tree.specs.declared.types.IntegerType.{IntegerType}
use Rattle.c_tree.specs.declared.object_type.Scalar.{Scalar}
use Rattle.c_tree.specs.declared.typed_expression.Sign.TheVariants.{Plus, Minus, Complement}
use Rattle.c_tree.specs.declared.typed_expression.Direction.TheVariants.{Up}
use Rattle.c_tree.specs.declared.typed_expression.Given.{Given}
use Rattle.c_tree.specs.declared.typed_expression.Given.TheVariants.{New, Old}
use Rattle.c_tree.specs.TypedExpressions.{RvalueTree, LvalueTree, ArgumentTrees, Constant, Null, Load, Decay, AddressOf, Convert, Discard, Signed, Not, Arithmetic, Compare, ComparePointers, Move, MoveFrom, Difference, And, Or, Conditional, Comma, Assign, Update, UpdatePointer, Step, StepPointer, Call, Named, Target, Element, ElementFrom, none, first}
use Rattle.c_type_rules.specs.Integers.{object_size}
use Rattle.c_type_rules.specs.ValueTypes.{type_of, given_by, is_void, is_pointer, integer_in}
use Rattle.word_base.specs.declared.operation.Operation.TheVariants as operation
use Rattle.graph_core.specs.Graphs as unit
use Rattle.graph_core.specs.Graphs.{Operand, Instruction, Operate, Truncate, Same, Note, Is, Of, Block, End, Jump, Branch, Return}
use Rattle.graph_build_names.specs.Conversions.{keeps_bits, is_kept_constant}
use Rattle.graph_build_names.specs.Operands.{held, operand_at}
use Rattle.graph_build_layout.specs.declared.laid.Use.TheVariants.{Anywhere, Nothing, Tested}
use Rattle.graph_build_names.specs.Names.{Names, scalar_named, pick}
use Rattle.graph_build_names.specs.Writes.{writes, writes_within, writes_any, names_it, is_that, is_moved, is_location_moved}
use Rattle.graph_build_layout.specs.Laid.{Laid, Pair, pair, behind_move, behind_own, use_for}
use Rattle.graph_build_layout.specs.Layout.{laid, place_laid, passed_laid}
use Rattle.graph_build_steps.specs.Rules.{element_of, truncation_to, steps_by}
use Rattle.graph_build_steps.specs.Drafts.{Made, Goal, To, Unused, Either, use_of, instruction_before, ending, leaf, label_of, with_inner_block, forked, valued, used, operated, move_if, hold_location, noted, note, use_old, behind_old}
use Rattle.graph_build_steps.specs.Drafts as drafts
use Rattle.graph_build_steps.specs.declared.site.Two as declared-two
use Rattle.graph_build_steps.specs.declared.site.Two.TheVariants as two
use Rattle.graph_build_steps.specs.declared.change.Change as declared-change
use Rattle.graph_build_steps.specs.declared.change.Change.TheVariants as change
use Rattle.graph_build_steps.specs.Steps.{in_turn, finished, arm_use, arm_goal, arm_value, assigned_memory, updated, stepped, renewed_scalar, renewed_memory, loaded_first, left_memory, one_at, changed}
use Rattle.graph_build_code.specs.Code.{code, code_place, code_address, code_all}
use Rattle.graph_build_laws.specs.Passing.{Grows, IsPassing}
use Rattle.graph_build_laws.specs.Points.{AtLabel, GoesBack, StandIn}
use Rattle.graph_build_laws.specs.Surely.{IsSure, IsSurePlace, AreSure, Notes, now, later, over}
use Rattle.graph_build_laws.proofs.GraphMarkingPieces.{changed_leads, keep_leads, move_leads, loaded_leads}
use Rattle.graph_build_laws.proofs.Passes.{code_passes, place_passes}
use Rattle.graph_build_laws.proofs.Instances.{got_before, got_next, to_one, to_two, to_none}
use Rattle.base_laws.proofs.Booleans.{or_cases}
use Rattle.base_laws.proofs.Numbers.{false_true}
use Rattle.base_laws.proofs.Options.{some_same}

or_first : (a b : Bool) → a || b ≡ true → b ≡ false → a ≡ true
or_first true b h k = refl
or_first false b h k = absurd (clash h k)
  where
    clash : b ≡ true → b ≡ false → ⊥
    clash h k = cc

-- A property of points that goes back, of what is made alone
module _ (blocks : List Block) (top : ℕ) (G : List Instruction → End → Type 0) (back : GoesBack blocks G) where
  abbrev pub HasPoint : Made → Type 0
  HasPoint m = StandIn blocks top m.inner → G m.ops m.end

  abbrev pub LeadsPoint : (label : ℕ) → List Block → Type 0
  LeadsPoint l inner = StandIn blocks top inner → AtLabel blocks G l

  abbrev pub AnyStand : List Block → Type 0
  AnyStand inner = Unit {0}

  closed_before : (place : ℕ) (m : Made) → StandIn blocks top (with_inner_block place m) → StandIn blocks top m.inner
  closed_before place m st k b e = st k b (got_before m.inner (record { place = Some place; instructions = m.ops; end = m.end } ∷ []) k b e)

  closed_at : (place : ℕ) (m : Made) → StandIn blocks top (with_inner_block place m) → G m.ops m.end → AtLabel blocks G (label_of top m)
  closed_at place m st h b e =
      let it : Block = record { place = Some place; instructions = m.ops; end = m.end } in
      let there : slice_get blocks (label_of top m) ≡ Some it = st (length m.inner) it (got_next m.inner it) in
      subst (λ (c : Block). G c.instructions c.end) (some_same (sym there ∙ e)) h

  grown : (xs ys : List Block) → Grows xs ys → StandIn blocks top ys → StandIn blocks top xs
  grown xs ys g st k b e = st k b (subst (λ (zs : List Block). slice_get zs k ≡ Some b) (sym g.1) (got_before xs g.0 k b e))

  pub point_passes : (place : ℕ) → IsPassing place top HasPoint LeadsPoint AnyStand
  point_passes place = record {
    step = λ i m h has st. back.step i m.ops m.end h (has st);
    jump = λ l inner h st. back.end (Jump l) (to_one (AtLabel blocks G) l (h st));
    branch = λ o a b one other inner h k st. back.end (Branch o a b one other) (to_two (AtLabel blocks G) one other (h st) (k st));
    end = λ a inner h st. back.end (Return a) (to_none (AtLabel blocks G));
    close = λ m has st. closed_at place m st (has (closed_before place m st));
    keep = λ m l inner g has h st. h (grown inner m.inner g (closed_before place m st));
    stands = λ m has. tt;
    shut = λ m has. tt;
  }

pub notes_back : (blocks : List Block) (x : ℕ) → GoesBack blocks (Notes blocks x)
notes_back blocks x = record { step = λ i rest e h n. later h n; end = λ e k. over (λ l a b is. k l a b is) }

module _ (blocks : List Block) (top x : ℕ) (n : Names) (place : ℕ) where
  abbrev G : List Instruction → End → Type 0
  G = Notes blocks x

  abbrev back : GoesBack blocks (Notes blocks x)
  back = notes_back blocks x

  abbrev pub Noted : Made → Type 0
  Noted m = HasPoint blocks top (Notes blocks x) (notes_back blocks x) m

  abbrev passing : IsPassing place top Noted (LeadsPoint blocks top G back) (AnyStand blocks top G back)
  passing = point_passes blocks top G back place

  abbrev Leads' : (label : ℕ) → List Block → Type 0
  Leads' = LeadsPoint blocks top G back

  abbrev Stand' : List Block → Type 0
  Stand' = AnyStand blocks top G back

  -- the code of a, and what follows it is noted
  through : (a : RvalueTree) (t : ℕ) (m : Made) → Noted m → Noted (code n place top a t (To None m))
  through a t m h = (code_passes place top Noted Leads' Stand' passing n a t (To None m)).1 h

  through_place : (l : LvalueTree) (t : ℕ) (m : Made) → Noted m → Noted (code_place n place top l t m)
  through_place l t m h = ((place_passes place top Noted Leads' Stand' passing n l).placed t m).1 h

  moved : (b : Bool) (t : ℕ) (a : Operand) (m : Made) → Noted m → Noted (move_if b t a m)
  moved b t a m h = (move_leads place top Noted Leads' Stand' passing b t a m).1 h

  -- the note itself
  noted_now : (y : ℕ) (m : Made) → (y == x) ≡ true → Noted (note y m)
  noted_now y m e st = subst (λ z. Notes blocks x (Note z (Is (Of (unit.Name z))) ∷ m.ops) m.end) (same y x e) now
    where
      same : (y x : ℕ) → (y == x) ≡ true → x ≡ y
      same y x e = grind (arith, nat_tests)

  abbrev pub NotesIt : RvalueTree → Type 0
  NotesIt e = (t : ℕ) (g : Goal) → IsSure n e → writes n x e ≡ true → Noted (code n place top e t g)

  pub record NotesPlace (l : LvalueTree) : Type 0 where
    pub placed : (t : ℕ) (m : Made) → IsSurePlace n l → writes_within n x l ≡ true → Noted (code_place n place top l t m)
    pub address : (t : ℕ) (g : Goal) → IsSurePlace n l → writes_within n x l ≡ true → Noted (code_address n place top l t g)

  abbrev pub NotesAll : ArgumentTrees → Type 0
  NotesAll all = (t : ℕ) (m : Made) → AreSure n all → writes_any n x all ≡ true → Noted (code_all n place top all t m)

  -- two values in turn
  turn_notes : (a b : RvalueTree) → NotesIt a → NotesIt b → (t : ℕ) (q : Pair) (last : Made) → IsSure n a → IsSure n b → writes n x a || writes n x b ≡ true → Noted (in_turn (code n place top a) (code n place top b) t q last)
  turn_notes a b ha hb t q last sa sb h = go (or_cases (writes n x a) (writes n x b) h)
    where
      go : (writes n x a ≡ true) ⊎ (writes n x b ≡ true) → Noted (in_turn (code n place top a) (code n place top b) t q last)
      go (inl w) = ha t (To None (move_if q.moved q.moved_to q.first (code n place top b q.from (To None last)))) sa w
      go (inr w) =
          let second = code n place top b q.from (To None last) in
          through a t (move_if q.moved q.moved_to q.first second) (moved q.moved q.moved_to q.first second (hb q.from (To None last) sb w))

  load_notes : (s : Scalar) (l : LvalueTree) → NotesPlace l → (t : ℕ) (g : Goal) → IsSurePlace n l → writes_within n x l ≡ true → (o : Option ℕ) → scalar_named n l ≡ o →
      Noted (elim o as (λ p. Made) [
        | Some y ↦ leaf g (unit.Name y)
        | None ↦ code_place n place top l t (operated n g t (place_laid n l t).next (λ y. unit.Load y (element_of s) (place_laid n l t).location))
      ])
  load_notes s l h t g sure w None e = h.placed t (operated n g t (place_laid n l t).next (λ y. unit.Load y (element_of s) (place_laid n l t).location)) sure w
  load_notes s (Named o of) h t g sure w (Some y) e = absurd (false_true w)
  load_notes s (Target of p) h t g sure w (Some y) e = cc
  load_notes s (Element of a b) h t g sure w (Some y) e = cc
  load_notes s (ElementFrom of a b) h t g sure w (Some y) e = cc

  convert_notes : (ty : IntegerType) (e : RvalueTree) → NotesIt e → (t : ℕ) (g : Goal) → IsSure n e → writes n x e ≡ true → (b c : Bool) →
      Noted (if b then code n place top e t (valued g (laid n e Anywhere t).value) else code n place top e t (To None (if c then leaf g (laid n e Anywhere t).value else operated n g t (laid n e Anywhere t).next (λ y. Truncate y (truncation_to ty) (laid n e Anywhere t).value))))
  convert_notes ty e h t g sure w true c = h t (valued g (laid n e Anywhere t).value) sure w
  convert_notes ty e h t g sure w false true = h t (To None (leaf g (laid n e Anywhere t).value)) sure w
  convert_notes ty e h t g sure w false false = h t (To None (operated n g t (laid n e Anywhere t).next (λ y. Truncate y (truncation_to ty) (laid n e Anywhere t).value))) sure w

  not_notes : (e : RvalueTree) → NotesIt e → NotesIt (Not e)
  not_notes e h t (Either one other inner) sure w = h t (Either other one inner) sure w
  not_notes e h t (To want m) sure w = h t (To None (operated n (To want m) t (laid n e Anywhere t).next (λ y. if is_pointer (type_of n.results e) then Same y (laid n e Anywhere t).value (drafts.zero) else Operate y operation.Sltu (laid n e Anywhere t).value (unit.Constant 1)))) sure w
  not_notes e h t (Unused m) sure w = h t (To None (operated n (Unused m) t (laid n e Anywhere t).next (λ y. if is_pointer (type_of n.results e) then Same y (laid n e Anywhere t).value (drafts.zero) else Operate y operation.Sltu (laid n e Anywhere t).value (unit.Constant 1)))) sure w

  comma_notes : (a b : RvalueTree) → NotesIt a → NotesIt b → NotesIt (Comma a b)
  comma_notes a b ha hb t g sure h = go (or_cases (writes n x a) (writes n x b) h)
    where
      next : Made
      next = code n place top b (pick n t (laid n a Nothing t).top) g

      go : (writes n x a ≡ true) ⊎ (writes n x b ≡ true) → Noted (code n place top a t (Unused next))
      go (inl w) = ha t (Unused next) sure.0 w
      go (inr w) = (code_passes place top Noted Leads' Stand' passing n a t (Unused next)).1 (hb (pick n t (laid n a Nothing t).top) g sure.1 w)

  -- an assignment: by its target, by what comes before its place, or by what is assigned
  named_some : (o : Option ℕ) → is_that x o ≡ true → (y : ℕ) × (o ≡ Some y) × ((y == x) ≡ true)
  named_some None h = absurd (false_true h)
  named_some (Some y) h = (y, refl, h)

  scalar_within : (l : LvalueTree) (y : ℕ) → scalar_named n l ≡ Some y → writes_within n x l ≡ true → ⊥
  scalar_within (Named o of) y e w = false_true w
  scalar_within (Target of p) y e w = cc
  scalar_within (Element of a b) y e w = cc
  scalar_within (ElementFrom of a b) y e w = cc

  assign_notes : (s : Scalar) (l : LvalueTree) (e : RvalueTree) → NotesPlace l → NotesIt e → (t : ℕ) (g : Goal) → IsSurePlace n l → IsSure n e → (o : Option ℕ) → scalar_named n l ≡ o →
      (is_that x o ≡ true) ⊎ ((writes_within n x l ≡ true) ⊎ (writes n x e ≡ true)) →
      Noted (elim o as (λ p. Made) [
        | Some y ↦ code n place top e t (To (Some y) (noted y g))
        | None ↦ let q = place_laid n l t in let moves = is_location_moved (λ y. writes n y e) q.location in let from = behind_move moves q.next in
            code_place n place top l t (hold_location moves q.next q.location (code n place top e from (assigned_memory g q moves (element_of s) (laid n e (use_for None (use_of g)) from).value)))
      ])
  assign_notes s l e hl he t g sl se (Some y) is (inl w) = (code_passes place top Noted Leads' Stand' passing n e t (To (Some y) (noted y g))).1 (noted_now y (leaf g (unit.Name y)) w)
  assign_notes s l e hl he t g sl se (Some y) is (inr (inl w)) = absurd (scalar_within l y is w)
  assign_notes s l e hl he t g sl se (Some y) is (inr (inr w)) = he t (To (Some y) (noted y g)) se w
  assign_notes s l e hl he t g sl se None is (inl w) = absurd (false_true w)
  assign_notes s l e hl he t g sl se None is (inr (inl w)) =
      let q = place_laid n l t in let moves = is_location_moved (λ y. writes n y e) q.location in let from = behind_move moves q.next in
      hl.placed t (hold_location moves q.next q.location (code n place top e from (assigned_memory g q moves (element_of s) (laid n e (use_for None (use_of g)) from).value))) sl w
  assign_notes s l e hl he t g sl se None is (inr (inr w)) =
      let q = place_laid n l t in let moves = is_location_moved (λ y. writes n y e) q.location in let from = behind_move moves q.next in
      let goal = assigned_memory g q moves (element_of s) (laid n e (use_for None (use_of g)) from).value in
      let value = code n place top e from goal in
      through_place l t (hold_location moves q.next q.location value) (moved moves q.next (operand_at q.location) value (he from goal se w))

  three_ways : (a b c : Bool) → a || b || c ≡ true → (a ≡ true) ⊎ ((b ≡ true) ⊎ (c ≡ true))
  three_ways true b c h = inl refl
  three_ways false true c h = inr (inl refl)
  three_ways false false c h = inr (inr h)

  update_notes : (c : declared-change.Change) (l : LvalueTree) (e : RvalueTree) → NotesPlace l → NotesIt e → (t : ℕ) (g : Goal) → IsSurePlace n l → IsSure n e → (o : Option ℕ) → scalar_named n l ≡ o →
      (is_that x o ≡ true) ⊎ ((writes_within n x l ≡ true) ⊎ (writes n x e ≡ true)) →
      Noted (updated n o c (λ y. writes n y e) (place_laid n l t) t (code n place top e) (laid n e Anywhere) (code_place n place top l t) g)
  update_notes c l e hl he t g sl se (Some y) is (inl w) =
      let moves = writes n y e in let from = behind_move moves t in
      let by = laid n e Anywhere from in let old = held moves (unit.Name y) t in
      let last = renewed_scalar c y old by g in
      let value = code n place top e from (To None last) in
      moved moves t (unit.Name y) value (through e from last ((changed_leads place top Noted Leads' Stand' passing c y by.next by.next old by.value (noted y g)).1 (noted_now y (leaf g (unit.Name y)) w)))
  update_notes c l e hl he t g sl se (Some y) is (inr (inl w)) = absurd (scalar_within l y is w)
  update_notes c l e hl he t g sl se (Some y) is (inr (inr w)) =
      let moves = writes n y e in let from = behind_move moves t in
      let goal = To None (renewed_scalar c y (held moves (unit.Name y) t) (laid n e Anywhere from) g) in
      moved moves t (unit.Name y) (code n place top e from goal) (he from goal se w)
  update_notes c l e hl he t g sl se None is (inl w) = absurd (false_true w)
  update_notes c l e hl he t g sl se None is (inr (inl w)) =
      let q = place_laid n l t in
      let moves = is_location_moved (λ y. writes n y e) q.location in let from = behind_move moves (q.next + 1) in
      hl.placed t (loaded_first c q moves (code n place top e from (To None (renewed_memory n c q moves (laid n e Anywhere from) g)))) sl w
  update_notes c l e hl he t g sl se None is (inr (inr w)) =
      let q = place_laid n l t in
      let moves = is_location_moved (λ y. writes n y e) q.location in let from = behind_move moves (q.next + 1) in
      let goal = To None (renewed_memory n c q moves (laid n e Anywhere from) g) in
      let value = code n place top e from goal in
      through_place l t (loaded_first c q moves value) ((loaded_leads place top Noted Leads' Stand' passing n c q moves value).1 (he from goal se w))

  step_notes : (c : declared-change.Change) (k : Given) (l : LvalueTree) → NotesPlace l → (t : ℕ) (g : Goal) → IsSurePlace n l → (o : Option ℕ) → scalar_named n l ≡ o → (is_that x o ≡ true) ⊎ (writes_within n x l ≡ true) →
      Noted (stepped n o c k (place_laid n l t) t (code_place n place top l t) g)
  step_notes c New l h t g sl (Some y) is (inl w) = (changed_leads place top Noted Leads' Stand' passing c y t t (unit.Name y) (unit.Constant 1) (noted y g)).1 (noted_now y (leaf g (unit.Name y)) w)
  step_notes c Old l h t g sl (Some y) is (inl w) =
      let free = behind_old (use_of g) y t in let last = note y (use_old g y t) in
      let mid = changed c y free free (unit.Name y) (unit.Constant 1) last in
      (keep_leads place top Noted Leads' Stand' passing (use_of g) y t mid).1 ((changed_leads place top Noted Leads' Stand' passing c y free free (unit.Name y) (unit.Constant 1) last).1 (noted_now y (use_old g y t) w))
  step_notes c k l h t g sl (Some y) is (inr w) = absurd (scalar_within l y is w)
  step_notes c k l h t g sl None is (inl w) = absurd (false_true w)
  step_notes c New l h t g sl None is (inr w) = let q = place_laid n l t in h.placed t (loaded_first c q false (renewed_memory n c q false (one_at (q.next + 1)) g)) sl w
  step_notes c Old l h t g sl None is (inr w) = let q = place_laid n l t in h.placed t (left_memory c q g) sl w

  element_notes : (k : declared-two.Two) (a b : RvalueTree) → NotesIt a → NotesIt b → (t : ℕ) (q : Pair) (g : Goal) → IsSure n a × IsSure n b → writes n x a || writes n x b ≡ true → Noted (in_turn (code n place top a) (code n place top b) t q (finished n k g t q))
  element_notes k a b ha hb t q g sure w = turn_notes a b ha hb t q (finished n k g t q) sure.0 sure.1 w

  first_notes : (e : RvalueTree) (rest : ArgumentTrees) → NotesIt e → NotesAll rest → NotesAll (first e rest)
  first_notes e rest h k t m sure w = go (or_cases (writes n x e) (writes_any n x rest) w)
    where
      r : Laid
      r = laid n e Anywhere t

      moves : Bool
      moves = is_moved (λ y. writes_any n y rest) r.value

      next : Made
      next = code_all n place top rest (behind_move moves r.next) m

      go : (writes n x e ≡ true) ⊎ (writes_any n x rest ≡ true) → Noted (code n place top e t (To None (move_if moves r.next r.value next)))
      go (inl v) = h t (To None (move_if moves r.next r.value next)) sure.0 v
      go (inr v) = through e t (move_if moves r.next r.value next) (moved moves r.next r.value next (k (behind_move moves r.next) m sure.1 v))

  mutual
    -- An expression that surely writes a scalar notes it.
    pub code_notes : (e : RvalueTree) → NotesIt e
    code_notes (Constant z ty) t g sure w = absurd (false_true w)
    code_notes Null t g sure w = absurd (false_true w)
    code_notes (Load s l) t g sure w = load_notes s l (place_notes l) t g sure w (scalar_named n l) refl
    code_notes (Decay l) t g sure w = (place_notes l).address t g sure w
    code_notes (AddressOf l) t g sure w = (place_notes l).address t g sure w
    code_notes (Convert ty e) t g sure w = convert_notes ty e (code_notes e) t g sure w (keeps_bits (integer_in (type_of n.results e)) ty) (is_kept_constant ty (laid n e Anywhere t).value)
    code_notes (Discard e) t g sure w = code_notes e t (Unused (leaf g (drafts.zero))) sure w
    code_notes (Signed Plus ty e) t g sure w = code_notes e t (valued g (laid n e Anywhere t).value) sure w
    code_notes (Signed Minus ty e) t g sure w = code_notes e t (To None (operated n g t (laid n e Anywhere t).next (Rattle.graph_build_steps.specs.Steps.signed Minus (laid n e Anywhere t).value))) sure w
    code_notes (Signed Complement ty e) t g sure w = code_notes e t (To None (operated n g t (laid n e Anywhere t).next (Rattle.graph_build_steps.specs.Steps.signed Complement (laid n e Anywhere t).value))) sure w
    code_notes (Not e) t g sure w = not_notes e (code_notes e) t g sure w
    code_notes (Arithmetic o ty a b) t g sure w = element_notes (two.Arithmetic o ty) a b (code_notes a) (code_notes b) t (pair (λ y. writes n y b) (laid n a Anywhere t) (laid n b Anywhere)) g sure w
    code_notes (Compare o ty a b) t g sure w = element_notes (two.Compare o ty) a b (code_notes a) (code_notes b) t (pair (λ y. writes n y b) (laid n a Anywhere t) (laid n b Anywhere)) g sure w
    code_notes (ComparePointers o a b) t g sure w = element_notes (two.ComparePointers o) a b (code_notes a) (code_notes b) t (pair (λ y. writes n y b) (laid n a Anywhere t) (laid n b Anywhere)) g sure w
    code_notes (Move d of a b) t g sure w = element_notes (two.Move d (object_size of)) a b (code_notes a) (code_notes b) t (pair (λ y. writes n y b) (laid n a Anywhere t) (laid n b Anywhere)) g sure w
    code_notes (MoveFrom a of b) t g sure w = element_notes (two.MoveFrom (object_size of)) a b (code_notes a) (code_notes b) t (pair (λ y. writes n y b) (laid n a Anywhere t) (laid n b Anywhere)) g sure w
    code_notes (Difference of a b) t g sure w = element_notes (two.Difference (object_size of)) a b (code_notes a) (code_notes b) t (pair (λ y. writes n y b) (laid n a Anywhere t) (laid n b Anywhere)) g sure w
    code_notes (And a b) t g sure w = (
        let at = behind_own (use_of g) t in let way = forked place top g t in
        let m = code n place top b (pick n at (laid n a Tested at).top) (Either way.one way.other way.inner) in
        code_notes a at (Either (label_of top m) way.other (with_inner_block place m)) sure.0 (or_first (writes n x a) (writes n x b) w (sure.1 x)))
    code_notes (Or a b) t g sure w = (
        let at = behind_own (use_of g) t in let way = forked place top g t in
        let m = code n place top b (pick n at (laid n a Tested at).top) (Either way.one way.other way.inner) in
        code_notes a at (Either way.one (label_of top m) (with_inner_block place m)) sure.0 (or_first (writes n x a) (writes n x b) w (sure.1 x)))
    code_notes (Conditional c a b) t g sure w = (
        let void = is_void (type_of n.results a) in let at = behind_move (not void) t in
        let at_a = pick n at (laid n c Tested at).top in let at_b = pick n at (laid n a (arm_use void t) at_a).top in
        let m = leaf g (arm_value void t) in
        let y = code n place top b at_b (arm_goal void t (ending (Jump (label_of top m)) (with_inner_block place m))) in
        let z = code n place top a at_a (arm_goal void t (ending (Jump (label_of top m)) (with_inner_block place y))) in
        code_notes c at (Either (label_of top z) (label_of top y) (with_inner_block place z)) sure.0 (or_first (writes n x c) (writes n x a) (or_first (writes n x c || writes n x a) (writes n x b) w (sure.2 x)) (sure.1 x)))
    code_notes (Comma a b) t g sure w = comma_notes a b (code_notes a) (code_notes b) t g sure w
    code_notes (Assign s l e) t g sure w = assign_notes s l e (place_notes l) (code_notes e) t g sure.0 sure.1 (scalar_named n l) refl (three_ways (names_it n x l) (writes_within n x l) (writes n x e) w)
    code_notes (Update o ty v l e) t g sure w = update_notes (change.Integer o ty v) l e (place_notes l) (code_notes e) t g sure.0 sure.1 (scalar_named n l) refl (three_ways (names_it n x l) (writes_within n x l) (writes n x e) w)
    code_notes (UpdatePointer d of l e) t g sure w = update_notes (change.Pointer d (object_size of)) l e (place_notes l) (code_notes e) t g sure.0 sure.1 (scalar_named n l) refl (three_ways (names_it n x l) (writes_within n x l) (writes n x e) w)
    code_notes (Step d k ty v l) t g sure w = step_notes (change.Integer (steps_by d) ty v) k l (place_notes l) t g sure (scalar_named n l) refl (or_cases (names_it n x l) (writes_within n x l) w)
    code_notes (StepPointer d k of l) t g sure w = step_notes (change.Pointer d (object_size of)) k l (place_notes l) t g sure (scalar_named n l) refl (or_cases (names_it n x l) (writes_within n x l) w)
    code_notes (Call c all) t g sure w = arguments_note all t (drafts.called_by (is_void (given_by n.results c)) g (pick n t (passed_laid n all t).next) (λ y. unit.Call y (Rattle.graph_build_steps.specs.Rules.callee_for c) (passed_laid n all t).values)) sure w

    pub place_notes : (l : LvalueTree) → NotesPlace l
    place_notes (Named o of) = record { placed = λ t m sure w. absurd (false_true w); address = λ t g sure w. absurd (false_true w) }
    place_notes (Target of e) = record { placed = λ t m sure w. code_notes e t (To None m) sure w; address = λ t g sure w. code_notes e t (valued (used g) (laid n e Anywhere t).value) sure w }
    place_notes (Element of a b) = record {
      placed = λ t m sure w. element_notes (two.Move Up (object_size of)) a b (code_notes a) (code_notes b) t (pair (λ y. writes n y b) (laid n a Anywhere t) (laid n b Anywhere)) (To None m) sure w;
      address = λ t g sure w. element_notes (two.Move Up (object_size of)) a b (code_notes a) (code_notes b) t (pair (λ y. writes n y b) (laid n a Anywhere t) (laid n b Anywhere)) g sure w;
    }
    place_notes (ElementFrom of a b) = record {
      placed = λ t m sure w. element_notes (two.MoveFrom (object_size of)) a b (code_notes a) (code_notes b) t (pair (λ y. writes n y b) (laid n a Anywhere t) (laid n b Anywhere)) (To None m) sure w;
      address = λ t g sure w. element_notes (two.MoveFrom (object_size of)) a b (code_notes a) (code_notes b) t (pair (λ y. writes n y b) (laid n a Anywhere t) (laid n b Anywhere)) g sure w;
    }

    pub arguments_note : (all : ArgumentTrees) → NotesAll all
    arguments_note none t m sure w = absurd (false_true w)
    arguments_note (first e rest) t m sure w = first_notes e rest (code_notes e) (arguments_note rest) t m sure w

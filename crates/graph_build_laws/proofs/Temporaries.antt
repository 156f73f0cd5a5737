-- Names that are free come behind those that were used before.
use Rattle.std.proofs.Common.{◌≡◌, ℕ, ◌+◌, ◌≤◌, Bool, true, false, Option, Some, None, refl, arith, if◌then◌else◌, ◌==◌, not}
use Rattle.std.specs.Prelude.{max}
use Rattle.c_tree.specs.declared.object_type.Object.TheVariants as object
use Rattle.c_tree.specs.declared.object_type.Object.{Object}
use Rattle.c_tree.specs.declared.typed_expression.Sign.TheVariants.{Plus, Minus, Complement}
use Rattle.c_tree.specs.declared.typed_expression.Given.{Given}
use Rattle.c_tree.specs.declared.typed_expression.Given.TheVariants.{New, Old}
use Rattle.c_tree.specs.TypedExpressions.{RvalueTree, LvalueTree, ArgumentTrees, Constant, Null, Load, Decay, AddressOf, Convert, Discard, Signed, Not, Arithmetic, Compare, ComparePointers, Move, MoveFrom, Difference, And, Or, Conditional, Comma, Assign, Update, UpdatePointer, Step, StepPointer, Call, Named, Target, Element, ElementFrom, none, first}
use Rattle.c_tree.specs.declared.types.IntegerType.{IntegerType}
use Rattle.c_type_rules.specs.Integers.{object_size}
use Rattle.c_type_rules.specs.ValueTypes.{type_of, given_by, is_void, integer_in}
use Rattle.graph_core.specs.Graphs.{Operand}
use Rattle.graph_build_names.specs.Scales.{is_scaled}
use Rattle.graph_build_names.specs.Conversions.{keeps_bits, is_narrow, is_kept_constant}
use Rattle.graph_build_names.specs.Operands.{is_two, is_two_pointers}
use Rattle.graph_build_layout.specs.declared.laid.Use.{Use}
use Rattle.graph_build_layout.specs.declared.laid.Use.TheVariants.{Anywhere, In, Nothing, Tested}
use Rattle.graph_build_names.specs.Names.{Names, scalar_named, object_of, pick}
use Rattle.graph_build_names.specs.Writes.{writes, writes_any, is_moved, is_location_moved}
use Rattle.graph_build_layout.specs.Laid.{Laid, Pair, PlaceLaid, PassedLaid, behind_move, pair, as_value, worked, use_for, behind_top, operation_laid, standing, leaf_laid, after_pair, moved_laid, steps_laid, compared_laid, converted_laid, truth_laid, joined_laid, both_laid, behind_own, void_arms_laid, arms_laid, arms_top, choice_top, begun_at, assigned_laid, begun_behind, renewed_scalar_laid, renewed_memory_laid, updated_laid, stepped_laid, left_scalar_laid, left_memory_laid, left_laid, step_laid, called_laid, loaded_laid, passed_behind, object_laid, unused_laid, old_laid}
use Rattle.graph_build_layout.specs.Layout.{laid, place_laid, address_laid, passed_laid, named_address, scales}

-- The name that is free next comes no earlier than one, and the first one behind all that were used no earlier than that.
abbrev pub IsBehind : (begun next top : ℕ) → Type 0
IsBehind k next top = (k ≤ next) × (next ≤ top)

abbrev pub Behind : ℕ → Laid → Type 0
Behind k r = IsBehind k r.next r.top

pub moved_behind : (b : Bool) (t : ℕ) → (t ≤ behind_move b t) × (behind_move b t ≤ t + 1)
moved_behind true t = (omega arith, omega arith)
moved_behind false t = (omega arith, omega arith)

module _ (n : Names) where
  -- a name that is used again, or a fresh one
  pub picked : (P : ℕ → Type 0) (a f : ℕ) → P a → P f → P (pick n a f)
  picked P a f p q = go n.again
    where
      go : (b : Bool) → P (if b then a else f)
      go true = p
      go false = q

  pub pick_least : (k a f : ℕ) → k ≤ a → k ≤ f → k ≤ pick n a f
  pick_least k a f p q = picked (λ x. k ≤ x) a f p q

  pub pick_most : (k a f : ℕ) → a ≤ k → f ≤ k → pick n a f ≤ k
  pick_most k a f p q = picked (λ x. x ≤ k) a f p q

  operation_any : (k p free top : ℕ) → k ≤ p → IsBehind k (p + 1) (max (p + 1) (max free top))
  operation_any k p free top h = (omega arith, omega arith)

  pub operation_behind : (u : Use) (k begun free top : ℕ) → k ≤ begun → begun ≤ free → Behind k (operation_laid n u begun free top)
  operation_behind (In x) k begun free top p q = (pick_least k begun free p (omega arith), pick_most (max free top) begun free (omega arith) (omega arith))
  operation_behind Anywhere k begun free top p q = operation_any k (pick n begun free) free top (pick_least k begun free p (omega arith))
  operation_behind Nothing k begun free top p q = operation_any k (pick n begun free) free top (pick_least k begun free p (omega arith))
  operation_behind Tested k begun free top p q = operation_any k (pick n begun free) free top (pick_least k begun free p (omega arith))

  pub standing_behind : (u : Use) (k begun : ℕ) (r : Laid) → k ≤ begun → begun ≤ r.top → Behind k r → Behind k (standing n u begun r)
  standing_behind (In x) k begun r p q h = (pick_least k begun r.next p h.0, pick_most r.top begun r.next q h.1)
  standing_behind Anywhere k begun r p q h = h
  standing_behind Nothing k begun r p q h = h
  standing_behind Tested k begun r p q h = h

  pub leaf_behind : (u : Use) (a : Operand) (k : ℕ) → Behind k (leaf_laid n u a k)
  leaf_behind u a k = standing_behind u k k (record { value = a; next = k; top = k }) (omega arith) (omega arith) (omega arith, omega arith)

  pub converted_behind : (u : Use) (t : IntegerType) (k : ℕ) (r : Laid) → Behind k r → Behind k (converted_laid n u t k r)
  converted_behind u t k r h = go (is_kept_constant t r.value)
    where
      go : (b : Bool) → Behind k (if b then standing n u k r else operation_laid n u k r.next r.top)
      go true = standing_behind u k k r (omega arith) (omega (arith, h.0, h.1)) h
      go false = operation_behind u k k r.next r.top (omega arith) h.0

  -- two values in turn
  pub pair_behind : (w : ℕ → Bool) (k : ℕ) (a : Laid) (b : ℕ → Laid) → Behind k a → ((t : ℕ) → Behind t (b t)) → IsBehind k (pair w a b).next (pair w a b).top × (k ≤ (pair w a b).from)
  pair_behind w k a b h g =
      let m = moved_behind (is_moved w a.value) a.next in let q = g (behind_move (is_moved w a.value) a.next) in
      ((omega (arith, h.0, m.0, q.0), omega (arith, q.1)), omega (arith, h.0, m.0))

  pub steps_behind : (u : Use) (two : Bool) (k : ℕ) (q : Pair) → IsBehind k q.next q.top → Behind k (steps_laid n u two k q)
  steps_behind u two k q h = operation_behind u k k (behind_move two q.next) _ (omega arith) (omega (arith, h.0, (moved_behind two q.next).0))

  pub compared_behind : (u : Use) (two : Bool) (k : ℕ) (q : Pair) → IsBehind k q.next q.top → Behind k (compared_laid n u two k q)
  compared_behind Tested two k q h = h
  compared_behind Anywhere two k q h = steps_behind Anywhere two k q h
  compared_behind Nothing two k q h = steps_behind Nothing two k q h
  compared_behind (In x) two k q h = steps_behind (In x) two k q h

  pub scaled_behind : (u : Use) (k size : ℕ) (i : Operand) (q : Pair) → IsBehind k q.next q.top → Behind k (moved_laid n u k size i q)
  scaled_behind u k size i q h = operation_behind u k k (behind_move (is_scaled size i) q.next) q.top (omega arith) (omega (arith, h.0, (moved_behind (is_scaled size i) q.next).0))

  -- a value in a name that arms write
  pub joined_behind : (u : Use) (k top : ℕ) → k + 1 ≤ top → Behind k (joined_laid n u k top)
  joined_behind u k top h = standing_behind u k k _ (omega arith) (omega arith) (pick_least k (k + 1) top (omega arith) (omega arith), pick_most top (k + 1) top h (omega arith))

  convert_behind : (t : IntegerType) (u : Use) (k : ℕ) (b : Bool) (r q : Laid) → Behind k r → Behind k q → Behind k (if b then r else converted_laid n u t k q)
  convert_behind t u k true r q h g = h
  convert_behind t u k false r q h g = converted_behind u t k q g

  both_any : (u : Use) (k at : ℕ) (a b : ℕ → Laid) → k ≤ at → Behind at (a at) → ((t : ℕ) → Behind t (b t)) → at ≤ max (a at).top (b (pick n at (a at).top)).top
  both_any u k at a b p h g = omega (arith, h.0, h.1)

  pub both_behind : (u : Use) (k : ℕ) (a b : ℕ → Laid) → ((t : ℕ) → Behind t (a t)) → ((t : ℕ) → Behind t (b t)) → Behind k (both_laid n u k a b)
  both_behind Tested k a b h g = (omega arith, both_any Tested k k a b (omega arith) (h k) g)
  both_behind Anywhere k a b h g = joined_behind Anywhere k _ (both_any Anywhere k (k + 1) a b (omega arith) (h (k + 1)) g)
  both_behind Nothing k a b h g = joined_behind Nothing k _ (both_any Nothing k (k + 1) a b (omega arith) (h (k + 1)) g)
  both_behind (In x) k a b h g = joined_behind (In x) k _ (both_any (In x) k (k + 1) a b (omega arith) (h (k + 1)) g)

  -- a condition and two arms
  pub arms_behind : (k : ℕ) (c : Laid) (a b : ℕ → Laid) → k ≤ c.top → ((t : ℕ) → Behind t (a t)) → k ≤ arms_top n k c a b
  arms_behind k c a b p h = let q = h (pick n k c.top) in omega (arith, q.0, q.1, pick_least k k c.top (omega arith) p)

  pub conditional_behind : (u : Use) (k : ℕ) (void : Bool) (c : ℕ → Laid) (va vb a b : ℕ → Laid) → ((t : ℕ) → Behind t (c t)) → ((t : ℕ) → Behind t (va t)) → ((t : ℕ) → Behind t (a t)) →
      Behind k (if void then void_arms_laid n k (c k) va vb else arms_laid n u k (c (k + 1)) a b)
  conditional_behind u k true c va vb a b hc hv h =
      let m = arms_behind k (c k) va vb (omega (arith, (hc k).0, (hc k).1)) hv in
      (pick_least k k _ (omega arith) m, pick_most _ k _ (omega (arith, (hc k).0, (hc k).1)) (omega arith))
  conditional_behind u k false c va vb a b hc hv h = joined_behind u k _ (omega (arith, (hc (k + 1)).0, (hc (k + 1)).1))

  -- what is assigned
  begun_behind_move : (o : Option ℕ) (k : ℕ) (w : ℕ → Bool) (q : PlaceLaid) → k ≤ q.next → k ≤ begun_at o k w q
  begun_behind_move (Some x) k w q h = omega arith
  begun_behind_move None k w q h = omega (arith, h, (moved_behind (is_location_moved w q.location) q.next).0)

  pub assigned_behind : (u : Use) (o : Option ℕ) (k : ℕ) (w : ℕ → Bool) (q : PlaceLaid) (e : Use → ℕ → Laid) → IsBehind k q.next q.top → ((v : Use) (t : ℕ) → Behind t (e v t)) →
      Behind k (assigned_laid n u o k q (e (use_for o u) (begun_at o k w q)))
  assigned_behind u (Some x) k w q e h g = standing_behind u k k _ (omega arith) (omega (arith, (g (In x) k).0, (g (In x) k).1)) (g (In x) k)
  assigned_behind u None k w q e h g =
      let s = begun_behind_move None k w q h.0 in let r = g (use_for None u) (begun_at None k w q) in (omega (arith, s, r.0), omega (arith, r.1))

  pub updated_behind : (u : Use) (narrow scaling : Bool) (o : Option ℕ) (k : ℕ) (w : ℕ → Bool) (q : PlaceLaid) (e : ℕ → Laid) → IsBehind k q.next q.top → ((t : ℕ) → Behind t (e t)) →
      Behind k (updated_laid n u narrow scaling o k q (e (begun_behind o k w q)))
  updated_behind u narrow scaling (Some x) k w q e h g =
      let r = g (behind_move (w x) k) in let m = moved_behind (w x) k in let s = moved_behind scaling (e (behind_move (w x) k)).next in let v = moved_behind narrow (behind_move scaling (e (behind_move (w x) k)).next) in
      standing_behind u k k _ (omega arith) (omega (arith, r.0, m.0, s.0, v.0)) (pick_least k k _ (omega arith) (omega (arith, r.0, m.0, s.0, v.0)), pick_most _ k _ (omega (arith, r.0, m.0, s.0, v.0)) (omega arith))
  updated_behind u narrow scaling None k w q e h g =
      let from = behind_move (is_location_moved w q.location) (q.next + 1) in
      let r = g from in let m = moved_behind (is_location_moved w q.location) (q.next + 1) in let s = moved_behind scaling (e from).next in let v = moved_behind narrow (behind_move scaling (e from).next) in
      operation_behind u k q.next _ _ h.0 (omega (arith, r.0, m.0, s.0, v.0))

  old_behind : (u : Use) (x k : ℕ) → Behind k (old_laid u x k)
  old_behind Nothing x k = (omega arith, omega arith)
  old_behind Anywhere x k = (omega arith, omega arith)
  old_behind Tested x k = (omega arith, omega arith)
  old_behind (In y) x k = go (y == x)
    where
      go : (b : Bool) → Behind k (if b then record { value = Rattle.graph_core.specs.Graphs.Name k; next = k + 1; top = k + 1 } else record { value = Rattle.graph_core.specs.Graphs.Name y; next = k; top = k })
      go true = (omega arith, omega arith)
      go false = (omega arith, omega arith)

  left_any : (k at next top : ℕ) → k ≤ at → at ≤ next → at ≤ top → IsBehind k (pick n at next) (max top next)
  left_any k at next top p q r = (pick_least k at next p (omega arith), pick_most (max top next) at next (omega arith) (omega arith))

  left_memory_behind : (u : Use) (narrow : Bool) (k : ℕ) (q : PlaceLaid) → IsBehind k q.next q.top → Behind k (left_memory_laid n u narrow k q)
  left_memory_behind (In y) narrow k q h =
      let m = moved_behind narrow (q.next + 1) in (pick_least k k _ (omega arith) (omega (arith, h.0, m.0)), pick_most _ k _ (omega (arith, h.0, h.1)) (omega arith))
  left_memory_behind Anywhere narrow k q h = let m = moved_behind narrow (q.next + 2) in (pick_least k _ _ (omega (arith, h.0)) (omega (arith, h.0, m.0)), pick_most _ _ _ (omega (arith, m.0)) (omega arith))
  left_memory_behind Nothing narrow k q h = let m = moved_behind narrow (q.next + 2) in (pick_least k _ _ (omega (arith, h.0)) (omega (arith, h.0, m.0)), pick_most _ _ _ (omega (arith, m.0)) (omega arith))
  left_memory_behind Tested narrow k q h = let m = moved_behind narrow (q.next + 2) in (pick_least k _ _ (omega (arith, h.0)) (omega (arith, h.0, m.0)), pick_most _ _ _ (omega (arith, m.0)) (omega arith))

  pub step_behind : (g : Given) (u : Use) (narrow : Bool) (o : Option ℕ) (k : ℕ) (q : PlaceLaid) → IsBehind k q.next q.top → Behind k (step_laid n g u narrow o k q)
  step_behind New u narrow (Some x) k q h =
      let m = moved_behind narrow k in standing_behind u k k _ (omega arith) (omega arith) (pick_least k k _ (omega arith) m.0, pick_most _ k _ (omega arith) (omega arith))
  step_behind New u narrow None k q h = operation_behind u k q.next _ _ h.0 (omega (arith, (moved_behind narrow (q.next + 1)).0))
  step_behind Old u narrow (Some x) k q h =
      let r = old_behind u x k in let m = moved_behind narrow (old_laid u x k).next in
      standing_behind u k k _ (omega arith) (omega (arith, r.0, m.0)) (left_any k (old_laid u x k).next _ (old_laid u x k).top r.0 m.0 r.1)
  step_behind Old u narrow None k q h = left_memory_behind u narrow k q h

  pub called_behind : (u : Use) (void : Bool) (k next top : ℕ) → IsBehind k next top → Behind k (called_laid n u void k next top)
  called_behind u true k next top h = unused k next top h
    where
      unused : (k next top : ℕ) → IsBehind k next top → IsBehind k (pick n k next) top
      unused k next top h = (pick_least k k next (omega arith) h.0, pick_most top k next (omega (arith, h.0, h.1)) h.1)
  called_behind Nothing false k next top h = (pick_least k k next (omega arith) h.0, pick_most top k next (omega (arith, h.0, h.1)) h.1)
  called_behind Anywhere false k next top h = operation_behind Anywhere k k next top (omega arith) h.0
  called_behind Tested false k next top h = operation_behind Tested k k next top (omega arith) h.0
  called_behind (In x) false k next top h = operation_behind (In x) k k next top (omega arith) h.0

  pub loaded_behind : (u : Use) (o : Option ℕ) (k : ℕ) (q : PlaceLaid) → IsBehind k q.next q.top → Behind k (loaded_laid n u o k q)
  loaded_behind u (Some x) k q h = leaf_behind u _ k
  loaded_behind u None k q h = operation_behind u k k q.next q.top (omega arith) h.0

  pub address_behind : (o : Object) (u : Use) (k : ℕ) → Behind k (named_address n o u k)
  address_behind (object.Static i) u k = leaf_behind u _ k
  address_behind (object.Literal i) u k = leaf_behind u _ k
  address_behind (object.Automatic v) u k = go (object_of n v)
    where
      go : (o : Option ℕ) → Behind k (object_laid n u o k)
      go None = leaf_behind u _ k
      go (Some y) = operation_behind u k k k k (omega arith) (omega arith)

  -- two operands, the second of which begins behind the first
  abbrev pub both_of : (a b : RvalueTree) → ℕ → Pair
  both_of a b k = pair (λ y. writes n y b) (laid n a Anywhere k) (laid n b Anywhere)

  pub both_are : (a b : RvalueTree) → ((u : Use) (k : ℕ) → Behind k (laid n a u k)) → ((u : Use) (k : ℕ) → Behind k (laid n b u k)) → (k : ℕ) → IsBehind k (both_of a b k).next (both_of a b k).top
  both_are a b ha hb k = (pair_behind (λ y. writes n y b) k (laid n a Anywhere k) (laid n b Anywhere) (ha Anywhere k) (hb Anywhere)).0

  one_behind : (u : Use) (k : ℕ) (r : Laid) → Behind k r → Behind k (operation_laid n u k r.next r.top)
  one_behind u k r h = operation_behind u k k r.next r.top (omega arith) h.0

  mutual
    -- The value of an expression leaves free only names from the one on that was free when it began.
    pub behind : (e : RvalueTree) (u : Use) (k : ℕ) → Behind k (laid n e u k)
    behind (Constant z t) u k = leaf_behind u _ k
    behind Null u k = leaf_behind u _ k
    behind (Load s l) u k = loaded_behind u (scalar_named n l) k (place_laid n l k) (place_behind l k)
    behind (Decay l) u k = address_is_behind l u k
    behind (AddressOf l) u k = address_is_behind l u k
    behind (Convert t e) u k = convert_behind t u k (keeps_bits (integer_in (type_of n.results e)) t) (laid n e (as_value u) k) (laid n e Anywhere k) (behind e (as_value u) k) (behind e Anywhere k)
    behind (Discard e) u k = behind e Nothing k
    behind (Signed Plus t e) u k = behind e (as_value u) k
    behind (Signed Minus t e) u k = one_behind u k (laid n e Anywhere k) (behind e Anywhere k)
    behind (Signed Complement t e) u k = one_behind u k (laid n e Anywhere k) (behind e Anywhere k)
    behind (Not e) Tested k = behind e Tested k
    behind (Not e) Anywhere k = one_behind Anywhere k (laid n e Anywhere k) (behind e Anywhere k)
    behind (Not e) Nothing k = one_behind Nothing k (laid n e Anywhere k) (behind e Anywhere k)
    behind (Not e) (In x) k = one_behind (In x) k (laid n e Anywhere k) (behind e Anywhere k)
    behind (Arithmetic o t a b) u k = operation_behind u k k (both_of a b k).next (both_of a b k).top (omega arith) (both_are a b (behind a) (behind b) k).0
    behind (Compare o t a b) u k = compared_behind u (is_two o) k (both_of a b k) (both_are a b (behind a) (behind b) k)
    behind (ComparePointers o a b) u k = compared_behind u (is_two_pointers o) k (both_of a b k) (both_are a b (behind a) (behind b) k)
    behind (Move d of p i) u k = scaled_behind u k (object_size of) (both_of p i k).right (both_of p i k) (both_are p i (behind p) (behind i) k)
    behind (MoveFrom i of p) u k = scaled_behind u k (object_size of) (both_of i p k).left (both_of i p k) (both_are i p (behind i) (behind p) k)
    behind (Difference of a b) u k = steps_behind u (not (object_size of == 1)) k (both_of a b k) (both_are a b (behind a) (behind b) k)
    behind (And a b) u k = both_behind u k (laid n a Tested) (laid n b Tested) (behind a Tested) (behind b Tested)
    behind (Or a b) u k = both_behind u k (laid n a Tested) (laid n b Tested) (behind a Tested) (behind b Tested)
    behind (Conditional c a b) u k = conditional_behind u k (is_void (type_of n.results a)) (laid n c Tested) (laid n a Nothing) (laid n b Nothing) (laid n a (In k)) (laid n b (In k)) (behind c Tested) (behind a Nothing) (behind a (In k))
    behind (Comma a b) u k =
        let h = behind a Nothing k in let g = behind b u (pick n k (laid n a Nothing k).top) in
        (omega (arith, g.0, pick_least k k (laid n a Nothing k).top (omega arith) (omega (arith, h.0, h.1))), omega (arith, g.1))
    behind (Assign s l e) u k = assigned_behind u (scalar_named n l) k (λ y. writes n y e) (place_laid n l k) (laid n e) (place_behind l k) (behind e)
    behind (Update o t v l e) u k = updated_behind u (is_narrow t) false (scalar_named n l) k (λ y. writes n y e) (place_laid n l k) (laid n e Anywhere) (place_behind l k) (behind e Anywhere)
    behind (UpdatePointer d of l e) u k = updated_behind u false (is_scaled (object_size of) (laid n e Anywhere (begun_behind (scalar_named n l) k (λ y. writes n y e) (place_laid n l k))).value) (scalar_named n l) k (λ y. writes n y e) (place_laid n l k) (laid n e Anywhere) (place_behind l k) (behind e Anywhere)
    behind (Step d g t v l) u k = step_behind g u (is_narrow t) (scalar_named n l) k (place_laid n l k) (place_behind l k)
    behind (StepPointer d g of l) u k = step_behind g u false (scalar_named n l) k (place_laid n l k) (place_behind l k)
    behind (Call c all) u k = called_behind u (is_void (given_by n.results c)) k (passed_laid n all k).next (passed_laid n all k).top (passed_is_behind all k)

    pub place_behind : (l : LvalueTree) (k : ℕ) → IsBehind k (place_laid n l k).next (place_laid n l k).top
    place_behind (Named o of) k = (omega arith, omega arith)
    place_behind (Target of p) k = behind p Anywhere k
    place_behind (Element of p i) k = scaled_behind Anywhere k (object_size of) (both_of p i k).right (both_of p i k) (both_are p i (behind p) (behind i) k)
    place_behind (ElementFrom of i p) k = scaled_behind Anywhere k (object_size of) (both_of i p k).left (both_of i p k) (both_are i p (behind i) (behind p) k)

    pub address_is_behind : (l : LvalueTree) (u : Use) (k : ℕ) → Behind k (address_laid n l u k)
    address_is_behind (Named o of) u k = address_behind o u k
    address_is_behind (Target of p) u k = behind p (worked u) k
    address_is_behind (Element of p i) u k = scaled_behind u k (object_size of) (both_of p i k).right (both_of p i k) (both_are p i (behind p) (behind i) k)
    address_is_behind (ElementFrom of i p) u k = scaled_behind u k (object_size of) (both_of i p k).left (both_of i p k) (both_are i p (behind i) (behind p) k)

    pub passed_is_behind : (all : ArgumentTrees) (k : ℕ) → IsBehind k (passed_laid n all k).next (passed_laid n all k).top
    passed_is_behind none k = (omega arith, omega arith)
    passed_is_behind (first e rest) k =
        let h = behind e Anywhere k in let m = moved_behind (is_moved (λ y. writes_any n y rest) (laid n e Anywhere k).value) (laid n e Anywhere k).next in
        let g = passed_is_behind rest (behind_move (is_moved (λ y. writes_any n y rest) (laid n e Anywhere k).value) (laid n e Anywhere k).next) in
        (omega (arith, h.0, m.0, g.0), omega (arith, g.1))

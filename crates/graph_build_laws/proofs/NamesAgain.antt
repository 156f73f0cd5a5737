-- Where names are used again, an expression wants no more temporaries than it has nodes, and one.
use Rattle.std.proofs.Common.{◌≡◌, ℕ, ◌+◌, ◌≤◌, Bool, true, false, Option, Some, None, refl, sym, subst, arith, if◌then◌else◌, ◌==◌}
use Rattle.std.specs.Prelude.{max, not}
use Rattle.c_tree.specs.declared.object_type.Object.TheVariants as object
use Rattle.c_tree.specs.declared.object_type.Object.{Object}
use Rattle.c_tree.specs.declared.types.IntegerType.{IntegerType}
use Rattle.c_tree.specs.declared.typed_expression.Sign.TheVariants.{Plus, Minus, Complement}
use Rattle.c_tree.specs.declared.typed_expression.Given.{Given}
use Rattle.c_tree.specs.declared.typed_expression.Given.TheVariants.{New, Old}
use Rattle.c_tree.specs.TypedExpressions.{RvalueTree, LvalueTree, ArgumentTrees, Constant, Null, Load, Decay, AddressOf, Convert, Discard, Signed, Not, Arithmetic, Compare, ComparePointers, Move, MoveFrom, Difference, And, Or, Conditional, Comma, Assign, Update, UpdatePointer, Step, StepPointer, Call, Named, Target, Element, ElementFrom, none, first}
use Rattle.c_type_rules.specs.Integers.{object_size}
use Rattle.c_type_rules.specs.ValueTypes.{type_of, given_by, is_void, integer_in}
use Rattle.c_type_laws.specs.Nodes.{nodes, place_nodes, argument_nodes}
use Rattle.graph_core.specs.Graphs as unit
use Rattle.graph_core.specs.Graphs.{Operand}
use Rattle.graph_build_names.specs.Scales.{is_scaled}
use Rattle.graph_build_names.specs.Conversions.{keeps_bits, is_narrow, is_kept_constant, unsigned_bits}
use Rattle.graph_build_names.specs.Operands.{is_two, is_two_pointers}
use Rattle.graph_build_layout.specs.declared.laid.Use.{Use}
use Rattle.graph_build_layout.specs.declared.laid.Use.TheVariants.{Anywhere, In, Nothing, Tested}
use Rattle.graph_build_names.specs.Names.{Names, scalar_named, object_of, pick}
use Rattle.graph_build_names.specs.Writes.{writes, writes_any, is_moved, is_location_moved}
use Rattle.graph_build_layout.specs.Laid.{Laid, Pair, PlaceLaid, PassedLaid, behind_move, pair, as_value, worked, use_for, operation_laid, standing, leaf_laid, moved_laid, steps_laid, compared_laid, converted_laid, joined_laid, both_laid, behind_own, void_arms_laid, arms_laid, begun_at, assigned_laid, begun_behind, updated_laid, step_laid, old_laid, called_laid, loaded_laid, object_laid}
use Rattle.graph_build_layout.specs.Layout.{laid, place_laid, address_laid, passed_laid, named_address}
use Rattle.graph_build_laws.proofs.Temporaries.{behind, place_behind, passed_is_behind, moved_behind, both_of, pair_behind}
use Rattle.graph_build_laws.proofs.Written.{NamesFew, Few, written_few, all_few}
use Rattle.graph_build_laws.proofs.Held.{location_stays}

-- an expression has a node
mutual
  pub least_nodes : (e : RvalueTree) → 1 ≤ nodes e
  least_nodes (Constant z ty) = omega arith
  least_nodes Null = omega arith
  least_nodes (Load s l) = least_place l
  least_nodes (Decay l) = least_place l
  least_nodes (AddressOf l) = omega arith
  least_nodes (Convert ty e) = least_nodes e
  least_nodes _ = omega arith

  pub least_place : (l : LvalueTree) → 1 ≤ place_nodes l
  least_place (Named o of) = omega arith
  least_place _ = omega arith

module _ (n : Names) (again : n.again ≡ true) (scalars : ℕ) (few : NamesFew n scalars) where
  picks : (a f : ℕ) → pick n a f ≡ a
  picks a f = subst (λ (b : Bool). (if b then a else f) ≡ a) (sym again) refl

  -- what is free next, and what is behind all names, where so much is computed from a name on
  abbrev Wants : (k m next top : ℕ) → Type 0
  Wants k m next top = (next ≤ k + m) × (top ≤ k + m + 1)

  abbrev Small : (k m : ℕ) → Laid → Type 0
  Small k m r = Wants k m r.next r.top

  -- the same where the value stands, which may be moved
  abbrev Steady : (k m : ℕ) → (w : ℕ → Bool) → Operand → (next : ℕ) → Type 0
  Steady k m w a next = behind_move (is_moved w a) next ≤ k + m

  move_more : (b : Bool) (t : ℕ) → (behind_move b t ≤ t + 1) × (t ≤ behind_move b t)
  move_more true t = (omega arith, omega arith)
  move_more false t = (omega arith, omega arith)

  -- the result of an operation
  operation_small : (u : Use) (k m begun free top : ℕ) → 1 ≤ m → begun + 1 ≤ k + m → free ≤ k + m + 1 → top ≤ k + m + 1 → Small k m (operation_laid n u begun free top)
  operation_small (In x) k m begun free top l p q r = (omega (arith, picks begun free), omega arith)
  operation_small Anywhere k m begun free top l p q r = (omega (arith, picks begun free), omega (arith, picks begun free))
  operation_small Nothing k m begun free top l p q r = (omega (arith, picks begun free), omega (arith, picks begun free))
  operation_small Tested k m begun free top l p q r = (omega (arith, picks begun free), omega (arith, picks begun free))

  fresh_steady : (w : ℕ → Bool) → Few scalars w → (k m begun free top : ℕ) → scalars ≤ begun → begun + 1 ≤ k + m → Steady k m w (operation_laid n Anywhere begun free top).value (operation_laid n Anywhere begun free top).next
  fresh_steady w fw k m begun free top p q = go (w (pick n begun free)) (fw (pick n begun free) (omega (arith, picks begun free)))
    where
      go : (b : Bool) → b ≡ false → behind_move b (pick n begun free + 1) ≤ k + m
      go true e = cc
      go false e = omega (arith, picks begun free)

  standing_small : (u : Use) (k m : ℕ) (r : Laid) → Small k m r → Small k m (standing n u k r)
  standing_small (In x) k m r h = (omega (arith, picks k r.next), h.1)
  standing_small Anywhere k m r h = h
  standing_small Nothing k m r h = h
  standing_small Tested k m r h = h

  leaf_small : (u : Use) (a : Operand) (k : ℕ) → Small k 1 (leaf_laid n u a k)
  leaf_small u a k = standing_small u k 1 (record { value = a; next = k; top = k }) (omega arith, omega arith)

  -- an expression
  record Light (e : RvalueTree) : Type 0 where
    least : 1 ≤ nodes e
    small : (u : Use) (k : ℕ) → scalars ≤ k → Small k (nodes e) (laid n e u k)
    steady : (k : ℕ) (w : ℕ → Bool) → Few scalars w → scalars ≤ k → Steady k (nodes e) w (laid n e Anywhere k).value (laid n e Anywhere k).next

  record LightPlace (l : LvalueTree) : Type 0 where
    least : 1 ≤ place_nodes l
    placed : (k : ℕ) → scalars ≤ k → Wants k (place_nodes l) (place_laid n l k).next (place_laid n l k).top
    held : (k : ℕ) (w : ℕ → Bool) → Few scalars w → scalars ≤ k → behind_move (is_location_moved w (place_laid n l k).location) (place_laid n l k).next ≤ k + place_nodes l
    address : (u : Use) (k : ℕ) → scalars ≤ k → Small k (place_nodes l) (address_laid n l u k)
    steady : (k : ℕ) (w : ℕ → Bool) → Few scalars w → scalars ≤ k → Steady k (place_nodes l) w (address_laid n l Anywhere k).value (address_laid n l Anywhere k).next

  -- one node to spare
  spare : (e : RvalueTree) → 1 ≤ nodes e → ((u : Use) (k : ℕ) → scalars ≤ k → ((laid n e u k).next + 1 ≤ k + nodes e) × ((laid n e u k).top ≤ k + nodes e + 1)) → Light e
  spare e l h = record {
    least = l;
    small = λ u k p. (omega (arith, (h u k p).0), (h u k p).1);
    steady = λ k w fw p. omega (arith, (h Anywhere k p).0, (move_more (is_moved w (laid n e Anywhere k).value) (laid n e Anywhere k).next).0);
  }

  -- two operands
  pair_small : (a b : RvalueTree) → Light a → Light b → (k : ℕ) → scalars ≤ k → ((both_of n a b k).next ≤ k + nodes a + nodes b) × ((both_of n a b k).top ≤ k + nodes a + nodes b + 1)
  pair_small a b ha hb k p =
      let from = (both_of n a b k).from in
      let s = ha.steady k (λ y. writes n y b) (λ y q. written_few n scalars few b y q) p in
      let f = (pair_behind n (λ y. writes n y b) k (laid n a Anywhere k) (laid n b Anywhere) (behind n a Anywhere k) (behind n b Anywhere)).1 in
      let x = hb.small Anywhere from (omega (arith, p, f)) in
      (omega (arith, s, x.0), omega (arith, s, x.1, (ha.small Anywhere k p).1, hb.least))

  -- a result of an operation at the name that was free, with a node to spare where the operands have others
  result_spare : (u : Use) (k m free top : ℕ) → 2 ≤ m → free ≤ k + m + 1 → top ≤ k + m + 1 → ((operation_laid n u k free top).next + 1 ≤ k + m) × ((operation_laid n u k free top).top ≤ k + m + 1)
  result_spare (In x) k m free top l q r = (omega (arith, picks k free), omega arith)
  result_spare Anywhere k m free top l q r = (omega (arith, picks k free), omega (arith, picks k free))
  result_spare Nothing k m free top l q r = (omega (arith, picks k free), omega (arith, picks k free))
  result_spare Tested k m free top l q r = (omega (arith, picks k free), omega (arith, picks k free))

  steps_spare : (u : Use) (two : Bool) (k m : ℕ) (q : Pair) → 2 ≤ m → q.next ≤ k + m → q.top ≤ k + m + 1 → ((steps_laid n u two k q).next + 1 ≤ k + m) × ((steps_laid n u two k q).top ≤ k + m + 1)
  steps_spare u two k m q l p r = let s = move_more two q.next in result_spare u k m (behind_move two q.next) (max q.top (behind_move two q.next)) l (omega (arith, s.0)) (omega (arith, s.0))

  compared_spare : (u : Use) (two : Bool) (k m : ℕ) (q : Pair) → 2 ≤ m → q.next + 1 ≤ k + m → q.top ≤ k + m + 1 → ((compared_laid n u two k q).next + 1 ≤ k + m) × ((compared_laid n u two k q).top ≤ k + m + 1)
  compared_spare Tested two k m q l p r = (p, r)
  compared_spare Anywhere two k m q l p r = steps_spare Anywhere two k m q l (omega arith) r
  compared_spare Nothing two k m q l p r = steps_spare Nothing two k m q l (omega arith) r
  compared_spare (In x) two k m q l p r = steps_spare (In x) two k m q l (omega arith) r

  scaled_spare : (u : Use) (k m size : ℕ) (i : Operand) (q : Pair) → 2 ≤ m → q.next ≤ k + m → q.top ≤ k + m + 1 → ((moved_laid n u k size i q).next + 1 ≤ k + m) × ((moved_laid n u k size i q).top ≤ k + m + 1)
  scaled_spare u k m size i q l p r = let s = move_more (is_scaled size i) q.next in result_spare u k m (behind_move (is_scaled size i) q.next) q.top l (omega (arith, s.0)) r

  light_pair : (f a b : RvalueTree) → nodes f ≡ nodes a + nodes b + 1 → Light a → Light b →
      ((u : Use) (k : ℕ) → (both_of n a b k).next + 1 ≤ k + nodes f → (both_of n a b k).top ≤ k + nodes f + 1 → ((laid n f u k).next + 1 ≤ k + nodes f) × ((laid n f u k).top ≤ k + nodes f + 1)) → Light f
  light_pair f a b one ha hb h = spare f (omega (arith, one)) (λ u k p. (let q = pair_small a b ha hb k p in h u k (omega (arith, q.0, one)) (omega (arith, q.1, one))))

  -- an operation on one value
  light_one : (f e : RvalueTree) → nodes f ≡ nodes e + 1 → Light e → ((u : Use) (k : ℕ) → scalars ≤ k → ((laid n f u k).next + 1 ≤ k + nodes f) × ((laid n f u k).top ≤ k + nodes f + 1)) → Light f
  light_one f e one h k = spare f (omega (arith, one)) k

  one_spare : (e : RvalueTree) → Light e → (u : Use) (k : ℕ) → scalars ≤ k → let r = laid n e Anywhere k in ((operation_laid n u k r.next r.top).next + 1 ≤ k + (nodes e + 1)) × ((operation_laid n u k r.next r.top).top ≤ k + (nodes e + 1) + 1)
  one_spare e h u k p = let x = h.small Anywhere k p in result_spare u k (nodes e + 1) (laid n e Anywhere k).next (laid n e Anywhere k).top (omega (arith, h.least)) (omega (arith, x.0)) (omega (arith, x.1))

  not_spare : (e : RvalueTree) → Light e → (u : Use) (k : ℕ) → scalars ≤ k → ((laid n (Not e) u k).next + 1 ≤ k + (nodes e + 1)) × ((laid n (Not e) u k).top ≤ k + (nodes e + 1) + 1)
  not_spare e h Tested k p = let x = h.small Tested k p in (omega (arith, x.0), omega (arith, x.1))
  not_spare e h Anywhere k p = one_spare e h Anywhere k p
  not_spare e h Nothing k p = one_spare e h Nothing k p
  not_spare e h (In x) k p = one_spare e h (In x) k p

  -- a conversion
  convert_small : (ty : IntegerType) (e : RvalueTree) → Light e → (u : Use) (k : ℕ) → scalars ≤ k → (b c : Bool) →
      Small k (nodes e) (if b then laid n e (as_value u) k else (if c then standing n u k (laid n e Anywhere k) else operation_laid n u k (laid n e Anywhere k).next (laid n e Anywhere k).top))
  convert_small ty e h u k p true c = h.small (as_value u) k p
  convert_small ty e h u k p false true = standing_small u k (nodes e) (laid n e Anywhere k) (h.small Anywhere k p)
  convert_small ty e h u k p false false =
      let x = h.small Anywhere k p in operation_small u k (nodes e) k (laid n e Anywhere k).next (laid n e Anywhere k).top h.least (omega (arith, h.least)) (omega (arith, x.0)) x.1

  convert_steady : (ty : IntegerType) (e : RvalueTree) → Light e → (k : ℕ) (w : ℕ → Bool) → Few scalars w → scalars ≤ k → (b c : Bool) →
      let r = if b then laid n e Anywhere k else (if c then standing n Anywhere k (laid n e Anywhere k) else operation_laid n Anywhere k (laid n e Anywhere k).next (laid n e Anywhere k).top) in Steady k (nodes e) w r.value r.next
  convert_steady ty e h k w fw p true c = h.steady k w fw p
  convert_steady ty e h k w fw p false true = h.steady k w fw p
  convert_steady ty e h k w fw p false false = fresh_steady w fw k (nodes e) k (laid n e Anywhere k).next (laid n e Anywhere k).top p (omega (arith, h.least))

  -- `&&` and `||`, and `?:`
  joined_spare : (u : Use) (k m top : ℕ) → 2 ≤ m → top ≤ k + m + 1 → ((joined_laid n u k top).next + 1 ≤ k + m) × ((joined_laid n u k top).top ≤ k + m + 1)
  joined_spare (In x) k m top l h = (omega (arith, picks k (pick n (k + 1) top)), h)
  joined_spare Anywhere k m top l h = (omega (arith, picks (k + 1) top), h)
  joined_spare Nothing k m top l h = (omega (arith, picks (k + 1) top), h)
  joined_spare Tested k m top l h = (omega (arith, picks (k + 1) top), h)

  both_top : (a b : RvalueTree) → Light a → Light b → (k at : ℕ) → k ≤ at → at ≤ k + 1 → scalars ≤ k → max (laid n a Tested at).top (laid n b Tested (pick n at (laid n a Tested at).top)).top ≤ k + (nodes a + nodes b + 1) + 1
  both_top a b ha hb k at q r p =
      let later = pick n at (laid n a Tested at).top in
      let same : later ≡ at = picks at (laid n a Tested at).top in
      let x = ha.small Tested at (omega (arith, p)) in let y = hb.small Tested later (omega (arith, p, same)) in
      omega (arith, x.1, y.1, same, ha.least, hb.least)

  both_spare : (a b : RvalueTree) → Light a → Light b → (u : Use) (k : ℕ) → scalars ≤ k → ((both_laid n u k (laid n a Tested) (laid n b Tested)).next + 1 ≤ k + (nodes a + nodes b + 1)) × ((both_laid n u k (laid n a Tested) (laid n b Tested)).top ≤ k + (nodes a + nodes b + 1) + 1)
  both_spare a b ha hb Tested k p = (omega (arith, ha.least), both_top a b ha hb k k (omega arith) (omega arith) p)
  both_spare a b ha hb Anywhere k p = joined_spare Anywhere k (nodes a + nodes b + 1) _ (omega (arith, ha.least)) (both_top a b ha hb k (k + 1) (omega arith) (omega arith) p)
  both_spare a b ha hb Nothing k p = joined_spare Nothing k (nodes a + nodes b + 1) _ (omega (arith, ha.least)) (both_top a b ha hb k (k + 1) (omega arith) (omega arith) p)
  both_spare a b ha hb (In x) k p = joined_spare (In x) k (nodes a + nodes b + 1) _ (omega (arith, ha.least)) (both_top a b ha hb k (k + 1) (omega arith) (omega arith) p)

  choice_spare : (c a b : RvalueTree) → Light c → Light a → Light b → (u : Use) (k : ℕ) → scalars ≤ k → (void : Bool) →
      let r = if void then void_arms_laid n k (laid n c Tested k) (laid n a Nothing) (laid n b Nothing) else arms_laid n u k (laid n c Tested (k + 1)) (laid n a (In k)) (laid n b (In k)) in
      (r.next + 1 ≤ k + (nodes c + nodes a + nodes b + 1)) × (r.top ≤ k + (nodes c + nodes a + nodes b + 1) + 1)
  choice_spare c a b hc ha hb u k p true =
      let tc = (laid n c Tested k).top in let ka = pick n k tc in let ta = (laid n a Nothing ka).top in let kb = pick n k ta in
      let sa : ka ≡ k = picks k tc in let sb : kb ≡ k = picks k ta in
      let xc = hc.small Tested k p in let xa = ha.small Nothing ka (omega (arith, p, sa)) in let xb = hb.small Nothing kb (omega (arith, p, sb)) in
      (omega (arith, picks k (max ta (laid n b Nothing kb).top), hc.least), omega (arith, xc.1, xa.1, xb.1, sa, sb))
  choice_spare c a b hc ha hb u k p false =
      let tc = (laid n c Tested (k + 1)).top in let ka = pick n (k + 1) tc in let ta = (laid n a (In k) ka).top in let kb = pick n (k + 1) ta in
      let sa : ka ≡ k + 1 = picks (k + 1) tc in let sb : kb ≡ k + 1 = picks (k + 1) ta in
      let xc = hc.small Tested (k + 1) (omega (arith, p)) in let xa = ha.small (In k) ka (omega (arith, p, sa)) in let xb = hb.small (In k) kb (omega (arith, p, sb)) in
      joined_spare u k (nodes c + nodes a + nodes b + 1) (max tc (max ta (laid n b (In k) kb).top)) (omega (arith, hc.least)) (omega (arith, xc.1, xa.1, xb.1, sa, sb, hc.least, ha.least, hb.least))

  -- what is loaded
  load_small : (l : LvalueTree) → LightPlace l → (u : Use) (k : ℕ) → scalars ≤ k → (o : Option ℕ) → Small k (place_nodes l) (loaded_laid n u o k (place_laid n l k))
  load_small l h u k p (Some x) = let y = leaf_small u (unit.Name x) k in (omega (arith, y.0, h.least), omega (arith, y.1, h.least))
  load_small l h u k p None = let x = h.placed k p in operation_small u k (place_nodes l) k (place_laid n l k).next (place_laid n l k).top h.least (omega (arith, h.least)) (omega (arith, x.0)) x.1

  load_steady : (l : LvalueTree) → LightPlace l → (k : ℕ) (w : ℕ → Bool) → Few scalars w → scalars ≤ k → (o : Option ℕ) → Steady k (place_nodes l) w (loaded_laid n Anywhere o k (place_laid n l k)).value (loaded_laid n Anywhere o k (place_laid n l k)).next
  load_steady l h k w fw p (Some x) = omega (arith, (move_more (w x) k).0, h.least)
  load_steady l h k w fw p None = fresh_steady w fw k (place_nodes l) k (place_laid n l k).next (place_laid n l k).top p (omega (arith, h.least))

  -- assignments
  abbrev Spare : (k m : ℕ) → Laid → Type 0
  Spare k m r = (r.next + 1 ≤ k + m) × (r.top ≤ k + m + 1)

  standing_spare : (u : Use) (k m : ℕ) (r : Laid) → 1 ≤ m → Spare k m r → Spare k m (standing n u k r)
  standing_spare (In x) k m r l h = (omega (arith, picks k r.next), h.1)
  standing_spare Anywhere k m r l h = h
  standing_spare Nothing k m r l h = h
  standing_spare Tested k m r l h = h

  operation_spare : (u : Use) (k m begun free top : ℕ) → begun + 2 ≤ k + m → free ≤ k + m + 1 → top ≤ k + m + 1 → Spare k m (operation_laid n u begun free top)
  operation_spare (In x) k m begun free top p q r = (omega (arith, picks begun free), omega arith)
  operation_spare Anywhere k m begun free top p q r = (omega (arith, picks begun free), omega (arith, picks begun free))
  operation_spare Nothing k m begun free top p q r = (omega (arith, picks begun free), omega (arith, picks begun free))
  operation_spare Tested k m begun free top p q r = (omega (arith, picks begun free), omega (arith, picks begun free))

  assign_spare : (l : LvalueTree) (e : RvalueTree) → LightPlace l → Light e → (u : Use) (k : ℕ) → scalars ≤ k → (o : Option ℕ) →
      Spare k (place_nodes l + nodes e + 1) (assigned_laid n u o k (place_laid n l k) (laid n e (use_for o u) (begun_at o k (λ y. writes n y e) (place_laid n l k))))
  assign_spare l e hl he u k p (Some x) =
      let r = laid n e (In x) k in let h = he.small (In x) k p in
      standing_spare u k (place_nodes l + nodes e + 1) (record { value = unit.Name x; next = r.next; top = r.top }) (omega arith) (omega (arith, h.0, hl.least), omega (arith, h.1))
  assign_spare l e hl he u k p None =
      let q = place_laid n l k in let moved = is_location_moved (λ y. writes n y e) q.location in let from = behind_move moved q.next in
      let s = hl.held k (λ y. writes n y e) (λ y z. written_few n scalars few e y z) p in
      let h = he.small (use_for None u) from (omega (arith, p, (place_behind n l k).0, (move_more moved q.next).1)) in
      (omega (arith, h.0, s), omega (arith, h.1, s, (hl.placed k p).1))

  update_spare : (l : LvalueTree) (e : RvalueTree) → LightPlace l → Light e → (u : Use) (k : ℕ) → scalars ≤ k → (narrow scaling : Bool) → ((t : ℕ) → behind_move narrow (behind_move scaling t) ≤ t + 1) → (o : Option ℕ) →
      Spare k (place_nodes l + nodes e + 1) (updated_laid n u narrow scaling o k (place_laid n l k) (laid n e Anywhere (begun_behind o k (λ y. writes n y e) (place_laid n l k))))
  update_spare l e hl he u k p narrow scaling one (Some x) =
      let from = behind_move (writes n x e) k in let m = move_more (writes n x e) k in
      let r = laid n e Anywhere from in let h = he.small Anywhere from (omega (arith, p, m.1)) in
      let free = behind_move narrow (behind_move scaling r.next) in
      standing_spare u k (place_nodes l + nodes e + 1) (record { value = unit.Name x; next = pick n k free; top = max r.top free }) (omega arith)
      (omega (arith, picks k free, hl.least, he.least), omega (arith, h.1, h.0, m.0, one r.next, hl.least))
  update_spare l e hl he u k p narrow scaling one None =
      let q = place_laid n l k in let moved = is_location_moved (λ y. writes n y e) q.location in let from = behind_move moved (q.next + 1) in
      let s = hl.held k (λ y. writes n y e) (λ y z. written_few n scalars few e y z) p in
      let m = later moved q.next in
      let r = laid n e Anywhere from in
      let h = he.small Anywhere from (omega (arith, p, (place_behind n l k).0, (move_more moved (q.next + 1)).1)) in
      let free = behind_move narrow (behind_move scaling r.next) in
      operation_spare u k (place_nodes l + nodes e + 1) q.next free (max (max q.top r.top) free) (omega (arith, (hl.placed k p).0, he.least)) (omega (arith, h.0, m, s, one r.next)) (omega (arith, h.0, h.1, m, s, one r.next, (hl.placed k p).1))
    where
      later : (b : Bool) (t : ℕ) → behind_move b (t + 1) ≤ behind_move b t + 1
      later true t = omega arith
      later false t = omega arith

  old_small : (u : Use) (x k : ℕ) → ((old_laid u x k).next ≤ k + 1) × ((old_laid u x k).top ≤ k + 1)
  old_small Nothing x k = (omega arith, omega arith)
  old_small Anywhere x k = (omega arith, omega arith)
  old_small Tested x k = (omega arith, omega arith)
  old_small (In y) x k = go (y == x)
    where
      go : (b : Bool) → let r : Laid = if b then record { value = unit.Name k; next = k + 1; top = k + 1 } else record { value = unit.Name y; next = k; top = k } in (r.next ≤ k + 1) × (r.top ≤ k + 1)
      go true = (omega arith, omega arith)
      go false = (omega arith, omega arith)

  left_spare : (u : Use) (narrow : Bool) (k pn : ℕ) (q : PlaceLaid) → q.next ≤ k + pn → q.top ≤ k + pn + 1 → Spare k (pn + 2) (Rattle.graph_build_layout.specs.Laid.left_memory_laid n u narrow k q)
  left_spare (In y) narrow k pn q h g = let m = move_more narrow (q.next + 1) in (omega (arith, picks k (behind_move narrow (q.next + 1))), omega (arith, m.0))
  left_spare Anywhere narrow k pn q h g = let m = move_more narrow (q.next + 2) in (omega (arith, picks (q.next + 1) (behind_move narrow (q.next + 2))), omega (arith, m.0))
  left_spare Nothing narrow k pn q h g = let m = move_more narrow (q.next + 2) in (omega (arith, picks (q.next + 1) (behind_move narrow (q.next + 2))), omega (arith, m.0))
  left_spare Tested narrow k pn q h g = let m = move_more narrow (q.next + 2) in (omega (arith, picks (q.next + 1) (behind_move narrow (q.next + 2))), omega (arith, m.0))

  step_spare : (g : Given) (l : LvalueTree) → LightPlace l → (u : Use) (narrow : Bool) (k : ℕ) → scalars ≤ k → (o : Option ℕ) → Spare k (place_nodes l + 2) (step_laid n g u narrow o k (place_laid n l k))
  step_spare New l h u narrow k p (Some x) =
      let m = move_more narrow k in
      standing_spare u k (place_nodes l + 2) (record { value = unit.Name x; next = pick n k (behind_move narrow k); top = max k (behind_move narrow k) }) (omega arith) (omega (arith, picks k (behind_move narrow k)), omega (arith, m.0))
  step_spare New l h u narrow k p None =
      let q = place_laid n l k in let x = h.placed k p in let m = move_more narrow (q.next + 1) in
      operation_spare u k (place_nodes l + 2) q.next (behind_move narrow (q.next + 1)) (max (max q.top q.top) (behind_move narrow (q.next + 1))) (omega (arith, x.0)) (omega (arith, x.0, m.0)) (omega (arith, x.0, x.1, m.0))
  step_spare Old l h u narrow k p (Some x) =
      let r = old_laid u x k in let s = old_small u x k in let free = behind_move narrow r.next in let m = move_more narrow r.next in
      standing_spare u k (place_nodes l + 2) (record { value = r.value; next = pick n r.next free; top = max r.top free }) (omega arith) (omega (arith, picks r.next free, s.0, h.least), omega (arith, s.0, s.1, m.0))
  step_spare Old l h u narrow k p None = let x = h.placed k p in left_spare u narrow k (place_nodes l) (place_laid n l k) x.0 x.1

  -- calls
  abbrev LightAll : ArgumentTrees → Type 0
  LightAll all = (k : ℕ) → scalars ≤ k → ((passed_laid n all k).next ≤ k + argument_nodes all) × ((passed_laid n all k).top ≤ k + argument_nodes all + 1)

  call_small : (void : Bool) (all : ArgumentTrees) → LightAll all → (u : Use) (k : ℕ) → scalars ≤ k → Small k (argument_nodes all + 1) (called_laid n u void k (passed_laid n all k).next (passed_laid n all k).top)
  call_small true all h u k p = let x = h k p in (omega (arith, picks k (passed_laid n all k).next), omega (arith, x.1))
  call_small false all h Nothing k p = let x = h k p in (omega (arith, picks k (passed_laid n all k).next), omega (arith, x.1))
  call_small false all h Anywhere k p = let x = h k p in operation_small Anywhere k (argument_nodes all + 1) k (passed_laid n all k).next (passed_laid n all k).top (omega arith) (omega arith) (omega (arith, x.0)) (omega (arith, x.1))
  call_small false all h Tested k p = let x = h k p in operation_small Tested k (argument_nodes all + 1) k (passed_laid n all k).next (passed_laid n all k).top (omega arith) (omega arith) (omega (arith, x.0)) (omega (arith, x.1))
  call_small false all h (In y) k p = let x = h k p in operation_small (In y) k (argument_nodes all + 1) k (passed_laid n all k).next (passed_laid n all k).top (omega arith) (omega arith) (omega (arith, x.0)) (omega (arith, x.1))

  call_steady : (void : Bool) (all : ArgumentTrees) → (k : ℕ) (w : ℕ → Bool) → Few scalars w → scalars ≤ k → let r = called_laid n Anywhere void k (passed_laid n all k).next (passed_laid n all k).top in Steady k (argument_nodes all + 1) w r.value r.next
  call_steady true all k w fw p = omega (arith, picks k (passed_laid n all k).next)
  call_steady false all k w fw p = fresh_steady w fw k (argument_nodes all + 1) k (passed_laid n all k).next (passed_laid n all k).top p (omega arith)

  light_constant : (e : RvalueTree) (a : Operand) → nodes e ≡ 1 → ((u : Use) (k : ℕ) → Small k 1 (laid n e u k)) → ((k : ℕ) → (laid n e Anywhere k).next ≤ k) → Light e
  light_constant e a one h g = record {
    least = omega (arith, one);
    small = λ u k p. (omega (arith, (h u k).0, one), omega (arith, (h u k).1, one));
    steady = λ k w fw p. omega (arith, g k, one, (move_more (is_moved w (laid n e Anywhere k).value) (laid n e Anywhere k).next).0);
  }

  named_small : (o : Object) (u : Use) (k : ℕ) → Small k 1 (named_address n o u k)
  named_small (object.Static i) u k = leaf_small u (unit.StaticAddress i 0) k
  named_small (object.Literal i) u k = leaf_small u (unit.StaticAddress (n.statics + i) 0) k
  named_small (object.Automatic v) u k = go (object_of n v)
    where
      go : (o : Option ℕ) → Small k 1 (object_laid n u o k)
      go None = leaf_small u (unit.Constant 0) k
      go (Some y) = operation_small u k 1 k k k (omega arith) (omega arith) (omega arith) (omega arith)

  named_steady : (o : Object) (k : ℕ) (w : ℕ → Bool) → Few scalars w → scalars ≤ k → Steady k 1 w (named_address n o Anywhere k).value (named_address n o Anywhere k).next
  named_steady (object.Static i) k w fw p = omega arith
  named_steady (object.Literal i) k w fw p = omega arith
  named_steady (object.Automatic v) k w fw p = go (object_of n v)
    where
      go : (o : Option ℕ) → Steady k 1 w (object_laid n Anywhere o k).value (object_laid n Anywhere o k).next
      go None = omega arith
      go (Some y) = fresh_steady w fw k 1 k k k p (omega arith)

  light_element : (a b : RvalueTree) (l : LvalueTree) (size : ℕ) (i : ℕ → Operand) → Light a → Light b → place_nodes l ≡ nodes a + nodes b + 1 →
      ((k : ℕ) → place_laid n l k ≡ Rattle.graph_build_layout.specs.Laid.at_laid (moved_laid n Anywhere k size (i k) (both_of n a b k))) →
      ((u : Use) (k : ℕ) → address_laid n l u k ≡ moved_laid n u k size (i k) (both_of n a b k)) → LightPlace l
  light_element a b l size i ha hb one is_place is_address =
      let m = nodes a + nodes b + 1 in
      let s : (u : Use) (k : ℕ) → scalars ≤ k → Spare k m (moved_laid n u k size (i k) (both_of n a b k)) = λ u k p. (let q = pair_small a b ha hb k p in scaled_spare u k m size (i k) (both_of n a b k) (omega (arith, ha.least)) (omega (arith, q.0)) (omega (arith, q.1))) in record {
        least = omega (arith, one);
        placed = λ k p. subst (λ (q : PlaceLaid). Wants k (place_nodes l) q.next q.top) (sym (is_place k)) (omega (arith, (s Anywhere k p).0, one), omega (arith, (s Anywhere k p).1, one));
        held = λ k w fw p. subst (λ (q : PlaceLaid). behind_move (is_location_moved w q.location) q.next ≤ k + place_nodes l) (sym (is_place k))
            (let r = moved_laid n Anywhere k size (i k) (both_of n a b k) in omega (arith, (s Anywhere k p).0, one, (move_more (is_moved w r.value) r.next).0));
        address = λ u k p. subst (λ (r : Laid). Small k (place_nodes l) r) (sym (is_address u k)) (omega (arith, (s u k p).0, one), omega (arith, (s u k p).1, one));
        steady = λ k w fw p. subst (λ (r : Laid). Steady k (place_nodes l) w r.value r.next) (sym (is_address Anywhere k))
            (let r = moved_laid n Anywhere k size (i k) (both_of n a b k) in omega (arith, (s Anywhere k p).0, one, (move_more (is_moved w r.value) r.next).0));
      }

  light_first : (e : RvalueTree) (rest : ArgumentTrees) → Light e → LightAll rest → LightAll (first e rest)
  light_first e rest h g k p =
      let r = laid n e Anywhere k in let moved = is_moved (λ y. writes_any n y rest) r.value in let from = behind_move moved r.next in
      let s = h.steady k (λ y. writes_any n y rest) (λ y q. all_few n scalars few rest y q) p in
      let x = g from (omega (arith, p, (behind n e Anywhere k).0, (move_more moved r.next).1)) in
      (omega (arith, s, x.0), omega (arith, s, x.1, (h.small Anywhere k p).1))

  mutual
    light : (e : RvalueTree) → Light e
    light (Constant z ty) = light_constant (Constant z ty) (unit.Constant (unsigned_bits z)) refl (λ u k. leaf_small u (unit.Constant (unsigned_bits z)) k) (λ k. omega arith)
    light Null = light_constant Null (unit.Constant 0) refl (λ u k. leaf_small u (unit.Constant 0) k) (λ k. omega arith)
    light (Load s l) = (let h = light_place l in record { least = h.least; small = λ u k p. load_small l h u k p (scalar_named n l); steady = λ k w fw p. load_steady l h k w fw p (scalar_named n l) })
    light (Decay l) = (let h = light_place l in record { least = h.least; small = h.address; steady = h.steady })
    light (AddressOf l) = (let h = light_place l in spare (AddressOf l) (omega arith) (λ u k p. (omega (arith, (h.address u k p).0), omega (arith, (h.address u k p).1))))
    light (Convert ty e) = (let h = light e in let b = keeps_bits (integer_in (type_of n.results e)) ty in record {
      least = h.least;
      small = λ u k p. convert_small ty e h u k p b (is_kept_constant ty (laid n e Anywhere k).value);
      steady = λ k w fw p. convert_steady ty e h k w fw p b (is_kept_constant ty (laid n e Anywhere k).value);
    })
    light (Discard e) = (let h = light e in spare (Discard e) (omega arith) (λ u k p. (omega (arith, (h.small Nothing k p).0), omega (arith, (h.small Nothing k p).1))))
    light (Signed Plus ty e) = (let h = light e in spare (Signed Plus ty e) (omega arith) (λ u k p. (omega (arith, (h.small (as_value u) k p).0), omega (arith, (h.small (as_value u) k p).1))))
    light (Signed Minus ty e) = (let h = light e in light_one (Signed Minus ty e) e refl h (one_spare e h))
    light (Signed Complement ty e) = (let h = light e in light_one (Signed Complement ty e) e refl h (one_spare e h))
    light (Not e) = (let h = light e in light_one (Not e) e refl h (not_spare e h))
    light (Arithmetic o ty a b) = light_pair (Arithmetic o ty a b) a b refl (light a) (light b) (λ u k p q. result_spare u k (nodes a + nodes b + 1) (both_of n a b k).next (both_of n a b k).top (omega (arith, least_nodes a)) (omega (arith, p)) q)
    light (Compare o ty a b) = light_pair (Compare o ty a b) a b refl (light a) (light b) (λ u k p q. compared_spare u (is_two o) k (nodes a + nodes b + 1) (both_of n a b k) (omega (arith, least_nodes a)) p q)
    light (ComparePointers o a b) = light_pair (ComparePointers o a b) a b refl (light a) (light b) (λ u k p q. compared_spare u (is_two_pointers o) k (nodes a + nodes b + 1) (both_of n a b k) (omega (arith, least_nodes a)) p q)
    light (Move d of a b) = light_pair (Move d of a b) a b refl (light a) (light b) (λ u k p q. scaled_spare u k (nodes a + nodes b + 1) (object_size of) (both_of n a b k).right (both_of n a b k) (omega (arith, least_nodes a)) (omega (arith, p)) q)
    light (MoveFrom a of b) = light_pair (MoveFrom a of b) a b refl (light a) (light b) (λ u k p q. scaled_spare u k (nodes a + nodes b + 1) (object_size of) (both_of n a b k).left (both_of n a b k) (omega (arith, least_nodes a)) (omega (arith, p)) q)
    light (Difference of a b) = light_pair (Difference of a b) a b refl (light a) (light b) (λ u k p q. steps_spare u (not (object_size of == 1)) k (nodes a + nodes b + 1) (both_of n a b k) (omega (arith, least_nodes a)) (omega (arith, p)) q)
    light (And a b) = (let ha = light a in let hb = light b in spare (And a b) (omega arith) (both_spare a b ha hb))
    light (Or a b) = (let ha = light a in let hb = light b in spare (Or a b) (omega arith) (both_spare a b ha hb))
    light (Conditional c a b) = (let hc = light c in let ha = light a in let hb = light b in spare (Conditional c a b) (omega arith) (λ u k p. choice_spare c a b hc ha hb u k p (is_void (type_of n.results a))))
    light (Comma a b) = (
        let ha = light a in let hb = light b in
        let at : ℕ → ℕ = λ k. pick n k (laid n a Nothing k).top in
        let same : (k : ℕ) → at k ≡ k = λ k. picks k (laid n a Nothing k).top in record {
          least = omega arith;
          small = λ u k p. (let x = hb.small u (at k) (omega (arith, p, same k)) in (omega (arith, x.0, same k), omega (arith, x.1, (ha.small Nothing k p).1, same k)));
          steady = λ k w fw p. (let x = hb.steady (at k) w fw (omega (arith, p, same k)) in omega (arith, x, same k));
        })
    light (Assign s l e) = (let hl = light_place l in let he = light e in spare (Assign s l e) (omega arith) (λ u k p. assign_spare l e hl he u k p (scalar_named n l)))
    light (Update o ty v l e) = (let hl = light_place l in let he = light e in spare (Update o ty v l e) (omega arith) (λ u k p. update_spare l e hl he u k p (is_narrow ty) false (λ t. (move_more (is_narrow ty) t).0) (scalar_named n l)))
    light (UpdatePointer d of l e) = (let hl = light_place l in let he = light e in spare (UpdatePointer d of l e) (omega arith)
        (λ u k p. (let b = is_scaled (object_size of) (laid n e Anywhere (begun_behind (scalar_named n l) k (λ y. writes n y e) (place_laid n l k))).value in update_spare l e hl he u k p false b (λ t. (move_more b t).0) (scalar_named n l))))
    light (Step d g ty v l) = (let h = light_place l in spare (Step d g ty v l) (omega arith) (λ u k p. step_spare g l h u (is_narrow ty) k p (scalar_named n l)))
    light (StepPointer d g of l) = (let h = light_place l in spare (StepPointer d g of l) (omega arith) (λ u k p. step_spare g l h u false k p (scalar_named n l)))
    light (Call c all) = (let h = light_all all in record {
      least = omega arith;
      small = λ u k p. call_small (is_void (given_by n.results c)) all h u k p;
      steady = λ k w fw p. call_steady (is_void (given_by n.results c)) all k w fw p;
    })

    light_place : (l : LvalueTree) → LightPlace l
    light_place (Named o of) = record {
      least = omega arith;
      placed = λ k p. (omega arith, omega arith);
      held = λ k w fw p. (move_more (is_location_moved w (Rattle.graph_build_layout.specs.Layout.named_location n o)) k).0;
      address = λ u k p. named_small o u k;
      steady = λ k w fw p. named_steady o k w fw p;
    }
    light_place (Target of e) = (let h = light e in record {
      least = omega arith;
      placed = λ k p. (omega (arith, (h.small Anywhere k p).0), omega (arith, (h.small Anywhere k p).1));
      held = λ k w fw p. omega (arith, h.steady k w fw p);
      address = λ u k p. (omega (arith, (h.small (worked u) k p).0), omega (arith, (h.small (worked u) k p).1));
      steady = λ k w fw p. omega (arith, h.steady k w fw p);
    })
    light_place (Element of a b) = light_element a b (Element of a b) (object_size of) (λ k. (both_of n a b k).right) (light a) (light b) refl (λ k. refl) (λ u k. refl)
    light_place (ElementFrom of a b) = light_element a b (ElementFrom of a b) (object_size of) (λ k. (both_of n a b k).left) (light a) (light b) refl (λ k. refl) (λ u k. refl)

    light_all : (all : ArgumentTrees) → LightAll all
    light_all none = λ k p. (omega arith, omega arith)
    light_all (first e rest) = light_first e rest (light e) (light_all rest)

  -- The names that an expression uses from one on, where names are used again.
  pub top_most : (e : RvalueTree) (u : Use) (k : ℕ) → scalars ≤ k → (laid n e u k).top ≤ k + nodes e + 1
  top_most e u k p = ((light e).small u k p).1

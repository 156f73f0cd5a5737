-- The pieces of code have a property of the rules where what they are for has it.
use Rattle.std.proofs.Common.{◌≡◌, ℕ, ◌+◌, ◌≤◌, Bool, true, false, Option, Some, None, List, [], ◌∷◌, refl, sym, subst, arith, if◌then◌else◌, ◌==◌, not}
use Rattle.c_tree.specs.declared.types.IntegerType.{IntegerType}
use Rattle.c_tree.specs.declared.typed_expression.Comparison as declared-comparison
use Rattle.c_tree.specs.declared.typed_expression.Comparison.TheVariants as comparison
use Rattle.c_tree.specs.declared.typed_expression.Sign.{Sign}
use Rattle.c_tree.specs.declared.typed_expression.Sign.TheVariants.{Plus, Minus, Complement}
use Rattle.c_tree.specs.declared.object_type.Object as declared-object
use Rattle.c_tree.specs.declared.object_type.Object.TheVariants as object
use Rattle.c_type_rules.specs.Integers.{integer}
use Rattle.word_base.specs.declared.operation.Operation.{Operation}
use Rattle.word_base.specs.declared.operation.Operation.TheVariants as operation
use Rattle.graph_core.specs.declared.instruction.Element as declared-element
use Rattle.graph_core.specs.declared.instruction.Callee.{Callee}
use Rattle.graph_core.specs.declared.block.Comparison.TheVariants as branch
use Rattle.graph_core.specs.Graphs as unit
use Rattle.graph_core.specs.Graphs.{Operand, Location, Instruction, Operate, Truncate, Address, Store, Call, Block, Jump}
use Rattle.graph_core.specs.Uses.{is_computation, target_of}
use Rattle.graph_build_names.specs.Conversions.{is_narrow}
use Rattle.graph_build_names.specs.Operands.{held, is_two, is_two_pointers, operand_at, located_at}
use Rattle.graph_build_names.specs.Scales.{is_scaled, shift_of, scaled}
use Rattle.graph_build_layout.specs.declared.laid.Use.{Use}
use Rattle.graph_build_names.specs.Names.{Names, pick, object_of}
use Rattle.graph_build_names.specs.Writes.{is_that}
use Rattle.graph_build_layout.specs.Laid.{Laid, Pair, PlaceLaid, behind_move, operation_laid, standing, moved_laid, steps_laid, compared_laid, left_scalar_laid, left_memory_laid, called_laid, object_laid}
use Rattle.graph_build_layout.specs.Layout.{named_address}
use Rattle.graph_build_steps.specs.Rules.{truncation_to, operation_for, move_by}
use Rattle.graph_build_steps.specs.Drafts.{Made, Goal, To, Unused, Either, use_of, instruction_before, ending, leaf, target, follow, tested, scale, scaling, unscaling, move_if, note, noted, compare_by, compare_pointers_by, with_inner_block, forked, stored, called_by, renew, operated, code_scaled_pair, compared, compared_value, compared_pointers, compared_pointers_value, label_of, hold_location, held_location, branch_by}
use Rattle.graph_build_steps.specs.Drafts as drafts
use Rattle.graph_build_steps.specs.declared.site.Two as declared-two
use Rattle.graph_build_steps.specs.declared.site.Two.TheVariants as two
use Rattle.graph_build_steps.specs.declared.change.Change as declared-change
use Rattle.graph_build_steps.specs.declared.change.Change.TheVariants as change
use Rattle.graph_build_steps.specs.Steps.{signed, finished, element_distance, changed, changed_element, takes_more, renewed_scalar, loaded_first, renewed_memory, left_scalar, left_memory, object_address, or_zero}
use Rattle.graph_build_laws.proofs.Temporaries.{pick_least, moved_behind}
use Rattle.graph_build_laws.proofs.GraphMarkingPieces.{grows_none}
use Rattle.image_truth_units.proofs.Rules.{stands, lies, NoneStands, Clear, Marking}
use Rattle.base_laws.proofs.Numbers.{are_equal as same_name, false_true}

module _ (x : Marking) where
  abbrev pub n : Names
  n = x.names

  abbrev pub H : Option ℕ → Made → Type 0
  H w m = x.Has w m

  abbrev pub Own : ℕ → Type 0
  Own y = x.own y ≡ false

  abbrev pub S : Operand → Type 0
  S a = stands x.own a ≡ false

  abbrev pub Loc : Location → Type 0
  Loc l = lies x.own l ≡ false

  abbrev pub From : ℕ → Type 0
  From t = x.scalars ≤ t

  abbrev pub LeadsBoth : (one other : ℕ) → List Block → Type 0
  LeadsBoth one other inner = x.Leads one inner × x.Leads other inner

  -- What a value is for has the property, if the value stands in no name that is asked about.
  abbrev pub For : Operand → Goal → Type 0
  For a (To None m) = S a → H None m
  For a (To (Some y) m) = Own y → S a → H (Some y) m
  For a (Unused m) = S a → H None m
  For a (Either one other inner) = LeadsBoth one other inner

  -- an instruction computes the name that it is given
  abbrev pub Computes : (ℕ → Instruction) → Type 0
  Computes i = (y : ℕ) → (is_computation (i y) ≡ true) × (target_of (i y) ≡ Some y) × Clear x.own (i y)

  -- the property holds before each instruction that computes a name
  abbrev pub Last : Option ℕ → ℕ → Made → Type 0
  Last w y m = (i : Instruction) → is_computation i ≡ true → target_of i ≡ Some y → Clear x.own i → H w (instruction_before i m)

  pub last_write : (y : ℕ) (m : Made) → (Own y → H (Some y) m) → Last None y m
  last_write y m k i c t r = x.rules.write i y m c t r k

  pub last_fresh : (y : ℕ) (m : Made) → From y → (Own y → H None m) → Last None y m
  last_fresh y m le k i c t r = x.rules.pass None i y m c t le r k

  pub last_pass : (w : Option ℕ) (y : ℕ) (m : Made) → From y → (Own y → H w m) → Last w y m
  last_pass w y m le k i c t r = x.rules.pass w i y m c t le r k

  pub last_change : (w : Option ℕ) (y : ℕ) (m : Made) → is_that y w ≡ false → x.may y → H w m → Last w y (note y m)
  last_change w y m differs may k i c t r = x.rules.change w i y m c t differs may r k

  pub tested_has : (a : Operand) (one other : ℕ) (inner : List Block) → S a → LeadsBoth one other inner → H None (tested a one other inner)
  tested_has a one other inner s h = x.rules.branch branch.NotEqual a drafts.zero one other inner s refl h.0 h.1

  -- a value that stands
  pub leaf_has : (g : Goal) (t : ℕ) (r : Laid) → S r.value → For (standing n (use_of g) t r).value g → H None (leaf g r.value)
  leaf_has (To None m) t r s k = k s
  leaf_has (To (Some y) m) t r s k = x.rules.write (unit.Move y r.value) y m refl refl s (λ o. k o o)
  leaf_has (Unused m) t r s k = k s
  leaf_has (Either one other inner) t r s k = tested_has r.value one other inner s k

  -- a value that nothing uses
  pub zero_has : (g : Goal) (v : Operand) → S v → For v g → H None (leaf g drafts.zero)
  zero_has (To None m) v s k = k s
  zero_has (To (Some y) m) v s k = x.rules.write (unit.Move y drafts.zero) y m refl refl refl (λ o. k o s)
  zero_has (Unused m) v s k = k s
  zero_has (Either one other inner) v s k = tested_has drafts.zero one other inner refl k

  pub least_pick : (begun free : ℕ) → From begun → From free → From (pick n begun free)
  least_pick begun free p q = pick_least n x.scalars begun free p q

  -- what follows the name that an operation writes
  pub target_last : (g : Goal) (begun free top : ℕ) → From begun → From free → For (operation_laid n (use_of g) begun free top).value g → Last None (target g (pick n begun free)) (follow g (pick n begun free))
  target_last (To None m) begun free top p q k = last_fresh (pick n begun free) m (least_pick begun free p q) k
  target_last (To (Some y) m) begun free top p q k = last_write y m (λ o. k o o)
  target_last (Unused m) begun free top p q k = last_fresh (pick n begun free) m (least_pick begun free p q) k
  target_last (Either one other inner) begun free top p q k =
      let own = pick n begun free in last_fresh own (tested (unit.Name own) one other inner) (least_pick begun free p q) (λ o. tested_has (unit.Name own) one other inner o k)

  pub operated_has : (g : Goal) (begun free top : ℕ) (i : ℕ → Instruction) → From begun → From free → Computes i → For (operation_laid n (use_of g) begun free top).value g → H None (operated n g begun free i)
  operated_has g begun free top i p q c k =
      let y = target g (pick n begun free) in let f = c y in target_last g begun free top p q k (i y) f.0 f.1 f.2

  -- moves
  pub held_clear : (b : Bool) (a : Operand) (t : ℕ) → S a → (b ≡ true → Own t) → S (held b a t)
  held_clear true a t s o = o refl
  held_clear false a t s o = s

  pub move_has : (b : Bool) (t : ℕ) (a : Operand) (m : Made) → From t → S a → ((b ≡ true → Own t) → H None m) → H None (move_if b t a m)
  move_has true t a m le s k = x.rules.pass None (unit.Move t a) t m refl refl le s (λ o. k (λ e. o))
  move_has false t a m le s k = k (λ e. absurd (false_true e))

  operand_clear : (l : Location) → Loc l → S (operand_at l)
  operand_clear (unit.At a) h = h
  operand_clear (unit.Automatic o k) h = refl
  operand_clear (unit.Static o) h = refl

  pub hold_has : (b : Bool) (t : ℕ) (l : Location) (m : Made) → From t → Loc l → ((b ≡ true → Own t) → H None m) → H None (hold_location b t l m)
  hold_has b t l m le s k = move_has b t (operand_at l) m le (operand_clear l s) k

  located_clear : (l : Location) (t : ℕ) → Own t → Loc l → Loc (located_at l (unit.Name t))
  located_clear (unit.At a) t o s = o
  located_clear (unit.Automatic i k) t o s = refl
  located_clear (unit.Static i) t o s = refl

  pub location_clear : (b : Bool) (t : ℕ) (l : Location) → Loc l → (b ≡ true → Own t) → Loc (held_location b t l)
  location_clear true t l s o = located_clear l t (o refl) s
  location_clear false t l s o = s

  -- a scaled index
  scaled_clear : (size : ℕ) (a : Operand) (t : ℕ) → (is_scaled size a ≡ true → Own t) → S a → S (scaled size a t)
  scaled_clear size (unit.Constant w) t o s = refl
  scaled_clear size (unit.Name y) t o s = go (size == 1) o
    where
      go : (b : Bool) → (not b ≡ true → Own t) → S (if b then unit.Name y else unit.Name t)
      go true o = s
      go false o = o refl
  scaled_clear size (unit.StaticAddress i k) t o s = go (size == 1) o
    where
      go : (b : Bool) → (not b ≡ true → Own t) → S (if b then unit.StaticAddress i k else unit.Name t)
      go true o = refl
      go false o = o refl

  scale_has : (w : Option ℕ) (size : ℕ) (a : Operand) (t : ℕ) (m : Made) → From t → S a → ((is_scaled size a ≡ true → Own t) → H w m) → H w (scale size a t m)
  scale_has w size a t m le s k = go (is_scaled size a) k
    where
      by : (o : Option ℕ) (next : Made) → (Own t → H w next) → H w (instruction_before (scaling o size t a) next)
      by (Some j) next k = x.rules.pass w (Operate t operation.Sll a (unit.Constant j)) t next refl refl le (s, refl) k
      by None next k = x.rules.pass w (Operate t operation.Mul a (scaled size (unit.Constant 1) 0)) t next refl refl le (s, refl) k

      go : (b : Bool) → ((b ≡ true → Own t) → H w m) → H w (if b then instruction_before (scaling (shift_of size) size t a) m else m)
      go true k = by (shift_of size) m (λ o. k (λ e. o))
      go false k = k (λ e. absurd (false_true e))

  unscaling_computes : (o : Option ℕ) (size t : ℕ) → Own t → Computes (λ y. unscaling o size y t)
  unscaling_computes None size t own y = (refl, refl, (own, refl))
  unscaling_computes (Some k) size t own y = (refl, refl, (own, refl))

  pub scaled_pair : (g : Goal) (begun : ℕ) (o : Operation) (bytes : ℕ) (p i : Operand) (free top : ℕ) → From begun → From free → S p → S i → For (operation_laid n (use_of g) begun (behind_move (is_scaled bytes i) free) top).value g → H None (code_scaled_pair n g begun o bytes p i free)
  scaled_pair g begun o bytes p i free top lb lf sp si k =
      let up = (moved_behind (is_scaled bytes i) free).0 in
      scale_has None bytes i free (operated n g begun (behind_move (is_scaled bytes i) free) (λ y. Operate y o p (scaled bytes i free))) lf si
      (λ own. operated_has g begun (behind_move (is_scaled bytes i) free) top (λ y. Operate y o p (scaled bytes i free)) lb (omega (arith, lf, up)) (λ y. (refl, refl, (sp, scaled_clear bytes i free own si))) k)

  -- a new value in its type
  renew_has : (w : Option ℕ) (ty : IntegerType) (y t : ℕ) (i : ℕ → Instruction) (m : Made) → Last w y m → From t → Computes i → H w (renew ty y t i m)
  renew_has w ty y t i m last le c = go (is_narrow ty)
    where
      go : (b : Bool) → H w (if b then instruction_before (i t) (instruction_before (Truncate y (truncation_to ty) (unit.Name t)) m) else instruction_before (i y) m)
      go true = let f = c t in x.rules.pass w (i t) t (instruction_before (Truncate y (truncation_to ty) (unit.Name t)) m) f.0 f.1 le f.2 (λ o. last (Truncate y (truncation_to ty) (unit.Name t)) refl refl o)
      go false = let f = c y in last (i y) f.0 f.1 f.2

  pub changed_has : (w : Option ℕ) (c : declared-change.Change) (y t free : ℕ) (old by : Operand) (m : Made) → Last w y m → From t → From free → S old → S by → H w (changed c y t free old by m)
  changed_has w (change.Integer o ty v) y t free old by m last lt lf s r = renew_has w ty y t (λ z. Operate z (operation_for o v) old by) m last lt (λ z. (refl, refl, (s, r)))
  changed_has w (change.Pointer d bytes) y t free old by m last lt lf s r =
      let i : Instruction = Operate y (move_by d) old (scaled bytes by free) in
      scale_has w bytes by free (instruction_before i m) lf r (λ o. last i refl refl (s, scaled_clear bytes by free o r))

  -- comparisons
  compare_has : (o : declared-comparison.Comparison) (s : Bool) (y t : ℕ) (a b : Operand) (m : Made) → Last None y m → From t → S a → S b → H None (compare_by o s y t a b m)
  compare_has comparison.Less s y t a b m last le p q = last _ refl refl (p, q)
  compare_has comparison.Greater s y t a b m last le p q = last _ refl refl (q, p)
  compare_has comparison.LessEqual s y t a b m last le p q = x.rules.pass None _ t _ refl refl le (q, p) (λ o. last _ refl refl (o, refl))
  compare_has comparison.GreaterEqual s y t a b m last le p q = x.rules.pass None _ t _ refl refl le (p, q) (λ o. last _ refl refl (o, refl))
  compare_has comparison.Equal s y t a b m last le p q = x.rules.pass None _ t _ refl refl le (p, q) (λ o. last _ refl refl (o, refl))
  compare_has comparison.NotEqual s y t a b m last le p q = x.rules.pass None _ t _ refl refl le (p, q) (λ o. last _ refl refl (refl, o))

  pointers_have : (o : declared-comparison.Comparison) (y t : ℕ) (a b : Operand) (m : Made) → Last None y m → From t → S a → S b → H None (compare_pointers_by o y t a b m)
  pointers_have comparison.Equal y t a b m last le p q = last _ refl refl (p, q)
  pointers_have comparison.NotEqual y t a b m last le p q = x.rules.pass None _ t _ refl refl le (p, q) (λ o. last _ refl refl (o, refl))
  pointers_have comparison.Less y t a b m last le p q = last _ refl refl (p, q)
  pointers_have comparison.Greater y t a b m last le p q = last _ refl refl (q, p)
  pointers_have comparison.LessEqual y t a b m last le p q = x.rules.pass None _ t _ refl refl le (q, p) (λ o. last _ refl refl (o, refl))
  pointers_have comparison.GreaterEqual y t a b m last le p q = x.rules.pass None _ t _ refl refl le (p, q) (λ o. last _ refl refl (o, refl))

  branched_has : (o : declared-comparison.Comparison) (s : Bool) (a b : Operand) (one other : ℕ) (inner : List Block) → S a → S b → LeadsBoth one other inner → H None (ending (branch_by o s a b one other) inner)
  branched_has comparison.Less s a b one other inner p q h = x.rules.branch _ _ _ one other inner p q h.0 h.1
  branched_has comparison.Greater s a b one other inner p q h = x.rules.branch _ _ _ one other inner q p h.0 h.1
  branched_has comparison.LessEqual s a b one other inner p q h = x.rules.branch _ _ _ one other inner q p h.0 h.1
  branched_has comparison.GreaterEqual s a b one other inner p q h = x.rules.branch _ _ _ one other inner p q h.0 h.1
  branched_has comparison.Equal s a b one other inner p q h = x.rules.branch _ _ _ one other inner p q h.0 h.1
  branched_has comparison.NotEqual s a b one other inner p q h = x.rules.branch _ _ _ one other inner p q h.0 h.1

  value_has : (g : Goal) (s : Bool) (o : declared-comparison.Comparison) (begun : ℕ) (b : Bool) (q : Pair) (top : ℕ) → From begun → From q.next → S q.left → S q.right → For (operation_laid n (use_of g) begun (behind_move b q.next) top).value g → H None (compared_value n g s o begun b q)
  value_has g s o begun b q top lb ln sl sr k =
      let up = (moved_behind b q.next).0 in
      let own = pick n begun (behind_move b q.next) in
      compare_has o s (target g own) (pick n begun q.next) q.left q.right (follow g own) (target_last g begun (behind_move b q.next) top lb (omega (arith, ln, up)) k) (least_pick begun q.next lb ln) sl sr

  compared_has : (g : Goal) (s : Bool) (o : declared-comparison.Comparison) (begun : ℕ) (b : Bool) (q : Pair) → From begun → From q.next → S q.left → S q.right → For (compared_laid n (use_of g) b begun q).value g → H None (compared n g s o begun b q)
  compared_has (Either one other inner) s o begun b q lb ln sl sr k = branched_has o s q.left q.right one other inner sl sr k
  compared_has (To None m) s o begun b q lb ln sl sr k = value_has (To None m) s o begun b q 0 lb ln sl sr k
  compared_has (To (Some y) m) s o begun b q lb ln sl sr k = value_has (To (Some y) m) s o begun b q 0 lb ln sl sr k
  compared_has (Unused m) s o begun b q lb ln sl sr k = value_has (Unused m) s o begun b q 0 lb ln sl sr k

  pointers_value : (g : Goal) (o : declared-comparison.Comparison) (begun : ℕ) (q : Pair) (top : ℕ) → From begun → From q.next → S q.left → S q.right → For (operation_laid n (use_of g) begun (behind_move (is_two_pointers o) q.next) top).value g → H None (compared_pointers_value n g o begun q)
  pointers_value g o begun q top lb ln sl sr k =
      let b = is_two_pointers o in
      let up = (moved_behind b q.next).0 in
      let own = pick n begun (behind_move b q.next) in
      pointers_have o (target g own) (pick n begun q.next) q.left q.right (follow g own) (target_last g begun (behind_move b q.next) top lb (omega (arith, ln, up)) k) (least_pick begun q.next lb ln) sl sr

  pointers_has : (g : Goal) (o : declared-comparison.Comparison) (begun : ℕ) (q : Pair) → From begun → From q.next → S q.left → S q.right → For (compared_laid n (use_of g) (is_two_pointers o) begun q).value g → H None (compared_pointers n g o begun q)
  pointers_has (Either one other inner) o begun q lb ln sl sr k = branched_has o false q.left q.right one other inner sl sr k
  pointers_has (To None m) o begun q lb ln sl sr k = pointers_value (To None m) o begun q 0 lb ln sl sr k
  pointers_has (To (Some y) m) o begun q lb ln sl sr k = pointers_value (To (Some y) m) o begun q 0 lb ln sl sr k
  pointers_has (Unused m) o begun q lb ln sl sr k = pointers_value (Unused m) o begun q 0 lb ln sl sr k

  distance_has : (bytes : ℕ) (g : Goal) (begun : ℕ) (q : Pair) → From begun → From q.next → S q.left → S q.right → For (steps_laid n (use_of g) (not (bytes == 1)) begun q).value g → H None (element_distance n bytes g begun q)
  distance_has bytes g begun q lb ln sl sr k = go (bytes == 1) k
    where
      go : (b : Bool) → For (steps_laid n (use_of g) (not b) begun q).value g →
          H None (if b then operated n g begun q.next (λ y. Operate y operation.Sub q.left q.right) else instruction_before (Operate (pick n begun q.next) operation.Sub q.left q.right) (operated n g begun (q.next + 1) (λ y. unscaling (shift_of bytes) bytes y (pick n begun q.next))))
      go true k = operated_has g begun q.next _ (λ y. Operate y operation.Sub q.left q.right) lb ln (λ y. (refl, refl, (sl, sr))) k
      go false k =
          let t = pick n begun q.next in
          let next = operated n g begun (q.next + 1) (λ y. unscaling (shift_of bytes) bytes y t) in
          x.rules.pass None (Operate t operation.Sub q.left q.right) t next refl refl (least_pick begun q.next lb ln) (sl, sr)
          (λ o. operated_has g begun (q.next + 1) _ (λ y. unscaling (shift_of bytes) bytes y t) lb (omega (arith, ln)) (unscaling_computes (shift_of bytes) bytes t o) k)

  -- where the result of a pair stands
  abbrev pub two_value : declared-two.Two → Use → (begun : ℕ) → Pair → Operand
  two_value (two.Arithmetic o ty) u begun q = (operation_laid n u begun q.next q.top).value
  two_value (two.Compare o ty) u begun q = (compared_laid n u (is_two o) begun q).value
  two_value (two.ComparePointers o) u begun q = (compared_laid n u (is_two_pointers o) begun q).value
  two_value (two.Move d bytes) u begun q = (moved_laid n u begun bytes q.right q).value
  two_value (two.MoveFrom bytes) u begun q = (moved_laid n u begun bytes q.left q).value
  two_value (two.Difference bytes) u begun q = (steps_laid n u (not (bytes == 1)) begun q).value

  pub finished_has : (k : declared-two.Two) (g : Goal) (begun : ℕ) (q : Pair) → From begun → From q.next → S q.left → S q.right → For (two_value k (use_of g) begun q) g → H None (finished n k g begun q)
  finished_has (two.Arithmetic o ty) g begun q lb ln sl sr h = operated_has g begun q.next q.top (λ y. Operate y (operation_for o ty) q.left q.right) lb ln (λ y. (refl, refl, (sl, sr))) h
  finished_has (two.Compare o ty) g begun q lb ln sl sr h = compared_has g (integer ty).is_signed o begun (is_two o) q lb ln sl sr h
  finished_has (two.ComparePointers o) g begun q lb ln sl sr h = pointers_has g o begun q lb ln sl sr h
  finished_has (two.Move d bytes) g begun q lb ln sl sr h = scaled_pair g begun (move_by d) bytes q.left q.right q.next q.top lb ln sl sr h
  finished_has (two.MoveFrom bytes) g begun q lb ln sl sr h = scaled_pair g begun operation.Add bytes q.right q.left q.next q.top lb ln sr sl h
  finished_has (two.Difference bytes) g begun q lb ln sl sr h = distance_has bytes g begun q lb ln sl sr h

  pub signed_computes : (o : Sign) (a : Operand) → S a → Computes (signed o a)
  signed_computes Plus a s y = (refl, refl, s)
  signed_computes Minus a s y = (refl, refl, (refl, s))
  signed_computes Complement a s y = (refl, refl, (s, refl))

  -- a scalar's new value
  pub noted_has : (y : ℕ) (g : Goal) (t : ℕ) (r : Laid) → r.value ≡ unit.Name y → Own y → For (standing n (use_of g) t r).value g → H None (leaf g (unit.Name y))
  noted_has y g t r e o k = subst (λ a. H None (leaf g a)) e (leaf_has g t r (subst S (sym e) o) k)

  pub renewed_has : (c : declared-change.Change) (y : ℕ) (old : Operand) (by : Laid) (g : Goal) → x.may y → From by.next → S old → S by.value → H None (leaf g (unit.Name y)) → H None (renewed_scalar c y old by g)
  renewed_has c y old by g may le s r k = changed_has None c y by.next by.next old by.value (noted y g) (last_change None y (leaf g (unit.Name y)) refl may k) le le s r

  -- a new value in memory
  stored_last : (e : declared-element.Element) (l : Location) (g : Goal) (begun free top : ℕ) → From begun → From free → Loc l → For (operation_laid n (use_of g) begun free top).value g →
      Last None (target g (pick n begun free)) (stored e l (unit.Name (target g (pick n begun free))) g)
  stored_last e l (To None m) begun free top lb lf loc k = let y = pick n begun free in last_fresh y (instruction_before (Store e l (unit.Name y)) m) (least_pick begun free lb lf) (λ o. x.rules.store None e l (unit.Name y) m (loc, o) (k o))
  stored_last e l (To (Some y) m) begun free top lb lf loc k = last_write y (instruction_before (Store e l (unit.Name y)) m) (λ o. x.rules.store (Some y) e l (unit.Name y) m (loc, o) (k o o))
  stored_last e l (Unused m) begun free top lb lf loc k = let y = pick n begun free in last_fresh y (instruction_before (Store e l (unit.Name y)) m) (least_pick begun free lb lf) (λ o. x.rules.store None e l (unit.Name y) m (loc, o) (k o))
  stored_last e l (Either one other inner) begun free top lb lf loc k =
      let y = pick n begun free in
      let next = tested (unit.Name y) one other inner in
      last_fresh y (instruction_before (Store e l (unit.Name y)) next) (least_pick begun free lb lf) (λ o. x.rules.store None e l (unit.Name y) next (loc, o) (tested_has (unit.Name y) one other inner o k))

  pub memory_has : (c : declared-change.Change) (q : PlaceLaid) (moved : Bool) (by : Laid) (g : Goal) (top : ℕ) → From q.next → From by.next → Own q.next → (moved ≡ true → Own (q.next + 1)) → Loc q.location → S by.value →
      For (operation_laid n (use_of g) q.next (behind_move (takes_more c by.value) by.next) top).value g → H None (renewed_memory n c q moved by g)
  memory_has c q moved by g top lq lb own held_own loc s k =
      let free = behind_move (takes_more c by.value) by.next in
      let up = (moved_behind (takes_more c by.value) by.next).0 in
      let y = target g (pick n q.next free) in
      let last = stored (changed_element c) (held_location moved (q.next + 1) q.location) (unit.Name y) g in
      changed_has None c y (pick n q.next by.next) by.next (unit.Name q.next) by.value last (stored_last (changed_element c) (held_location moved (q.next + 1) q.location) g q.next free top lq (omega (arith, lb, up)) (location_clear moved (q.next + 1) q.location loc held_own) k)
      (least_pick q.next by.next lq lb) lb own s

  pub loaded_has : (c : declared-change.Change) (q : PlaceLaid) (moved : Bool) (m : Made) → From q.next → Loc q.location → (Own q.next → (moved ≡ true → Own (q.next + 1)) → H None m) → H None (loaded_first c q moved m)
  loaded_has c q moved m le loc k =
      x.rules.pass None (unit.Load q.next (changed_element c) q.location) q.next (hold_location moved (q.next + 1) q.location m) refl refl le loc (λ o. hold_has moved (q.next + 1) q.location m (omega (arith, le)) loc (k o))

  -- a scalar's old value, by whether the scalar itself wants it
  abbrev left_by_test : declared-change.Change → (y t : ℕ) → Made → Bool → Made
  left_by_test c y t m b = changed c y (if b then t + 1 else t) (if b then t + 1 else t) (unit.Name y) (unit.Constant 1) (note y (if b then instruction_before (unit.Move y (unit.Name t)) m else m))

  pub left_scalar_has : (c : declared-change.Change) (y t : ℕ) (g : Goal) (narrow : Bool) → x.may y → Own y → From t → For (left_scalar_laid n (use_of g) narrow y t).value g → H None (left_scalar c y t g)
  left_scalar_has c y t (Unused m) narrow may o le k = changed_has None c y t t (unit.Name y) (unit.Constant 1) (note y m) (last_change None y m refl may (k o)) le le o refl
  left_scalar_has c y t (To None m) narrow may o le k =
      let mid = changed c y (t + 1) (t + 1) (unit.Name y) (unit.Constant 1) (note y m) in
      x.rules.pass None (unit.Move t (unit.Name y)) t mid refl refl le o (λ own. changed_has None c y (t + 1) (t + 1) (unit.Name y) (unit.Constant 1) (note y m) (last_change None y m refl may (k own)) (omega (arith, le)) (omega (arith, le)) o refl)
  left_scalar_has c y t (Either one other inner) narrow may o le k =
      let next = tested (unit.Name t) one other inner in
      let mid = changed c y (t + 1) (t + 1) (unit.Name y) (unit.Constant 1) (note y next) in
      x.rules.pass None (unit.Move t (unit.Name y)) t mid refl refl le o
      (λ own. changed_has None c y (t + 1) (t + 1) (unit.Name y) (unit.Constant 1) (note y next) (last_change None y next refl may (tested_has (unit.Name t) one other inner own k)) (omega (arith, le)) (omega (arith, le)) o refl)
  left_scalar_has c y t (To (Some z) m) narrow may o le k = go (z == y) refl
    where
      go : (b : Bool) → (z == y) ≡ b → H None (if b then instruction_before (unit.Move t (unit.Name y)) (left_by_test c y t m b) else instruction_before (unit.Move z (unit.Name y)) (left_by_test c y t m b))
      go true e =
          let next = instruction_before (unit.Move y (unit.Name t)) m in
          let there : Own y → H (Some y) m = λ own. subst (λ w. H (Some w) m) (same_name z y e) (k (subst Own (sym (same_name z y e)) own) (subst Own (sym (same_name z y e)) own)) in
          x.rules.pass None (unit.Move t (unit.Name y)) t (left_by_test c y t m true) refl refl le o
          (λ own. changed_has None c y (t + 1) (t + 1) (unit.Name y) (unit.Constant 1) (note y next) (last_change None y next refl may (x.rules.write (unit.Move y (unit.Name t)) y m refl refl own there)) (omega (arith, le)) (omega (arith, le)) o refl)
      go false e =
          x.rules.write (unit.Move z (unit.Name y)) z (left_by_test c y t m false) refl refl o
          (λ own. changed_has (Some z) c y t t (unit.Name y) (unit.Constant 1) (note y m) (last_change (Some z) y m e may (k own own)) le le o refl)

  -- the old value of what is in memory
  left_by : (w : Option ℕ) (c : declared-change.Change) (loc : Location) (old free : ℕ) (m : Made) → From free → Loc loc → Own old → H w m →
      H w (changed c (behind_move (takes_more c (unit.Constant 1)) free) free free (unit.Name old) (unit.Constant 1) (instruction_before (Store (changed_element c) loc (unit.Name (behind_move (takes_more c (unit.Constant 1)) free))) m))
  left_by w c loc old free m le h o k =
      let y = behind_move (takes_more c (unit.Constant 1)) free in
      let up = (moved_behind (takes_more c (unit.Constant 1)) free).0 in
      changed_has w c y free free (unit.Name old) (unit.Constant 1) (instruction_before (Store (changed_element c) loc (unit.Name y)) m) (last_pass w y (instruction_before (Store (changed_element c) loc (unit.Name y)) m) (omega (arith, le, up)) (λ own. x.rules.store w (changed_element c) loc (unit.Name y) m (h, own) k)) le le o refl

  pub left_memory_has : (c : declared-change.Change) (q : PlaceLaid) (g : Goal) (narrow : Bool) (t : ℕ) → From q.next → Loc q.location → For (left_memory_laid n (use_of g) narrow t q).value g → H None (left_memory c q g)
  left_memory_has c q (To (Some y) m) narrow t le loc k = x.rules.write (unit.Load y (changed_element c) q.location) y _ refl refl loc (λ o. left_by (Some y) c q.location y q.next m le loc o (k o o))
  left_memory_has c q (To None m) narrow t le loc k = x.rules.pass None (unit.Load q.next (changed_element c) q.location) q.next _ refl refl le loc (λ o. left_by None c q.location q.next (q.next + 1) m (omega (arith, le)) loc o (k o))
  left_memory_has c q (Unused m) narrow t le loc k = x.rules.pass None (unit.Load q.next (changed_element c) q.location) q.next _ refl refl le loc (λ o. left_by None c q.location q.next (q.next + 1) m (omega (arith, le)) loc o (k o))
  left_memory_has c q (Either one other inner) narrow t le loc k =
      x.rules.pass None (unit.Load q.next (changed_element c) q.location) q.next _ refl refl le loc
      (λ o. left_by None c q.location q.next (q.next + 1) (tested (unit.Name q.next) one other inner) (omega (arith, le)) loc o (tested_has (unit.Name q.next) one other inner o k))

  -- a call
  pub called_has : (void : Bool) (g : Goal) (begun next top : ℕ) (f : Callee) (all : List Operand) → From begun → From next → NoneStands x.own all → For (called_laid n (use_of g) void begun next top).value g →
      H None (called_by void g (pick n begun next) (λ o. Call o f all))
  called_has true g begun next top f all lb ln s k = x.rules.call_none f all (leaf g drafts.zero) s (zero_has g (unit.Constant 0) refl (void_for g k))
    where
      void_for : (g : Goal) → For (called_laid n (use_of g) true begun next top).value g → For (unit.Constant 0) g
      void_for (To None m) k = k
      void_for (To (Some y) m) k = k
      void_for (Unused m) k = k
      void_for (Either one other inner) k = k
  called_has false (Unused m) begun next top f all lb ln s k = x.rules.call_none f all m s (k refl)
  called_has false (To None m) begun next top f all lb ln s k = let own = pick n begun next in x.rules.call own f all m s (λ o. x.rules.fresh own m (least_pick begun next lb ln) (k o))
  called_has false (To (Some y) m) begun next top f all lb ln s k = x.rules.call y f all m s (λ o. k o o)
  called_has false (Either one other inner) begun next top f all lb ln s k =
      let own = pick n begun next in
      let m = tested (unit.Name own) one other inner in
      x.rules.call own f all m s (λ o. x.rules.fresh own m (least_pick begun next lb ln) (tested_has (unit.Name own) one other inner o k))

  -- the address of an object
  object_for : (g : Goal) (o : Option ℕ) (t : ℕ) → For (object_laid n (use_of g) o t).value g → For (operation_laid n (use_of g) t t t).value g
  object_for g (Some k) t h = h
  object_for (To None m) None t h = λ o. h refl
  object_for (To (Some y) m) None t h = h
  object_for (Unused m) None t h = λ o. h refl
  object_for (Either one other inner) None t h = h

  pub object_has : (o : declared-object.Object) (t : ℕ) (g : Goal) → From t → For (named_address n o (use_of g) t).value g → H None (object_address n o t g)
  object_has (object.Static i) t g le k = leaf_has g t (record { value = unit.StaticAddress i 0; next = t; top = t }) refl k
  object_has (object.Literal i) t g le k = leaf_has g t (record { value = unit.StaticAddress (n.statics + i) 0; next = t; top = t }) refl k
  object_has (object.Automatic v) t g le k = operated_has g t t t (λ y. Address y (or_zero (object_of n v))) le le (λ y. (refl, refl, tt)) (object_for g (object_of n v) t k)

  -- two arms that write the truth to a name, and what follows, which reads it
  arms_have : (m : Made) (t : ℕ) → From t → (Own t → H None m) → let arm0 : Made = record { ops = unit.Move t (unit.Constant 0) ∷ []; end = Jump (label_of x.top m); inner = with_inner_block x.place m } in
      let arm1 : Made = record { ops = unit.Move t (unit.Constant 1) ∷ []; end = Jump (label_of x.top m); inner = with_inner_block x.place arm0 } in
      x.Leads (label_of x.top arm1) (with_inner_block x.place arm1) × x.Leads (label_of x.top arm0) (with_inner_block x.place arm1)
  arms_have m t le h =
      let l = label_of x.top m in
      let arm0 : Made = record { ops = unit.Move t (unit.Constant 0) ∷ []; end = Jump l; inner = with_inner_block x.place m } in
      let arm1 : Made = record { ops = unit.Move t (unit.Constant 1) ∷ []; end = Jump l; inner = with_inner_block x.place arm0 } in
      let has0 : H None arm0 = x.rules.pass None (unit.Move t (unit.Constant 0)) t (ending (Jump l) (with_inner_block x.place m)) refl refl le refl (λ o. x.rules.jump l (with_inner_block x.place m) (x.rules.close m (h o))) in
      let has1 : H None arm1 = x.rules.pass None (unit.Move t (unit.Constant 1)) t (ending (Jump l) (with_inner_block x.place arm0)) refl refl le refl
      (λ o. x.rules.jump l (with_inner_block x.place arm0) (x.rules.keep arm0 l (with_inner_block x.place m) (grows_none (with_inner_block x.place m)) has0 (x.rules.close m (h o)))) in
      (x.rules.close arm1 has1, x.rules.keep arm1 (label_of x.top arm0) (with_inner_block x.place arm0) (grows_none (with_inner_block x.place arm0)) has1 (x.rules.close arm0 has0))

  -- what a truth in a name is for
  abbrev pub ForName : ℕ → Goal → Type 0
  ForName t g = For (standing n (use_of g) t (record { value = unit.Name t; next = t; top = t })).value g

  pub forked_has : (g : Goal) (t : ℕ) → From t → ForName t g → LeadsBoth (forked x.place x.top g t).one (forked x.place x.top g t).other (forked x.place x.top g t).inner
  forked_has (Either one other inner) t le h = h
  forked_has (Unused m) t le h = arms_have m t le h
  forked_has (To None m) t le h = arms_have m t le h
  forked_has (To (Some y) m) t le h = arms_have (instruction_before (unit.Move y (unit.Name t)) m) t le (λ o. x.rules.write (unit.Move y (unit.Name t)) y m refl refl o (λ own. h own own))

-- What passes the pieces of code.
use Rattle.std.proofs.Common.{◌≡◌, ℕ, ◌+◌, Bool, true, false, Option, Some, None, List, [], ◌∷◌, ◌++◌, refl, sym, ap, ◌∙◌, if◌then◌else◌, ◌==◌}
use Rattle.std.proofs.lemmas.List.{append_assoc, append-nil}
use Rattle.c_tree.specs.declared.types.IntegerType.{IntegerType}
use Rattle.c_tree.specs.declared.typed_expression.Comparison as declared-comparison
use Rattle.c_tree.specs.declared.typed_expression.Comparison.TheVariants as comparison
use Rattle.c_tree.specs.declared.typed_expression.Sign.{Sign}
use Rattle.c_tree.specs.declared.typed_expression.Sign.TheVariants.{Plus, Minus, Complement}
use Rattle.c_tree.specs.declared.object_type.Object as declared-object
use Rattle.c_tree.specs.declared.object_type.Object.TheVariants as object
use Rattle.c_type_rules.specs.Integers.{integer}
use Rattle.word_base.specs.declared.operation.Operation.{Operation}
use Rattle.word_base.specs.declared.operation.Operation.TheVariants as operation
use Rattle.graph_core.specs.declared.instruction.Element as declared-element
use Rattle.graph_core.specs.declared.block.Comparison.TheVariants as branch
use Rattle.graph_core.specs.Graphs as unit
use Rattle.graph_core.specs.Graphs.{Operand, Location, Instruction, Note, Operate, Truncate, Same, Address, Store, Block, End, Jump, Branch}
use Rattle.graph_core.specs.Paths.{is_marker}
use Rattle.graph_build_names.specs.Conversions.{is_narrow}
use Rattle.graph_build_names.specs.Operands.{is_two, is_two_pointers, operand_at}
use Rattle.graph_build_names.specs.Scales.{is_scaled, shift_of, scaled}
use Rattle.graph_build_layout.specs.declared.laid.Use.{Use}
use Rattle.graph_build_layout.specs.declared.laid.Use.TheVariants.{Anywhere, In, Nothing, Tested}
use Rattle.graph_build_names.specs.Names.{Names, pick, object_of}
use Rattle.graph_build_layout.specs.Laid.{Laid, Pair, PlaceLaid, behind_move}
use Rattle.graph_build_steps.specs.Rules.{truncation_to, operation_for, move_by}
use Rattle.graph_build_steps.specs.Drafts.{Made, Goal, To, Unused, Either, Fork, use_of, instruction_before, ending, leaf, target, follow, tested, scale, scaling, unscaling, move_if, note, noted, compare_by, compare_pointers_by, with_inner_block, arm, forked, valued, used, stored, keep_old, use_old, behind_old, left_free, called_by, renew, operated, code_scaled_pair, compared, compared_value, compared_pointers, compared_pointers_value, label_of, held_location, branch_by}
use Rattle.graph_build_steps.specs.Drafts as drafts
use Rattle.graph_build_steps.specs.declared.site.Two as declared-two
use Rattle.graph_build_steps.specs.declared.site.Two.TheVariants as two
use Rattle.graph_build_steps.specs.declared.change.Change as declared-change
use Rattle.graph_build_steps.specs.declared.change.Change.TheVariants as change
use Rattle.graph_build_steps.specs.Steps.{signed, finished, element_distance, changed, changed_element, takes_more, renewed_scalar, loaded_first, renewed_memory, left_scalar, left_memory, object_address, or_zero}
use Rattle.graph_build_laws.specs.Passing.{Grows, IsPassing}

abbrev pub inner_of : Goal → List Block
inner_of (To want m) = m.inner
inner_of (Unused m) = m.inner
inner_of (Either one other inner) = inner

pub grows_on : (xs ys zs : List Block) → Grows xs ys → Grows ys zs → Grows xs zs
grows_on xs ys zs a b = (a.0 ++ b.0, b.1 ∙ ap (λ (l : List Block). l ++ b.0) a.1 ∙ append_assoc xs a.0 b.0)

pub grows_none : (xs : List Block) → Grows xs xs
grows_none xs = ([], sym (append-nil xs))

pub closed_grows : (place : ℕ) (m : Made) → Grows m.inner (with_inner_block place m)
closed_grows place m = (record { place = Some place; instructions = m.ops; end = m.end } ∷ [], refl)

module _ (place top : ℕ) (Has : Made → Type 0) (Leads : (label : ℕ) → List Block → Type 0) (Stand : List Block → Type 0) (passing : IsPassing place top Has Leads Stand) where
  -- what a value is for has it: what follows, or where a test leads
  abbrev pub OfGoal : Goal → Type 0
  OfGoal (To want m) = Has m
  OfGoal (Unused m) = Has m
  OfGoal (Either one other inner) = Leads one inner × Leads other inner

  -- Inner blocks are only added, and what code is made for passes the property to it.
  abbrev pub Carried : Made → Goal → Type 0
  Carried m g = Grows (inner_of g) m.inner × (OfGoal g → Has m)

  abbrev pub Before : Made → Made → Type 0
  Before m k = Grows k.inner m.inner × (Has k → Has m)

  abbrev pub GoalLeads : Goal → Goal → Type 0
  GoalLeads f g = Grows (inner_of g) (inner_of f) × (OfGoal g → OfGoal f)

  pub lead_on : (m k : Made) (g : Goal) → Before m k → Carried k g → Carried m g
  lead_on m k g a b = (grows_on (inner_of g) k.inner m.inner b.0 a.0, λ h. a.1 (b.1 h))

  pub leads_on : (m k l : Made) → Before m k → Before k l → Before m l
  leads_on m k l a b = (grows_on l.inner k.inner m.inner b.0 a.0, λ h. a.1 (b.1 h))

  pub goal_on : (m : Made) (f g : Goal) → Carried m f → GoalLeads f g → Carried m g
  goal_on m f g a b = (grows_on (inner_of g) (inner_of f) m.inner b.0 a.0, λ h. a.1 (b.1 h))

  pub goals_on : (f g k : Goal) → GoalLeads f g → GoalLeads g k → GoalLeads f k
  goals_on f g k a b = (grows_on (inner_of k) (inner_of g) (inner_of f) b.0 a.0, λ h. a.1 (b.1 h))

  pub before_leads : (i : Instruction) (m : Made) → is_marker i ≡ false → Before (instruction_before i m) m
  before_leads i m h = (grows_none m.inner, passing.step i m h)

  pub stays : (m : Made) → Before m m
  stays m = (grows_none m.inner, λ k. k)

  tested_carries : (a : Operand) (one other : ℕ) (inner : List Block) → Carried (tested a one other inner) (Either one other inner)
  tested_carries a one other inner = (grows_none inner, λ h. passing.branch branch.NotEqual a (drafts.zero) one other inner h.0 h.1)

  pub leaf_carries : (g : Goal) (a : Operand) → Carried (leaf g a) g
  leaf_carries (To None m) a = stays m
  leaf_carries (To (Some x) m) a = before_leads (unit.Move x a) m refl
  leaf_carries (Unused m) a = stays m
  leaf_carries (Either one other inner) a = tested_carries a one other inner

  pub follow_carries : (g : Goal) (own : ℕ) → Carried (follow g own) g
  follow_carries (To want m) own = stays m
  follow_carries (Unused m) own = stays m
  follow_carries (Either one other inner) own = tested_carries (unit.Name own) one other inner

  pub noted_carries : (x : ℕ) (g : Goal) → Carried (noted x g) g
  noted_carries x g = lead_on (noted x g) (leaf g (unit.Name x)) g (before_leads _ (leaf g (unit.Name x)) refl) (leaf_carries g (unit.Name x))

  pub valued_leads : (g : Goal) (a : Operand) → GoalLeads (valued g a) g
  valued_leads (To want m) a = stays m
  valued_leads (Unused m) a = stays m
  valued_leads (Either one other inner) a = tested_carries a one other inner

  pub used_leads : (g : Goal) → GoalLeads (used g) g
  used_leads (To want m) = stays m
  used_leads (Unused m) = stays m
  used_leads (Either one other inner) = (grows_none inner, λ h. h)

  pub move_leads : (b : Bool) (t : ℕ) (a : Operand) (m : Made) → Before (move_if b t a m) m
  move_leads true t a m = before_leads (unit.Move t a) m refl
  move_leads false t a m = stays m

  scaling_is : (o : Option ℕ) (size t : ℕ) (a : Operand) → is_marker (scaling o size t a) ≡ false
  scaling_is None size t a = refl
  scaling_is (Some k) size t a = refl

  unscaling_is : (o : Option ℕ) (size x t : ℕ) → is_marker (unscaling o size x t) ≡ false
  unscaling_is None size x t = refl
  unscaling_is (Some k) size x t = refl

  pub scale_leads : (size : ℕ) (a : Operand) (t : ℕ) (m : Made) → Before (scale size a t m) m
  scale_leads size a t m = go (is_scaled size a)
    where
      go : (b : Bool) → Before (if b then instruction_before (scaling (shift_of size) size t a) m else m) m
      go true = before_leads (scaling (shift_of size) size t a) m (scaling_is (shift_of size) size t a)
      go false = stays m

  renew_leads : (ty : IntegerType) (x t : ℕ) (i : ℕ → Instruction) (m : Made) → ((y : ℕ) → is_marker (i y) ≡ false) → Before (renew ty x t i m) m
  renew_leads ty x t i m h = go (is_narrow ty)
    where
      go : (b : Bool) → Before (if b then instruction_before (i t) (instruction_before (Truncate x (truncation_to ty) (unit.Name t)) m) else instruction_before (i x) m) m
      go true = leads_on _ (instruction_before (Truncate x (truncation_to ty) (unit.Name t)) m) m (before_leads (i t) _ (h t)) (before_leads (Truncate x (truncation_to ty) (unit.Name t)) m refl)
      go false = before_leads (i x) m (h x)

  pub changed_leads : (c : declared-change.Change) (x t free : ℕ) (old by : Operand) (m : Made) → Before (changed c x t free old by m) m
  changed_leads (change.Integer o ty v) x t free old by m = renew_leads ty x t (λ y. Operate y (operation_for o v) old by) m (λ y. refl)
  changed_leads (change.Pointer d bytes) x t free old by m =
      let next = instruction_before (Operate x (move_by d) old (scaled bytes by free)) m in leads_on _ next m (scale_leads bytes by free next) (before_leads (Operate x (move_by d) old (scaled bytes by free)) m refl)

  pub stored_carries : (e : declared-element.Element) (l : Location) (a : Operand) (g : Goal) → Carried (stored e l a g) g
  stored_carries e l a (To want m) = before_leads (Store e l a) m refl
  stored_carries e l a (Unused m) = before_leads (Store e l a) m refl
  stored_carries e l a (Either one other inner) = lead_on _ (tested a one other inner) (Either one other inner) (before_leads (Store e l a) (tested a one other inner) refl) (tested_carries a one other inner)

  two_leads : (i j : Instruction) (m : Made) → is_marker i ≡ false → is_marker j ≡ false → Before (instruction_before i (instruction_before j m)) m
  two_leads i j m h k = leads_on _ (instruction_before j m) m (before_leads i (instruction_before j m) h) (before_leads j m k)

  compare_leads : (o : declared-comparison.Comparison) (s : Bool) (x t : ℕ) (a b : Operand) (m : Made) → Before (compare_by o s x t a b m) m
  compare_leads comparison.Less s x t a b m = before_leads _ m refl
  compare_leads comparison.Greater s x t a b m = before_leads _ m refl
  compare_leads comparison.LessEqual s x t a b m = two_leads _ _ m refl refl
  compare_leads comparison.GreaterEqual s x t a b m = two_leads _ _ m refl refl
  compare_leads comparison.Equal s x t a b m = two_leads _ _ m refl refl
  compare_leads comparison.NotEqual s x t a b m = two_leads _ _ m refl refl

  pointers_lead : (o : declared-comparison.Comparison) (x t : ℕ) (a b : Operand) (m : Made) → Before (compare_pointers_by o x t a b m) m
  pointers_lead comparison.Equal x t a b m = before_leads _ m refl
  pointers_lead comparison.NotEqual x t a b m = two_leads _ _ m refl refl
  pointers_lead comparison.Less x t a b m = before_leads _ m refl
  pointers_lead comparison.Greater x t a b m = before_leads _ m refl
  pointers_lead comparison.LessEqual x t a b m = two_leads _ _ m refl refl
  pointers_lead comparison.GreaterEqual x t a b m = two_leads _ _ m refl refl

  pub keep_leads : (u : Use) (x t : ℕ) (m : Made) → Before (keep_old u x t m) m
  keep_leads Nothing x t m = stays m
  keep_leads Anywhere x t m = before_leads _ m refl
  keep_leads Tested x t m = before_leads _ m refl
  keep_leads (In y) x t m = go (y == x)
    where
      go : (b : Bool) → Before (if b then instruction_before (unit.Move t (unit.Name x)) m else instruction_before (unit.Move y (unit.Name x)) m) m
      go true = before_leads _ m refl
      go false = before_leads _ m refl

  use_carries : (g : Goal) (x t : ℕ) → Carried (use_old g x t) g
  use_carries (Unused k) x t = stays k
  use_carries (To None k) x t = stays k
  use_carries (Either one other inner) x t = tested_carries (unit.Name t) one other inner
  use_carries (To (Some y) k) x t = go (y == x)
    where
      go : (b : Bool) → Before (if b then instruction_before (unit.Move x (unit.Name t)) k else k) k
      go true = before_leads _ k refl
      go false = stays k

  pub called_carries : (void : Bool) (g : Goal) (own : ℕ) (i : Option ℕ → Instruction) → ((o : Option ℕ) → is_marker (i o) ≡ false) → Carried (called_by void g own i) g
  called_carries true g own i h = lead_on _ (leaf g (drafts.zero)) g (before_leads (i None) (leaf g (drafts.zero)) (h None)) (leaf_carries g (drafts.zero))
  called_carries false (Unused m) own i h = before_leads (i None) m (h None)
  called_carries false (To want m) own i h = before_leads (i (Some (target (To want m) own))) m (h (Some (target (To want m) own)))
  called_carries false (Either one other inner) own i h =
      lead_on _ (tested (unit.Name own) one other inner) (Either one other inner) (before_leads (i (Some own)) (tested (unit.Name own) one other inner) (h (Some own))) (tested_carries (unit.Name own) one other inner)

  -- two arms write 1 and 0 and go on to what follows
  arms_pass : (m : Made) (own : ℕ) → let arm0 : Made = record { ops = unit.Move own (unit.Constant 0) ∷ []; end = Jump (label_of top m); inner = with_inner_block place m } in
      let arm1 : Made = record { ops = unit.Move own (unit.Constant 1) ∷ []; end = Jump (label_of top m); inner = with_inner_block place arm0 } in
      Grows m.inner (with_inner_block place arm1) × (Has m → Leads (label_of top arm1) (with_inner_block place arm1) × Leads (label_of top arm0) (with_inner_block place arm1))
  arms_pass m own =
      let arm0 : Made = record { ops = unit.Move own (unit.Constant 0) ∷ []; end = Jump (label_of top m); inner = with_inner_block place m } in
      let arm1 : Made = record { ops = unit.Move own (unit.Constant 1) ∷ []; end = Jump (label_of top m); inner = with_inner_block place arm0 } in (
        grows_on m.inner (with_inner_block place m) (with_inner_block place arm1) (closed_grows place m) (grows_on (with_inner_block place m) (with_inner_block place arm0) (with_inner_block place arm1) (closed_grows place arm0) (closed_grows place arm1)),
        λ h. (
            let join = passing.close m h in
            let has0 : Has arm0 = passing.step (unit.Move own (unit.Constant 0)) (ending (Jump (label_of top m)) (with_inner_block place m)) refl (passing.jump (label_of top m) (with_inner_block place m) join) in
            let join1 = passing.keep arm0 (label_of top m) (with_inner_block place m) (grows_none (with_inner_block place m)) has0 join in
            let has1 : Has arm1 = passing.step (unit.Move own (unit.Constant 1)) (ending (Jump (label_of top m)) (with_inner_block place arm0)) refl (passing.jump (label_of top m) (with_inner_block place arm0) join1) in
            (passing.close arm1 has1, passing.keep arm1 (label_of top arm0) (with_inner_block place arm0) (grows_none (with_inner_block place arm0)) has1 (passing.close arm0 has0))),
      )

  -- where a test leads
  pub forked_passes : (g : Goal) (own : ℕ) → Grows (inner_of g) (forked place top g own).inner ×
      (OfGoal g → Leads (forked place top g own).one (forked place top g own).inner × Leads (forked place top g own).other (forked place top g own).inner)
  forked_passes (Either one other inner) own = (grows_none inner, λ h. h)
  forked_passes (Unused m) own = arms_pass m own
  forked_passes (To want k) own =
      let m = leaf (To want k) (unit.Name own) in
      let l = leaf_carries (To want k) (unit.Name own) in
      let a = arms_pass m own in
      (grows_on k.inner m.inner (forked place top (To want k) own).inner l.0 a.0, λ h. a.1 (l.1 h))

  module _ (n : Names) where
    pub operated_carries : (g : Goal) (begun free : ℕ) (i : ℕ → Instruction) → ((x : ℕ) → is_marker (i x) ≡ false) → Carried (operated n g begun free i) g
    operated_carries g begun free i h =
        let own = pick n begun free in lead_on _ (follow g own) g (before_leads (i (target g own)) (follow g own) (h (target g own))) (follow_carries g own)

    scaled_carries : (g : Goal) (begun : ℕ) (o : Operation) (bytes : ℕ) (p i : Operand) (free : ℕ) → Carried (code_scaled_pair n g begun o bytes p i free) g
    scaled_carries g begun o bytes p i free =
        let next = operated n g begun (behind_move (is_scaled bytes i) free) (λ x. Operate x o p (scaled bytes i free)) in
        lead_on _ next g (scale_leads bytes i free next) (operated_carries g begun (behind_move (is_scaled bytes i) free) (λ x. Operate x o p (scaled bytes i free)) (λ x. refl))

    value_carries : (g : Goal) (s : Bool) (o : declared-comparison.Comparison) (begun : ℕ) (b : Bool) (q : Pair) → Carried (compared_value n g s o begun b q) g
    value_carries g s o begun b q =
        let own = pick n begun (behind_move b q.next) in lead_on _ (follow g own) g (compare_leads o s (target g own) (pick n begun q.next) q.left q.right (follow g own)) (follow_carries g own)

    branched : (o : declared-comparison.Comparison) (s : Bool) (a b : Operand) (one other : ℕ) (inner : List Block) → Leads one inner → Leads other inner → Has (ending (branch_by o s a b one other) inner)
    branched comparison.Less s a b one other inner h k = passing.branch _ _ _ one other inner h k
    branched comparison.Greater s a b one other inner h k = passing.branch _ _ _ one other inner h k
    branched comparison.LessEqual s a b one other inner h k = passing.branch _ _ _ one other inner h k
    branched comparison.GreaterEqual s a b one other inner h k = passing.branch _ _ _ one other inner h k
    branched comparison.Equal s a b one other inner h k = passing.branch _ _ _ one other inner h k
    branched comparison.NotEqual s a b one other inner h k = passing.branch _ _ _ one other inner h k

    compared_carries : (g : Goal) (s : Bool) (o : declared-comparison.Comparison) (begun : ℕ) (b : Bool) (q : Pair) → Carried (compared n g s o begun b q) g
    compared_carries (Either one other inner) s o begun b q = (grows_none inner, λ h. branched o s q.left q.right one other inner h.0 h.1)
    compared_carries (To want m) s o begun b q = value_carries (To want m) s o begun b q
    compared_carries (Unused m) s o begun b q = value_carries (Unused m) s o begun b q

    pointers_value_carries : (g : Goal) (o : declared-comparison.Comparison) (begun : ℕ) (q : Pair) → Carried (compared_pointers_value n g o begun q) g
    pointers_value_carries g o begun q =
        let own = pick n begun (behind_move (is_two_pointers o) q.next) in lead_on _ (follow g own) g (pointers_lead o (target g own) (pick n begun q.next) q.left q.right (follow g own)) (follow_carries g own)

    pointers_carries : (g : Goal) (o : declared-comparison.Comparison) (begun : ℕ) (q : Pair) → Carried (compared_pointers n g o begun q) g
    pointers_carries (Either one other inner) o begun q = (grows_none inner, λ h. branched o false q.left q.right one other inner h.0 h.1)
    pointers_carries (To want m) o begun q = pointers_value_carries (To want m) o begun q
    pointers_carries (Unused m) o begun q = pointers_value_carries (Unused m) o begun q

    distance_carries : (bytes : ℕ) (g : Goal) (begun : ℕ) (q : Pair) → Carried (element_distance n bytes g begun q) g
    distance_carries bytes g begun q = go (bytes == 1)
      where
        go : (b : Bool) → Carried (if b then operated n g begun q.next (λ x. Operate x operation.Sub q.left q.right) else instruction_before (Operate (pick n begun q.next) operation.Sub q.left q.right) (operated n g begun (q.next + 1) (λ x. unscaling (shift_of bytes) bytes x (pick n begun q.next)))) g
        go true = operated_carries g begun q.next (λ x. Operate x operation.Sub q.left q.right) (λ x. refl)
        go false =
            let next = operated n g begun (q.next + 1) (λ x. unscaling (shift_of bytes) bytes x (pick n begun q.next)) in
            lead_on _ next g (before_leads (Operate (pick n begun q.next) operation.Sub q.left q.right) next refl) (operated_carries g begun (q.next + 1) (λ x. unscaling (shift_of bytes) bytes x (pick n begun q.next)) (λ x. unscaling_is (shift_of bytes) bytes x (pick n begun q.next)))

    pub finished_carries : (k : declared-two.Two) (g : Goal) (begun : ℕ) (q : Pair) → Carried (finished n k g begun q) g
    finished_carries (two.Arithmetic o ty) g begun q = operated_carries g begun q.next (λ x. Operate x (operation_for o ty) q.left q.right) (λ x. refl)
    finished_carries (two.Compare o ty) g begun q = compared_carries g (integer ty).is_signed o begun (is_two o) q
    finished_carries (two.ComparePointers o) g begun q = pointers_carries g o begun q
    finished_carries (two.Move d bytes) g begun q = scaled_carries g begun (move_by d) bytes q.left q.right q.next
    finished_carries (two.MoveFrom bytes) g begun q = scaled_carries g begun operation.Add bytes q.right q.left q.next
    finished_carries (two.Difference bytes) g begun q = distance_carries bytes g begun q

    pub renewed_carries : (c : declared-change.Change) (x : ℕ) (old : Operand) (by : Laid) (g : Goal) → Carried (renewed_scalar c x old by g) g
    renewed_carries c x old by g = lead_on _ (noted x g) g (changed_leads c x by.next by.next old by.value (noted x g)) (noted_carries x g)

    pub memory_carries : (c : declared-change.Change) (q : PlaceLaid) (moved : Bool) (by : Laid) (g : Goal) → Carried (renewed_memory n c q moved by g) g
    memory_carries c q moved by g =
        let own = target g (pick n q.next (behind_move (takes_more c by.value) by.next)) in
        let last = stored (changed_element c) (held_location moved (q.next + 1) q.location) (unit.Name own) g in
        lead_on _ last g (changed_leads c own (pick n q.next by.next) by.next (unit.Name q.next) by.value last) (stored_carries (changed_element c) (held_location moved (q.next + 1) q.location) (unit.Name own) g)

    pub loaded_leads : (c : declared-change.Change) (q : PlaceLaid) (moved : Bool) (m : Made) → Before (loaded_first c q moved m) m
    loaded_leads c q moved m =
        let next = move_if moved (q.next + 1) (operand_at q.location) m in
        leads_on _ next m (before_leads (unit.Load q.next (changed_element c) q.location) next refl) (move_leads moved (q.next + 1) (operand_at q.location) m)

    pub left_scalar_carries : (c : declared-change.Change) (x t : ℕ) (g : Goal) → Carried (left_scalar c x t g) g
    left_scalar_carries c x t g =
        let free = behind_old (use_of g) x t in
        let last = note x (use_old g x t) in
        let mid = changed c x free free (unit.Name x) (unit.Constant 1) last in
        lead_on _ mid g (keep_leads (use_of g) x t mid) (lead_on mid last g (changed_leads c x free free (unit.Name x) (unit.Constant 1) last)
        (lead_on last (use_old g x t) g (before_leads _ (use_old g x t) refl) (use_carries g x t)))

    pub left_memory_carries : (c : declared-change.Change) (q : PlaceLaid) (g : Goal) → Carried (left_memory c q g) g
    left_memory_carries c q g =
        let old = target g q.next in let free = left_free (use_of g) q.next in let own = behind_move (takes_more c (unit.Constant 1)) free in
        let last = instruction_before (Store (changed_element c) q.location (unit.Name own)) (follow g old) in
        let mid = changed c own free free (unit.Name old) (unit.Constant 1) last in
        lead_on _ mid g (before_leads (unit.Load old (changed_element c) q.location) mid refl) (lead_on mid last g (changed_leads c own free free (unit.Name old) (unit.Constant 1) last)
        (lead_on last (follow g old) g (before_leads (Store (changed_element c) q.location (unit.Name own)) (follow g old) refl) (follow_carries g old)))

    pub object_carries : (o : declared-object.Object) (t : ℕ) (g : Goal) → Carried (object_address n o t g) g
    object_carries (object.Static i) t g = leaf_carries g (unit.StaticAddress i 0)
    object_carries (object.Literal i) t g = leaf_carries g (unit.StaticAddress (n.statics + i) 0)
    object_carries (object.Automatic x) t g = operated_carries g t t (λ y. Address y (or_zero (object_of n x))) (λ y. refl)

    pub signed_is : (o : Sign) (a : Operand) (x : ℕ) → is_marker (signed o a x) ≡ false
    signed_is Plus a x = refl
    signed_is Minus a x = refl
    signed_is Complement a x = refl

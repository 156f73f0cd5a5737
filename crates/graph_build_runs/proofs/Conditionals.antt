-- `?:`: one of two arms, and what follows.
use Rattle.std.proofs.Common.{◌≡◌, ℕ, ◌+◌, ◌<◌, ◌≤◌, List, [], ◌∷◌, Option, Some, None, Bool, true, false, not, ◌||◌, slice_get, refl, sym, ap, ◌∙◌, subst, arith}
use Rattle.std.specs.Prelude.{if◌then◌else◌}
use Rattle.c_tree.specs.TypedExpressions.{RvalueTree, Conditional}
use Rattle.c_type_laws.specs.Expressions.{kind_of}
use Rattle.c_type_laws.specs.Kind.{Kind}
use Rattle.c_meaning_values.specs.declared.value.Value as source-value
use Rattle.c_meaning_steps.specs.States.{State, Evaluated, Gives, Leaves, Ends, Tested, Holds, Fails, NoTest, condition_tested, on_test}
use Rattle.c_meaning.specs.Expressions.{Calls, evaluate}
use Rattle.c_type_rules.specs.ValueTypes.{type_of, is_void}
use Rattle.graph_core.specs.Graphs.{Operand, Name, Instruction, End, Jump, Block}
use Rattle.graph_core.specs.Runs.{entered}
use Rattle.graph_build_layout.specs.declared.laid.Use.{Use}
use Rattle.graph_build_layout.specs.declared.laid.Use.TheVariants.{Anywhere, In, Nothing, Tested as UseTested}
use Rattle.graph_build_names.specs.Names.{Names, pick}
use Rattle.graph_build_layout.specs.Laid.{Laid, behind_move, void_arms_laid, arms_laid}
use Rattle.graph_build_layout.specs.Layout.{laid}
use Rattle.graph_build_names.specs.Writes.{writes}
use Rattle.graph_build_steps.specs.Drafts.{Made, Goal, To, Unused, Either, ending, leaf, with_inner_block, label_of}
use Rattle.graph_build_steps.specs.Steps.{arm_use, arm_value, arm_goal}
use Rattle.graph_build_runs.specs.Correspondence.{SameValue}
use Rattle.graph_build_runs.proofs.Leads.{Setting, names_in, size_in, depth_in, Local, World, at, Leads, stays, goes, then_leads, less_other, in_block}
use Rattle.graph_build_runs.proofs.Later.{others_refl}
use Rattle.graph_build_runs.proofs.Kept.{is_want, Sound, Fits, ScalarsFirst, fits_unwanted, fits_in_block}
use Rattle.graph_build_runs.proofs.Results.{Reached, Passes, to_label, to_made, Stuck, Valued, ToR, EitherR, Result, ended_result, result_after, stuck_after}
use Rattle.graph_build_runs.proofs.Tests.{HasWord}
use Rattle.graph_build_runs.proofs.Leaves.{leaf_done}
use Rattle.graph_build_runs.proofs.Sequences.{left_done}
use Rattle.graph_build_runs.proofs.Typing.{Keeps, Gave, Left, KeepsTest, keeps_tested, kind_word, Typed}
use Rattle.graph_build_runs.proofs.Standing.{Stands, Grows, inner_of, block_of, closed_inner, closed_block}
use Rattle.graph_build_runs.proofs.Operands.{Does, code_in, value_in, written_by, or_false}
use Rattle.graph_build_runs.proofs.Arithmetic.{pick_between}
use Rattle.graph_build_runs.proofs.Choices.{Tops}

module _ (x : Setting) (low : ScalarsFirst x) where
  -- An arm left its value in a temporary, and jumps to what follows.
  pub arm_ends : (g : Goal) (k : Kind) (own t t2 : ℕ) (f f2 : ℕ → Bool) (inner : List Block) (a : Operand) (ops : List Instruction) (end : End) (l : Local) (w : World) (r : Evaluated) → t ≤ t2 → t ≤ own → size_in x ≤ own
      → ((y : ℕ) → y < t → f y ≡ false → f2 y ≡ false) → slice_get x.graph.blocks (label_of x.top (leaf g (Name own))) ≡ Some (block_of x.place (leaf g (Name own)))
      → ((v : source-value.Value) (s : State) → r ≡ Gives v s → HasWord v) → ToR x (Some own) (ending (Jump (label_of x.top (leaf g (Name own)))) inner) a t2 f2 ops end l w r → Result x g (Name own) t f ops end l w r
  arm_ends g k own t t2 f f2 inner a ops end l w (Gives v s) le above size spares stands word h =
      let m = leaf g (Name own) in
      let e = Jump (label_of x.top m) in
      let r = h.reached in
      let there = label_of x.top m in
      let l2 = in_block there r.local in
      result_after x t t f f ops m.ops end m.end l l2 w r.world (then_leads r.leads (goes (ap (entered (at x [] e r.local r.world) there) stands) stays))
      (λ y lt nf. (lt, nf, r.kept y (omega (arith, lt, le)) (less_other y own (omega (arith, lt, above))) (spares y lt nf))) r.later g (Name own) (Gives v s)
      (leaf_done x g (Name own) t f v s l2 r.world (fits_in_block x None s r.local r.world there (fits_unwanted x s r.local r.world own low r.fits size)) h.same (word v s refl))
  arm_ends g k own t t2 f f2 inner a ops end l w (Leaves s) le above size spares stands word h =
      let m = leaf g (Name own) in
      let e = Jump (label_of x.top m) in
      let there = label_of x.top m in
      let l2 = in_block there h.local in
      result_after x t t f f ops m.ops end m.end l l2 w h.world (then_leads h.leads (goes (ap (entered (at x [] e h.local h.world) there) stands) stays))
      (λ y lt nf. (lt, nf, h.kept y (omega (arith, lt, le)) (less_other y own (omega (arith, lt, above))) (spares y lt nf))) h.later g (Name own) (Leaves s)
      (left_done x g (Name own) (Name own) t f s l2 h.world (fits_in_block x None s h.local h.world there (fits_unwanted x s h.local h.world own low h.fits size)))
  arm_ends g k own t t2 f f2 inner a ops end l w (Ends e s) le above size spares stands word h = ended_result x g (Name own) t f ops end l w e s h

module _ (x : Setting) (calls : Calls) (low : ScalarsFirst x) (c a b : RvalueTree) (whole : is_void (type_of (names_in x).results a) ≡ false) (typed_c : Typed x calls c) (typed_a : Typed x calls a) (typed_b : Typed x calls b)
    (tops_c : Tops x UseTested c) (tops_a : (k : ℕ) → Tops x (In k) a) (grows_c : Grows (names_in x) x.place x.top x.graph c) (grows_a : Grows (names_in x) x.place x.top x.graph a) (grows_b : Grows (names_in x) x.place x.top x.graph b)
    (does_c : Does x calls c) (does_a : Does x calls a) (does_b : Does x calls b) where
  abbrev from_a : ℕ → ℕ
  from_a t = pick (names_in x) (t + 1) (laid (names_in x) c UseTested (t + 1)).top

  abbrev from_b : ℕ → ℕ
  from_b t = pick (names_in x) (t + 1) (laid (names_in x) a (In t) (from_a t)).top

  abbrev join_in : ℕ → Goal → Made
  join_in t g = leaf g (Name t)

  abbrev other_in : ℕ → Goal → Made
  other_in t g = code_in x b (from_b t) (To (Some t) (ending (Jump (label_of x.top (join_in t g))) (with_inner_block x.place (join_in t g))))

  abbrev one_in : ℕ → Goal → Made
  one_in t g = code_in x a (from_a t) (To (Some t) (ending (Jump (label_of x.top (join_in t g))) (with_inner_block x.place (other_in t g))))

  abbrev test_in : ℕ → Goal → Made
  test_in t g = code_in x c (t + 1) (Either (label_of x.top (one_in t g)) (label_of x.top (other_in t g)) (with_inner_block x.place (one_in t g)))

  abbrev all_written : ℕ → Bool
  all_written y = writes (names_in x) y c || writes (names_in x) y a || writes (names_in x) y b

  module _ (t : ℕ) (g : Goal) (s : State) (l : Local) (w : World) (size : size_in x ≤ t) (st : Stands x.graph x.top (test_in t g).inner) (sound : Sound x.program x.begun s) (fits : Fits x None s l w) where
    above_a : t + 1 ≤ from_a t
    above_a = let top = tops_c (t + 1) (omega (arith, size)) in pick_between (names_in x) (t + 1) (laid (names_in x) c UseTested (t + 1)).top (t + 1) (omega arith) top

    above_b : t + 1 ≤ from_b t
    above_b =
        let le = above_a in
        let top = tops_a t (from_a t) (omega (arith, size, le)) in
        pick_between (names_in x) (t + 1) (laid (names_in x) a (In t) (from_a t)).top (t + 1) (omega arith) (omega (arith, le, top))

    one_stands : Stands x.graph x.top (with_inner_block x.place (one_in t g))
    one_stands = grows_c (t + 1) (Either (label_of x.top (one_in t g)) (label_of x.top (other_in t g)) (with_inner_block x.place (one_in t g))) st

    other_stands : Stands x.graph x.top (with_inner_block x.place (other_in t g))
    other_stands = grows_a (from_a t) (To (Some t) (ending (Jump (label_of x.top (join_in t g))) (with_inner_block x.place (other_in t g)))) (closed_inner x.graph x.top x.place (one_in t g) one_stands)

    join_stands : Stands x.graph x.top (with_inner_block x.place (join_in t g))
    join_stands = grows_b (from_b t) (To (Some t) (ending (Jump (label_of x.top (join_in t g))) (with_inner_block x.place (join_in t g)))) (closed_inner x.graph x.top x.place (other_in t g) other_stands)

    -- behind the condition an arm decides
    arm_decides : (e : RvalueTree) (from : ℕ) (inner : List Block) (m : Made) → Typed x calls e → t + 1 ≤ from → ((y : ℕ) → all_written y ≡ false → writes (names_in x) y e ≡ false) → m ≡ code_in x e from (To (Some t) (ending (Jump (label_of x.top (join_in t g))) inner))
        → slice_get x.graph.blocks (label_of x.top m) ≡ Some (block_of x.place m) → Stands x.graph x.top m.inner → Does x calls e → (s1 : State) → Left x.program x.begun s.memory s1
        → Reached x None (t + 1) (written_by x c) l w (to_label x (test_in t g).ops (test_in t g).end l w (label_of x.top m)) s1
        → Result x g (Name t) t all_written (test_in t g).ops (test_in t g).end l w (evaluate calls (depth_in x) e s1)
    arm_decides e from inner m typed_e above spares is stands m_inner does_e s1 left h =
        let goal = To (Some t) (ending (Jump (label_of x.top (join_in t g))) inner) in
        let k = code_in x e from goal in
        let stands_k = subst (λ z. slice_get x.graph.blocks (label_of x.top m) ≡ Some (block_of x.place z)) is stands in
        let l2 = in_block (label_of x.top m) h.local in
        result_after x t t all_written (written_by x e) (test_in t g).ops k.ops (test_in t g).end k.end l l2 w h.world (h.leads (block_of x.place k) stands_k)
        (λ y lt nf. (lt, spares y nf, h.kept y (omega (arith, lt)) refl (or_false (writes (names_in x) y c) (writes (names_in x) y a) (or_false (writes (names_in x) y c || writes (names_in x) y a) (writes (names_in x) y b) nf).0).0)) h.later g (Name t)
        (evaluate calls (depth_in x) e s1)
        (arm_ends x low g (kind_of x.program x.tree e) t t from (written_by x e) (written_by x e) inner (value_in x e from) k.ops k.end l2 h.world (evaluate calls (depth_in x) e s1) (omega (arith, above)) (omega arith) size (λ y lt nf. nf)
        (closed_block x.graph x.top x.place (join_in t g) join_stands)
        (λ v s2 e2. (let gave = subst (Keeps x.program x.begun s1.memory (kind_of x.program x.tree e)) e2 (typed_e s1 left.sound) in kind_word s2.memory (kind_of x.program x.tree e) v gave.is))
        (does_e from goal s1 l2 h.world (omega (arith, size, above)) (subst (λ z. Stands x.graph x.top z.inner) is m_inner) left.sound (fits_in_block x None s1 h.local h.world (label_of x.top m) h.fits) (omega (arith, above), λ lt. absurd (omega (arith, lt, size)))))

    spares_a : (y : ℕ) → all_written y ≡ false → writes (names_in x) y a ≡ false
    spares_a y nf = (or_false (writes (names_in x) y c) (writes (names_in x) y a) (or_false (writes (names_in x) y c || writes (names_in x) y a) (writes (names_in x) y b) nf).0).1

    spares_b : (y : ℕ) → all_written y ≡ false → writes (names_in x) y b ≡ false
    spares_b y nf = (or_false (writes (names_in x) y c || writes (names_in x) y a) (writes (names_in x) y b) nf).1

    decides : (r : Tested) → KeepsTest x.program x.begun s.memory r → EitherR x (label_of x.top (one_in t g)) (label_of x.top (other_in t g)) (t + 1) (written_by x c) (test_in t g).ops (test_in t g).end l w r
        → Result x g (Name t) t all_written (test_in t g).ops (test_in t g).end l w (on_test r (evaluate calls (depth_in x) a) (evaluate calls (depth_in x) b))
    decides (Holds s1) keeps h =
        arm_decides a (from_a t) (with_inner_block x.place (other_in t g)) (one_in t g) typed_a above_a spares_a refl (closed_block x.graph x.top x.place (one_in t g) one_stands) (closed_inner x.graph x.top x.place (one_in t g) one_stands) does_a s1 keeps h
    decides (Fails s1) keeps h =
        arm_decides b (from_b t) (with_inner_block x.place (join_in t g)) (other_in t g) typed_b above_b spares_b refl (closed_block x.graph x.top x.place (other_in t g) other_stands) (closed_inner x.graph x.top x.place (other_in t g) other_stands) does_b s1 keeps h
    decides (NoTest e s1) keeps h = ended_result x g (Name t) t all_written (test_in t g).ops (test_in t g).end l w e s1 h

  -- the code where a value is chosen, and where nothing is
  abbrev choice_by : Bool → ℕ → Goal → Made
  choice_by void t g =
      let at = behind_move (not void) t in
      let at_a = pick (names_in x) at (laid (names_in x) c UseTested at).top in let at_b = pick (names_in x) at (laid (names_in x) a (arm_use void t) at_a).top in
      let m = leaf g (arm_value void t) in
      let y = code_in x b at_b (arm_goal void t (ending (Jump (label_of x.top m)) (with_inner_block x.place m))) in
      let z = code_in x a at_a (arm_goal void t (ending (Jump (label_of x.top m)) (with_inner_block x.place y))) in
      code_in x c at (Either (label_of x.top z) (label_of x.top y) (with_inner_block x.place z))

  abbrev laid_by : Bool → ℕ → Laid
  laid_by void t =
      if void then void_arms_laid (names_in x) t (laid (names_in x) c UseTested t) (laid (names_in x) a Nothing) (laid (names_in x) b Nothing)
      else arms_laid (names_in x) Anywhere t (laid (names_in x) c UseTested (t + 1)) (laid (names_in x) a (In t)) (laid (names_in x) b (In t))

  pub conditional_does : Does x calls (Conditional c a b)
  conditional_does t g s l w size st sound fits aims =
      subst (λ void. Stands x.graph x.top (choice_by void t g).inner → Result x g (laid_by void t).value t all_written (choice_by void t g).ops (choice_by void t g).end l w (evaluate calls (depth_in x) (Conditional c a b) s)) (sym whole)
      (λ st'. decides t g s l w size st' sound fits (condition_tested (evaluate calls (depth_in x) c s)) (keeps_tested x.program x.begun s.memory (kind_of x.program x.tree c) (evaluate calls (depth_in x) c s) (typed_c s sound))
      (does_c (t + 1) (Either (label_of x.top (one_in t g)) (label_of x.top (other_in t g)) (with_inner_block x.place (one_in t g))) s l w (omega (arith, size)) st' sound fits tt)) st

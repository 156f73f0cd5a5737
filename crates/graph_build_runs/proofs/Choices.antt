-- `&&`, `||`, `!` as a test, and `?:`.
use Rattle.std.proofs.Common.{◌≡◌, ℕ, ◌+◌, ◌<◌, ◌≤◌, List, [], ◌∷◌, Option, Some, None, Bool, true, false, not, ◌||◌, slice_get, refl, sym, ap, ◌∙◌, subst, arith, pos}
use Rattle.std.specs.Prelude.{if◌then◌else◌}
use Rattle.c_tree.specs.TypedExpressions.{RvalueTree, And, Or, Not, Conditional}
use Rattle.c_type_laws.specs.Expressions.{kind_of}
use Rattle.c_meaning_values.specs.declared.value.Value as source-value
use Rattle.c_meaning_steps.specs.States.{State, Evaluated, Gives, Leaves, Ends, Tested, Holds, Fails, NoTest, condition_tested, on_test}
use Rattle.c_meaning.specs.Expressions.{Calls, evaluate}
use Rattle.c_meaning_steps.specs.Steps.{truth_value}
use Rattle.c_type_rules.specs.ValueTypes.{type_of, is_void}
use Rattle.graph_core.specs.Graphs.{Operand, Name, Instruction, End, Jump, Block}
use Rattle.graph_core.specs.Runs.{entered}
use Rattle.graph_build_layout.specs.declared.laid.Use.{Use}
use Rattle.graph_build_layout.specs.declared.laid.Use.TheVariants.{Anywhere, In, Nothing, Tested as UseTested}
use Rattle.graph_build_names.specs.Names.{Names, pick}
use Rattle.graph_build_layout.specs.Laid.{behind_own, behind_move}
use Rattle.graph_build_layout.specs.Layout.{laid}
use Rattle.graph_build_names.specs.Writes.{writes}
use Rattle.graph_build_steps.specs.Drafts.{Made, Goal, To, Unused, Either, use_of, ending, leaf, with_inner_block, label_of, forked}
use Rattle.graph_build_runs.specs.Correspondence.{SameValue}
use Rattle.graph_build_runs.proofs.Leads.{Setting, names_in, size_in, depth_in, Local, World, at, stays, goes, then_leads, less_other, in_block}
use Rattle.graph_build_runs.proofs.Later.{others_refl}
use Rattle.graph_build_runs.proofs.Kept.{is_want, Sound, Fits, ScalarsFirst, fits_unwanted, fits_in_block}
use Rattle.graph_build_runs.proofs.Results.{Reached, Passes, to_label, to_made, Valued, ToR, EitherR, Result, ended_result, result_after, test_after, reached_weaker}
use Rattle.graph_build_runs.proofs.Tests.{HasWord}
use Rattle.graph_build_runs.proofs.Leaves.{leaf_done, left_stuck}
use Rattle.graph_build_runs.proofs.Typing.{Keeps, Gave, gave_by, Left, KeepsTest, keeps_tested, kind_word, Typed}
use Rattle.graph_build_runs.proofs.Standing.{Stands, Grows, inner_of, block_of, closed_inner, closed_block}
use Rattle.graph_build_runs.proofs.Operands.{Does, code_in, value_in, written_by, or_false}
use Rattle.graph_build_runs.proofs.Arithmetic.{pick_between}
use Rattle.graph_build_runs.proofs.Conditions.{fork_done, both_tests, either_test, both_as, either_as, own_above}

-- the names that a tested expression uses begin where it does
abbrev pub Tops : Setting → Use → RvalueTree → Type 0
Tops x u e = (t : ℕ) → size_in x ≤ t → t ≤ (laid (names_in x) e u t).top

module _ (x : Setting) (calls : Calls) (low : ScalarsFirst x) (a b : RvalueTree) (typed_a : Typed x calls a) (tops_a : Tops x UseTested a) (grows_a : Grows (names_in x) x.place x.top x.graph a) (grows_b : Grows (names_in x) x.place x.top x.graph b)
    (does_a : Does x calls a) (does_b : Does x calls b) where
  abbrev at_in : Goal → ℕ → ℕ
  at_in g t = behind_own (use_of g) t

  abbrev from_in : Goal → ℕ → ℕ
  from_in g t = pick (names_in x) (at_in g t) (laid (names_in x) a UseTested (at_in g t)).top

  abbrev right_in : Goal → ℕ → Made
  right_in g t = code_in x b (from_in g t) (Either (forked x.place x.top g t).one (forked x.place x.top g t).other (forked x.place x.top g t).inner)

  abbrev either_written : ℕ → Bool
  either_written y = writes (names_in x) y a || writes (names_in x) y b

  module _ (t : ℕ) (g : Goal) (s : State) (l : Local) (w : World) (size : size_in x ≤ t) (sound : Sound x.program x.begun s) (fits : Fits x None s l w) where
    at_above : t ≤ at_in g t
    at_above = own_above (use_of g) t

    from_above : t ≤ from_in g t
    from_above =
        let le = own_above (use_of g) t in
        let top = tops_a (at_in g t) (omega (arith, size, le)) in
        pick_between (names_in x) (at_in g t) (laid (names_in x) a UseTested (at_in g t)).top t le (omega (arith, le, top))

    -- behind the left operand the right one decides
    right_decides : (ops : List Instruction) (end : End) (s1 : State) → Stands x.graph x.top (with_inner_block x.place (right_in g t)) → Left x.program x.begun s.memory s1
        → Reached x None (at_in g t) (written_by x a) l w (to_label x ops end l w (label_of x.top (right_in g t))) s1
        → EitherR x (forked x.place x.top g t).one (forked x.place x.top g t).other t either_written ops end l w (condition_tested (evaluate calls (depth_in x) b s1))
    right_decides ops end s1 st left h =
        let m = right_in g t in
        let stands = closed_block x.graph x.top x.place m st in
        let le = at_above in
        let from = from_above in
        let l2 = in_block (label_of x.top m) h.local in
        test_after x t (from_in g t) either_written (written_by x b) ops m.ops end m.end l l2 w h.world (h.leads (block_of x.place m) stands)
        (λ y lt nf. (let no = or_false (writes (names_in x) y a) (writes (names_in x) y b) nf in (omega (arith, lt, from), no.1, h.kept y (omega (arith, lt, le)) refl no.0))) h.later
        (forked x.place x.top g t).one (forked x.place x.top g t).other (condition_tested (evaluate calls (depth_in x) b s1))
        (does_b (from_in g t) (Either (forked x.place x.top g t).one (forked x.place x.top g t).other (forked x.place x.top g t).inner) s1 l2 h.world (omega (arith, size, from)) (closed_inner x.graph x.top x.place m st) left.sound (fits_in_block x None s1 h.local h.world (label_of x.top m) h.fits) tt)

    -- the left one decides
    left_decides : (ops : List Instruction) (end : End) (s1 : State) (label : ℕ) → Reached x None (at_in g t) (written_by x a) l w (to_label x ops end l w label) s1 → Reached x None t either_written l w (to_label x ops end l w label) s1
    left_decides ops end s1 label h = reached_weaker x None t (at_in g t) either_written (written_by x a) l w (to_label x ops end l w label) s1 at_above (λ y lt nf. (or_false (writes (names_in x) y a) (writes (names_in x) y b) nf).0) h

    and_tests : (ops : List Instruction) (end : End) → Stands x.graph x.top (with_inner_block x.place (right_in g t)) → (r : Tested) → KeepsTest x.program x.begun s.memory r
        → EitherR x (label_of x.top (right_in g t)) (forked x.place x.top g t).other (at_in g t) (written_by x a) ops end l w r
        → EitherR x (forked x.place x.top g t).one (forked x.place x.top g t).other t either_written ops end l w (both_tests r (λ s1. condition_tested (evaluate calls (depth_in x) b s1)))
    and_tests ops end st (Holds s1) keeps h = right_decides ops end s1 st keeps h
    and_tests ops end st (Fails s1) keeps h = left_decides ops end s1 (forked x.place x.top g t).other h
    and_tests ops end st (NoTest e s1) keeps h = h

    or_tests : (ops : List Instruction) (end : End) → Stands x.graph x.top (with_inner_block x.place (right_in g t)) → (r : Tested) → KeepsTest x.program x.begun s.memory r
        → EitherR x (forked x.place x.top g t).one (label_of x.top (right_in g t)) (at_in g t) (written_by x a) ops end l w r
        → EitherR x (forked x.place x.top g t).one (forked x.place x.top g t).other t either_written ops end l w (either_test r (λ s1. condition_tested (evaluate calls (depth_in x) b s1)))
    or_tests ops end st (Holds s1) keeps h = left_decides ops end s1 (forked x.place x.top g t).one h
    or_tests ops end st (Fails s1) keeps h = right_decides ops end s1 st keeps h
    or_tests ops end st (NoTest e s1) keeps h = h

  pub and_does : Does x calls (And a b)
  and_does t g s l w size st sound fits aims =
      let way = forked x.place x.top g t in
      let m = right_in g t in
      let goal = Either (label_of x.top m) way.other (with_inner_block x.place m) in
      let c = code_in x a (at_in g t) goal in
      let le = own_above (use_of g) t in
      let stands = grows_a (at_in g t) goal st in
      let fork_stands = grows_b (from_in g t) (Either way.one way.other way.inner) (closed_inner x.graph x.top x.place m stands) in
      let r = condition_tested (evaluate calls (depth_in x) a s) in
      subst (Result x g (Name t) t either_written c.ops c.end l w) (both_as r (λ s1. condition_tested (evaluate calls (depth_in x) b s1)))
      (fork_done x low t either_written size g c.ops c.end l w (both_tests r (λ s1. condition_tested (evaluate calls (depth_in x) b s1))) fork_stands
      (and_tests t g s l w size sound fits c.ops c.end stands r (keeps_tested x.program x.begun s.memory (kind_of x.program x.tree a) (evaluate calls (depth_in x) a s) (typed_a s sound))
      (does_a (at_in g t) goal s l w (omega (arith, size, le)) st sound fits tt)))

  pub or_does : Does x calls (Or a b)
  or_does t g s l w size st sound fits aims =
      let way = forked x.place x.top g t in
      let m = right_in g t in
      let goal = Either way.one (label_of x.top m) (with_inner_block x.place m) in
      let c = code_in x a (at_in g t) goal in
      let le = own_above (use_of g) t in
      let stands = grows_a (at_in g t) goal st in
      let fork_stands = grows_b (from_in g t) (Either way.one way.other way.inner) (closed_inner x.graph x.top x.place m stands) in
      let r = condition_tested (evaluate calls (depth_in x) a s) in
      subst (Result x g (Name t) t either_written c.ops c.end l w) (either_as r (λ s1. condition_tested (evaluate calls (depth_in x) b s1)))
      (fork_done x low t either_written size g c.ops c.end l w (either_test r (λ s1. condition_tested (evaluate calls (depth_in x) b s1))) fork_stands
      (or_tests t g s l w size sound fits c.ops c.end stands r (keeps_tested x.program x.begun s.memory (kind_of x.program x.tree a) (evaluate calls (depth_in x) a s) (typed_a s sound))
      (does_a (at_in g t) goal s l w (omega (arith, size, le)) st sound fits tt)))

-- `&&`, `||` and `!`: where tests lead.
use Rattle.std.proofs.Common.{◌≡◌, ℕ, ◌+◌, ◌-◌, ◌<◌, ◌≤◌, List, [], ◌∷◌, ◌++◌, length, Option, Some, None, Bool, true, false, not, ◌||◌, slice_get, refl, sym, ap, ◌∙◌, subst, arith, pos}
use Rattle.std.specs.Prelude.{if◌then◌else◌}
use Rattle.c_tree.specs.TypedExpressions.{RvalueTree, And, Or, Not}
use Rattle.c_type_laws.specs.Expressions.{kind_of}
use Rattle.c_meaning_values.specs.declared.value.Value.TheVariants as source
use Rattle.c_meaning_steps.specs.declared.event.Ending.{Ending}
use Rattle.c_meaning_steps.specs.States.{State, Evaluated, Gives, Leaves, Ends, Tested, Holds, Fails, NoTest, condition_tested, on_test}
use Rattle.c_meaning.specs.Expressions.{Calls, evaluate}
use Rattle.c_meaning_steps.specs.Steps.{truth_value}
use Rattle.graph_core.specs.declared.value.Value.TheVariants.{Number}
use Rattle.graph_core.specs.Graphs as unit
use Rattle.graph_core.specs.Graphs.{Operand, Name, Instruction, End, Jump, Block}
use Rattle.graph_core.specs.Runs.{entered}
use Rattle.graph_build_names.specs.Conversions.{unsigned_bits}
use Rattle.graph_build_layout.specs.declared.laid.Use.{Use}
use Rattle.graph_build_layout.specs.declared.laid.Use.TheVariants.{Anywhere, In, Nothing, Tested as UseTested}
use Rattle.graph_build_names.specs.Names.{Names, pick}
use Rattle.graph_build_layout.specs.Laid.{behind_own}
use Rattle.graph_build_layout.specs.Layout.{laid}
use Rattle.graph_build_names.specs.Writes.{writes}
use Rattle.graph_build_steps.specs.Drafts.{Made, Goal, To, Unused, Either, use_of, leaf, with_inner_block, label_of, forked}
use Rattle.graph_build_code.specs.Code.{code}
use Rattle.graph_build_runs.specs.Correspondence.{SameValue}
use Rattle.graph_build_runs.proofs.Leads.{Setting, names_in, size_in, depth_in, Local, World, set_name, at, Leads, stays, goes, then_leads, put_here, put_elsewhere, less_other, in_block}
use Rattle.graph_build_runs.proofs.Later.{others_refl}
use Rattle.graph_build_runs.proofs.Kept.{is_want, Sound, Fits, ScalarsFirst, fits_temporary, fits_in_block}
use Rattle.graph_build_runs.proofs.Results.{Reached, Passes, to_label, Stuck, EitherR, Result, ended_result, result_after, test_after, reached_weaker}
use Rattle.graph_build_runs.proofs.Tests.{HasWord}
use Rattle.graph_build_runs.proofs.Leaves.{leaf_done}
use Rattle.graph_build_runs.proofs.Typing.{Keeps, KeepsTest, keeps_tested, Typed}
use Rattle.graph_build_runs.proofs.Standing.{Stands, Grows, inner_of, block_of, closed_inner, closed_block}
use Rattle.graph_build_runs.proofs.Operands.{Does, code_in, written_by, or_false}

-- The value of a test, where it comes to one of two arms that write it, or goes on to the labels of its goal.
module _ (x : Setting) (low : ScalarsFirst x) (t : ℕ) (f : ℕ → Bool) (size : size_in x ≤ t) where
  -- from an arm, which writes the truth, through what follows
  arm_done : (g : Goal) (z : ℕ) (s : State) (l : Local) (w : World) → Fits x None s l w → HasWord (source.Number (pos z)) → unsigned_bits (pos z) ≡ z
      → slice_get x.graph.blocks (label_of x.top (leaf g (Name t))) ≡ Some (block_of x.place (leaf g (Name t)))
      → Result x g (Name t) t f (unit.Move t (unit.Constant z) ∷ []) (Jump (label_of x.top (leaf g (Name t)))) l w (Gives (source.Number (pos z)) s)
  arm_done g z s l w fits word same stands =
      let m = leaf g (Name t) in
      let e = Jump (label_of x.top m) in
      let l2 = set_name l t (Number z) in
      let there = label_of x.top m in
      result_after x t t f f (unit.Move t (unit.Constant z) ∷ []) m.ops e m.end l (in_block there l2) w w
      (goes refl (goes (ap (entered (at x [] e l2 w) there) stands) stays))
      (λ y lt nf. (lt, nf, put_elsewhere l.names t y (Number z) (less_other y t lt))) (others_refl w.memory) g (Name t) (Gives (source.Number (pos z)) s)
      (leaf_done x g (Name t) t f (source.Number (pos z)) s (in_block there l2) w (fits_in_block x None s l2 w there (fits_temporary x s l w t (Number z) low fits size)) (put_here l.names t (Number z) ∙ ap Number (sym same)) word)

  -- from before a test to what follows its value, by an arm
  by_arm : (g : Goal) (z label : ℕ) (inner : List Block) (ops : List Instruction) (end : End) (l : Local) (w : World) (s : State) → HasWord (source.Number (pos z)) → unsigned_bits (pos z) ≡ z
      → slice_get x.graph.blocks (label_of x.top (leaf g (Name t))) ≡ Some (block_of x.place (leaf g (Name t)))
      → slice_get x.graph.blocks label ≡ Some (block_of x.place (record { ops = unit.Move t (unit.Constant z) ∷ []; end = Jump (label_of x.top (leaf g (Name t))); inner = inner }))
      → Reached x None t f l w (to_label x ops end l w label) s → Result x g (Name t) t f ops end l w (Gives (source.Number (pos z)) s)
  by_arm g z label inner ops end l w s word same stands arm h =
      let b : Block = block_of x.place (record { ops = unit.Move t (unit.Constant z) ∷ []; end = Jump (label_of x.top (leaf g (Name t))); inner = inner }) in
      result_after x t t f f ops b.instructions end b.end l (in_block label h.local) w h.world (h.leads b arm) (λ y lt nf. (lt, nf, h.kept y lt refl nf)) h.later g (Name t) (Gives (source.Number (pos z)) s)
      (arm_done g z s (in_block label h.local) h.world (fits_in_block x None s h.local h.world label h.fits) word same stands)

  -- a goal that is a value: two arms stand
  valued_fork : (g : Goal) (ops : List Instruction) (end : End) (l : Local) (w : World) (r : Tested) → let m = leaf g (Name t) in
      let zero_arm : Made = record { ops = unit.Move t (unit.Constant 0) ∷ []; end = Jump (label_of x.top m); inner = with_inner_block x.place m } in
      let one_arm : Made = record { ops = unit.Move t (unit.Constant 1) ∷ []; end = Jump (label_of x.top m); inner = with_inner_block x.place zero_arm } in
      Stands x.graph x.top (with_inner_block x.place one_arm) → EitherR x (label_of x.top one_arm) (label_of x.top zero_arm) t f ops end l w r → Result x g (Name t) t f ops end l w (on_test r (truth_value (pos 1)) (truth_value (pos 0)))
  valued_fork g ops end l w (Holds s) st h =
      let m = leaf g (Name t) in
      let zero_arm : Made = record { ops = unit.Move t (unit.Constant 0) ∷ []; end = Jump (label_of x.top m); inner = with_inner_block x.place m } in
      let one_arm : Made = record { ops = unit.Move t (unit.Constant 1) ∷ []; end = Jump (label_of x.top m); inner = with_inner_block x.place zero_arm } in
      let zero_stands = closed_inner x.graph x.top x.place one_arm st in
      let m_stands = closed_inner x.graph x.top x.place zero_arm zero_stands in
      by_arm g 1 (label_of x.top one_arm) one_arm.inner ops end l w s (omega arith) refl (closed_block x.graph x.top x.place m m_stands) (closed_block x.graph x.top x.place one_arm st) h
  valued_fork g ops end l w (Fails s) st h =
      let m = leaf g (Name t) in
      let zero_arm : Made = record { ops = unit.Move t (unit.Constant 0) ∷ []; end = Jump (label_of x.top m); inner = with_inner_block x.place m } in
      let one_arm : Made = record { ops = unit.Move t (unit.Constant 1) ∷ []; end = Jump (label_of x.top m); inner = with_inner_block x.place zero_arm } in
      let zero_stands = closed_inner x.graph x.top x.place one_arm st in
      let m_stands = closed_inner x.graph x.top x.place zero_arm zero_stands in
      by_arm g 0 (label_of x.top zero_arm) zero_arm.inner ops end l w s (omega arith) refl (closed_block x.graph x.top x.place m m_stands) (closed_block x.graph x.top x.place zero_arm zero_stands) h
  valued_fork g ops end l w (NoTest e s) st h = ended_result x g (Name t) t f ops end l w e s h

  -- a goal that is a test
  tested_fork : (one other : ℕ) (ops : List Instruction) (end : End) (l : Local) (w : World) (r : Tested) → EitherR x one other t f ops end l w r → EitherR x one other t f ops end l w (condition_tested (on_test r (truth_value (pos 1)) (truth_value (pos 0))))
  tested_fork one other ops end l w (Holds s) h = h
  tested_fork one other ops end l w (Fails s) h = h
  tested_fork one other ops end l w (NoTest e s) h = h

  pub fork_done : (g : Goal) (ops : List Instruction) (end : End) (l : Local) (w : World) (r : Tested) → Stands x.graph x.top (forked x.place x.top g t).inner
      → EitherR x (forked x.place x.top g t).one (forked x.place x.top g t).other t f ops end l w r → Result x g (Name t) t f ops end l w (on_test r (truth_value (pos 1)) (truth_value (pos 0)))
  fork_done (Either one other inner) ops end l w r st h = tested_fork one other ops end l w r h
  fork_done (To want m) ops end l w r st h = valued_fork (To want m) ops end l w r st h
  fork_done (Unused m) ops end l w r st h = valued_fork (Unused m) ops end l w r st h

-- both tests, or either
abbrev pub both_tests : Tested → (State → Tested) → Tested
both_tests (Holds s) next = next s
both_tests (Fails s) next = Fails s
both_tests (NoTest e s) next = NoTest e s

abbrev pub either_test : Tested → (State → Tested) → Tested
either_test (Holds s) next = Holds s
either_test (Fails s) next = next s
either_test (NoTest e s) next = NoTest e s

pub both_as : (r : Tested) (next : State → Tested) → on_test (both_tests r next) (truth_value (pos 1)) (truth_value (pos 0)) ≡ on_test r (λ s. on_test (next s) (truth_value (pos 1)) (truth_value (pos 0))) (truth_value (pos 0))
both_as (Holds s) next = refl
both_as (Fails s) next = refl
both_as (NoTest e s) next = refl

pub either_as : (r : Tested) (next : State → Tested) → on_test (either_test r next) (truth_value (pos 1)) (truth_value (pos 0)) ≡ on_test r (truth_value (pos 1)) (λ s. on_test (next s) (truth_value (pos 1)) (truth_value (pos 0)))
either_as (Holds s) next = refl
either_as (Fails s) next = refl
either_as (NoTest e s) next = refl

pub own_above : (u : Use) (t : ℕ) → t ≤ behind_own u t
own_above (In y) t = omega arith
own_above Anywhere t = omega arith
own_above Nothing t = omega arith
own_above UseTested t = omega arith

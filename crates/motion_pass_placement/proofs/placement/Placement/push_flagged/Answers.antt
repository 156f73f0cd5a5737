use Rattle.std.proofs.Common.{◌≡◌, true≢false, List, Option, Some, None, sym, ap, ◌∙◌}
use Rattle.std.specs.Prelude.{option_map, slice_get, slice_index_or}
use Rattle.std.proofs.lemmas.Option.{none-some, slice_get-map}
use Rattle.graph_core.specs.declared.name.Name as declared-name
use Rattle.motion_pass_points.specs.Ways.{along}
use Rattle.motion_pass_points.specs.declared.computation.Computation as declared-computation
use Rattle.motion_pass_points.specs.MotionPointsComputing.{computation_view}
use Rattle.motion_pass_placement.specs.Placed.{all_of, temporary_of}
use Rattle.motion_pass_placement.proofs.Members.{raw_there}
use Rattle.motion_pass_placement.proofs.Edges.{done_on, inserted_read, passed_on}
use Rattle.motion_pass_placement.proofs.placement.Placement.push_flagged.Goals as goal

pub returns-then-not-flag : goal.returns-then-not-flag
returns-then-not-flag c = λ g is from to told come was. passed_on g.blocks c.args.self.now (along from to) c.args.number _ was (λ e at inserted. true≢false (sym ((told e at).1 inserted) ∙ c.if-not-flag.true))

pub returns-in_default : goal.returns-in_default
returns-in_default c = λ g is from to told come was. passed_on g.blocks c.args.self.now (along from to) c.args.number _ was (λ e at inserted.
    (let raw = raw_there c.args.self.now.computations.all.items c.args.number e at in
    none-some raw.0 (sym (sym (c.computation_at.ensures ∙ ap (λ (all : List declared-computation.Computation). slice_get all c.args.number) c.deref.ensures.value) ∙ c.in_default.is) ∙ raw.1.0)))

pub returns-in_default-temporary_at : goal.returns-in_default-temporary_at
returns-in_default-temporary_at c = λ g is from to told come was. passed_on g.blocks c.args.self.now (along from to) c.args.number _ was (λ e at inserted.
    (let named = (is.named c.args.number e at).1 (inserted_read g.blocks e (along from to) come inserted) in
    none-some named.0 (sym (sym (c.temporary_at.ensures ∙ ap (λ (all : List (Option declared-name.Name)). slice_index_or all c.args.number None) c.deref-2.ensures.value) ∙ c.in_default-temporary_at.is) ∙ named.1)))

pub returns : goal.returns
returns c = λ g is from to told come was.
    (let p = c.args.self.now in
    let k = c.args.number in
    let raw : slice_get p.computations.all.items k ≡ Some c.in-Some.computation = sym (c.computation_at.ensures ∙ ap (λ (all : List declared-computation.Computation). slice_get all k) c.deref.ensures.value) ∙ c.in-Some.is in
    let at : slice_get (all_of p) k ≡ Some (computation_view c.in-Some.computation) = slice_get-map computation_view p.computations.all.items k ∙ ap (option_map computation_view) raw in
    let named : temporary_of p.temporaries.items k ≡ Some c.in-Some-temporary_at.temporary = sym (c.temporary_at.ensures ∙ ap (λ (all : List (Option declared-name.Name)). slice_index_or all k None) c.deref-2.ensures.value) ∙ c.in-Some-temporary_at.is in
    done_on g.blocks p (along from to) k c.args.out.now.items c.push.new.self.items c.into_name-instruction.result c.in_ok-push.ensures.items (computation_view c.in-Some.computation) c.in-Some-temporary_at.temporary c.into_name-instruction.ensures was at named ((told _ at).0 c.if-not-flag.false))

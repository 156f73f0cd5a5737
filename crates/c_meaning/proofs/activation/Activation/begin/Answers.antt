use Rattle.std.proofs.Common.{◌≡◌, List, [], ◌∷◌, ◌++◌, IfSome, map, ap, ◌∙◌, subst}
use Rattle.c_meaning_values.specs.declared.memory.Object.{Object}
use Rattle.c_meaning_values.specs.Views.{object_view}
use Rattle.c_meaning_steps.specs.EventViews.{stop_view}
use Rattle.c_meaning.specs.CActivationsViews.{activation_view, stop_at}
use Rattle.c_meaning.proofs.activation.Activation.begin.Goals as goal

pub stop-requires : goal.stop-requires
stop-requires c =
    let here = activation_view c.args.self.now in
    let events = c.args.state.now.seen.log.events in
    record {
      stop = stop_at here c.args.spot.at (map object_view c.args.state.now.memory.all.items);
      adds = c.with_stop-log.ensures ∙ ap (λ (m : List Object). events ++ stop_at here c.args.spot.at (map object_view m) ∷ []) c.as_slice.ensures.value;
      stands = c.standing-standing.ensures (map object_view c.args.state.now.memory.all.items);
      is_made = subst (λ (m : List Object). IfSome c.in_ok-made.made (λ s. stop_view s ≡ stop_at here c.args.spot.at (map object_view m))) c.deref.ensures.value c.in_ok-made.ensures;
    }

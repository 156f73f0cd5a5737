use Rattle.std.proofs.Common.{get_or, refl, ◌+◌, ◌*◌, ◌∙◌, arith, false}
use Rattle.std.proofs.lemmas.List.{length-set}
use Rattle.places.proofs.Numbers.{flagged_next}
use Rattle.places.proofs.search.flagged_places.Goals as goal

pub loop-place-preserved : goal.loop-place-preserved
loop-place-preserved c =
    let flags = c.args.flags.now in
    let blocked = c.loop-place.blocked.items in
    let k = c.loop-place.place in
    let size = c.loop-place.invariant.0 in (
      length-set _ (2 * k + 1) (get_or flags k false) ∙ length-set blocked (2 * k) (get_or flags k false) ∙ size,
      flagged_next flags blocked k (get_or flags k false) (omega (arith, size, c.loop-place-test.true, c.min-place-end.ensures)) refl c.loop-place.invariant.1,
    )

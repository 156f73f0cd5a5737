use Rattle.std.proofs.Common.{sym, subst}
use Rattle.image_form.specs.Rules.{IsImage}
use Rattle.image_form.specs.RulesOfFunctions.{IsPlaceNumber}
use Rattle.stop_engine.proofs.Answering.{place_at-number, stands_at}
use Rattle.stop_engine.proofs.run.Run.stop.Goals as goal

pub returns-clause-some : goal.returns-clause-some
returns-clause-some c =
    let r = c.self.inside in
    let place = c.in_ok-place.place in
    let here = stands_at r.table r.standing r.machine place (sym c.in_ok-place.ensures) c.self.invariant.1 in
    rw (← c.self.view_is) (record {
      image = c.image.ensures;
      valid = subst IsImage (sym c.image.ensures) c.self.invariant.0;
      position = here.stands;
      place = here.begins;
      number = subst (λ m. IsPlaceNumber m place) (sym c.image.ensures) (place_at-number r.table r.machine.pc place here.begins);
    })

use Rattle.std.proofs.Common.{refl}
use Rattle.graph_homes.specs.Homed.{homed_view}
use Rattle.image_build.proofs.Rows.{shown_apart, shown_evident, shown_hidden, shown_least, shown_named, shown_only, shown_reached, shown_recovered, shown_written}
use Rattle.image_build.proofs.telling.verdicts_on.Goals as goal

pub returns-then-is_plain-clause-borne_out : goal.returns-then-is_plain-clause-borne_out
returns-then-is_plain-clause-borne_out c =
    let h = homed_view c.args.homed.now in
    let rows = c.in_ok-shown.shown.items in
    let told = c.in_ok-shown.ensures in
    record {
      flow = c.args.homed.now.unit.flow;
      steps = refl;
      assignments = refl;
      home = c.requires.plain c.if-is_plain.true rows told.visible;
      recovered = shown_recovered rows told.shown h;
      apart = shown_apart rows told.shown h;
      only = shown_only rows told.shown h;
      least = shown_least rows told.shown h;
      hidden = shown_hidden rows told.shown h;
      reached = shown_reached rows told.shown h;
      named = shown_named rows told.shown h.unit.log;
      written = shown_written rows told.shown h;
      evident = shown_evident rows told.shown h.unit.log c.args.homed.now.unit.flow h;
    }

pub returns-clause-borne_out : goal.returns-clause-borne_out
returns-clause-borne_out c =
    let told = c.in_ok-told.ensures in
    record {
      flow = c.args.homed.now.unit.flow;
      steps = refl;
      assignments = refl;
      home = told.home;
      recovered = told.recovered;
      apart = told.apart;
      only = told.only;
      least = told.least;
      hidden = told.hidden;
      reached = told.reached;
      named = told.named;
      written = told.written;
      evident = told.evident;
    }

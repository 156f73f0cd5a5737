use Rattle.std.proofs.Common.{refl, sym, ap, ◌∙◌}
use Rattle.c_meaning_steps.specs.Tallies.{bytes_in, counted, last_stop, stops_in}
use Rattle.c_meaning_steps.proofs.seen.Seen.in_short.Goals as goal

pub invariant_of-result : goal.invariant_of-result
invariant_of-result c = record {
  stops_are = sym (ap (λ all. counted (stops_in all)) c.new.ensures);
  bytes_are = sym (ap (λ all. counted (bytes_in all)) c.new.ensures);
  last_is = sym (ap last_stop c.new.ensures);
  kept_are = tt;
}

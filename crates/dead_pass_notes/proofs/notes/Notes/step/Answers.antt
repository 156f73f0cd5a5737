use Rattle.std.proofs.Common.{refl}
use Rattle.dead_pass_notes.proofs.Walking.{gone_on, known_same}
use Rattle.dead_pass_notes.proofs.notes.Notes.step.Goals as goal

pub returns-clause-known : goal.returns-clause-known
returns-clause-known c = λ idle known. known_same idle c.args.self.now _ refl refl c.step.ensures.others known

pub returns-clause-come : goal.returns-clause-come
returns-clause-come c = λ idle n before i left known inside is_target goes so_far x named.
    gone_on idle c.args.self.now c.step.new.marks n before i left _ c.args.goes c.step.ensures.others known inside c.step.ensures.walk is_target goes so_far x named

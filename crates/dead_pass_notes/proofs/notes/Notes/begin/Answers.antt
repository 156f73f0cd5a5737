use Rattle.std.proofs.Common.{refl, arith}
use Rattle.dead_pass_notes.proofs.Walking.{begun, known_same}
use Rattle.dead_pass_notes.proofs.notes.Notes.begin.Goals as goal

pub returns-then-block-self-clause-known : goal.returns-then-block-self-clause-known
returns-then-block-self-clause-known c = λ idle known. known_same idle c.args.self.now _ refl refl c.begin.ensures.others known

pub returns-then-block-self-clause-come : goal.returns-then-block-self-clause-come
returns-then-block-self-clause-come c = λ idle known inside left x named. begun idle c.args.self.now c.begin.new.marks c.args.block c.begin.ensures.others known inside c.begin.ensures.walk left x named

pub returns-else-block-self-clause-come : goal.returns-else-block-self-clause-come
returns-else-block-self-clause-come c = λ idle known inside left x named. (let outside = c.if-block-self.false in let blocks = known.blocks in absurd (omega (arith, outside, inside, blocks)))

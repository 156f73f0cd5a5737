use Rattle.std.proofs.Common.{ap, rules, List}
use Rattle.std.proofs.lemmas.Fn.{filter_same}
use Rattle.rv_emit_words.specs.declared.piece.Held.{Held}
use Rattle.rv_emit_words.proofs.code.Code.forget.Goals as goal

pub returns-clause-grown : goal.returns-clause-grown
returns-clause-grown c = ap (λ (l : List Held). record { pieces = c.args.self.now.pieces.items; held = l; owner = c.args.self.now.owner; begins = c.args.self.now.begins }) (filter_same _ _ _ (λ x b f' k. search rules) _ _ c.retain.ensures.filtered)

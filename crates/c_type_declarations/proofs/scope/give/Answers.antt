use Rattle.std.proofs.Common.{string_bytes, Some}
use Rattle.std.proofs.lemmas.Map.Text.{hash_map_updates_text}
use Rattle.c_type_declarations.proofs.scope.give.Goals as goal

pub returns : goal.returns
returns c = λ i q. hash_map_updates_text (string_bytes c.args.name) c.args.scope.now.meanings c.insert.new.self (Some c.args.meaning) c.in_ok-insert.ensures.updates q i

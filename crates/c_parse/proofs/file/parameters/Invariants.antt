use Rattle.std.proofs.Common.{◌≡◌, ◌≤◌, ℕ, length}
use Rattle.std.specs.Prelude.{map}
use Rattle.c_token.specs.Lexemes.{lexemes}
use Rattle.c_tree.specs.Declarations.{parameter_view}
use Rattle.c_parse_tokens.specs.Front.{separated}
use Rattle.c_parse.specs.Reading.{parameter, parameters}
use Rattle.c_parse.proofs.file.parameters.Given as goal

abbrev pub invariant-loop-after : goal.invariant-loop-after
invariant-loop-after l = record {
  not_longer : length l.rest ≤ length l.tokens;
  same : (n : ℕ) × (length l.rest ≤ n) × (parameters l.depth (lexemes l.tokens)
      ≡ separated n (parameter l.depth) (map parameter_view l.parameters.items) (lexemes l.rest));
}

abbrev pub decreases-loop-after : goal.decreases-loop-after
decreases-loop-after l = length l.rest

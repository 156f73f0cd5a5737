use Rattle.std.proofs.Common.{◌≡◌, ◌<◌, ◌≤◌, length, ℕ, ◌+◌, ◌*◌}
use Rattle.std.specs.Prelude.{map}
use Rattle.c_token.specs.Lexemes.{lexemes}
use Rattle.c_tree.specs.Declarations.{initializer_view}
use Rattle.c_parse_statements.specs.Declarations.{within_braces, in_braces, more_in_braces}
use Rattle.c_parse_statements.proofs.initializer.+initializer.Given as goal

abbrev pub decreases-nested_initializer : goal.decreases-nested_initializer
decreases-nested_initializer l = 4 * l.depth

abbrev pub decreases-in_braces : goal.decreases-in_braces
decreases-in_braces l = 4 * l.depth + 1

abbrev pub decreases-initializer : goal.decreases-initializer
decreases-initializer l = 4 * l.depth + 2

abbrev pub invariant-in_braces-loop-after : goal.invariant-in_braces-loop-after
invariant-in_braces-loop-after l = record {
  shorter : length l.rest < length l.tokens;
  same : (n : ℕ) × (length l.rest ≤ n) × (in_braces (within_braces l.depth) (lexemes l.tokens)
      ≡ more_in_braces n (within_braces l.depth) (map initializer_view l.initializers.items) (lexemes l.rest));
}

abbrev pub decreases-in_braces-loop-after : goal.decreases-in_braces-loop-after
decreases-in_braces-loop-after l = length l.rest

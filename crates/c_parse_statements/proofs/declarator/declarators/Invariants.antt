use Rattle.std.proofs.Common.{◌≡◌, ◌≤◌, ℕ, [], ◌∷◌, length}
use Rattle.std.specs.Prelude.{map}
use Rattle.c_token.specs.Lexemes.{lexemes}
use Rattle.c_tree.specs.Declarations.{declarator_view}
use Rattle.c_parse_tokens.specs.Front.{separated}
use Rattle.c_parse_statements.specs.Declarations.{declarator}
use Rattle.c_parse_statements.proofs.declarator.declarators.Given as goal

abbrev pub invariant-loop-after : goal.invariant-loop-after
invariant-loop-after l = record {
  not_longer : length l.rest ≤ length l.tokens;
  same : (n : ℕ) × (length l.rest ≤ n) × (separated (length (lexemes l.tokens)) (declarator l.depth) (declarator_view l.fn.first.value ∷ []) (lexemes l.tokens)
      ≡ separated n (declarator l.depth) (map declarator_view l.declarators.items) (lexemes l.rest));
}

abbrev pub decreases-loop-after : goal.decreases-loop-after
decreases-loop-after l = length l.rest

use Rattle.std.proofs.Common.{◌≡◌, ◌+◌, ◌-◌, ◌≤◌, ◌++◌, List, length, drop}
use Rattle.c_token.specs.declared.fault.Fault.{Fault}
use Rattle.c_token.specs.Includes.{context_at_start}
use Rattle.c_token.specs.Lexemes.{Lexeme, lexemes}
use Rattle.c_token.specs.Spells.{SpellsFrom, FaultsFrom}
use Rattle.c_token.specs.Texts.{line_of, with_tokens, tokens_from, tokens_of}
use Rattle.c_token.proofs.text.tokens.Given as goal

abbrev pub invariant-loop-at : goal.invariant-loop-at
invariant-loop-at l = record {
  same : with_tokens (lexemes l.tokens.items) (tokens_from l.text 0 l.at l.context (drop l.at l.text)) ≡ tokens_of l.text;
  spells : (ts : List Lexeme) → SpellsFrom l.text l.at l.context ts → SpellsFrom l.text 0 context_at_start (lexemes l.tokens.items ++ ts);
  faults : (f : Fault) → FaultsFrom l.text l.at l.context f → FaultsFrom l.text 0 context_at_start f;
  in_range : l.at ≤ length l.text;
  short : length l.text ≤ 1048576;
  line : l.line ≡ line_of l.text l.at;
  few_lines : l.line ≤ l.at + 1;
  deep : l.context.depth ≤ l.at;
  few : length l.tokens.items ≤ l.at;
}

abbrev pub decreases-loop-at : goal.decreases-loop-at
decreases-loop-at l = length l.initial.text - l.at

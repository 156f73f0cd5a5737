-- The program of an accepted text is made of a tree that stands in order and is formed.
use Rattle.std.proofs.Common.{◌≡◌, ℕ, true, List, Result, Ok, Err, refl, ap, ◌∙◌}
use Rattle.debug_records.specs.declared.code.Code.{Code}
use Rattle.c_token.specs.Lexemes.{Lexeme}
use Rattle.c_token.specs.Reading.{◌>>=◌}
use Rattle.c_token.specs.Texts.{tokens_of}
use Rattle.c_tree.specs.Trees.{ItemTree}
use Rattle.c_tree.specs.Programs.{ProgramTree}
use Rattle.c_parse.specs.Reading.{tree_of}
use Rattle.c_type.specs.Programs.{checked}
use Rattle.c_type_laws.specs.Statics.{are_bytes}
use Rattle.c_source.specs.Accepted.{IsAccepted, HasTree}
use Rattle.c_source.proofs.CReadingsSources.{tree_in_order, tree_within, tree_formed}

-- An accepted text has a tree that stands in order and is formed.
pub accepted_tree : (text : List ℕ) (p : ProgramTree) → are_bytes text ≡ true → IsAccepted text p → HasTree text p
accepted_tree text p bytes accepted = by (tokens_of text) refl accepted
  where
    behind : (tokens : List Lexeme) → tokens_of text ≡ Ok tokens → (r : Result (List ItemTree) (Code × ℕ)) → tree_of tokens ≡ r → (r >>= checked) ≡ Ok p → HasTree text p
    behind tokens spelled (Ok items) tree h =
        let read : (tokens_of text >>= tree_of) ≡ Ok items = ap (λ (r : Result (List Lexeme) (Code × ℕ)). r >>= tree_of) spelled ∙ tree in
        record { items = items; read = read; checks = h; in_order = tree_in_order text tokens items bytes spelled tree; within = tree_within text tokens items bytes spelled tree; formed = tree_formed text tokens items bytes spelled tree }
    behind tokens spelled (Err f) tree h = absurd cc

    by : (r : Result (List Lexeme) (Code × ℕ)) → tokens_of text ≡ r → (r >>= tree_of >>= checked) ≡ Ok p → HasTree text p
    by (Ok tokens) spelled h = behind tokens spelled (tree_of tokens) refl h
    by (Err f) spelled h = absurd cc

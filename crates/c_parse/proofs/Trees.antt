-- The tree that is read is the tree that the tokens spell: there is one or none.
use Rattle.std.proofs.Common.{◌≡◌, ℕ, suc, max, ◌<◌, ◌≤◌, ◌↔◌, List, [], length, Result, Ok, Err, sym, ◌∙◌, arith}
use Rattle.std.proofs.Math.Nat.{le-max_left, le-max_right}
use Rattle.std.specs.Prelude.{IfOk, IfErr}
use Rattle.debug_records.specs.Refusals.{Answers}
use Rattle.debug_records.specs.declared.source.SourceErr.{SourceErr}
use Rattle.debug_records.specs.declared.source.SourceErr.TheVariants.{Refused, NoMemory}
use Rattle.debug_records.specs.declared.code.Code.{Code}
use Rattle.c_token.specs.Lexemes.{Lexeme}
use Rattle.c_tree.specs.declared.declaration.Tree.{Tree}
use Rattle.c_tree.specs.Trees.{ItemTree, tree_view}
use Rattle.c_parse_tokens.specs.declared.fault.Stuck.{Stuck}
use Rattle.c_parse.specs.Reading.{items_from, tree_of}
use Rattle.c_parse.specs.Depths.{file_depth}
use Rattle.c_parse.specs.Files.{Spells, IsTreeOf, HasNoTree}
use Rattle.c_parse.proofs.Depths.{file_up, file_down}
use Rattle.c_parse.proofs.SoundFiles.{tree_spelled}
use Rattle.c_parse.proofs.CompleteFiles.{all_read, tree_read}

-- What is read as the tree of tokens is the tree that they spell, in which constructs nest 64 deep at most.
pub tree_is : (ts : List Lexeme) (all : List ItemTree) → (tree_of ts ≡ Ok all) ↔ (IsTreeOf ts all)
tree_is ts all =
    ((λ e. let h = tree_spelled ts all e in record { spelled = h.0; fits = file_down all 64 h.1 }), (λ h. tree_read ts all h.spelled (file_up all 64 h.fits)))

-- these items are read
abbrev read : List ItemTree → Result (List ItemTree) Stuck
read all = Ok all

some_same : {a b : List ItemTree} → read a ≡ read b → a ≡ b
some_same e = cc

-- Tokens spell at most one tree, however deep it nests: the grammar is not ambiguous.
pub one_tree : (ts : List Lexeme) (a b : List ItemTree) → Spells ts a → Spells ts b → a ≡ b
one_tree ts a b s r =
    let d = max (file_depth a) (file_depth b) in
    let in_a : file_depth a ≤ suc d = omega (arith, le-max_left (file_depth a) (file_depth b)) in
    let in_b : file_depth b ≤ suc d = omega (arith, le-max_right (file_depth a) (file_depth b)) in
    let e : items_from (length ts) (suc d) [] ts ≡ Ok a = all_read s d (file_up a (suc d) in_a) (length ts) (omega arith) [] in
    let f : items_from (length ts) (suc d) [] ts ≡ Ok b = all_read r d (file_up b (suc d) in_b) (length ts) (omega arith) [] in
    some_same (sym e ∙ f)

-- Tokens that are refused spell no tree, or one in which constructs nest more than 64 deep.
pub refused_is_too_deep : (ts : List Lexeme) (fault : Code × ℕ) (all : List ItemTree) → tree_of ts ≡ Err fault → Spells ts all → 64 < file_depth all
refused_is_too_deep ts fault all e s = grind (arith, not_within)
  where
    not_within : file_depth all ≤ 64 → ⊥
    not_within le = let g : Ok all ≡ Err fault = sym (tree_read ts all s (file_up all 64 le)) ∙ e in absurd cc

-- What a reader answers of tokens whose tree it reads.
pub answer_spelled : (ts : List Lexeme) (r : Result Tree SourceErr) → Answers tree_view r (tree_of ts) → IfOk r (λ t. IsTreeOf ts (tree_view t))
answer_spelled ts (Ok t) h = (tree_is ts (tree_view t)).0 h
answer_spelled ts (Err e) h = tt

not_both : (r : Result (List ItemTree) (Code × ℕ)) (all : List ItemTree) (f : Code × ℕ) → r ≡ Ok all → r ≡ Err f → ⊥
not_both (Ok x) all f e g = absurd cc
not_both (Err x) all f e g = absurd cc

pub answer_refused : (ts : List Lexeme) (r : Result Tree SourceErr) → Answers tree_view r (tree_of ts) → IfErr r (λ e. HasNoTree ts e)
answer_refused ts (Ok t) h = tt
answer_refused ts (Err NoMemory) h = tt
answer_refused ts (Err (Refused code line)) h = λ all s. not_both (tree_of ts) all (code, line) ((tree_is ts all).1 s) h

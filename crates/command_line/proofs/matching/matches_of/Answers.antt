use Rattle.std.proofs.Common.{arith, refl, sym, ◌-◌, ◌≡◌, ◌∙◌, ap, drop, take, length, map, string_bytes, List, [], ◌∷◌}
use Rattle.std.specs.List.{list_all}
use Rattle.std.proofs.lemmas.List.{take_all}
use Rattle.clap.specs.Words.{app_of}
use Rattle.command_line.specs.Words.{Text, is_checked, is_readable}
use Rattle.command_line.proofs.WordsLemmas.{all_checked, from_err, from_ok, unchecked}
use Rattle.command_line.proofs.matching.matches_of.Goals as goal

checked : {X : Type 0} (text : X → Text) (xs : List X) → list_all (λ x. is_readable (text x)) (take (length xs - 1) (drop 1 xs)) ≡ is_checked (map text xs)
checked text [] = refl
checked text (x ∷ xs) =
    let n : length (x ∷ xs) - 1 ≡ length xs = omega arith in
    ap (λ k. list_all (λ y. is_readable (text y)) (take k xs)) n ∙ ap (list_all (λ y. is_readable (text y))) (take_all (length xs) xs (omega arith)) ∙ all_checked text xs

pub returns-then-not-are_readable : goal.returns-then-not-are_readable
returns-then-not-are_readable c =
    unchecked (map string_bytes c.args.words.now) (sym (checked string_bytes c.args.words.now) ∙ sym c.are_readable.ensures ∙ c.if-not-are_readable.true)

pub returns-in-Ok : goal.returns-in-Ok
returns-in-Ok c =
    from_ok (map string_bytes c.args.words.now) (app_of c.in_ok-command.command) c.in-Ok.matches c.in_ok-command.ensures
    (sym (checked string_bytes c.args.words.now) ∙ sym c.are_readable.ensures ∙ c.if-not-are_readable.false) c.in-Ok.ensures.kinds c.in-Ok.ensures.matches

pub returns : goal.returns
returns c =
    from_err (map string_bytes c.args.words.now) (app_of c.in_ok-command.command) c.in-Err.error c.in_ok-command.ensures
    (sym (checked string_bytes c.args.words.now) ∙ sym c.are_readable.ensures ∙ c.if-not-are_readable.false) c.in-Err.ensures.kinds
    (λ e. c.in_default.not-OutOfMemory (c.kind.ensures ∙ e))

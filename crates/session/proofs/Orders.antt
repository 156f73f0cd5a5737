-- The orders of a script, carried out one after the other.
use Rattle.std.proofs.Common.{◌≡◌, ℕ, zero, suc, ◌+◌, ◌<◌, sym, ap, ◌∙◌, subst, arith, List, [], ◌∷◌, ◌++◌, length, drop, get_or}
use Rattle.std.specs.List.{flat_map}
use Rattle.std.proofs.lemmas.Grind.{flat_map-append}
use Rattle.outside.specs.Taken.{TakesPart}
use Rattle.line_form.specs.Lines.{line}
use Rattle.script_form.specs.declared.command.Command.{Command}
use Rattle.script_form.specs.Script.{Order, order_of, orders}
use Rattle.stop_engine.specs.EngineState.{EngineState, Answers, lines_of}
use Rattle.session.proofs.Parts.{IsUnderWay, under_way_part}

-- what is left of the commands
pub order_left : (commands : List Command) (i : ℕ) (command : Command) → i < length commands → command ≡ get_or commands i command → orders (drop i commands) ≡ order_of command ∷ orders (drop (i + 1) commands)
order_left [] i command lt e = absurd (omega arith)
order_left (x ∷ commands) zero command lt e = ap (λ y. order_of y ∷ orders commands) (sym e)
order_left (x ∷ commands) (suc i) command lt e =
    let k : suc (i + 1) ≡ suc i + 1 = omega arith in
    order_left commands i command (omega arith) e ∙ ap (λ j. order_of command ∷ orders (drop j (x ∷ commands))) k

-- the lines of an order come before those of the rest
lines_split : (old new : EngineState) (order : Order) (more : List Order) (lines : List (List ℕ)) → Answers old new order lines → flat_map line (lines_of old (order ∷ more)) ≡ flat_map line lines ++ flat_map line (lines_of new more)
lines_split old new order more lines answers = ap (flat_map line) (answers more) ∙ flat_map-append line lines (lines_of new more)

-- a part of them was
pub order_part : (whole : List ℕ) (old new : EngineState) (order : Order) (more : List Order) (lines : List (List ℕ)) (entry now after : List ℕ) → Answers old new order lines → TakesPart (flat_map line lines) now after → IsUnderWay whole (flat_map line (lines_of old (order ∷ more))) entry now → TakesPart whole entry after
order_part whole old new order more lines entry now after answers part h =
    under_way_part whole (flat_map line lines) (flat_map line (lines_of new more)) entry now after part (subst (λ l. IsUnderWay whole l entry now) (lines_split old new order more lines answers) h)

-- What is known of a script while it is read.
use Rattle.std.proofs.Common.{◌≡◌, ℕ, ◌+◌, List, [], ◌∷◌, ◌++◌, Some, None, refl, sym, ap, ◌∙◌, append_assoc}
use Rattle.std.specs.Prelude.{Result, Ok, Err}
use Rattle.std.specs.Str.Lines.{lines}
use Rattle.std.proofs.lemmas.List.{append-nil, map_push}
use Rattle.debug_records.specs.declared.code.Code.{Code}
use Rattle.script_form.specs.declared.command.Command.{Command}
use Rattle.script_form.specs.Reading.{Fault, ◌>>=◌, at_line, order_of_line, orders_from, with_front}
use Rattle.script_form.specs.Script.{Order, order_of, orders}

-- orders that were read, and what the rest gives
abbrev pub behind : List Order → Result (List Order) Fault → Result (List Order) Fault
behind before rest = rest >>= λ os. Ok (before ++ os)

behind_none : (before : List Order) (rest : Result (List Order) Fault) → behind before (rest >>= λ os. Ok (with_front None os)) ≡ behind before rest
behind_none before (Ok os) = refl
behind_none before (Err e) = refl

behind_some : (before : List Order) (o : Order) (rest : Result (List Order) Fault)
    → behind before (rest >>= λ os. Ok (with_front (Some o) os)) ≡ behind (before ++ o ∷ []) rest
behind_some before o (Ok os) = ap Ok (sym (append_assoc before (o ∷ []) os))
behind_some before o (Err e) = refl

-- what the first line of a text gives, and then its other lines
front : (n : ℕ) (rest line more : List ℕ) → lines rest ≡ line ∷ lines more
    → orders_from n (lines rest) ≡ (at_line n (order_of_line line) >>= λ o. orders_from (n + 1) (lines more) >>= λ os. Ok (with_front o os))
front n rest line more cut = ap (orders_from n) cut

-- a line without words
pub line_without_words : (n : ℕ) (rest line more : List ℕ) (before : List Order) → lines rest ≡ line ∷ lines more
    → at_line n (order_of_line line) ≡ Ok None → behind before (orders_from n (lines rest)) ≡ behind before (orders_from (n + 1) (lines more))
line_without_words n rest line more before cut none =
    ap (behind before) (front n rest line more cut ∙ ap (λ r. r >>= λ o. orders_from (n + 1) (lines more) >>= λ os. Ok (with_front o os)) none)
    ∙ behind_none before (orders_from (n + 1) (lines more))

-- a line with a command
pub line_with_command : (n : ℕ) (rest line more : List ℕ) (before after : List Command) (command : Command) → lines rest ≡ line ∷ lines more
    → at_line n (order_of_line line) ≡ Ok (Some (order_of command)) → after ≡ before ++ command ∷ []
    → behind (orders before) (orders_from n (lines rest)) ≡ behind (orders after) (orders_from (n + 1) (lines more))
line_with_command n rest line more before after command cut some pushed =
    ap (behind (orders before)) (front n rest line more cut ∙ ap (λ r. r >>= λ o. orders_from (n + 1) (lines more) >>= λ os. Ok (with_front o os)) some)
    ∙ behind_some (orders before) (order_of command) (orders_from (n + 1) (lines more))
    ∙ ap (λ os. behind os (orders_from (n + 1) (lines more))) (sym (ap orders pushed ∙ map_push order_of before command))

-- a line that breaks a rule
pub line_with_fault : (n : ℕ) (rest line more : List ℕ) (before : List Order) (fault : Fault) → lines rest ≡ line ∷ lines more
    → at_line n (order_of_line line) ≡ Err fault → behind before (orders_from n (lines rest)) ≡ Err fault
line_with_fault n rest line more before fault cut broken =
    ap (behind before) (front n rest line more cut ∙ ap (λ r. r >>= λ o. orders_from (n + 1) (lines more) >>= λ os. Ok (with_front o os)) broken)

-- the end of the text
pub at_end : (before : List Order) (n : ℕ) → behind before (orders_from n (lines [])) ≡ Ok before
at_end before n = ap Ok (append-nil before)

-- the code of a line's fault has its number
pub fault_line : {A : Type 0} → (n m : ℕ) (r : Result A Code) (code : Code) → at_line n r ≡ Err (code, m) → m ≡ n
fault_line n m (Ok x) code fault = cc
fault_line n m (Err c) code fault =
    let pairs : ◌≡◌ {A = Code × ℕ} (code, m) (c, n) = cc in
    ap (λ p. p.1) pairs

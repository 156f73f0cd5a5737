-- What lines ask for or break, by the relation and by the function.
use Rattle.std.proofs.Common.{◌≡◌, ℕ, ◌+◌, ◌<◌, ◌≤◌, true, List, [], ◌∷◌, ◌++◌, length, Option, Some, None, refl, sym, ap, ◌∙◌, subst, ⊎_elim, arith}
use Rattle.std.specs.Prelude.{Result, Ok, Err, map, All}
use Rattle.std.specs.List.{filter}
use Rattle.std.specs.Str.Lines.{lines}
use Rattle.std.proofs.lemmas.Bool.{cases_lt, lt-ltb, le-ltb}
use Rattle.std.proofs.lemmas.List.{append-nil}
use Rattle.std.proofs.lemmas.List.Elements.{All-cons, All-head, All-nil, All-tail}
use Rattle.debug_records.specs.declared.code.Code.{Code}
use Rattle.debug_records.specs.declared.code.TheConstants.Code.{LINE_SIZE}
use Rattle.script_form.specs.Reading.{Fault, ◌>>=◌, at_line, order_in, order_of_line, orders_from, script_of, with_front}
use Rattle.script_form.specs.Refusal.{IsRefused, ReadingsAreOne, LineBreaks, too_long, by_words}
use Rattle.script_form.specs.Script.{AskFor, IsScript, Order, Break, Step, Continue, Next, Finish, Print, Locals, Where, Quit, IsOrder, IsShort, has_words, order_words}
use Rattle.script_form.specs.Words.{words}
use Rattle.script_form.proofs.LineLaws.{Answer, Ask, answer, are_words, asks, breaks, order_complete, words_broken}

-- What a line asks for or breaks, as the function says it.
pub data LineAnswer : List ℕ → Type 0 where
  line_asks : {line : List ℕ} → (o : Option Order) → order_of_line line ≡ Ok o → IsShort line → Ask (words line) o → LineAnswer line
  line_breaks : {line : List ℕ} → (c : Code) → order_of_line line ≡ Err c → LineBreaks line c → LineAnswer line

of_long : (line : List ℕ) → 200 < length line → order_of_line line ≡ Err LINE_SIZE
unfolding order_of_line
of_long line long = rw (lt-ltb 200 (length line) long)

of_short : (line : List ℕ) → IsShort line → order_of_line line ≡ order_in (words line)
unfolding order_of_line
of_short line short = rw (le-ltb 200 (length line) short)

short_answer : (line : List ℕ) → IsShort line → Answer (words line) → LineAnswer line
short_answer line short (asks o reads ask) = line_asks o (of_short line short ∙ reads) short ask
short_answer line short (breaks c reads broken) = line_breaks c (of_short line short ∙ reads) (by_words short broken)

pub line_answer : (line : List ℕ) → LineAnswer line
line_answer line = ⊎_elim
    (λ (long : 200 < length line). line_breaks LINE_SIZE (of_long line long) (too_long long))
    (λ (short : length line ≤ 200). short_answer line short (answer (words line) (are_words line)))
    (cases_lt 200 (length line))

-- the words of an order are some
order_has_words : (o : Order) → has_words (order_words o) ≡ true
order_has_words (Break m) = refl
order_has_words Step = refl
order_has_words Continue = refl
order_has_words Next = refl
order_has_words Finish = refl
order_has_words (Print name) = refl
order_has_words Locals = refl
order_has_words Where = refl
order_has_words Quit = refl

-- a line before others
front_spelled : (line : List ℕ) (ls : List (List ℕ)) (o : Option Order) (os : List Order) → Ask (words line) o
    → filter has_words (map words ls) ≡ map order_words os
    → filter has_words (map words (line ∷ ls)) ≡ map order_words (with_front o os)
front_spelled line ls None os empty same = rw empty same
front_spelled line ls (Some o) os ask same = rw (ask.0, order_has_words o, same)

front_named : (line : List ℕ) (o : Option Order) (os : List Order) → Ask (words line) o → All IsOrder os → All IsOrder (with_front o os)
front_named line None os ask named = named
front_named line (Some o) os ask named = All-cons IsOrder o os ask.1 named

pub ask_front : (line : List ℕ) (ls : List (List ℕ)) (o : Option Order) (os : List Order) → IsShort line → Ask (words line) o → AskFor ls os
    → AskFor (line ∷ ls) (with_front o os)
ask_front line ls o os short ask others = record {
  short = All-cons IsShort line ls short others.short;
  spelled = front_spelled line ls o os ask others.spelled;
  named = front_named line o os ask others.named;
}

ask_nothing : AskFor [] []
ask_nothing = record { short = All-nil IsShort; spelled = refl; named = All-nil IsOrder }

-- Lines break a rule at one of them, the numbers of which begin with n.
pub record BreakFrom (n : ℕ) (ls : List (List ℕ)) (code : Code) (m : ℕ) : Type 0 where
  pub before : List (List ℕ)
  pub line : List ℕ
  pub behind : List (List ℕ)
  pub cut : ls ≡ before ++ line ∷ behind
  pub number : m ≡ n + length before
  pub earlier : List Order
  pub ask : AskFor before earlier
  pub breaks : LineBreaks line code

-- What lines ask for or break, as the function says it.
pub data LinesAnswer : ℕ → List (List ℕ) → Type 0 where
  all_ask : {n : ℕ} {ls : List (List ℕ)} → (os : List Order) → orders_from n ls ≡ Ok os → AskFor ls os → LinesAnswer n ls
  one_breaks : {n : ℕ} {ls : List (List ℕ)} → (c : Code) (m : ℕ) → orders_from n ls ≡ Err (c, m) → BreakFrom n ls c m → LinesAnswer n ls

-- what lines give, by what the first of them gives
by_first : (n : ℕ) (line : List ℕ) (more : List (List ℕ)) (r : Result (Option Order) Code) → order_of_line line ≡ r
    → orders_from n (line ∷ more) ≡ (at_line n r >>= λ o. orders_from (n + 1) more >>= λ os. Ok (with_front o os))
by_first n line more r is = ap (λ r. at_line n r >>= λ o. orders_from (n + 1) more >>= λ os. Ok (with_front o os)) is

one_more : (n : ℕ) (line : List ℕ) (more : List (List ℕ)) (o : Option Order) → order_of_line line ≡ Ok o → IsShort line → Ask (words line) o
    → LinesAnswer (n + 1) more → LinesAnswer n (line ∷ more)
one_more n line more o reads short ask (all_ask os others rest) =
    all_ask (with_front o os) (by_first n line more (Ok o) reads ∙ ap (λ r. r >>= λ os. Ok (with_front o os)) others) (ask_front line more o os short ask rest)
one_more n line more o reads short ask (one_breaks c m others rest) =
    let number : m ≡ n + length (line ∷ rest.before) = rest.number ∙ omega arith in
    one_breaks c m (by_first n line more (Ok o) reads ∙ ap (λ r. r >>= λ os. Ok (with_front o os)) others) (record {
      before = line ∷ rest.before;
      line = rest.line;
      behind = rest.behind;
      cut = ap (λ ls. line ∷ ls) rest.cut;
      number = number;
      earlier = with_front o rest.earlier;
      ask = ask_front line rest.before o rest.earlier short ask rest.ask;
      breaks = rest.breaks;
    })

first_answer : (n : ℕ) (line : List ℕ) (more : List (List ℕ)) → LineAnswer line → LinesAnswer (n + 1) more → LinesAnswer n (line ∷ more)
first_answer n line more (line_asks o reads short ask) rest = one_more n line more o reads short ask rest
first_answer n line more (line_breaks c reads broken) rest =
    one_breaks c n (by_first n line more (Err c) reads) (record {
      before = [];
      line = line;
      behind = more;
      cut = refl;
      number = omega arith;
      earlier = [];
      ask = ask_nothing;
      breaks = broken;
    })

pub lines_answer : (n : ℕ) (ls : List (List ℕ)) → LinesAnswer n ls
lines_answer n [] = all_ask [] refl ask_nothing
lines_answer n (line ∷ more) = first_answer n line more (line_answer line) (lines_answer (n + 1) more)

-- what is read is a script
accepted_by : (ls : List (List ℕ)) (os : List Order) → orders_from 1 ls ≡ Ok os → LinesAnswer 1 ls → AskFor ls os
accepted_by ls os reads (all_ask ps same ask) =
    let one : ps ≡ os = cc in
    subst (λ os. AskFor ls os) one ask
accepted_by ls os reads (one_breaks c m same broken) = cc

pub accepted : (text : List ℕ) (os : List Order) → script_of text ≡ Ok os → IsScript text os
accepted text os reads = accepted_by (lines text) os reads (lines_answer 1 (lines text))

refused_by : (text : List ℕ) (c : Code) (m : ℕ) → script_of text ≡ Err (c, m) → LinesAnswer 1 (lines text) → IsRefused text c m
refused_by text c m reads (all_ask os same ask) = cc
refused_by text c m reads (one_breaks d k same broken) =
    let pairs : ◌≡◌ {A = Code × ℕ} (d, k) (c, m) = cc in
    let code : d ≡ c = ap (λ p. p.0) pairs in
    let line : k ≡ m = ap (λ p. p.1) pairs in
    record {
      before = broken.before;
      line = broken.line;
      behind = broken.behind;
      cut = broken.cut;
      number = omega (arith, broken.number, line);
      earlier = broken.earlier;
      ask = broken.ask;
      breaks = subst (λ c. LineBreaks broken.line c) code broken.breaks;
    }

-- what is refused breaks a rule there
pub refused : (text : List ℕ) (c : Code) (m : ℕ) → script_of text ≡ Err (c, m) → IsRefused text c m
refused text c m reads = refused_by text c m reads (lines_answer 1 (lines text))

-- a line that asks is read, and one that breaks a rule is refused for it
line_complete : (line : List ℕ) (o : Option Order) → IsShort line → Ask (words line) o → order_of_line line ≡ Ok o
line_complete line None short empty = of_short line short ∙ ap order_in empty
line_complete line (Some o) short ask = of_short line short ∙ ap order_in ask.0 ∙ order_complete o ask.1

line_broken : (line : List ℕ) (c : Code) → LineBreaks line c → order_of_line line ≡ Err c
line_broken line c (too_long long) = of_long line long
line_broken line c (by_words short broken) = of_short line short ∙ words_broken (words line) c (are_words line) broken

-- The first line of lines that ask for orders, and the others.
pub record AsksFirst (line : List ℕ) (more : List (List ℕ)) (os : List Order) : Type 0 where
  pub first : Option Order
  pub others : List Order
  pub whole : os ≡ with_front first others
  pub ask : Ask (words line) first
  pub rest : AskFor more others

first_of_words : (line : List ℕ) (ws : List (List ℕ)) (more : List (List ℕ)) (os : List Order) → words line ≡ ws → AskFor (line ∷ more) os → AsksFirst line more os
first_of_words line [] more os is ask = record {
  first = None;
  others = os;
  whole = refl;
  ask = is;
  rest = record {
    short = All-tail IsShort line more ask.short;
    spelled = sym (ap (λ ws. filter has_words (ws ∷ map words more)) is) ∙ ask.spelled;
    named = ask.named;
  };
}
first_of_words line (w ∷ ws) more [] is ask =
    let none : (w ∷ ws) ∷ filter has_words (map words more) ≡ [] = sym (ap (λ ws. filter has_words (ws ∷ map words more)) is) ∙ ask.spelled in
    cc
first_of_words line (w ∷ ws) more (o ∷ os) is ask =
    let both : (w ∷ ws) ∷ filter has_words (map words more) ≡ order_words o ∷ map order_words os =
    sym (ap (λ ws. filter has_words (ws ∷ map words more)) is) ∙ ask.spelled in
    let here : w ∷ ws ≡ order_words o = cc in
    let there : filter has_words (map words more) ≡ map order_words os = cc in
    record {
      first = Some o;
      others = os;
      whole = refl;
      ask = (is ∙ here, All-head IsOrder o os ask.named);
      rest = record { short = All-tail IsShort line more ask.short; spelled = there; named = All-tail IsOrder o os ask.named };
    }

-- orders before what is read
abbrev onto : List Order → Result (List Order) Fault → Result (List Order) Fault
onto os read = read >>= λ ps. Ok (os ++ ps)

onto_nothing : (read : Result (List Order) Fault) → read ≡ onto [] read
onto_nothing (Ok ps) = refl
onto_nothing (Err e) = refl

onto_front : (o : Option Order) (os : List Order) (read : Result (List Order) Fault)
    → (onto os read >>= λ ps. Ok (with_front o ps)) ≡ onto (with_front o os) read
onto_front None os (Ok ps) = refl
onto_front (Some o) os (Ok ps) = refl
onto_front o os (Err e) = refl

no_orders : (os : List Order) → AskFor [] os → os ≡ []
no_orders [] ask = refl
no_orders (o ∷ os) ask = let none : ◌≡◌ {A = List (List (List ℕ))} [] (order_words o ∷ map order_words os) = ask.spelled in cc

-- lines that ask for orders are read before what stands behind them
read_before : (n : ℕ) (before rest : List (List ℕ)) (os : List Order) → AskFor before os
    → orders_from n (before ++ rest) ≡ onto os (orders_from (n + length before) rest)
read_before n [] rest os ask =
    let at : n ≡ n + 0 = omega arith in
    onto_nothing (orders_from n rest) ∙ ap (λ k. onto [] (orders_from k rest)) at ∙ ap (λ os. onto os (orders_from (n + 0) rest)) (sym (no_orders os ask))
read_before n (line ∷ more) rest os ask =
    let first = first_of_words line (words line) more os refl ask in
    let at : n + 1 + length more ≡ n + length (line ∷ more) = omega arith in
    let short = All-head IsShort line more ask.short in
    by_first n line (more ++ rest) (Ok first.first) (line_complete line first.first short first.ask)
    ∙ ap (λ r. r >>= λ ps. Ok (with_front first.first ps)) (read_before (n + 1) more rest first.others first.rest)
    ∙ onto_front first.first first.others (orders_from (n + 1 + length more) rest)
    ∙ ap (λ os. onto os (orders_from (n + 1 + length more) rest)) (sym first.whole)
    ∙ ap (λ k. onto os (orders_from k rest)) at

-- a script is read
pub complete : (text : List ℕ) (os : List Order) → IsScript text os → script_of text ≡ Ok os
complete text os script =
    ap (orders_from 1) (sym (append-nil (lines text))) ∙ read_before 1 (lines text) [] os script ∙ ap Ok (append-nil os)

-- what breaks a rule is refused
pub broken : (text : List ℕ) (c : Code) (m : ℕ) → IsRefused text c m → script_of text ≡ Err (c, m)
broken text c m is =
    let at : 1 + length is.before ≡ m = omega (arith, is.number) in
    ap (orders_from 1) is.cut ∙ read_before 1 is.before (is.line ∷ is.behind) is.earlier is.ask
    ∙ ap (onto is.earlier) (by_first (1 + length is.before) is.line is.behind (Err c) (line_broken is.line c is.breaks))
    ∙ ap (λ k. Err (c, k)) at

same_orders : (read : Result (List Order) Fault) (os ps : List Order) → read ≡ Ok os → read ≡ Ok ps → os ≡ ps
same_orders read os ps a b = cc

same_faults : (read : Result (List Order) Fault) (c d : Code) (m n : ℕ) → read ≡ Err (c, m) → read ≡ Err (d, n) → (c ≡ d) × (m ≡ n)
same_faults read c d m n a b =
    let pairs : ◌≡◌ {A = Code × ℕ} (c, m) (d, n) = cc in
    (ap (λ p. p.0) pairs, ap (λ p. p.1) pairs)

never_both : (read : Result (List Order) Fault) (os : List Order) (e : Fault) → read ≡ Ok os → read ≡ Err e → ⊥
never_both read os e a b = cc

-- a text is read in one way
pub readings_one : ReadingsAreOne
readings_one = record {
  orders = λ text os ps a b. same_orders (script_of text) os ps (complete text os a) (complete text ps b);
  refusals = λ text c d m n a b. same_faults (script_of text) c d m n (broken text c m a) (broken text d n b);
  apart = λ text os c n a b. never_both (script_of text) os (c, n) (complete text os a) (broken text c n b);
}

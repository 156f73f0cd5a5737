-- What a line asks for or breaks, by the relation and by the function.
use Rattle.std.proofs.Common.{◌≡◌, ℕ, ◌<◌, ◌==◌, true, false, not, List, [], ◌∷◌, length, Option, Some, None, refl, sym, ap, ◌∙◌, subst, ⊎_elim, arith}
use Rattle.std.specs.Prelude.{Result, Ok, Err, codes}
use Rattle.std.specs.List.{All, slice_split}
use Rattle.std.proofs.lemmas.Bool.{ltb-true, not-true, ne_eqb, cases_Bool}
use Rattle.std.proofs.lemmas.List.Elements.{All-head, All-tail, filter_passes}
use Rattle.debug_records.specs.declared.code.Code.{Code}
use Rattle.debug_records.specs.declared.code.TheConstants.Code.{UNKNOWN_COMMAND, LINE_NUMBER, COMMAND_NAME}
use Rattle.script_form.specs.Reading.{◌>>=◌, begins_with_digit, mark_of, name_of, order_in, order_of_words}
use Rattle.script_form.specs.Refusal.{WordsBreak, unknown, too_many, no_line, no_function, no_name, missing, most_arguments}
use Rattle.script_form.specs.Script.{Order, Break, Step, Continue, Next, Finish, Print, Locals, Where, Quit, IsOrder, is_name, mark_word, order_words}
use Rattle.script_form.specs.Words.{is_space_or_tab, is_word, words}
use Rattle.script_form.proofs.Arguments.{MarkCases, marks, mark_cases, mark_complete, mark_broken_line, mark_no_name, name_broken, name_complete}
use Rattle.script_form.proofs.Arguments as argument
use Rattle.script_form.proofs.Heads.{Heads, IsPlain, IsNoHead, a_break, a_print, a_plain, none, heads, is_step, is_continue, is_next, is_finish, is_locals, is_where, is_quit}

-- Each word has at least one byte.
abbrev pub AreWords : List (List ℕ) → Type 0
AreWords ws = All (λ w. is_word w ≡ true) ws

pub are_words : (line : List ℕ) → AreWords (words line)
are_words line = filter_passes is_word (slice_split is_space_or_tab line)

-- The words ask for an order, or there are none.
abbrev pub Ask : List (List ℕ) → Option Order → Type 0
Ask ws None = ws ≡ []
Ask ws (Some o) = (ws ≡ order_words o) × IsOrder o

-- What words ask for or break, as the function says it.
pub data Answer : List (List ℕ) → Type 0 where
  asks : {ws : List (List ℕ)} → (o : Option Order) → order_in ws ≡ Ok o → Ask ws o → Answer ws
  breaks : {ws : List (List ℕ)} → (c : Code) → order_in ws ≡ Err c → WordsBreak ws c → Answer ws

of_break : (head word : List ℕ) → head ≡ codes "break" → order_of_words head word ≡ (mark_of word >>= λ m. Ok (Break m))
unfolding order_of_words
of_break head word is = rw is

of_print : (head word : List ℕ) → head ≡ codes "print" → order_of_words head word ≡ (name_of word >>= λ name. Ok (Print name))
unfolding order_of_words
of_print head word is = rw is

of_plain : (head : List ℕ) (o : Order) → IsPlain head o → order_of_words head [] ≡ Ok o
unfolding order_of_words
of_plain head o is = rw (is.no_break, is.no_print, is.order)

of_plain_with : (head word : List ℕ) (o : Order) → IsPlain head o → is_word word ≡ true → order_of_words head word ≡ Err UNKNOWN_COMMAND
unfolding order_of_words
of_plain_with head word o is some =
    let more : (length word == 0) ≡ false = ne_eqb (length word) 0 (λ e. absurd (omega (arith, e, ltb-true 0 (length word) some))) in
    rw (is.no_break, is.no_print, is.order, more)

of_none : (head word : List ℕ) → IsNoHead head → order_of_words head word ≡ Err UNKNOWN_COMMAND
unfolding order_of_words
of_none head word is = rw (is.no_break, is.no_print, is.order)

break_takes_one : most_arguments (codes "break") ≡ Some 1
unfolding most_arguments
break_takes_one = refl

print_takes_one : most_arguments (codes "print") ≡ Some 1
unfolding most_arguments
print_takes_one = refl

takes : (head word : List ℕ) (n : ℕ) → head ≡ word → most_arguments word ≡ Some n → most_arguments head ≡ Some n
takes head word n same most = ap most_arguments same ∙ most

-- the order of one argument, seen as that of the line
with_one : (head word : List ℕ) (r : Result Order Code) → order_of_words head word ≡ r → order_in (head ∷ word ∷ []) ≡ (r >>= λ o. Ok (Some o))
with_one head word r is = ap (λ r. r >>= λ o. Ok (Some o)) is

alone : (head : List ℕ) (r : Result Order Code) → order_of_words head [] ≡ r → order_in (head ∷ []) ≡ (r >>= λ o. Ok (Some o))
alone head r is = ap (λ r. r >>= λ o. Ok (Some o)) is

empty_is_no_mark : mark_of [] ≡ Err COMMAND_NAME
unfolding mark_of name_of begins_with_digit
empty_is_no_mark = refl

empty_is_no_name : name_of [] ≡ Err COMMAND_NAME
unfolding name_of
empty_is_no_name = refl

-- the first word alone
one_word : (head : List ℕ) → Heads head → Answer (head ∷ [])
one_word head (a_break is) =
    breaks COMMAND_NAME (alone head (Err COMMAND_NAME) (of_break head [] is ∙ ap (λ r. r >>= λ m. Ok (Break m)) empty_is_no_mark))
    (missing (takes head (codes "break") 1 is break_takes_one))
one_word head (a_print is) =
    breaks COMMAND_NAME (alone head (Err COMMAND_NAME) (of_print head [] is ∙ ap (λ r. r >>= λ name. Ok (Print name)) empty_is_no_name))
    (missing (takes head (codes "print") 1 is print_takes_one))
one_word head (a_plain o is) = asks (Some o) (alone head (Ok o) (of_plain head o is)) (sym is.spelled, is.good)
one_word head (none is) = breaks UNKNOWN_COMMAND (alone head (Err UNKNOWN_COMMAND) (of_none head [] is)) (unknown is.arguments)

after_break : (word : List ℕ) → MarkCases word → Answer (codes "break" ∷ word ∷ [])
after_break word (marks m reads spelled good) =
    asks (Some (Break m)) (with_one (codes "break") word (Ok (Break m)) (of_break (codes "break") word refl ∙ ap (λ r. r >>= λ m. Ok (Break m)) reads))
    (ap (λ w. codes "break" ∷ w ∷ []) spelled, good)
after_break word (argument.no_line reads digit says) =
    breaks LINE_NUMBER (with_one (codes "break") word (Err LINE_NUMBER) (of_break (codes "break") word refl ∙ ap (λ r. r >>= λ m. Ok (Break m)) reads))
    (no_line digit says)
after_break word (argument.no_name reads digit name) =
    breaks COMMAND_NAME (with_one (codes "break") word (Err COMMAND_NAME) (of_break (codes "break") word refl ∙ ap (λ r. r >>= λ m. Ok (Break m)) reads))
    (no_function (ap not digit) (ap not name))

after_print : (word : List ℕ) → Answer (codes "print" ∷ word ∷ [])
after_print word = ⊎_elim
    (λ (name : is_name word ≡ true).
    asks (Some (Print word)) (with_one (codes "print") word (Ok (Print word)) (of_print (codes "print") word refl ∙ ap (λ r. r >>= λ n. Ok (Print n)) (name_complete word name)))
    (refl, name))
    (λ (name : is_name word ≡ false).
    breaks COMMAND_NAME (with_one (codes "print") word (Err COMMAND_NAME) (of_print (codes "print") word refl ∙ ap (λ r. r >>= λ n. Ok (Print n)) (name_broken word name)))
    (no_name (ap not name)))
    (cases_Bool (is_name word))

-- the first word and one more
two_words : (head word : List ℕ) → is_word word ≡ true → Heads head → Answer (head ∷ word ∷ [])
two_words head word some (a_break is) = subst (λ h. Answer (h ∷ word ∷ [])) (sym is) (after_break word (mark_cases word))
two_words head word some (a_print is) = subst (λ h. Answer (h ∷ word ∷ [])) (sym is) (after_print word)
two_words head word some (a_plain o is) =
    breaks UNKNOWN_COMMAND (with_one head word (Err UNKNOWN_COMMAND) (of_plain_with head word o is some)) (too_many is.arguments (omega arith))
two_words head word some (none is) = breaks UNKNOWN_COMMAND (with_one head word (Err UNKNOWN_COMMAND) (of_none head word is)) (unknown is.arguments)

-- three words or more
many_words : (head word other : List ℕ) (more : List (List ℕ)) → Heads head → WordsBreak (head ∷ word ∷ other ∷ more) UNKNOWN_COMMAND
many_words head word other more (a_break is) = too_many (takes head (codes "break") 1 is break_takes_one) (omega arith)
many_words head word other more (a_print is) = too_many (takes head (codes "print") 1 is print_takes_one) (omega arith)
many_words head word other more (a_plain o is) = too_many is.arguments (omega arith)
many_words head word other more (none is) = unknown is.arguments

pub answer : (ws : List (List ℕ)) → AreWords ws → Answer ws
answer [] some = asks None refl refl
answer (head ∷ []) some = one_word head (heads head)
answer (head ∷ word ∷ []) some =
    let tail = All-tail (λ w. is_word w ≡ true) head (word ∷ []) some in
    two_words head word (All-head (λ w. is_word w ≡ true) word [] tail) (heads head)
answer (head ∷ word ∷ other ∷ more) some = breaks UNKNOWN_COMMAND refl (many_words head word other more (heads head))

-- the words of an order are read as it
pub order_complete : (o : Order) → IsOrder o → order_in (order_words o) ≡ Ok (Some o)
order_complete (Break m) good =
    with_one (codes "break") (mark_word m) (Ok (Break m)) (of_break (codes "break") (mark_word m) refl ∙ ap (λ r. r >>= λ m. Ok (Break m)) (mark_complete m good))
order_complete Step good = alone (codes "step") (Ok Step) (of_plain (codes "step") Step is_step)
order_complete Continue good = alone (codes "continue") (Ok Continue) (of_plain (codes "continue") Continue is_continue)
order_complete Next good = alone (codes "next") (Ok Next) (of_plain (codes "next") Next is_next)
order_complete Finish good = alone (codes "finish") (Ok Finish) (of_plain (codes "finish") Finish is_finish)
order_complete (Print name) good =
    with_one (codes "print") name (Ok (Print name)) (of_print (codes "print") name refl ∙ ap (λ r. r >>= λ n. Ok (Print n)) (name_complete name good))
order_complete Locals good = alone (codes "locals") (Ok Locals) (of_plain (codes "locals") Locals is_locals)
order_complete Where good = alone (codes "where") (Ok Where) (of_plain (codes "where") Where is_where)
order_complete Quit good = alone (codes "quit") (Ok Quit) (of_plain (codes "quit") Quit is_quit)

-- a word has one bound on the words behind it
one_bound : (head : List ℕ) (m n : ℕ) → most_arguments head ≡ Some m → most_arguments head ≡ Some n → m ≡ n
one_bound head m n a b =
    let same : Some m ≡ Some n = sym a ∙ b in
    cc

no_bound : (A : Type 0) (head : List ℕ) (n : ℕ) → most_arguments head ≡ Some n → most_arguments head ≡ None → A
no_bound A head n a b =
    let same : Some n ≡ None = sym a ∙ b in
    cc

unknown_broken : (head : List ℕ) (rest : List (List ℕ)) → IsNoHead head → order_in (head ∷ rest) ≡ Err UNKNOWN_COMMAND
unknown_broken head [] is = alone head (Err UNKNOWN_COMMAND) (of_none head [] is)
unknown_broken head (word ∷ []) is = with_one head word (Err UNKNOWN_COMMAND) (of_none head word is)
unknown_broken head (word ∷ other ∷ more) is = refl

unknown_head : (head : List ℕ) (rest : List (List ℕ)) → most_arguments head ≡ None → Heads head → order_in (head ∷ rest) ≡ Err UNKNOWN_COMMAND
unknown_head head rest lacks (a_break is) = no_bound _ head 1 (takes head (codes "break") 1 is break_takes_one) lacks
unknown_head head rest lacks (a_print is) = no_bound _ head 1 (takes head (codes "print") 1 is print_takes_one) lacks
unknown_head head rest lacks (a_plain o is) = no_bound _ head 0 is.arguments lacks
unknown_head head rest lacks (none is) = unknown_broken head rest is

one_too_many : (head word : List ℕ) (n : ℕ) → is_word word ≡ true → most_arguments head ≡ Some n → n < 1 → Heads head
    → order_in (head ∷ word ∷ []) ≡ Err UNKNOWN_COMMAND
one_too_many head word n some most few (a_break is) =
    absurd (omega (arith, one_bound head 1 n (takes head (codes "break") 1 is break_takes_one) most, few))
one_too_many head word n some most few (a_print is) =
    absurd (omega (arith, one_bound head 1 n (takes head (codes "print") 1 is print_takes_one) most, few))
one_too_many head word n some most few (a_plain o is) = with_one head word (Err UNKNOWN_COMMAND) (of_plain_with head word o is some)
one_too_many head word n some most few (none is) = no_bound _ head n most is.arguments

words_too_many : (head : List ℕ) (rest : List (List ℕ)) (n : ℕ) → AreWords rest → most_arguments head ≡ Some n → n < length rest
    → order_in (head ∷ rest) ≡ Err UNKNOWN_COMMAND
words_too_many head [] n some most few = absurd (omega (arith, few))
words_too_many head (word ∷ []) n some most few =
    one_too_many head word n (All-head (λ w. is_word w ≡ true) word [] some) most (omega (arith, few)) (heads head)
words_too_many head (word ∷ other ∷ more) n some most few = refl

argument_missing : (head : List ℕ) → most_arguments head ≡ Some 1 → Heads head → order_in (head ∷ []) ≡ Err COMMAND_NAME
argument_missing head most (a_break is) =
    alone head (Err COMMAND_NAME) (of_break head [] is ∙ ap (λ r. r >>= λ m. Ok (Break m)) empty_is_no_mark)
argument_missing head most (a_print is) =
    alone head (Err COMMAND_NAME) (of_print head [] is ∙ ap (λ r. r >>= λ name. Ok (Print name)) empty_is_no_name)
argument_missing head most (a_plain o is) = absurd (omega (arith, one_bound head 0 1 is.arguments most))
argument_missing head most (none is) = no_bound _ head 1 most is.arguments

-- words that break a rule are refused for it
pub words_broken : (ws : List (List ℕ)) (c : Code) → AreWords ws → WordsBreak ws c → order_in ws ≡ Err c
words_broken [] c some broken = elim broken [ ]
words_broken (head ∷ rest) c some (unknown lacks) = unknown_head head rest lacks (heads head)
words_broken (head ∷ rest) c some (too_many {n = n} most few) =
    words_too_many head rest n (All-tail (λ w. is_word w ≡ true) head rest some) most few
words_broken (head ∷ word ∷ []) c some (no_line digit says) =
    with_one (codes "break") word (Err LINE_NUMBER) (of_break (codes "break") word refl ∙ ap (λ r. r >>= λ m. Ok (Break m)) (mark_broken_line word digit says))
words_broken (head ∷ word ∷ []) c some (no_function digit name) =
    with_one (codes "break") word (Err COMMAND_NAME) (of_break (codes "break") word refl
    ∙ ap (λ r. r >>= λ m. Ok (Break m)) (mark_no_name word (not-true (begins_with_digit word) digit) (not-true (is_name word) name)))
words_broken (head ∷ word ∷ []) c some (no_name name) =
    with_one (codes "print") word (Err COMMAND_NAME) (of_print (codes "print") word refl
    ∙ ap (λ r. r >>= λ n. Ok (Print n)) (name_broken word (not-true (is_name word) name)))
words_broken (head ∷ []) c some (missing most) = argument_missing head most (heads head)

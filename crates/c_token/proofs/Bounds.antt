-- What stands at an offset ends behind it, and within the text.
use Rattle.std.proofs.Common.{◌≡◌, ℕ, zero, suc, ◌+◌, ◌-◌, ◌≤◌, ◌<◌, Bool, true, not, ◌&&◌, ◌||◌, ltb, eqb, List, [], ◌∷◌, length, get_or, take, drop, Option, Some, None, Result, Ok, Err, refl, ap, ◌∙◌, arith, length-drop}
use Rattle.std.specs.Prelude.{codes}
use Rattle.std.specs.List.{prefix_len}
use Rattle.std.specs.Str.{bytes_eq}
use Rattle.std.proofs.lemmas.List.{length-take}
use Rattle.std.proofs.lemmas.List.Sums.{prefix_len-le-length}
use Rattle.std.proofs.lemmas.Slice.Eq.{bytes_eq-Decides}
use Rattle.std.proofs.lemmas.Bool.{ltb-true}
use Rattle.debug_records.specs.declared.code.TheConstants.Code.{MALFORMED_CONSTANT}
use Rattle.c_token.specs.declared.context.Context.{Context}
use Rattle.c_token.specs.declared.fault.Fault.{Fault}
use Rattle.c_token.specs.declared.token.Constant as constant
use Rattle.c_token.specs.declared.token.Header.{Header}
use Rattle.c_token.specs.declared.token.Punctuator.{Punctuator}
use Rattle.c_token.specs.Bytes.{is_blank, is_letter, is_word_byte, text_has, is_replaced}
use Rattle.c_token.specs.Blanks.{line_comment, block_comment, blank_at, blanks_from, blanks_end}
use Rattle.c_token.specs.Constants.{is_number_byte, constant_of, constant_at}
use Rattle.c_token.specs.Includes.{header_at, is_include_at, is_line_end, is_inside, include_at}
use Rattle.c_token.specs.Items.{Piece, begins_constant, plain_token_at, token_at, item_at}
use Rattle.c_token.specs.Lexemes.{Word}
use Rattle.c_token.specs.Literals.{unit_at, literal_from, literal_at, character_at, only_byte}
use Rattle.c_token.specs.Punctuators.{punctuators, is_digraph_at, find_punctuator, longest_punctuator, punctuator_at}
use Rattle.c_token.specs.Reading.{◌>>=◌, fault}
use Rattle.c_token.specs.Words.{keyword_or_name, word_at}
use Rattle.c_token.proofs.Firsts.{letter_begins, number_begins}
use Rattle.c_token.proofs.Runs.{some_front, and_left, and_right}
use Rattle.base_laws.proofs.Booleans.{by_test, not_false}
use Rattle.base_laws.proofs.Options.{by_option}

-- an end that is read lies between two offsets
abbrev pub EndsIn : ℕ → ℕ → Result ℕ Fault → Type 0
EndsIn low high (Ok end) = (low ≤ end) × (end ≤ high)
EndsIn low high (Err f) = Unit {0}

-- the end of what is read lies between two offsets
abbrev pub Ends : {A : Type 0} → ℕ → ℕ → Result (A × ℕ) Fault → Type 0
Ends low high (Ok x) = (low ≤ x.1) × (x.1 ≤ high)
Ends low high (Err f) = Unit {0}

-- the end of what may be read lies between two offsets
abbrev pub MayEnd : ℕ → ℕ → Result (Option ℕ) Fault → Type 0
MayEnd low high (Ok None) = Unit {0}
MayEnd low high (Ok (Some end)) = (low ≤ end) × (end ≤ high)
MayEnd low high (Err f) = Unit {0}

abbrev OptionEnds : {A : Type 0} → ℕ → ℕ → Option (A × ℕ) → Type 0
OptionEnds low high None = Unit {0}
OptionEnds low high (Some x) = (low ≤ x.1) × (x.1 ≤ high)

-- ---- by cases

by_read : {A B : Type 0} (P : Result B Fault → Type 0) (r : Result A Fault) (f : A → Result B Fault) → ((e : Fault) → P (Err e)) → ((x : A) → r ≡ Ok x → P (f x)) → P (r >>= f)
by_read P (Ok x) f g h = h x refl
by_read P (Err e) f g h = g e

end_is : {low high : ℕ} (r : Result ℕ Fault) (end : ℕ) → EndsIn low high r → r ≡ Ok end → (low ≤ end) × (end ≤ high)
end_is {low = low} {high = high} r end e same = rw same at e

ends_is : {A : Type 0} {low high : ℕ} (r : Result (A × ℕ) Fault) (x : A × ℕ) → Ends low high r → r ≡ Ok x → (low ≤ x.1) × (x.1 ≤ high)
ends_is r x e same = rw same at e

option_is : {A : Type 0} {low high : ℕ} (o : Option (A × ℕ)) (x : A × ℕ) → OptionEnds low high o → o ≡ Some x → (low ≤ x.1) × (x.1 ≤ high)
option_is o x e same = rw same at e

lower : (low least high : ℕ) (r : Result ℕ Fault) → least ≤ low → EndsIn low high r → EndsIn least high r
lower low least high (Ok end) le e = (omega (arith, e.0), e.1)
lower low least high (Err f) le e = tt

lower_pair : {A : Type 0} (low least high : ℕ) (r : Result (A × ℕ) Fault) → least ≤ low → Ends low high r → Ends least high r
lower_pair low least high (Ok x) le e = (omega (arith, e.0), e.1)
lower_pair low least high (Err f) le e = tt

-- ---- bytes that stand at an offset

same_length : (word front : List ℕ) → bytes_eq word front ≡ true → length word ≡ length front
same_length word front h = ap length ((bytes_eq-Decides word front).0 h)

pub stands_within : (text : List ℕ) (at : ℕ) (word : List ℕ) → at ≤ length text → text_has text at word ≡ true → at + length word ≤ length text
unfolding text_has
stands_within text at word le h =
    omega (arith, same_length word (take (length word) (drop at text)) h, length-take (length word) (drop at text), length-drop at text)

-- ---- white space and comments

line_comment_ends : (text : List ℕ) (at high : ℕ) (rest : List ℕ) → at + length rest ≤ high → EndsIn at high (line_comment text at rest)
line_comment_ends text at high [] le = (omega arith, omega arith)
line_comment_ends text at high (b ∷ rest) le =
    by_test (EndsIn at high) (eqb b 10) _ _ (λ _. (omega arith, omega arith))
    (λ _. by_test (EndsIn at high) (is_replaced text at) _ _ (λ _. tt) (λ _. lower (at + 1) at high _ (omega arith) (line_comment_ends text (at + 1) high rest (omega arith))))

block_comment_ends : (text : List ℕ) (begin at : ℕ) (rest : List ℕ) → at + length rest ≤ length text → EndsIn at (length text) (block_comment text begin at rest)
block_comment_ends text begin at [] le = tt
block_comment_ends text begin at (b ∷ rest) le =
    by_test (EndsIn at (length text)) (text_has text at (codes "*/")) _ _ (λ h. let there : at + 2 ≤ length text = stands_within text at (codes "*/") (omega arith) h in (omega arith, there))
    (λ _. by_test (EndsIn at (length text)) (is_replaced text at) _ _ (λ _. tt) (λ _. lower (at + 1) at (length text) _ (omega arith) (block_comment_ends text begin (at + 1) rest (omega arith))))

behind_two : (text : List ℕ) (at : ℕ) → at + 2 ≤ length text → at + 2 + length (drop (at + 2) text) ≤ length text
behind_two text at le = omega (arith, length-drop (at + 2) text)

pub blank_ends : (text : List ℕ) (at : ℕ) → at < length text → MayEnd (at + 1) (length text) (blank_at text at)
unfolding blank_at
blank_ends text at lt =
    by_test P (is_blank (get_or text at 0)) _ _ (λ _. (omega arith, omega arith))
    (λ _. by_test P (text_has text at (codes "//")) _ _
    (λ h. let there : at + 2 ≤ length text = stands_within text at (codes "//") (omega arith) h in
    by_read P _ _ (λ e. tt) (λ end same. comment at end there (end_is _ end (line_comment_ends text (at + 2) (length text) (drop (at + 2) text) (behind_two text at there)) same)))
    (λ _. by_test P (text_has text at (codes "/*")) _ _
    (λ h. let there : at + 2 ≤ length text = stands_within text at (codes "/*") (omega arith) h in
    by_read P _ _ (λ e. tt) (λ end same. comment at end there (end_is _ end (block_comment_ends text at (at + 2) (drop (at + 2) text) (behind_two text at there)) same)))
    (λ _. tt)))
  where
    P : Result (Option ℕ) Fault → Type 0
    P r = MayEnd (at + 1) (length text) r

    comment : (at end : ℕ) → at + 2 ≤ length text → (at + 2 ≤ end) × (end ≤ length text) → (at + 1 ≤ end) × (end ≤ length text)
    comment at end there e = (omega (arith, e.0), e.1)

blanks_from_end : (text : List ℕ) (inside at : ℕ) (rest : List ℕ) → at + length rest ≤ length text → EndsIn at (length text) (blanks_from text inside at rest)
blanks_from_end text inside at [] le = (omega arith, omega arith)
blanks_from_end text (suc inside) at (b ∷ rest) le = lower (at + 1) at (length text) _ (omega arith) (blanks_from_end text inside (at + 1) rest (omega arith))
blanks_from_end text zero at (b ∷ rest) le =
    by_read (EndsIn at (length text)) (blank_at text at) _ (λ e. tt)
    (λ blank _. by_option (EndsIn at (length text)) _ blank _
    (λ end _. lower (at + 1) at (length text) _ (omega arith) (blanks_from_end text (end - (at + 1)) (at + 1) rest (omega arith)))
    (omega arith, omega arith))

blanks_ends : (text : List ℕ) (at : ℕ) → at ≤ length text → EndsIn at (length text) (blanks_end text at)
unfolding blanks_end
blanks_ends text at le = blanks_from_end text 0 at (drop at text) (omega (arith, length-drop at text))

-- ---- tokens

front_ends : (p : ℕ → Bool) (text : List ℕ) (at : ℕ) → at < length text → p (get_or text at 0) ≡ true → (at + 1 ≤ at + prefix_len p (drop at text)) × (at + prefix_len p (drop at text) ≤ length text)
front_ends p text at lt h = (omega (arith, some_front p text at lt h), omega (arith, prefix_len-le-length p (drop at text), length-drop at text))

word_ends : (text : List ℕ) (at : ℕ) → at < length text → is_word_byte (get_or text at 0) ≡ true → Ends (at + 1) (length text) (word_at text at)
unfolding word_at
word_ends text at lt h =
    let size = prefix_len is_word_byte (drop at text) in
    by_read {A = Word} (Ends {A = Word} (at + 1) (length text)) (keyword_or_name at (take size (drop at text))) (λ w. Ok (w, at + size)) (λ e. tt) (λ w _. front_ends is_word_byte text at lt h)

constant_ends : (text : List ℕ) (at : ℕ) → at < length text → is_number_byte (get_or text at 0) ≡ true → Ends (at + 1) (length text) (constant_at text at)
unfolding constant_at
constant_ends text at lt h =
    let size = prefix_len is_number_byte (drop at text) in
    by_option {A = constant.Constant} (Ends {A = constant.Constant} (at + 1) (length text)) (λ c. Ok (c, at + size)) (constant_of (take size (drop at text))) (Err (fault MALFORMED_CONSTANT at)) (λ c _. front_ends is_number_byte text at lt h) tt

literal_from_ends : (text : List ℕ) (quote begin inside at : ℕ) (rest : List ℕ) → at + length rest ≤ length text → Ends at (length text) (literal_from text quote begin inside at rest)
literal_from_ends text quote begin inside at [] le = tt
literal_from_ends text quote begin (suc inside) at (b ∷ rest) le = lower_pair (at + 1) at (length text) _ (omega arith) (literal_from_ends text quote begin inside (at + 1) rest (omega arith))
literal_from_ends text quote begin zero at (b ∷ rest) le =
    by_test (Ends at (length text)) (eqb b quote) _ _ (λ _. (omega arith, omega arith))
    (λ _. by_read (Ends at (length text)) (unit_at text begin at) _ (λ e. tt)
    (λ u _. by_read (Ends at (length text)) (literal_from text quote begin (u.1 - (at + 1)) (at + 1) rest) _ (λ e. tt)
    (λ more same. ends_is _ more (lower_pair (at + 1) at (length text) _ (omega arith) (literal_from_ends text quote begin (u.1 - (at + 1)) (at + 1) rest (omega arith))) same)))

literal_ends : (text : List ℕ) (at : ℕ) → at < length text → Ends (at + 1) (length text) (literal_at text at)
unfolding literal_at
literal_ends text at lt = literal_from_ends text (get_or text at 0) at 0 (at + 1) (drop (at + 1) text) (omega (arith, length-drop (at + 1) text))

character_ends : (text : List ℕ) (at : ℕ) → at < length text → Ends (at + 1) (length text) (character_at text at)
unfolding character_at
character_ends text at lt =
    by_read (Ends (at + 1) (length text)) (literal_at text at) _ (λ e. tt)
    (λ l same. by_read (Ends (at + 1) (length text)) (only_byte at l.0) _ (λ e. tt) (λ b _. ends_is _ l (literal_ends text at lt) same))

find_ends : (ms : List (List ℕ × Punctuator)) (text : List ℕ) (at : ℕ) → at < length text → OptionEnds (at + 1) (length text) (find_punctuator ms text at)
find_ends [] text at lt = tt
find_ends (m ∷ ms) text at lt =
    by_test (OptionEnds (at + 1) (length text)) (ltb 0 (length m.0) && text_has text at m.0) _ _
    (λ h. (omega (arith, ltb-true 0 (length m.0) (and_left _ _ h)), stands_within text at m.0 (omega arith) (and_right _ _ h)))
    (λ _. find_ends ms text at lt)

punctuator_ends : (text : List ℕ) (at : ℕ) → at < length text → Ends (at + 1) (length text) (punctuator_at text at)
unfolding punctuator_at longest_punctuator
punctuator_ends text at lt =
    by_test (Ends (at + 1) (length text)) (is_digraph_at text at) _ _ (λ _. tt)
    (λ _. by_option (Ends (at + 1) (length text)) _ (find_punctuator punctuators text at) _ (λ m same. option_is _ m (find_ends punctuators text at lt) same) tt)

header_ends : (text : List ℕ) (at : ℕ) → at ≤ length text → OptionEnds (at + 1) (length text) (header_at text at)
unfolding header_at
header_ends text at le =
    by_test (OptionEnds (at + 1) (length text)) (text_has text at (codes "<stdio.h>")) _ _ (λ h. let there : at + 9 ≤ length text = stands_within text at (codes "<stdio.h>") le h in (omega arith, there))
    (λ _. by_test (OptionEnds (at + 1) (length text)) (text_has text at (codes "<stdlib.h>")) _ _ (λ h. let there : at + 10 ≤ length text = stands_within text at (codes "<stdlib.h>") le h in (omega arith, there)) (λ _. tt))

include_within : (text : List ℕ) (at : ℕ) → at ≤ length text → is_include_at text at ≡ true → at + 7 ≤ length text
unfolding is_include_at
include_within text at le h = stands_within text at (codes "include") le (and_left _ _ h)

include_ends : (c : Context) (text : List ℕ) (at : ℕ) → at < length text → Ends (at + 1) (length text) (include_at c text at)
unfolding include_at
include_ends c text at lt =
    by_read P (blanks_end text (at + 1)) _ (λ e. tt)
    (λ word same. let w = end_is _ word (blanks_ends text (at + 1) (omega arith)) same in
    by_test P (not (is_include_at text word)) _ _ (λ _. tt)
    (λ is. let there : word + 7 ≤ length text = include_within text word w.1 (not_false _ is) in
    by_read P (blanks_end text (word + 7)) _ (λ e. tt)
    (λ name same_name. let n = end_is _ name (blanks_ends text (word + 7) there) same_name in
    by_option P _ (header_at text name) _
    (λ h same_header. let b = option_is _ h (header_ends text name n.1) same_header in
    by_read P (blanks_end text h.1) _ (λ e. tt)
    (λ end same_end. let z = end_is _ end (blanks_ends text h.1 b.1) same_end in
    by_test P (not (is_line_end text end) || is_inside c) _ _ (λ _. tt) (λ _. (omega (arith, w.0, n.0, b.0, z.0), z.1))))
    tt)))
  where
    P : Result (Header × ℕ) Fault → Type 0
    P r = Ends (at + 1) (length text) r

plain_token_ends : (text : List ℕ) (at : ℕ) → at < length text → Ends (at + 1) (length text) (plain_token_at text at)
unfolding plain_token_at
plain_token_ends text at lt =
    by_test P (is_letter (get_or text at 0)) _ _ (λ h. word_ends text at lt (letter_begins _ h))
    (λ _. by_test P (begins_constant text at) _ _ (λ h. by_read P (constant_at text at) _ (λ e. tt) (λ x same. ends_is _ x (constant_ends text at lt (number_begins text at h)) same))
    (λ _. by_test P (eqb (get_or text at 0) 39) _ _ (λ _. by_read P (character_at text at) _ (λ e. tt) (λ x same. ends_is _ x (character_ends text at lt) same))
    (λ _. by_test P (eqb (get_or text at 0) 34) _ _ (λ _. by_read P (literal_at text at) _ (λ e. tt) (λ x same. ends_is _ x (literal_ends text at lt) same))
    (λ _. by_read P (punctuator_at text at) _ (λ e. tt) (λ x same. ends_is _ x (punctuator_ends text at lt) same)))))
  where
    P : Result (Word × ℕ) Fault → Type 0
    P r = Ends (at + 1) (length text) r

token_ends : (c : Context) (text : List ℕ) (at : ℕ) → at < length text → Ends (at + 1) (length text) (token_at c text at)
unfolding token_at
token_ends c text at lt =
    by_test P (is_replaced text at) _ _ (λ _. tt)
    (λ _. by_test P (eqb (get_or text at 0) 35 && c.starts_line) _ _ (λ _. by_read P (include_at c text at) _ (λ e. tt) (λ x same. ends_is _ x (include_ends c text at lt) same))
    (λ _. plain_token_ends text at lt))
  where
    P : Result (Word × ℕ) Fault → Type 0
    P r = Ends (at + 1) (length text) r

may_end_is : {low high : ℕ} (r : Result (Option ℕ) Fault) (end : ℕ) → MayEnd low high r → r ≡ Ok (Some end) → (low ≤ end) × (end ≤ high)
may_end_is r end e same = rw same at e

pub item_ends : (c : Context) (text : List ℕ) (at : ℕ) → at < length text → Ends (at + 1) (length text) (item_at c text at)
unfolding item_at
item_ends c text at lt =
    by_test P (eqb (get_or text at 0) 10) _ _ (λ _. (omega arith, omega arith))
    (λ _. by_read P (blank_at text at) _ (λ e. tt)
    (λ blank same. by_option P _ blank _ (λ end is. may_end_is _ end (blank_ends text at lt) (same ∙ ap Ok is))
    (by_read P (token_at c text at) _ (λ e. tt) (λ x same_token. ends_is _ x (token_ends c text at lt) same_token))))
  where
    P : Result (Piece × ℕ) Fault → Type 0
    P r = Ends (at + 1) (length text) r

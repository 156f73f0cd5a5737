-- The words of a line, from the first on.
use Rattle.std.proofs.Common.{◌≡◌, ℕ, zero, suc, ◌+◌, ◌-◌, ◌<◌, ◌≤◌, ltb, true, false, not, List, [], ◌∷◌, length, take, drop, get_or, Some, None, refl, sym, ap, ◌∙◌, arith}
use Rattle.std.specs.Prelude.{position}
use Rattle.std.specs.List.{All, filter, slice_split}
use Rattle.std.proofs.lemmas.Bool.{lt-ltb, not-false, true≢false}
use Rattle.std.proofs.lemmas.List.{length-drop, length-take, take_all, drop_all, get_or-drop}
use Rattle.std.proofs.lemmas.List.Elements.{All-get_or}
use Rattle.std.proofs.lemmas.List.Quantifiers.{position-Some}
use Rattle.std.proofs.lemmas.List.Splits.{slice_split-cons_yes}
use Rattle.std.proofs.Math.Seq.{drop-cons}
use Rattle.script_form.specs.Words.{is_space_or_tab, is_word, words}
use Rattle.script_form.proofs.Cuts.{parts_at, parts_whole, position_none}

-- the bytes before an index are blanks
abbrev Blanks : List ℕ → ℕ → Type 0
Blanks line n = (k : ℕ) → k < n → is_space_or_tab (get_or line k 0) ≡ true

-- a blank in front is no part of a word
one_blank : (b : ℕ) (bs : List ℕ) → is_space_or_tab b ≡ true → words (b ∷ bs) ≡ words bs
one_blank b bs blank = ap (filter is_word) (slice_split-cons_yes is_space_or_tab b bs blank)

-- nor are several
pub blanks_in_front : (line : List ℕ) (n : ℕ) → n ≤ length line → Blanks line n → words line ≡ words (drop n line)
blanks_in_front line zero there blanks = refl
blanks_in_front [] (suc n) there blanks = absurd (omega arith)
blanks_in_front (b ∷ bs) (suc n) there blanks =
    one_blank b bs (blanks 0 (omega arith)) ∙ blanks_in_front bs n (omega arith) (λ k below. blanks (suc k) (omega arith))

-- the blanks before the first byte that is none
first_no_blank : (line : List ℕ) (start : ℕ) → position (λ b. not (is_space_or_tab b)) line ≡ Some start → words line ≡ words (drop start line)
first_no_blank line start found =
    let there = position-Some (λ b. not (is_space_or_tab b)) line start 0 found in
    blanks_in_front line start (omega (arith, there.0)) (λ k below. not-false (is_space_or_tab (get_or line k 0)) (there.2 k below))

-- a line of blanks has no words
pub no_words : (line : List ℕ) → position (λ b. not (is_space_or_tab b)) line ≡ None → words line ≡ []
no_words line none =
    let all : All (λ b. not (is_space_or_tab b) ≡ false) line = position_none (λ b. not (is_space_or_tab b)) line none in
    let blanks : Blanks line (length line) = λ k below. not-false (is_space_or_tab (get_or line k 0)) (All-get_or (λ b. not (is_space_or_tab b) ≡ false) line k 0 below all) in
    blanks_in_front line (length line) (omega arith) blanks ∙ ap words (drop_all (length line) line (omega arith))

-- what stands from a byte on, as a slice
slice_is_drop : (line : List ℕ) (start : ℕ) → take (length line - start) (drop start line) ≡ drop start line
slice_is_drop line start = take_all (length line - start) (drop start line) (omega (arith, length-drop start line))

keeps_word : (word : List ℕ) (parts : List (List ℕ)) → 0 < length word → filter is_word (word ∷ parts) ≡ word ∷ filter is_word parts
keeps_word word parts some =
    let test : ltb 0 (length word) ≡ true = lt-ltb 0 (length word) some in
    rw test

-- the first word of a text that begins with no blank
word_first : (text : List ℕ) (end : ℕ) → 0 < end → position is_space_or_tab text ≡ Some end → words text ≡ take end text ∷ words (drop end text)
word_first text end some found =
    let there = position-Some is_space_or_tab text end 0 found in
    let word : 0 < length (take end text) = omega (arith, length-take end text, there.0, some) in
    let next : suc end ≡ end + 1 = omega arith in
    let behind : words (drop end text) ≡ words (drop (end + 1) text) =
    ap words (drop-cons text end 0 there.0)
    ∙ one_blank (get_or text end 0) (drop (suc end) text) there.1
    ∙ ap (λ k. words (drop k text)) next in
    ap (filter is_word) (parts_at is_space_or_tab text end found)
    ∙ keeps_word (take end text) (slice_split is_space_or_tab (drop (end + 1) text)) word
    ∙ ap (λ ws. take end text ∷ ws) (sym behind)

-- its first byte is no blank, so it has one before the blank that ends it
word_is_some : (line text : List ℕ) (start end : ℕ) → not (is_space_or_tab (get_or line start 0)) ≡ true → text ≡ drop start line
    → is_space_or_tab (get_or text end 0) ≡ true → 0 < end
word_is_some line text start zero first same blank =
    let one : get_or text 0 0 ≡ get_or line (start + 0) 0 = ap (λ t. get_or t 0 0) same ∙ get_or-drop start line 0 0 in
    let at_start : start + 0 ≡ start = omega arith in
    let both : is_space_or_tab (get_or line start 0) ≡ true = ap (λ k. is_space_or_tab (get_or line k 0)) (sym at_start) ∙ ap is_space_or_tab (sym one) ∙ blank in
    absurd (true≢false (sym first ∙ ap not both))
word_is_some line text start (suc end) first same blank = omega arith

-- a word that ends at a blank
pub word_before_blank : (line text : List ℕ) (start end : ℕ) → position (λ b. not (is_space_or_tab b)) line ≡ Some start
    → text ≡ take (length line - start) (drop start line) → position is_space_or_tab text ≡ Some end
    → words line ≡ take end text ∷ words (take (length text - end) (drop end text))
word_before_blank line text start end found cut ends =
    let there = position-Some (λ b. not (is_space_or_tab b)) line start 0 found in
    let same : text ≡ drop start line = cut ∙ slice_is_drop line start in
    let blank = position-Some is_space_or_tab text end 0 ends in
    let some : 0 < end = word_is_some line text start end there.1 same blank.1 in
    first_no_blank line start found ∙ ap words (sym same) ∙ word_first text end some ends
    ∙ ap (λ rest. take end text ∷ words rest) (sym (slice_is_drop text end))

-- a word that ends with the line
pub word_at_end : (line text : List ℕ) (start : ℕ) → position (λ b. not (is_space_or_tab b)) line ≡ Some start
    → text ≡ take (length line - start) (drop start line) → position is_space_or_tab text ≡ None → words line ≡ text ∷ words []
word_at_end line text start found cut none =
    let there = position-Some (λ b. not (is_space_or_tab b)) line start 0 found in
    let same : text ≡ drop start line = cut ∙ slice_is_drop line start in
    let some : 0 < length text = omega (arith, ap length same, length-drop start line, there.0) in
    first_no_blank line start found ∙ ap words (sym same) ∙ ap (filter is_word) (parts_whole is_space_or_tab text none) ∙ keeps_word text [] some

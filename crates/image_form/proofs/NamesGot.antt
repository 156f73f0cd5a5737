-- Names, found by the lengths that rows tell.
use Rattle.std.proofs.Common.{◌≡◌, ℕ, zero, suc, ◌+◌, ◌-◌, ◌<◌, ◌≤◌, cond, ltb, List, [], ◌∷◌, length, get_or, take, drop, refl, sym, ap, ◌∙◌, arith}
use Rattle.std.specs.Prelude.{map, sum}
use Rattle.std.proofs.lemmas.Bool.{lt-ltb, le-ltb}
use Rattle.std.proofs.lemmas.List.{length-map, take_all, drop-drop}
use Rattle.base_laws.proofs.Lists.{sum_more as sum-cons}
use Rattle.image_form.specs.declared.lent.View.{View}
use Rattle.image_form_sections.specs.declared.table.Table.{Table}
use Rattle.image_form.specs.declared.tables.Change.{Change}
use Rattle.image_form.specs.declared.tables.Function.{Function}
use Rattle.image_form.specs.declared.variables.Variable.{Variable}
use Rattle.image_form.specs.Decoding.{form_of_sections, only_number, function_of_row, variable_of, change_of}
use Rattle.image_form_sections.specs.Layouts.{rows_in}
use Rattle.image_form.specs.Names.{name_at}
use Rattle.image_form_sections.specs.Sections.{cell}
use Rattle.image_form.specs.Views.{viewed, name_of}

-- One length more.
sum_next : (ls : List ℕ) (k : ℕ) → sum (take (suc k) ls) ≡ sum (take k ls) + get_or ls k 0
sum_next [] zero = refl
sum_next [] (suc k) = refl
sum_next (l ∷ ls) zero = omega arith
sum_next (l ∷ ls) (suc k) = omega (arith, sum-cons l (take (suc k) ls), sum-cons l (take k ls), sum_next ls k)

length_got : (rows : List (List ℕ)) (k : ℕ) → get_or (map only_number rows) k 0 ≡ cell rows k 0
length_got [] zero = refl
length_got [] (suc k) = refl
length_got (r ∷ rows) zero = refl
length_got (r ∷ rows) (suc k) = length_got rows k

-- The bytes behind one name more.
pub behind_next : (rows : List (List ℕ)) (k : ℕ) (bytes rest : List ℕ) → rest ≡ drop (sum (take k (map only_number rows))) bytes
    → drop (cell rows k 0) rest ≡ drop (sum (take (k + 1) (map only_number rows))) bytes
behind_next rows k bytes rest e =
    let ls = map only_number rows in
    let more : k + 1 ≡ suc k = omega arith in
    let sums : sum (take k ls) + cell rows k 0 ≡ sum (take (k + 1) ls) = ap (λ (n : ℕ). sum (take k ls) + n) (sym (length_got rows k)) ∙ sym (sum_next ls k) ∙ ap (λ (n : ℕ). sum (take n ls)) (sym more) in
    ap (drop (cell rows k 0)) e ∙ drop-drop (cell rows k 0) (sum (take k ls)) bytes ∙ ap (λ (n : ℕ). drop n bytes) sums

-- A row's name lies behind those of the rows before.
pub name_there : (rows : List (List ℕ)) (k : ℕ) (bytes rest : List ℕ) → rest ≡ drop (sum (take k (map only_number rows))) bytes
    → take (cell rows k 0) rest ≡ name_at (map only_number rows) k bytes
name_there rows k bytes rest e = (λ i. take (sym (length_got rows k) i) (e i))

-- The n-th name, by the lengths of three tables.
abbrev name_by : List ℕ → List ℕ → List ℕ → List ℕ → ℕ → List ℕ
name_by fs vs cs names n =
    cond (ltb n (length fs)) (name_at fs n names)
    (cond (ltb (n - length fs) (length vs)) (name_at vs (n - length fs) (drop (sum fs) names))
    (name_at cs (n - length fs - length vs) (drop (sum fs + sum vs) names)))

lengths_told : {A : Type 0} (of_numbers : List ℕ → A) (measure : A → ℕ) → ((r : List ℕ) → measure (of_numbers r) ≡ only_number r) → (rows : List (List ℕ)) → map measure (map of_numbers rows) ≡ map only_number rows
lengths_told of_numbers measure each [] = refl
lengths_told of_numbers measure each (r ∷ rows) = let head = each r in let tail = lengths_told of_numbers measure each rows in (λ i. head i ∷ tail i)

as_many : {A : Type 0} (of_numbers : List ℕ → A) (rows : List (List ℕ)) → length (map of_numbers rows) ≡ length (map only_number rows)
as_many of_numbers rows = length-map rows of_numbers ∙ sym (length-map rows only_number)

-- It is a function's,
by_first : (fs vs cs names : List ℕ) (n : ℕ) → n < length fs → name_at fs n names ≡ name_by fs vs cs names n
by_first fs vs cs names n low = let here = lt-ltb n (length fs) low in rw here refl

-- a variable's,
by_second : (fs vs cs names rest : List ℕ) (n a : ℕ) → a ≡ length fs → a ≤ n → n - a < length vs → rest ≡ drop (sum (take a fs)) names
    → name_at vs (n - a) rest ≡ name_by fs vs cs names n
by_second fs vs cs names rest n a is past low behind =
    let not_first = le-ltb n (length fs) (omega (arith, is, past)) in
    let here = lt-ltb (n - length fs) (length vs) (omega (arith, is, low)) in
    let all : rest ≡ drop (sum fs) names = behind ∙ ap (λ (l : List ℕ). drop (sum l) names) (take_all a fs (omega (arith, is))) in
    (λ i. name_at vs (n - is i) (all i)) ∙ rw (not_first, here) refl

-- or a change's.
by_third : (fs vs cs names rest more : List ℕ) (n a b : ℕ) → a ≡ length fs → b ≡ length vs → a ≤ n → b ≤ n - a → rest ≡ drop (sum (take a fs)) names
    → more ≡ drop (sum (take b vs)) rest → name_at cs (n - a - b) more ≡ name_by fs vs cs names n
by_third fs vs cs names rest more n a b is_a is_b past beyond behind behind_more =
    let not_first = le-ltb n (length fs) (omega (arith, is_a, past)) in
    let not_second = le-ltb (n - length fs) (length vs) (omega (arith, is_a, is_b, beyond)) in
    let all : rest ≡ drop (sum fs) names = behind ∙ ap (λ (l : List ℕ). drop (sum l) names) (take_all a fs (omega (arith, is_a))) in
    let every : more ≡ drop (sum fs + sum vs) names =
    behind_more
    ∙ ap (λ (l : List ℕ). drop (sum l) rest) (take_all b vs (omega (arith, is_b)))
    ∙ ap (drop (sum vs)) all
    ∙ drop-drop (sum vs) (sum fs) names in
    (λ i. name_at cs (n - is_a i - is_b i) (every i)) ∙ rw (not_first, not_second) refl

-- The lengths of the names of a view's functions, variables and changes.
abbrev pub lengths_in : Table → List ℕ
lengths_in t = map only_number (rows_in t)

length-lengths : (t : Table) → length (rows_in t) ≡ length (lengths_in t)
length-lengths t = sym (length-map (rows_in t) only_number)

module _ (v : View) (n : ℕ) where
  name_told : name_by (lengths_in v.layout.functions) (lengths_in v.layout.variables) (lengths_in v.layout.changes) v.layout.names.now n ≡ name_of (viewed v) n
  unfolding form_of_sections
  name_told =
      let names = v.layout.names.now in
      let f = lengths_told function_of_row (λ (g : Function). g.name_length) (λ r. refl) (rows_in v.layout.functions) in
      let w = lengths_told variable_of (λ (g : Variable). g.name_length) (λ r. refl) (rows_in v.layout.variables) in
      let p = lengths_told change_of (λ (g : Change). g.pass_length) (λ r. refl) (rows_in v.layout.changes) in
      let a = as_many function_of_row (rows_in v.layout.functions) in
      let b = as_many variable_of (rows_in v.layout.variables) in
      sym (λ i.
      cond (ltb n (a i)) (name_at (f i) n names)
      (cond (ltb (n - a i) (b i)) (name_at (w i) (n - a i) (drop (sum (f i)) names)) (name_at (p i) (n - a i - b i) (drop (sum (f i) + sum (w i)) names))))

  pub name_first : n < length (rows_in v.layout.functions) → name_at (lengths_in v.layout.functions) n v.layout.names.now ≡ name_of (viewed v) n
  name_first low = by_first _ _ _ _ n (omega (arith, low, length-lengths v.layout.functions)) ∙ name_told

  pub name_second : (a : ℕ) (rest : List ℕ) → a ≡ length (rows_in v.layout.functions) → a ≤ n → n - a < length (rows_in v.layout.variables)
      → rest ≡ drop (sum (take a (lengths_in v.layout.functions))) v.layout.names.now → name_at (lengths_in v.layout.variables) (n - a) rest ≡ name_of (viewed v) n
  name_second a rest is past low behind =
      by_second _ _ _ _ rest n a (is ∙ length-lengths v.layout.functions) past (omega (arith, low, length-lengths v.layout.variables)) behind ∙ name_told

  pub name_third : (a b : ℕ) (rest more : List ℕ) → a ≡ length (rows_in v.layout.functions) → b ≡ length (rows_in v.layout.variables) → a ≤ n → b ≤ n - a
      → rest ≡ drop (sum (take a (lengths_in v.layout.functions))) v.layout.names.now → more ≡ drop (sum (take b (lengths_in v.layout.variables))) rest
      → name_at (lengths_in v.layout.changes) (n - a - b) more ≡ name_of (viewed v) n
  name_third a b rest more is_a is_b past beyond behind behind_more =
      by_third _ _ _ _ rest more n a b (is_a ∙ length-lengths v.layout.functions) (is_b ∙ length-lengths v.layout.variables) past beyond behind behind_more ∙ name_told

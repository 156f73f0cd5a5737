-- Lists of the variables of functions are made from the last variable to the first, and followed from the first one on.
use Rattle.std.proofs.Common.{◌≡◌, ◌≢◌, ℕ, suc, ◌+◌, ◌<◌, ◌≤◌, ◌==◌, Bool, true, false, Option, Some, None, List, [], ◌∷◌, length, drop, get_or, refl, sym, ap, ◌∙◌, subst, arith, All}
use Rattle.std.specs.Prelude.{IfSome, if◌then◌else◌, slice_get, slice_index, slice_index_or, slice_set}
use Rattle.std.specs.Option.{option_map_or}
use Rattle.std.proofs.lemmas.Bool.{eqb-true, eqb-false, true≢false}
use Rattle.std.proofs.lemmas.List.{drop-drop, drop_more, get_or-set_same, get_or-set_other, length-set}
use Rattle.std.proofs.lemmas.List.Elements.{All-cons}
use Rattle.std.proofs.lemmas.Option.{none-some, same_Some, slice_get-get_or}
use Rattle.image_form.specs.Form.{Form}
use Rattle.image_form.specs.Rules.{IsImage}
use Rattle.image_form.specs.RulesOfVariables.{IsKept, IsVariable}
use Rattle.image_form.specs.declared.variables.Storage.{Storage}
use Rattle.image_form.specs.declared.variables.Storage.TheVariants.{Static, Frame, Register, Slot}
use Rattle.image_form.specs.declared.variables.Variable.{Variable}
use Rattle.image_form.proofs.RecordsBack.{kept_there}
use Rattle.image_form.proofs.TableLaws.{each_at}
use Rattle.stop_engine_tables.specs.VariableLists.{is_kept_statically, is_static, next_of}
use Rattle.stop_engine_tables.proofs.Records.{record_at, records_from}
use Rattle.stop_engine_view.specs.Pointers.{is_variable_of, literal_count, local_offset, local_target, offset_within, static_offset, static_start, static_target}

-- ---- The next variable of a function

pub next-least : (f n : ℕ) (vs : List Variable) → n ≤ next_of f n vs
next-least f n [] = omega arith
next-least f n (v ∷ vs) = by_test (is_variable_of f v) refl (next-least f (n + 1) vs)
  where
    by_test : (b : Bool) → is_variable_of f v ≡ b → n + 1 ≤ next_of f (n + 1) vs → n ≤ next_of f n (v ∷ vs)
    by_test true t rest = rw t (omega arith)
    by_test false t rest = rw t (omega (arith, rest))

pub next-most : (f n : ℕ) (vs : List Variable) → next_of f n vs ≤ n + length vs
next-most f n [] = omega arith
next-most f n (v ∷ vs) = by_test (is_variable_of f v) refl (next-most f (n + 1) vs)
  where
    by_test : (b : Bool) → is_variable_of f v ≡ b → next_of f (n + 1) vs ≤ n + 1 + length vs → next_of f n (v ∷ vs) ≤ n + length (v ∷ vs)
    by_test true t rest = rw t (omega arith)
    by_test false t rest = rw t (omega (arith, rest))

-- what is behind the first of a rest
behind : (n : ℕ) (v : Variable) (vs whole : List Variable) → v ∷ vs ≡ drop n whole → vs ≡ drop (n + 1) whole
behind n v vs whole e = ap (drop 1) e ∙ drop-drop 1 n whole

-- it is a variable of the function, or there is none
pub next-there : (f n : ℕ) (vs whole : List Variable) → vs ≡ drop n whole → next_of f (next_of f n vs) (drop (next_of f n vs) whole) ≡ next_of f n vs
next-there f n [] whole e = rw (← e) refl
next-there f n (v ∷ vs) whole e = by_test (is_variable_of f v) refl (next-there f (n + 1) vs whole (behind n v vs whole e))
  where
    by_test : (b : Bool) → is_variable_of f v ≡ b → next_of f (next_of f (n + 1) vs) (drop (next_of f (n + 1) vs) whole) ≡ next_of f (n + 1) vs
        → next_of f (next_of f n (v ∷ vs)) (drop (next_of f n (v ∷ vs)) whole) ≡ next_of f n (v ∷ vs)
    by_test true t rest = rw (t, ← e, t) refl
    by_test false t rest = rw t rest

owned : (f : ℕ) (owner : Option ℕ) → option_map_or (λ g. g == f) owner false ≡ true → owner ≡ Some f
owned f None t = absurd (true≢false (sym t))
owned f (Some g) t = ap Some (eqb-true g f t)

-- where it is the variable at which one stands, that is of the function
pub next-owned : (f i : ℕ) (d : Variable) (vs : List Variable) → i < length vs → next_of f i (drop i vs) ≡ i → (slice_index_or vs i d).function ≡ Some f
next-owned f i d vs lt there = by_test (is_variable_of f (get_or vs i d)) refl
  where
    here : next_of f i (get_or vs i d ∷ drop (i + 1) vs) ≡ i
    here = ap (next_of f i) (sym (drop_more vs i d lt)) ∙ there

    by_test : (b : Bool) → is_variable_of f (get_or vs i d) ≡ b → (slice_index_or vs i d).function ≡ Some f
    by_test true t = owned f (get_or vs i d).function t
    by_test false t = let past = next-least f (i + 1) (drop (i + 1) vs) in let same = rw t at here in absurd (omega (arith, past, same))

-- ---- Following

-- variables of other functions are passed by
pub local-skip : (address f frame deep n : ℕ) (vs whole : List Variable) → vs ≡ drop n whole
    → local_target address f frame deep n vs ≡ local_target address f frame deep (next_of f n vs) (drop (next_of f n vs) whole)
local-skip address f frame deep n [] whole e = ap (local_target address f frame deep n) e
local-skip address f frame deep n (v ∷ vs) whole e = by_test (is_variable_of f v) refl (local-skip address f frame deep (n + 1) vs whole (behind n v vs whole e))
  where
    by_test : (b : Bool) → is_variable_of f v ≡ b
        → local_target address f frame deep (n + 1) vs ≡ local_target address f frame deep (next_of f (n + 1) vs) (drop (next_of f (n + 1) vs) whole)
        → local_target address f frame deep n (v ∷ vs) ≡ local_target address f frame deep (next_of f n (v ∷ vs)) (drop (next_of f n (v ∷ vs)) whole)
    by_test true t rest =
        let here : next_of f n (v ∷ vs) ≡ n = rw t refl in
        subst (λ k. local_target address f frame deep n (v ∷ vs) ≡ local_target address f frame deep k (drop k whole)) (sym here) (ap (local_target address f frame deep n) e)
    by_test false t rest = rw t rest

-- it is none up to the next variable of the function
pub local-next : (address f frame deep i j : ℕ) (d : Variable) (vs : List Variable) → i < length vs → None ≡ local_offset (slice_index_or vs i d) f frame address
    → j ≡ next_of f (i + 1) (drop (i + 1) vs) → local_target address f frame deep i (drop i vs) ≡ local_target address f frame deep j (drop j vs)
local-next address f frame deep i j d vs lt is next =
    rw (drop_more vs i d lt, ← is, next) (local-skip address f frame deep (i + 1) (drop (i + 1) vs) vs refl)

-- ---- Linking

-- The variables from one on are linked.
pub record AreLinked (vs : List Variable) (left : ℕ) (firsts nexts : List ℕ) : Type 0 where
  pub rows : length nexts ≡ length vs
  pub first : (f : ℕ) → f < length firsts → slice_index firsts f ≡ next_of f left (drop left vs)
  pub next : (i f : ℕ) (d : Variable) → left ≤ i → i < length vs → (slice_index_or vs i d).function ≡ Some f → slice_index nexts i ≡ next_of f (i + 1) (drop (i + 1) vs)

-- the first variable of a function from one on, by whether that is one of the function
next_at : (g k : ℕ) (v : Variable) (vs : List Variable) (b : Bool) → slice_get vs k ≡ Some v → is_variable_of g v ≡ b → next_of g k (drop k vs) ≡ (if b then k else next_of g (k + 1) (drop (k + 1) vs))
next_at g k v vs b at is = rw (records_from vs k v at, is) refl

owner_tested : (g : ℕ) (v : Variable) (owner : Option ℕ) → v.function ≡ owner → is_variable_of g v ≡ option_map_or (λ h. h == g) owner false
owner_tested g v owner own = ap (λ (o : Option ℕ). option_map_or (λ h. h == g) o false) own

-- a variable of a function is linked before the function's first one
first_of_more : (vs : List Variable) (k f : ℕ) (v : Variable) (firsts nexts : List ℕ) → slice_get vs k ≡ Some v → v.function ≡ Some f → f < length firsts → AreLinked vs (k + 1) firsts nexts
    → (g : ℕ) → g < length (slice_set firsts f k) → slice_index (slice_set firsts f k) g ≡ next_of g k (drop k vs)
first_of_more vs k f v firsts nexts at own low linked g lt = by_test (f == g) refl
  where
    by_test : (b : Bool) → (f == g) ≡ b → slice_index (slice_set firsts f k) g ≡ next_of g k (drop k vs)
    by_test true t =
        let same : f ≡ g = eqb-true f g t in
        let here : next_of g k (drop k vs) ≡ k = next_at g k v vs true at (owner_tested g v (Some f) own ∙ t) in
        subst (λ n. slice_index (slice_set firsts f k) n ≡ k) same (get_or-set_same firsts f k 0 low) ∙ sym here
    by_test false t =
        let other : g ≢ f = λ e. eqb-false f g t (sym e) in
        let behind : next_of g k (drop k vs) ≡ next_of g (k + 1) (drop (k + 1) vs) = next_at g k v vs false at (owner_tested g v (Some f) own ∙ t) in
        get_or-set_other firsts f g k 0 other ∙ (linked.first g (omega (arith, lt, length-set firsts f k)) ∙ sym behind)

next_of_more : (vs : List Variable) (k f : ℕ) (v : Variable) (firsts nexts : List ℕ) → slice_get vs k ≡ Some v → v.function ≡ Some f → f < length firsts → AreLinked vs (k + 1) firsts nexts
    → (i g : ℕ) (d : Variable) → k ≤ i → i < length vs → (slice_index_or vs i d).function ≡ Some g
    → slice_index (slice_set nexts k (slice_index firsts f)) i ≡ next_of g (i + 1) (drop (i + 1) vs)
next_of_more vs k f v firsts nexts at own low linked i g d from lt its = by_test (k == i) refl
  where
    by_test : (b : Bool) → (k == i) ≡ b → slice_index (slice_set nexts k (slice_index firsts f)) i ≡ next_of g (i + 1) (drop (i + 1) vs)
    by_test true t =
        let same : k ≡ i = eqb-true k i t in
        let here : (get_or vs k d).function ≡ Some g = subst (λ n. (get_or vs n d).function ≡ Some g) (sym same) its in
        let one : f ≡ g = same_Some f g (sym own ∙ (ap (λ (w : Variable). w.function) (record_at vs k v d at) ∙ here)) in
        let row : k < length nexts = omega (arith, lt, from, same, linked.rows) in
        subst (λ n. slice_index (slice_set nexts k (slice_index firsts f)) n ≡ next_of g (n + 1) (drop (n + 1) vs)) same
        (get_or-set_same nexts k (slice_index firsts f) 0 row ∙ (linked.first f low ∙ ap (λ n. next_of n (k + 1) (drop (k + 1) vs)) one))
    by_test false t =
        let other : i ≢ k = λ e. eqb-false k i t (sym e) in
        get_or-set_other nexts k i (slice_index firsts f) 0 other ∙ linked.next i g d (omega (arith, from, other)) lt its

pub linked_more : (vs : List Variable) (k f : ℕ) (v : Variable) (firsts nexts : List ℕ) → slice_get vs k ≡ Some v → v.function ≡ Some f → f < length firsts → AreLinked vs (k + 1) firsts nexts
    → AreLinked vs k (slice_set firsts f k) (slice_set nexts k (slice_index firsts f))
linked_more vs k f v firsts nexts at own low linked = record {
  rows = length-set nexts k (slice_index firsts f) ∙ linked.rows;
  first = first_of_more vs k f v firsts nexts at own low linked;
  next = next_of_more vs k f v firsts nexts at own low linked;
}

-- a variable of no function is passed by
next_past : (vs : List Variable) (k : ℕ) (v : Variable) (firsts nexts : List ℕ) → slice_get vs k ≡ Some v → v.function ≡ None → AreLinked vs (k + 1) firsts nexts
    → (i g : ℕ) (d : Variable) → k ≤ i → i < length vs → (slice_index_or vs i d).function ≡ Some g → slice_index nexts i ≡ next_of g (i + 1) (drop (i + 1) vs)
next_past vs k v firsts nexts at none linked i g d from lt its = by_test (k == i) refl
  where
    by_test : (b : Bool) → (k == i) ≡ b → slice_index nexts i ≡ next_of g (i + 1) (drop (i + 1) vs)
    by_test true t =
        let same : k ≡ i = eqb-true k i t in
        let here : (get_or vs k d).function ≡ Some g = subst (λ n. (get_or vs n d).function ≡ Some g) (sym same) its in
        absurd (none-some g (sym none ∙ (ap (λ (w : Variable). w.function) (record_at vs k v d at) ∙ here)))
    by_test false t = let other : i ≢ k = λ e. eqb-false k i t (sym e) in linked.next i g d (omega (arith, from, other)) lt its

pub linked_past : (vs : List Variable) (k : ℕ) (v : Variable) (firsts nexts : List ℕ) → slice_get vs k ≡ Some v → v.function ≡ None → AreLinked vs (k + 1) firsts nexts → AreLinked vs k firsts nexts
linked_past vs k v firsts nexts at none linked = record {
  rows = linked.rows;
  first = λ g lt. linked.first g lt ∙ sym (next_at g k v vs false at (owner_tested g v None none));
  next = next_past vs k v firsts nexts at none linked;
}

-- the functions of variables are there
pub owners-there : (m : Form) (n : ℕ) → IsImage m → n ≡ length m.functions → All (λ (v : Variable). IfSome v.function (λ f. f < n)) m.variables
owners-there m n image same k d lt =
    let v = get_or m.variables k d in
    let its = each_at (IsVariable m) m.variables k v image.variables.each (slice_get-get_or m.variables k d lt) in
    by_owner v.function v.storage its.kept
  where
    by_owner : (owner : Option ℕ) (storage : Storage) → IsKept m owner storage → IfSome owner (λ f. f < n)
    by_owner None storage kept = tt
    by_owner (Some g) storage kept = rw same (kept_there m g storage kept)

-- ---- The static ones

unkept : (v : Variable) (address : ℕ) → is_static v ≡ false → static_offset v address ≡ None
unkept v address other = by_storage v.storage other
  where
    by_storage : (s : Storage) → is_kept_statically s ≡ false → option_map_or (λ start. offset_within v start address) (static_start s) None ≡ None
    by_storage (Static a) other = absurd (true≢false other)
    by_storage (Frame o) other = refl
    by_storage (Register r) other = refl
    by_storage (Slot o) other = refl

-- no static variable stands behind the last
pub static-none : (address n count : ℕ) (vs : List Variable) → All (λ (v : Variable). is_static v ≡ false) vs → static_target address n count vs ≡ None
static-none address n count [] none = refl
static-none address n count (v ∷ vs) none =
    let other : static_offset v address ≡ None = unkept v address (none 0 v (omega arith)) in
    rw other (static-none address (n + 1) (count + literal_count v) vs (λ k d lt. none (suc k) d (omega (arith, lt))))

-- nor from a variable on that is not static
pub none_static_more : (vs : List Variable) (n : ℕ) (v : Variable) → slice_get vs n ≡ Some v → is_static v ≡ false → All (λ (v : Variable). is_static v ≡ false) (drop (n + 1) vs)
    → All (λ (v : Variable). is_static v ≡ false) (drop n vs)
none_static_more vs n v at other none = subst (All (λ (v : Variable). is_static v ≡ false)) (sym (records_from vs n v at)) (All-cons (λ (v : Variable). is_static v ≡ false) v (drop (n + 1) vs) other none)

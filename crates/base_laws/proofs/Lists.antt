-- Lists.
use Rattle.std.proofs.Common.{Bool, List, Some, [], add-one, ap, arith, drop, drop-cons, false, get_or, inl, inr, length, map, refl, slice_get, slice_set, subst, suc, sym, take, true, zero, ℕ, ⊎_elim, ◌++◌, ◌+◌, ◌-◌, ◌<◌, ◌∙◌, ◌∷◌, ◌≡◌, ◌≢◌, ◌≤◌, ◌⊎◌}
use Rattle.std.proofs.Math.Seq.{take-length}
use Rattle.std.proofs.lemmas.List.{get_or-drop}
use Rattle.std.proofs.lemmas.List.Sums.{sum_by-cons}
use Rattle.std.proofs.lemmas.Option.{none-some, same_Some, slice_get-get_or, slice_get-map, slice_get_read, slice_get_within}
use Rattle.std.specs.List.{AllByRecursion, Contains, list_any}
use Rattle.std.specs.Prelude.{Contains, IsSomeAnd, option_map, slice_get, slice_index, slice_set, sum, ◌||◌}

pub append_nil : {A : Type 0} (xs : List A) → xs ++ [] ≡ xs
append_nil [] = refl
append_nil (x ∷ xs) = ap (λ ys. x ∷ ys) (append_nil xs)

pub rest_is : {A : Type 0} (y : A) (left : List A) → take (length (y ∷ left) - 1) (drop 1 (y ∷ left)) ≡ left
rest_is y left = (let count : length (y ∷ left) - 1 ≡ length left = omega arith in ap (λ n. take n left) count ∙ take-length left)

pub both_all : {A : Type 0} (P : A → Type 0) (xs ys : List A) → AllByRecursion P xs → AllByRecursion P ys → AllByRecursion P (xs ++ ys)
both_all P [] ys a b = b
both_all P (x ∷ xs) ys a b = (a.0, both_all P xs ys a.1 b)

pub all_at : {A : Type 0} (P : A → Type 0) (xs : List A) (n : ℕ) (x : A) → AllByRecursion P xs → slice_get xs n ≡ Some x → P x
all_at P [] n x all at = absurd (none-some x at)
all_at P (y ∷ xs) zero x all at = subst P (same_Some y x at) all.0
all_at P (y ∷ xs) (suc n) x all at = all_at P xs n x all.1 at

pub front_at : {A : Type 0} (xs ys : List A) (k : ℕ) (x : A) → slice_get xs k ≡ Some x → slice_get (xs ++ ys) k ≡ Some x
front_at [] ys k x at = cc
front_at (y ∷ xs) ys zero x at = at
front_at (y ∷ xs) ys (suc k) x at = front_at xs ys k x at

pub from_map : {A B : Type 0} (f : A → B) (xs : List A) (k : ℕ) (y : B) → slice_get (map f xs) k ≡ Some y → (x : A) × (slice_get xs k ≡ Some x) × (f x ≡ y)
from_map f [] k y is = absurd (none-some y is)
from_map f (x ∷ xs) zero y is = (x, refl, same_Some (f x) y is)
from_map f (x ∷ xs) (suc k) y is = from_map f xs k y is

pub got_one : {A : Type 0} (P : A → Type 0) (all : List A) (k : ℕ) (a : A) → AllByRecursion P all → slice_get all k ≡ Some a → P a
got_one P [] k a each is = absurd (none-some a is)
got_one P (b ∷ all) zero a each is = subst P (same_Some b a is) each.0
got_one P (b ∷ all) (suc k) a each is = got_one P all k a each.1 is

pub snoc_new : {A : Type 0} (xs : List A) (y : A) → slice_get (xs ++ y ∷ []) (length xs) ≡ Some y
snoc_new [] y = refl
snoc_new (x ∷ xs) y = snoc_new xs y

pub length_mapped : {A B : Type 0} (f : A → B) (xs : List A) → length (map f xs) ≡ length xs
length_mapped f [] = refl
length_mapped f (x ∷ xs) = ap suc (length_mapped f xs)

pub sum_more : (n : ℕ) (ns : List ℕ) → sum (n ∷ ns) ≡ n + sum ns
sum_more n ns = sum_by-cons (λ x. x) n ns

pub all_there : {A : Type 0} (P : A → Type 0) (xs : List A) (k : ℕ) (x : A) → AllByRecursion P xs → slice_get xs k ≡ Some x → P x
all_there P [] k x all is = absurd (omega (arith, slice_get_within [] k x is))
all_there P (y ∷ xs) zero x all is = rw (sym (same_Some y x is)) all.0
all_there P (y ∷ xs) (suc k) x all is = all_there P xs k x all.1 is

pub map_at : {A B : Type 0} (f : A → B) (xs : List A) (k : ℕ) (x : A) → slice_get xs k ≡ Some x → slice_get (map f xs) k ≡ Some (f x)
map_at f [] k x at = cc
map_at f (y ∷ xs) zero x at = (let same : y ≡ x = cc in ap (λ z. Some (f z)) same)
map_at f (y ∷ xs) (suc k) x at = map_at f xs k x at

pub snoc_old : {A : Type 0} (xs ys : List A) (k : ℕ) (a : A) → slice_get xs k ≡ Some a → slice_get (xs ++ ys) k ≡ Some a
snoc_old [] ys k a e = absurd (none-some a e)
snoc_old (x ∷ xs) ys zero a e = e
snoc_old (x ∷ xs) ys (suc k) a e = snoc_old xs ys k a e

pub behind_at : {A : Type 0} (xs ys : List A) (k : ℕ) → slice_get (xs ++ ys) (length xs + k) ≡ slice_get ys k
behind_at [] ys k = ap (slice_get ys) (omega arith)
behind_at (x ∷ xs) ys k = let e : length (x ∷ xs) + k ≡ suc (length xs + k) = omega arith in ap (slice_get (x ∷ (xs ++ ys))) e ∙ behind_at xs ys k

pub any_at : {A : Type 0} (test : A → Bool) (xs : List A) (j : ℕ) (x : A) → slice_get xs j ≡ Some x → test x ≡ true → list_any test xs ≡ true
any_at test [] j x e t = absurd (none-some x e)
any_at test (y ∷ xs) zero x e t = let here : test y ≡ true = ap test (same_Some y x e) ∙ t in rw here refl
any_at test (y ∷ xs) (suc j) x e t = let later = any_at test xs j x e t in rw later (or_true (test y))
  where
    or_true : (b : Bool) → (b || true) ≡ true
    or_true true = refl
    or_true false = refl

pub append_none : (xs : List ℕ) → xs ++ [] ≡ xs
append_none [] = refl
append_none (x ∷ xs) = ap (λ ys. x ∷ ys) (append_none xs)

pub get_set : {A : Type 0} (xs : List A) (n m : ℕ) (y z : A) → slice_get (slice_set xs n y) m ≡ Some z → ((m ≡ n) × (z ≡ y)) ⊎ ((m ≢ n) × (slice_get xs m ≡ Some z))
get_set [] n m y z h = cc
get_set (x ∷ xs) zero zero y z h = let same : y ≡ z = cc in inl (refl, sym same)
get_set (x ∷ xs) zero (suc m) y z h = inr ((λ e. cc), h)
get_set (x ∷ xs) (suc n) zero y z h = inr ((λ e. cc), h)
get_set (x ∷ xs) (suc n) (suc m) y z h = elim (get_set xs n m y z h) [
  | inl both ↦ inl (ap (λ k. suc k) both.0, both.1)
  | inr both ↦ inr ((λ e. both.0 (omega (arith, e))), both.1)
]

pub set_here : {A : Type 0} (xs : List A) (n : ℕ) (x y : A) → slice_get xs n ≡ Some x → slice_get (slice_set xs n y) n ≡ Some y
set_here [] n x y h = cc
set_here (z ∷ xs) zero x y h = refl
set_here (z ∷ xs) (suc n) x y h = set_here xs n x y h

pub set_elsewhere : {A : Type 0} (xs : List A) (n m : ℕ) (y : A) → m ≢ n → slice_get (slice_set xs n y) m ≡ slice_get xs m
set_elsewhere [] n m y ne = refl
set_elsewhere (z ∷ xs) zero zero y ne = absurd (ne refl)
set_elsewhere (z ∷ xs) zero (suc m) y ne = refl
set_elsewhere (z ∷ xs) (suc n) zero y ne = refl
set_elsewhere (z ∷ xs) (suc n) (suc m) y ne = set_elsewhere xs n m y (λ e. ne (ap (λ k. suc k) e))

pub number_there : {A : Type 0} (xs : List A) (k : ℕ) (P : A → Type 0) → IsSomeAnd (slice_get xs k) P → k < length xs
number_there [] k P h = absurd h
number_there (x ∷ xs) zero P h = omega arith
number_there (x ∷ xs) (suc k) P h = let rest = number_there xs k P h in omega (arith, rest)

pub each_from : {A : Type 0} (P : A → Type 0) (xs : List A) → ((i : ℕ) (x : A) → slice_get xs i ≡ Some x → P x) → AllByRecursion P xs
each_from P [] at = tt
each_from P (x ∷ xs) at = (at 0 x refl, each_from P xs (λ i y e. at (suc i) y e))

pub drop_item : {A : Type 0} (xs : List A) (i : ℕ) (x : A) → i < length xs → x ≡ get_or xs i x → drop i xs ≡ x ∷ drop (i + 1) xs
drop_item xs i x h e = rw (add-one) (drop-cons xs i x h ∙ ap (λ y. y ∷ drop (suc i) xs) (sym e))

pub none_behind : {A : Type 0} (xs : List A) (x : A) → xs ++ x ∷ [] ≡ [] → ⊥
none_behind [] x h = cc
none_behind (y ∷ xs) x h = cc

pub one_behind : {A : Type 0} (xs : List A) (x : A) (ys : List A) → xs ++ x ∷ ys ≡ (xs ++ x ∷ []) ++ ys
one_behind [] x ys = refl
one_behind (y ∷ xs) x ys = ap (λ l. y ∷ l) (one_behind xs x ys)

pub all_one_more : {A : Type 0} (P : A → Type 0) (xs : List A) (x : A) → AllByRecursion P xs → P x → AllByRecursion P (xs ++ x ∷ [])
all_one_more P [] x all one = (one, tt)
all_one_more P (y ∷ ys) x all one = (all.0, all_one_more P ys x all.1 one)

pub map_twice : {A B C : Type 0} (f : B → C) (g : A → B) (all : List A) → map f (map g all) ≡ map (λ a. f (g a)) all
map_twice f g [] = refl
map_twice f g (a ∷ all) = ap (λ l. f (g a) ∷ l) (map_twice f g all)

pub none_left : {A : Type 0} (n : ℕ) (xs : List A) → length xs ≤ n → drop n xs ≡ []
none_left zero [] le = refl
none_left (suc n) [] le = refl
none_left zero (x ∷ xs) le = absurd (omega (arith, le))
none_left (suc n) (x ∷ xs) le = none_left n xs (omega (arith, le))

pub there_is : {A : Type 0} (xs : List A) (n : ℕ) → n < length xs → (x : A) × (slice_get xs n ≡ Some x)
there_is [] n lt = absurd (omega (arith, lt))
there_is (x ∷ xs) zero lt = (x, refl)
there_is (x ∷ xs) (suc n) lt = there_is xs n (omega (arith, lt))

pub last_is : {A : Type 0} (xs : List A) (x : A) → slice_get (xs ++ x ∷ []) (length xs) ≡ Some x
last_is [] x = refl
last_is (y ∷ xs) x = last_is xs x

pub there : {A B : Type 0} (view : A → B) (read xs : List A) (i : ℕ) (x : A) → read ≡ xs → i < length read → x ≡ get_or read i x → slice_get (map view xs) i ≡ Some (view x)
there view read xs i x same inside is =
    let at = slice_get_read read (length read) i x refl inside is in
    slice_get-map view xs i ∙ ap (λ l. option_map view (slice_get l i)) (sym same) ∙ ap (option_map view) at

pub get_same : {A : Type 0} (xs : List A) (k : ℕ) (d e : A) → k < length xs → get_or xs k d ≡ get_or xs k e
get_same xs k d e lt = same_Some (get_or xs k d) (get_or xs k e) (sym (slice_get-get_or xs k d lt) ∙ slice_get-get_or xs k e lt)

pub all_behind_these : {A : Type 0} (P : A → Type 0) (before rest : List A) → AllByRecursion P (before ++ rest) → AllByRecursion P rest
all_behind_these P [] rest all = all
all_behind_these P (x ∷ before) rest all = all_behind_these P before rest all.1

pub all_within : {A : Type 0} (P : A → Type 0) (xs : List A) (x : A) (ys : List A) → AllByRecursion P (xs ++ x ∷ ys) → P x
all_within P [] x ys all = all.0
all_within P (y ∷ xs) x ys all = all_within P xs x ys all.1

pub snoc_below : {A : Type 0} (xs : List A) (y d : A) (k : ℕ) → k < length xs → get_or (xs ++ y ∷ []) k d ≡ get_or xs k d
snoc_below [] y d k lt = absurd (omega (arith, lt))
snoc_below (x ∷ xs) y d zero lt = refl
snoc_below (x ∷ xs) y d (suc k) lt = snoc_below xs y d k (omega (arith, lt))

pub snoc_there : {A : Type 0} (xs : List A) (y d : A) → get_or (xs ++ y ∷ []) (length xs) d ≡ y
snoc_there [] y d = refl
snoc_there (x ∷ xs) y d = snoc_there xs y d

pub whole_is : {A : Type 0} (left : List A) (x d : A) → 1 ≤ length left → x ≡ get_or left 0 d → left ≡ x ∷ take (length left - 1) (drop 1 left)
whole_is [] x d le e = absurd (omega arith)
whole_is (y ∷ left) x d le e =
    let count : length (y ∷ left) - 1 ≡ length left = omega arith in
    let rest : take (length (y ∷ left) - 1) left ≡ left = ap (λ n. take n left) count ∙ take-length left in
    (λ i. sym e i ∷ sym rest i)

pub all_so : {A : Type 0} (P Q : A → Type 0) → ((x : A) → P x → Q x) → (xs : List A) → AllByRecursion P xs → AllByRecursion Q xs
all_so P Q f [] all = tt
all_so P Q f (x ∷ xs) all = (f x all.0, all_so P Q f xs all.1)

pub member_at : {A : Type 0} (xs : List A) (x : A) → Contains xs x → (k : ℕ) × (slice_get xs k ≡ Some x)
member_at xs x there = (there.0, slice_get-get_or xs there.0 x there.1 ∙ ap Some there.2)

pub take_none : {A : Type 0} (xs : List A) → take 0 xs ≡ []
take_none [] = refl
take_none (x ∷ xs) = refl

pub flag_is : (far : List Bool) (i : ℕ) → get_or (drop i far) 0 false ≡ get_or far i false
flag_is far i = get_or-drop i far 0 false ∙ (let e : i + 0 ≡ i = omega arith in ap (λ k. get_or far k false) e)

pub mapped_there : {A B : Type 0} (f : A → B) (xs : List A) (n : ℕ) (x : A) → slice_get xs n ≡ Some x → slice_get (map f xs) n ≡ Some (f x)
mapped_there f [] n x e = cc
mapped_there f (z ∷ xs) zero x e = let same : z ≡ x = cc in ap (λ q. Some (f q)) same
mapped_there f (z ∷ xs) (suc n) x e = mapped_there f xs n x e

pub front_only : (n : ℕ) (xs : List ℕ) (k : ℕ) → k < n → slice_index (take n xs) k ≡ slice_index xs k
front_only zero xs k lt = absurd (omega (arith, lt))
front_only (suc n) [] k lt = refl
front_only (suc n) (x ∷ xs) zero lt = refl
front_only (suc n) (x ∷ xs) (suc k) lt = front_only n xs k (omega (arith, lt))

pub got_there : {A : Type 0} (xs : List A) (i : ℕ) → i < length xs → (a : A) × (slice_get xs i ≡ Some a)
got_there [] i lt = absurd (omega (arith, lt))
got_there (x ∷ xs) zero lt = (x, refl)
got_there (x ∷ xs) (suc i) lt = got_there xs i (omega (arith, lt))

pub one_behind_again : {A : Type 0} (x : A) (xs : List A) (a : A) → Contains xs a → Contains (x ∷ xs) a
one_behind_again x xs a (k, within, is) = (suc k, omega (arith, within), is)

pub there_again : {A : Type 0} (all : List A) (i : ℕ) → i < length all → (x : A) × (slice_get all i ≡ Some x)
there_again [] i lt = absurd (omega arith)
there_again (x ∷ all) zero lt = (x, refl)
there_again (x ∷ all) (suc i) lt = there_again all i (omega arith)

pub some_length : (n : List ℕ) → n ≢ [] → 1 ≤ length n
some_length [] some = absurd (some refl)
some_length (b ∷ n) some = omega arith

pub set_other : {A : Type 0} (xs : List A) (n k : ℕ) (x y : A) → slice_get (slice_set xs n x) k ≡ Some y → ((k ≡ n) × (x ≡ y)) ⊎ (slice_get xs k ≡ Some y)
set_other [] n k x y is = inr is
set_other (z ∷ xs) zero zero x y is = inl (refl, same_Some x y is)
set_other (z ∷ xs) zero (suc k) x y is = inr is
set_other (z ∷ xs) (suc n) zero x y is = inr is
set_other (z ∷ xs) (suc n) (suc k) x y is = ⊎_elim (λ both. inl (ap (λ i. suc i) both.0, both.1)) (λ old. inr old) (set_other xs n k x y is)

pub append_same : (a b c : List ℕ) → (a ++ b) ++ c ≡ a ++ (b ++ c)
append_same [] b c = refl
append_same (x ∷ a) b c = ap (λ l. x ∷ l) (append_same a b c)

pub map_map : {A B C : Type 0} (g : B → C) (f : A → B) (xs : List A) → map g (map f xs) ≡ map (λ x. g (f x)) xs
map_map g f [] = refl
map_map g f (x ∷ xs) = ap (λ l. g (f x) ∷ l) (map_map g f xs)

pub all_map : {A B : Type 0} (f : A → B) (P : B → Type 0) (all : List A) → AllByRecursion (λ a. P (f a)) all → AllByRecursion P (map f all)
all_map f P [] each = tt
all_map f P (a ∷ all) each = (each.0, all_map f P all each.1)

pub all_weaker : {A : Type 0} (P Q : A → Type 0) (all : List A) → ((a : A) → P a → Q a) → AllByRecursion P all → AllByRecursion Q all
all_weaker P Q [] go each = tt
all_weaker P Q (a ∷ all) go each = (go a each.0, all_weaker P Q all go each.1)

pub parts_all : {A : Type 0} (P : A → Type 0) (xs ys : List A) → AllByRecursion P (xs ++ ys) → AllByRecursion P xs × AllByRecursion P ys
parts_all P [] ys all = (tt, all)
parts_all P (x ∷ xs) ys all = let rest = parts_all P xs ys all.1 in ((all.0, rest.0), rest.1)

pub all_behind : (P : ℕ → Type 0) (xs ys : List ℕ) → AllByRecursion P (xs ++ ys) → AllByRecursion P ys
all_behind P [] ys h = h
all_behind P (x ∷ xs) ys h = all_behind P xs ys h.1

pub all_before : (P : ℕ → Type 0) (xs ys : List ℕ) → AllByRecursion P (xs ++ ys) → AllByRecursion P xs
all_before P [] ys h = tt
all_before P (x ∷ xs) ys h = (h.0, all_before P xs ys h.1)

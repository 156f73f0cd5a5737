-- What is among the values of a list, and paths through a graph.
use Rattle.graph_core.specs.Graphs.{Address, Block, Call, CopyWords, End, Graph, Instruction, Jump, Load, Marker, Move, Note, Operate, Same, Store, Truncate, Zero}
use Rattle.graph_core.specs.Paths.{Among, History, Path, behind, front, goes, passes, path}
use Rattle.graph_core.specs.Uses.{is_computation, marker_of, targets_of}
use Rattle.graph_core.specs.Validity.{markers_in, place_behind}
use Rattle.graph_core.specs.declared.value.Value.{Value}
use Rattle.std.proofs.Common.{List, Option, Some, [], arith, false, inl, inr, length, refl, slice_get, subst, suc, sym, true, true≢false, zero, ℕ, ◌++◌, ◌+◌, ◌==◌, ◌∷◌, ◌≡◌, ◌⊎◌}
use Rattle.std.proofs.lemmas.Bool.{eq-eqb, eqb-true, or_cases, or_left, or_right}
use Rattle.std.proofs.lemmas.Option.{none-some, same_Some}
use Rattle.std.specs.List.{AllByRecursion, Contains, list_any}
use Rattle.std.specs.Option.{option_or}
use Rattle.std.specs.Prelude.{slice_get, ◌⊎◌}

pub among_left : {A : Type 0} (x : A) (xs ys : List A) → Among x xs → Among x (xs ++ ys)
among_left x [] ys among = elim among [ ]
among_left x (y ∷ xs) ys front = front
among_left x (y ∷ xs) ys (behind later) = behind (among_left x xs ys later)

pub among_right : {A : Type 0} (x : A) (xs ys : List A) → Among x ys → Among x (xs ++ ys)
among_right x [] ys among = among
among_right x (y ∷ xs) ys among = behind (among_right x xs ys among)

pub behind_last : (all : List Instruction) (i : Instruction) (p : Option ℕ) → place_behind (all ++ i ∷ []) p ≡ place_behind (i ∷ []) (place_behind all p)
behind_last [] i p = refl
behind_last (Marker q ∷ more) i p = behind_last more i (Some q)
behind_last (_ ∷ more) i p = behind_last more i p

pub among_cases : {A : Type 0} (x : A) (xs ys : List A) → Among x (xs ++ ys) → Among x xs ⊎ Among x ys
among_cases x [] ys among = inr among
among_cases x (y ∷ xs) ys front = inl front
among_cases x (y ∷ xs) ys (behind later) = elim (among_cases x xs ys later) [ inl l ↦ inl (behind l) | inr r ↦ inr r ]

pub behind_one : (i : Instruction) (p : Option ℕ) → place_behind (i ∷ []) p ≡ option_or (marker_of i) p
behind_one (Marker q) p = refl
behind_one _ p = refl

pub one_of_all : {A : Type 0} (P : A → Type 0) (xs : List A) (x : A) → AllByRecursion P xs → Among x xs → P x
one_of_all P [] x all among = elim among [ ]
one_of_all P (y ∷ xs) x all front = all.0
one_of_all P (y ∷ xs) x all (behind later) = one_of_all P xs x all.1 later

pub among_behind : {A : Type 0} (xs ys : List A) (a : A) → Among a ys → Among a (xs ++ ys)
among_behind [] ys a h = h
among_behind (x ∷ xs) ys a h = behind (among_behind xs ys a h)

pub among_front : {A : Type 0} (xs ys : List A) (a : A) → Among a xs → Among a (xs ++ ys)
among_front [] ys a h = elim h [ ]
among_front (x ∷ xs) ys a front = front
among_front (x ∷ xs) ys a (behind h) = behind (among_front xs ys a h)

pub among_any : (x : ℕ) (all : List ℕ) → Among x all → list_any (λ y. y == x) all ≡ true
among_any x _ (front {all}) = or_left (x == x) (list_any (λ y. y == x) all) (eq-eqb x x refl)
among_any x _ (behind {b} {all} more) = or_right (b == x) (list_any (λ y. y == x) all) (among_any x all more)

pub path_goes : (g : Graph) (h : History) (n : ℕ) (e : End) (l : ℕ) (b : Block) → Among l (targets_of e) → slice_get g.blocks l ≡ Some b → Path g h n [] e → Path g h l b.instructions b.end
path_goes g h n e l b to at (path first begins way) = path first begins (goes way to b at)

pub among_one : {A : Type 0} {a b : A} → Among a (b ∷ []) → a ≡ b
among_one front = refl
among_one (behind e) = elim e [ ]

pub at_among : {A : Type 0} (xs : List A) (k : ℕ) (a : A) → slice_get xs k ≡ Some a → Among a xs
at_among [] k a e = absurd (none-some a e)
at_among (x ∷ xs) zero a e = subst (λ b. Among b (x ∷ xs)) (same_Some x a e) front
at_among (x ∷ xs) (suc k) a e = behind (at_among xs k a e)

pub get_among : {A : Type 0} (all : List A) (k : ℕ) (x : A) → slice_get all k ≡ Some x → Among x all
get_among [] k x is = absurd (none-some x is)
get_among (y ∷ all) zero x is = subst (λ z. Among z (y ∷ all)) (same_Some y x is) front
get_among (y ∷ all) (suc k) x is = behind (get_among all k x is)

pub among_either : {A : Type 0} (xs ys : List A) (x : A) → Among x (xs ++ ys) → Among x xs ⊎ Among x ys
among_either [] ys x among = inr among
among_either (y ∷ xs) ys x front = inl front
among_either (y ∷ xs) ys x (behind among) = elim (among_either xs ys x among) [ inl a ↦ inl (behind a) | inr a ↦ inr a ]

pub among_at : {A : Type 0} (all : List A) (x : A) → Among x all → (k : ℕ) × (slice_get all k ≡ Some x)
among_at [] x there = elim there [ ]
among_at (_ ∷ all) x front = (0, refl)
among_at (y ∷ all) x (behind there) = let r = among_at all x there in (suc r.0, r.1)

pub any_among : (x : ℕ) (all : List ℕ) → list_any (λ y. y == x) all ≡ true → Among x all
any_among x [] e = absurd (true≢false (sym e))
any_among x (y ∷ all) e = elim (or_cases (y == x) (list_any (λ y. y == x) all) e) [ inl here ↦ subst (λ z. Among x (z ∷ all)) (sym (eqb-true y x here)) front | inr rest ↦ behind (any_among x all rest) ]

pub among_none : {A : Type 0} {a : A} → Among a [] → ⊥
among_none here = elim here [ ]

pub among_longer : {A : Type 0} {a : A} {xs : List A} → Among a xs → (ys : List A) → Among a (xs ++ ys)
among_longer front ys = front
among_longer (behind here) ys = behind (among_longer here ys)

pub path_passes : (g : Graph) (h : History) (n : ℕ) (i : Instruction) (rest : List Instruction) (e : End) (v : Value) → Path g h n (i ∷ rest) e → Path g (record { block = n; left = length rest; instruction = i; wrote = v } ∷ h) n rest e
path_passes g h n i rest e v (path b at way) = path b at (passes way v)

pub no_target : {x : ℕ} → Among x [] → ⊥
no_target a = elim a [ ]

pub leads_jump : (e : End) (l : ℕ) → e ≡ Jump l → Among l (targets_of e)
leads_jump e l is = subst (λ f. Among l (targets_of f)) (sym is) front

pub among_parts : {A : Type 0} {a : A} (xs ys : List A) → Among a (xs ++ ys) → Among a xs ⊎ Among a ys
among_parts [] ys there = inr there
among_parts (x ∷ xs) ys front = inl front
among_parts (x ∷ xs) ys (behind there) = elim (among_parts xs ys there) [ inl f ↦ inl (behind f) | inr f ↦ inr f ]

pub computed_behind : (i : Instruction) → is_computation i ≡ true → (more : List Instruction) (before : Option ℕ) → place_behind (i ∷ more) before ≡ place_behind more before
computed_behind (Marker p) computed more before = cc
computed_behind _ computed more before = refl

pub each_of_one : (P : ℕ → Type 0) (l : ℕ) → P l → (k : ℕ) → Among k (l ∷ []) → P k
each_of_one P l h k front = h
each_of_one P l h k (behind a) = elim a [ ]

pub contains_among : {A : Type 0} (xs : List A) (a : A) → Contains xs a → Among a xs
contains_among [] a (k, within, is) = absurd (omega (arith, within))
contains_among (x ∷ xs) a (zero, within, is) = subst (λ z. Among z (x ∷ xs)) is front
contains_among (x ∷ xs) a (suc k, within, is) = behind (contains_among xs a (k, omega (arith, within), is))

pub marker_in : (all : List Instruction) (p : ℕ) → Among (Marker p) all → Among p (markers_in all)
marker_in [] p among = elim among [ ]
marker_in (Marker q ∷ rest) p front = front
marker_in (Marker q ∷ rest) p (behind among) = behind (marker_in rest p among)
marker_in (Note y v ∷ rest) p (behind among) = marker_in rest p among
marker_in (Move y a ∷ rest) p (behind among) = marker_in rest p among
marker_in (Operate y o a b ∷ rest) p (behind among) = marker_in rest p among
marker_in (Truncate y t a ∷ rest) p (behind among) = marker_in rest p among
marker_in (Same y a b ∷ rest) p (behind among) = marker_in rest p among
marker_in (Address y o ∷ rest) p (behind among) = marker_in rest p among
marker_in (Load y e l ∷ rest) p (behind among) = marker_in rest p among
marker_in (Store e l a ∷ rest) p (behind among) = marker_in rest p among
marker_in (Zero o k ∷ rest) p (behind among) = marker_in rest p among
marker_in (CopyWords o b k ∷ rest) p (behind among) = marker_in rest p among
marker_in (Call y f all ∷ rest) p (behind among) = marker_in rest p among

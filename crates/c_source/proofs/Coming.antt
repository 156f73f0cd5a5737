-- The check of a function's block comes on, step by step.
use Rattle.std.proofs.Common.{◌≡◌, ◌≤◌, ℕ, zero, suc, ◌+◌, ◌-◌, List, [], ◌∷◌, ◌++◌, length, take, slice_get, cond, Bool, true, false, Option, Some, None, refl, ap, ◌∙◌, subst, arith, length-append}
use Rattle.std.specs.Prelude.{unwrap_or}
use Rattle.std.specs.Str.{bytes_eq}
use Rattle.debug_records.specs.declared.code.Code.{Code}
use Rattle.c_tree.specs.declared.extent.Extent.{Extent}
use Rattle.c_tree.specs.declared.object_type.Object.{Object}
use Rattle.c_tree.specs.declared.object_type.ObjectType.{ObjectType}
use Rattle.c_tree.specs.Programs.{TypedFunctionTree, ProgramTree}
use Rattle.c_type_expressions.specs.declared.names.Meaning.{Meaning}
use Rattle.c_type_expressions.specs.declared.names.Meaning.TheVariants.{Variable}
use Rattle.c_type_expressions.specs.Names.{Scope, Names, meaning_or_else, found_in}
use Rattle.c_type_expressions.specs.Findings.{FoundTree}
use Rattle.c_type_declarations.specs.Scopes.{empty_scope, with_meaning, innermost, declared}
use Rattle.c_type_declarations.specs.Progress.{ProgressTree, Met, means, next_met, breaks, breaks_if, opened, scope_left}
use Rattle.c_source.specs.Findings.{Begins, Grows}
use Rattle.c_source.specs.Known.{IsKnown, Knows}
use Rattle.c_source.specs.Progress.{KeepsOuter, Advances, Stands, IsScopeKnown, AreScopesKnown, Inside, Comes, Ensures}
use Rattle.c_source.proofs.Growing.{begins_itself, begins_on, grows_itself, grows_on, grows_fault, accepts_before}

-- an element of a beginning
pub slice_more : {A : Type 0} (xs more : List A) (x : ℕ) (a : A) → slice_get xs x ≡ Some a → slice_get (xs ++ more) x ≡ Some a
slice_more [] more x a h = cc
slice_more (y ∷ xs) more zero a h = h
slice_more (y ∷ xs) more (suc x) a h = slice_more xs more x a h

pub outer_itself : (xs : List Scope) → KeepsOuter xs xs
outer_itself xs = λ outer inner e. (inner, e)

pub advances_itself : (q : ProgressTree) → Advances q q
advances_itself q = record { found = grows_itself q.found; automatics = begins_itself q.automatics; array_literals = begins_itself q.array_literals; statics = refl; signatures = refl; scopes = outer_itself q.names.scopes; kept = λ h. h; ended = λ h. h }

pub advances_on : {q t u : ProgressTree} → Advances q t → Advances t u → Advances q u
advances_on {q = q} {t = t} {u = u} g h =
    record {
      found = grows_on g.found h.found;
      automatics = begins_on q.automatics t.automatics u.automatics g.automatics h.automatics;
      array_literals = begins_on q.array_literals t.array_literals u.array_literals g.array_literals h.array_literals;
      statics = h.statics ∙ g.statics;
      signatures = h.signatures ∙ g.signatures;
      scopes = λ outer inner e. let c = g.scopes outer inner e in h.scopes outer c.0 c.1;
      kept = λ e. h.kept (g.kept e);
      ended = λ e. h.ended (g.ended e);
    }

-- an advance in what is found alone
pub found_advances : (q : ProgressTree) (s : FoundTree) → Grows q.found s → Advances q (record q { found = s })
found_advances q s g = record { found = g; automatics = begins_itself q.automatics; array_literals = begins_itself q.array_literals; statics = refl; signatures = refl; scopes = outer_itself q.names.scopes; kept = λ h. h; ended = λ h. h }

-- variables so far are no more than later
begins_shorter : {A : Type 0} (xs ys : List A) → Begins xs ys → length xs ≤ length ys
begins_shorter xs ys b = let e : length ys ≡ length xs + length b.0 = ap length b.1 ∙ length-append xs b.0 in omega arith

pub stands_before : {p : ProgramTree} {f : TypedFunctionTree} {q t : ProgressTree} → Advances q t → Stands p f t → Stands p f q
stands_before {p = p} {f = f} {q = q} {t = t} a s =
    record {
      accepts = accepts_before a.found s.accepts;
      automatics = λ x v h. s.automatics x v (ap (λ l. slice_get l x) a.automatics.1 ∙ slice_more q.automatics a.automatics.0 x v h);
      array_literals = begins_on q.array_literals t.array_literals p.array_literals a.array_literals s.array_literals;
      within = let le = begins_shorter q.automatics t.automatics a.automatics in let w = s.within in omega arith;
    }

-- a part, and another one behind it
pub next_ensures : {A B : Type 0} (R : A → ProgressTree → Type 0) (S : B → ProgressTree → Type 0) (m : Met A) (g : A → ProgressTree → Met B) → Ensures R m → ((a : A) (t : ProgressTree) → R a t → Ensures S (g a t)) → Ensures S (next_met m g)
unfolding next_met
next_ensures R S (means a t) g h k = k a t h

pub ensures_more : {A : Type 0} (R S : A → ProgressTree → Type 0) (m : Met A) → Ensures R m → ((a : A) (t : ProgressTree) → R a t → S a t) → Ensures S m
ensures_more R S (means a t) h k = k a t h

module _ (p : ProgramTree) (f : TypedFunctionTree) where
  -- names in scopes that are known
  either_known : (m n : Option Meaning) (o : Object) (of : ObjectType) → meaning_or_else m n ≡ Some (Variable o of) → (m ≡ Some (Variable o of) → IsKnown p f o of) → (n ≡ Some (Variable o of) → IsKnown p f o of) → IsKnown p f o of
  either_known (Some m) n o of h k j = k h
  either_known None n o of h k j = j h

  pub found_known : (scopes : List Scope) → AreScopesKnown p f scopes → (name : List ℕ) (o : Object) (of : ObjectType) → found_in scopes name ≡ Some (Variable o of) → IsKnown p f o of
  found_known [] k name o of h = cc
  found_known (scope ∷ inner) k name o of h = either_known (found_in inner name) (scope name) o of h (λ e. found_known inner k.1 name o of e) (λ e. k.0 name o of e)

  pub inside_knows : (low : ℕ) (q : ProgressTree) → Inside p f low q → Knows p f q.names
  inside_knows low q i = record { variables = λ name o of h. found_known q.names.scopes i.scopes name o of h; functions = i.functions }

  pub known_push : (scopes : List Scope) (scope : Scope) → AreScopesKnown p f scopes → IsScopeKnown p f scope → AreScopesKnown p f (scopes ++ scope ∷ [])
  known_push [] scope k h = (h, tt)
  known_push (s ∷ scopes) scope k h = (k.0, known_push scopes scope k.1 h)

  pub known_take : (n : ℕ) (scopes : List Scope) → AreScopesKnown p f scopes → AreScopesKnown p f (take n scopes)
  known_take zero scopes k = tt
  known_take (suc n) [] k = tt
  known_take (suc n) (s ∷ scopes) k = (k.0, known_take n scopes k.1)

  pub empty_known : IsScopeKnown p f empty_scope
  empty_known name o of h = cc

  pub known_at : (scopes : List Scope) (n : ℕ) → AreScopesKnown p f scopes → IsScopeKnown p f (unwrap_or (slice_get scopes n) empty_scope)
  known_at [] n k = empty_known
  known_at (s ∷ scopes) zero k = k.0
  known_at (s ∷ scopes) (suc n) k = known_at scopes n k.1

  -- a declared name
  with_meaning_known : (name : List ℕ) (o : Object) (of : ObjectType) (scope : Scope) → IsKnown p f o of → IsScopeKnown p f scope → IsScopeKnown p f (with_meaning name (Variable o of) scope)
  with_meaning_known name o of scope one others other r to h = by (bytes_eq name other) h
    where
      by : (b : Bool) → cond b (Some (Variable o of)) (scope other) ≡ Some (Variable r to) → IsKnown p f r to
      by true e = let same : o ≡ r = cc in let types : of ≡ to = cc in subst (λ z. IsKnown p f r z) types (subst (λ z. IsKnown p f z of) same one)
      by false e = others other r to e

  pub declared_known : (name : List ℕ) (o : Object) (of : ObjectType) (names : Names) → IsKnown p f o of → AreScopesKnown p f names.scopes → AreScopesKnown p f (declared name (Variable o of) names).scopes
  declared_known name o of names one k =
      known_push (take (length names.scopes - 1) names.scopes) _ (known_take (length names.scopes - 1) names.scopes k) (with_meaning_known name o of (innermost names.scopes) one (known_at names.scopes (length names.scopes - 1) k))

  -- steps, one behind the other
  pub comes_itself : (low : ℕ) (q : ProgressTree) → Comes p f low q q
  comes_itself low q = record { advances = advances_itself q; inside = λ i s. i }

  pub comes_on : {low : ℕ} {q t u : ProgressTree} → Comes p f low q t → Comes p f low t u → Comes p f low q u
  comes_on g h = record { advances = advances_on g.advances h.advances; inside = λ i s. h.inside (g.inside i (stands_before h.advances s)) s }

  -- where names and variables stay as they are
  pub found_comes : (low : ℕ) (q : ProgressTree) (s : FoundTree) → Grows q.found s → Comes p f low q (record q { found = s })
  found_comes low q s g = record { advances = found_advances q s g; inside = λ i h. record { scopes = i.scopes; functions = i.functions; begun = i.begun } }

  pub breaks_comes : (low : ℕ) (code : Code) (extent : Extent) (q : ProgressTree) → Comes p f low q (breaks code extent q)
  breaks_comes low code extent q = found_comes low q _ (grows_fault code extent.first extent.last q.found)

  pub breaks_if_comes : {A : Type 0} (low : ℕ) (o : Option A) (code : Code) (extent : Extent) (q : ProgressTree) → Comes p f low q (breaks_if o code extent q)
  breaks_if_comes low (Some a) code extent q = breaks_comes low code extent q
  breaks_if_comes low None code extent q = comes_itself low q

-- the scopes around the innermost one
pub take_all_but_one : {A : Type 0} (xs : List A) (x : A) → take (length (xs ++ x ∷ []) - 1) (xs ++ x ∷ []) ≡ xs
take_all_but_one xs x = ap (λ n. take n (xs ++ x ∷ [])) (let e = length-append xs (x ∷ []) in omega arith) ∙ go xs
  where
    go : (ys : List _) → take (length ys) (ys ++ x ∷ []) ≡ ys
    go [] = refl
    go (y ∷ ys) = ap (λ q. y ∷ q) (go ys)

pub declared_outer : (name : List ℕ) (m : Meaning) (names : Names) → KeepsOuter names.scopes (declared name m names).scopes
declared_outer name m names = λ outer inner e. (_, ap (λ q. q ++ with_meaning name m (innermost names.scopes) ∷ []) (ap (λ q. take (length q - 1) q) e ∙ take_all_but_one outer inner))

-- behind the end of a scope that was opened, the scopes are those of before
pub closed_scopes : (q t : ProgressTree) → Advances (opened q) t → (scope_left t).names.scopes ≡ q.names.scopes
closed_scopes q t a = let c = a.scopes q.names.scopes empty_scope refl in ap (λ l. take (length l - 1) l) c.1 ∙ take_all_but_one q.names.scopes c.0

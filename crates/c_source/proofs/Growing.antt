-- Checks of expressions, one behind the other: what is found grows, and each part is good where the whole is accepted.
use Rattle.std.proofs.Common.{◌≡◌, ℕ, List, [], ◌∷◌, ◌++◌, length, take, ◌+◌, nat_le, nat_lt, Bool, true, false, Option, Some, None, refl, sym, ap, ◌∙◌, append_assoc, append-nil, length-append, arith}
use Rattle.std.specs.Prelude.{if◌then◌else◌}
use Rattle.std.proofs.lemmas.Bool.Decides.{nat_tests}
use Rattle.debug_records.specs.declared.source.Spot.{Spot}
use Rattle.debug_records.specs.declared.code.Code.{Code}
use Rattle.c_tree.specs.Programs.{LiteralTree, ProgramTree}
use Rattle.c_type_laws.specs.Objects.{are_ended}
use Rattle.c_type_laws.specs.Statics.{are_bytes, literals_sound}
use Rattle.c_type_expressions.specs.Findings.{FoundTree, Checked, gives, check_next, with_one, with_two, with_three, judged, faulted, with_undefined, with_literal, restored}
use Rattle.c_type_expressions.specs.Judgements.{writing}
use Rattle.c_source.proofs.Same.{two_true, both}
use Rattle.c_source.specs.Findings.{Begins, Grows, Accepts, HoldsOf, Good, IsGood}
pub use Rattle.base_laws.proofs.Lists.{none_behind as more_is_some}

pub begins_itself : {A : Type 0} (xs : List A) → Begins xs xs
begins_itself xs = ([], sym (append-nil xs))

pub begins_on : {A : Type 0} (xs ys zs : List A) → Begins xs ys → Begins ys zs → Begins xs zs
begins_on xs ys zs a b = (a.0 ++ b.0, b.1 ∙ ap (λ q. q ++ b.0) a.1 ∙ append_assoc xs a.0 b.0)

-- what begins an empty list is empty
pub begins_nothing : {A : Type 0} (xs more : List A) → [] ≡ xs ++ more → xs ≡ []
begins_nothing [] more h = refl
begins_nothing (x ∷ xs) more h = cc

-- literals with one more that has its final zero
pub ended_push : (xs : List LiteralTree) (l : LiteralTree) → are_ended xs ≡ true → nat_le 1 (length l.bytes) ≡ true → are_ended (xs ++ l ∷ []) ≡ true
ended_push [] l h g = rw g refl
ended_push (x ∷ xs) l h g = let c = two_true (nat_le 1 (length x.bytes)) (are_ended xs) h in both (nat_le 1 (length x.bytes)) (are_ended (xs ++ l ∷ [])) c.0 (ended_push xs l c.1 g)

pub ended_bytes : (bytes : List ℕ) → nat_le 1 (length (bytes ++ 0 ∷ [])) ≡ true
ended_bytes bytes = let e : length (bytes ++ 0 ∷ []) ≡ length bytes + 1 = length-append bytes (0 ∷ []) in rw e (some (length bytes))
  where
    some : (n : ℕ) → nat_le 1 (n + 1) ≡ true
    some n = grind (arith, nat_tests)

-- bytes behind bytes are bytes
pub bytes_on : (xs ys : List ℕ) → are_bytes xs ≡ true → are_bytes ys ≡ true → are_bytes (xs ++ ys) ≡ true
bytes_on [] ys h g = g
bytes_on (x ∷ xs) ys h g = let c = two_true (nat_lt x 256) (are_bytes xs) h in both (nat_lt x 256) (are_bytes (xs ++ ys)) c.0 (bytes_on xs ys c.1 g)

-- literals of bytes with one more
sound_push : (xs : List LiteralTree) (l : LiteralTree) → literals_sound xs ≡ true → are_bytes l.bytes ≡ true → literals_sound (xs ++ l ∷ []) ≡ true
sound_push [] l h g = both (are_bytes l.bytes) true g refl
sound_push (x ∷ xs) l h g = let c = two_true (are_bytes x.bytes) (literals_sound xs) h in both (are_bytes x.bytes) (literals_sound (xs ++ l ∷ [])) c.0 (sound_push xs l c.1 g)

pub take_beginning : {A : Type 0} (xs more : List A) → take (length xs) (xs ++ more) ≡ xs
take_beginning [] more = refl
take_beginning (x ∷ xs) more = ap (λ q. x ∷ q) (take_beginning xs more)

pub grows_itself : (s : FoundTree) → Grows s s
grows_itself s = record { faults = begins_itself s.faults; undefined = begins_itself s.undefined; literals = begins_itself s.literals; ended = λ h. h; sound = λ h. h }

pub grows_on : {s t u : FoundTree} → Grows s t → Grows t u → Grows s u
grows_on {s = s} {t = t} {u = u} g h =
    record {
      faults = begins_on s.faults t.faults u.faults g.faults h.faults;
      undefined = begins_on s.undefined t.undefined u.undefined g.undefined h.undefined;
      literals = begins_on s.literals t.literals u.literals g.literals h.literals;
      ended = λ e. h.ended (g.ended e);
      sound = λ e. h.sound (g.sound e);
    }

-- without a fault later there is none before
pub no_fault_before : {s t : FoundTree} → Grows s t → t.faults ≡ [] → s.faults ≡ []
no_fault_before {s = s} {t = t} g h = begins_nothing s.faults g.faults.0 (sym h ∙ g.faults.1)

pub accepts_before : {K : Type 0} {p : ProgramTree} {s t : FoundTree} → Grows s t → Accepts K p t → Accepts K p s
accepts_before {K = K} {p = p} {s = s} {t = t} g a =
    record {
      given = a.given;
      faults = no_fault_before g a.faults;
      undefined = begins_nothing s.undefined g.undefined.0 (sym a.undefined ∙ g.undefined.1);
      literals = begins_on s.literals t.literals p.literals g.literals a.literals;
    }

-- one more fault, call or literal
pub grows_fault : (code : Code) (first : Spot) (last : ℕ) (s : FoundTree) → Grows s (faulted code first last s)
grows_fault code first last s = record { faults = (record { last = last; code = code; first = first } ∷ [], refl); undefined = begins_itself s.undefined; literals = begins_itself s.literals; ended = λ h. h; sound = λ h. h }

pub grows_undefined : (first : Spot) (s : FoundTree) → Grows s (with_undefined first s)
grows_undefined first s = record { faults = begins_itself s.faults; undefined = (first ∷ [], refl); literals = begins_itself s.literals; ended = λ h. h; sound = λ h. h }

pub grows_literal : (first : Spot) (bytes : List ℕ) (s : FoundTree) → are_bytes bytes ≡ true → Grows s (with_literal first bytes s)
grows_literal first bytes s b =
    let l : LiteralTree = record { spot = first; bytes = bytes ++ 0 ∷ [] } in
    record {
      faults = begins_itself s.faults;
      undefined = begins_itself s.undefined;
      literals = (l ∷ [], refl);
      ended = λ h. ended_push s.literals l h (ended_bytes bytes);
      sound = λ h. sound_push s.literals l h (bytes_on bytes (0 ∷ []) b refl);
    }

pub grows_writing : (fine : Bool) (first : Spot) (last : ℕ) (s : FoundTree) → Grows s (writing fine first last s)
grows_writing true first last s = grows_itself s
grows_writing false first last s = grows_fault _ first last s

-- what is written can be, where no fault is found
pub writing_fine : (fine : Bool) (first : Spot) (last : ℕ) (s : FoundTree) → (writing fine first last s).faults ≡ [] → fine ≡ true
writing_fine true first last s h = refl
writing_fine false first last s h = absurd (more_is_some s.faults _ h)

pub faulted_if : (fine : Bool) (code : Code) (first : Spot) (last : ℕ) (s : FoundTree) → Grows s (if fine then s else faulted code first last s)
faulted_if true code first last s = grows_itself s
faulted_if false code first last s = grows_fault code first last s

pub fine_if : (fine : Bool) (code : Code) (first : Spot) (last : ℕ) (s : FoundTree) → (if fine then s else faulted code first last s).faults ≡ [] → fine ≡ true
fine_if true code first last s h = refl
fine_if false code first last s h = absurd (more_is_some s.faults _ h)

-- what was found behind a point is left out, but for faults
pub grows_restored : (s t : FoundTree) → Grows s t → Grows s (restored (length s.undefined) (length s.literals) t)
grows_restored s t g =
    record {
      faults = g.faults;
      undefined = ([], ap (take (length s.undefined)) g.undefined.1 ∙ take_beginning s.undefined g.undefined.0 ∙ sym (append-nil s.undefined));
      literals = ([], ap (take (length s.literals)) g.literals.1 ∙ take_beginning s.literals g.literals.0 ∙ sym (append-nil s.literals));
      ended = λ h. ap are_ended (ap (take (length s.literals)) g.literals.1 ∙ take_beginning s.literals g.literals.0) ∙ h;
      sound = λ h. ap literals_sound (ap (take (length s.literals)) g.literals.1 ∙ take_beginning s.literals g.literals.0) ∙ h;
    }

module _ (K : Type 0) (p : ProgramTree) where
  pub given : {A : Type 0} (P : A → Type 0) (s t : FoundTree) (a : A) → Grows s t → (Accepts K p t → P a) → Good K p P s (Some a) t
  given P s t a g holds = record { grows = g; there = λ h. tt; holds = holds }

  -- nothing, where a fault is found
  pub refused : {A : Type 0} (P : A → Type 0) (s : FoundTree) (code : Code) (first : Spot) (last : ℕ) → Good K p P s None (faulted code first last s)
  refused P s code first last = record { grows = grows_fault code first last s; there = λ h. more_is_some s.faults _ h; holds = λ h. tt }

  -- from an earlier point on
  pub earlier : {A : Type 0} (P : A → Type 0) (r s t : FoundTree) (m : Option A) → Grows r s → Good K p P s m t → Good K p P r m t
  earlier P r s t m g h = record { grows = grows_on g h.grows; there = h.there; holds = h.holds }

  pub from_earlier : {A : Type 0} (P : A → Type 0) (r s : FoundTree) (q : Checked (Option A)) → Grows r s → IsGood K p P s q → IsGood K p P r q
  from_earlier P r s (gives m t) g h = earlier P r s t m g h

  -- a check, and another one behind it
  pub next_good : {A B : Type 0} (P : A → Type 0) (Q : B → Type 0) (r s : FoundTree) (q : Checked (Option A)) (g : Option A → FoundTree → Checked (Option B)) → IsGood K p P s q
      → ((m : Option A) (t : FoundTree) → Good K p P s m t → IsGood K p Q r (g m t)) → IsGood K p Q r (check_next q g)
  next_good P Q r s (gives m t) g h k = k m t h

  pub one_good : {A B : Type 0} (P : A → Type 0) (Q : B → Type 0) (s t : FoundTree) (m : Option A) (g : A → FoundTree → Checked (Option B)) → Good K p P s m t
      → ((a : A) → (Accepts K p t → P a) → IsGood K p Q t (g a t)) → IsGood K p Q s (with_one m g t)
  one_good P Q s t None g h k = record { grows = h.grows; there = h.there; holds = λ e. tt }
  one_good P Q s t (Some a) g h k = from_earlier Q s t (g a t) h.grows (k a h.holds)

  pub two_good : {A B C : Type 0} (P : A → Type 0) (Q : B → Type 0) (R : C → Type 0) (s t u : FoundTree) (m : Option A) (n : Option B) (g : A → B → FoundTree → Checked (Option C)) → Good K p P s m t → Good K p Q t n u
      → ((a : A) (b : B) → (Accepts K p u → P a) → (Accepts K p u → Q b) → IsGood K p R u (g a b u)) → IsGood K p R s (with_two m n g u)
  two_good P Q R s t u None None g h k f = record { grows = grows_on h.grows k.grows; there = k.there; holds = λ e. tt }
  two_good P Q R s t u None (Some b) g h k f = record { grows = grows_on h.grows k.grows; there = λ e. h.there (no_fault_before k.grows e); holds = λ e. tt }
  two_good P Q R s t u (Some a) None g h k f = record { grows = grows_on h.grows k.grows; there = k.there; holds = λ e. tt }
  two_good P Q R s t u (Some a) (Some b) g h k f = from_earlier R s u (g a b u) (grows_on h.grows k.grows) (f a b (λ e. h.holds (accepts_before k.grows e)) k.holds)

  pub three_good : {A B C D : Type 0} (P : A → Type 0) (Q : B → Type 0) (R : C → Type 0) (S : D → Type 0) (s t u v : FoundTree) (l : Option A) (m : Option B) (n : Option C) (g : A → B → C → FoundTree → Checked (Option D))
      → Good K p P s l t → Good K p Q t m u → Good K p R u n v
      → ((a : A) (b : B) (c : C) → (Accepts K p v → P a) → (Accepts K p v → Q b) → (Accepts K p v → R c) → IsGood K p S v (g a b c v)) → IsGood K p S s (with_three l m n g v)
  three_good P Q R S s t u v None m n g h k j f = lost
    where
      lost : IsGood K p S s (with_three None m n g v)
      lost = record { grows = grows_on h.grows (grows_on k.grows j.grows); there = λ e. h.there (no_fault_before (grows_on k.grows j.grows) e); holds = λ e. tt }
  three_good P Q R S s t u v (Some a) None n g h k j f = lost
    where
      lost : IsGood K p S s (with_three (Some a) None n g v)
      lost = record { grows = grows_on h.grows (grows_on k.grows j.grows); there = λ e. k.there (no_fault_before j.grows e); holds = λ e. tt }
  three_good P Q R S s t u v (Some a) (Some b) None g h k j f = record { grows = grows_on h.grows (grows_on k.grows j.grows); there = j.there; holds = λ e. tt }
  three_good P Q R S s t u v (Some a) (Some b) (Some c) g h k j f =
      from_earlier S s v (g a b c v) (grows_on h.grows (grows_on k.grows j.grows)) (f a b c (λ e. h.holds (accepts_before (grows_on k.grows j.grows) e)) (λ e. k.holds (accepts_before j.grows e)) j.holds)

  -- what a rule makes has a property where the source is accepted
  pub judged_good : {A : Type 0} (P : A → Type 0) (o : Option A) (code : Code) (first : Spot) (last : ℕ) (s : FoundTree) → (Accepts K p s → HoldsOf P o) → IsGood K p P s (judged o code first last s)
  judged_good P None code first last s holds = refused P s code first last
  judged_good P (Some a) code first last s holds = given P s s a (grows_itself s) holds

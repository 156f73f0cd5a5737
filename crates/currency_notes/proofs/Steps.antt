-- What is so behind a history is so behind one more instruction.
use mathlib.Core.Bool.{true≢false}
use Rattle.std.proofs.Common.{◌≡◌, ◌≢◌, inl, inr, ℕ, ◌+◌, min, Bool, true, false, Option, Some, None, List, [], ◌∷◌, ◌++◌, refl, sym, ap, subst, ◌∙◌}
use Rattle.std.specs.Prelude.{slice_get, slice_set, ◌⊎◌, ◌==◌, ◌||◌, if◌then◌else◌}
use Rattle.std.specs.Option.{option_map_or}
use Rattle.std.proofs.lemmas.Bool.{eq-eqb, eqb-true}
use Rattle.std.proofs.lemmas.Bool.Decides.{eqb_tells}
use Rattle.std.proofs.lemmas.Option.{none-some, same_Some}
use Rattle.graph_homes.specs.declared.home.Home.{Home}
use Rattle.graph_homes.specs.declared.home.Home.TheVariants.{Register, Slot}
use Rattle.graph_homes.specs.Homes.{Holds, bound_last, is_home_of, is_same_home, last_writer, written_since}
use Rattle.graph_core.specs.Graphs.{Recipe, NoteValue, Is, Instruction, Marker, Note, Move, Operate, Truncate, Same, Address, Load, Store, Zero, CopyWords, Call, Binding, ToScalar, ToObject, Graph}
use Rattle.graph_core.specs.Uses.{names_in, target_of}
use Rattle.graph_core.specs.Paths.{Among, History, Passed, last_note, note_by, notes}
use Rattle.currency_notes.specs.declared.homes.Homes as declared-homes
use Rattle.currency_notes.proofs.Lists.{set_cases}
use Rattle.currency_notes.specs.declared.noted.Noted as declared-noted
use Rattle.currency_notes.specs.declared.noted.Noted.TheVariants as noted
use Rattle.currency_notes.specs.declared.state.State as declared-state
use Rattle.currency_notes.specs.Homes.{home_by, number_at, number_in, readers_of, AreReadBy}
use Rattle.currency_notes.specs.Notes.{recipe_of, recipe_in, IsWithin, IsHeld, AreHeld, IsSo, IsWritten}

-- what is noted stands in the list
pub said_at : (all : List declared-noted.Noted) (x : ℕ) (r : Recipe) → recipe_in all x ≡ Some r → (n : declared-noted.Noted) × (slice_get all x ≡ Some n) × (recipe_of x n ≡ Some r)
said_at all x r e = at_found (slice_get all x) refl
  where
    at_found : (o : Option declared-noted.Noted) → slice_get all x ≡ o → (n : declared-noted.Noted) × (slice_get all x ≡ Some n) × (recipe_of x n ≡ Some r)
    at_found None q = absurd (none-some r (sym (ap (λ (o : Option declared-noted.Noted). recipe_of x (option_map_or (λ (n : declared-noted.Noted). n) o noted.Lost)) q) ∙ e))
    at_found (Some n) q = (n, q, sym (ap (λ (o : Option declared-noted.Noted). recipe_of x (option_map_or (λ (n : declared-noted.Noted). n) o noted.Lost)) q) ∙ e)

pub at_said : (all : List declared-noted.Noted) (x : ℕ) (n : declared-noted.Noted) → slice_get all x ≡ Some n → recipe_in all x ≡ recipe_of x n
at_said all x n q = ap (λ (o : Option declared-noted.Noted). recipe_of x (option_map_or (λ (n : declared-noted.Noted). n) o noted.Lost)) q

-- what is noted behind a store
pub put_cases : (all : List declared-noted.Noted) (x : ℕ) (n : declared-noted.Noted) (y : ℕ) (r : Recipe) → recipe_in (slice_set all x n) y ≡ Some r
    → ((y ≡ x) × (recipe_of x n ≡ Some r)) ⊎ ((y ≢ x) × (recipe_in all y ≡ Some r))
put_cases all x n y r e =
    let f = said_at (slice_set all x n) y r e in
    elim (set_cases all x n y f.0 f.1) [
      | inl g ↦ inl (g.0, subst (λ z. recipe_of z n ≡ Some r) g.0 (subst (λ (o : declared-noted.Noted). recipe_of y o ≡ Some r) g.1 f.2))
      | inr g ↦ inr (g.0, at_said all y f.0 g.1 ∙ f.2)
    ]

-- an instruction is a note
abbrev pub is_note : Instruction → Bool
is_note (Note x v) = true
is_note (Marker p) = false
is_note (Move x a) = false
is_note (Operate x o a b) = false
is_note (Truncate x t a) = false
is_note (Same x a b) = false
is_note (Address x object) = false
is_note (Load x e l) = false
is_note (Store e l a) = false
is_note (Zero object words) = false
is_note (CopyWords object bytes words) = false
is_note (Call x f all) = false

no_note : (x : ℕ) (i : Instruction) → is_note i ≡ false → notes x i ≡ false
no_note x (Note y v) e = absurd (true≢false e)
no_note x (Marker p) e = refl
no_note x (Move y a) e = refl
no_note x (Operate y o a b) e = refl
no_note x (Truncate y t a) e = refl
no_note x (Same y a b) e = refl
no_note x (Address y object) e = refl
no_note x (Load y f l) e = refl
no_note x (Store f l a) e = refl
no_note x (Zero object words) e = refl
no_note x (CopyWords object bytes words) e = refl
no_note x (Call y f all) e = refl

kept_note : (x : ℕ) (i : Instruction) (before : Option NoteValue) → is_note i ≡ false → note_by x i before ≡ before
kept_note x (Note y v) before e = absurd (true≢false e)
kept_note x (Marker p) before e = refl
kept_note x (Move y a) before e = refl
kept_note x (Operate y o a b) before e = refl
kept_note x (Truncate y t a) before e = refl
kept_note x (Same y a b) before e = refl
kept_note x (Address y object) before e = refl
kept_note x (Load y f l) before e = refl
kept_note x (Store f l a) before e = refl
kept_note x (Zero object words) before e = refl
kept_note x (CopyWords object bytes words) before e = refl
kept_note x (Call y f all) before e = refl

no_target : (i : Instruction) (z : ℕ) → target_of i ≡ Some z → is_note i ≡ false
no_target (Note x v) z e = absurd (none-some z e)
no_target (Marker p) z e = refl
no_target (Move x a) z e = refl
no_target (Operate x o a b) z e = refl
no_target (Truncate x t a) z e = refl
no_target (Same x a b) z e = refl
no_target (Address x object) z e = refl
no_target (Load x f l) z e = refl
no_target (Store f l a) z e = refl
no_target (Zero object words) z e = refl
no_target (CopyWords object bytes words) z e = refl
no_target (Call x f all) z e = refl

same_number : (a b : Home) → is_same_home a b ≡ true → number_at a ≡ number_at b
same_number (Register r) (Register q) e = eqb-true r q e
same_number (Slot k) (Slot j) e = ap (λ n. min (n + 32) 4294967295) (eqb-true k j e)
same_number (Register r) (Slot j) e = absurd (true≢false (sym e))
same_number (Slot k) (Register r) e = absurd (true≢false (sym e))

pub same_self : (a : Home) → is_same_home a a ≡ true
same_self (Register r) = eq-eqb r r refl
same_self (Slot k) = eq-eqb k k refl

module _ (m : declared-homes.Homes) where
  -- names of one home have one new number
  one_number : (y z : ℕ) → number_at (home_by m z) ≡ number_at (home_by m y) → number_in m z ≡ number_in m y
  one_number y z e = ap (λ n. option_map_or (λ (o : Option ℕ). o) (slice_get m.numbers.items n) None) e

  -- for which name a home was last written, behind a write
  pub held_behind : (z : ℕ) (s t : declared-state.State) → IsWritten m z s t → (last : Home → Option ℕ) → ((y : ℕ) → IsHeld m s y → last (home_by m y) ≡ Some y) → (y : ℕ) → IsHeld m t y
      → (if is_same_home (home_by m z) (home_by m y) then Some z else last (home_by m y)) ≡ Some y
  held_behind z s t w last before y held = at_same (is_same_home (home_by m z) (home_by m y)) refl
    where
      k : ℕ
      k = held.0

      numbered : number_in m y ≡ Some k
      numbered = held.1

      there : slice_get t.written.items k ≡ Some (Some y)
      there = held.2

      at_same : (b : Bool) → is_same_home (home_by m z) (home_by m y) ≡ b → (if is_same_home (home_by m z) (home_by m y) then Some z else last (home_by m y)) ≡ Some y
      at_same true e =
          let n : number_in m z ≡ Some k = one_number y z (same_number (home_by m z) (home_by m y) e) ∙ numbered in
          let put : slice_get (slice_set s.written.items k (Some z)) k ≡ Some (Some y) = subst (λ xs. slice_get xs k ≡ Some (Some y)) (w.put k n) there in
          elim (set_cases s.written.items k (Some z) k (Some y) put) [
            | inl f ↦ ap (λ b. if b then Some z else last (home_by m y)) e ∙ sym f.1
            | inr f ↦ absurd (f.0 refl)
          ]
      at_same false e = ap (λ b. if b then Some z else last (home_by m y)) e ∙ at_number (number_in m z) refl
        where
          at_number : (o : Option ℕ) → number_in m z ≡ o → last (home_by m y) ≡ Some y
          at_number None q = before y (k, numbered, subst (λ xs. slice_get xs k ≡ Some (Some y)) (w.none q) there)
          at_number (Some j) q =
              let put : slice_get (slice_set s.written.items j (Some z)) k ≡ Some (Some y) = subst (λ xs. slice_get xs k ≡ Some (Some y)) (w.put j q) there in
              elim (set_cases s.written.items j (Some z) k (Some y) put) [
                | inl f ↦ (let one : y ≡ z = same_Some y z f.1 in absurd (true≢false (sym (subst (λ (n : ℕ). is_same_home (home_by m z) (home_by m n) ≡ true) (sym one) (same_self (home_by m z))) ∙ e)))
                | inr f ↦ before y (k, numbered, f.1)
              ]

  module _ (ps : List Binding) where
    -- a name is written
    pub written_step : (z : ℕ) (s t : declared-state.State) (p : Passed) (h : History) → target_of p.instruction ≡ Some z → IsWritten m z s t → IsSo m ps s h → IsSo m ps t (p ∷ h)
    written_step z s t p h target w so = record {
      note = λ x r said. kept_note x p.instruction (last_note x h) plain ∙ so.note x r (w.less x r said);
      read = λ x r said. so.read x r (w.less x r said);
      untouched = λ x r said y among k number.
          ap (λ b. if b then false else (is_home_of (home_by m) (home_by m y) (target_of p.instruction) || written_since (home_by m) x (home_by m y) h)) (no_note x p.instruction plain)
          ∙ ap (λ o. is_home_of (home_by m) (home_by m y) o || written_since (home_by m) x (home_by m y) h) target
          ∙ ap (λ b. b || written_since (home_by m) x (home_by m y) h) (other x r said y among k number)
          ∙ so.untouched x r (w.less x r said) y among k number;
      written = λ y held. ap (λ (o : Option ℕ). if is_home_of (home_by m) (home_by m y) o then o else last_writer (home_by m) ps (home_by m y) h) target
          ∙ held_behind z s t w (λ home. last_writer (home_by m) ps home h) so.written y held;
    }
      where
        plain : is_note p.instruction ≡ false
        plain = no_target p.instruction z target

        other : (x : ℕ) (r : Recipe) → recipe_in t.noted.items x ≡ Some r → (y : ℕ) → Among y (names_in r) → (k : ℕ) → number_in m y ≡ Some k → is_same_home (home_by m z) (home_by m y) ≡ false
        other x r said y among k number = at_same (is_same_home (home_by m z) (home_by m y)) refl
          where
            at_same : (b : Bool) → is_same_home (home_by m z) (home_by m y) ≡ b → is_same_home (home_by m z) (home_by m y) ≡ false
            at_same false e = e
            at_same true e =
                let one : number_at (home_by m z) ≡ number_at (home_by m y) = same_number (home_by m z) (home_by m y) e in
                let there : Among x (readers_of m k) = so.read x r (w.less x r said) y among k number in
                absurd (w.unread x r said k (one_number y z one ∙ number) there y among (sym one))

    -- neither a note nor a write
    pub idle_step : (s : declared-state.State) (p : Passed) (h : History) → is_note p.instruction ≡ false → target_of p.instruction ≡ None → IsSo m ps s h → IsSo m ps s (p ∷ h)
    idle_step s p h plain target so = record {
      note = λ x r said. kept_note x p.instruction (last_note x h) plain ∙ so.note x r said;
      read = so.read;
      untouched = λ x r said y among k number.
          ap (λ b. if b then false else (is_home_of (home_by m) (home_by m y) (target_of p.instruction) || written_since (home_by m) x (home_by m y) h)) (no_note x p.instruction plain)
          ∙ ap (λ o. is_home_of (home_by m) (home_by m y) o || written_since (home_by m) x (home_by m y) h) target
          ∙ so.untouched x r said y among k number;
      written = λ y held. ap (λ (o : Option ℕ). if is_home_of (home_by m) (home_by m y) o then o else last_writer (home_by m) ps (home_by m y) h) target ∙ so.written y held;
    }

    -- a note
    pub noted_step : (x : ℕ) (v : NoteValue) (n : declared-noted.Noted) (s t : declared-state.State) (p : Passed) (h : History) → p.instruction ≡ Note x v → t.noted.items ≡ slice_set s.noted.items x n → t.written.items ≡ s.written.items
        → ((r : Recipe) → recipe_of x n ≡ Some r → v ≡ Is r) → ((r : Recipe) → recipe_of x n ≡ Some r → AreReadBy m r x) → IsSo m ps s h → IsSo m ps t (p ∷ h)
    noted_step x v n s t p h is put kept says read so = record {
      note = λ y r said. ap (λ i. note_by y i (last_note y h)) is ∙ note y r said;
      read = λ y r said. elim (cases y r said) [ inl f ↦ subst (λ z. AreReadBy m r z) (sym f.0) (read r f.1) | inr f ↦ so.read y r f.1 ];
      untouched = λ y r said z among k number. ap (λ i. if notes y i then false else (is_home_of (home_by m) (home_by m z) (target_of i) || written_since (home_by m) y (home_by m z) h)) is ∙ untouched y r said z among k number;
      written = λ y held. ap (λ i. if is_home_of (home_by m) (home_by m y) (target_of i) then target_of i else last_writer (home_by m) ps (home_by m y) h) is
          ∙ so.written y (held.0, held.1, subst (λ xs. slice_get xs held.0 ≡ Some (Some y)) kept held.2);
    }
      where
        cases : (y : ℕ) (r : Recipe) → recipe_in t.noted.items y ≡ Some r → ((y ≡ x) × (recipe_of x n ≡ Some r)) ⊎ ((y ≢ x) × (recipe_in s.noted.items y ≡ Some r))
        cases y r said = put_cases s.noted.items x n y r (subst (λ (xs : List declared-noted.Noted). recipe_in xs y ≡ Some r) put said)

        note : (y : ℕ) (r : Recipe) → recipe_in t.noted.items y ≡ Some r → (if x == y then Some v else last_note y h) ≡ Some (Is r)
        note y r said = elim (cases y r said) [
          | inl f ↦ ap (λ b. if b then Some v else last_note y h) (eq-eqb x y (sym f.0)) ∙ ap Some (says r f.1)
          | inr f ↦ elim (eqb_tells x y) [ inl g ↦ absurd (f.0 (sym g.1)) | inr g ↦ ap (λ b. if b then Some v else last_note y h) g.0 ∙ so.note y r f.1 ]
        ]

        untouched : (y : ℕ) (r : Recipe) → recipe_in t.noted.items y ≡ Some r → (z : ℕ) → Among z (names_in r) → (k : ℕ) → number_in m z ≡ Some k → (if x == y then false else written_since (home_by m) y (home_by m z) h) ≡ false
        untouched y r said z among k number = elim (cases y r said) [
          | inl f ↦ ap (λ b. if b then false else written_since (home_by m) y (home_by m z) h) (eq-eqb x y (sym f.0))
          | inr f ↦ elim (eqb_tells x y) [ inl g ↦ absurd (f.0 (sym g.1)) | inr g ↦ ap (λ b. if b then false else written_since (home_by m) y (home_by m z) h) g.0 ∙ so.untouched y r f.1 z among k number ]
        ]

    -- what is so in a state with no less is so
    pub so_within : (s t : declared-state.State) (h : History) → IsWithin s t → IsSo m ps t h → IsSo m ps s h
    so_within s t h less so = record {
      note = λ x r said. so.note x r (less.noted x r said);
      read = λ x r said. so.read x r (less.noted x r said);
      untouched = λ x r said. so.untouched x r (less.noted x r said);
      written = λ y held. so.written y (held.0, held.1, less.written held.0 y held.2);
    }

  -- What is noted, and whose names' homes are held, is shown.
  pub shown_by : (g : Graph) (s : declared-state.State) (h : History) (x : ℕ) (r : Recipe) → IsSo m g.parameters s h → recipe_in s.noted.items x ≡ Some r → AreHeld m s r → Holds (home_by m) g x r h
  shown_by g s h x r so said held = record {
    note = so.note x r said;
    own = λ y among. so.written y (held y among);
    before = λ y among. so.untouched x r said y among (held y among).0 (held y among).1;
  }

-- parameters, one more of which is bound
pub bound_more : (home : ℕ → Home) (k : Home) (xs : List Binding) (b : Binding) (before : Option ℕ) → bound_last home k (xs ++ (b ∷ [])) before ≡ bound_last home k (b ∷ []) (bound_last home k xs before)
bound_more home k [] b before = refl
bound_more home k (ToScalar x ∷ xs) b before = bound_more home k xs b (if is_same_home (home x) k then Some x else before)
bound_more home k (ToObject object ∷ xs) b before = bound_more home k xs b before

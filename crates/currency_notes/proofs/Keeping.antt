-- What an instruction does not lose of a state.
use mathlib.Core.Bool.{true≢false}
use Rattle.std.proofs.Common.{◌≡◌, ◌≢◌, inl, inr, ℕ, ◌<◌, false, Option, Some, None, List, length, get_or, refl, sym, ap, subst, ◌∙◌}
use Rattle.std.specs.Prelude.{slice_get, slice_set, ◌==◌}
use Rattle.std.specs.Option.{option_map_or}
use Rattle.std.proofs.lemmas.Bool.{eq-eqb}
use Rattle.std.proofs.lemmas.Bool.Decides.{eqb_tells}
use Rattle.std.proofs.lemmas.List.{length-set}
use Rattle.std.proofs.lemmas.Option.{none-some, same_Some, slice_get-get_or}
use Rattle.graph_core.specs.Graphs.{Recipe, NoteValue, Is, Instruction, Note}
use Rattle.graph_core.specs.Uses.{target_of}
use Rattle.graph_core.specs.Paths.{notes}
use Rattle.currency_notes.specs.declared.homes.Homes as declared-homes
use Rattle.currency_notes.specs.declared.noted.Noted as declared-noted
use Rattle.currency_notes.specs.declared.noted.Noted.TheVariants as noted
use Rattle.currency_notes.specs.declared.state.State as declared-state
use Rattle.currency_notes.specs.Homes.{number_in, AreReadBy, IsUnread}
use Rattle.currency_notes.specs.Notes.{recipe_in, recipe_of, IsKept, IsWritten}
use Rattle.currency_notes.proofs.Lists.{get_put_other, get_put_same}
use Rattle.currency_notes.proofs.Steps.{at_said, is_note}

-- what is noted of another scalar stays behind a store
pub put_other : (all : List declared-noted.Noted) (x : ℕ) (n : declared-noted.Noted) (y : ℕ) (r : Recipe) → y ≢ x → recipe_in all y ≡ Some r → recipe_in (slice_set all x n) y ≡ Some r
put_other all x n y r other said = ap (λ (o : Option declared-noted.Noted). recipe_of y (option_map_or (λ (k : declared-noted.Noted). k) o noted.Lost)) (get_put_other all x n y other) ∙ said

-- what was stored is noted
pub put_same : (all : List declared-noted.Noted) (x : ℕ) (n : declared-noted.Noted) → x < length all → recipe_in (slice_set all x n) x ≡ recipe_of x n
put_same all x n lt = ap (λ (o : Option declared-noted.Noted). recipe_of x (option_map_or (λ (k : declared-noted.Noted). k) o noted.Lost)) (get_put_same all x n lt)

-- what reads no home that is lost stays
pub lost_kept : (m : declared-homes.Homes) (name x : ℕ) (old new : List declared-noted.Noted) → new ≡ slice_set old x noted.Lost → ((r : Recipe) → recipe_in old x ≡ Some r → IsUnread m r name → ⊥) → (y : ℕ) (r : Recipe) → recipe_in old y ≡ Some r → IsUnread m r name → recipe_in new y ≡ Some r
lost_kept m name x old new put read y r said unread = subst (λ (all : List declared-noted.Noted). recipe_in all y ≡ Some r) (sym put) (elim (eqb_tells y x) [
  | inl e ↦ absurd (read r (subst (λ k. recipe_in old k ≡ Some r) e.1 said) unread)
  | inr e ↦ put_other old x noted.Lost y r e.1 said
])

-- the scalar of a note, and what it says
abbrev note_name : ℕ → Instruction → ℕ
note_name d (Note x v) = x
note_name d _ = d

abbrev note_says : NoteValue → Instruction → NoteValue
note_says d (Note x v) = v
note_says d _ = d

module _ (m : declared-homes.Homes) where
  -- a note
  pub kept_note : (x : ℕ) (v : NoteValue) (n : declared-noted.Noted) (s t : declared-state.State) (i : Instruction) → i ≡ Note x v → t.noted.items ≡ slice_set s.noted.items x n → t.written.items ≡ s.written.items
      → ((r : Recipe) → v ≡ Is r → AreReadBy m r x → recipe_of x n ≡ Some r) → IsKept m i s t
  kept_note x v n s t i is put same full = record {
    noted = λ y r e lt read.
        (let both : Note x v ≡ Note y (Is r) = sym is ∙ e in
        let name : x ≡ y = ap (λ (j : Instruction). note_name x j) both in
        let says : v ≡ Is r = ap (λ (j : Instruction). note_says v j) both in
        subst (λ k. recipe_in t.noted.items k ≡ Some r) name (ap (λ (all : List declared-noted.Noted). recipe_in all x) put ∙ put_same s.noted.items x n (subst (λ k. k < length s.noted.items) (sym name) lt) ∙ full r says (subst (λ k. AreReadBy m r k) (sym name) read)));
    kept = λ y r said plain unread.
        (let other : (x == y) ≡ false = sym (ap (λ (j : Instruction). notes y j) is) ∙ plain in
        subst (λ (all : List declared-noted.Noted). recipe_in all y ≡ Some r) (sym put) (put_other s.noted.items x n y r (λ e. true≢false (sym (eq-eqb x y (sym e)) ∙ other)) said));
    put = λ z k target number. absurd (none-some z (sym (ap (λ (j : Instruction). target_of j) is) ∙ target));
    none = λ none. same;
    size = ap (λ (all : List declared-noted.Noted). length all) put ∙ length-set s.noted.items x n;
  }

  -- a write
  pub kept_write : (z : ℕ) (s t : declared-state.State) (i : Instruction) → target_of i ≡ Some z → IsWritten m z s t → IsKept m i s t
  kept_write z s t i target w = record {
    noted = λ x r e lt read. absurd (none-some z (sym (ap (λ (j : Instruction). target_of j) e) ∙ target));
    kept = λ x r said plain unread. w.kept x r said (unread z target);
    put = λ y k other number.
        (let one : z ≡ y = same_Some z y (sym target ∙ other) in
        subst (λ n. t.written.items ≡ slice_set s.written.items k (Some n)) one (w.put k (ap (λ n. number_in m n) one ∙ number)));
    none = λ none. at_number none (number_in m z) refl;
    size = w.size;
  }
    where
      at_number : ((y k : ℕ) → target_of i ≡ Some y → number_in m y ≡ Some k → ⊥) → (o : Option ℕ) → number_in m z ≡ o → t.written.items ≡ s.written.items
      at_number none None e = w.none e
      at_number none (Some k) e = absurd (none z k target e)

  -- neither
  pub kept_idle : (s : declared-state.State) (i : Instruction) → is_note i ≡ false → target_of i ≡ None → IsKept m i s s
  kept_idle s i plain target = record {
    noted = λ x r e lt read. absurd (true≢false (sym (ap (λ (j : Instruction). is_note j) e) ∙ plain));
    kept = λ x r said other unread. said;
    put = λ z k e number. absurd (none-some z (sym target ∙ e));
    none = λ none. refl;
    size = refl;
  }

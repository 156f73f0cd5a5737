-- Where the last note of a scalar is not its own, a change removed an assignment of its variable in the place of the note.
use Rattle.std.proofs.Common.{◌≡◌, ◌≢◌, inl, inr, ℕ, ◌+◌, ◌-◌, true, false, Some, None, List, [], ◌∷◌, ◌++◌, length, slice_get, take, refl, sym, ap, subst, ◌∙◌, arith}
use Rattle.std.specs.Prelude.{if◌then◌else◌}
use Rattle.std.specs.Option.{option_map_or}
use Rattle.std.proofs.Math.ListN.{length-append}
use Rattle.std.proofs.lemmas.Bool.Decides.{eqb_tells}
use Rattle.std.proofs.lemmas.Option.{none-some, same_Some}
use Rattle.graph_core.specs.declared.value.Value.{Value}
use Rattle.graph_core.specs.Graphs.{Name, Of, Recipe, NoteValue, Is, Instruction, Marker, Note, End, Block, Graph, UnitForm}
use Rattle.graph_core.specs.Paths.{History, Way, stays, passes, goes, Path, path, place_of, note_by, last_note, notes}
use Rattle.graph_core.specs.Validity.{IsGraph, place_behind}
use Rattle.graph_core.specs.WellMarked.{IsVariable, IsWellMarked, WasTaken}
use Rattle.graph_core.proofs.Among.{behind_last}
use Rattle.graph_core_weights.proofs.Passing.{Kind, marks, noting, plain, Stands, kind_of, stands}
use Rattle.graph_core_weights.proofs.Placing.{StandsAt, place_before, stands_at}
use Rattle.base_laws.proofs.Lists.{one_behind}
use Rattle.currency_notes.specs.Sources.{IsSource, noted_place, place_where}
use Rattle.currency_notes.proofs.Lists.{among_at}
use Rattle.currency.specs.Tellable.{AreSourced}

-- the first so many of a list that goes on
take_front : {A : Type 0} (xs ys : List A) → take (length (xs ++ ys) - length ys) (xs ++ ys) ≡ xs
take_front xs ys = (let whole = length-append xs ys in let same : length (xs ++ ys) - length ys ≡ length xs = omega (arith, whole) in ap (λ n. take n (xs ++ ys)) same ∙ front_of xs ys)
  where
    front_of : {A : Type 0} (xs ys : List A) → take (length xs) (xs ++ ys) ≡ xs
    front_of [] [] = refl
    front_of [] (y ∷ ys) = refl
    front_of (x ∷ xs) ys = ap (λ l. x ∷ l) (front_of xs ys)

-- the place in force behind an instruction of a block
place_behind_it : (g : Graph) (n : ℕ) (b : Block) (before left : List Instruction) (i : Instruction) → slice_get g.blocks n ≡ Some b → b.instructions ≡ before ++ i ∷ left → place_where g n (length left) ≡ place_behind (before ++ i ∷ []) b.place
place_behind_it g n b before left i is whole =
    ap (λ o. option_map_or (λ (c : Block). place_behind (take (length c.instructions - length left) c.instructions) c.place) o None) is
    ∙ ap (λ (l : List Instruction). place_behind (take (length l - length left) l) b.place) (whole ∙ one_behind before i left)
    ∙ ap (λ (l : List Instruction). place_behind l b.place) (take_front (before ++ i ∷ []) left)

module _ (u : UnitForm) (g : Graph) (marked : IsWellMarked u g) (valid : IsGraph u g) (x variable : ℕ) (is : IsVariable g x variable) where
  abbrev HasSource : History → Type 0
  HasSource h = (number : ℕ) × IsSource u.log g x h number

  -- the last note is the scalar's own, or has a source
  abbrev IsNotedSo : History → Type 0
  IsNotedSo h = (v : NoteValue) → last_note x h ≡ Some v → v ≢ Is (Of (Name x)) → HasSource h

  -- a note is passed in a place
  note_placed : {h : History} {n : ℕ} {y : ℕ} {v : NoteValue} {left : List Instruction} {e : End} → Path g h n (Note y v ∷ left) e → (p : ℕ) × (place_of h ≡ Some p)
  note_placed {h} {n} {y} {v} {left} {e} way = by_mode (stands u g marked way)
    where
      no_marker : {p : ℕ} {rest : List Instruction} → Note y v ∷ left ≡ Marker p ∷ rest → ⊥
      no_marker q = cc

      by_mode : Stands u g marked h n (Note y v ∷ left) e → (p : ℕ) × (place_of h ≡ Some p)
      by_mode s = elim s.so.mode [ inl start ↦ absurd (no_marker (start.whole ∙ (marked.begins s.first s.there).1)) | inr m ↦ (m.place, m.is) ]

  -- the note itself
  note_sourced : {h : History} {n : ℕ} {v : NoteValue} {left : List Instruction} {e : End} (w : Value) → Path g h n (Note x v ∷ left) e → v ≢ Is (Of (Name x)) → HasSource (record { block = n; left = length left; instruction = Note x v; wrote = w } ∷ h)
  note_sourced {h} {n} {v} {left} {e} w way other = by_place (note_placed way)
    where
      s : StandsAt g h n (Note x v ∷ left) e
      s = stands_at u g valid.blocks marked.begins h n (Note x v ∷ left) e way

      own_note : notes x (Note x v) ≡ true
      own_note = elim (eqb_tells x x) [ inl q ↦ q.0 | inr q ↦ absurd (q.1 refl) ]

      by_taken : (p : ℕ) → place_of h ≡ Some p → WasTaken u.log p variable → HasSource (record { block = n; left = length left; instruction = Note x v; wrote = w } ∷ h)
      by_taken p at taken =
          let there = among_at u.log taken.logged in
          let stood : place_where g n (length left) ≡ Some p = place_behind_it g n s.block s.before left (Note x v) s.is s.whole ∙ behind_last s.before (Note x v) s.block.place ∙ place_before u g valid.blocks marked.begins h n p (Note x v) left e s refl at in (
            there.0 + 1,
            record {
              place = p;
              variable = variable;
              stands = ap (λ b. if b then place_where g n (length left) else noted_place g x h) own_note ∙ stood;
              of = is;
              removed = record { k = there.0; change = taken.change; counted = refl; is = there.1; taken = taken.taken; in_place = taken.at; of = taken.of };
            },
          )

      by_place : (p : ℕ) × (place_of h ≡ Some p) → HasSource (record { block = n; left = length left; instruction = Note x v; wrote = w } ∷ h)
      by_place p = elim (marked.right h n p.0 x variable v left e is way p.1) [ inl own ↦ absurd (other own.0) | inr gone ↦ by_taken p.0 p.1 gone.2 ]

  -- over what is no note of the scalar nothing changes
  source_kept : (h : History) (block left : ℕ) (i : Instruction) (w : Value) → notes x i ≡ false → HasSource h → HasSource (record { block = block; left = left; instruction = i; wrote = w } ∷ h)
  source_kept h block left i w other source = (
    source.0,
    record {
      place = source.1.place;
      variable = source.1.variable;
      stands = ap (λ b. if b then place_where g block left else noted_place g x h) other ∙ source.1.stands;
      of = source.1.of;
      removed = source.1.removed;
    },
  )

  -- over one instruction
  source_step : {h : History} {n : ℕ} {i : Instruction} {left : List Instruction} {e : End} (w : Value) → Path g h n (i ∷ left) e → IsNotedSo h → IsNotedSo (record { block = n; left = length left; instruction = i; wrote = w } ∷ h)
  source_step {h} {n} {i} {left} {e} w way before v noted other = by_kind (kind_of i)
    where
      by_note : (y : ℕ) (z : NoteValue) → i ≡ Note y z → HasSource (record { block = n; left = length left; instruction = i; wrote = w } ∷ h)
      by_note y z at = elim (eqb_tells y x) [
        | inl same ↦ (let mine : i ≡ Note x z = at ∙ ap (λ k. Note k z) same.1 in
            let value : z ≡ v = same_Some z v (sym (ap (λ b. if b then Some z else last_note x h) same.0) ∙ sym (ap (λ j. note_by x j (last_note x h)) at) ∙ noted) in
            subst (λ j. HasSource (record { block = n; left = length left; instruction = j; wrote = w } ∷ h)) (sym mine)
            (note_sourced w (subst (λ j. Path g h n (j ∷ left) e) mine way) (λ own. other (sym value ∙ own))))
        | inr apart ↦ source_kept h n (length left) i w (ap (notes x) at ∙ apart.0)
            (before v (sym (ap (λ b. if b then Some z else last_note x h) apart.0) ∙ sym (ap (λ j. note_by x j (last_note x h)) at) ∙ noted) other)
      ]

      by_kind : Kind i → HasSource (record { block = n; left = length left; instruction = i; wrote = w } ∷ h)
      by_kind (marks p at) = source_kept h n (length left) i w (ap (notes x) at) (before v (sym (ap (λ j. note_by x j (last_note x h)) at) ∙ noted) other)
      by_kind (noting y z at) = by_note y z at
      by_kind (plain r) = source_kept h n (length left) i w (r.silent x) (before v (sym (r.note x (last_note x h)) ∙ noted) other)

  way_sourced : (b : Block) → slice_get g.blocks 0 ≡ Some b → {h : History} {n : ℕ} {rest : List Instruction} {e : End} → Way g 0 b.instructions b.end h n rest e → IsNotedSo h
  way_sourced b there stays v noted other = absurd (none-some v noted)
  way_sourced b there (passes way w) v noted other = source_step w (path b there way) (way_sourced b there way) v noted other
  way_sourced b there (goes way among c at) v noted other = way_sourced b there way v noted other

  pub path_sourced : (h : History) {n : ℕ} {rest : List Instruction} {e : End} → Path g h n rest e → IsNotedSo h
  path_sourced h (path b there way) v noted other = way_sourced b there way v noted other

-- Where the last note of a scalar is not its own, there is a change.
pub all_sourced : (u : UnitForm) (g : Graph) → IsWellMarked u g → IsGraph u g → AreSourced u.log g
all_sourced u g marked valid h n p x variable rest e r way is noted other = path_sourced u g marked valid x variable is h way (Is r) noted (λ own. other (recipe_same own))
  where
    recipe_same : {a b : Recipe} → Is a ≡ Is b → a ≡ b
    recipe_same q = cc

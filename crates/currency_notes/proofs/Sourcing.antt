-- What is told of the changes that removed assignments.
use mathlib.Core.Bool.{true≢false}
use Rattle.std.proofs.Common.{◌≡◌, ◌≢◌, inl, inr, ℕ, ◌+◌, ◌-◌, ◌<◌, ◌≤◌, Bool, true, false, Option, Some, None, List, [], ◌∷◌, ◌++◌, drop, get_or, length, map, take, refl, sym, ap, subst, ◌∙◌, arith}
use Rattle.std.specs.Prelude.{slice_get, slice_set, IfSome, ◌⊎◌, if◌then◌else◌}
use Rattle.std.specs.Option.{option_map_or}
use Rattle.std.proofs.lemmas.Bool.{eq-eqb, eqb-true}
use Rattle.std.proofs.lemmas.Bool.Decides.{eqb_tells}
use Rattle.std.proofs.lemmas.List.{length-drop, length-map, map-append, take-map}
use Rattle.std.proofs.lemmas.Option.{none-some, same_Some, slice_get-get_or, slice_get_within}
use Rattle.graph_core.specs.declared.value.Value.TheVariants.{Odd}
use Rattle.graph_core.specs.Graphs.{Recipe, NoteValue, Instruction, Marker, Note, Move, Operate, Truncate, Same, Address, Load, Store, Zero, CopyWords, Call, Block, End, Graph, Logged, recipe_view}
use Rattle.graph_core.specs.Paths.{Among, History, Passed, Path, path, stays, passes, goes, notes}
use Rattle.graph_core.specs.Uses.{targets_of}
use Rattle.graph_core.specs.Validity.{place_behind}
use Rattle.graph_core.specs.WellMarked.{IsVariable}
use Rattle.dead_pass_writes.specs.Removals.{IsFirstRemoval, IsRemoval}
use Rattle.currency_notes.specs.declared.noted.Noted as declared-noted
use Rattle.currency_notes.specs.declared.noted.Noted.TheVariants as noted
use Rattle.currency_notes.specs.declared.state.State as declared-state
use Rattle.currency_notes.specs.Full.{IsEqual}
use Rattle.currency_notes.specs.Notes.{noted_in, recipe_in, recipe_of, told_in, told_of, IsAtMost, IsJoined, IsToldWithin, IsWithin}
use Rattle.currency_notes.specs.Sources.{noted_place, place_where, variable_in, IsAttained, IsFirstOf, IsLeastTold, IsSource, IsToldBy}
use Rattle.currency_notes.proofs.Lists.{get_any, set_cases, take_one_more}
use Rattle.currency_notes.proofs.Steps.{is_note}

-- where something is told, a recipe is noted
told_noted : (x : ℕ) (n : declared-noted.Noted) (c : Option ℕ) → told_of n ≡ Some c → (r : Recipe) × (recipe_of x n ≡ Some r)
told_noted x noted.Lost c e = absurd (none-some c e)
told_noted x noted.Own c e = absurd (none-some c e)
told_noted x (noted.Recipe r d) c e = (recipe_view r.now, refl)

pub told_recipe : (all : List declared-noted.Noted) (x : ℕ) (c : Option ℕ) → told_in all x ≡ Some c → (r : Recipe) × (recipe_in all x ≡ Some r)
told_recipe all x c e = told_noted x (noted_in all x) c e

-- what is told stands in the list
told_stands : (all : List declared-noted.Noted) (x : ℕ) (c : Option ℕ) → told_in all x ≡ Some c → (n : declared-noted.Noted) × (slice_get all x ≡ Some n) × (told_of n ≡ Some c)
told_stands all x c e = at_found (slice_get all x) refl
  where
    at_found : (o : Option declared-noted.Noted) → slice_get all x ≡ o → (n : declared-noted.Noted) × (slice_get all x ≡ Some n) × (told_of n ≡ Some c)
    at_found None q = absurd (none-some c (sym (ap (λ (o : Option declared-noted.Noted). told_of (option_map_or (λ (n : declared-noted.Noted). n) o noted.Lost)) q) ∙ e))
    at_found (Some n) q = (n, q, sym (ap (λ (o : Option declared-noted.Noted). told_of (option_map_or (λ (n : declared-noted.Noted). n) o noted.Lost)) q) ∙ e)

pub told_there : (all : List declared-noted.Noted) (x : ℕ) (n : declared-noted.Noted) → slice_get all x ≡ Some n → told_in all x ≡ told_of n
told_there all x n q = ap (λ (o : Option declared-noted.Noted). told_of (option_map_or (λ (n : declared-noted.Noted). n) o noted.Lost)) q

-- what is told behind a store
pub told_cases : (all : List declared-noted.Noted) (x : ℕ) (n : declared-noted.Noted) (y : ℕ) (c : Option ℕ) → told_in (slice_set all x n) y ≡ Some c → ((y ≡ x) × (told_of n ≡ Some c)) ⊎ ((y ≢ x) × (told_in all y ≡ Some c))
told_cases all x n y c e =
    let f = told_stands (slice_set all x n) y c e in
    elim (set_cases all x n y f.0 f.1) [
      | inl g ↦ inl (g.0, subst (λ (o : declared-noted.Noted). told_of o ≡ Some c) g.1 f.2)
      | inr g ↦ inr (g.0, told_there all y f.0 g.1 ∙ f.2)
    ]

-- of what is lost nothing is told
pub told_lost : (old new : List declared-noted.Noted) (x : ℕ) → new ≡ slice_set old x noted.Lost → (y : ℕ) (c : Option ℕ) → told_in new y ≡ Some c → told_in old y ≡ Some c
told_lost old new x put y c e = elim (told_cases old x noted.Lost y c (subst (λ (all : List declared-noted.Noted). told_in all y ≡ Some c) put e)) [ inl f ↦ absurd (none-some c f.1) | inr f ↦ f.1 ]

-- equal lists
pub told_equal : (one other : List declared-noted.Noted) → one ≡ other → (x : ℕ) → IsToldWithin (told_in one x) (told_in other x)
told_equal one other same x c e = (c, subst (λ (all : List declared-noted.Noted). told_in all x ≡ Some c) same e, λ d le. le)

module _ (log : List Logged) (g : Graph) where
  -- the first change of a variable in a place
  pub first_of : (x p v : ℕ) (place o : Option ℕ) → place ≡ Some p → variable_in g x ≡ Some v → IfSome o (λ number. IsFirstRemoval log p v number) → (o ≡ None → (number : ℕ) → IsRemoval log p v number → ⊥) → IsFirstOf log g place x o
  first_of x p v place None is of first none =
      λ q w number at variable removed. none refl number (subst (λ k. IsRemoval log p k number) (same_Some w v (sym variable ∙ of)) (subst (λ k. IsRemoval log k w number) (same_Some q p (sym at ∙ is)) removed))
  first_of x p v place (Some c) is of first none = (p, v, is, of, first)

  pub first_told : (x : ℕ) (place change c : Option ℕ) → IsFirstOf log g place x change → Some change ≡ Some c → IsFirstOf log g place x c
  first_told x place change c first e = subst (λ (o : Option ℕ). IsFirstOf log g place x o) (same_Some change c e) first

  -- a note
  pub told_note : (x : ℕ) (v : NoteValue) (n : declared-noted.Noted) (s t : declared-state.State) (i : Instruction) (place : Option ℕ) → i ≡ Note x v → t.noted.items ≡ slice_set s.noted.items x n
      → ((c : Option ℕ) → told_of n ≡ Some c → IsFirstOf log g place x c) → IsToldBy log g i place s t
  told_note x v n s t i place is put first = record {
    first = λ y c noted said.
        (let one : x ≡ y = eqb-true x y (sym (ap (λ (j : Instruction). notes y j) is) ∙ noted) in
        elim (cases y c said) [ inl f ↦ subst (λ z. IsFirstOf log g place z c) one (first c f.1) | inr f ↦ absurd (f.0 (sym one)) ]);
    before = λ y c plain said.
        elim (cases y c said) [ inl f ↦ absurd (true≢false (sym (eq-eqb x y (sym f.0)) ∙ sym (ap (λ (j : Instruction). notes y j) is) ∙ plain)) | inr f ↦ f.1 ];
  }
    where
      cases : (y : ℕ) (c : Option ℕ) → told_in t.noted.items y ≡ Some c → ((y ≡ x) × (told_of n ≡ Some c)) ⊎ ((y ≢ x) × (told_in s.noted.items y ≡ Some c))
      cases y c said = told_cases s.noted.items x n y c (subst (λ (all : List declared-noted.Noted). told_in all y ≡ Some c) put said)

  -- no note
  pub told_plain : (s t : declared-state.State) (i : Instruction) (place : Option ℕ) → is_note i ≡ false → ((x : ℕ) (c : Option ℕ) → told_in t.noted.items x ≡ Some c → told_in s.noted.items x ≡ Some c) → IsToldBy log g i place s t
  told_plain s t i place plain less = record { first = λ x c noted said. absurd (true≢false (sym noted ∙ other x i plain)); before = λ x c other said. less x c said }
    where
      other : (x : ℕ) (j : Instruction) → is_note j ≡ false → notes x j ≡ false
      other x (Note y v) e = absurd (true≢false e)
      other x (Marker p) e = refl
      other x (Move y a) e = refl
      other x (Operate y o a b) e = refl
      other x (Truncate y t a) e = refl
      other x (Same y a b) e = refl
      other x (Address y object) e = refl
      other x (Load y f l) e = refl
      other x (Store f l a) e = refl
      other x (Zero object words) e = refl
      other x (CopyWords object bytes words) e = refl
      other x (Call y f all) e = refl

  either : {C : Type 0} (b : Bool) → (b ≡ true → C) → (b ≡ false → C) → C
  either true t f = t refl
  either false t f = f refl

  -- where a note was passed, and where none was
  place_noted : (x : ℕ) (p : Passed) (h : History) → notes x p.instruction ≡ true → noted_place g x (p ∷ h) ≡ place_where g p.block p.left
  place_noted x p h e = ap (λ b. if b then place_where g p.block p.left else noted_place g x h) e

  place_kept : (x : ℕ) (p : Passed) (h : History) → notes x p.instruction ≡ false → noted_place g x (p ∷ h) ≡ noted_place g x h
  place_kept x p h e = ap (λ b. if b then place_where g p.block p.left else noted_place g x h) e

  first_least : (x q v d : ℕ) (place c : Option ℕ) → IsFirstOf log g place x c → place ≡ Some q → IsVariable g x v → IsRemoval log q v d → IsAtMost c d
  first_least x q v d place None none at of removed = absurd (none q v d at of removed)
  first_least x q v d place (Some c) first at of removed =
      let in_place : q ≡ first.0 = same_Some q first.0 (sym at ∙ first.2) in
      let variable : v ≡ first.1 = same_Some v first.1 (sym of ∙ first.3) in
      first.4.first d (subst (λ k. IsRemoval log k first.1 d) in_place (subst (λ k. IsRemoval log q k d) variable removed))

  -- no change is less behind an instruction either
  pub least_step : (s t : declared-state.State) (p : Passed) (h : History) → IsToldBy log g p.instruction (place_where g p.block p.left) s t → IsLeastTold log g s h → IsLeastTold log g t (p ∷ h)
  least_step s t p h told least x c number said source = either (notes x p.instruction)
      (λ e. first_least x source.place source.variable number (place_where g p.block p.left) c (told.first x c e said) (sym (place_noted x p h e) ∙ source.stands) source.of source.removed)
      (λ e. least x c number (told.before x c e said) (record { place = source.place; variable = source.variable; stands = sym (place_kept x p h e) ∙ source.stands; of = source.of; removed = source.removed }))

  pub least_first : (s : declared-state.State) → IsLeastTold log g s []
  least_first s x c number said source = absurd (none-some source.place source.stands)

  pub least_within : (s t : declared-state.State) (h : History) → IsWithin s t → IsLeastTold log g t h → IsLeastTold log g s h
  least_within s t h within least x c number said source =
      let more = within.told x c said in
      more.2 number (least x more.0 number more.1 source)

  extended : (h : History) (n : ℕ) (i : Instruction) (rest : List Instruction) (e : End) → Path g h n (i ∷ rest) e → Path g (record { block = n; left = length rest; instruction = i; wrote = Odd } ∷ h) n rest e
  extended h n i rest e (path b at way) = path b at (passes way Odd)

  led : (h : History) (n l : ℕ) (e : End) (c : Block) → Path g h n [] e → Among l (targets_of e) → slice_get g.blocks l ≡ Some c → Path g h l c.instructions c.end
  led h n l e c (path b at way) among is = path b at (goes way among c is)

  -- each change that is told is that of a path behind an instruction too
  pub attained_step : (s t : declared-state.State) (n : ℕ) (i : Instruction) (rest : List Instruction) (e : End) → IsToldBy log g i (place_where g n (length rest)) s t → IsAttained log g s n (i ∷ rest) e → IsAttained log g t n rest e
  attained_step s t n i rest e told all = record { history = p ∷ all.history; way = extended all.history n i rest e all.way; source = source }
    where
      p : Passed
      p = record { block = n; left = length rest; instruction = i; wrote = Odd }

      source : (x c : ℕ) → told_in t.noted.items x ≡ Some (Some c) → (h : History) × Path g h n rest e × IsSource log g x h c
      source x c said = either (notes x i) at_note at_plain
        where
          at_note : notes x i ≡ true → (h : History) × Path g h n rest e × IsSource log g x h c
          at_note noted =
              let first = told.first x (Some c) noted said in
              (p ∷ all.history, extended all.history n i rest e all.way, record { place = first.0; variable = first.1; stands = place_noted x p all.history noted ∙ first.2; of = first.3; removed = first.4.is })

          at_plain : notes x i ≡ false → (h : History) × Path g h n rest e × IsSource log g x h c
          at_plain plain =
              let before = all.source x c (told.before x (Some c) plain said) in
              let old = before.2 in
              (p ∷ before.0, extended before.0 n i rest e before.1, record { place = old.place; variable = old.variable; stands = place_kept x p before.0 plain ∙ old.stands; of = old.of; removed = old.removed })

  -- the same in a block to which one leads
  pub attained_next : (n l : ℕ) (e : End) (c : Block) (s : declared-state.State) → Among l (targets_of e) → slice_get g.blocks l ≡ Some c → IsAttained log g s n [] e → IsAttained log g s l c.instructions c.end
  attained_next n l e c s among is all = record {
    history = all.history;
    way = led all.history n l e c all.way among is;
    source = λ x d said. (let before = all.source x d said in (before.0, led before.0 n l e c before.1 among is, before.2));
  }

  -- what two states leave
  pub attained_joined : (n : ℕ) (rest : List Instruction) (e : End) (one other both : declared-state.State) → IsJoined one other both → IsAttained log g one n rest e → IsAttained log g other n rest e → IsAttained log g both n rest e
  attained_joined n rest e one other both joined a b = record {
    history = a.history;
    way = a.way;
    source = λ x c said. elim (joined.told x (Some c) said) [ inl f ↦ a.source x c f | inr f ↦ b.source x c f ];
  }

  -- an equal state
  pub attained_equal : (n : ℕ) (rest : List Instruction) (e : End) (s t : declared-state.State) → IsEqual s t → IsAttained log g t n rest e → IsAttained log g s n rest e
  attained_equal n rest e s t equal all = record {
    history = all.history;
    way = all.way;
    source = λ x c said. all.source x c (subst (λ (xs : List declared-noted.Noted). told_in xs x ≡ Some (Some c)) equal.noted said);
  }

  -- where a function begins nothing is told
  pub attained_first : (c : Block) (s : declared-state.State) → slice_get g.blocks 0 ≡ Some c → ((x : ℕ) (d : Option ℕ) → told_in s.noted.items x ≡ Some d → ⊥) → IsAttained log g s 0 c.instructions c.end
  attained_first c s at none = record { history = []; way = path c at stays; source = λ x d said. absurd (none x (Some d) said) }

-- the place in force behind one more instruction
place_last : (before : List Instruction) (i : Instruction) (place : Option ℕ) → place_behind (before ++ (i ∷ [])) place ≡ place_behind (i ∷ []) (place_behind before place)
place_last [] i place = refl
place_last (Marker p ∷ before) i place = place_last before i (Some p)
place_last (Note x v ∷ before) i place = place_last before i place
place_last (Move x a ∷ before) i place = place_last before i place
place_last (Operate x o a b ∷ before) i place = place_last before i place
place_last (Truncate x t a ∷ before) i place = place_last before i place
place_last (Same x a b ∷ before) i place = place_last before i place
place_last (Address x object ∷ before) i place = place_last before i place
place_last (Load x e l ∷ before) i place = place_last before i place
place_last (Store e l a ∷ before) i place = place_last before i place
place_last (Zero object words ∷ before) i place = place_last before i place
place_last (CopyWords object bytes words ∷ before) i place = place_last before i place
place_last (Call x f all ∷ before) i place = place_last before i place

-- so many are left behind the first ones
left_behind : {A B : Type 0} (view : A → B) (items : List A) (k : ℕ) → k ≤ length items → length (map view items) - length (map view (drop k items)) ≡ k
left_behind view items k le =
    let whole = length-map items view in
    let rest = length-map (drop k items) view in
    let left = length-drop k items in
    omega (arith, whole, rest, left, le)

module _ {A : Type 0} (view : A → Instruction) (items : List A) (place : Option ℕ) where
  -- the place in force behind the first so many of a block's instructions
  abbrev pub place_behind_first : (k : ℕ) → Option ℕ
  place_behind_first k = place_behind (map view (take k items)) place

  -- one more
  pub place_next : (k : ℕ) (d : A) → k < length items → place_behind_first (k + 1) ≡ place_behind (view (get_or items k d) ∷ []) (place_behind_first k)
  place_next k d lt =
      ap (λ l. place_behind l place) (ap (map view) (take_one_more items k (get_or items k d) lt (get_any items k d (get_or items k d) lt)) ∙ map-append view (take k items) (get_or items k d ∷ [])) ∙ place_last (map view (take k items)) (view (get_or items k d)) place

  -- that is the place in force where the others are left
  pub place_there : (g : Graph) (n k : ℕ) (b : Block) → slice_get g.blocks n ≡ Some b → b.instructions ≡ map view items → b.place ≡ place → k ≤ length items → place_where g n (length (map view (drop k items))) ≡ place_behind_first k
  place_there g n k b is same begins le =
      let left = left_behind view items k le in
      ap (λ o. option_map_or (λ (c : Block). place_behind (take (length c.instructions - length (map view (drop k items))) c.instructions) c.place) o None) is
      ∙ ap (λ (l : List Instruction). place_behind (take (length l - length (map view (drop k items))) l) b.place) same
      ∙ ap (λ m. place_behind (take m (map view items)) b.place) left
      ∙ ap (λ (l : List Instruction). place_behind l b.place) (take-map view k items)
      ∙ ap (λ o. place_behind (map view (take k items)) o) begins

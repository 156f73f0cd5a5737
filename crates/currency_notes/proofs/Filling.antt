-- A state that is full at a point is full at the next one.
use mathlib.Core.Bool.{true≢false}
use Rattle.std.proofs.Common.{◌≡◌, ℕ, ◌+◌, ◌<◌, true, false, Option, Some, None, List, [], ◌∷◌, ◌++◌, get_or, length, map, take, refl, sym, ap, subst, ◌∙◌}
use Rattle.std.specs.Prelude.{slice_get, slice_set, ◌||◌, if◌then◌else◌}
use Rattle.std.proofs.lemmas.Bool.{eq-eqb, eqb-true}
use Rattle.std.proofs.lemmas.List.{length-set, map-append}
use Rattle.std.proofs.lemmas.Option.{none-some, same_Some}
use Rattle.graph_homes.specs.declared.home.Home.{Home}
use Rattle.graph_homes.specs.Homes.{bound_last, is_home_of, is_same_home, last_writer, written_since}
use Rattle.graph_core.specs.declared.graph.Binding as declared-binding
use Rattle.graph_core.specs.declared.value.Value.TheVariants.{Odd}
use Rattle.graph_core.specs.Graphs.{Recipe, NoteValue, Is, Instruction, Marker, Note, Move, Operate, Truncate, Same, Address, Load, Store, Zero, CopyWords, Call, Binding, ToScalar, ToObject, Block, End, Graph, binding_view}
use Rattle.graph_core.specs.Uses.{target_of, targets_of}
use Rattle.graph_core.specs.Paths.{Among, front, behind, History, Path, Way, path, stays, passes, goes, last_note, note_by, notes}
use Rattle.currency_notes.specs.declared.function.Function as declared-function
use Rattle.currency_notes.specs.declared.homes.Homes as declared-homes
use Rattle.currency_notes.specs.declared.state.State as declared-state
use Rattle.currency_notes.specs.Homes.{home_by, number_in, IsRead, IsUnread}
use Rattle.currency_notes.specs.Notes.{recipe_in, IsBound, IsJoined, IsKept, IsWithin}
use Rattle.currency_notes.specs.Numbered.{AreNumbered, AreToldApart, IsNoteIn}
use Rattle.currency_notes.specs.Full.{IsEqual, IsFull, IsLeft}
use Rattle.currency_notes.specs.Ranks.{IsSized}
use Rattle.currency_notes.proofs.Lists.{get_any, get_put_other, get_put_same, take_one_more}
use Rattle.currency_notes.proofs.Steps.{bound_more, same_self}
use Rattle.currency_notes.proofs.Sourcing.{told_equal}
use Rattle.base_laws.proofs.Booleans.{by_bool as either, neither as or_false}

-- an instruction that is no note of a scalar changes none of its notes
plain_note : (x : ℕ) (i : Instruction) (before : Option NoteValue) → notes x i ≡ false → note_by x i before ≡ before
plain_note x (Note y v) before e = ap (λ b. if b then Some v else before) e
plain_note x (Marker p) before e = refl
plain_note x (Move y a) before e = refl
plain_note x (Operate y o a b) before e = refl
plain_note x (Truncate y t a) before e = refl
plain_note x (Same y a b) before e = refl
plain_note x (Address y object) before e = refl
plain_note x (Load y f l) before e = refl
plain_note x (Store f l a) before e = refl
plain_note x (Zero object words) before e = refl
plain_note x (CopyWords object bytes words) before e = refl
plain_note x (Call y f all) before e = refl

-- what a note of a scalar is
noted_by : (x : ℕ) (i : Instruction) → notes x i ≡ true → (v : NoteValue) × (i ≡ Note x v)
noted_by x (Note y v) e = (v, ap (λ k. Note k v) (eqb-true y x e))
noted_by x (Marker p) e = absurd (true≢false (sym e))
noted_by x (Move y a) e = absurd (true≢false (sym e))
noted_by x (Operate y o a b) e = absurd (true≢false (sym e))
noted_by x (Truncate y t a) e = absurd (true≢false (sym e))
noted_by x (Same y a b) e = absurd (true≢false (sym e))
noted_by x (Address y object) e = absurd (true≢false (sym e))
noted_by x (Load y f l) e = absurd (true≢false (sym e))
noted_by x (Store f l a) e = absurd (true≢false (sym e))
noted_by x (Zero object words) e = absurd (true≢false (sym e))
noted_by x (CopyWords object bytes words) e = absurd (true≢false (sym e))
noted_by x (Call y f all) e = absurd (true≢false (sym e))

note_same : (x : ℕ) (v : NoteValue) (before : Option NoteValue) → note_by x (Note x v) before ≡ Some v
note_same x v before = ap (λ b. if b then Some v else before) (eq-eqb x x refl)

-- an instruction that is passed
abbrev passing : (n : ℕ) → Instruction → List Instruction → History → History
passing n i rest h = record { block = n; left = length rest; instruction = i; wrote = Odd } ∷ h

module _ (g : Graph) where
  extend : (h : History) (n : ℕ) (i : Instruction) (rest : List Instruction) (e : End) → Path g h n (i ∷ rest) e → Path g (passing n i rest h) n rest e
  extend h n i rest e (path b at way) = path b at (passes way Odd)

  lead : (h : History) (n l : ℕ) (e : End) (c : Block) → Path g h n [] e → Among l (targets_of e) → slice_get g.blocks l ≡ Some c → Path g h l c.instructions c.end
  lead h n l e c (path b at way) among is = path b at (goes way among c is)

  -- what a path stands before is of its block
  of_block : {b : Block} {h : History} {n : ℕ} {rest : List Instruction} {e : End} → slice_get g.blocks 0 ≡ Some b → Way g 0 b.instructions b.end h n rest e
      → (c : Block) × (slice_get g.blocks n ≡ Some c) × ((i : Instruction) → Among i rest → Among i c.instructions)
  of_block {b} at stays = (b, at, λ i there. there)
  of_block at (passes way v) = (let c = of_block at way in (c.0, c.1, λ j there. c.2 j (behind there)))
  of_block at (goes way among c is) = (c, is, λ i there. there)

  note_in : (x : ℕ) (r : Recipe) (h : History) (n : ℕ) (rest : List Instruction) (e : End) → x < length g.scalars → Path g h n (Note x (Is r) ∷ rest) e → IsNoteIn g x r
  note_in x r h n rest e lt (path b at way) = (let c = of_block at way in record { n = n; block = c.0; scalar = lt; is = c.1; among = c.2 (Note x (Is r)) front })

-- the last note of a path stands in the graph
way_note : {g : Graph} {b : Block} {h : History} {n : ℕ} {rest : List Instruction} {e : End} → slice_get g.blocks 0 ≡ Some b → Way g 0 b.instructions b.end h n rest e → (x : ℕ) (r : Recipe) → x < length g.scalars → last_note x h ≡ Some (Is r) → IsNoteIn g x r
way_note at stays x r lt said = absurd (none-some (Is r) said)
way_note {g} {b} at (passes {h} {n} {i} {left} {e} way v) x r lt said =
    either (notes x i)
    (λ f. (let w = noted_by x i f in
    let says : w.0 ≡ Is r = same_Some w.0 (Is r) (sym (note_same x w.0 (last_note x h)) ∙ ap (λ (j : Instruction). note_by x j (last_note x h)) (sym w.1) ∙ said) in
    let is : i ≡ Note x (Is r) = w.1 ∙ ap (λ (u : NoteValue). Note x u) says in
    note_in g x r h n left e lt (path b at (subst (λ (j : Instruction). Way g 0 b.instructions b.end h n (j ∷ left) e) is way))))
    (λ f. way_note at way x r lt (sym (plain_note x i (last_note x h) f) ∙ said))
way_note at (goes way among c is) x r lt said = way_note at way x r lt said

pub path_note : (g : Graph) (h : History) (n : ℕ) (rest : List Instruction) (e : End) → Path g h n rest e → (x : ℕ) (r : Recipe) → x < length g.scalars → last_note x h ≡ Some (Is r) → IsNoteIn g x r
path_note g h n rest e (path b at way) x r lt said = way_note at way x r lt said

-- as many homes as before
put_size : (m : declared-homes.Homes) (z : ℕ) (s t : declared-state.State) → (number_in m z ≡ None → t.written.items ≡ s.written.items) → ((j : ℕ) → number_in m z ≡ Some j → t.written.items ≡ slice_set s.written.items j (Some z)) → length t.written.items ≡ length s.written.items
put_size m z s t none put = at_number (number_in m z) refl
  where
    at_number : (o : Option ℕ) → number_in m z ≡ o → length t.written.items ≡ length s.written.items
    at_number None q = ap (λ xs. length xs) (none q)
    at_number (Some j) q = ap (λ xs. length xs) (put j q) ∙ length-set s.written.items j (Some z)

-- the same behind an instruction
pub kept_homes : (m : declared-homes.Homes) (i : Instruction) (s t : declared-state.State) → IsKept m i s t → length t.written.items ≡ length s.written.items
kept_homes m i s t kept = at_target (target_of i) refl
  where
    at_target : (o : Option ℕ) → target_of i ≡ o → length t.written.items ≡ length s.written.items
    at_target None q = ap (λ xs. length xs) (kept.none (λ z j target given. none-some z (sym q ∙ target)))
    at_target (Some z) q = put_size m z s t (λ none. kept.none (λ w j target given. none-some j (sym none ∙ ap (λ a. number_in m a) (same_Some z w (sym q ∙ target)) ∙ given))) (λ j given. kept.put z j q given)

-- a state of a function is one behind an instruction
pub kept_sized : (f : declared-function.Function) (i : Instruction) (s t : declared-state.State) → IsKept f.homes i s t → IsSized f s → IsSized f t
kept_sized f i s t kept sized = (kept.size ∙ sized.0, kept_homes f.homes i s t kept ∙ sized.1)

module _ (m : declared-homes.Homes) (g : Graph) (told : AreToldApart m) (numbered : AreNumbered m g) where
  abbrev home : ℕ → Home
  home = home_by m

  -- what was not written before an instruction behind which it is not, where that is no note
  unwritten : (x : ℕ) (k : Home) (n : ℕ) (i : Instruction) (rest : List Instruction) (h : History) → notes x i ≡ false → written_since home x k (passing n i rest h) ≡ false → (is_home_of home k (target_of i) ≡ false) × (written_since home x k h ≡ false)
  unwritten x k n i rest h plain e = or_false (is_home_of home k (target_of i)) (written_since home x k h) (sym (ap (λ b. if b then false else (is_home_of home k (target_of i) || written_since home x k h)) plain) ∙ e)

  -- names of homes of one number are kept in one
  one_home : (y z : ℕ) → IsRead m y z → is_same_home (home z) (home y) ≡ true
  one_home y z read = subst (λ k. is_same_home (home z) k ≡ true) (sym (told y z read)) (same_self (home z))

  -- for which name a home was last written, behind a write
  put_held : (z y k : ℕ) (s t : declared-state.State) → number_in m y ≡ Some k → length s.written.items ≡ length m.readers.items → (number_in m z ≡ None → t.written.items ≡ s.written.items) → ((j : ℕ) → number_in m z ≡ Some j → t.written.items ≡ slice_set s.written.items j (Some z))
      → (is_same_home (home z) (home y) ≡ true → z ≡ y) → (is_same_home (home z) (home y) ≡ false → slice_get s.written.items k ≡ Some (Some y)) → slice_get t.written.items k ≡ Some (Some y)
  put_held z y k s t number size none put same other = either (is_same_home (home z) (home y)) at_same at_other
    where
      at_same : is_same_home (home z) (home y) ≡ true → slice_get t.written.items k ≡ Some (Some y)
      at_same e =
          let one : z ≡ y = same e in
          let lt : k < length s.written.items = subst (λ c. k < c) (sym size) (numbered.within y k number) in
          ap (λ xs. slice_get xs k) (put k (ap (λ n. number_in m n) one ∙ number)) ∙ get_put_same s.written.items k (Some z) lt ∙ ap (λ (n : ℕ). Some (Some n)) one

      at_number : (is_same_home (home z) (home y) ≡ false) → (o : Option ℕ) → number_in m z ≡ o → slice_get t.written.items k ≡ Some (Some y)
      at_number e None q = ap (λ xs. slice_get xs k) (none q) ∙ other e
      at_number e (Some j) q =
          ap (λ xs. slice_get xs k) (put j q) ∙ get_put_other s.written.items j (Some z) k (λ one. true≢false (sym (one_home y z (numbered.apart y z k number (q ∙ ap Some (sym one)))) ∙ e)) ∙ other e

      at_other : is_same_home (home z) (home y) ≡ false → slice_get t.written.items k ≡ Some (Some y)
      at_other e = at_number e (number_in m z) refl

  module _ (n : ℕ) (i : Instruction) (rest : List Instruction) (e : End) (s t : declared-state.State) (kept : IsKept m i s t) (full : IsFull m g s n (i ∷ rest) e) where
    here : Path g (passing n i rest full.history) n rest e
    here = extend g full.history n i rest e full.way

    noted_next : (x : ℕ) (r : Recipe) → x < length g.scalars → ((h : History) → Path g h n rest e → IsLeft home x r h) → recipe_in t.noted.items x ≡ Some r
    noted_next x r lt all = either (notes x i) at_note at_plain
      where
        left : IsLeft home x r (passing n i rest full.history)
        left = all (passing n i rest full.history) here

        at_note : notes x i ≡ true → recipe_in t.noted.items x ≡ Some r
        at_note f =
            let v = noted_by x i f in
            let says : v.0 ≡ Is r = same_Some v.0 (Is r) (sym (note_same x v.0 (last_note x full.history)) ∙ ap (λ (j : Instruction). note_by x j (last_note x full.history)) (sym v.1) ∙ left.note) in
            let is : i ≡ Note x (Is r) = v.1 ∙ ap (λ (w : NoteValue). Note x w) says in
            kept.noted x r is (subst (λ c. x < c) (sym full.scalars) lt) (numbered.readers x r (note_in g x r full.history n rest e lt (subst (λ (j : Instruction). Path g full.history n (j ∷ rest) e) is full.way)))

        at_plain : notes x i ≡ false → recipe_in t.noted.items x ≡ Some r
        at_plain f = kept.kept x r (full.noted x r lt before) f unread
          where
            before : (h : History) → Path g h n (i ∷ rest) e → IsLeft home x r h
            before h way =
                let l = all (passing n i rest h) (extend g h n i rest e way) in record {
                  note = sym (plain_note x i (last_note x h) f) ∙ l.note;
                  before = λ y among. (unwritten x (home y) n i rest h f (l.before y among)).1;
                }

            unread : (z : ℕ) → target_of i ≡ Some z → IsUnread m r z
            unread z target y among read =
                true≢false (sym (one_home y z read) ∙ ap (λ o. is_home_of home (home y) o) (sym target) ∙ (unwritten x (home y) n i rest full.history f (left.before y among)).0)

    -- the name for which a home was last written behind the instruction
    last_by : (y : ℕ) → History → Option ℕ
    last_by y h = if is_home_of home (home y) (target_of i) then target_of i else last_writer home g.parameters (home y) h

    written_next : (y k : ℕ) → number_in m y ≡ Some k → ((h : History) → Path g h n rest e → last_writer home g.parameters (home y) h ≡ Some y) → slice_get t.written.items k ≡ Some (Some y)
    written_next y k number all = at_target (target_of i) refl
      where
        other : is_home_of home (home y) (target_of i) ≡ false → slice_get s.written.items k ≡ Some (Some y)
        other f =
            full.written y k number (λ h way. sym (ap (λ b. if b then target_of i else last_writer home g.parameters (home y) h) f) ∙ all (passing n i rest h) (extend g h n i rest e way))

        same : is_home_of home (home y) (target_of i) ≡ true → target_of i ≡ Some y
        same f = sym (ap (λ b. if b then target_of i else last_writer home g.parameters (home y) full.history) f) ∙ all (passing n i rest full.history) here

        at_target : (o : Option ℕ) → target_of i ≡ o → slice_get t.written.items k ≡ Some (Some y)
        at_target None q = ap (λ xs. slice_get xs k) (kept.none (λ z j target given. none-some z (sym q ∙ target))) ∙ other (ap (λ o. is_home_of home (home y) o) q)
        at_target (Some z) q =
            put_held z y k s t number full.homes (λ none. kept.none (λ w j target given. none-some j (sym none ∙ ap (λ a. number_in m a) (same_Some z w (sym q ∙ target)) ∙ given))) (λ j given. kept.put z j q given)
            (λ f. same_Some z y (sym q ∙ same (ap (λ o. is_home_of home (home y) o) q ∙ f))) (λ f. other (ap (λ o. is_home_of home (home y) o) q ∙ f))

    -- a state is full behind an instruction
    pub full_step : IsFull m g t n rest e
    full_step = record {
      history = passing n i rest full.history;
      way = here;
      noted = noted_next;
      written = written_next;
      scalars = kept.size ∙ full.scalars;
      homes = kept_homes m i s t kept ∙ full.homes;
    }

module _ (m : declared-homes.Homes) (g : Graph) where
  -- a state is full in a block to which one leads
  pub full_next : (n l : ℕ) (e : End) (c : Block) (s : declared-state.State) → Among l (targets_of e) → slice_get g.blocks l ≡ Some c → IsFull m g s n [] e → IsFull m g s l c.instructions c.end
  full_next n l e c s among is full = record {
    history = full.history;
    way = lead g full.history n l e c full.way among is;
    noted = λ x r lt all. full.noted x r lt (λ h way. all h (lead g h n l e c way among is));
    written = λ y k number all. full.written y k number (λ h way. all h (lead g h n l e c way among is));
    scalars = full.scalars;
    homes = full.homes;
  }

  -- what two full states leave is full
  pub full_joined : (n : ℕ) (rest : List Instruction) (e : End) (one other both : declared-state.State) → IsJoined one other both → IsFull m g one n rest e → IsFull m g other n rest e → IsFull m g both n rest e
  full_joined n rest e one other both joined a b = record {
    history = a.history;
    way = a.way;
    noted = λ x r lt all. joined.noted x r (a.noted x r lt all) (b.noted x r lt all);
    written = λ y k number all. joined.written k y (a.written y k number all) (b.written y k number all);
    scalars = joined.sizes.0 ∙ a.scalars;
    homes = joined.sizes.1 ∙ a.homes;
  }

  -- an equal state is full
  pub full_equal : (n : ℕ) (rest : List Instruction) (e : End) (s t : declared-state.State) → IsEqual s t → IsFull m g t n rest e → IsFull m g s n rest e
  full_equal n rest e s t equal full = record {
    history = full.history;
    way = full.way;
    noted = λ x r lt all. ap (λ xs. recipe_in xs x) equal.noted ∙ full.noted x r lt all;
    written = λ y k number all. ap (λ xs. slice_get xs k) equal.written ∙ full.written y k number all;
    scalars = ap (λ xs. length xs) equal.noted ∙ full.scalars;
    homes = ap (λ xs. length xs) equal.written ∙ full.homes;
  }

  -- a state is full where a function begins
  pub full_first : (c : Block) (s : declared-state.State) → slice_get g.blocks 0 ≡ Some c → length s.noted.items ≡ length g.scalars → length s.written.items ≡ length m.readers.items
      → ((y k : ℕ) → number_in m y ≡ Some k → bound_last (home_by m) (home_by m y) g.parameters None ≡ Some y → slice_get s.written.items k ≡ Some (Some y)) → IsFull m g s 0 c.instructions c.end
  full_first c s at scalars homes bound = record {
    history = [];
    way = path c at stays;
    noted = λ x r lt all. absurd (none-some (Is r) (all [] (path c at stays)).note);
    written = λ y k number all. bound y k number (all [] (path c at stays));
    scalars = scalars;
    homes = homes;
  }

-- of equal states none has more
pub within_equal : (s t : declared-state.State) → IsEqual s t → IsWithin s t
within_equal s t equal = record {
  noted = λ x r said. subst (λ xs. recipe_in xs x ≡ Some r) equal.noted said;
  written = λ k y said. subst (λ xs. slice_get xs k ≡ Some (Some y)) equal.written said;
  told = told_equal s.noted.items t.noted.items equal.noted;
}

-- Homes were last written for the names that parameters are bound to.
abbrev pub AreBound : declared-homes.Homes → declared-state.State → List Binding → Type 0
AreBound m s before = (y k : ℕ) → number_in m y ≡ Some k → bound_last (home_by m) (home_by m y) before None ≡ Some y → slice_get s.written.items k ≡ Some (Some y)

bound_sizes : (m : declared-homes.Homes) (b : Binding) (s t : declared-state.State) → IsBound m b s t → (length t.noted.items ≡ length s.noted.items) × (length t.written.items ≡ length s.written.items)
bound_sizes m (ToScalar z) s t w = (w.size, put_size m z s t w.none w.put)
bound_sizes m (ToObject object) s t same = (ap (λ (u : declared-state.State). length u.noted.items) same, ap (λ (u : declared-state.State). length u.written.items) same)

-- as many scalars and homes as before, where the next parameter of a list is bound
pub next_sizes : (m : declared-homes.Homes) (ps : List declared-binding.Binding) (i : ℕ) (d : declared-binding.Binding) (s t : declared-state.State) → IsBound m (binding_view (get_or ps i d)) s t → (length t.noted.items ≡ length s.noted.items) × (length t.written.items ≡ length s.written.items)
next_sizes m ps i d s t bound = bound_sizes m (binding_view (get_or ps i d)) s t bound

bound_full : (m : declared-homes.Homes) (g : Graph) → AreToldApart m → AreNumbered m g → (b : Binding) (s t : declared-state.State) (before : List Binding) → IsBound m b s t → length s.written.items ≡ length m.readers.items → AreBound m s before → AreBound m t (before ++ (b ∷ []))
bound_full m g told numbered (ToScalar z) s t before w size each y k number e =
    let last : Option ℕ = bound_last (home_by m) (home_by m y) before None in
    let now : (if is_same_home (home_by m z) (home_by m y) then Some z else last) ≡ Some y = sym (bound_more (home_by m) (home_by m y) before (ToScalar z) None) ∙ e in
    put_held m g told numbered z y k s t number size w.none w.put (λ f. same_Some z y (sym (ap (λ b. if b then Some z else last) f) ∙ now)) (λ f. each y k number (sym (ap (λ b. if b then Some z else last) f) ∙ now))
bound_full m g told numbered (ToObject object) s t before same size each y k number e =
    ap (λ (u : declared-state.State). slice_get u.written.items k) same ∙ each y k number (sym (bound_more (home_by m) (home_by m y) before (ToObject object) None) ∙ e)

-- the next parameter of a list is bound
pub next_full : (m : declared-homes.Homes) (g : Graph) → AreToldApart m → AreNumbered m g → (ps : List declared-binding.Binding) (i : ℕ) (d : declared-binding.Binding) (s t : declared-state.State) → i < length ps → IsBound m (binding_view (get_or ps i d)) s t → length s.written.items ≡ length m.readers.items
    → AreBound m s (map binding_view (take i ps)) → AreBound m t (map binding_view (take (i + 1) ps))
next_full m g told numbered ps i d s t lt bound size each =
    let b : declared-binding.Binding = get_or ps i d in
    let grown : map binding_view (take (i + 1) ps) ≡ map binding_view (take i ps) ++ (binding_view b ∷ []) = ap (map binding_view) (take_one_more ps i b lt (get_any ps i d b lt)) ∙ map-append binding_view (take i ps) (b ∷ []) in
    subst (λ (l : List Binding). AreBound m t l) (sym grown) (bound_full m g told numbered (binding_view b) s t (map binding_view (take i ps)) bound size each)

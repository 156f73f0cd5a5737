-- In a well marked graph of which no assignment was removed, and whose names have slots of their own, the slot of a scalar shows its variable at each place where it is in scope.
use Rattle.std.proofs.Common.{◌≡◌, ℕ, ◌<◌, ◌⊎◌, inl, inr, Bool, true, false, Some, None, Option, List, [], ◌∷◌, length, slice_get, refl, sym, ap, ◌∙◌, subst, arith}
use Rattle.std.specs.Prelude.{◌==◌, ◌||◌, if◌then◌else◌, option_map}
use Rattle.std.specs.Option.{option_map_or}
use Rattle.std.specs.List.{AllByRecursion}
use Rattle.std.proofs.lemmas.Bool.{and_parts, eqb-true}
use Rattle.std.proofs.lemmas.Option.{none-some, slice_get_within}
use Rattle.places.specs.Flow.{can_go, assigns}
use Rattle.graph_homes.specs.declared.home.Home.{Home}
use Rattle.graph_homes.specs.declared.home.Home.TheVariants.{Slot}
use Rattle.graph_homes.specs.Homes.{is_same_home, is_home_of, bound_last, last_writer, written_since, HoldsOnAllPaths}
use Rattle.graph_core.specs.Graphs.{Name, Of, NoteValue, Is, Instruction, Marker, Note, End, Binding, ToScalar, ToObject, Scalar, Graph, UnitForm}
use Rattle.graph_core.specs.Uses.{target_of}
use Rattle.graph_core.specs.Paths.{Among, front, behind, Passed, History, Path, place_by, place_of, writes, is_marker, notes, is_bound, bound_at, written, owed, owed_by, note_by, last_note}
use Rattle.graph_core.specs.Validity.{IsBinding, IsGraph}
use Rattle.graph_core.specs.WellMarked.{IsVariable, IsWellMarked, WasTaken}
use Rattle.graph_core_weights.proofs.Standing.{IsMarked}
use Rattle.graph_core_weights.proofs.Passing.{Before, Kind, IsPlain, marks, noting, plain, Stands, kind_of, path_before, passed_valid, some_same, stands, target_low}
use Rattle.base_laws.proofs.Booleans.{neither as or_none}
use Rattle.base_laws.proofs.Numbers.{no as no_truth}

-- ---- Booleans

-- one of two is true
or_cases : (a b : Bool) → (a || b) ≡ true → (a ≡ true) ⊎ ((a ≡ false) × (b ≡ true))
or_cases true b e = inl refl
or_cases false b e = inr (refl, e)

-- a test is true or not
either : (a : Bool) → (a ≡ true) ⊎ (a ≡ false)
either true = inl refl
either false = inr refl

-- ---- A scalar and its slot

module _ (u : UnitForm) (g : Graph) (marked : IsWellMarked u g) (valid : IsGraph u g) (kept : (place variable : ℕ) → WasTaken u.log place variable → ⊥) (home : ℕ → Home) (slots : (y : ℕ) → y < g.name_count → home y ≡ Slot y)
    (x variable : ℕ) (is : IsVariable g x variable) where
  low : x < g.name_count
  low = by_scalar (slice_get g.scalars x) refl is
    where
      by_scalar : (o : Option Scalar) → slice_get g.scalars x ≡ o → option_map (λ (s : Scalar). s.variable) o ≡ Some variable → x < g.name_count
      by_scalar None e h = absurd (none-some variable h)
      by_scalar (Some s) e h =
          let inside = slice_get_within g.scalars x s e in
          let scalars = valid.scalars in
          let temporaries = valid.temporaries in
          omega (arith, inside, scalars, temporaries)

  same_slot : (y : ℕ) → y < g.name_count → is_same_home (home y) (home x) ≡ (y == x)
  same_slot y lt = ap (λ k. is_same_home k (home x)) (slots y lt) ∙ ap (λ k. is_same_home (Slot y) k) (slots x low)

  -- what writes the slot of the scalar is what writes the scalar
  home_test : {h : History} {n : ℕ} {i : Instruction} {left : List Instruction} {e : End} → Path g h n (i ∷ left) e → is_home_of home (home x) (target_of i) ≡ writes x i
  home_test {i = i} way = by_target (target_of i) refl
    where
      by_target : (t : Option ℕ) → target_of i ≡ t → is_home_of home (home x) t ≡ option_map_or (λ y. y == x) t false
      by_target None e = refl
      by_target (Some y) e = same_slot y (target_low u g i y (passed_valid u g marked valid way) e)

  writes_it : (i : Instruction) → writes x i ≡ true → target_of i ≡ Some x
  writes_it i h = by_target (target_of i) h
    where
      by_target : (t : Option ℕ) → option_map_or (λ y. y == x) t false ≡ true → t ≡ Some x
      by_target None e = no_truth e
      by_target (Some y) e = ap Some (eqb-true y x e)

  -- ---- Who wrote the slot last

  abbrev writer : History → Option ℕ
  writer h = last_writer home g.parameters (home x) h

  writer_step : (t b : Bool) (one before : Option ℕ) → t ≡ b → b ≡ true → (if t then one else before) ≡ one
  writer_step true b one before e h = refl
  writer_step false b one before e h = cc

  writer_kept : (t b : Bool) (one before : Option ℕ) → t ≡ b → b ≡ false → (if t then one else before) ≡ before
  writer_kept false b one before e h = refl
  writer_kept true b one before e h = cc

  -- an instruction that writes the scalar writes its slot for it, and any other one leaves that
  writes_slot : (q : Passed) (h : History) → Before g q h → writes x q.instruction ≡ true → writer (q ∷ h) ≡ Some x
  writes_slot q h before it =
      writer_step (is_home_of home (home x) (target_of q.instruction)) (writes x q.instruction) (target_of q.instruction) (writer h) (home_test before.way) it ∙ writes_it q.instruction it

  leaves_slot : (q : Passed) (h : History) → Before g q h → writes x q.instruction ≡ false → writer (q ∷ h) ≡ writer h
  leaves_slot q h before other = writer_kept (is_home_of home (home x) (target_of q.instruction)) (writes x q.instruction) (target_of q.instruction) (writer h) (home_test before.way) other

  bound_low : (y : ℕ) → y < length g.scalars → y < g.name_count
  bound_low y inside =
      let scalars = valid.scalars in
      let temporaries = valid.temporaries in
      omega (arith, inside, scalars, temporaries)

  -- a parameter that is bound to the scalar writes its slot for it, and any other one leaves that
  binds_slot : (y : ℕ) (more : List Binding) (before : Option ℕ) → (y == x) ≡ true → y < length g.scalars → bound_last home (home x) more (if is_same_home (home y) (home x) then Some y else before) ≡ bound_last home (home x) more (Some x)
  binds_slot y more before e inside =
      ap (λ t. bound_last home (home x) more (if t then Some y else before)) (same_slot y (bound_low y inside) ∙ e) ∙ ap (λ k. bound_last home (home x) more (Some k)) (eqb-true y x e)

  binds_other : (y : ℕ) (more : List Binding) (before : Option ℕ) → (y == x) ≡ false → y < length g.scalars → bound_last home (home x) more (if is_same_home (home y) (home x) then Some y else before) ≡ bound_last home (home x) more before
  binds_other y more before e inside = ap (λ t. bound_last home (home x) more (if t then Some y else before)) (same_slot y (bound_low y inside) ∙ e)

  stays_step : (y : ℕ) (more : List Binding) → y < length g.scalars → bound_last home (home x) more (Some x) ≡ Some x → bound_last home (home x) more (if is_same_home (home y) (home x) then Some y else Some x) ≡ Some x
  stays_step y more inside rest = by_test (either (y == x))
    where
      by_test : ((y == x) ≡ true) ⊎ ((y == x) ≡ false) → bound_last home (home x) more (if is_same_home (home y) (home x) then Some y else Some x) ≡ Some x
      by_test (inl e) = binds_slot y more (Some x) e inside ∙ rest
      by_test (inr e) = binds_other y more (Some x) e inside ∙ rest

  bound_stays : (ps : List Binding) → AllByRecursion (IsBinding g) ps → bound_last home (home x) ps (Some x) ≡ Some x
  bound_stays [] all = refl
  bound_stays (ToScalar y ∷ more) all = stays_step y more all.0 (bound_stays more all.1)
  bound_stays (ToObject object ∷ more) all = bound_stays more all.1

  bound_step : (y : ℕ) (more : List Binding) (before : Option ℕ) → y < length g.scalars → bound_last home (home x) more (Some x) ≡ Some x → (is_bound x more ≡ true → bound_last home (home x) more before ≡ Some x)
      → ((y == x) || is_bound x more) ≡ true → bound_last home (home x) more (if is_same_home (home y) (home x) then Some y else before) ≡ Some x
  bound_step y more before inside stays rest it = by_test (or_cases (y == x) (is_bound x more) it)
    where
      by_test : ((y == x) ≡ true) ⊎ (((y == x) ≡ false) × (is_bound x more ≡ true)) → bound_last home (home x) more (if is_same_home (home y) (home x) then Some y else before) ≡ Some x
      by_test (inl e) = binds_slot y more before e inside ∙ stays
      by_test (inr e) = binds_other y more before e.0 inside ∙ rest e.1

  bound_is : (ps : List Binding) (before : Option ℕ) → AllByRecursion (IsBinding g) ps → is_bound x ps ≡ true → bound_last home (home x) ps before ≡ Some x
  bound_is [] before all it = no_truth it
  bound_is (ToScalar y ∷ more) before all it = bound_step y more before all.0 (bound_stays more all.1) (λ h. bound_is more before all.1 h) it
  bound_is (ToObject object ∷ more) before all it = bound_is more before all.1 it

  -- what was passed last wrote the slot for the scalar, or left it so
  writer_on : (q : Passed) (h : History) → Before g q h → writer h ≡ Some x → writer (q ∷ h) ≡ Some x
  writer_on q h before rest = by_test (either (writes x q.instruction))
    where
      by_test : (writes x q.instruction ≡ true) ⊎ (writes x q.instruction ≡ false) → writer (q ∷ h) ≡ Some x
      by_test (inl w) = writes_slot q h before w
      by_test (inr w) = leaves_slot q h before w ∙ rest

  -- where a parameter is bound to the scalar, its slot was written for it
  bound_writer : (h : History) {n : ℕ} {rest : List Instruction} {e : End} → Path g h n rest e → is_bound x g.parameters ≡ true → writer h ≡ Some x
  bound_writer [] way it = bound_is g.parameters None valid.bindings it
  bound_writer (q ∷ h) way it = writer_on q h (path_before way) (bound_writer h (path_before way).way it)

  bound_there : (i : Instruction) → bound_at g x i ≡ true → is_bound x g.parameters ≡ true
  bound_there i it = by_kind (kind_of i) it
    where
      by_kind : Kind i → bound_at g x i ≡ true → is_bound x g.parameters ≡ true
      by_kind (marks p e) h = (and_parts (p == g.entry) (is_bound x g.parameters) (sym (ap (bound_at g x) e) ∙ h)).1
      by_kind (noting y v e) h = no_truth (sym (ap (bound_at g x) e) ∙ h)
      by_kind (plain r) h = no_truth (sym (r.unbound g x) ∙ h)

  -- where it was written in the place in force, its slot was written for it
  written_step : (q : Passed) (h : History) {n : ℕ} {rest : List Instruction} {e : End} → Path g (q ∷ h) n rest e → (written g x h ≡ true → writer h ≡ Some x) → written g x (q ∷ h) ≡ true → writer (q ∷ h) ≡ Some x
  written_step q h way before it = by_marker (is_marker q.instruction) it
    where
      by_write : (writes x q.instruction ≡ true) ⊎ ((writes x q.instruction ≡ false) × (written g x h ≡ true)) → writer (q ∷ h) ≡ Some x
      by_write (inl w) = writes_slot q h (path_before way) w
      by_write (inr w) = leaves_slot q h (path_before way) w.0 ∙ before w.1

      by_marker : (m : Bool) → (if m then bound_at g x q.instruction else writes x q.instruction || written g x h) ≡ true → writer (q ∷ h) ≡ Some x
      by_marker true e = bound_writer (q ∷ h) way (bound_there q.instruction e)
      by_marker false e = by_write (or_cases (writes x q.instruction) (written g x h) e)

  written_writer : (h : History) {n : ℕ} {rest : List Instruction} {e : End} → Path g h n rest e → written g x h ≡ true → writer h ≡ Some x
  written_writer [] way it = no_truth it
  written_writer (q ∷ h) way it = written_step q h way (λ w. written_writer h (path_before way).way w) it

  -- a note writes nothing
  note_writes : (i : Instruction) (y : ℕ) (v : NoteValue) → i ≡ Note y v → writes x i ≡ false
  note_writes i y v e = ap (writes x) e

  -- where its own note was passed, its slot was last written for it
  own_step : (q : Passed) (h : History) {n : ℕ} {rest : List Instruction} {e : End} → Path g (q ∷ h) n rest e → (last_note x h ≡ Some (Is (Of (Name x))) → writer h ≡ Some x) → last_note x (q ∷ h) ≡ Some (Is (Of (Name x))) → writer (q ∷ h) ≡ Some x
  own_step q h way earlier it = by_kind (kind_of q.instruction)
    where
      before : Before g q h
      before = path_before way

      by_note : (y : ℕ) (v : NoteValue) → q.instruction ≡ Note y v → (b : Bool) → (y == x) ≡ b → (if b then Some v else last_note x h) ≡ Some (Is (Of (Name x))) → writer (q ∷ h) ≡ Some x
      by_note y v e true same noted =
          let one : q.instruction ≡ Note x (Is (Of (Name x))) = e ∙ ap (λ k. Note k v) (eqb-true y x same) ∙ ap (Note x) (some_same noted) in
          leaves_slot q h before (note_writes q.instruction y v e)
          ∙ written_writer h before.way (marked.behind_write h before.number x before.left before.end (subst (λ i. Path g h before.number (i ∷ before.left) before.end) one before.way))
      by_note y v e false same noted = writer_on q h before (earlier noted)

      by_kind : Kind q.instruction → writer (q ∷ h) ≡ Some x
      by_kind (marks p e) = writer_on q h before (earlier (sym (ap (λ i. note_by x i (last_note x h)) e) ∙ it))
      by_kind (noting y v e) = by_note y v e (y == x) refl (sym (ap (λ i. note_by x i (last_note x h)) e) ∙ it)
      by_kind (plain r) = writer_on q h before (earlier (sym (r.note x (last_note x h)) ∙ it))

  own_writer : (h : History) {n : ℕ} {rest : List Instruction} {e : End} → Path g h n rest e → last_note x h ≡ Some (Is (Of (Name x))) → writer h ≡ Some x
  own_writer [] way it = absurd (none-some (Is (Of (Name x))) it)
  own_writer (q ∷ h) way it = own_step q h way (λ n. own_writer h (path_before way).way n) it

  -- ---- What was noted last

  no_note : (y p : ℕ) (v : NoteValue) → Note y v ≡ Marker p → ⊥
  no_note y p v e = cc

  first_of : {i j : Instruction} {xs ys : List Instruction} → i ∷ xs ≡ j ∷ ys → i ≡ j
  first_of e = cc

  -- a note stands in a place
  note_placed : (q : Passed) (h : History) → Before g q h → (y : ℕ) (v : NoteValue) → q.instruction ≡ Note y v → IsMarked h
  note_placed q h before y v e = by_mode (stands u g marked before.way)
    where
      by_mode : Stands u g marked h before.number (q.instruction ∷ before.left) before.end → IsMarked h
      by_mode s = elim s.so.mode [ inl start ↦ absurd (no_note y g.entry v (sym e ∙ first_of (start.whole ∙ (marked.begins s.first s.there).1))) | inr m ↦ m ]

  -- a note that a path passed is of the scalar itself
  note_step : (q : Passed) (h : History) {n : ℕ} {rest : List Instruction} {e : End} → Path g (q ∷ h) n rest e → (w : NoteValue) → (last_note x h ≡ Some w → w ≡ Is (Of (Name x))) → last_note x (q ∷ h) ≡ Some w → w ≡ Is (Of (Name x))
  note_step q h way w earlier it = by_kind (kind_of q.instruction)
    where
      before : Before g q h
      before = path_before way

      right : (v : NoteValue) → Path g h before.number (Note x v ∷ before.left) before.end → IsMarked h → v ≡ Is (Of (Name x))
      right v along m = elim (marked.right h before.number m.place x variable v before.left before.end is along m.is) [ inl own ↦ own.0 | inr gone ↦ absurd (kept m.place variable gone.2) ]

      by_note : (y : ℕ) (v : NoteValue) → q.instruction ≡ Note y v → (b : Bool) → (y == x) ≡ b → (if b then Some v else last_note x h) ≡ Some w → w ≡ Is (Of (Name x))
      by_note y v e true same noted =
          let one : q.instruction ≡ Note x v = e ∙ ap (λ k. Note k v) (eqb-true y x same) in
          sym (some_same noted) ∙ right v (subst (λ i. Path g h before.number (i ∷ before.left) before.end) one before.way) (note_placed q h before y v e)
      by_note y v e false same noted = earlier noted

      by_kind : Kind q.instruction → w ≡ Is (Of (Name x))
      by_kind (marks p e) = earlier (sym (ap (λ i. note_by x i (last_note x h)) e) ∙ it)
      by_kind (noting y v e) = by_note y v e (y == x) refl (sym (ap (λ i. note_by x i (last_note x h)) e) ∙ it)
      by_kind (plain r) = earlier (sym (r.note x (last_note x h)) ∙ it)

  note_is : (h : History) {n : ℕ} {rest : List Instruction} {e : End} → Path g h n rest e → (w : NoteValue) → last_note x h ≡ Some w → w ≡ Is (Of (Name x))
  note_is [] way w it = absurd (none-some w it)
  note_is (q ∷ h) way w it = note_step q h way w (λ n. note_is h (path_before way).way w n) it

  -- ---- Nothing is owed at markers

  abbrev assigned : ℕ → Bool
  assigned p = assigns u.assignments p variable

  abbrev touched : History → Bool
  touched h = written_since home x (home x) h

  -- where no note is owed, the slot was not written behind the last one
  untouched_step : (q : Passed) (h : History) → Before g q h → (owed assigned x h ≡ false → touched h ≡ false) → owed assigned x (q ∷ h) ≡ false → touched (q ∷ h) ≡ false
  untouched_step q h before earlier it = by_kind (kind_of q.instruction)
    where
      on : notes x q.instruction ≡ false → writes x q.instruction ≡ false → touched h ≡ false → touched (q ∷ h) ≡ false
      on silent idle rest = ap (λ b. if b then false else is_home_of home (home x) (target_of q.instruction) || touched h) silent ∙ ap (λ b. b || touched h) (home_test before.way ∙ idle) ∙ rest

      at_marker : (p : ℕ) → q.instruction ≡ Marker p → touched (q ∷ h) ≡ false
      at_marker p e =
          let along : Path g h before.number (Marker p ∷ before.left) before.end = subst (λ i. Path g h before.number (i ∷ before.left) before.end) e before.way in
          on (ap (notes x) e) (ap (writes x) e) (earlier (marked.noted h before.number p x variable before.left before.end is along))

      by_note : (y : ℕ) (v : NoteValue) → q.instruction ≡ Note y v → (b : Bool) → (y == x) ≡ b → (if b then false else false || owed assigned x h) ≡ false → touched (q ∷ h) ≡ false
      by_note y v e true same left = ap (λ b. if b then false else is_home_of home (home x) (target_of q.instruction) || touched h) (ap (notes x) e ∙ same)
      by_note y v e false same left = on (ap (notes x) e ∙ same) (ap (writes x) e) (earlier left)

      by_plain : IsPlain q.instruction → (writes x q.instruction ≡ false) × (owed assigned x h ≡ false) → touched (q ∷ h) ≡ false
      by_plain r none = on (r.silent x) none.0 (earlier none.1)

      by_kind : Kind q.instruction → touched (q ∷ h) ≡ false
      by_kind (marks p e) = at_marker p e
      by_kind (noting y v e) = by_note y v e (y == x) refl (sym (ap (λ i. owed_by assigned x i (owed assigned x h)) e) ∙ it)
      by_kind (plain r) = by_plain r (or_none (writes x q.instruction) (owed assigned x h) (sym (r.owes assigned x (owed assigned x h)) ∙ it))

  untouched : (h : History) {n : ℕ} {rest : List Instruction} {e : End} → Path g h n rest e → owed assigned x h ≡ false → touched h ≡ false
  untouched [] way it = refl
  untouched (q ∷ h) way it = untouched_step q h (path_before way) (λ n. untouched h (path_before way).way n) it

  -- a note of the scalar was passed
  record IsNoted (h : History) : Type 0 where
    note : NoteValue
    was : last_note x h ≡ Some note

  noted_on : (q : Passed) (h : History) → IsNoted h → IsNoted (q ∷ h)
  noted_on q h n = by_kind (kind_of q.instruction)
    where
      by_note : (y : ℕ) (v : NoteValue) → q.instruction ≡ Note y v → (b : Bool) → (y == x) ≡ b → IsNoted (q ∷ h)
      by_note y v e true same = record { note = v; was = ap (λ i. note_by x i (last_note x h)) e ∙ ap (λ b. if b then Some v else last_note x h) same }
      by_note y v e false same = record { note = n.note; was = ap (λ i. note_by x i (last_note x h)) e ∙ ap (λ b. if b then Some v else last_note x h) same ∙ n.was }

      by_kind : Kind q.instruction → IsNoted (q ∷ h)
      by_kind (marks p e) = record { note = n.note; was = ap (λ i. note_by x i (last_note x h)) e ∙ n.was }
      by_kind (noting y v e) = by_note y v e (y == x) refl
      by_kind (plain r) = record { note = n.note; was = r.note x (last_note x h) ∙ n.was }

  -- where the place in force assigns the variable and no note is owed, one was passed
  in_place_step : (q : Passed) (h : History) (p : ℕ) → (place_of h ≡ Some p → owed assigned x h ≡ false → IsNoted h) → place_of (q ∷ h) ≡ Some p → assigned p ≡ true → owed assigned x (q ∷ h) ≡ false → IsNoted (q ∷ h)
  in_place_step q h p earlier at it none = by_kind (kind_of q.instruction)
    where
      by_note : (y : ℕ) (v : NoteValue) → q.instruction ≡ Note y v → (b : Bool) → (y == x) ≡ b → (if b then false else false || owed assigned x h) ≡ false → IsNoted (q ∷ h)
      by_note y v e true same left = record { note = v; was = ap (λ i. note_by x i (last_note x h)) e ∙ ap (λ b. if b then Some v else last_note x h) same }
      by_note y v e false same left = noted_on q h (earlier (sym (ap (λ i. place_by i (place_of h)) e) ∙ at) left)

      at_marker : (r : ℕ) → q.instruction ≡ Marker r → IsNoted (q ∷ h)
      at_marker r e =
          let same : r ≡ p = some_same (sym (ap (λ i. place_by i (place_of h)) e) ∙ at) in
          let owes : assigned r ≡ false = sym (ap (λ i. owed_by assigned x i (owed assigned x h)) e) ∙ none in
          no_truth (sym owes ∙ ap assigned same ∙ it)

      by_kind : Kind q.instruction → IsNoted (q ∷ h)
      by_kind (marks r e) = at_marker r e
      by_kind (noting y v e) = by_note y v e (y == x) refl (sym (ap (λ i. owed_by assigned x i (owed assigned x h)) e) ∙ none)
      by_kind (plain r) = noted_on q h (earlier (sym (r.place (place_of h)) ∙ at) (or_none (writes x q.instruction) (owed assigned x h) (sym (r.owes assigned x (owed assigned x h)) ∙ none)).1)

  noted_in_place : (h : History) (p : ℕ) → place_of h ≡ Some p → assigned p ≡ true → owed assigned x h ≡ false → IsNoted h
  noted_in_place [] p at it none = absurd (none-some p at)
  noted_in_place (q ∷ h) p at it none = in_place_step q h p (λ before left. noted_in_place h p before it left) at it none

  -- ---- Where the variable is in scope it was noted

  -- in scope: at no entry, and where it comes into scope along a step, the place before assigns it
  module _ (InScope : ℕ → Type 0) (entry : InScope g.entry → ⊥) (comes : (p q : ℕ) → can_go u.steps p q ≡ true → InScope q → InScope p ⊎ (assigned p ≡ true)) where
    same_marker : {q p : ℕ} {xs ys : List Instruction} → Marker q ∷ xs ≡ Marker p ∷ ys → q ≡ p
    same_marker e = cc

    -- a path without a marker is at the entry's
    at_entry : {n q : ℕ} {rest : List Instruction} {e : End} (h : History) → Path g h n (Marker q ∷ rest) e → place_of h ≡ None → q ≡ g.entry
    at_entry {n} {q} {rest} {e} h way none = by_mode (stands u g marked way)
      where
        by_mode : Stands u g marked h n (Marker q ∷ rest) e → q ≡ g.entry
        by_mode s = elim s.so.mode [ inl start ↦ same_marker (start.whole ∙ (marked.begins s.first s.there).1) | inr m ↦ absurd (none-some m.place (sym none ∙ m.is)) ]

    -- at a marker
    at_step : (h : History) {n q : ℕ} {rest : List Instruction} {e : End} → Path g h n (Marker q ∷ rest) e → ((p : ℕ) → place_of h ≡ Some p → InScope p → IsNoted h) → InScope q → IsNoted h
    at_step h {n} {q} {rest} {e} way along there = by_place (place_of h) refl
      where
        by_step : (p : ℕ) → place_of h ≡ Some p → InScope p ⊎ (assigned p ≡ true) → IsNoted h
        by_step p at (inl before) = along p at before
        by_step p at (inr it) = noted_in_place h p at it (marked.noted h n q x variable rest e is way)

        by_place : (o : Option ℕ) → place_of h ≡ o → IsNoted h
        by_place None at = absurd (entry (subst InScope (at_entry h way at) there))
        by_place (Some p) at = by_step p at (comes p q (marked.flows h n p q rest e way at) there)

    -- and in the place that it begins
    along_step : (q : Passed) (h : History) (p : ℕ) → Before g q h → ((r : ℕ) → place_of h ≡ Some r → InScope r → IsNoted h) → place_of (q ∷ h) ≡ Some p → InScope p → IsNoted (q ∷ h)
    along_step q h p before earlier at there = by_kind (kind_of q.instruction)
      where
        at_marker : (r : ℕ) → q.instruction ≡ Marker r → IsNoted h
        at_marker r e =
            let same : r ≡ p = some_same (sym (ap (λ i. place_by i (place_of h)) e) ∙ at) in
            at_step h (subst (λ i. Path g h before.number (i ∷ before.left) before.end) e before.way) earlier (subst InScope (sym same) there)

        by_kind : Kind q.instruction → IsNoted (q ∷ h)
        by_kind (marks r e) = noted_on q h (at_marker r e)
        by_kind (noting y v e) = noted_on q h (earlier p (sym (ap (λ i. place_by i (place_of h)) e) ∙ at) there)
        by_kind (plain r) = noted_on q h (earlier p (sym (r.place (place_of h)) ∙ at) there)

    noted_along : (h : History) (p : ℕ) {n : ℕ} {rest : List Instruction} {e : End} → Path g h n rest e → place_of h ≡ Some p → InScope p → IsNoted h
    noted_along [] p way at there = absurd (none-some p at)
    noted_along (q ∷ h) p way at there = along_step q h p (path_before way) (λ r before known. noted_along h r (path_before way).way before known) at there

    noted_at : (h : History) {n q : ℕ} {rest : List Instruction} {e : End} → Path g h n (Marker q ∷ rest) e → InScope q → IsNoted h
    noted_at h way there = at_step h way (λ p at known. noted_along h p way at known) there

    -- The scalar's own value holds on all paths to a place where it is in scope.
    pub holds_in_scope : (p : ℕ) → InScope p → HoldsOnAllPaths home g p x (Of (Name x))
    holds_in_scope p there h n rest e way = record { note = note; own = λ y among. subst (λ k. last_writer home g.parameters (home k) h ≡ Some k) (sym (only y among)) (own_writer h way note); before = λ y among. subst (λ k. written_since home x (home k) h ≡ false) (sym (only y among)) free }
      where
        only : (y : ℕ) → Among y (x ∷ []) → y ≡ x
        only y front = refl
        only y (behind more) = elim more [ ]

        noted : IsNoted h
        noted = noted_at h way there

        note : last_note x h ≡ Some (Is (Of (Name x)))
        note = noted.was ∙ ap Some (note_is h way noted.note noted.was)

        free : touched h ≡ false
        free = untouched h way (marked.noted h n p x variable rest e is way)

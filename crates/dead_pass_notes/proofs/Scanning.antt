-- Ways along instructions of a block come where they lead.
use Rattle.std.proofs.Common.{◌≡◌, ℕ, suc, ◌+◌, inl, inr, Bool, true, false, true≢false, Some, List, [], ◌∷◌, ◌++◌, length, refl, sym, ap, ◌∙◌, subst, arith, append_assoc}
use Rattle.std.specs.Prelude.{◌==◌, ◌||◌, if◌then◌else◌, not, slice_get}
use Rattle.std.proofs.lemmas.Bool.{cases_Bool, and_parts, and_from, eq-eqb, eqb-true}
use Rattle.std.proofs.lemmas.Option.{slice_get_within}
use Rattle.places.specs.declared.flow.Assignment.{Assignment}
use Rattle.graph_core.specs.Graphs.{Instruction, Marker, End, Block, Graph}
use Rattle.graph_core.specs.Paths.{writes, is_marker}
use Rattle.dead_pass_rule.specs.Certified.{AreIdle}
use Rattle.dead_pass_rule.specs.Idle.{Goes}
use Rattle.dead_pass_writes.specs.declared.writes.Spot.{Spot}
use Rattle.dead_pass_notes.specs.declared.scans.Scanned.{Scanned}
use Rattle.dead_pass_notes.specs.declared.scans.Scanned.TheVariants.{Stops, Leaves}
use Rattle.dead_pass_notes.specs.declared.ways.Way.{Way}
use Rattle.dead_pass_notes.specs.Between.{IsApart, ComesTo, there, passes, leads, IsWrittenBetween, written, passes as still, leads as on}
use Rattle.dead_pass_notes.specs.Scans.{is_there, stays_written, scan_of, HasCome, GoesOn, Comes, SomeComes}
use Rattle.dead_pass_notes.specs.Spots.{left_at, IsPoint}
use Rattle.dead_pass_notes.proofs.PlaceWaysPoints.{stands, left_there}
use Rattle.base_laws.proofs.Booleans.{if_false, if_true}

or_true : (a : Bool) → (a || true) ≡ true
or_true true = refl
or_true false = refl

stops_leaves : {a b : Bool} → Leaves a ≡ Stops b → ⊥
stops_leaves e = cc

leaves_stops : {a b : Bool} → Stops a ≡ Leaves b → ⊥
leaves_stops e = cc

same_stops : {a b : Bool} → Stops a ≡ Stops b → a ≡ b
same_stops e = cc

same_leaves : {a b : Bool} → Leaves a ≡ Leaves b → a ≡ b
same_leaves e = cc

-- what writes is other marker
no_marker : (y : ℕ) (i : Instruction) → writes y i ≡ true → is_marker i ≡ false
no_marker y (Marker p) e = absurd (true≢false (sym e))
no_marker y _ e = refl

module _ {assignments : List Assignment} (g : Graph) (goes : (block left : ℕ) → Bool) (are : AreIdle assignments g goes) (to : Spot) (y : ℕ) (point : IsPoint g to.block (suc to.left)) where
  abbrev sought : List Instruction
  sought = left_at g to.block (suc to.left)

  abbrev scanned : ℕ → Bool → List Instruction → Scanned
  scanned n was rest = scan_of goes to y n was rest

  sought_long : length sought ≡ suc to.left
  sought_long = (stands g to.block (suc to.left) point).behind

  -- the point is where its numbers are
  is_sought : (n : ℕ) (b : Block) (before : List Instruction) (i : Instruction) (rest : List Instruction) → slice_get g.blocks n ≡ Some b → b.instructions ≡ before ++ i ∷ rest → is_there goes to y n (length rest) ≡ true
      → (n ≡ to.block) × (i ∷ rest ≡ sought)
  is_sought n b before i rest at parts e =
      let both = and_parts (n == to.block) (length rest == to.left) e in
      let number : n ≡ to.block = eqb-true n to.block both.0 in
      let count : length rest ≡ to.left = eqb-true (length rest) to.left both.1 in
      (number, sym (left_there g to.block (suc to.left) b before (i ∷ rest) (ap (slice_get g.blocks) (sym number) ∙ at) parts (ap suc count)))

  sought_is : (n : ℕ) (i : Instruction) (rest : List Instruction) → n ≡ to.block → i ∷ rest ≡ sought → is_there goes to y n (length rest) ≡ true
  sought_is n i rest number is =
      let long = ap (λ l. length l) is ∙ sought_long in
      let count : length rest ≡ to.left = omega (arith, long) in
      and_from (n == to.block) (length rest == to.left) (eq-eqb n to.block number) (eq-eqb (length rest) to.left count)

  apart : (n : ℕ) (i : Instruction) (rest : List Instruction) → is_there goes to y n (length rest) ≡ false → IsApart g to.block sought n (i ∷ rest)
  apart n i rest e number is = true≢false (sym (sought_is n i rest number is) ∙ e)

  not_there : (n : ℕ) (b : Block) (before : List Instruction) (i : Instruction) (rest : List Instruction) → slice_get g.blocks n ≡ Some b → b.instructions ≡ before ++ i ∷ rest → IsApart g to.block sought n (i ∷ rest) → is_there goes to y n (length rest) ≡ false
  not_there n b before i rest at parts away = elim (cases_Bool (is_there goes to y n (length rest))) [
    | inl it ↦ (let is = is_sought n b before i rest at parts it in absurd (away is.0 is.1))
    | inr other ↦ other
  ]

  -- a scan goes on
  scan_next : (n : ℕ) (was : Bool) (i : Instruction) (rest : List Instruction) → is_there goes to y n (length rest) ≡ false → is_marker i ≡ false → scanned n was (i ∷ rest) ≡ scanned n (was || stays_written goes to y n i (length rest)) rest
  scan_next n was i rest away other =
      if_false (is_there goes to y n (length rest)) (Stops was) (if is_marker i then Stops false else scanned n (was || stays_written goes to y n i (length rest)) rest) away
      ∙ if_false (is_marker i) (Stops false) (scanned n (was || stays_written goes to y n i (length rest)) rest) other

  -- One instruction more on a way.
  way_more : (n : ℕ) (b : Block) (before : List Instruction) (i : Instruction) (rest : List Instruction) → slice_get g.blocks n ≡ Some b → b.instructions ≡ before ++ i ∷ rest → IsApart g to.block sought n (i ∷ rest) → is_marker i ≡ false
      → (was : Bool) → Comes assignments g to y (was || stays_written goes to y n i (length rest)) n rest b.end → Comes assignments g to y was n (i ∷ rest) b.end
  way_more n b before i rest at parts away other true c = passes away other c
  way_more n b before i rest at parts away other false c = by (stays_written goes to y n i (length rest)) refl c
    where
      by : (s : Bool) → stays_written goes to y n i (length rest) ≡ s → Comes assignments g to y s n rest b.end → Comes assignments g to y false n (i ∷ rest) b.end
      by true e d =
          let both = and_parts (writes y i) (not (goes n (length rest))) e in
          written away both.0 (λ going. true≢false (sym both.1 ∙ ap not ((are.goes n b before rest i at parts).1 going))) d
      by false e d = still away other d

  -- A scan that stops with a write has come to the point.
  pub scan_stops : (n : ℕ) (b : Block) (before rest : List Instruction) → slice_get g.blocks n ≡ Some b → b.instructions ≡ before ++ rest → (was : Bool) → scanned n was rest ≡ Stops true → Comes assignments g to y was n rest b.end
  scan_stops n b before [] at parts was e = absurd (stops_leaves e)
  scan_stops n b before (i ∷ rest) at parts was e = elim (cases_Bool (is_there goes to y n (length rest))) [
    | inl it ↦ (let is = is_sought n b before i rest at parts it in
        let so : was ≡ true = same_stops (sym (if_true (is_there goes to y n (length rest)) (Stops was) (if is_marker i then Stops false else scanned n (was || stays_written goes to y n i (length rest)) rest) it) ∙ e) in
        subst (λ w. Comes assignments g to y w n (i ∷ rest) b.end) (sym so) (there is.0 is.1))
    | inr other ↦ elim (cases_Bool (is_marker i)) [
      | inl marks ↦ absurd (true≢false (sym (same_stops (sym (if_false (is_there goes to y n (length rest)) (Stops was) (if is_marker i then Stops false else scanned n (was || stays_written goes to y n i (length rest)) rest) other
          ∙ if_true (is_marker i) (Stops false) (scanned n (was || stays_written goes to y n i (length rest)) rest) marks) ∙ e))))
      | inr not_marker ↦ way_more n b before i rest at parts (apart n i rest other) not_marker was
          (scan_stops n b (before ++ i ∷ []) rest at (parts ∙ sym (append_assoc before (i ∷ []) rest)) (was || stays_written goes to y n i (length rest)) (sym (scan_next n was i rest other not_marker) ∙ e))
    ]
  ]

  -- And one that leaves the block comes where the way goes on to.
  pub scan_leaves : (n : ℕ) (b : Block) (before rest : List Instruction) → slice_get g.blocks n ≡ Some b → b.instructions ≡ before ++ rest → (was now : Bool) → scanned n was rest ≡ Leaves now → Comes assignments g to y now n [] b.end → Comes assignments g to y was n rest b.end
  scan_leaves n b before [] at parts was now e c = subst (λ w. Comes assignments g to y w n [] b.end) (sym (same_leaves e)) c
  scan_leaves n b before (i ∷ rest) at parts was now e c = elim (cases_Bool (is_there goes to y n (length rest))) [
    | inl it ↦ absurd (leaves_stops (sym (if_true (is_there goes to y n (length rest)) (Stops was) (if is_marker i then Stops false else scanned n (was || stays_written goes to y n i (length rest)) rest) it) ∙ e))
    | inr other ↦ elim (cases_Bool (is_marker i)) [
      | inl marks ↦ absurd (leaves_stops (sym (if_false (is_there goes to y n (length rest)) (Stops was) (if is_marker i then Stops false else scanned n (was || stays_written goes to y n i (length rest)) rest) other
          ∙ if_true (is_marker i) (Stops false) (scanned n (was || stays_written goes to y n i (length rest)) rest) marks) ∙ e))
      | inr not_marker ↦ way_more n b before i rest at parts (apart n i rest other) not_marker was
          (scan_leaves n b (before ++ i ∷ []) rest at (parts ∙ sym (append_assoc before (i ∷ []) rest)) (was || stays_written goes to y n i (length rest)) now (sym (scan_next n was i rest other not_marker) ∙ e) c)
    ]
  ]

  -- Where a search has come to all that its scans lead to, and none of them stops with a write.
  module _ (ahead : List Way) (closed : (l : ℕ) (was : Bool) (b : Block) → HasCome ahead l was → slice_get g.blocks l ≡ Some b → GoesOn (length g.blocks) ahead b.end (scanned l was b.instructions)) where
    pub no_way : {n : ℕ} {rest : List Instruction} {e : End} → ComesTo g to.block sought n rest e → (b : Block) (before : List Instruction) → slice_get g.blocks n ≡ Some b → b.instructions ≡ before ++ rest → e ≡ b.end
        → GoesOn (length g.blocks) ahead e (scanned n true rest) → ⊥
    no_way {n} {rest} {e} (there number is) b before at parts ends on_it = at_point rest is on_it
      where
        at_point : (all : List Instruction) → all ≡ sought → GoesOn (length g.blocks) ahead e (scanned n true all) → ⊥
        at_point [] same go = (let long = ap (λ l. length l) same ∙ sought_long in absurd (omega (arith, long)))
        at_point (i ∷ more) same go =
            go.unwritten (if_true (is_there goes to y n (length more)) (Stops true) (if is_marker i then Stops false else scanned n (true || stays_written goes to y n i (length more)) more) (sought_is n i more number same))
    no_way {n} {e = e} (passes {i = i} {rest = rest} away other c) b before at parts ends on_it =
        no_way c b (before ++ i ∷ []) at (parts ∙ sym (append_assoc before (i ∷ []) rest)) ends (subst (GoesOn (length g.blocks) ahead e) (scan_next n true i rest (not_there n b before i rest at parts away) other) on_it)
    no_way {n} {e = e} (leads {l = l} c among at_next way) b before at parts ends on_it =
        no_way way c [] at_next refl refl (closed l true c (on_it.leaves true l refl among (slice_get_within g.blocks l c at_next)) at_next)

    pub no_written : {n : ℕ} {rest : List Instruction} {e : End} → IsWrittenBetween assignments g to.block sought y n rest e → (b : Block) (before : List Instruction) → slice_get g.blocks n ≡ Some b → b.instructions ≡ before ++ rest → e ≡ b.end
        → (was : Bool) → GoesOn (length g.blocks) ahead e (scanned n was rest) → ⊥
    no_written {n} {e = e} (written {i = i} {rest = rest} away it stays c) b before at parts ends was on_it =
        let stayed : goes n (length rest) ≡ false = elim (cases_Bool (goes n (length rest))) [
          | inl going ↦ absurd (stays (subst (λ f. Goes assignments g n (i ∷ rest) f) (sym ends) ((are.goes n b before rest i at parts).0 going)))
          | inr is ↦ is
        ] in
        let now : (was || stays_written goes to y n i (length rest)) ≡ true = ap (λ w. was || w) (and_from (writes y i) (not (goes n (length rest))) it (ap not stayed)) ∙ or_true was in
        no_way c b (before ++ i ∷ []) at (parts ∙ sym (append_assoc before (i ∷ []) rest)) ends
        (subst (GoesOn (length g.blocks) ahead e) (scan_next n was i rest (not_there n b before i rest at parts away) (no_marker y i it) ∙ ap (λ w. scanned n w rest) now) on_it)
    no_written {n} {e = e} (still {i = i} {rest = rest} away other c) b before at parts ends was on_it =
        no_written c b (before ++ i ∷ []) at (parts ∙ sym (append_assoc before (i ∷ []) rest)) ends (was || stays_written goes to y n i (length rest))
        (subst (GoesOn (length g.blocks) ahead e) (scan_next n was i rest (not_there n b before i rest at parts away) other) on_it)
    no_written {n} {e = e} (on {l = l} c among at_next way) b before at parts ends was on_it =
        no_written way c [] at_next refl refl was (closed l was c (on_it.leaves was l refl among (slice_get_within g.blocks l c at_next)) at_next)

    pub none_comes : (was : Bool) (n : ℕ) (rest : List Instruction) (e : End) → Comes assignments g to y was n rest e → (b : Block) (before : List Instruction) → slice_get g.blocks n ≡ Some b → b.instructions ≡ before ++ rest → e ≡ b.end
        → GoesOn (length g.blocks) ahead e (scanned n was rest) → ⊥
    none_comes true n rest e c b before at parts ends on_it = no_way c b before at parts ends on_it
    none_comes false n rest e c b before at parts ends on_it = no_written c b before at parts ends false on_it

  -- Where a scan goes on, a way with a write goes on from where the search has come.
  module _ (ahead : List Way) where
    way_on : {n : ℕ} {rest : List Instruction} {e : End} → ComesTo g to.block sought n rest e → (b : Block) (before : List Instruction) → slice_get g.blocks n ≡ Some b → b.instructions ≡ before ++ rest → e ≡ b.end
        → GoesOn (length g.blocks) ahead e (scanned n true rest) → SomeComes assignments g to y ahead
    way_on {n} {rest} {e} (there number is) b before at parts ends on_it = absurd (at_point rest is on_it)
      where
        at_point : (all : List Instruction) → all ≡ sought → GoesOn (length g.blocks) ahead e (scanned n true all) → ⊥
        at_point [] same go = (let long = ap (λ l. length l) same ∙ sought_long in absurd (omega (arith, long)))
        at_point (i ∷ more) same go =
            go.unwritten (if_true (is_there goes to y n (length more)) (Stops true) (if is_marker i then Stops false else scanned n (true || stays_written goes to y n i (length more)) more) (sought_is n i more number same))
    way_on {n} {e = e} (passes {i = i} {rest = rest} away other c) b before at parts ends on_it =
        way_on c b (before ++ i ∷ []) at (parts ∙ sym (append_assoc before (i ∷ []) rest)) ends (subst (GoesOn (length g.blocks) ahead e) (scan_next n true i rest (not_there n b before i rest at parts away) other) on_it)
    way_on {n} {e = e} (leads {l = l} c among at_next way) b before at parts ends on_it =
        record { number = l; was_written = true; has_come = on_it.leaves true l refl among (slice_get_within g.blocks l c at_next); block = c; is = at_next; comes = way }

    pub written_on : {n : ℕ} {rest : List Instruction} {e : End} → IsWrittenBetween assignments g to.block sought y n rest e → (b : Block) (before : List Instruction) → slice_get g.blocks n ≡ Some b → b.instructions ≡ before ++ rest → e ≡ b.end
        → (was : Bool) → GoesOn (length g.blocks) ahead e (scanned n was rest) → SomeComes assignments g to y ahead
    written_on {n} {e = e} (written {i = i} {rest = rest} away it stays c) b before at parts ends was on_it =
        let stayed : goes n (length rest) ≡ false = elim (cases_Bool (goes n (length rest))) [
          | inl going ↦ absurd (stays (subst (λ f. Goes assignments g n (i ∷ rest) f) (sym ends) ((are.goes n b before rest i at parts).0 going)))
          | inr is ↦ is
        ] in
        let now : (was || stays_written goes to y n i (length rest)) ≡ true = ap (λ w. was || w) (and_from (writes y i) (not (goes n (length rest))) it (ap not stayed)) ∙ or_true was in
        way_on c b (before ++ i ∷ []) at (parts ∙ sym (append_assoc before (i ∷ []) rest)) ends
        (subst (GoesOn (length g.blocks) ahead e) (scan_next n was i rest (not_there n b before i rest at parts away) (no_marker y i it) ∙ ap (λ w. scanned n w rest) now) on_it)
    written_on {n} {e = e} (still {i = i} {rest = rest} away other c) b before at parts ends was on_it =
        written_on c b (before ++ i ∷ []) at (parts ∙ sym (append_assoc before (i ∷ []) rest)) ends (was || stays_written goes to y n i (length rest))
        (subst (GoesOn (length g.blocks) ahead e) (scan_next n was i rest (not_there n b before i rest at parts away) other) on_it)
    written_on {n} {e = e} (on {l = l} c among at_next way) b before at parts ends was on_it =
        record { number = l; was_written = was; has_come = on_it.leaves was l refl among (slice_get_within g.blocks l c at_next); block = c; is = at_next; comes = by was way }
      where
        to_way : {m : ℕ} {more : List Instruction} {f : End} → IsWrittenBetween assignments g to.block sought y m more f → ComesTo g to.block sought m more f
        to_way (written {i = j} away it stays c) = passes away (no_marker y j it) c
        to_way (still away other c) = passes away other (to_way c)
        to_way (on d among at_next way) = leads d among at_next (to_way way)

        by : (w : Bool) → IsWrittenBetween assignments g to.block sought y l c.instructions c.end → Comes assignments g to y w l c.instructions c.end
        by true way = to_way way
        by false way = way

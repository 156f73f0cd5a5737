-- What the blocks of a graph have tells what stands on its paths.
use Rattle.std.proofs.Common.{◌≡◌, ◌≢◌, ℕ, ◌≤◌, Bool, true, false, Option, Some, None, List, [], ◌∷◌, length, slice_get, refl, sym, ap, ◌∙◌, subst}
use Rattle.graph_core.specs.Graphs.{Operand, Instruction, Marker, Note, Zero, CopyWords, Call, End, Return, Block, Graph}
use Rattle.graph_core.specs.Uses.{targets_of}
use Rattle.graph_core.specs.Paths.{History, Among, front, behind, Way, stays, passes, goes, Path, path, place_of, place_by, is_marker, is_call, called}
use Rattle.graph_core.specs.Bounds.{most_words}
use Rattle.graph_core.specs.Validity.{place_behind}
use Rattle.graph_core.specs.WellMarked as marked
use Rattle.graph_core.specs.WellMarked.{StandsIn, InPlace}
use Rattle.image_truth_units.specs.Timing.{KeepsTime}
use Rattle.image_truth_units.proofs.Ordinary.{is_ordinary, AllOrdinary, WordsFirst, sets, copies, ordinary, IsPlaced, IsInner}
use Rattle.base_laws.proofs.Options.{some_same}

-- notes alone
abbrev pub is_note : Instruction → Bool
is_note (Note x v) = true
is_note _ = false

abbrev pub AllNotes : List Instruction → Type 0
AllNotes [] = Unit {0}
AllNotes (i ∷ more) = (is_note i ≡ true) × AllNotes more

-- a block begins with a marker
abbrev pub BeginsPlace : List Instruction → Type 0
BeginsPlace all = (q : ℕ) × (rest : List Instruction) × (all ≡ Marker q ∷ rest)

head_same : {i j : Instruction} {xs ys : List Instruction} → i ∷ xs ≡ j ∷ ys → i ≡ j
head_same e = cc

tail_same : {i j : Instruction} {xs ys : List Instruction} → i ∷ xs ≡ j ∷ ys → xs ≡ ys
tail_same e = cc

-- the place in force behind what is no marker
ordinary_stays : (i : Instruction) (before : Option ℕ) → is_ordinary i ≡ true → place_by i before ≡ before
ordinary_stays (Marker p) before h = cc
ordinary_stays (Note x v) before h = refl
ordinary_stays _ before h = refl

ordinary_behind : (i : Instruction) (before : Option ℕ) → is_ordinary i ≡ true → place_behind (i ∷ []) before ≡ before
ordinary_behind (Marker p) before h = cc
ordinary_behind (Note x v) before h = refl
ordinary_behind _ before h = refl

-- what stands in a place is one of the instructions
stands_among : {p : ℕ} {i : Instruction} {place : Option ℕ} {all : List Instruction} → StandsIn p i place all → Among i all
stands_among marked.here = front
stands_among (marked.behind s) = behind (stands_among s)

-- its place is that in force, where no marker stands before it
ordinary_place : {p q : ℕ} {i : Instruction} (all : List Instruction) → StandsIn p i (Some q) all → AllOrdinary all → p ≡ q
ordinary_place [] s h = elim s [ ]
ordinary_place (j ∷ all) marked.here h = refl
ordinary_place {p = p} {q = q} {i = i} (j ∷ all) (marked.behind s) h = ordinary_place all (subst (λ r. StandsIn p i r all) (ordinary_behind j (Some q) h.0) s) h.1

own_place : {p q : ℕ} {i : Instruction} {all : List Instruction} → StandsIn p i (Some q) all → WordsFirst all → p ≡ q
own_place {all = all} s (ordinary h) = ordinary_place all s h
own_place marked.here (sets le w) = refl
own_place (marked.behind s) (sets le w) = own_place s w
own_place marked.here (copies le w) = refl
own_place (marked.behind s) (copies le w) = own_place s w

-- notes
note_ordinary : (i : Instruction) → is_note i ≡ true → is_ordinary i ≡ true
note_ordinary (Note x v) h = refl
note_ordinary (Marker p) h = cc
note_ordinary (Zero object words) h = cc
note_ordinary (CopyWords object bytes words) h = cc
note_ordinary _ h = refl

note_no_call : (i : Instruction) → is_note i ≡ true → is_call i ≡ false
note_no_call (Call x f all) h = cc
note_no_call _ h = refl

no_call_of_notes : (all : List Instruction) (i : Instruction) → AllNotes all → Among i all → is_call i ≡ false
no_call_of_notes [] i h a = elim a [ ]
no_call_of_notes (j ∷ all) i h front = note_no_call i h.0
no_call_of_notes (j ∷ all) i h (behind a) = no_call_of_notes all i h.1 a

notes_ordinary : (all : List Instruction) → AllNotes all → AllOrdinary all
notes_ordinary [] h = tt
notes_ordinary (i ∷ all) h = (note_ordinary i h.0, notes_ordinary all h.1)

-- words that are set or copied
no_zero : (all : List Instruction) (object words : ℕ) → AllOrdinary all → Among (Zero object words) all → ⊥
no_zero [] object words h a = elim a [ ]
no_zero (i ∷ all) object words h front = let never = h.0 in cc
no_zero (i ∷ all) object words h (behind a) = no_zero all object words h.1 a

no_copy : (all : List Instruction) (object bytes words : ℕ) → AllOrdinary all → Among (CopyWords object bytes words) all → ⊥
no_copy [] object bytes words h a = elim a [ ]
no_copy (i ∷ all) object bytes words h front = let never = h.0 in cc
no_copy (i ∷ all) object bytes words h (behind a) = no_copy all object bytes words h.1 a

few_zeroes : {all : List Instruction} {object words : ℕ} → WordsFirst all → Among (Zero object words) all → words ≤ most_words
few_zeroes {all = all} {object = object} {words = words} (ordinary h) a = absurd (no_zero all object words h a)
few_zeroes (sets le w) front = le
few_zeroes (sets le w) (behind a) = few_zeroes w a
few_zeroes (copies le w) (behind a) = few_zeroes w a

few_copies : {all : List Instruction} {object bytes words : ℕ} → WordsFirst all → Among (CopyWords object bytes words) all → words ≤ most_words
few_copies {all = all} {object = object} {bytes = bytes} {words = words} (ordinary h) a = absurd (no_copy all object bytes words h a)
few_copies (copies le w) front = le
few_copies (copies le w) (behind a) = few_copies w a
few_copies (sets le w) (behind a) = few_copies w a

-- what is no marker stands behind a marker
behind_marker : (i : Instruction) (q : ℕ) (rest : List Instruction) → is_marker i ≡ false → Among i (Marker q ∷ rest) → Among i rest
behind_marker i q rest h front = cc
behind_marker i q rest h (behind a) = a

stands_behind : {p q : ℕ} {i : Instruction} {rest : List Instruction} → StandsIn p i None (Marker q ∷ rest) → StandsIn p i (Some q) rest
stands_behind (marked.behind s) = s

module _ (g : Graph) where
  -- an end that leads to places' blocks alone, and there
  pub record LeadsOn (e : End) : Type 0 where
    pub leads : (l : ℕ) → Among l (targets_of e) → (b : Block) → slice_get g.blocks l ≡ Some b → BeginsPlace b.instructions
    pub no_end : (a : Option Operand) → e ≢ Return a

  -- the entry's block has notes behind its marker, and leads to another place
  pub record IsEntry (b : Block) : Type 0 where
    pub rest : List Instruction
    pub no_place : b.place ≡ None
    pub is : b.instructions ≡ Marker g.entry ∷ rest
    pub notes : AllNotes rest
    pub on : LeadsOn b.end

  -- a block of another place
  pub record IsOther (b : Block) : Type 0 where
    pub placed : IsPlaced b
    pub other : placed.place ≢ g.entry

  -- Each block is one of three kinds.
  pub data Kind (b : Block) : Type 0 where
    entry : IsEntry b → Kind b
    other : IsOther b → Kind b
    inner : IsInner (λ q. q ≢ g.entry) b → Kind b

module _ (g : Graph) (kinds : (n : ℕ) (b : Block) → slice_get g.blocks n ≡ Some b → Kind g b) where
  -- the place of what stands in a block
  entry_calls : (i : Instruction) → InPlace g g.entry i → is_call i ≡ false
  entry_calls i at = by at.block.place at.block.instructions refl refl (kinds at.number at.block at.is) at.stands
    where
      by : (place : Option ℕ) (all : List Instruction) → at.block.place ≡ place → at.block.instructions ≡ all → Kind g at.block → StandsIn g.entry i place all → is_call i ≡ false
      by place all same is (entry k) s =
          let t = subst (λ r. StandsIn g.entry i r (Marker g.entry ∷ k.rest)) (sym same ∙ k.no_place) (subst (λ l. StandsIn g.entry i place l) (sym is ∙ k.is) s) in
          no_call_of_notes k.rest i k.notes (stands_among (stands_behind t))
      by place all same is (other k) s =
          let t = subst (λ r. StandsIn g.entry i r (Marker k.placed.place ∷ k.placed.rest)) (sym same ∙ k.placed.no_place) (subst (λ l. StandsIn g.entry i place l) (sym is ∙ k.placed.is) s) in
          absurd (k.other (sym (own_place (stands_behind t) k.placed.first)))
      by place all same is (inner k) s =
          let t = subst (λ r. StandsIn g.entry i r at.block.instructions) (sym same ∙ k.has) (subst (λ l. StandsIn g.entry i place l) (sym is) s) in
          absurd (k.own (sym (own_place t (ordinary k.all))))

  -- what stands in a block, but its marker
  in_block : (b : Block) → Kind g b → (i : Instruction) → is_marker i ≡ false → Among i b.instructions → (all : List Instruction) × WordsFirst all × Among i all
  in_block b (entry k) i h a = (k.rest, ordinary (notes_ordinary k.rest k.notes), behind_marker i g.entry k.rest h (subst (λ (l : List Instruction). Among i l) k.is a))
  in_block b (other k) i h a = (k.placed.rest, k.placed.first, behind_marker i k.placed.place k.placed.rest h (subst (λ (l : List Instruction). Among i l) k.placed.is a))
  in_block b (inner k) i h a = (b.instructions, ordinary k.all, a)

  zeroes : (p object words : ℕ) → InPlace g p (Zero object words) → words ≤ most_words
  zeroes p object words at =
      let x = in_block at.block (kinds at.number at.block at.is) (Zero object words) refl (stands_among at.stands) in few_zeroes x.1 x.2

  copies_few : (p object bytes words : ℕ) → InPlace g p (CopyWords object bytes words) → words ≤ most_words
  copies_few p object bytes words at =
      let x = in_block at.block (kinds at.number at.block at.is) (CopyWords object bytes words) refl (stands_among at.stands) in few_copies x.1 x.2

  -- Where a path has come: to the beginning of a block; within the entry's; or within another place's, where words may still be set or copied and no call was passed, or where neither comes any more.
  data At (h : History) (rest : List Instruction) (e : End) : Type 0 where
    begins : (n : ℕ) (b : Block) → slice_get g.blocks n ≡ Some b → rest ≡ b.instructions → e ≡ b.end → (place_of h ≡ Some g.entry → BeginsPlace b.instructions) → At h rest e
    enters : AllNotes rest → LeadsOn g e → At h rest e
    early : place_of h ≢ Some g.entry → WordsFirst rest → called h ≡ false → At h rest e
    late : place_of h ≢ Some g.entry → AllOrdinary rest → At h rest e

  module _ (h : History) (n : ℕ) (i : Instruction) (left : List Instruction) (e : End) (v : Rattle.graph_core.specs.declared.value.Value.Value) where
    abbrev next : History
    next = record { block = n; left = length left; instruction = i; wrote = v } ∷ h

    -- what is ordinary does not change the place
    keeps : place_of h ≢ Some g.entry → is_ordinary i ≡ true → place_of next ≢ Some g.entry
    keeps never is at = never (sym (ordinary_stays i (place_of h) is) ∙ at)

    from_block : (b : Block) → Kind g b → i ∷ left ≡ b.instructions → e ≡ b.end → (place_of h ≡ Some g.entry → BeginsPlace b.instructions) → At next left e
    from_block b (entry k) is ends begin = enters (subst AllNotes (sym (tail_same (is ∙ k.is))) k.notes) (subst (LeadsOn g) (sym ends) k.on)
    from_block b (other k) is ends begin =
        let marker : i ≡ Marker k.placed.place = head_same (is ∙ k.placed.is) in
        early (λ at. k.other (some_same (sym (ap (λ j. place_by j (place_of h)) marker) ∙ at))) (subst WordsFirst (sym (tail_same (is ∙ k.placed.is))) k.placed.first) (none_called marker)
      where
        none_called : (i ≡ Marker k.placed.place) → called next ≡ false
        none_called same = ap (λ j. called (record { block = n; left = length left; instruction = j; wrote = v } ∷ h)) same
    from_block b (inner k) is ends begin =
        let all = subst AllOrdinary (sym is) k.all in
        late (keeps (λ at. clash all (begin at)) all.0) all.1
      where
        clash : AllOrdinary (i ∷ left) → BeginsPlace b.instructions → ⊥
        clash all (q, rest, same) = let never = (subst AllOrdinary (is ∙ same) all).0 in cc

    past : At h (i ∷ left) e → At next left e
    past (begins m b got is ends begin) = from_block b (kinds m b got) is ends begin
    past (enters all on) = enters all.1 on
    past (early never w none) = words i refl w
      where
        words : (j : Instruction) → j ≡ i → WordsFirst (j ∷ left) → At next left e
        words j same (sets le w) = early (λ at. never (ap (λ k. place_by k (place_of h)) same ∙ at)) w (ap (λ k. called (record { block = n; left = length left; instruction = k; wrote = v } ∷ h)) (sym same) ∙ none)
        words j same (copies le w) = early (λ at. never (ap (λ k. place_by k (place_of h)) same ∙ at)) w (ap (λ k. called (record { block = n; left = length left; instruction = k; wrote = v } ∷ h)) (sym same) ∙ none)
        words j same (ordinary all) = late (keeps never (ap is_ordinary (sym same) ∙ all.0)) all.1
    past (late never all) = late (keeps never all.0) all.1

  -- at the end of a block where the entry's place is in force the next block begins another
  empty_begins : (b : Block) → [] ≡ b.instructions → BeginsPlace b.instructions → ⊥
  empty_begins b is (q, rest, same) = let clash = is ∙ same in cc

  over : (h : History) (e : End) → At h [] e → (l : ℕ) → Among l (targets_of e) → (b : Block) → slice_get g.blocks l ≡ Some b → At h b.instructions b.end
  over h e at l a b got = begins l b got refl refl (λ here. by at here)
    where
      by : At h [] e → place_of h ≡ Some g.entry → BeginsPlace b.instructions
      by (begins m d is same ends begin) here = absurd (empty_begins d same (begin here))
      by (enters all on) here = on.leads l a b got
      by (early never w none) here = absurd (never here)
      by (late never all) here = absurd (never here)

  walk : {b0 : Block} {h : History} {n : ℕ} {rest : List Instruction} {e : End} → slice_get g.blocks 0 ≡ Some b0 → Way g 0 b0.instructions b0.end h n rest e → At h rest e
  walk {b0 = b0} is stays = begins 0 b0 is refl refl (λ here. cc)
  walk is (passes {h = h} {n = n} {i = i} {left = left} {e = e} way v) = past h n i left e v (walk is way)
  walk is (goes {h = h} {l = l} {e = e} way a b got) = over h e (walk is way) l a b got

  along : (h : History) (n : ℕ) (rest : List Instruction) (e : End) → Path g h n rest e → At h rest e
  along h n rest e (path b is way) = walk is way

  leaves : (h : History) (n : ℕ) (a : Option Operand) → Path g h n [] (Return a) → place_of h ≢ Some g.entry
  leaves h n a way here = by (along h n [] (Return a) way)
    where
      by : At h [] (Return a) → ⊥
      by (begins m b got is ends begin) = empty_begins b is (begin here)
      by (enters all on) = on.no_end a refl
      by (early never w none) = never here
      by (late never all) = never here

  -- Where a path comes to what is neither ordinary nor a marker, no call was passed.
  first : (h : History) (i : Instruction) (rest : List Instruction) (e : End) → is_ordinary i ≡ false → is_marker i ≡ false → At h (i ∷ rest) e → called h ≡ false
  first h i rest e no_ordinary no_marker (begins m b got is ends begin) = by (kinds m b got)
    where
      by : Kind g b → called h ≡ false
      by (entry k) = let same = head_same (is ∙ k.is) in cc
      by (other k) = let same = head_same (is ∙ k.placed.is) in cc
      by (inner k) = let all = subst AllOrdinary (sym is) k.all in let yes = all.0 in cc
  first h i rest e no_ordinary no_marker (enters all on) = let yes = note_ordinary i all.0 in cc
  first h i rest e no_ordinary no_marker (early never w none) = none
  first h i rest e no_ordinary no_marker (late never all) = let yes = all.0 in cc

  -- A graph whose blocks are of these kinds keeps what bounds its places' time.
  pub keeps_time : KeepsTime g
  keeps_time = record {
    entry_calls = entry_calls;
    leaves = leaves;
    zeroes = zeroes;
    copies = copies_few;
    zeroes_first = λ h n object words rest e way. first h (Zero object words) rest e refl refl (along h n (Zero object words ∷ rest) e way);
    copies_first = λ h n object bytes words rest e way. first h (CopyWords object bytes words) rest e refl refl (along h n (CopyWords object bytes words ∷ rest) e way);
  }

-- Searches from block to block: where they came, and that they came to all.
use Rattle.std.proofs.Common.{◌≡◌, ℕ, zero, suc, ◌+◌, ◌<◌, ◌≤◌, ◌⊎◌, inl, inr, Bool, true, false, Some, List, [], ◌∷◌, ◌++◌, length, refl, sym, ap, ◌∙◌, subst, arith, append_assoc, append-nil}
use Rattle.std.specs.Prelude.{slice_get}
use Rattle.std.proofs.lemmas.Bool.{cases_eq}
use Rattle.std.proofs.lemmas.List.{length-append}
use Rattle.std.proofs.lemmas.Option.{same_Some, none-some, slice_get_within}
use Rattle.places.specs.declared.flow.Assignment.{Assignment}
use Rattle.graph_core.specs.Graphs.{Instruction, End, Block, Graph}
use Rattle.graph_core.specs.Uses.{targets_of}
use Rattle.graph_core.specs.Paths.{Among, front, behind}
use Rattle.dead_pass_rule.specs.Certified.{AreIdle}
use Rattle.dead_pass_writes.specs.declared.writes.Spot.{Spot}
use Rattle.dead_pass_notes.specs.declared.scans.Scanned.{Scanned}
use Rattle.dead_pass_notes.specs.declared.scans.Scanned.TheVariants.{Stops, Leaves}
use Rattle.dead_pass_notes.specs.declared.ways.Way.{Way}
use Rattle.dead_pass_notes.specs.Between.{leads, leads as on}
use Rattle.dead_pass_notes.specs.Scans.{scan_of, HasCome, HasGrown, GoesOn, Comes, SomeComes}
use Rattle.dead_pass_notes.specs.Spots.{IsPoint}
use Rattle.dead_pass_notes.proofs.Scanning.{scan_stops, scan_leaves, none_comes}
pub use Rattle.graph_core.proofs.Among.{among_longer as among_left, among_none, among_one, among_parts}

pub among_right : {A : Type 0} {a : A} (xs : List A) {ys : List A} → Among a ys → Among a (xs ++ ys)
among_right [] here = here
among_right (x ∷ xs) here = behind (among_right xs here)

among_index : {A : Type 0} {a : A} {xs : List A} → Among a xs → (j : ℕ) × (slice_get xs j ≡ Some a)
among_index front = (0, refl)
among_index (behind here) = (let there = among_index here in (suc there.0, there.1))

among_of : {A : Type 0} (a : A) (xs : List A) (j : ℕ) → slice_get xs j ≡ Some a → Among a xs
among_of a [] j e = absurd (none-some a e)
among_of {A} a (x ∷ xs) zero e = subst (λ (z : A). Among a (z ∷ xs)) (sym (same_Some x a e)) front
among_of a (x ∷ xs) (suc j) e = behind (among_of a xs j e)

get_front : {A : Type 0} (xs ys : List A) (j : ℕ) → j < length xs → slice_get (xs ++ ys) j ≡ slice_get xs j
get_front [] ys j lt = absurd (omega (arith, lt))
get_front (x ∷ xs) ys zero lt = refl
get_front (x ∷ xs) ys (suc j) lt = get_front xs ys j (omega (arith, lt))

-- nothing was added
pub grown_none : (e : End) (s : Scanned) (old new : List Way) → new ≡ old → HasGrown e s old new
grown_none e s old new is = record { more = []; is = is ∙ sym (append-nil old); only = λ l w here. absurd (among_none here) }

-- a block was added, or none
pub grown_one : (e : End) (w : Bool) (l : ℕ) (old new : List Way) → Among l (targets_of e) → (new ≡ old) ⊎ (new ≡ old ++ record { block = l; is_written = w } ∷ []) → HasGrown e (Leaves w) old new
grown_one e w l old new among (inl is) = grown_none e (Leaves w) old new is
grown_one e w l old new among (inr is) = record {
  more = record { block = l; is_written = w } ∷ [];
  is = is;
  only = λ m v here. (let same : ◌≡◌ {A = Way} (record { block = m; is_written = v }) (record { block = l; is_written = w }) = among_one here in
      (subst (λ k. Among k (targets_of e)) (sym (ap (λ (z : Way). z.block) same)) among, ap Leaves (sym (ap (λ (z : Way). z.is_written) same))));
}

pub grown_more : {e : End} {s : Scanned} {old mid new : List Way} → HasGrown e s old mid → HasGrown e s mid new → HasGrown e s old new
grown_more {old = old} one two = record {
  more = one.more ++ two.more;
  is = two.is ∙ ap (λ l. l ++ two.more) one.is ∙ append_assoc old one.more two.more;
  only = λ m v here. elim (among_parts one.more two.more here) [ inl left ↦ one.only m v left | inr right ↦ two.only m v right ];
}

pub grown_keeps : {e : End} {s : Scanned} {old new : List Way} → HasGrown e s old new → (l : ℕ) (w : Bool) → HasCome old l w → HasCome new l w
grown_keeps {old = old} grown l w here = (let P : List Way → Type 0 = λ ways. HasCome ways l w in subst P (sym grown.is) (among_left here grown.more))

goes_more : {e : End} {s : Scanned} {old new : List Way} → HasGrown e s old new → (count : ℕ) (f : End) (t : Scanned) → GoesOn count old f t → GoesOn count new f t
goes_more grown count f t go = record { unwritten = go.unwritten; leaves = λ was l is among lt. grown_keeps grown l was (go.leaves was l is among lt) }

module _ {assignments : List Assignment} (g : Graph) (goes : (block left : ℕ) → Bool) (are : AreIdle assignments g goes) (to : Spot) (y : ℕ) (point : IsPoint g to.block (suc to.left)) where
  leads_comes : (was : Bool) (n l : ℕ) (e : End) (c : Block) → Among l (targets_of e) → slice_get g.blocks l ≡ Some c → Comes assignments g to y was l c.instructions c.end → Comes assignments g to y was n [] e
  leads_comes true n l e c among at way = leads c among at way
  leads_comes false n l e c among at way = on c among at way

  -- What a scan leads to comes from where it began.
  pub comes_back : (n : ℕ) (b : Block) (before rest : List Instruction) → slice_get g.blocks n ≡ Some b → b.instructions ≡ before ++ rest → (was : Bool) (old new : List Way) → HasGrown b.end (scan_of goes to y n was rest) old new → SomeComes assignments g to y new
      → SomeComes assignments g to y old ⊎ Comes assignments g to y was n rest b.end
  comes_back n b before rest at parts was old new grown some =
      let here : HasCome (old ++ grown.more) some.number some.was_written = (let P : List Way → Type 0 = λ ways. HasCome ways some.number some.was_written in subst P grown.is some.has_come) in
      elim (among_parts old grown.more here) [
        | inl before_it ↦ inl (record { number = some.number; was_written = some.was_written; has_come = before_it; block = some.block; is = some.is; comes = some.comes })
        | inr added ↦ (let only = grown.only some.number some.was_written added in
            inr (scan_leaves g goes are to y point n b before rest at parts was some.was_written only.1 (leads_comes some.was_written n some.number b.end some.block only.0 some.is some.comes)))
      ]

  -- From a block a search goes on.
  abbrev pub IsClosed : List Way → Way → Type 0
  IsClosed ahead w = (b : Block) → slice_get g.blocks w.block ≡ Some b → GoesOn (length g.blocks) ahead b.end (scan_of goes to y w.block w.is_written b.instructions)

  -- So it is of the first so many.
  abbrev pub AreClosed : List Way → ℕ → Type 0
  AreClosed ahead count = (j : ℕ) (w : Way) → j < count → slice_get ahead j ≡ Some w → IsClosed ahead w

  -- What is so of a search at one of the blocks to which it came.
  pub record IsSearched (first now : List Way) (at : ℕ) : Type 0 where
    pub keeps : (l : ℕ) (was : Bool) → HasCome first l was → HasCome now l was
    pub back : SomeComes assignments g to y now → SomeComes assignments g to y first
    pub closed : AreClosed now at
    pub within : at ≤ length now

  pub searched_first : (first : List Way) → IsSearched first first 0
  searched_first first = record { keeps = λ l was here. here; back = λ some. some; closed = λ j w lt is. absurd (omega (arith, lt)); within = omega arith }

  pub searched_next : (first now new : List Way) (at : ℕ) (w : Way) (b : Block) → slice_get now at ≡ Some w → slice_get g.blocks w.block ≡ Some b → HasGrown b.end (scan_of goes to y w.block w.is_written b.instructions) now new
      → GoesOn (length g.blocks) new b.end (scan_of goes to y w.block w.is_written b.instructions) → IsSearched first now at → IsSearched first new (at + 1)
  searched_next first now new at w b is there grown go s =
      let inside = slice_get_within now at w is in
      let long : length new ≡ length now + length grown.more = ap (λ l. length l) grown.is ∙ length-append now grown.more in
      record {
        keeps = λ l was here. grown_keeps grown l was (s.keeps l was here);
        back = λ some. elim (comes_back w.block b [] b.instructions there refl w.is_written now new grown some) [
          | inl old ↦ s.back old
          | inr comes ↦ s.back (record { number = w.block; was_written = w.is_written; has_come = among_of w now at is; block = b; is = there; comes = comes })
        ];
        closed = λ j v lt is_j. (let so : slice_get now j ≡ Some v = sym (get_front now grown.more j (omega (arith, lt, inside))) ∙ ap (λ l. slice_get l j) (sym grown.is) ∙ is_j in
            elim (cases_eq j at) [
              | inl q ↦ (λ c at_c. (let same : w ≡ v = same_Some w v (sym is ∙ ap (slice_get now) (sym q) ∙ so) in
                  let block : b ≡ c = same_Some b c (sym there ∙ ap (λ (z : Way). slice_get g.blocks z.block) same ∙ at_c) in
                  let P : Block → Type 0 = λ d. GoesOn (length g.blocks) new d.end (scan_of goes to y v.block v.is_written d.instructions) in
                  let Q : Way → Type 0 = λ z. GoesOn (length g.blocks) new b.end (scan_of goes to y z.block z.is_written b.instructions) in
                  subst P block (subst Q same go)))
              | inr ne ↦ (λ c at_c. goes_more grown (length g.blocks) c.end (scan_of goes to y v.block v.is_written c.instructions) (s.closed j v (omega (arith, lt, ne)) so c at_c))
            ]);
        within = omega (arith, long, inside);
      }

  -- Where the block is none there is nothing to do.
  pub searched_skip : (first now : List Way) (at : ℕ) (w : Way) → slice_get now at ≡ Some w → ((b : Block) → slice_get g.blocks w.block ≡ Some b → ⊥) → IsSearched first now at → IsSearched first now (at + 1)
  searched_skip first now at w is none s =
      let inside = slice_get_within now at w is in
      record {
        keeps = s.keeps;
        back = s.back;
        closed = λ j v lt is_j. elim (cases_eq j at) [
          | inl q ↦ (λ c at_c. (let same : w ≡ v = same_Some w v (sym is ∙ ap (slice_get now) (sym q) ∙ is_j) in absurd (none c (ap (λ (z : Way). slice_get g.blocks z.block) same ∙ at_c))))
          | inr ne ↦ s.closed j v (omega (arith, lt, ne)) is_j
        ];
        within = omega (arith, inside);
      }

  -- A search that came to the end did not come to the point with a write.
  pub searched_all : (first now : List Way) (at : ℕ) → length now ≤ at → IsSearched first now at → SomeComes assignments g to y first → ⊥
  searched_all first now at all s some =
      let closed : (l : ℕ) (was : Bool) (b : Block) → HasCome now l was → slice_get g.blocks l ≡ Some b → GoesOn (length g.blocks) now b.end (scan_of goes to y l was b.instructions) =
      λ l was b here there. (let j = among_index here in
      let inside = slice_get_within now j.0 (record { block = l; is_written = was }) j.1 in
      s.closed j.0 (record { block = l; is_written = was }) (omega (arith, inside, all)) j.1 b there) in
      none_comes g goes are to y point now closed some.was_written some.number some.block.instructions some.block.end some.comes some.block [] some.is refl refl (closed some.number some.was_written some.block (s.keeps some.number some.was_written some.has_come) some.is)

  -- And one that came there with a write has a way.
  pub searched_found : (first now : List Way) (at : ℕ) (w : Way) (b : Block) → slice_get now at ≡ Some w → slice_get g.blocks w.block ≡ Some b → scan_of goes to y w.block w.is_written b.instructions ≡ Stops true → IsSearched first now at → SomeComes assignments g to y first
  searched_found first now at w b is there stops s =
      s.back (record { number = w.block; was_written = w.is_written; has_come = among_of w now at is; block = b; is = there; comes = scan_stops g goes are to y point w.block b [] b.instructions there refl w.is_written stops })

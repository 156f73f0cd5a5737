-- Copies to scalars, one block after the other.
use Rattle.std.proofs.Common.{◌≡◌, ◌≢◌, inl, inr, ℕ, zero, suc, ◌+◌, ◌<◌, ◌≤◌, Bool, true, false, Option, Some, None, List, [], ◌∷◌, ◌++◌, length, get_or, map, take, refl, sym, ap, subst, ◌∙◌, arith, eq-eqb}
use Rattle.std.specs.Prelude.{slice_get, slice_set, ◌==◌, ◌&&◌, if◌then◌else◌}
use Rattle.std.specs.Option.{option_map_or}
use Rattle.std.specs.Global.{Vec}
use Rattle.std.proofs.lemmas.Bool.Decides.{eqb_tells}
use Rattle.std.proofs.lemmas.List.{get_or-map, length-map, length-set, take_more}
use Rattle.std.proofs.lemmas.Option.{slice_get-get_or}
use Rattle.debug_records.specs.declared.change.Place.{Place}
use Rattle.graph_core.specs.declared.block.Block as declared-block
use Rattle.graph_core.specs.declared.graph.Graph as declared-graph
use Rattle.graph_core.specs.Graphs.{Name, Constant, StaticAddress, Instruction, Marker, Note, Move, Operate, Truncate, Same, Address, Load, Store, Zero, CopyWords, Call, Block, block_view, graph_view, instruction_view, scalar_view}
use Rattle.graph_core.specs.Validity.{place_behind}
use Rattle.graph_core.specs.Points.{is_place}
use Rattle.graph_homes.specs.Reused.{first_among, first_copy, one_or_other}
use Rattle.currency_notes.proofs.Lists.{get_put_other, get_put_same, take_whole}
use Rattle.currency_writers.specs.declared.copies.Copied as declared-copied
use Rattle.currency_writers.specs.declared.copies.Copies as declared-copies
use Rattle.currency_writers.specs.Copies.{AreCopied, AreCopies, copies_to, first_of}
use Rattle.currency_writers.specs.Writers.{placed}

pub or_none : {A : Type 0} (a : Option A) → one_or_other a None ≡ a
or_none None = refl
or_none (Some a) = refl

or_or : {A : Type 0} (a b c : Option A) → one_or_other (one_or_other a b) c ≡ one_or_other a (one_or_other b c)
or_or None b c = refl
or_or (Some a) b c = refl

or_if : {A : Type 0} (t : Bool) (a : A) (b c : Option A) → one_or_other (if t then Some a else b) c ≡ (if t then Some a else one_or_other b c)
or_if true a b c = refl
or_if false a b c = refl

-- the first of copies, one by one
first_next : (t : Bool) (from : ℕ) (rest more : Option ℕ) (last : Option ℕ) → more ≡ one_or_other rest last → (if t then Some from else more) ≡ one_or_other (if t then Some from else rest) last
first_next true from rest more last e = refl
first_next false from rest more last e = e

-- one more copy
first_more : (copies : List declared-copied.Copied) (c : declared-copied.Copied) (p : ℕ) → first_of (copies ++ (c ∷ [])) p ≡ one_or_other (first_of copies p) (if c.place == p then Some c.from else None)
first_more [] c p = refl
first_more (d ∷ copies) c p = first_next (d.place == p) d.from (first_of copies p) (first_of (copies ++ (c ∷ [])) p) (if c.place == p then Some c.from else None) (first_more copies c p)

-- one more instruction
among_last : (p x : ℕ) (place : Option ℕ) (all : List Instruction) (i : Instruction) → first_among p x place (all ++ (i ∷ [])) ≡ one_or_other (first_among p x place all) (first_among p x (place_behind all place) (i ∷ []))
among_last p x place [] i = refl
among_last p x place (Marker q ∷ more) i = among_last p x (Some q) more i
among_last p x place (Note y v ∷ more) i = among_last p x place more i
among_last p x place (Move y (Name m) ∷ more) i =
    ap (λ o. if is_place p place && y == x then Some m else o) (among_last p x place more i) ∙ sym (or_if (is_place p place && y == x) m (first_among p x place more) (first_among p x (place_behind more place) (i ∷ [])))
among_last p x place (Move y (Constant w) ∷ more) i = among_last p x place more i
among_last p x place (Move y (StaticAddress o n) ∷ more) i = among_last p x place more i
among_last p x place (Operate y o a b ∷ more) i = among_last p x place more i
among_last p x place (Truncate y t a ∷ more) i = among_last p x place more i
among_last p x place (Same y a b ∷ more) i = among_last p x place more i
among_last p x place (Address y o ∷ more) i = among_last p x place more i
among_last p x place (Load y e l ∷ more) i = among_last p x place more i
among_last p x place (Store e l a ∷ more) i = among_last p x place more i
among_last p x place (Zero o w ∷ more) i = among_last p x place more i
among_last p x place (CopyWords o b w ∷ more) i = among_last p x place more i
among_last p x place (Call y f a ∷ more) i = among_last p x place more i

-- one more block
pub copy_last : (p x : ℕ) (blocks : List Block) (b : Block) → first_copy p x (blocks ++ (b ∷ [])) ≡ one_or_other (first_copy p x blocks) (first_among p x b.place b.instructions)
copy_last p x [] b = or_none (first_among p x b.place b.instructions)
copy_last p x (c ∷ blocks) b =
    ap (λ o. one_or_other (first_among p x c.place c.instructions) o) (copy_last p x blocks b) ∙ sym (or_or (first_among p x c.place c.instructions) (first_copy p x blocks) (first_among p x b.place b.instructions))

-- one instruction behind others
pub copied_more : (old mid new : declared-copies.Copies) (place : Option ℕ) (all : List Instruction) (i : Instruction) → AreCopied old mid place all → AreCopied mid new (place_behind all place) (i ∷ []) → AreCopied old new place (all ++ (i ∷ []))
copied_more old mid new place all i before one = record {
  graph = one.graph ∙ before.graph;
  count = one.count ∙ before.count;
  first = λ p x lt. one.first p x (subst (λ n. x < n) (sym before.count) lt) ∙ ap (λ o. one_or_other o (first_among p x (place_behind all place) (i ∷ []))) (before.first p x lt)
      ∙ or_or (first_of (copies_to old.by_target.items x) p) (first_among p x place all) (first_among p x (place_behind all place) (i ∷ []))
      ∙ ap (λ o. one_or_other (first_of (copies_to old.by_target.items x) p) o) (sym (among_last p x place all i));
}

no_test : (b : Bool) (t : Bool) → t ≡ false → (b && t) ≡ false
no_test true t e = e
no_test false t e = refl

-- a copy to a scalar
module _ (old new : declared-copies.Copies) (q y m : ℕ) (v w : Vec declared-copied.Copied) (lt : y < length old.by_target.items) (is : slice_get old.by_target.items y ≡ Some v) (put : new.by_target.items ≡ slice_set old.by_target.items y w)
    (more : w.items ≡ v.items ++ (record { place = q; from = m } ∷ [])) (graph : new.graph.now ≡ old.graph.now) (long : length new.by_target.items ≡ length old.by_target.items) where
  list_at : copies_to new.by_target.items y ≡ v.items ++ (record { place = q; from = m } ∷ [])
  list_at = ap (λ all. copies_to all y) put ∙ ap (λ (o : Option (Vec declared-copied.Copied)). option_map_or (λ z. z.items) o []) (get_put_same old.by_target.items y w lt) ∙ more

  list_before : copies_to old.by_target.items y ≡ v.items
  list_before = ap (λ (o : Option (Vec declared-copied.Copied)). option_map_or (λ z. z.items) o []) is

  list_other : (x : ℕ) → x ≢ y → copies_to new.by_target.items x ≡ copies_to old.by_target.items x
  list_other x other = ap (λ all. copies_to all x) put ∙ ap (λ (o : Option (Vec declared-copied.Copied)). option_map_or (λ z. z.items) o []) (get_put_other old.by_target.items y w x other)

  and_true : (b t : Bool) → t ≡ true → (b && t) ≡ b
  and_true true t e = e
  and_true false t e = refl

  here : (p : ℕ) → first_of (copies_to new.by_target.items y) p ≡ one_or_other (first_of (copies_to old.by_target.items y) p) (if (q == p) && (y == y) then Some m else None)
  here p =
      ap (λ l. first_of l p) list_at ∙ first_more v.items (record { place = q; from = m }) p ∙ ap (λ l. one_or_other (first_of l p) (if q == p then Some m else None)) (sym list_before)
      ∙ ap (λ t. one_or_other (first_of (copies_to old.by_target.items y) p) (if t then Some m else None)) (sym (and_true (q == p) (y == y) (eq-eqb y y refl)))

  pub copied_one : AreCopied old new (Some q) (Move y (Name m) ∷ [])
  copied_one = record {
    graph = graph;
    count = long;
    first = λ p x inside. elim (eqb_tells y x) [
      | inl e ↦ subst (λ z. first_of (copies_to new.by_target.items z) p ≡ one_or_other (first_of (copies_to old.by_target.items z) p) (if (q == p) && (y == z) then Some m else None)) e.1 (here p)
      | inr e ↦ (let other : x ≢ y = λ s. e.1 (sym s) in
          ap (λ l. first_of l p) (list_other x other)
          ∙ sym (ap (λ t. one_or_other (first_of (copies_to old.by_target.items x) p) (if t then Some m else None)) (no_test (q == p) (y == x) e.0) ∙ or_none (first_of (copies_to old.by_target.items x) p)))
    ];
  }

-- behind the instructions that were passed
pub copied_taken : (old mid new : declared-copies.Copies) (place before : Option ℕ) (passed all : List Instruction) (i : Instruction) → all ≡ passed ++ (i ∷ []) → before ≡ place_behind passed place → AreCopied old mid place passed → AreCopied mid new before (i ∷ []) → AreCopied old new place all
copied_taken old mid new place before passed all i e at so_far one =
    subst (λ l. AreCopied old new place l) (sym e) (copied_more old mid new place passed i so_far (subst (λ q. AreCopied mid new q (i ∷ [])) at one))

-- a copy that was put into the list of its scalar
pub copied_put : (old new : declared-copies.Copies) (place : Option Place) (q : Place) (y m : ℕ) (v w : Vec declared-copied.Copied) → place ≡ Some q → y < length old.by_target.items → v ≡ get_or old.by_target.items y v → new.by_target.items ≡ slice_set old.by_target.items y w
    → w.items ≡ v.items ++ (record { place = q.0; from = m } ∷ []) → new.graph.now ≡ old.graph.now → AreCopied old new (placed place) (Move y (Name m) ∷ [])
copied_put old new place q y m v w e lt is put more graph =
    subst (λ o. AreCopied old new (placed o) (Move y (Name m) ∷ [])) (sym e)
    (copied_one old new q.0 y m v w lt (slice_get-get_or old.by_target.items y v lt ∙ ap Some (sym is)) put more graph (ap length put ∙ length-set old.by_target.items y w))

-- one block more
taken_block : (xs : List declared-block.Block) (k : ℕ) (b : declared-block.Block) → k < length xs → b ≡ get_or xs k b → take (k + 1) (map block_view xs) ≡ take k (map block_view xs) ++ (block_view b ∷ [])
taken_block xs k b lt is =
    take_more (map block_view xs) k (block_view b) (omega (arith, lt, length-map xs block_view)) ∙ ap (λ a. take k (map block_view xs) ++ (a ∷ [])) (get_or-map block_view xs k b (block_view b) lt ∙ ap block_view (sym is))

-- the copies of one block more
pub copies_next : (c new : declared-copies.Copies) (g : declared-graph.Graph) (k : ℕ) (b : declared-block.Block) → k < length g.blocks.items → b ≡ get_or g.blocks.items k b
    → ((p x : ℕ) → x < length c.by_target.items → first_of (copies_to c.by_target.items x) p ≡ first_copy p x (take k (map block_view g.blocks.items)))
    → AreCopied c new (placed b.place) (map instruction_view b.instructions.items) → (p x : ℕ) → x < length new.by_target.items → first_of (copies_to new.by_target.items x) p ≡ first_copy p x (take (k + 1) (map block_view g.blocks.items))
copies_next c new g k b lt is before more p x inside =
    let here : x < length c.by_target.items = subst (λ n. x < n) more.count inside in
    more.first p x here ∙ ap (λ o. one_or_other o (first_among p x (placed b.place) (map instruction_view b.instructions.items))) (before p x here)
    ∙ sym (copy_last p x (take k (map block_view g.blocks.items)) (block_view b)) ∙ sym (ap (λ l. first_copy p x l) (taken_block g.blocks.items k b lt is))

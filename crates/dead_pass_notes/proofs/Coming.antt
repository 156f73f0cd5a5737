-- A search comes to a block, and goes on to those to which an end leads.
use Rattle.std.proofs.Common.{◌≡◌, ◌⊎◌, ℕ, zero, suc, ◌+◌, ◌-◌, ◌*◌, ◌<◌, ◌≤◌, inl, inr, Bool, true, false, List, [], ◌∷◌, ◌++◌, length, take, drop, get_or, map, refl, sym, ap, ◌∙◌, subst, arith}
use Rattle.std.specs.Prelude.{if◌then◌else◌, slice_get, slice_set, slice_index_or, Some}
use Rattle.std.specs.Int.{from_bool}
use Rattle.std.proofs.lemmas.Bool.{cases_eq}
use Rattle.std.proofs.lemmas.List.{drop-map, get_or-set_other, length-drop, length-map, length-set, map_more, take_all}
use Rattle.std.proofs.lemmas.Option.{slice_get_read}
use Rattle.graph_core.specs.declared.block.Block as declared-block
use Rattle.graph_core.specs.declared.instruction.Instr as declared-instr
use Rattle.graph_core.specs.declared.name.Label.{Label}
use Rattle.graph_core.specs.Graphs.{End, Graph, block_view, instruction_view}
use Rattle.graph_core.specs.Paths.{Among, front, behind}
use Rattle.graph_core.specs.Uses.{targets_of}
use Rattle.dead_pass_notes.specs.declared.scans.Scanned.{Scanned}
use Rattle.dead_pass_notes.specs.declared.scans.Scanned.TheVariants.{Stops, Leaves}
use Rattle.dead_pass_notes.specs.declared.ways.Way.{Way}
use Rattle.dead_pass_notes.specs.Scans.{HasCome, GoesOn, number_of}
use Rattle.dead_pass_notes.specs.Spots.{left_at, left_in}
use Rattle.dead_pass_notes.proofs.Searching.{among_left, among_right, among_parts, among_one}
pub use Rattle.base_laws.proofs.Lists.{there}

pub there_self : {A : Type 0} (read xs : List A) (i : ℕ) (x : A) → read ≡ xs → i < length read → x ≡ get_or read i x → slice_get xs i ≡ Some x
there_self read xs i x same inside is = ap (λ l. slice_get l i) (sym same) ∙ slice_get_read read (length read) i x refl inside is

-- what is left of a block
pub left_is : (g : Graph) (n left : ℕ) (b : declared-block.Block) (read : List declared-instr.Instr) (count from : ℕ) → slice_get g.blocks n ≡ Some (block_view b) → read ≡ b.instructions.items → count ≡ length read → from ≡ count - left
    → map instruction_view (take (length read - from) (drop from read)) ≡ left_at g n left
left_is g n left b read count from at same counted is =
    let long = length-drop from read in
    let size = length-map b.instructions.items instruction_view in
    let whole = ap (λ l. length l) same in
    let offset : from ≡ length (map instruction_view b.instructions.items) - left = omega (arith, counted, is, size, whole) in
    ap (map instruction_view) (take_all (length read - from) (drop from read) (omega (arith, long)))
    ∙ sym (drop-map instruction_view from read)
    ∙ ap (λ l. drop from (map instruction_view l)) same
    ∙ ap (λ k. drop k (map instruction_view b.instructions.items)) offset
    ∙ sym (ap (λ o. left_in o left) at)

pub bool_number : (w : Bool) → from_bool w ≡ (if w then 1 else 0)
bool_number true = refl
bool_number false = refl

one_bit : (w : Bool) → (if w then 1 else 0) ≤ 1
one_bit true = omega arith
one_bit false = omega arith

same_bit : (v w : Bool) → ◌≡◌ {A = ℕ} (if v then 1 else 0) (if w then 1 else 0) → v ≡ w
same_bit true true e = refl
same_bit true false e = absurd (omega (arith, e))
same_bit false true e = absurd (omega (arith, e))
same_bit false false e = refl

-- states of the same number are the same
same_state : (b c : ℕ) (v w : Bool) → number_of b v ≡ number_of c w → (b ≡ c) × (v ≡ w)
same_state b c v w e =
    let one = one_bit v in
    let two = one_bit w in
    let blocks : b ≡ c = omega (arith, e, one, two) in
    let bits : ◌≡◌ {A = ℕ} (if v then 1 else 0) (if w then 1 else 0) = omega (arith, e, blocks) in
    (blocks, same_bit v w bits)

-- What is seen when the search came to a block more.
pub come_seen : (seen : List ℕ) (search : ℕ) (old new : List Way) (block : ℕ) (w : Bool) (number : ℕ) → number ≡ number_of block w → new ≡ old ++ record { block = block; is_written = w } ∷ []
    → ((b : ℕ) (v : Bool) → number_of b v < length seen → slice_index_or seen (number_of b v) 0 ≡ search → HasCome old b v)
    → (b : ℕ) (v : Bool) → number_of b v < length (slice_set seen number search) → slice_index_or (slice_set seen number search) (number_of b v) 0 ≡ search → HasCome new b v
come_seen seen search old new block w number is grown all b v inside e = elim (cases_eq (number_of b v) number) [
  | inl q ↦ (let same = same_state b block v w (q ∙ is) in
      let here : HasCome (old ++ record { block = block; is_written = w } ∷ []) block w = among_right old front in
      let P : List Way → Type 0 = λ ways. HasCome ways b v in
      subst P (sym grown) (subst (λ k. HasCome (old ++ record { block = block; is_written = w } ∷ []) k v) (sym same.0) (subst (λ u. HasCome (old ++ record { block = block; is_written = w } ∷ []) block u) (sym same.1) here)))
  | inr ne ↦ (let long = length-set seen number search in
      let P : List Way → Type 0 = λ ways. HasCome ways b v in
      subst P (sym grown) (among_left (all b v (omega (arith, inside, long)) (sym (get_or-set_other seen number (number_of b v) search 0 ne) ∙ e)) (record { block = block; is_written = w } ∷ [])))
]

pub come_here : (old new : List Way) (block : ℕ) (w : Bool) → new ≡ old ++ record { block = block; is_written = w } ∷ [] → HasCome new block w
come_here old new block w grown = (let P : List Way → Type 0 = λ ways. HasCome ways block w in subst P (sym grown) (among_right old front))

-- the number of a state of a block is within
pub state_within : (l count size : ℕ) (w : Bool) → size ≡ count * 2 → l < count → number_of l w < size
state_within l count size w is lt = (let bit = one_bit w in omega (arith, is, lt, bit))

-- The next of some labels is among their numbers,
pub next_among : (labels : List Label) (i : ℕ) (d : Label) → i < length labels → Among (get_or labels i d).0 (map (λ (label : Label). label.0) labels)
next_among [] i d lt = absurd (omega (arith, lt))
next_among (x ∷ labels) zero d lt = front
next_among (x ∷ labels) (suc i) d lt = behind (next_among labels i d (omega (arith, lt)))

-- and what is among the numbers as far as that one is its number, or among those before.
among_more : (labels : List Label) (i : ℕ) (d : Label) → i < length labels → (l : ℕ) → Among l (map (λ (label : Label). label.0) (take (i + 1) labels)) → Among l (map (λ (label : Label). label.0) (take i labels)) ⊎ (l ≡ (get_or labels i d).0)
among_more labels i d lt l there = elim (among_parts (map (λ (label : Label). label.0) (take i labels)) ((get_or labels i d).0 ∷ []) (subst (λ all. Among l all) (map_more (λ (label : Label). label.0) labels i d lt) there)) [
  | inl before ↦ inl before
  | inr here ↦ inr (among_one here)
]

-- A search that came to the blocks of the labels before one, and comes to that, has come to those as far as that.
pub come_more : (labels : List Label) (i : ℕ) (d : Label) (w : Bool) (size : ℕ) (old new : List Way) → i < length labels → ((l : ℕ) → HasCome old l w → HasCome new l w) → (number_of (get_or labels i d).0 w < size → HasCome new (get_or labels i d).0 w) → (count : ℕ) → size ≡ count * 2
    → ((l : ℕ) → Among l (map (λ (label : Label). label.0) (take i labels)) → l < count → HasCome old l w) → (l : ℕ) → Among l (map (λ (label : Label). label.0) (take (i + 1) labels)) → l < count → HasCome new l w
come_more labels i d w size old new lt keeps here count long before l among small = elim (among_more labels i d lt l among) [
  | inl there ↦ keeps l (before l there small)
  | inr same ↦ subst (λ k. HasCome new k w) (sym same) (here (state_within (get_or labels i d).0 count size w long (omega (arith, same, small))))
]

stops_leaves : {a b : Bool} → Leaves a ≡ Stops b → ⊥
stops_leaves e = cc

same_leaves : {a b : Bool} → Leaves a ≡ Leaves b → a ≡ b
same_leaves e = cc

-- from a scan that leaves the block a search goes on
pub leaves_on : (count : ℕ) (new : List Way) (e : End) (scanned : Scanned) (w : Bool) → scanned ≡ Leaves w → ((l : ℕ) → Among l (targets_of e) → l < count → HasCome new l w) → GoesOn count new e scanned
leaves_on count new e scanned w is come = record {
  unwritten = λ q. stops_leaves (sym is ∙ q);
  leaves = λ was l q among lt. (let same : w ≡ was = same_leaves (sym is ∙ q) in subst (λ v. HasCome new l v) same (come l among lt));
}

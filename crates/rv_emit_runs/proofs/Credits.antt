-- What is enough for an activation to come to the next event, and that it is at least what the next step takes.
use Rattle.std.proofs.Common.{◌≡◌, ◌≢◌, ℕ, ◌+◌, ◌-◌, ◌*◌, ◌<◌, ◌≤◌, sym, ap, ◌∙◌, subst, arith, Option, Some, Bool, true, false, cond, List, [], ◌∷◌, ◌++◌, length, append-nil}
use Rattle.std.specs.Prelude.{◌==◌}
use Rattle.std.specs.Option.{option_map_or}
use Rattle.rv_code.specs.declared.instruction.Instruction.TheVariants as instruction
use Rattle.rv_code.specs.declared.instruction.StoreOperation.TheVariants.{Sw}
use Rattle.graph_core.specs.declared.instruction.Callee.TheVariants as callee
use Rattle.graph_core.specs.Graphs.{Operand, Instruction, Marker, Zero, CopyWords, Call, Return, Block, Graph}
use Rattle.graph_core.specs.Paths.{Path, place_of, called}
use Rattle.graph_core.specs.Validity.{KeepsPlace, place_behind}
use Rattle.graph_core.specs.WellMarked.{InPlace}
use Rattle.word_base.specs.Arithmetic.{subtracted}
use Rattle.graph_core_weights.proofs.Standing.{StandsSo, path_stands, IsStart, in_place}
use Rattle.graph_core_weights.proofs.Sums.{sum_has}
use Rattle.graph_homes.specs.Homed.{HomedForm}
use Rattle.rv_emit_tables.specs.Emitted.{EmittedForm}
use Rattle.rv_emit_words.specs.declared.piece.Held.{Held}
use Rattle.rv_emit_storage.specs.Storages.{StorageForm}
use Rattle.rv_emit_words.specs.Growing.{CodeState}
use Rattle.rv_emit_code.specs.Beginning.{beginning_behind, base_code, bindings_code, saving_code}
use Rattle.rv_emit_code.specs.Leaving.{moving_code}
use Rattle.rv_emit_runs.specs.Waiting.{FunctionCode}
use Rattle.rv_emit_runs.specs.Laid.{IsCode}
use Rattle.rv_emit_runs.proofs.Beginnings.{FirstBlock, first_block, begins_there}
use Rattle.rv_emit_runs.proofs.Frames.{graph_there}
use Rattle.rv_emit_runs.proofs.Places.{IsNoMarker, unmarked_keeps}
use Rattle.rv_emit_runs.proofs.Rest.{codes_in, RestAt, position_of}
use Rattle.rv_emit_runs.proofs.States.{growing}
use Rattle.rv_emit_runs.proofs.Tracks.{Position, pieces_of_all}
use Rattle.rv_emit_runs.proofs.UnitSteps.{Spot}
use Rattle.rv_emit_runs.specs.Timed.{IsTimed, AreTimed}
use Rattle.rv_emit_runs.specs.Room.{HasRoom}
use Rattle.rv_emit_runs.proofs.Amounts.{plain_cost, early_cost, later_cost, first_of, left_words, all_plain, all_early, all_later, begins_of, ends_of, once, most_once, most_early, most_later}
use Rattle.rv_emit_runs.proofs.Payments.{pay, pay_few}
use Rattle.rv_emit_runs.proofs.Totals.{first_there, all_few}
use Rattle.base_laws.proofs.Options.{same_some as same_of}

-- Lists with something between them are not empty.
between : {A : Type 0} (xs : List A) (y : A) (ys zs ws : List A) → 1 ≤ length (((xs ++ y ∷ ys) ++ zs) ++ ws)
between [] y ys zs ws = omega arith
between (x ∷ xs) y ys zs ws = omega arith

-- A function begins with the words of the guard, and more: one stores the address to which it returns.
behind_some : (s : StorageForm) (g : Graph) (saved : List ℕ) (size : ℕ) (is_main : Bool) → 1 ≤ length (beginning_behind s g saved size is_main)
behind_some s g saved size is_main = between (moving_code (subtracted 0 size)) (instruction.Store Sw 1 2 0) (saving_code saved 4) (base_code is_main s.base) (bindings_code s g 0 g.parameters)

module _ (h : HomedForm) (timed : AreTimed h.unit) (e : EmittedForm) (code : IsCode h e) (room : HasRoom h e code) where
  -- What is to be paid of each sort of cost.
  abbrev pub pay_plain : Position → ℕ
  pay_plain p = pay h timed e code (λ f. plain_cost (codes_in h e code f).storage (codes_in h e code f).graph.entry) (left_words h e code room) p

  abbrev pub pay_early : Position → ℕ
  pay_early p = pay h timed e code (λ f. early_cost (codes_in h e code f).storage (codes_in h e code f).graph.entry) (λ f l. 0) p

  abbrev pub pay_later : Position → ℕ
  pay_later p = pay h timed e code (λ f. later_cost (codes_in h e code f).storage (codes_in h e code f).graph.entry) (λ f l. 0) p

  -- the place of the entry of a point's function
  abbrev pub entry_at : Position → ℕ
  entry_at p = (codes_in h e code p.function).graph.entry

  -- So many instructions are enough from a point to the next event, where so many activations wait. Where the function begins: all of it, with what it sets or copies in its entry's place. In the
  -- entry's place: what is to be paid to the next marker. In another place: what is to be paid to the next marker, and the function's end; all of each function that waits; and all of one function
  -- that begins.
  pub record Credit (p : Position) (waiting b : ℕ) : Type 0 where
    pub start : p.history ≡ [] → all_plain h e code room p.function + all_early h e code room p.function ≤ b
    pub early : place_of p.history ≡ Some (entry_at p) → pay_plain p + pay_early p ≤ b
    pub going : (q : ℕ) → place_of p.history ≡ Some q → q ≢ entry_at p
        → pay_plain p + (5 + ends_of h e code room p.function) + cond (called p.history) 0 (pay_later p) + waiting * most_once h e code room + (most_once h e code room + most_early h e code room) ≤ b

  -- ---- What functions cost

  pub begins_is : (f : ℕ) → f < length h.unit.graphs
      → begins_of h e code room f ≡ 4 + length (beginning_behind (codes_in h e code f).storage (codes_in h e code f).graph (codes_in h e code f).saved (codes_in h e code f).size (f == h.unit.main))
  begins_is f low = let at = (begins_there h timed.valid e code f low).1 in omega (arith, at)

  pub begins_long : (f : ℕ) → f < length h.unit.graphs → 5 ≤ begins_of h e code room f
  begins_long f low =
      let c : FunctionCode = codes_in h e code f in
      let is = begins_is f low in
      let some = behind_some c.storage c.graph c.saved c.size (f == h.unit.main) in
      omega (arith, is, some)

  pub once_few : (f : ℕ) → f < length h.unit.graphs → once h e code room f ≤ most_once h e code room
  once_few f low = sum_has (once h e code room) (length h.unit.graphs) f low

  pub early_few : (f : ℕ) → f < length h.unit.graphs → all_early h e code room f ≤ most_early h e code room
  early_few f low = sum_has (all_early h e code room) (length h.unit.graphs) f low

  later_few : (f : ℕ) → f < length h.unit.graphs → all_later h e code room f ≤ most_later h e code room
  later_few f low = sum_has (all_later h e code room) (length h.unit.graphs) f low

  times_most : (w n : ℕ) → w ≤ 1023 → w * n ≤ 1023 * n
  times_most w n le =
      let k : ℕ = 1023 - w in
      let whole : w + k ≡ 1023 = omega (arith, le) in
      let split : (w + k) * n ≡ w * n + k * n = grind arith in
      let same : (w + k) * n ≡ 1023 * n = ap (λ m. m * n) whole in
      omega (arith, split, same)

  module _ {x : Spot} {index : ℕ} {held : List Held} {begins : Bool} (r : RestAt h e code x index held begins) where
    abbrev f : FunctionCode
    f = codes_in h e code x.function

    abbrev here : Position
    here = position_of r

    abbrev now : CodeState
    now = growing held r.owner begins

    pub plain_all : pay_plain (position_of r) ≤ all_plain h e code room x.function
    plain_all = pay_few h timed e code (λ f. plain_cost (codes_in h e code f).storage (codes_in h e code f).graph.entry) (left_words h e code room) r

    pub early_all : pay_early (position_of r) ≤ all_early h e code room x.function
    early_all = pay_few h timed e code (λ f. early_cost (codes_in h e code f).storage (codes_in h e code f).graph.entry) (λ f l. 0) r

    pub later_all : pay_later (position_of r) ≤ all_later h e code room x.function
    later_all = pay_few h timed e code (λ f. later_cost (codes_in h e code f).storage (codes_in h e code f).graph.entry) (λ f l. 0) r

    -- 1,025 instructions for each word are enough wherever it is.
    pub full : (waiting : ℕ) → waiting ≤ 1023 → Credit (position_of r) waiting (1025 * length e.code)
    full waiting few =
        let all = all_few h timed e code room in
        let one = once_few x.function r.low in
        let two = early_few x.function r.low in
        let three = later_few x.function r.low in
        let p = plain_all in
        let y = early_all in
        let z = later_all in
        let four = begins_is x.function r.low in
        let times = times_most waiting (most_once h e code room) few in
        record {
          start = λ none. omega (arith, all, one, two);
          early = λ is. omega (arith, all, one, two, p, y);
          going = λ q is other. by_test (pay_plain here + (5 + ends_of h e code room x.function)) (pay_later here) (waiting * most_once h e code room) (most_once h e code room + most_early h e code room) (1025 * length e.code) (called r.history) (omega (arith, all, one, two, three, p, z, four, times)) (omega (arith, all, one, two, three, p, z, four, times));
        }
      where
        by_test : (n m w s b : ℕ) (c : Bool) → n + 0 + w + s ≤ b → n + m + w + s ≤ b → n + cond c 0 m + w + s ≤ b
        by_test n m w s b true without with = without
        by_test n m w s b false without with = with

    -- ---- Where it stands

    marks : IsTimed (codes_in h e code x.function).graph
    marks = timed.graphs x.function (codes_in h e code x.function).graph (graph_there h.unit x.function r.low)

    pub first : FirstBlock h timed.valid e code x.function
    first = first_block h timed.valid e code x.function r.low

    pub first_marked : (rest : List Instruction) × (first.block.instructions ≡ Marker (codes_in h e code x.function).graph.entry ∷ rest)
    first_marked = marks.begins first.block first.there

    pub stands : StandsSo (codes_in h e code x.function).graph first.block r.history r.number r.more r.block.end
    stands = path_stands (codes_in h e code x.function).graph first.block first.there first_marked.0 first_marked.1 marks.first r.track.way

    -- At the beginning the entry's marker is next.
    pub starts_with : (i : Instruction) (more : List Instruction) → r.more ≡ i ∷ more → IsStart first.block r.history r.number r.more → i ≡ Marker (codes_in h e code x.function).graph.entry
    starts_with i more is start = first_is (sym is ∙ start.whole ∙ first_marked.1)
      where
        first_is : {y z : Instruction} {ys zs : List Instruction} → y ∷ ys ≡ z ∷ zs → y ≡ z
        first_is e = cc

    pub starts_some : r.more ≡ [] → IsStart first.block r.history r.number r.more → ⊥
    starts_some is start = let e = sym is ∙ start.whole ∙ first_marked.1 in cc

    -- An instruction that is no marker stands in the place in force, and its code belongs to that.
    pub owner_is : (i : Instruction) (more : List Instruction) → r.more ≡ i ∷ more → IsNoMarker i → (q : ℕ) → place_of r.history ≡ Some q → r.owner ≡ q
    owner_is i more is none q place =
        let kept : Some r.owner ≡ Some x.place = unmarked_keeps i more (Some r.owner) (Some x.place) none (subst (λ l. KeepsPlace l (Some r.owner) (Some x.place)) is r.owned) in
        let forced : q ≡ x.place = ap (λ o. option_map_or (λ p. p) o (codes_in h e code x.function).graph.entry) (sym place) ∙ r.track.in_place in
        same_of kept ∙ sym forced

    pub stands_in : (i : Instruction) (more : List Instruction) → r.more ≡ i ∷ more → IsNoMarker i → (q : ℕ) → place_of r.history ≡ Some q → InPlace (codes_in h e code x.function).graph q i
    stands_in i more is none q place =
        let forced : q ≡ x.place = ap (λ o. option_map_or (λ p. p) o (codes_in h e code x.function).graph.entry) (sym place) ∙ r.track.in_place in
        let kept : Some x.place ≡ place_behind r.passed r.block.place = unmarked_keeps i more (Some x.place) (place_behind r.passed r.block.place) none (subst (λ l. KeepsPlace l (Some x.place) (place_behind r.passed r.block.place)) is r.track.kept) in
        in_place (codes_in h e code x.function).graph r.number r.block r.passed i more q r.there (r.track.whole ∙ ap (λ l. r.passed ++ l) is) (sym kept ∙ ap (λ n. Some n) (sym forced))

    -- No call is in the entry's place, which is not left by a return.
    pub no_early_call : (target : Option ℕ) (g : ℕ) (all : List Operand) (more : List Instruction) → r.more ≡ Call target (callee.Function g) all ∷ more → place_of r.history ≡ Some (codes_in h e code x.function).graph.entry → ⊥
    no_early_call target g all more is place =
        let it = stands_in (Call target (callee.Function g) all) more is tt (codes_in h e code x.function).graph.entry place in
        let clash : true ≡ false = marks.entry_calls (Call target (callee.Function g) all) it in
        cc

    pub no_early_return : (v : Option Operand) → r.more ≡ [] → r.block.end ≡ Return v → place_of r.history ≡ Some (codes_in h e code x.function).graph.entry → ⊥
    no_early_return v is end place =
        marks.leaves r.history r.number v (subst (λ z. Path (codes_in h e code x.function).graph r.history r.number [] z) end (subst (λ l. Path (codes_in h e code x.function).graph r.history r.number l r.block.end) is r.track.way)) place

    -- What sets or copies words is behind no call.
    pub zero_uncalled : (object n : ℕ) (more : List Instruction) → r.more ≡ Zero object n ∷ more → called r.history ≡ false
    zero_uncalled object n more is = marks.zeroes_first r.history r.number object n more r.block.end (subst (λ l. Path (codes_in h e code x.function).graph r.history r.number l r.block.end) is r.track.way)

    pub copy_uncalled : (object bytes n : ℕ) (more : List Instruction) → r.more ≡ CopyWords object bytes n ∷ more → called r.history ≡ false
    copy_uncalled object bytes n more is = marks.copies_first r.history r.number object bytes n more r.block.end (subst (λ l. Path (codes_in h e code x.function).graph r.history r.number l r.block.end) is r.track.way)

    -- ---- Words of the end

    -- How many words stand where nothing but the end is left.
    pub words_left : r.more ≡ [] → code.arrangement.label x.function r.at.next - index ≤ left_words h e code room x.function r.number
    words_left is =
        let c : FunctionCode = codes_in h e code x.function in
        let next : r.at.next ≡ ((code.functions x.function r.low).blocks r.number r.block r.there).next = ap (λ a. a.next) r.same in
        let label = ap (code.arrangement.label x.function) next in
        let fits = room.blocks x.function r.low r.number r.block r.there in
        let far = r.track.far in
        let whole : r.block.instructions ≡ r.passed = r.track.whole ∙ ap (λ l. r.passed ++ l) is ∙ append-nil r.passed in
        let state = first_there h timed e code room x.function r.number r.low r.block r.there in
        let many : pieces_of_all c.storage c.graph.entry r.block.instructions (first_of h e code x.function r.number) ≡ pieces_of_all c.storage c.graph.entry r.passed (first_of h e code x.function r.number) = ap (λ l. pieces_of_all c.storage c.graph.entry l (first_of h e code x.function r.number)) whole in
        let from = ap (pieces_of_all c.storage c.graph.entry r.passed) state in
        let left : left_words h e code room x.function r.number ≡ room.words x.function r.number - pieces_of_all c.storage c.graph.entry r.block.instructions (first_of h e code x.function r.number) =
        ap (λ o. option_map_or (λ (z : Block). room.words x.function r.number - pieces_of_all c.storage c.graph.entry z.instructions (first_of h e code x.function r.number)) o 0) r.there in
        omega (arith, label, fits, far, many, from, left)

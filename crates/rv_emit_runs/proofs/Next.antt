-- What is left of what is enough is enough from where the activation goes on.
use Rattle.std.proofs.Common.{◌≡◌, ◌≢◌, ℕ, suc, ◌+◌, ◌-◌, ◌*◌, ◌≤◌, ◌⊎◌, inl, inr, sym, ap, ◌∙◌, subst, arith, refl, Option, Some, None, Bool, true, false, cond, List, [], ◌∷◌, ◌++◌, length, length-append, slice_get}
use Rattle.graph_core.specs.declared.instruction.Callee.TheVariants as callee
use Rattle.graph_core.specs.Graphs.{Operand, Instruction, Marker, Note, Move, Operate, Truncate, Same, Address, Load, Store, Zero, CopyWords, Call, End, Jump, Branch, Return, Block}
use Rattle.graph_core.specs.Paths.{Among, is_marker, place_by, place_of, called}
use Rattle.graph_core.specs.Uses.{targets_of}
use Rattle.graph_core_weights.proofs.Standing.{IsStart, marker_once, graph_different}
use Rattle.graph_homes.specs.Homed.{HomedForm}
use Rattle.rv_emit_tables.specs.Emitted.{EmittedForm}
use Rattle.rv_emit_words.specs.declared.piece.Held.{Held}
use Rattle.rv_emit_words.specs.Growing.{CodeState}
use Rattle.rv_emit_runs.specs.Waiting.{FunctionCode}
use Rattle.rv_emit_runs.specs.Laid.{IsCode}
use Rattle.rv_emit_runs.proofs.Frames.{graph_there}
use Rattle.rv_emit_runs.proofs.EndSteps.{longest_end}
use Rattle.rv_emit_runs.proofs.Rest.{codes_in, blocks_in, known_in, first_state, RestAt, position_of}
use Rattle.rv_emit_runs.proofs.States.{growing}
use Rattle.rv_emit_runs.proofs.Steps.{longest_of, longest_from}
use Rattle.rv_emit_runs.proofs.Tracks.{Position, passed_by, at_block, passing, pieces_of, behind_all, calls_function, Advances, passes_one, enters_block, begins_function, goes_back}
use Rattle.rv_emit_runs.proofs.UnitSteps.{Spot}
use Rattle.rv_emit_runs.specs.Timed.{AreTimed}
use Rattle.rv_emit_runs.specs.Room.{HasRoom}
use Rattle.rv_emit_runs.proofs.Amounts.{turns, plain_cost, early_cost, later_cost, left_words, all_plain, all_early, ends_of, most_once, most_early}
use Rattle.rv_emit_runs.proofs.Credits.{pay_plain, pay_early, pay_later, Credit, begins_is, begins_long, once_few, early_few, plain_all, early_all, first, first_marked, stands, starts_with, starts_some, owner_is, no_early_call, no_early_return, zero_uncalled, copy_uncalled, words_left}
use Rattle.rv_emit_runs.proofs.Enough.{plain_first, plain_end, early_is, later_is, Going, mode, called_low, never_new}
use Rattle.rv_emit_runs.proofs.Plain.{IsOther, Plain, plain_is}
use Rattle.rv_emit_runs.proofs.Payments.{pay_passed, pay_block}
use Rattle.base_laws.proofs.Options.{same_some as first_one}

none_of : {A : Type 0} (xs ys : List A) → length (xs ++ ys) ≡ length ys → xs ≡ []
none_of [] ys e = refl
none_of (x ∷ xs) ys e = let both = length-append xs ys in absurd (omega (arith, e, both))

module _ (h : HomedForm) (timed : AreTimed h.unit) (e : EmittedForm) (code : IsCode h e) (room : HasRoom h e code) {x : Spot} {index : ℕ} {held : List Held} {begins : Bool} (r : RestAt h e code x index held begins) (w b : ℕ) (credit : Credit h timed e code room (position_of r) w b) where
  abbrev f : FunctionCode
  f = codes_in h e code x.function

  abbrev entry : ℕ
  entry = (codes_in h e code x.function).graph.entry

  abbrev now : CodeState
  now = growing held r.owner begins

  abbrev here : Position
  here = position_of r

  -- How many instructions what is next takes at most.
  abbrev pub longest : ℕ
  longest = longest_from h code.arrangement (codes_in h e code x.function) (code.arrangement.label x.function r.at.next - index) r.block.end r.more (growing held r.owner begins)

  abbrev longest_with : List Instruction → ℕ
  longest_with more = longest_from h code.arrangement (codes_in h e code x.function) (code.arrangement.label x.function r.at.next - index) r.block.end more (growing held r.owner begins)

  -- ---- An instruction is passed

  module _ (i : Instruction) (more : List Instruction) (is : r.more ≡ i ∷ more) where
    abbrev behind_it : Position
    behind_it = passed_by (position_of r) i more

    never_start : (passing r.number i more ∷ r.history ≡ []) → ⊥
    never_start none = cc

    plain_on : is_marker i ≡ false → pay_plain h timed e code room (position_of r) ≡ plain_cost (codes_in h e code x.function).storage (codes_in h e code x.function).graph.entry i (growing held r.owner begins) + pay_plain h timed e code room (passed_by (position_of r) i more)
    plain_on none = pay_passed h timed e code (λ f. plain_cost (codes_in h e code f).storage (codes_in h e code f).graph.entry) (left_words h e code room) r i more is none

    early_on : is_marker i ≡ false → pay_early h timed e code room (position_of r) ≡ early_cost (codes_in h e code x.function).storage (codes_in h e code x.function).graph.entry i (growing held r.owner begins) + pay_early h timed e code room (passed_by (position_of r) i more)
    early_on none = pay_passed h timed e code (λ f. early_cost (codes_in h e code f).storage (codes_in h e code f).graph.entry) (λ f l. 0) r i more is none

    later_on : is_marker i ≡ false → pay_later h timed e code room (position_of r) ≡ later_cost (codes_in h e code x.function).storage (codes_in h e code x.function).graph.entry i (growing held r.owner begins) + pay_later h timed e code room (passed_by (position_of r) i more)
    later_on none = pay_passed h timed e code (λ f. later_cost (codes_in h e code f).storage (codes_in h e code f).graph.entry) (λ f l. 0) r i more is none

    -- One that is none of the others.
    other_on : IsOther i → Credit h timed e code room (passed_by (position_of r) i more) w (b - longest_of h code.arrangement (codes_in h e code x.function).storage (codes_in h e code x.function).graph.entry i (growing held r.owner begins))
    other_on other =
        let so : Plain h code.arrangement f.storage entry i now = plain_is h code.arrangement f.storage entry i now other in
        let one = plain_on so.unmarked in
        let two = early_on so.unmarked in
        let three = later_on so.unmarked in
        let long = so.longest in
        let p = so.plain in
        let y = so.early in
        let z = so.later in
        record {
          start = λ none. absurd (never_start none);
          early = λ place. let most = credit.early (sym (so.place (place_of r.history)) ∙ place) in omega (arith, one, two, long, p, y, most);
          going = λ q place away.
              let most = credit.going q (sym (so.place (place_of r.history)) ∙ place) away in
              let calls = so.calls r.number more r.history (pay_later h timed e code room behind_it) in
              by_called (called r.history) (pay_later h timed e code room (position_of r)) (pay_later h timed e code room behind_it) (cond (called (passing r.number i more ∷ r.history)) 0 (pay_later h timed e code room behind_it))
              (longest_of h code.arrangement f.storage entry i now) (pieces_of f.storage entry i now) (pay_plain h timed e code room (position_of r)) (plain_cost f.storage entry i now) (most_once h e code room + most_early h e code room) (pay_plain h timed e code room behind_it)
              (omega (arith, three, z)) calls one long p most;
        }
      where
        by_called : (c : Bool) (m n k l v u d z2 t : ℕ) → m ≡ n → k ≤ cond c 0 n → u ≡ d + t → l ≡ v → d ≡ v → u + (5 + ends_of h e code room x.function) + cond c 0 m + w * most_once h e code room + z2 ≤ b
            → t + (5 + ends_of h e code room x.function) + k + w * most_once h e code room + z2 ≤ b - l
        by_called true m n k l v u d z2 t a k2 o lo p most = omega (arith, a, k2, o, lo, p, most)
        by_called false m n k l v u d z2 t a k2 o lo p most = omega (arith, a, k2, o, lo, p, most)

    -- One that sets or copies words.
    fill_on : is_marker i ≡ false → ((o : Option ℕ) → place_by i o ≡ o) → called (passing r.number i more ∷ r.history) ≡ false → called r.history ≡ false → plain_cost (codes_in h e code x.function).storage (codes_in h e code x.function).graph.entry i (growing held r.owner begins) ≡ 0
        → ((q : ℕ) → place_of r.history ≡ Some q → r.owner ≡ q)
        → Credit h timed e code room (passed_by (position_of r) i more) w (b - turns (codes_in h e code x.function).storage (codes_in h e code x.function).graph.entry i (growing held r.owner begins))
    fill_on none place_on uncalled_behind uncalled free owner =
        let one = plain_on none in
        let two = early_on none in
        let three = later_on none in
        record {
          start = λ start. absurd (never_start start);
          early = λ place.
              let before : place_of r.history ≡ Some entry = sym (place_on (place_of r.history)) ∙ place in
              let most = credit.early before in
              let same = early_is h timed e code room r i (owner entry before) in
              omega (arith, one, two, free, same, most);
          going = λ q place away.
              let before : place_of r.history ≡ Some q = sym (place_on (place_of r.history)) ∙ place in
              let most = credit.going q before away in
              let other : r.owner ≢ entry = λ eq. away (sym (owner q before) ∙ eq) in
              let same = later_is h timed e code room r i other in
              let counts : ◌≡◌ {A = ℕ} (cond (called r.history) 0 (pay_later h timed e code room here)) (pay_later h timed e code room here) = ap (λ c. cond c 0 (pay_later h timed e code room here)) uncalled in
              let counts_behind : ◌≡◌ {A = ℕ} (cond (called (passing r.number i more ∷ r.history)) 0 (pay_later h timed e code room behind_it)) (pay_later h timed e code room behind_it) = ap (λ c. cond c 0 (pay_later h timed e code room behind_it)) uncalled_behind in
              omega (arith, one, three, free, same, most, counts, counts_behind);
        }

    -- The entry's marker, at the beginning.
    no_word : IsStart (first h timed e code room r).block r.history r.number r.more → begins ≡ false
    no_word start =
        let b0 = (first h timed e code room r).block in
        let same : r.block ≡ b0 = first_one (sym r.there ∙ ap (λ n. slice_get f.graph.blocks n) start.first ∙ (first h timed e code room r).there) in
        let whole : r.passed ++ r.more ≡ r.more = sym r.track.whole ∙ ap (λ (z : Block). z.instructions) same ∙ sym start.whole in
        let none : r.passed ≡ [] = none_of r.passed r.more (ap length whole) in
        let state : now ≡ first_state (known_in h e code x.function r.low) r.number r.block = r.track.state ∙ ap (λ l. behind_all f.storage entry l (first_state (known_in h e code x.function r.low) r.number r.block)) none in
        ap (λ (s : CodeState). s.begins) state

    start_on : (p : ℕ) → i ≡ Marker p → IsStart (first h timed e code room r).block r.history r.number r.more
        → pay_plain h timed e code room (passed_by (position_of r) i more) ≤ all_plain h e code room x.function → pay_early h timed e code room (passed_by (position_of r) i more) ≤ all_early h e code room x.function
        → Credit h timed e code room (passed_by (position_of r) i more) w (b - longest_of h code.arrangement (codes_in h e code x.function).storage (codes_in h e code x.function).graph.entry i (growing held r.owner begins))
    start_on p is_marker_p start few_plain few_early =
        let entry_is : i ≡ Marker entry = starts_with h timed e code room r i more is start in
        let long : longest_of h code.arrangement f.storage entry i now ≡ longest_of h code.arrangement f.storage entry (Marker entry) (growing held r.owner false) =
        ap (λ j. longest_of h code.arrangement f.storage entry j now) entry_is ∙ ap (λ c. longest_of h code.arrangement f.storage entry (Marker entry) (growing held r.owner c)) (no_word start) in
        let nothing : longest_of h code.arrangement f.storage entry (Marker entry) (growing held r.owner false) ≡ 0 = refl in
        let most = credit.start start.none in
        let place_is : place_by i (place_of r.history) ≡ Some entry = ap (λ j. place_by j (place_of r.history)) entry_is in
        record {
          start = λ none. absurd (never_start none);
          early = λ place. omega (arith, long, nothing, most, few_plain, few_early);
          going = λ q place away. absurd (away (first_one (sym place ∙ place_is)));
        }

    -- The entry's marker is nowhere else.
    marker_starts : i ≡ Marker (codes_in h e code x.function).graph.entry → r.history ≡ []
    marker_starts entry_is =
        let so = stands h timed e code room r in
        let marked = first_marked h timed e code room r in
        let different = graph_different h.unit.graphs x.function f.graph (graph_there h.unit x.function r.low) timed.valid.once in
        let whole : so.block.instructions ≡ so.passed ++ Marker entry ∷ more = so.whole ∙ ap (λ l. so.passed ++ l) (is ∙ ap (λ j. j ∷ more) entry_is) in
        let only = marker_once f.graph.blocks (first h timed e code room r).block entry marked.0 (first h timed e code room r).there marked.1 different r.number so.block so.passed more so.there whole in
        so.only only.0 only.1

  -- A step that goes on passes no other marker.
  passed_credit : (i : Instruction) (more : List Instruction) → r.more ≡ i ∷ more → calls_function i ≡ false → ((p : ℕ) → i ≡ Marker p → p ≡ (codes_in h e code x.function).graph.entry)
      → pay_plain h timed e code room (passed_by (position_of r) i more) ≤ all_plain h e code room x.function → pay_early h timed e code room (passed_by (position_of r) i more) ≤ all_early h e code room x.function
      → Credit h timed e code room (passed_by (position_of r) i more) w (b - longest_of h code.arrangement (codes_in h e code x.function).storage (codes_in h e code x.function).graph.entry i (growing held r.owner begins))
  passed_credit (Marker p) more is none entries few_plain few_early = by_mode (mode h timed e code room r)
    where
      history_none : r.history ≡ []
      history_none = marker_starts (Marker p) more is (ap Marker (entries p refl))

      clash : (q : ℕ) → place_of r.history ≡ Some q → ⊥
      clash q place = let other : None ≡ Some q = sym (ap place_of history_none) ∙ place in cc

      by_mode : IsStart (first h timed e code room r).block r.history r.number r.more ⊎ ((place_of r.history ≡ Some (codes_in h e code x.function).graph.entry) ⊎ Going h timed e code room r)
          → Credit h timed e code room (passed_by (position_of r) (Marker p) more) w (b - longest_of h code.arrangement (codes_in h e code x.function).storage (codes_in h e code x.function).graph.entry (Marker p) (growing held r.owner begins))
      by_mode (inl start) = start_on (Marker p) more is p refl start few_plain few_early
      by_mode (inr (inl place)) = absurd (clash entry place)
      by_mode (inr (inr going)) = absurd (clash going.0 going.1)
  passed_credit (Zero object n) more is none entries few_plain few_early =
      let uncalled = zero_uncalled h timed e code room r object n more is in
      fill_on (Zero object n) more is refl (λ o. refl) uncalled uncalled refl (λ q place. owner_is h timed e code room r (Zero object n) more is tt q place)
  passed_credit (CopyWords object bytes n) more is none entries few_plain few_early =
      let uncalled = copy_uncalled h timed e code room r object bytes n more is in
      fill_on (CopyWords object bytes n) more is refl (λ o. refl) uncalled uncalled refl (λ q place. owner_is h timed e code room r (CopyWords object bytes n) more is tt q place)
  passed_credit (Call t (callee.Function g) all) more is none entries few_plain few_early = cc
  passed_credit (Call t callee.Getchar all) more is none entries few_plain few_early = other_on (Call t callee.Getchar all) more is tt
  passed_credit (Call t callee.Putchar all) more is none entries few_plain few_early = other_on (Call t callee.Putchar all) more is tt
  passed_credit (Call t callee.Exit all) more is none entries few_plain few_early = other_on (Call t callee.Exit all) more is tt
  passed_credit (Note y v) more is none entries few_plain few_early = other_on (Note y v) more is tt
  passed_credit (Move y a) more is none entries few_plain few_early = other_on (Move y a) more is tt
  passed_credit (Operate y op a c) more is none entries few_plain few_early = other_on (Operate y op a c) more is tt
  passed_credit (Truncate y t a) more is none entries few_plain few_early = other_on (Truncate y t a) more is tt
  passed_credit (Same y a c) more is none entries few_plain few_early = other_on (Same y a c) more is tt
  passed_credit (Address y o) more is none entries few_plain few_early = other_on (Address y o) more is tt
  passed_credit (Load y m l) more is none entries few_plain few_early = other_on (Load y m l) more is tt
  passed_credit (Store m l a) more is none entries few_plain few_early = other_on (Store m l a) more is tt

  -- ---- A block is entered

  block_credit : r.more ≡ [] → (l : ℕ) (k : Block) → Among l (targets_of r.block.end) → slice_get (codes_in h e code x.function).graph.blocks l ≡ Some k
      → Credit h timed e code room (at_block x.function l k r.history) w (b - longest_with [])
  block_credit is l k among there =
      let one = pay_block h timed e code (λ f. plain_cost (codes_in h e code f).storage (codes_in h e code f).graph.entry) (left_words h e code room) r is l k among there in
      let two = pay_block h timed e code (λ f. early_cost (codes_in h e code f).storage (codes_in h e code f).graph.entry) (λ f l. 0) r is l k among there in
      let three = pay_block h timed e code (λ f. later_cost (codes_in h e code f).storage (codes_in h e code f).graph.entry) (λ f l. 0) r is l k among there in
      let left = words_left h timed e code room r is in
      let long = by_end r.block.end among in
      record {
        start = λ none. absurd (never_new h timed e code room r is none);
        early = λ place. let most = credit.early place in omega (arith, one, two, left, long, most);
        going = λ q place away.
            let most = credit.going q place away in
            by_called (called r.history) (pay_later h timed e code room here) (pay_later h timed e code room (at_block x.function l k r.history)) (pay_plain h timed e code room here) (pay_plain h timed e code room (at_block x.function l k r.history))
            (most_once h e code room + most_early h e code room) (longest_with []) (omega (arith, three)) (omega (arith, one, left, long)) most;
      }
    where
      by_end : (z : End) → Among l (targets_of z) → longest_end (codes_in h e code x.function).saved (codes_in h e code x.function).size (code.arrangement.label x.function r.at.next - index) z ≤ code.arrangement.label x.function r.at.next - index
      by_end (Jump to) a = omega arith
      by_end (Branch c y z if_true if_false) a = omega arith
      by_end (Return v) a = elim a [ ]

      by_called : (c : Bool) (m n u t z2 l2 : ℕ) → n ≤ m → l2 + t ≤ u → u + (5 + ends_of h e code room x.function) + cond c 0 m + w * most_once h e code room + z2 ≤ b
          → t + (5 + ends_of h e code room x.function) + cond c 0 n + w * most_once h e code room + z2 ≤ b - l2
      by_called true m n u t z2 l2 a p most = omega (arith, a, p, most)
      by_called false m n u t z2 l2 a p most = omega (arith, a, p, most)

  -- ---- A function begins

  begin_credit : (target : Option ℕ) (g : ℕ) (all : List Operand) (more : List Instruction) (k : Block) (w2 : ℕ) → r.more ≡ Call target (callee.Function g) all ∷ more
      → Credit h timed e code room (at_block g 0 k []) w2 (b - longest_with (Call target (callee.Function g) all ∷ more))
  begin_credit target g all more k w2 is = record {
    start = λ none. by_mode (mode h timed e code room r);
    early = λ place. let clash : None ≡ Some (codes_in h e code g).graph.entry = place in cc;
    going = λ q place away. let clash : None ≡ Some q = place in cc;
  }
    where
      by_mode : IsStart (first h timed e code room r).block r.history r.number r.more ⊎ ((place_of r.history ≡ Some (codes_in h e code x.function).graph.entry) ⊎ Going h timed e code room r)
          → all_plain h e code room g + all_early h e code room g ≤ b - longest_with (Call target (callee.Function g) all ∷ more)
      by_mode (inl start) = let same = starts_with h timed e code room r (Call target (callee.Function g) all) more is start in cc
      by_mode (inr (inl place)) = absurd (no_early_call h timed e code room r target g all more is place)
      by_mode (inr (inr going)) =
          let low = called_low h timed e code room r target g all more is in
          let one = plain_first h timed e code room r (Call target (callee.Function g) all) more is in
          let begins_so = begins_is h timed e code room g low in
          let few = once_few h timed e code room g low in
          let early_so = early_few h timed e code room g low in
          let most = credit.going going.0 going.1 going.2 in
          omega (arith, one, begins_so, few, early_so, most)

  -- ---- One that waits goes on

  back_credit : (v : Option Operand) → r.more ≡ [] → r.block.end ≡ Return v → {x2 : Spot} {index2 : ℕ} {held2 : List Held} {begins2 : Bool} (r2 : RestAt h e code x2 index2 held2 begins2) → called r2.history ≡ true → (w2 : ℕ) → w ≡ suc w2
      → Credit h timed e code room (position_of r2) w2 (b - longest_with [])
  back_credit v is end {x2} {index2} {held2} {begins2} r2 calls w2 waits = by_mode (mode h timed e code room r)
    where
      by_mode : IsStart (first h timed e code room r).block r.history r.number r.more ⊎ ((place_of r.history ≡ Some (codes_in h e code x.function).graph.entry) ⊎ Going h timed e code room r)
          → Credit h timed e code room (position_of r2) w2 (b - longest_with [])
      by_mode (inl start) = absurd (starts_some h timed e code room r is start)
      by_mode (inr (inl place)) = absurd (no_early_return h timed e code room r v is end place)
      by_mode (inr (inr going)) =
          let most = credit.going going.0 going.1 going.2 in
          let left = words_left h timed e code room r is in
          let paid = plain_end h timed e code room r is in
          let long : longest_with [] ≡ code.arrangement.label x.function r.at.next - index + (5 + ends_of h e code room x.function) = ap (λ z. longest_end f.saved f.size (code.arrangement.label x.function r.at.next - index) z) end in
          let split : suc w2 * most_once h e code room ≡ w2 * most_once h e code room + most_once h e code room = grind arith in
          let same : w * most_once h e code room ≡ suc w2 * most_once h e code room = ap (λ n. n * most_once h e code room) waits in
          let few = once_few h timed e code room x2.function r2.low in
          let early_so = early_few h timed e code room x2.function r2.low in
          let begins_so = begins_long h timed e code room x2.function r2.low in
          let p = plain_all h timed e code room r2 in
          let y = early_all h timed e code room r2 in
          let counts : ◌≡◌ {A = ℕ} (cond (called r2.history) 0 (pay_later h timed e code room (position_of r2))) (0) = ap (λ c. cond c 0 (pay_later h timed e code room (position_of r2))) calls in
          record {
            start = λ none. omega (arith, most, left, paid, long, split, same, few, early_so);
            early = λ place. omega (arith, most, left, paid, long, split, same, few, early_so, p, y);
            going = λ q place away. omega (arith, most, left, paid, long, split, same, few, begins_so, p, counts);
          }

  -- ---- However it goes on

  pub next_credit : {x2 : Spot} {index2 : ℕ} {held2 : List Held} {begins2 : Bool} (r2 : RestAt h e code x2 index2 held2 begins2) (w2 : ℕ) → Advances (blocks_in h e code) (position_of r) (position_of r2)
      → ((p : ℕ) (more : List Instruction) → r.more ≡ Marker p ∷ more → p ≡ (codes_in h e code x.function).graph.entry)
      → ((i : Instruction) (more : List Instruction) → r.more ≡ i ∷ more → calls_function i ≡ false → w2 ≡ w) → ((l : ℕ) → r.more ≡ [] → Among l (targets_of r.block.end) → w2 ≡ w) → ((v : Option Operand) → r.more ≡ [] → r.block.end ≡ Return v → w ≡ suc w2)
      → Credit h timed e code room (position_of r2) w2 (b - longest)
  next_credit {x2} {index2} {held2} {begins2} r2 w2 (passes_one i more is none to) entries same_passed same_block leaves =
      let few_plain : pay_plain h timed e code room (passed_by here i more) ≤ all_plain h e code room x.function = subst (λ (p : Position). pay_plain h timed e code room p ≤ all_plain h e code room p.function) to (plain_all h timed e code room r2) in
      let few_early : pay_early h timed e code room (passed_by here i more) ≤ all_early h e code room x.function = subst (λ (p : Position). pay_early h timed e code room p ≤ all_early h e code room p.function) to (early_all h timed e code room r2) in
      let passed = passed_credit i more is none (λ p same. entries p more (is ∙ ap (λ j. j ∷ more) same)) few_plain few_early in
      subst (λ l. Credit h timed e code room (position_of r2) w2 (b - longest_with l)) (sym is)
      (subst (λ n. Credit h timed e code room (position_of r2) n (b - longest_with (i ∷ more))) (sym (same_passed i more is none)) (subst (λ p. Credit h timed e code room p w (b - longest_with (i ∷ more))) (sym to) passed))
  next_credit r2 w2 (enters_block l k is among there to) entries same_passed same_block leaves =
      subst (λ n. Credit h timed e code room (position_of r2) w2 (b - longest_with n)) (sym is)
      (subst (λ n. Credit h timed e code room (position_of r2) n (b - longest_with [])) (sym (same_block l is among)) (subst (λ p. Credit h timed e code room p w (b - longest_with [])) (sym to) (block_credit is l k among there)))
  next_credit r2 w2 (begins_function target g all more k is to) entries same_passed same_block leaves =
      subst (λ n. Credit h timed e code room (position_of r2) w2 (b - longest_with n)) (sym is) (subst (λ p. Credit h timed e code room p w2 (b - longest_with (Call target (callee.Function g) all ∷ more))) (sym to) (begin_credit target g all more k w2 is))
  next_credit r2 w2 (goes_back v is end calls) entries same_passed same_block leaves =
      subst (λ n. Credit h timed e code room (position_of r2) w2 (b - longest_with n)) (sym is) (back_credit v is end r2 calls w2 (leaves v is end))

-- What is enough to the next event is enough for the next step.
use Rattle.std.proofs.Common.{◌≡◌, ◌≢◌, ℕ, ◌+◌, ◌-◌, ◌<◌, ◌≤◌, ◌⊎◌, inl, inr, ⊎_elim, sym, ap, ◌∙◌, arith, refl, Option, Some, None, Bool, false, cond, List, [], ◌∷◌, length}
use Rattle.std.proofs.lemmas.Bool.{cases_eq, eq-eqb, ne_eqb}
use Rattle.graph_core.specs.declared.instruction.Callee.TheVariants as callee
use Rattle.graph_core.specs.Graphs.{Operand, Instruction, Marker, Note, Move, Operate, Truncate, Same, Address, Load, Store, Zero, CopyWords, Call, End, Jump, Branch, Return}
use Rattle.graph_core.specs.Paths.{place_of, called}
use Rattle.graph_core.specs.Validity.{IsInstruction}
use Rattle.graph_core_weights.proofs.Standing.{IsStart, IsMarked}
use Rattle.graph_homes.specs.Homed.{HomedForm}
use Rattle.rv_emit_tables.specs.Emitted.{EmittedForm}
use Rattle.rv_emit_words.specs.declared.piece.Held.{Held}
use Rattle.rv_emit_words.specs.Growing.{CodeState}
use Rattle.rv_emit_runs.specs.Waiting.{FunctionCode}
use Rattle.rv_emit_runs.specs.Laid.{IsCode}
use Rattle.rv_emit_runs.proofs.Calls.{called_there}
use Rattle.rv_emit_runs.proofs.EndSteps.{longest_end}
use Rattle.rv_emit_runs.proofs.Rest.{codes_in, RestAt, position_of, next_among, next_valid}
use Rattle.rv_emit_runs.proofs.States.{growing}
use Rattle.rv_emit_runs.proofs.Steps.{longest_of, longest_from}
use Rattle.rv_emit_runs.proofs.Tracks.{Position}
use Rattle.rv_emit_runs.proofs.UnitSteps.{Spot}
use Rattle.rv_emit_runs.specs.Timed.{AreTimed}
use Rattle.rv_emit_runs.specs.Room.{HasRoom}
use Rattle.rv_emit_runs.proofs.Amounts.{turns, plain_cost, early_cost, later_cost, left_words, ends_of}
use Rattle.rv_emit_runs.proofs.Credits.{pay_plain, pay_early, pay_later, Credit, begins_is, once_few, plain_all, first, stands, starts_with, starts_some, owner_is, no_early_call, no_early_return, zero_uncalled, copy_uncalled, words_left}
use Rattle.rv_emit_runs.proofs.Plain.{IsOther, Plain, plain_is}
use Rattle.rv_emit_runs.proofs.Payments.{pay_first, pay_end}

module _ (h : HomedForm) (timed : AreTimed h.unit) (e : EmittedForm) (code : IsCode h e) (room : HasRoom h e code) {x : Spot} {index : ℕ} {held : List Held} {begins : Bool} (r : RestAt h e code x index held begins) where
  abbrev f : FunctionCode
  f = codes_in h e code x.function

  abbrev entry : ℕ
  entry = (codes_in h e code x.function).graph.entry

  abbrev now : CodeState
  now = growing held r.owner begins

  abbrev here : Position
  here = position_of r

  -- ---- Costs of what is next

  pub plain_first : (i : Instruction) (more : List Instruction) → r.more ≡ i ∷ more → plain_cost (codes_in h e code x.function).storage (codes_in h e code x.function).graph.entry i (growing held r.owner begins) ≤ pay_plain h timed e code room (position_of r)
  plain_first i more is = pay_first h timed e code (λ f. plain_cost (codes_in h e code f).storage (codes_in h e code f).graph.entry) (left_words h e code room) r i more is

  early_first : (i : Instruction) (more : List Instruction) → r.more ≡ i ∷ more → early_cost (codes_in h e code x.function).storage (codes_in h e code x.function).graph.entry i (growing held r.owner begins) ≤ pay_early h timed e code room (position_of r)
  early_first i more is = pay_first h timed e code (λ f. early_cost (codes_in h e code f).storage (codes_in h e code f).graph.entry) (λ f l. 0) r i more is

  later_first : (i : Instruction) (more : List Instruction) → r.more ≡ i ∷ more → later_cost (codes_in h e code x.function).storage (codes_in h e code x.function).graph.entry i (growing held r.owner begins) ≤ pay_later h timed e code room (position_of r)
  later_first i more is = pay_first h timed e code (λ f. later_cost (codes_in h e code f).storage (codes_in h e code f).graph.entry) (λ f l. 0) r i more is

  pub plain_end : r.more ≡ [] → left_words h e code room x.function r.number ≤ pay_plain h timed e code room (position_of r)
  plain_end is = pay_end h timed e code (λ f. plain_cost (codes_in h e code f).storage (codes_in h e code f).graph.entry) (left_words h e code room) r is

  -- What sets or copies words is counted where it stands.
  pub early_is : (i : Instruction) → r.owner ≡ (codes_in h e code x.function).graph.entry
      → early_cost (codes_in h e code x.function).storage (codes_in h e code x.function).graph.entry i (growing held r.owner begins) ≡ turns (codes_in h e code x.function).storage (codes_in h e code x.function).graph.entry i (growing held r.owner begins)
  early_is i same = ap (λ b. cond b (turns f.storage entry i now) 0) (eq-eqb r.owner entry same)

  pub later_is : (i : Instruction) → r.owner ≢ (codes_in h e code x.function).graph.entry
      → later_cost (codes_in h e code x.function).storage (codes_in h e code x.function).graph.entry i (growing held r.owner begins) ≡ turns (codes_in h e code x.function).storage (codes_in h e code x.function).graph.entry i (growing held r.owner begins)
  later_is i other = ap (λ b. cond b 0 (turns f.storage entry i now)) (ne_eqb r.owner entry other)

  -- ---- Where it stands

  -- At the beginning, in the entry's place, or in another place.
  abbrev pub Going : Type 0
  Going = (q : ℕ) × (place_of r.history ≡ Some q) × (q ≢ (codes_in h e code x.function).graph.entry)

  pub mode : IsStart (first h timed e code room r).block r.history r.number r.more ⊎ ((place_of r.history ≡ Some (codes_in h e code x.function).graph.entry) ⊎ Going)
  mode = by_mode (stands h timed e code room r).mode
    where
      by_place : (q : ℕ) → place_of r.history ≡ Some q → (place_of r.history ≡ Some entry) ⊎ Going
      by_place q is = ⊎_elim (λ (same : q ≡ entry). inl (is ∙ ap (λ n. Some n) same)) (λ (other : q ≡ entry → ⊥). inr (q, is, other)) (cases_eq q entry)

      by_mode : IsStart (first h timed e code room r).block r.history r.number r.more ⊎ IsMarked r.history → IsStart (first h timed e code room r).block r.history r.number r.more ⊎ ((place_of r.history ≡ Some entry) ⊎ Going)
      by_mode (inl start) = inl start
      by_mode (inr marked) = inr (by_place marked.place marked.is)

  -- ---- What is next

  -- A function that is called is one.
  pub called_low : (target : Option ℕ) (g : ℕ) (all : List Operand) (more : List Instruction) → r.more ≡ Call target (callee.Function g) all ∷ more → g < length h.unit.graphs
  called_low target g all more is =
      let among = next_among h e code x index held begins r (Call target (callee.Function g) all) more is in
      let legal : IsInstruction h.unit f.graph (Call target (callee.Function g) all) = next_valid h e code timed.valid x index held begins r (Call target (callee.Function g) all) among in
      (called_there h.unit g (length all) legal.2).0

  -- Nothing begins where nothing is left of a block.
  pub never_new : r.more ≡ [] → r.history ≡ [] → ⊥
  never_new is none = by_mode mode
    where
      clash : (q : ℕ) → place_of r.history ≡ Some q → ⊥
      clash q place = let other : None ≡ Some q = sym (ap place_of none) ∙ place in cc

      by_mode : IsStart (first h timed e code room r).block r.history r.number r.more ⊎ ((place_of r.history ≡ Some entry) ⊎ Going) → ⊥
      by_mode (inl start) = starts_some h timed e code room r is start
      by_mode (inr (inl place)) = clash entry place
      by_mode (inr (inr going)) = clash going.0 going.1

  module _ (w b : ℕ) (credit : Credit h timed e code room (position_of r) w b) where
    plain_enough : (i : Instruction) (more : List Instruction) → r.more ≡ i ∷ more → plain_cost (codes_in h e code x.function).storage (codes_in h e code x.function).graph.entry i (growing held r.owner begins) ≤ b
    plain_enough i more is = by_mode mode
      where
        one : plain_cost (codes_in h e code x.function).storage (codes_in h e code x.function).graph.entry i (growing held r.owner begins) ≤ pay_plain h timed e code room (position_of r)
        one = plain_first i more is

        by_mode : IsStart (first h timed e code room r).block r.history r.number r.more ⊎ ((place_of r.history ≡ Some (codes_in h e code x.function).graph.entry) ⊎ Going) → plain_cost (codes_in h e code x.function).storage (codes_in h e code x.function).graph.entry i (growing held r.owner begins) ≤ b
        by_mode (inl start) = let all = plain_all h timed e code room r in let most = credit.start start.none in omega (arith, one, all, most)
        by_mode (inr (inl place)) = let most = credit.early place in omega (arith, one, most)
        by_mode (inr (inr going)) = let most = credit.going going.0 going.1 going.2 in omega (arith, one, most)

    -- What sets or copies words.
    fill_enough : (i : Instruction) (more : List Instruction) → r.more ≡ i ∷ more → (IsStart (first h timed e code room r).block r.history r.number r.more → ⊥) → ((q : ℕ) → place_of r.history ≡ Some q → r.owner ≡ q) → called r.history ≡ false
        → turns (codes_in h e code x.function).storage (codes_in h e code x.function).graph.entry i (growing held r.owner begins) ≤ b
    fill_enough i more is never owner uncalled = by_mode mode
      where
        by_mode : IsStart (first h timed e code room r).block r.history r.number r.more ⊎ ((place_of r.history ≡ Some (codes_in h e code x.function).graph.entry) ⊎ Going) → turns (codes_in h e code x.function).storage (codes_in h e code x.function).graph.entry i (growing held r.owner begins) ≤ b
        by_mode (inl start) = absurd (never start)
        by_mode (inr (inl place)) =
            let one = early_first i more is in
            let same = early_is i (owner entry place) in
            let most = credit.early place in
            omega (arith, one, same, most)
        by_mode (inr (inr going)) =
            let one = later_first i more is in
            let other : r.owner ≢ entry = λ eq. going.2 (sym (owner going.0 going.1) ∙ eq) in
            let same = later_is i other in
            let most = credit.going going.0 going.1 going.2 in
            let counts : ◌≡◌ {A = ℕ} (cond (called r.history) 0 (pay_later h timed e code room here)) (pay_later h timed e code room here) = ap (λ c. cond c 0 (pay_later h timed e code room here)) uncalled in
            omega (arith, one, same, most, counts)

    call_enough : (target : Option ℕ) (g : ℕ) (all : List Operand) (more : List Instruction) → r.more ≡ Call target (callee.Function g) all ∷ more
        → longest_of h code.arrangement (codes_in h e code x.function).storage (codes_in h e code x.function).graph.entry (Call target (callee.Function g) all) (growing held r.owner begins) ≤ b
    call_enough target g all more is = by_mode mode
      where
        by_mode : IsStart (first h timed e code room r).block r.history r.number r.more ⊎ ((place_of r.history ≡ Some (codes_in h e code x.function).graph.entry) ⊎ Going)
            → longest_of h code.arrangement (codes_in h e code x.function).storage (codes_in h e code x.function).graph.entry (Call target (callee.Function g) all) (growing held r.owner begins) ≤ b
        by_mode (inl start) = let same = starts_with h timed e code room r (Call target (callee.Function g) all) more is start in cc
        by_mode (inr (inl place)) = absurd (no_early_call h timed e code room r target g all more is place)
        by_mode (inr (inr going)) =
            let low = called_low target g all more is in
            let one = plain_first (Call target (callee.Function g) all) more is in
            let begins_so = begins_is h timed e code room g low in
            let few = once_few h timed e code room g low in
            let most = credit.going going.0 going.1 going.2 in
            omega (arith, one, begins_so, few, most)

    end_enough : r.more ≡ [] → (z : End) → r.block.end ≡ z → longest_end (codes_in h e code x.function).saved (codes_in h e code x.function).size (code.arrangement.label x.function r.at.next - index) z ≤ b
    end_enough is z same = by_end z same mode
      where
        left : code.arrangement.label x.function r.at.next - index ≤ pay_plain h timed e code room (position_of r)
        left = let one = words_left h timed e code room r is in let two = plain_end is in omega (arith, one, two)

        by_going : code.arrangement.label x.function r.at.next - index + (5 + ends_of h e code room x.function) ≤ b → (z : End) → longest_end (codes_in h e code x.function).saved (codes_in h e code x.function).size (code.arrangement.label x.function r.at.next - index) z ≤ b
        by_going le (Jump to) = omega (arith, le)
        by_going le (Branch k a c if_true if_false) = omega (arith, le)
        by_going le (Return v) = omega (arith, le)

        by_end : (z : End) → r.block.end ≡ z → IsStart (first h timed e code room r).block r.history r.number r.more ⊎ ((place_of r.history ≡ Some (codes_in h e code x.function).graph.entry) ⊎ Going)
            → longest_end (codes_in h e code x.function).saved (codes_in h e code x.function).size (code.arrangement.label x.function r.at.next - index) z ≤ b
        by_end z same (inl start) = absurd (starts_some h timed e code room r is start)
        by_end (Jump to) same (inr (inl place)) = let one = left in let most = credit.early place in omega (arith, one, most)
        by_end (Branch k a c if_true if_false) same (inr (inl place)) = let one = left in let most = credit.early place in omega (arith, one, most)
        by_end (Return v) same (inr (inl place)) = absurd (no_early_return h timed e code room r v is same place)
        by_end z same (inr (inr going)) = let one = left in let most = credit.going going.0 going.1 going.2 in by_going (omega (arith, one, most)) z

    -- Whatever it is.
    pub enough : longest_from h code.arrangement (codes_in h e code x.function) (code.arrangement.label x.function r.at.next - index) r.block.end r.more (growing held r.owner begins) ≤ b
    enough = by_more r.more refl
      where
        other : (i : Instruction) (more : List Instruction) → r.more ≡ i ∷ more → IsOther i → longest_of h code.arrangement (codes_in h e code x.function).storage (codes_in h e code x.function).graph.entry i (growing held r.owner begins) ≤ b
        other i more is plain =
            let so : Plain h code.arrangement f.storage entry i now = plain_is h code.arrangement f.storage entry i now plain in
            let one = plain_enough i more is in
            let longest = so.longest in
            let cost = so.plain in
            omega (arith, one, longest, cost)

        by_instruction : (i : Instruction) (more : List Instruction) → r.more ≡ i ∷ more → longest_of h code.arrangement (codes_in h e code x.function).storage (codes_in h e code x.function).graph.entry i (growing held r.owner begins) ≤ b
        by_instruction (Marker p) more is = plain_enough (Marker p) more is
        by_instruction (Zero object n) more is =
            fill_enough (Zero object n) more is (λ start. let same = starts_with h timed e code room r (Zero object n) more is start in cc) (λ q place. owner_is h timed e code room r (Zero object n) more is tt q place) (zero_uncalled h timed e code room r object n more is)
        by_instruction (CopyWords object bytes n) more is =
            fill_enough (CopyWords object bytes n) more is (λ start. let same = starts_with h timed e code room r (CopyWords object bytes n) more is start in cc) (λ q place. owner_is h timed e code room r (CopyWords object bytes n) more is tt q place)
            (copy_uncalled h timed e code room r object bytes n more is)
        by_instruction (Call t (callee.Function g) all) more is = call_enough t g all more is
        by_instruction (Call t callee.Getchar all) more is = other (Call t callee.Getchar all) more is tt
        by_instruction (Call t callee.Putchar all) more is = other (Call t callee.Putchar all) more is tt
        by_instruction (Call t callee.Exit all) more is = other (Call t callee.Exit all) more is tt
        by_instruction (Note y v) more is = other (Note y v) more is tt
        by_instruction (Move y a) more is = other (Move y a) more is tt
        by_instruction (Operate y op a c) more is = other (Operate y op a c) more is tt
        by_instruction (Truncate y t a) more is = other (Truncate y t a) more is tt
        by_instruction (Same y a c) more is = other (Same y a c) more is tt
        by_instruction (Address y o) more is = other (Address y o) more is tt
        by_instruction (Load y m l) more is = other (Load y m l) more is tt
        by_instruction (Store m l a) more is = other (Store m l a) more is tt

        by_more : (more : List Instruction) → r.more ≡ more → longest_from h code.arrangement (codes_in h e code x.function) (code.arrangement.label x.function r.at.next - index) r.block.end more (growing held r.owner begins) ≤ b
        by_more [] is = end_enough is r.block.end refl
        by_more (i ∷ more) is = by_instruction i more is

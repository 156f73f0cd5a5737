-- Walks inside blocks.
use Rattle.std.proofs.Common.{◌≡◌, ℕ, zero, suc, ◌<◌, ◌≤◌, ◌⊎◌, inl, inr, Bool, true, false, List, [], ◌∷◌, ◌++◌, ◌+◌, ◌-◌, map, length, drop, get_or, reverse, refl, sym, ap, ◌∙◌, subst, arith}
use Rattle.std.specs.Prelude.{◌||◌, ◌&&◌, not}
use Rattle.std.specs.Cmp.{nat_cmp_total, unsigned_tied}
use Rattle.std.specs.FinSet.{contains, contains-insert, contains-remove}
use Rattle.std.proofs.lemmas.Bool.{cases_lt, eq-eqb, ne_eqb}
use Rattle.std.proofs.lemmas.List.{length-map, length-drop, drop_more, reverse-append}
use Rattle.graph_core.specs.Graphs.{Instruction, End}
use Rattle.bit_rows.specs.Grid.{met_bit}
use Rattle.graph_solve_live.specs.declared.inside.Effect.{Effect}
use Rattle.graph_solve_live.specs.declared.inside.Effect.TheVariants.{Sets, Clears, Leaves}
use Rattle.graph_solve_problem.specs.Numbers.{Numbers, IsBelow}
use Rattle.graph_solve_problem.specs.Problem.{DataFlow}
use Rattle.graph_solve_problem.specs.Paths.{ControlFlow, along, Comes}
use Rattle.graph_solve_problem.specs.Meets.{SomeMeet, one, both, IsMeetOf}
use Rattle.graph_solve_live.specs.Inside.{effect_on, moved_one, moved, walked, one_behind, in_all, WalkIsTransfer, ComesInside, WalkIsMet, steps_in}
use Rattle.graph_solve.specs.GraphFlow.{graph_flow}
use Rattle.graph_solve_problem.specs.SetLaws.{equal}
use Rattle.graph_solve_problem.proofs.Falling.{along_value}

-- the fact itself
one_there : (e : Effect) (fact : ℕ) (facts : Numbers) → contains (moved_one e fact facts) fact ≡ effect_on e (contains facts fact)
one_there Sets fact facts = contains-insert nat_cmp_total facts fact fact ∙ ap (λ b. b || contains facts fact) (unsigned_tied fact fact ∙ eq-eqb fact fact refl)
one_there Clears fact facts = contains-remove nat_cmp_total facts fact fact ∙ ap (λ b. not b && contains facts fact) (unsigned_tied fact fact ∙ eq-eqb fact fact refl)
one_there Leaves fact facts = refl

-- any other
one_apart : (e : Effect) (fact : ℕ) (facts : Numbers) (q : ℕ) → (q ≡ fact → ⊥) → contains (moved_one e fact facts) q ≡ contains facts q
one_apart Sets fact facts q ne = contains-insert nat_cmp_total facts fact q ∙ ap (λ b. b || contains facts q) (unsigned_tied q fact ∙ ne_eqb q fact ne)
one_apart Clears fact facts q ne = contains-remove nat_cmp_total facts fact q ∙ ap (λ b. not b && contains facts q) (unsigned_tied q fact ∙ ne_eqb q fact ne)
one_apart Leaves fact facts q ne = refl

moved_past : (width : ℕ) (effect : ℕ → Effect) (facts : Numbers) (q : ℕ) → width ≤ q → contains (moved width effect facts) q ≡ contains facts q
moved_past zero effect facts q ge = refl
moved_past (suc fact) effect facts q ge = one_apart (effect fact) fact (moved fact effect facts) q (λ e. omega (arith, e, ge)) ∙ moved_past fact effect facts q (omega (arith, ge))

last_or_below : (fact q : ℕ) → q < suc fact → (q < fact) ⊎ (q ≡ fact)
last_or_below fact q lt = grind arith

moved_within : (width : ℕ) (effect : ℕ → Effect) (facts : Numbers) (q : ℕ) → q < width → contains (moved width effect facts) q ≡ effect_on (effect q) (contains facts q)
moved_within zero effect facts q lt = absurd (omega (arith, lt))
moved_within (suc fact) effect facts q lt = elim (last_or_below fact q lt) [
  | inl less ↦ one_apart (effect fact) fact (moved fact effect facts) q (λ e. omega (arith, e, less)) ∙ moved_within fact effect facts q less
  | inr e ↦ subst (λ n. contains (moved_one (effect fact) fact (moved fact effect facts)) n ≡ effect_on (effect n) (contains facts n)) (sym e)
      (one_there (effect fact) fact (moved fact effect facts) ∙ ap (effect_on (effect fact)) (moved_past fact effect facts fact (omega arith)))
]

behind_on : (a b : Effect) (before : Bool) → effect_on b (effect_on a before) ≡ effect_on (one_behind a b) before
behind_on a Sets before = refl
behind_on a Clears before = refl
behind_on a Leaves before = refl

walked_past : (width : ℕ) (steps : List (ℕ → Effect)) (facts : Numbers) (q : ℕ) → width ≤ q → contains (walked width steps facts) q ≡ contains facts q
walked_past width [] facts q ge = refl
walked_past width (effect ∷ more) facts q ge = walked_past width more (moved width effect facts) q ge ∙ moved_past width effect facts q ge

walked_within : (width : ℕ) (steps : List (ℕ → Effect)) (facts : Numbers) (q : ℕ) → q < width → contains (walked width steps facts) q ≡ effect_on (in_all steps q) (contains facts q)
walked_within width [] facts q lt = refl
walked_within width (effect ∷ more) facts q lt =
    walked_within width more (moved width effect facts) q lt ∙ ap (effect_on (in_all more q)) (moved_within width effect facts q lt) ∙ behind_on (effect q) (in_all more q) (contains facts q)

walked_below : (width : ℕ) (steps : List (ℕ → Effect)) (facts : Numbers) → IsBelow width facts → IsBelow width (walked width steps facts)
walked_below width steps facts below q ge = walked_past width steps facts q ge ∙ below q ge

pub walk_transfers : (flow : DataFlow) → WalkIsTransfer flow
walk_transfers flow block steps has facts value = equal _ _ (λ q. elim (cases_lt q flow.width) [
  | inl lt ↦ walked_within flow.width steps facts q lt ∙ sym (flow.moves block facts value q lt ∙ has q (contains facts q) lt)
  | inr ge ↦
      walked_below flow.width steps facts ((flow.values facts).0 value) q ge
      ∙ sym ((flow.values (flow.transfer block facts)).0 (flow.transfer_value block facts value) q ge)
])

effect_meets : (unite : Bool) (e : Effect) (a b : Bool) → effect_on e (met_bit unite a b) ≡ met_bit unite (effect_on e a) (effect_on e b)
effect_meets true Sets a b = refl
effect_meets false Sets a b = refl
effect_meets true Clears a b = refl
effect_meets false Clears a b = refl
effect_meets unite Leaves a b = refl

module _ (flow : DataFlow) (steps : List (ℕ → Effect)) where
  abbrev walk : Numbers → Numbers
  walk facts = walked flow.width steps facts

  walk_value : (x : Numbers) → flow.IsValue x → flow.IsValue (walk x)
  walk_value x value = (flow.values (walk x)).1 (walked_below flow.width steps x ((flow.values x).0 value))

  walk_distributes : (x y : Numbers) → flow.IsValue x → flow.IsValue y → walk (flow.meet x y) ≡ flow.meet (walk x) (walk y)
  walk_distributes x y vx vy = equal _ _ (λ q. elim (cases_lt q flow.width) [
    | inl lt ↦
        walked_within flow.width steps (flow.meet x y) q lt ∙ ap (effect_on (in_all steps q)) (flow.meets x y vx vy q) ∙ effect_meets flow.unites (in_all steps q) (contains x q) (contains y q)
        ∙ ap (λ b. met_bit flow.unites b (effect_on (in_all steps q) (contains y q))) (sym (walked_within flow.width steps x q lt))
        ∙ ap (λ b. met_bit flow.unites (contains (walk x) q) b) (sym (walked_within flow.width steps y q lt))
        ∙ sym (flow.meets (walk x) (walk y) (walk_value x vx) (walk_value y vy) q)
    | inr ge ↦
        (flow.values (walk (flow.meet x y))).0 (walk_value (flow.meet x y) (flow.meet_value x y vx vy)) q ge
        ∙ sym ((flow.values (flow.meet (walk x) (walk y))).0 (flow.meet_value (walk x) (walk y) (walk_value x vx) (walk_value y vy)) q ge)
  ])

  module _ (control : ControlFlow) (block : ℕ) where
    comes_value : (x : Numbers) → Comes flow control block x → flow.IsValue x
    comes_value x comes = subst flow.IsValue (sym comes.1) (along_value flow control comes.0)

    some_value : {x : Numbers} → SomeMeet flow.meet (Comes flow control block) x → flow.IsValue x
    some_value (one {x} comes) = comes_value x comes
    some_value (both {x} {y} s t) = flow.meet_value x y (some_value s) (some_value t)

    some_walked : {x : Numbers} → SomeMeet flow.meet (Comes flow control block) x → SomeMeet flow.meet (ComesInside flow control block steps) (walk x)
    some_walked (one {x} comes) = one (comes.0, ap walk comes.1)
    some_walked (both {x} {y} s t) = subst (SomeMeet flow.meet (ComesInside flow control block steps)) (sym (walk_distributes x y (some_value s) (some_value t))) (both (some_walked s) (some_walked t))

    met_inside : (facts : Numbers) → IsMeetOf flow.meet (Comes flow control block) facts → IsMeetOf flow.meet (ComesInside flow control block steps) (walk facts)
    met_inside facts met = record {
      below = λ x comes.
          let came = along flow control comes.0 in
          ap (flow.meet (walk facts)) comes.1 ∙ sym (walk_distributes facts came (some_value met.made) (along_value flow control comes.0)) ∙ ap walk (met.below came (comes.0, refl));
      made = some_walked met.made;
    }

pub walk_met : (flow : DataFlow) → WalkIsMet flow
walk_met flow g block steps facts met = met_inside flow steps (graph_flow g) block facts met

-- one step of a walk over a block
module _ {X : Type 0} (f : X → Instruction) (width : ℕ) (effect : (left : ℕ) → Instruction → ℕ → Effect) (at_end : End → ℕ → Effect) (items : List X) (end : End) where
  abbrev pub rest_from : ℕ → List (ℕ → Effect)
  rest_from k = steps_in effect at_end (map f (drop k items)) end

  left_behind : (k : ℕ) → k < length items → length (map f (drop (k + 1) items)) ≡ length items - 1 - k
  left_behind k lt = length-map (drop (k + 1) items) f ∙ length-drop (k + 1) items ∙ omega (arith, lt)

  next_step : (k : ℕ) (d : X) → k < length items → rest_from k ≡ effect (length items - 1 - k) (f (get_or items k d)) ∷ rest_from (k + 1)
  next_step k d lt = ap (λ xs. steps_in effect at_end (map f xs) end) (drop_more items k d lt) ∙ ap (λ n. effect n (f (get_or items k d)) ∷ rest_from (k + 1)) (left_behind k lt)

  pub forward_step : (k : ℕ) (d : X) (facts : Numbers) → k < length items → walked width (rest_from k) facts ≡ walked width (rest_from (k + 1)) (moved width (effect (length items - 1 - k) (f (get_or items k d))) facts)
  forward_step k d facts lt = ap (λ steps. walked width steps facts) (next_step k d lt)

  walked_last : (steps : List (ℕ → Effect)) (last : ℕ → Effect) (facts : Numbers) → walked width (steps ++ last ∷ []) facts ≡ moved width last (walked width steps facts)
  walked_last [] last facts = refl
  walked_last (effect ∷ more) last facts = walked_last more last (moved width effect facts)

  pub backward_step : (k : ℕ) (d : X) (facts : Numbers) → k < length items → walked width (reverse (rest_from k)) facts ≡ moved width (effect (length items - 1 - k) (f (get_or items k d))) (walked width (reverse (rest_from (k + 1))) facts)
  backward_step k d facts lt =
      let last = effect (length items - 1 - k) (f (get_or items k d)) in
      ap (λ steps. walked width (reverse steps) facts) (next_step k d lt) ∙ ap (λ steps. walked width steps facts) (reverse-append (last ∷ []) (rest_from (k + 1))) ∙ walked_last (reverse (rest_from (k + 1))) last facts

  -- the same by how many instructions stand behind
  pub backward_more : (left at : ℕ) (d : X) (facts : Numbers) → left < length items → at ≡ length items - 1 - left → moved width (effect left (f (get_or items at d))) (walked width (reverse (rest_from (length items - left))) facts) ≡ walked width (reverse (rest_from (length items - (left + 1)))) facts
  backward_more left at d facts lt e =
      let k = length items - (left + 1) in
      let behind : length items - 1 - k ≡ left = omega (arith, lt) in
      let here : k ≡ at = omega (arith, lt, e) in
      let next : k + 1 ≡ length items - left = omega (arith, lt) in
      sym (
      backward_step k d facts (omega (arith, lt))
      ∙ ap (λ n. moved width (effect n (f (get_or items k d))) (walked width (reverse (rest_from (k + 1))) facts)) behind
      ∙ ap (λ n. moved width (effect left (f (get_or items n d))) (walked width (reverse (rest_from (k + 1))) facts)) here
      ∙ ap (λ n. moved width (effect left (f (get_or items at d))) (walked width (reverse (rest_from n)) facts)) next
      )

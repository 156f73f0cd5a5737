-- Where a statement does not lead, no run of it goes.
use Rattle.std.proofs.Common.{◌≡◌, ℕ, zero, suc, ◌+◌, List, [], ◌∷◌, length, Option, Some, None, Bool, true, false, ◌||◌, not, refl, sym, ap, ◌∙◌, subst, ℤ}
use Rattle.std.specs.Prelude.{if◌then◌else◌}
use Rattle.c_tree.specs.TypedExpressions.{RvalueTree}
use Rattle.c_tree.specs.TypedStatements as statement
use Rattle.c_tree.specs.TypedStatements.{DeclaredTree, TypedStartTree, Nothing, Value, Declares, StepTree, InitialTree, Zero, Scalar, Elements, Literal, TypedStatementTree, Block, Declaration, Empty, Run, If, IfElse, While, DoWhile, For, Switch, Break, Continue, Return, TypedStatementTrees, case, default}
use Rattle.debug_records.specs.declared.source.Spot.{Spot}
use Rattle.c_places.specs.declared.flow.Exits.{Exits}
use Rattle.c_places.specs.Flow.{onwards, nowhere, has_default, exits_behind, exits_of_arms, exits_of, exits_of_all, reaches_end}
use Rattle.c_meaning_values.specs.declared.value.Value as source-value
use Rattle.c_meaning_values.specs.declared.value.Value.TheVariants as source
use Rattle.c_meaning_steps.specs.States.{State, Evaluated, Gives, Leaves, Ends, Tested, Holds, Fails, NoTest, choose, on_value, on_effect, Outcome, Next, Broken, Continued, Returned, Ended}
use Rattle.c_meaning.specs.Activations.{Activation, Begun, on_begun, begin}
use Rattle.c_meaning.specs.Activations as activations
use Rattle.c_meaning.specs.Lifetimes.{lifetimes_ended}
use Rattle.c_meaning.specs.Expressions.{Calls}
use Rattle.c_meaning.specs.Statements.{then_do, after_body, after_switch, rounds, while_round, do_round, for_round, on_number, by_label, has_case, is_same_number, value_at, initialise_elements, declare_with, declare, declare_all, expression_run, begin_loop, test_at, check, step, result, execute, execute_all, execute_case, execute_default}
use Rattle.base_laws.proofs.Booleans.{or_right}

-- An outcome is one of these exits; a value is handed back where some may be.
abbrev pub Within : (values : Bool) → Exits → Outcome → Type 0
Within values e (Next s) = e.next ≡ true
Within values e (Broken s) = e.breaks ≡ true
Within values e (Continued s) = e.continues ≡ true
Within values e (Returned None s) = Unit {0}
Within values e (Returned (Some v) s) = values ≡ true
Within values e (Ended c s) = Unit {0}

abbrev mutual
  -- Where no values are handed back, no `return` has one.
  pub ReturnsFit : (values : Bool) → TypedStatementTree → Type 0
  ReturnsFit values (Block all) = AllReturnsFit values all
  ReturnsFit values (Declaration all) = Unit {0}
  ReturnsFit values (Empty spot) = Unit {0}
  ReturnsFit values (Run spot e) = Unit {0}
  ReturnsFit values (If spot c s) = ReturnsFit values s
  ReturnsFit values (IfElse spot c s r) = ReturnsFit values s × ReturnsFit values r
  ReturnsFit values (While spot c s) = ReturnsFit values s
  ReturnsFit values (DoWhile s spot c) = ReturnsFit values s
  ReturnsFit values (For begin spot c p s) = ReturnsFit values s
  ReturnsFit values (Switch spot e all) = AllReturnsFit values all
  ReturnsFit values (Break spot) = Unit {0}
  ReturnsFit values (Continue spot) = Unit {0}
  ReturnsFit values (Return spot None) = Unit {0}
  ReturnsFit values (Return spot (Some e)) = values ≡ true

  pub AllReturnsFit : (values : Bool) → TypedStatementTrees → Type 0
  AllReturnsFit values statement.none = Unit {0}
  AllReturnsFit values (statement.first s rest) = ReturnsFit values s × AllReturnsFit values rest
  AllReturnsFit values (case z rest) = AllReturnsFit values rest
  AllReturnsFit values (default rest) = AllReturnsFit values rest

-- an outcome that only goes on
abbrev Onwards : Outcome → Type 0
Onwards o = Within false onwards o

-- what goes on alone is within any exits that lead on
from_onwards : (values : Bool) (e : Exits) → e.next ≡ true → (o : Outcome) → Onwards o → Within values e o
from_onwards values e next (Next s) h = next
from_onwards values e next (Broken s) h = cc
from_onwards values e next (Continued s) h = cc
from_onwards values e next (Returned None s) h = tt
from_onwards values e next (Returned (Some v) s) h = cc
from_onwards values e next (Ended c s) h = tt

-- exits that lead to as much
wider : (values : Bool) (e f : Exits) → (e.next ≡ true → f.next ≡ true) → (e.breaks ≡ true → f.breaks ≡ true) → (e.continues ≡ true → f.continues ≡ true) → (o : Outcome) → Within values e o → Within values f o
wider values e f n b c (Next s) h = n h
wider values e f n b c (Broken s) h = b h
wider values e f n b c (Continued s) h = c h
wider values e f n b c (Returned None s) h = tt
wider values e f n b c (Returned (Some v) s) h = h
wider values e f n b c (Ended x s) h = tt

or_left : (a b : Bool) → a ≡ true → a || b ≡ true
or_left a b h = ap (λ q. q || b) h

-- what is done at a place
place_within : (values : Bool) (e : Exits) (here : Activation) (spot : Spot) (s : State) (go : State → Outcome) → ((t : State) → Within values e (go t)) → Within values e (activations.at here spot s go)
place_within values e here spot s go h = by (begin here spot s)
  where
    by : (b : Begun) → Within values e (on_begun b go)
    by (activations.Goes t) = h t
    by (activations.NoTurn t) = tt

value_within : (values : Bool) (e : Exits) (r : Evaluated) (go : source-value.Value → State → Outcome) → ((v : source-value.Value) (t : State) → Within values e (go v t)) → Within values e (on_value r go)
value_within values e (Gives v s) go h = h v s
value_within values e (Leaves s) go h = tt
value_within values e (Ends c s) go h = tt

effect_within : (values : Bool) (e : Exits) (r : Evaluated) (go : State → Outcome) → ((t : State) → Within values e (go t)) → Within values e (on_effect r go)
effect_within values e (Gives v s) go h = h s
effect_within values e (Leaves s) go h = h s
effect_within values e (Ends c s) go h = tt

test_within : (values : Bool) (e : Exits) (r : Tested) (if_so if_not : State → Outcome) → ((t : State) → Within values e (if_so t)) → ((t : State) → Within values e (if_not t)) → Within values e (choose r if_so if_not)
test_within values e (Holds s) if_so if_not h g = h s
test_within values e (Fails s) if_so if_not h g = g s
test_within values e (NoTest c s) if_so if_not h g = tt

then_within : (values : Bool) (e : Exits) (o : Outcome) (go : State → Outcome) → Onwards o → ((t : State) → Within values e (go t)) → Within values e (then_do o go)
then_within values e (Next s) go h g = g s
then_within values e (Broken s) go h g = cc
then_within values e (Continued s) go h g = cc
then_within values e (Returned None s) go h g = tt
then_within values e (Returned (Some v) s) go h g = cc
then_within values e (Ended c s) go h g = tt

closed_within : (values : Bool) (e : Exits) (n : ℕ) (o : Outcome) → Within values e o → Within values e (lifetimes_ended n o)
closed_within values e n (Next s) h = h
closed_within values e n (Broken s) h = h
closed_within values e n (Continued s) h = h
closed_within values e n (Returned None s) h = tt
closed_within values e n (Returned (Some v) s) h = h
closed_within values e n (Ended c s) h = tt

-- The body of a loop: `break` leads out of it.
body_within : (values : Bool) (inner e : Exits) (o : Outcome) (go : State → Outcome) → Within values inner o → (inner.breaks ≡ true → e.next ≡ true) → (inner.next ≡ true → (t : State) → Within values e (go t)) → (inner.continues ≡ true → (t : State) → Within values e (go t)) → Within values e (after_body o go)
body_within values inner e (Next s) go h b n c = n h s
body_within values inner e (Broken s) go h b n c = b h
body_within values inner e (Continued s) go h b n c = c h s
body_within values inner e (Returned None s) go h b n c = tt
body_within values inner e (Returned (Some v) s) go h b n c = h
body_within values inner e (Ended x s) go h b n c = tt

rounds_within : (values : Bool) (e : Exits) (turns : ℕ) (round : (State → Outcome) → State → Outcome) → ((again : State → Outcome) → ((t : State) → Within values e (again t)) → (t : State) → Within values e (round again t)) → (s : State) → Within values e (rounds turns round s)
rounds_within values e zero round h s = tt
rounds_within values e (suc turns) round h s = h (rounds turns round) (rounds_within values e turns round h) s

-- exits behind a `switch`
abbrev switch_exits : Exits → Bool → Exits
switch_exits e out = record { next = e.next || e.breaks || out; breaks = false; continues = e.continues }

switch_within : (values : Bool) (e : Exits) (out : Bool) (o : Outcome) → Within values e o → Within values (switch_exits e out) (after_switch o)
switch_within values e out (Next s) h = or_left (e.next || e.breaks) out (or_left e.next e.breaks h)
switch_within values e out (Broken s) h = or_left (e.next || e.breaks) out (or_right e.next e.breaks h)
switch_within values e out (Continued s) h = h
switch_within values e out (Returned None s) h = tt
switch_within values e out (Returned (Some v) s) h = h
switch_within values e out (Ended c s) h = tt

-- exits that are there stay
all_breaks : (e : Exits) (all : TypedStatementTrees) → e.breaks ≡ true → (exits_of_all e all).breaks ≡ true
all_breaks e statement.none h = h
all_breaks e (statement.first s rest) h = all_breaks (exits_behind e (exits_of s)) rest (by e.next)
  where
    by : (b : Bool) → (if b then record { next = (exits_of s).next; breaks = e.breaks || (exits_of s).breaks; continues = e.continues || (exits_of s).continues } else e).breaks ≡ true
    by true = or_left e.breaks (exits_of s).breaks h
    by false = h
all_breaks e (case z rest) h = all_breaks (record { next = true; breaks = e.breaks; continues = e.continues }) rest h
all_breaks e (default rest) h = all_breaks (record { next = true; breaks = e.breaks; continues = e.continues }) rest h

all_continues : (e : Exits) (all : TypedStatementTrees) → e.continues ≡ true → (exits_of_all e all).continues ≡ true
all_continues e statement.none h = h
all_continues e (statement.first s rest) h = all_continues (exits_behind e (exits_of s)) rest (by e.next)
  where
    by : (b : Bool) → (if b then record { next = (exits_of s).next; breaks = e.breaks || (exits_of s).breaks; continues = e.continues || (exits_of s).continues } else e).continues ≡ true
    by true = or_left e.continues (exits_of s).continues h
    by false = h
all_continues e (case z rest) h = all_continues (record { next = true; breaks = e.breaks; continues = e.continues }) rest h
all_continues e (default rest) h = all_continues (record { next = true; breaks = e.breaks; continues = e.continues }) rest h

module _ (calls : ℕ → Calls) (here : Activation) (values : Bool) where
  elements_onwards : (spot : Spot) (n index : ℕ) (all : List RvalueTree) (s : State) → Onwards (initialise_elements calls here spot n index all s)
  elements_onwards spot n index [] s = refl
  elements_onwards spot n index (e ∷ all) s = value_within false onwards (value_at calls here spot e s) _ (λ v t. elements_onwards spot n (index + 1) all _)

  declare_onwards : (d : DeclaredTree) (s : State) → Onwards (declare calls here d s)
  declare_onwards d s = place_within false onwards here d.spot s (declare_with calls here d.spot d.variable d.initial) (λ t. by d.initial t)
    where
      by : (i : InitialTree) (t : State) → Onwards (declare_with calls here d.spot d.variable i t)
      by Zero t = refl
      by (Scalar e) t = value_within false onwards (value_at calls here d.spot e _) _ (λ v z. refl)
      by (Elements all) t = elements_onwards d.spot _ 0 all _
      by (Literal n) t = refl

  declares_onwards : (all : List DeclaredTree) (s : State) → Onwards (declare_all calls here all s)
  declares_onwards [] s = refl
  declares_onwards (d ∷ all) s = then_within false onwards (declare calls here d s) (declare_all calls here all) (declare_onwards d s) (declares_onwards all)

  run_onwards : (spot : Spot) (e : RvalueTree) (s : State) → Onwards (expression_run calls here spot e s)
  run_onwards spot e s = place_within false onwards here spot s _ (λ t. effect_within false onwards (value_at calls here spot e t) Next (λ z. refl))

  begin_onwards : (begin : TypedStartTree) (s : State) → Onwards (begin_loop calls here begin s)
  begin_onwards Nothing s = refl
  begin_onwards (Value spot e) s = run_onwards spot e s
  begin_onwards (Declares all) s = declares_onwards all s

  step_onwards : (p : Option StepTree) (s : State) → Onwards (step calls here p s)
  step_onwards None s = refl
  step_onwards (Some p) s = run_onwards p.spot p.value s

  numbers : (e : Exits) (v : source-value.Value) (u : State) (go : ℤ → State → Outcome) → ((z : ℤ) (x : State) → Within values e (go z x)) → Within values e (on_number v u go)
  numbers e (source.Number z) u go h = h z u
  numbers e source.Null u go h = tt
  numbers e (source.Pointer n k) u go h = tt

  no_default : (all : TypedStatementTrees) → has_default all ≡ false → (x : State) → execute_default calls here all x ≡ Next x
  no_default statement.none d x = refl
  no_default (statement.first s rest) d x = no_default rest d x
  no_default (case z rest) d x = no_default rest d x
  no_default (default rest) d x = cc

  -- the block of a `switch`, from a label on
  labelled : (all : TypedStatementTrees) (z : ℤ) (x : State) → (has_case z all ≡ true → Within values (exits_of_all nowhere all) (execute_case calls here z all x)) → (has_default all ≡ true → Within values (exits_of_all nowhere all) (execute_default calls here all x)) → (b : Bool) → has_case z all ≡ b
      → Within values (switch_exits (exits_of_all nowhere all) (not (has_default all))) (after_switch (by_label b (execute_case calls here z all) (execute_default calls here all) x))
  labelled all z x cases rest true e = switch_within values (exits_of_all nowhere all) (not (has_default all)) (execute_case calls here z all x) (cases e)
  labelled all z x cases rest false e = defaults rest (λ d. no_default all d x) (has_default all) refl
    where
      defaults : (has_default all ≡ true → Within values (exits_of_all nowhere all) (execute_default calls here all x)) → (has_default all ≡ false → execute_default calls here all x ≡ Next x) → (d : Bool) → has_default all ≡ d → Within values (switch_exits (exits_of_all nowhere all) (not d)) (after_switch (execute_default calls here all x))
      defaults some none true d = switch_within values (exits_of_all nowhere all) false (execute_default calls here all x) (some d)
      defaults some none false d =
          subst (λ o. Within values (switch_exits (exits_of_all nowhere all) true) (after_switch o)) (sym (none d)) (or_right ((exits_of_all nowhere all).next || (exits_of_all nowhere all).breaks) true refl)

  -- a statement, and those behind it
  follows : (e : Exits) → e.next ≡ true → (q : TypedStatementTree) (rest : TypedStatementTrees) (o : Outcome) → Within values (exits_of q) o → ((f : Exits) → f.next ≡ true → (t : State) → Within values (exits_of_all f rest) (execute_all calls here rest t))
      → Within values (exits_of_all (exits_behind e (exits_of q)) rest) (then_do o (execute_all calls here rest))
  follows e next q rest o h later = by_entry
    where
      by : (o : Outcome) → Within values (exits_of q) o → Within values (exits_of_all (record { next = (exits_of q).next; breaks = e.breaks || (exits_of q).breaks; continues = e.continues || (exits_of q).continues }) rest) (then_do o (execute_all calls here rest))
      by (Next t) h = later (record { next = (exits_of q).next; breaks = e.breaks || (exits_of q).breaks; continues = e.continues || (exits_of q).continues }) h t
      by (Broken t) h = all_breaks (record { next = (exits_of q).next; breaks = e.breaks || (exits_of q).breaks; continues = e.continues || (exits_of q).continues }) rest (or_right e.breaks (exits_of q).breaks h)
      by (Continued t) h = all_continues (record { next = (exits_of q).next; breaks = e.breaks || (exits_of q).breaks; continues = e.continues || (exits_of q).continues }) rest (or_right e.continues (exits_of q).continues h)
      by (Returned None t) h = tt
      by (Returned (Some v) t) h = h
      by (Ended c t) h = tt

      by_entry : Within values (exits_of_all (if e.next then record { next = (exits_of q).next; breaks = e.breaks || (exits_of q).breaks; continues = e.continues || (exits_of q).continues } else e) rest) (then_do o (execute_all calls here rest))
      by_entry = subst (λ b. Within values (exits_of_all (if b then record { next = (exits_of q).next; breaks = e.breaks || (exits_of q).breaks; continues = e.continues || (exits_of q).continues } else e) rest) (then_do o (execute_all calls here rest))) (sym next) (by o h)

  mutual
    -- The outcome of a statement is one of its exits.
    pub within_exits : (q : TypedStatementTree) → ReturnsFit values q → (s : State) → Within values (exits_of q) (execute calls here q s)
    within_exits (Block all) fit s = closed_within values (exits_of_all onwards all) (length s.memory) (execute_all calls here all s) (all_within onwards refl all fit s)
    within_exits (Declaration all) fit s = from_onwards values onwards refl (declare_all calls here all s) (declares_onwards all s)
    within_exits (Empty spot) fit s = place_within values onwards here spot s Next (λ t. refl)
    within_exits (Run spot e) fit s = from_onwards values onwards refl (expression_run calls here spot e s) (run_onwards spot e s)
    within_exits (If spot c q) fit s =
        place_within values (exits_of (If spot c q)) here spot s _ (λ t. test_within values (exits_of (If spot c q)) (test_at calls here spot c t) (execute calls here q) Next
        (λ z. wider values (exits_of q) (exits_of (If spot c q)) (λ h. refl) (λ h. h) (λ h. h) (execute calls here q z) (within_exits q fit z)) (λ z. refl))
    within_exits (IfElse spot c q r) fit s =
        let a = exits_of q in let b = exits_of r in
        place_within values (exits_of_arms a b) here spot s _ (λ t. test_within values (exits_of_arms a b) (test_at calls here spot c t) (execute calls here q) (execute calls here r)
        (λ z. wider values a (exits_of_arms a b) (or_left a.next b.next) (or_left a.breaks b.breaks) (or_left a.continues b.continues) (execute calls here q z) (within_exits q fit.0 z))
        (λ z. wider values b (exits_of_arms a b) (or_right a.next b.next) (or_right a.breaks b.breaks) (or_right a.continues b.continues) (execute calls here r z) (within_exits r fit.1 z)))
    within_exits (While spot c q) fit s =
        rounds_within values onwards s.turns (while_round here spot (test_at calls here spot c) (execute calls here q))
        (λ again h t. place_within values onwards here spot t _ (λ u. test_within values onwards (test_at calls here spot c u) _ Next
        (λ z. body_within values (exits_of q) onwards (execute calls here q z) again (within_exits q fit z) (λ b. refl) (λ n. h) (λ n. h)) (λ z. refl))) s
    within_exits (DoWhile q spot c) fit s =
        let a = exits_of q in
        let e = exits_of (DoWhile q spot c) in
        rounds_within values e s.turns (do_round here spot (test_at calls here spot c) (execute calls here q))
        (λ again h t. body_within values a e (execute calls here q t) _ (within_exits q fit t) (λ b. or_right (a.next || a.continues) a.breaks b)
        (λ n t2. place_within values e here spot t2 _ (λ u. test_within values e (test_at calls here spot c u) again Next h (λ z. or_left (a.next || a.continues) a.breaks (or_left a.next a.continues n))))
        (λ n t2. place_within values e here spot t2 _ (λ u. test_within values e (test_at calls here spot c u) again Next h (λ z. or_left (a.next || a.continues) a.breaks (or_right a.next a.continues n))))) s
    within_exits (For begin spot None p q) fit s =
        let a = exits_of q in
        let e = exits_of (For begin spot None p q) in
        closed_within values e (length s.memory) _ (then_within values e (begin_loop calls here begin s) _ (begin_onwards begin s)
        (λ t. rounds_within values e t.turns (for_round here spot (check calls here spot None) (execute calls here q) (step calls here p))
        (λ again h t2. place_within values e here spot t2 _ (λ u. body_within values a e (execute calls here q u) _ (within_exits q fit u) (λ b. b)
        (λ n z. then_within values e (step calls here p z) again (step_onwards p z) h) (λ n z. then_within values e (step calls here p z) again (step_onwards p z) h))) t))
    within_exits (For begin spot (Some c) p q) fit s =
        let a = exits_of q in
        let e = exits_of (For begin spot (Some c) p q) in
        closed_within values e (length s.memory) _ (then_within values e (begin_loop calls here begin s) _ (begin_onwards begin s)
        (λ t. rounds_within values e t.turns (for_round here spot (check calls here spot (Some c)) (execute calls here q) (step calls here p))
        (λ again h t2. place_within values e here spot t2 _ (λ u. test_within values e (test_at calls here spot c u) _ Next
        (λ x. body_within values a e (execute calls here q x) _ (within_exits q fit x) (λ b. refl)
        (λ n z. then_within values e (step calls here p z) again (step_onwards p z) h) (λ n z. then_within values e (step calls here p z) again (step_onwards p z) h)) (λ z. refl))) t))
    within_exits (Switch spot c all) fit s =
        let a = exits_of_all nowhere all in
        let e = switch_exits a (not (has_default all)) in
        place_within values e here spot s _ (λ t. value_within values e (value_at calls here spot c t) _ (λ v u. numbers e v u _ (λ z x. labelled all z x (λ has. case_within nowhere z all fit has x) (λ has. default_within nowhere all fit has x) (has_case z all) refl)))
    within_exits (Break spot) fit s = place_within values (exits_of (Break spot)) here spot s Broken (λ t. refl)
    within_exits (Continue spot) fit s = place_within values (exits_of (Continue spot)) here spot s Continued (λ t. refl)
    within_exits (Return spot None) fit s = place_within values nowhere here spot s (result calls here spot None) (λ t. tt)
    within_exits (Return spot (Some c)) fit s = place_within values nowhere here spot s (result calls here spot (Some c)) (λ t. value_within values nowhere (value_at calls here spot c t) _ (λ v z. fit))

    -- Statements in order, which are entered.
    pub all_within : (e : Exits) → e.next ≡ true → (all : TypedStatementTrees) → AllReturnsFit values all → (s : State) → Within values (exits_of_all e all) (execute_all calls here all s)
    all_within e next statement.none fit s = next
    all_within e next (statement.first q rest) fit s = follows e next q rest (execute calls here q s) (within_exits q fit.0 s) (λ f entered t. all_within f entered rest fit.1 t)
    all_within e next (case z rest) fit s = all_within (record { next = true; breaks = e.breaks; continues = e.continues }) refl rest fit s
    all_within e next (default rest) fit s = all_within (record { next = true; breaks = e.breaks; continues = e.continues }) refl rest fit s

    -- From the label of a number on,
    case_within : (e : Exits) (z : ℤ) (all : TypedStatementTrees) → AllReturnsFit values all → has_case z all ≡ true → (s : State) → Within values (exits_of_all e all) (execute_case calls here z all s)
    case_within e z statement.none fit has s = cc
    case_within e z (statement.first q rest) fit has s = case_within (exits_behind e (exits_of q)) z rest fit.1 has s
    case_within e z (case j rest) fit has s = by (is_same_number z j) has (λ t. all_within (record { next = true; breaks = e.breaks; continues = e.continues }) refl rest fit t) (λ h t. case_within (record { next = true; breaks = e.breaks; continues = e.continues }) z rest fit h t)
      where
        by : (same : Bool) → same || has_case z rest ≡ true → ((t : State) → Within values (exits_of_all (record { next = true; breaks = e.breaks; continues = e.continues }) rest) (execute_all calls here rest t))
            → (has_case z rest ≡ true → (t : State) → Within values (exits_of_all (record { next = true; breaks = e.breaks; continues = e.continues }) rest) (execute_case calls here z rest t))
            → Within values (exits_of_all (record { next = true; breaks = e.breaks; continues = e.continues }) rest) (by_label same (execute_all calls here rest) (execute_case calls here z rest) s)
        by true has now later = now s
        by false has now later = later has s
    case_within e z (default rest) fit has s = case_within (record { next = true; breaks = e.breaks; continues = e.continues }) z rest fit has s

    -- and from `default` on.
    default_within : (e : Exits) (all : TypedStatementTrees) → AllReturnsFit values all → has_default all ≡ true → (s : State) → Within values (exits_of_all e all) (execute_default calls here all s)
    default_within e statement.none fit has s = cc
    default_within e (statement.first q rest) fit has s = default_within (exits_behind e (exits_of q)) rest fit.1 has s
    default_within e (case z rest) fit has s = default_within (record { next = true; breaks = e.breaks; continues = e.continues }) rest fit has s
    default_within e (default rest) fit has s = all_within (record { next = true; breaks = e.breaks; continues = e.continues }) refl rest fit s

-- A body from which the flow does not reach the end does not come to it, and one that hands back no values hands back none.
pub never_ends : (values : Bool) (calls : ℕ → Calls) (here : Activation) (body : TypedStatementTrees) → AllReturnsFit values body → reaches_end body ≡ false → (s t : State) → execute_all calls here body s ≡ Next t → ⊥
never_ends values calls here body fit ends s t e = impossible (sym ends ∙ subst (λ o. Within values (exits_of_all onwards body) o) e (all_within calls here values onwards refl body fit s))
  where
    impossible : false ≡ true → ⊥
    impossible h = cc

pub never_gives : (values : Bool) → values ≡ false → (calls : ℕ → Calls) (here : Activation) (body : TypedStatementTrees) → AllReturnsFit values body → (s t : State) (v : source-value.Value) → execute_all calls here body s ≡ Returned (Some v) t → ⊥
never_gives values none calls here body fit s t v e = impossible (sym none ∙ subst (λ o. Within values (exits_of_all onwards body) o) e (all_within calls here values onwards refl body fit s))
  where
    impossible : false ≡ true → ⊥
    impossible h = cc

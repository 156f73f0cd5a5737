-- The induction over statements: each kind is a lemma of its own, and the induction only names them.
use Rattle.std.proofs.Common.{◌≡◌, ℕ, ◌+◌, ◌≤◌, List, [], ◌∷◌, ◌++◌, map, Option, Some, Bool, true, false, refl, ap, ◌∙◌, subst, arith, ℤ}
use Rattle.std.specs.Prelude.{if◌then◌else◌}
use Rattle.std.proofs.lemmas.List.{append-nil}
use Rattle.c_tree.specs.TypedStatements as statement
use Rattle.c_tree.specs.TypedStatements.{DeclaredTree, TypedStartTree, Nothing, Value, Declares, StepTree, TypedStatementTree, Block, Declaration, Empty, Run, If, IfElse, While, DoWhile, For, Switch, Break, Continue, Return, TypedStatementTrees, case, default}
use Rattle.c_places.specs.Places.{brought, brought_by_start, brought_by_body}
use Rattle.c_meaning_steps.specs.States.{State, Outcome, Next, Holds}
use Rattle.c_meaning.specs.Statements.{declare, declare_all, begin_loop, step, test_at, loop, for_round, then_do, is_same_number, by_label, execute, execute_all, execute_case, execute_default}
use Rattle.c_flow.specs.declared.edge.Ways.{Ways}
use Rattle.c_flow.specs.Flow.{start_place, start_of_all, start_of_declarators, start_of_for, round_of, within_loop}
use Rattle.graph_build_statements.specs.Forms.{default_start}
use Rattle.graph_build_runs.proofs.Activities.{Activity, here_in}
use Rattle.graph_build_runs.proofs.Outcomes.{GoesOn}
use Rattle.graph_build_runs.proofs.Stops.{Lawful}
use Rattle.graph_build_runs.proofs.Simple.{empty_goes, break_goes, continue_goes, run_goes, leave_goes, return_goes}
use Rattle.graph_build_runs.proofs.Branches.{arrives_at, chosen_goes}
use Rattle.graph_build_runs.proofs.Loops.{while_goes, do_goes, for_goes, endless_goes}
use Rattle.graph_build_runs.proofs.Lists.{first_goes, block_goes}
use Rattle.graph_build_runs.proofs.Switches.{case_start, switch_goes}
use Rattle.graph_build_runs.proofs.Formed.{IsPlain, ArePlain, behind_declared, behind_start, behind, behind_all, DeclaresAll, none_declared, declared_first, FormedStart, no_start, value_start, declared_start, FormedStep, no_step, a_step, Formed, block, declaration, empty, runs, chosen, either, while_loop, do_loop, for_loop, endless_loop, switch, breaks, continues, leaves, returns, FormedAll, none_left, first_of, at_case, at_default}

-- the number above those of variables grows
pub declared_above : {k : Activity} {w : Ways} {scope : List ℕ} {low : ℕ} {all : List DeclaredTree} → DeclaresAll k w scope low all → low ≤ behind_declared low all
declared_above none_declared = omega arith
declared_above (declared_first le does keeps more) = let later = declared_above more in omega (arith, le, later)

pub above : {k : Activity} {w : Ways} {scope : List ℕ} {low : ℕ} {s : TypedStatementTree} → Formed k w scope low s → low ≤ behind low s
above (declaration d) = declared_above d
above (block all) = omega arith
above (empty b) = omega arith
above (runs works b) = omega arith
above (chosen works b p f) = omega arith
above (either works b p q f g) = omega arith
above (while_loop works b p f) = omega arith
above (do_loop there works b p f) = omega arith
above (for_loop begin works b step p f) = omega arith
above (endless_loop begin b step p f) = omega arith
above (switch tested labels works b p f) = omega arith
above (breaks b) = omega arith
above (continues b) = omega arith
above (leaves b) = omega arith
above (returns works is b) = omega arith

pub all_above : {k : Activity} {w : Ways} {scope : List ℕ} {low : ℕ} {all : TypedStatementTrees} → FormedAll k w scope low all → low ≤ behind_all low all
all_above none_left = omega arith
all_above (first_of f rest) = let one = above f in let more = all_above rest in omega (arith, one, more)
all_above (at_case rest) = all_above rest
all_above (at_default rest) = all_above rest

pub start_above : {k : Activity} {w : Ways} {head : ℕ} {scope : List ℕ} {low : ℕ} {begin : TypedStartTree} → FormedStart k w head scope low begin → low ≤ behind_start low begin
start_above no_start = omega arith
start_above (value_start works b) = omega arith
start_above (declared_start all) = declared_above all

-- a statement that is no declaration brings nothing
pub plain_behind : (s : TypedStatementTree) → IsPlain s → (low : ℕ) → behind low s ≡ low
plain_behind (Declaration all) plain low = absurd plain
plain_behind s plain low = refl

pub plain_brought : (s : TypedStatementTree) → IsPlain s → brought s ≡ []
plain_brought (Declaration all) plain = absurd plain
plain_brought s plain = refl

pub all_plain_behind : (all : TypedStatementTrees) → ArePlain all → (low : ℕ) → behind_all low all ≡ low
all_plain_behind statement.none plain low = refl
all_plain_behind (statement.first s rest) plain low = all_plain_behind rest plain.1 (behind low s) ∙ plain_behind s plain.0 low
all_plain_behind (case z rest) plain low = all_plain_behind rest plain low
all_plain_behind (default rest) plain low = all_plain_behind rest plain low

pub all_plain_brought : (all : TypedStatementTrees) → ArePlain all → brought_by_body all ≡ []
all_plain_brought statement.none plain = refl
all_plain_brought (statement.first s rest) plain = ap (λ xs. xs ++ brought_by_body rest) (plain_brought s plain.0) ∙ all_plain_brought rest plain.1
all_plain_brought (case z rest) plain = all_plain_brought rest plain
all_plain_brought (default rest) plain = all_plain_brought rest plain

module _ (k : Activity) (law : Lawful k) where
  -- what a statement that is no declaration does
  plain_goes : (s : TypedStatementTree) (low : ℕ) (w : Ways) (scope : List ℕ) (begin : Option ℕ) (go : State → Outcome) → IsPlain s → GoesOn k low (behind low s) (brought s) w scope begin go → GoesOn k low low [] w scope begin go
  plain_goes s low w scope begin go plain does = subst (λ xs. GoesOn k low low xs w scope begin go) (plain_brought s plain) (subst (λ high. GoesOn k low high (brought s) w scope begin go) (plain_behind s plain low) does)

  -- and what goes on behind it
  plain_scope : (s : TypedStatementTree) (low : ℕ) (w : Ways) (scope : List ℕ) (begin : Option ℕ) (go : State → Outcome) → IsPlain s → GoesOn k (behind low s) (behind low s) [] w (scope ++ brought s) begin go → GoesOn k low low [] w scope begin go
  plain_scope s low w scope begin go plain does =
      subst (λ xs. GoesOn k low low [] w xs begin go) (ap (λ xs. scope ++ xs) (plain_brought s plain) ∙ append-nil scope) (subst (λ n. GoesOn k n n [] w (scope ++ brought s) begin go) (plain_behind s plain low) does)

  plain_all : (all : TypedStatementTrees) (low : ℕ) (w : Ways) (scope : List ℕ) (begin : Option ℕ) (go : State → Outcome) → ArePlain all → GoesOn k low (behind_all low all) (brought_by_body all) w scope begin go → GoesOn k low low [] w scope begin go
  plain_all all low w scope begin go plain does =
      subst (λ xs. GoesOn k low low xs w scope begin go) (all_plain_brought all plain) (subst (λ high. GoesOn k low high (brought_by_body all) w scope begin go) (all_plain_behind all plain low) does)

  -- where nothing is done
  nothing_goes : (low : ℕ) (w : Ways) (scope : List ℕ) → GoesOn k low low [] w scope w.next Next
  nothing_goes low w scope c es place l u s comes sound fits h = arrives_at k c es low low w.next place l u s comes sound fits

  pub declares_go : {w : Ways} {scope : List ℕ} {low : ℕ} {all : List DeclaredTree} → DeclaresAll k w scope low all → GoesOn k low (behind_declared low all) (map (λ (d : DeclaredTree). d.variable) all) w scope (start_of_declarators all w.next) (declare_all k.calls (here_in k) all)
  declares_go (none_declared {w = w} {scope = scope} {low = low}) = nothing_goes low w scope
  declares_go (declared_first {w = w} {scope = scope} {low = low} {d = d} {more = more} le does keeps rest) =
      first_goes k scope low (d.variable + 1) (behind_declared (d.variable + 1) more) w (Some d.spot.at) (start_of_declarators more w.next) (d.variable ∷ []) (map (λ (q : DeclaredTree). q.variable) more) (declare k.calls (here_in k) d) (declare_all k.calls (here_in k) more)
      (omega (arith, le)) (declared_above rest) does (declares_go rest)

  begin_goes : {w : Ways} {head : ℕ} {scope : List ℕ} {low : ℕ} {begin : TypedStartTree} → FormedStart k w head scope low begin
      → GoesOn k low (behind_start low begin) (brought_by_start begin) (record w { next = Some head }) scope (start_of_for begin head) (begin_loop k.calls (here_in k) begin)
  begin_goes (no_start {w = w} {head = head} {scope = scope} {low = low}) = nothing_goes low (record w { next = Some head }) scope
  begin_goes (value_start {w = w} {head = head} {scope = scope} {low = low} {spot = spot} {e = e} works b) = run_goes k law scope low (record w { next = Some head }) spot e works b
  begin_goes (declared_start all) = declares_go all

  step_does : {head : ℕ} {scope : List ℕ} {p : Option StepTree} (w : Ways) (low : ℕ) → FormedStep k head scope p → GoesOn k low low [] (record w { next = Some head }) scope (Some (round_of p head)) (step k.calls (here_in k) p)
  step_does w low (no_step {head = head} {scope = scope}) = nothing_goes low (record w { next = Some head }) scope
  step_does w low (a_step {head = head} {scope = scope} {p = p} works b) = run_goes k law scope low (record w { next = Some head }) p.spot p.value works b

  -- the first part of a `for`, and the loop
  for_whole : (w : Ways) (scope : List ℕ) (low : ℕ) (begin : TypedStartTree) (head : ℕ) (rest : State → Outcome) → FormedStart k w head scope low begin → GoesOn k (behind_start low begin) (behind_start low begin) [] w (scope ++ brought_by_start begin) (Some head) rest
      → GoesOn k low (behind_start low begin) (brought_by_start begin ++ []) w scope (start_of_for begin head) (λ s. then_do (begin_loop k.calls (here_in k) begin s) rest)
  for_whole w scope low begin head rest formed does =
      first_goes k scope low (behind_start low begin) (behind_start low begin) w (start_of_for begin head) (Some head) (brought_by_start begin) [] (begin_loop k.calls (here_in k) begin) rest (start_above formed) (omega arith) (begin_goes formed) does

  mutual
    -- The blocks of a statement do what the statement means.
    pub statement_goes : {w : Ways} {scope : List ℕ} {low : ℕ} {s : TypedStatementTree} → Formed k w scope low s → GoesOn k low (behind low s) (brought s) w scope (start_place s w.next) (execute k.calls (here_in k) s)
    statement_goes (block {w = w} {scope = scope} {low = low} {all = all} f) = block_goes k scope low (behind_all low all) (brought_by_body all) w (start_of_all all w.next) (execute_all k.calls (here_in k) all) (statements_go f)
    statement_goes (declaration d) = declares_go d
    statement_goes (empty {w = w} {scope = scope} {low = low} {spot = spot} b) = empty_goes k law scope low w spot b
    statement_goes (runs {w = w} {scope = scope} {low = low} {spot = spot} {e = e} works b) = run_goes k law scope low w spot e works b
    statement_goes (chosen {w = w} {scope = scope} {low = low} {spot = spot} {e = e} {s = s} works b plain f) =
        chosen_goes k law scope low w spot e works (start_place s w.next) w.next (execute k.calls (here_in k) s) Next b (plain_goes s low w scope (start_place s w.next) (execute k.calls (here_in k) s) plain (statement_goes f)) (nothing_goes low w scope)
    statement_goes (either {w = w} {scope = scope} {low = low} {spot = spot} {e = e} {s = s} {r = r} works b plain_s plain_r f g) =
        chosen_goes k law scope low w spot e works (start_place s w.next) (start_place r w.next) (execute k.calls (here_in k) s) (execute k.calls (here_in k) r) b (plain_goes s low w scope (start_place s w.next) (execute k.calls (here_in k) s) plain_s (statement_goes f))
        (plain_goes r low w scope (start_place r w.next) (execute k.calls (here_in k) r) plain_r (statement_goes g))
    statement_goes (while_loop {w = w} {scope = scope} {low = low} {spot = spot} {e = e} {s = s} works b plain f) =
        while_goes k law scope low w spot e (start_place s (Some spot.at)) (execute k.calls (here_in k) s) works b (plain_goes s low (within_loop spot.at w) scope (start_place s (Some spot.at)) (execute k.calls (here_in k) s) plain (statement_goes f))
    statement_goes (do_loop {w = w} {scope = scope} {low = low} {spot = spot} {e = e} {s = s} there works b plain f) =
        do_goes k law scope low w spot e (start_place s (Some spot.at)) (execute k.calls (here_in k) s) there works b (plain_goes s low (within_loop spot.at w) scope (start_place s (Some spot.at)) (execute k.calls (here_in k) s) plain (statement_goes f))
    statement_goes (for_loop {w = w} {scope = scope} {low = low} {begin = begin} {spot = spot} {e = e} {p = p} {s = s} formed works b step_formed plain f) =
        let inside = scope ++ brought_by_start begin in
        let body = plain_goes s (behind_start low begin) (within_loop (round_of p spot.at) w) inside (start_place s (Some (round_of p spot.at))) (execute k.calls (here_in k) s) plain (statement_goes f) in
        let whole = for_goes k law inside (behind_start low begin) w spot e (Some (round_of p spot.at)) (start_place s (Some (round_of p spot.at))) (execute k.calls (here_in k) s) (step k.calls (here_in k) p) works b body (step_does w (behind_start low begin) step_formed) in
        block_goes k scope low (behind_start low begin) (brought_by_start begin ++ []) w (start_of_for begin spot.at) (λ z. then_do (begin_loop k.calls (here_in k) begin z) (loop (for_round (here_in k) spot (test_at k.calls (here_in k) spot e) (execute k.calls (here_in k) s) (step k.calls (here_in k) p))))
        (for_whole w scope low begin spot.at (loop (for_round (here_in k) spot (test_at k.calls (here_in k) spot e) (execute k.calls (here_in k) s) (step k.calls (here_in k) p))) formed whole)
    statement_goes (endless_loop {w = w} {scope = scope} {low = low} {begin = begin} {spot = spot} {p = p} {s = s} formed b step_formed plain f) =
        let inside = scope ++ brought_by_start begin in
        let body = plain_goes s (behind_start low begin) (within_loop (round_of p spot.at) w) inside (start_place s (Some (round_of p spot.at))) (execute k.calls (here_in k) s) plain (statement_goes f) in
        let whole = endless_goes k law inside (behind_start low begin) w spot (Some (round_of p spot.at)) (start_place s (Some (round_of p spot.at))) (execute k.calls (here_in k) s) (step k.calls (here_in k) p) b body (step_does w (behind_start low begin) step_formed) in
        block_goes k scope low (behind_start low begin) (brought_by_start begin ++ []) w (start_of_for begin spot.at) (λ z. then_do (begin_loop k.calls (here_in k) begin z) (loop (for_round (here_in k) spot (λ x. Holds x) (execute k.calls (here_in k) s) (step k.calls (here_in k) p))))
        (for_whole w scope low begin spot.at (loop (for_round (here_in k) spot (λ x. Holds x) (execute k.calls (here_in k) s) (step k.calls (here_in k) p))) formed whole)
    statement_goes (switch {w = w} {scope = scope} {low = low} {spot = spot} {e = e} {all = all} {t = t} tested labels works b plain f) =
        switch_goes k law scope low w spot e all t tested labels works b (λ z. execute_case k.calls (here_in k) z all) (execute_default k.calls (here_in k) all) (λ z. case_goes z plain f) (default_goes plain f)
    statement_goes (breaks {w = w} {scope = scope} {low = low} {spot = spot} b) = break_goes k law scope low w spot b
    statement_goes (continues {w = w} {scope = scope} {low = low} {spot = spot} b) = continue_goes k law scope low w spot b
    statement_goes (leaves {w = w} {scope = scope} {low = low} {spot = spot} b) = leave_goes k law scope low w spot b
    statement_goes (returns {w = w} {scope = scope} {low = low} {spot = spot} {e = e} works is b) = return_goes k law scope low w spot e works is b

    -- So do those of statements in order,
    pub statements_go : {w : Ways} {scope : List ℕ} {low : ℕ} {all : TypedStatementTrees} → FormedAll k w scope low all → GoesOn k low (behind_all low all) (brought_by_body all) w scope (start_of_all all w.next) (execute_all k.calls (here_in k) all)
    statements_go (none_left {w = w} {scope = scope} {low = low}) = nothing_goes low w scope
    statements_go (first_of {w = w} {scope = scope} {low = low} {s = s} {rest = rest} f more) =
        first_goes k scope low (behind low s) (behind_all (behind low s) rest) w (start_place s (start_of_all rest w.next)) (start_of_all rest w.next) (brought s) (brought_by_body rest) (execute k.calls (here_in k) s) (execute_all k.calls (here_in k) rest) (above f) (all_above more)
        (statement_goes f) (statements_go more)
    statements_go (at_case rest) = statements_go rest
    statements_go (at_default rest) = statements_go rest

    -- those from the label of a number on,
    case_goes : {w : Ways} {scope : List ℕ} {low : ℕ} {all : TypedStatementTrees} (z : ℤ) → ArePlain all → FormedAll k w scope low all → GoesOn k low low [] w scope (case_start z all w.next) (execute_case k.calls (here_in k) z all)
    case_goes z plain (none_left {w = w} {scope = scope} {low = low}) = nothing_goes low w scope
    case_goes z plain (first_of {w = w} {scope = scope} {low = low} {s = s} {rest = rest} f more) = plain_scope s low w scope (case_start z rest w.next) (execute_case k.calls (here_in k) z rest) plain.0 (case_goes z plain.1 more)
    case_goes z plain (at_case {w = w} {scope = scope} {low = low} {z = j} {rest = rest} more) =
        by (is_same_number z j) (plain_all rest low w scope (start_of_all rest w.next) (execute_all k.calls (here_in k) rest) plain (statements_go more)) (case_goes z plain more)
      where
        by : (same : Bool) → GoesOn k low low [] w scope (start_of_all rest w.next) (execute_all k.calls (here_in k) rest) → GoesOn k low low [] w scope (case_start z rest w.next) (execute_case k.calls (here_in k) z rest)
            → GoesOn k low low [] w scope (if same then start_of_all rest w.next else case_start z rest w.next) (λ s. by_label same (execute_all k.calls (here_in k) rest) (execute_case k.calls (here_in k) z rest) s)
        by true here later = here
        by false here later = later
    case_goes z plain (at_default more) = case_goes z plain more

    -- and those from `default` on.
    default_goes : {w : Ways} {scope : List ℕ} {low : ℕ} {all : TypedStatementTrees} → ArePlain all → FormedAll k w scope low all → GoesOn k low low [] w scope (default_start all w.next) (execute_default k.calls (here_in k) all)
    default_goes plain (none_left {w = w} {scope = scope} {low = low}) = nothing_goes low w scope
    default_goes plain (first_of {w = w} {scope = scope} {low = low} {s = s} {rest = rest} f more) = plain_scope s low w scope (default_start rest w.next) (execute_default k.calls (here_in k) rest) plain.0 (default_goes plain.1 more)
    default_goes plain (at_case more) = default_goes plain more
    default_goes plain (at_default {w = w} {scope = scope} {low = low} {rest = rest} more) = plain_all rest low w scope (start_of_all rest w.next) (execute_all k.calls (here_in k) rest) plain (statements_go more)

-- Statements keep what a program's run keeps: the induction over them.
use Rattle.std.proofs.Common.{◌≡◌, ℕ, zero, suc, ◌+◌, ◌≤◌, List, [], ◌∷◌, ◌++◌, map, Option, Some, None, Bool, true, false, sym, ap, ◌∙◌, subst, arith, ℤ}
use Rattle.std.proofs.lemmas.List.{append-nil}
use Rattle.debug_records.specs.declared.source.Spot.{Spot}
use Rattle.c_tree.specs.declared.types.IntegerType.{IntegerType}
use Rattle.c_tree.specs.TypedExpressions.{RvalueTree}
use Rattle.c_tree.specs.TypedStatements.{DeclaredTree, TypedStartTree, StepTree, TypedStatementTree, TypedStatementTrees}
use Rattle.c_type_laws.specs.Expressions.{kind_of}
use Rattle.c_type_laws.specs.Statements.{tested_type}
use Rattle.c_places.specs.Places.{brought, brought_by_start, brought_by_body}
use Rattle.c_meaning_values.specs.declared.value.Value.TheVariants as source
use Rattle.c_meaning_steps.specs.States.{State, Outcome, Next, Broken, Continued, Returned, Holds, choose, on_value, on_effect}
use Rattle.c_meaning.specs.Activations as activations
use Rattle.c_meaning.specs.Statements.{declare, declare_all, begin_loop, expression_run, result, step, value_at, test_at, rounds, loop, while_round, do_round, for_round, after_body, after_switch, then_do, on_number, has_case, is_same_number, by_label, execute, execute_all, execute_case, execute_default}
use Rattle.c_flow.specs.declared.edge.Ways.{Ways}
use Rattle.graph_build_runs.proofs.Types.{kind_is_of}
use Rattle.graph_build_runs.proofs.Activities.{Activity, here_in, place_at}
use Rattle.graph_build_runs.proofs.Outcomes.{holding_since}
use Rattle.graph_build_runs.proofs.Stops.{PlaceIs}
use Rattle.graph_build_runs.proofs.AtPlaces.{Works}
use Rattle.graph_build_runs.proofs.Switches.{number_tested}
use Rattle.graph_build_runs.proofs.Keeping.{KeptBy, KeepsOn, nothing_kept, first_kept, body_kept, switch_kept, closed_kept, place_kept, value_kept, effect_kept, test_kept}
use Rattle.graph_build_runs.proofs.Formed.{IsPlain, ArePlain, behind_declared, behind_start, behind, behind_all, DeclaresAll, none_declared, declared_first, FormedStart, no_start, value_start, declared_start, FormedStep, no_step, a_step, Formed, block, declaration, empty, runs, chosen, either, while_loop, do_loop, for_loop, endless_loop, switch, breaks, continues, leaves, returns, FormedAll, none_left, first_of, at_case, at_default}
use Rattle.graph_build_runs.proofs.Statements.{declared_above, above, all_above, start_above, plain_behind, plain_brought, all_plain_behind, all_plain_brought}

module _ (k : Activity) where
  plain_keeps : (s : TypedStatementTree) (low : ℕ) (scope : List ℕ) (go : State → Outcome) → IsPlain s → KeepsOn k low (behind low s) (brought s) scope go → KeepsOn k low low [] scope go
  plain_keeps s low scope go plain does = subst (λ xs. KeepsOn k low low xs scope go) (plain_brought s plain) (subst (λ high. KeepsOn k low high (brought s) scope go) (plain_behind s plain low) does)

  plain_scoped : (s : TypedStatementTree) (low : ℕ) (scope : List ℕ) (go : State → Outcome) → IsPlain s → KeepsOn k (behind low s) (behind low s) [] (scope ++ brought s) go → KeepsOn k low low [] scope go
  plain_scoped s low scope go plain does =
      subst (λ xs. KeepsOn k low low [] xs go) (ap (λ xs. scope ++ xs) (plain_brought s plain) ∙ append-nil scope) (subst (λ n. KeepsOn k n n [] (scope ++ brought s) go) (plain_behind s plain low) does)

  plain_keep : (all : TypedStatementTrees) (low : ℕ) (scope : List ℕ) (go : State → Outcome) → ArePlain all → KeepsOn k low (behind_all low all) (brought_by_body all) scope go → KeepsOn k low low [] scope go
  plain_keep all low scope go plain does = subst (λ xs. KeepsOn k low low xs scope go) (all_plain_brought all plain) (subst (λ high. KeepsOn k low high (brought_by_body all) scope go) (all_plain_behind all plain low) does)

  next_keeps : (low : ℕ) (scope : List ℕ) → KeepsOn k low low [] scope Next
  next_keeps low scope s sound h = nothing_kept k low low s sound

  run_keeps : (low : ℕ) (scope : List ℕ) (spot : Spot) (e : RvalueTree) → PlaceIs k scope spot.at → Works k (place_at k spot.at) e → KeepsOn k low low [] scope (expression_run k.calls (here_in k) spot e)
  run_keeps low scope spot e here works =
      place_kept k scope spot here low low [] (λ s. on_effect (value_at k.calls (here_in k) spot e s) Next) (λ s sound h now. effect_kept k spot.at e works s sound now low low [] Next (λ s2 sound2 since. nothing_kept k low low s2 sound2))

  chosen_keeps : (low : ℕ) (scope : List ℕ) (spot : Spot) (e : RvalueTree) (if_so if_not : State → Outcome) → PlaceIs k scope spot.at → Works k (place_at k spot.at) e → KeepsOn k low low [] scope if_so → KeepsOn k low low [] scope if_not
      → KeepsOn k low low [] scope (λ s. activations.at (here_in k) spot s (λ t. choose (test_at k.calls (here_in k) spot e t) if_so if_not))
  chosen_keeps low scope spot e if_so if_not here works on off =
      place_kept k scope spot here low low [] (λ s. choose (test_at k.calls (here_in k) spot e s) if_so if_not)
      (λ s sound h now. test_kept k spot.at e works s sound now low low [] if_so if_not (λ s2 sound2 since. on s2 sound2 (holding_since k scope low s.memory s2.memory h since)) (λ s2 sound2 since. off s2 sound2 (holding_since k scope low s.memory s2.memory h since)))

  rounds_keep : (low : ℕ) (scope : List ℕ) (turns : ℕ) (round : (State → Outcome) → State → Outcome) → ((again : State → Outcome) → KeepsOn k low low [] scope again → KeepsOn k low low [] scope (round again)) → KeepsOn k low low [] scope (rounds turns round)
  rounds_keep low scope zero round does = λ s sound h. tt
  rounds_keep low scope (suc turns) round does = does (rounds turns round) (rounds_keep low scope turns round does)

  loop_keeps : (low : ℕ) (scope : List ℕ) (round : (State → Outcome) → State → Outcome) → ((again : State → Outcome) → KeepsOn k low low [] scope again → KeepsOn k low low [] scope (round again)) → KeepsOn k low low [] scope (loop round)
  loop_keeps low scope round does s sound h = rounds_keep low scope s.turns round does s sound h

  for_keeps : (low : ℕ) (scope : List ℕ) (body step again : State → Outcome) → KeepsOn k low low [] scope body → KeepsOn k low low [] scope step → KeepsOn k low low [] scope again → KeepsOn k low low [] scope (λ s. after_body (body s) (λ z. then_do (step z) again))
  for_keeps low scope body step again body_does step_does again_does =
      let le : low ≤ low = omega arith in
      body_kept k low scope body (λ z. then_do (step z) again) body_does (first_kept k low low low [] [] scope step again le le step_does (subst (λ xs. KeepsOn k low low [] xs again) (sym (append-nil scope)) again_does))

  declares_keep : {w : Ways} {scope : List ℕ} {low : ℕ} {all : List DeclaredTree} → DeclaresAll k w scope low all → KeepsOn k low (behind_declared low all) (map (λ (d : DeclaredTree). d.variable) all) scope (declare_all k.calls (here_in k) all)
  declares_keep (none_declared {scope = scope} {low = low}) = next_keeps low scope
  declares_keep (declared_first {scope = scope} {low = low} {d = d} {more = more} le does keeps rest) =
      first_kept k low (d.variable + 1) (behind_declared (d.variable + 1) more) (d.variable ∷ []) (map (λ (q : DeclaredTree). q.variable) more) scope (declare k.calls (here_in k) d) (declare_all k.calls (here_in k) more) (omega (arith, le)) (declared_above rest) keeps (declares_keep rest)

  begin_keeps : {w : Ways} {head : ℕ} {scope : List ℕ} {low : ℕ} {begin : TypedStartTree} → FormedStart k w head scope low begin → KeepsOn k low (behind_start low begin) (brought_by_start begin) scope (begin_loop k.calls (here_in k) begin)
  begin_keeps (no_start {scope = scope} {low = low}) = next_keeps low scope
  begin_keeps (value_start {scope = scope} {low = low} {spot = spot} {e = e} works b) = run_keeps low scope spot e b.here works
  begin_keeps (declared_start all) = declares_keep all

  step_keeps : {head : ℕ} {scope : List ℕ} {p : Option StepTree} (low : ℕ) → FormedStep k head scope p → KeepsOn k low low [] scope (step k.calls (here_in k) p)
  step_keeps low (no_step {scope = scope}) = next_keeps low scope
  step_keeps low (a_step {scope = scope} {p = p} works b) = run_keeps low scope p.spot p.value b.here works

  for_whole : (w : Ways) (head : ℕ) (scope : List ℕ) (low : ℕ) (begin : TypedStartTree) (rest : State → Outcome) → FormedStart k w head scope low begin → KeepsOn k (behind_start low begin) (behind_start low begin) [] (scope ++ brought_by_start begin) rest
      → KeepsOn k low (behind_start low begin) (brought_by_start begin ++ []) scope (λ s. then_do (begin_loop k.calls (here_in k) begin s) rest)
  for_whole w head scope low begin rest formed does =
      first_kept k low (behind_start low begin) (behind_start low begin) (brought_by_start begin) [] scope (begin_loop k.calls (here_in k) begin) rest (start_above formed) (omega arith) (begin_keeps formed) does

  switch_keeps : (low : ℕ) (scope : List ℕ) (spot : Spot) (e : RvalueTree) (all : TypedStatementTrees) (t : IntegerType) → tested_type (kind_of k.setting.program k.setting.tree e) ≡ Some t → PlaceIs k scope spot.at → Works k (place_at k spot.at) e → (case_go : ℤ → State → Outcome) (default_go : State → Outcome)
      → ((z : ℤ) → KeepsOn k low low [] scope (case_go z)) → KeepsOn k low low [] scope default_go
      → KeepsOn k low low [] scope (λ s. activations.at (here_in k) spot s (λ x. on_value (value_at k.calls (here_in k) spot e x) (λ v u. on_number v u (λ z q. after_switch (by_label (has_case z all) (case_go z) default_go q)))))
  switch_keeps low scope spot e all t tested here works case_go default_go case_does default_does =
      place_kept k scope spot here low low [] (λ s. on_value (value_at k.calls (here_in k) spot e s) (λ v u. on_number v u (λ z q. after_switch (by_label (has_case z all) (case_go z) default_go q))))
      (λ s sound h now.
      value_kept k spot.at e works s sound now low low [] (λ v u. on_number v u (λ z q. after_switch (by_label (has_case z all) (case_go z) default_go q)))
      (λ v s2 sound2 since kind.
      (let n = number_tested (kind_of k.setting.program k.setting.tree e) t tested s2.memory v kind in
      let is : v ≡ source.Number n.1.0 = n.1.1 in
      subst (λ q. KeptBy k low low [] s2.memory (on_number q s2 (λ z y. after_switch (by_label (has_case z all) (case_go z) default_go y)))) (sym is)
      (switch_kept k low s2.memory (by_label (has_case n.1.0 all) (case_go n.1.0) default_go s2) (by (case_go n.1.0) default_go s2 (has_case n.1.0 all) (case_does n.1.0 s2 sound2 (holding_since k scope low s.memory s2.memory h since)) (default_does s2 sound2 (holding_since k scope low s.memory s2.memory h since)))))))
    where
      by : (one other : State → Outcome) (s : State) (labelled : Bool) → KeptBy k low low [] s.memory (one s) → KeptBy k low low [] s.memory (other s) → KeptBy k low low [] s.memory (by_label labelled one other s)
      by one other s true a b = a
      by one other s false a b = b

  mutual
    -- What a program's run keeps is kept by a statement,
    pub statement_keeps : {w : Ways} {scope : List ℕ} {low : ℕ} {s : TypedStatementTree} → Formed k w scope low s → KeepsOn k low (behind low s) (brought s) scope (execute k.calls (here_in k) s)
    statement_keeps (block {scope = scope} {low = low} {all = all} f) = closed_kept k low (behind_all low all) (brought_by_body all) scope (execute_all k.calls (here_in k) all) (statements_keep f)
    statement_keeps (declaration d) = declares_keep d
    statement_keeps (empty {scope = scope} {low = low} {spot = spot} b) = place_kept k scope spot b.here low low [] Next (λ s sound h now. nothing_kept k low low s sound)
    statement_keeps (runs {scope = scope} {low = low} {spot = spot} {e = e} works b) = run_keeps low scope spot e b.here works
    statement_keeps (chosen {scope = scope} {low = low} {spot = spot} {e = e} {s = s} works b plain f) =
        chosen_keeps low scope spot e (execute k.calls (here_in k) s) Next b.here works (plain_keeps s low scope (execute k.calls (here_in k) s) plain (statement_keeps f)) (next_keeps low scope)
    statement_keeps (either {scope = scope} {low = low} {spot = spot} {e = e} {s = s} {r = r} works b plain_s plain_r f g) =
        chosen_keeps low scope spot e (execute k.calls (here_in k) s) (execute k.calls (here_in k) r) b.here works (plain_keeps s low scope (execute k.calls (here_in k) s) plain_s (statement_keeps f)) (plain_keeps r low scope (execute k.calls (here_in k) r) plain_r (statement_keeps g))
    statement_keeps (while_loop {scope = scope} {low = low} {spot = spot} {e = e} {s = s} works b plain f) =
        let body = plain_keeps s low scope (execute k.calls (here_in k) s) plain (statement_keeps f) in
        loop_keeps low scope (while_round (here_in k) spot (test_at k.calls (here_in k) spot e) (execute k.calls (here_in k) s))
        (λ again keeps. chosen_keeps low scope spot e (λ z. after_body (execute k.calls (here_in k) s z) again) Next b.here works (body_kept k low scope (execute k.calls (here_in k) s) again body keeps) (next_keeps low scope))
    statement_keeps (do_loop {scope = scope} {low = low} {spot = spot} {e = e} {s = s} there works b plain f) =
        let body = plain_keeps s low scope (execute k.calls (here_in k) s) plain (statement_keeps f) in
        loop_keeps low scope (do_round (here_in k) spot (test_at k.calls (here_in k) spot e) (execute k.calls (here_in k) s))
        (λ again keeps. body_kept k low scope (execute k.calls (here_in k) s) (λ t. activations.at (here_in k) spot t (λ z. choose (test_at k.calls (here_in k) spot e z) again Next)) body (chosen_keeps low scope spot e again Next b.here works keeps (next_keeps low scope)))
    statement_keeps (for_loop {w = w} {scope = scope} {low = low} {begin = begin} {spot = spot} {e = e} {p = p} {s = s} formed works b step_formed plain f) =
        let inside = scope ++ brought_by_start begin in
        let n = behind_start low begin in
        let body = plain_keeps s n inside (execute k.calls (here_in k) s) plain (statement_keeps f) in
        let whole = loop_keeps n inside (for_round (here_in k) spot (test_at k.calls (here_in k) spot e) (execute k.calls (here_in k) s) (step k.calls (here_in k) p))
        (λ again keeps. chosen_keeps n inside spot e (λ u. after_body (execute k.calls (here_in k) s u) (λ z. then_do (step k.calls (here_in k) p z) again)) Next b.here works (for_keeps n inside (execute k.calls (here_in k) s) (step k.calls (here_in k) p) again body (step_keeps n step_formed) keeps) (next_keeps n inside)) in
        closed_kept k low n (brought_by_start begin ++ []) scope (λ z. then_do (begin_loop k.calls (here_in k) begin z) (loop (for_round (here_in k) spot (test_at k.calls (here_in k) spot e) (execute k.calls (here_in k) s) (step k.calls (here_in k) p))))
        (for_whole w spot.at scope low begin (loop (for_round (here_in k) spot (test_at k.calls (here_in k) spot e) (execute k.calls (here_in k) s) (step k.calls (here_in k) p))) formed whole)
    statement_keeps (endless_loop {w = w} {scope = scope} {low = low} {begin = begin} {spot = spot} {p = p} {s = s} formed b step_formed plain f) =
        let inside = scope ++ brought_by_start begin in
        let n = behind_start low begin in
        let body = plain_keeps s n inside (execute k.calls (here_in k) s) plain (statement_keeps f) in
        let whole = loop_keeps n inside (for_round (here_in k) spot (λ x. Holds x) (execute k.calls (here_in k) s) (step k.calls (here_in k) p))
        (λ again keeps.
        place_kept k inside spot b.here n n [] (λ u. after_body (execute k.calls (here_in k) s u) (λ z. then_do (step k.calls (here_in k) p z) again)) (λ u sound h now. for_keeps n inside (execute k.calls (here_in k) s) (step k.calls (here_in k) p) again body (step_keeps n step_formed) keeps u sound h)) in
        closed_kept k low n (brought_by_start begin ++ []) scope (λ z. then_do (begin_loop k.calls (here_in k) begin z) (loop (for_round (here_in k) spot (λ x. Holds x) (execute k.calls (here_in k) s) (step k.calls (here_in k) p))))
        (for_whole w spot.at scope low begin (loop (for_round (here_in k) spot (λ x. Holds x) (execute k.calls (here_in k) s) (step k.calls (here_in k) p))) formed whole)
    statement_keeps (switch {scope = scope} {low = low} {spot = spot} {e = e} {all = all} {t = t} tested labels works b plain f) =
        switch_keeps low scope spot e all t tested b.here works (λ z. execute_case k.calls (here_in k) z all) (execute_default k.calls (here_in k) all) (λ z. case_keeps z plain f) (default_keeps plain f)
    statement_keeps (breaks {scope = scope} {low = low} {spot = spot} b) = place_kept k scope spot b.here low low [] Broken (λ s sound h now. nothing_kept k low low s sound)
    statement_keeps (continues {scope = scope} {low = low} {spot = spot} b) = place_kept k scope spot b.here low low [] Continued (λ s sound h now. nothing_kept k low low s sound)
    statement_keeps (leaves {scope = scope} {low = low} {spot = spot} b) = place_kept k scope spot b.here low low [] (result k.calls (here_in k) spot None) (λ s sound h now. (nothing_kept k low low s sound, tt))
    statement_keeps (returns {scope = scope} {low = low} {spot = spot} {e = e} works is b) =
        place_kept k scope spot b.here low low [] (result k.calls (here_in k) spot (Some e))
        (λ s sound h now. value_kept k spot.at e works s sound now low low [] (λ v z. Returned (Some v) z) (λ v s2 sound2 since kind. (nothing_kept k low low s2 sound2, kind_is_of s2.memory (kind_of k.setting.program k.setting.tree e) k.setting.tree.result v is kind)))

    -- by statements in order,
    pub statements_keep : {w : Ways} {scope : List ℕ} {low : ℕ} {all : TypedStatementTrees} → FormedAll k w scope low all → KeepsOn k low (behind_all low all) (brought_by_body all) scope (execute_all k.calls (here_in k) all)
    statements_keep (none_left {scope = scope} {low = low}) = next_keeps low scope
    statements_keep (first_of {scope = scope} {low = low} {s = s} {rest = rest} f more) =
        first_kept k low (behind low s) (behind_all (behind low s) rest) (brought s) (brought_by_body rest) scope (execute k.calls (here_in k) s) (execute_all k.calls (here_in k) rest) (above f) (all_above more) (statement_keeps f) (statements_keep more)
    statements_keep (at_case rest) = statements_keep rest
    statements_keep (at_default rest) = statements_keep rest

    -- by those from the label of a number on,
    case_keeps : {w : Ways} {scope : List ℕ} {low : ℕ} {all : TypedStatementTrees} (z : ℤ) → ArePlain all → FormedAll k w scope low all → KeepsOn k low low [] scope (execute_case k.calls (here_in k) z all)
    case_keeps z plain (none_left {scope = scope} {low = low}) = next_keeps low scope
    case_keeps z plain (first_of {scope = scope} {low = low} {s = s} {rest = rest} f more) = plain_scoped s low scope (execute_case k.calls (here_in k) z rest) plain.0 (case_keeps z plain.1 more)
    case_keeps z plain (at_case {scope = scope} {low = low} {z = j} {rest = rest} more) = by (is_same_number z j) (plain_keep rest low scope (execute_all k.calls (here_in k) rest) plain (statements_keep more)) (case_keeps z plain more)
      where
        by : (same : Bool) → KeepsOn k low low [] scope (execute_all k.calls (here_in k) rest) → KeepsOn k low low [] scope (execute_case k.calls (here_in k) z rest)
            → KeepsOn k low low [] scope (λ s. by_label same (execute_all k.calls (here_in k) rest) (execute_case k.calls (here_in k) z rest) s)
        by true here later = here
        by false here later = later
    case_keeps z plain (at_default more) = case_keeps z plain more

    -- and by those from `default` on.
    default_keeps : {w : Ways} {scope : List ℕ} {low : ℕ} {all : TypedStatementTrees} → ArePlain all → FormedAll k w scope low all → KeepsOn k low low [] scope (execute_default k.calls (here_in k) all)
    default_keeps plain (none_left {scope = scope} {low = low}) = next_keeps low scope
    default_keeps plain (first_of {scope = scope} {low = low} {s = s} {rest = rest} f more) = plain_scoped s low scope (execute_default k.calls (here_in k) rest) plain.0 (default_keeps plain.1 more)
    default_keeps plain (at_case more) = default_keeps plain more
    default_keeps plain (at_default {scope = scope} {low = low} {rest = rest} more) = plain_keep rest low scope (execute_all k.calls (here_in k) rest) plain (statements_keep more)

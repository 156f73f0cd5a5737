use Rattle.std.proofs.Common.{◌≡◌, ◌≤◌, ◌<◌, ℕ, List, arith, subst, sym, true}
use Rattle.std.specs.Prelude.{AllPairs}
use Rattle.places.specs.Flow.{IsAssignmentBefore, can_go}
use Rattle.places.specs.declared.flow.Assignment.{Assignment}
use Rattle.places.specs.declared.flow.FlowStep.{FlowStep}
use Rattle.currency_writers.specs.Flow.{AreAssigning, AreFollowing, IsFlowOfPlaces}
use Rattle.currency_writers.proofs.search.Search.new.Goals as goal

pub after_of-requires : goal.after_of-requires
after_of-requires c = subst (λ (l : List FlowStep). (p q : ℕ) → can_go l p q ≡ true → p < c.args.places) (sym c.deref.ensures.value) c.requires.from

pub assigning_of-requires : goal.assigning_of-requires
assigning_of-requires c = subst (λ (l : List Assignment). AllPairs IsAssignmentBefore l) (sym c.deref-2.ensures.value) c.requires.ordered

pub returns-clause-search : goal.returns-clause-search
returns-clause-search c =
    (let assigns = c.in_ok-new.ensures.room in
    let starts = c.in_ok-starts.ensures.room in
    record {
      flow = record {
        after = subst (λ (l : List FlowStep). AreFollowing l c.in_ok-after.after) c.deref.ensures.value c.in_ok-after.ensures;
        assigning = subst (λ (l : List Assignment). AreAssigning l c.in_ok-assigning.assigning) c.deref-2.ensures.value c.in_ok-assigning.ensures.assigning;
        ordered = c.in_ok-assigning.ensures.ordered;
        places = subst (λ n. IsFlowOfPlaces c.args.table.now n) (sym assigns) c.requires;
      };
      room = omega (arith, assigns, starts);
    })

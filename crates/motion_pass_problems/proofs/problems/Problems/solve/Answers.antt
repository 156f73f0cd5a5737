use Rattle.std.proofs.Common.{ℕ, List, sym, subst}
use Rattle.motion_pass_problems.specs.declared.flow.Passage.{Passage}
use Rattle.motion_pass_problems.specs.Problems.{AreLeaving}
use Rattle.motion_pass_problems.proofs.Posed.{facts_told, starts_told}
use Rattle.motion_pass_problems.specs.MotionProblemsProblems.{TellPast, TellUnhadEnds, TellUnsafeStarts, TellUsed, blocks_of, reached_of}
use Rattle.motion_pass_problems.proofs.problems.Problems.solve.Goals as goal

starts_are : (c : goal.After-deref-7) → TellUnsafeStarts c.args.self.now c.in_ok-unsafe_starts.unsafe_starts.items
starts_are c =
    let s = c.args.self.now in
    let passages = c.in_ok-open.open.items in
    let ends = c.in_ok-unsafe_ends.unsafe_ends.items in
    let starts = c.in_ok-unsafe_starts.unsafe_starts.items in
    starts_told (blocks_of s) (reached_of s) s.locals.now passages ends starts c.in_ok-open.ensures c.in_ok-unsafe_ends.ensures
    (subst (λ (ps : List Passage). AreLeaving ps ends starts) c.deref-2.ensures.value (subst (λ (xs : List ℕ). AreLeaving c.deref-2.result.now xs starts) c.deref-3.ensures.value c.in_ok-unsafe_starts.ensures.each))

pub past-requires-clause-starts : goal.past-requires-clause-starts
past-requires-clause-starts c = subst (λ (xs : List ℕ). TellUnsafeStarts c.args.self.now xs) (sym c.deref-6.ensures.value) (starts_are c)

pub past-requires-clause-had : goal.past-requires-clause-had
past-requires-clause-had c = subst (λ (xs : List ℕ). TellUnhadEnds c.args.self.now xs) (sym c.deref-7.ensures.value) c.in_ok-unhad_ends.ensures

pub returns : goal.returns
returns c =
    let s = c.args.self.now in
    let ends = c.in_ok-unsafe_ends.unsafe_ends.items in
    let starts = c.in_ok-unsafe_starts.unsafe_starts.items in
    let unhad = c.in_ok-unhad_ends.unhad_ends.items in
    let past_starts = c.in_ok-past.past.starts.items in
    let past_ends = c.in_ok-past.past.ends.items in
    let passages = c.in_ok-open.open.items in
    let used_starts = c.in_ok-used.used.starts.items in
    let used_ends = c.in_ok-used.used.ends.items in
    let starts_are : TellUnsafeStarts s starts = starts_told (blocks_of s) (reached_of s) s.locals.now passages ends starts c.in_ok-open.ensures c.in_ok-unsafe_ends.ensures
    (subst (λ (ps : List Passage). AreLeaving ps ends starts) c.deref-2.ensures.value (subst (λ (xs : List ℕ). AreLeaving c.deref-2.result.now xs starts) c.deref-3.ensures.value c.in_ok-unsafe_starts.ensures.each)) in
    let past_are : TellPast s starts unhad past_starts past_ends = subst (λ (xs : List ℕ). TellPast s xs unhad past_starts past_ends) c.deref-6.ensures.value
    (subst (λ (xs : List ℕ). TellPast s c.deref-6.result.now xs past_starts past_ends) c.deref-7.ensures.value c.in_ok-past.ensures) in
    let used_are : TellUsed s past_starts past_ends used_starts used_ends = subst (λ (xs : List ℕ). TellUsed s xs past_ends used_starts used_ends) c.deref-8.ensures.value
    (subst (λ (xs : List ℕ). TellUsed s c.deref-8.result.now xs used_starts used_ends) c.deref-9.ensures.value c.in_ok-used.ensures) in
    facts_told (blocks_of s) (reached_of s) s.locals.now ends starts unhad past_starts past_ends used_starts used_ends c.in_ok-unsafe_ends.ensures starts_are c.in_ok-unhad_ends.ensures past_are used_are

use Rattle.std.proofs.Common.{◌≡◌, ◌∙◌, ℕ, ◌+◌, ◌<◌, List, [], ◌∷◌, ◌++◌, get_or, length, take, sym, ap, subst, arith}
use Rattle.std.specs.Prelude.{slice_index}
use Rattle.std.proofs.lemmas.List.{take_all}
use Rattle.std.proofs.lemmas.List.Sorted.{IsNonDecreasingBy-from_sort}
use Rattle.image_form_sections.specs.Layouts.{rows_in, sections_in}
use Rattle.image_form_sections.specs.TestsOfChanges.{is_taking, pair_key}
use Rattle.image_form_sections.proofs.PairKeys.{AreTaken, taken_more, taken_same, taken_sorted}
use Rattle.image_form_sections.proofs.quiet_rules.taken_places.Goals as goal
use Rattle.image_form_sections.proofs.quiet_rules.taken_places.Goals.{then-is_taking+in_ok-push, else-is_taking}

pub loop-row-preserved : goal.loop-row-preserved
loop-row-preserved c =
    let changes = rows_in c.args.layout.now.changes in
    let row = c.loop-row.row in
    let before = c.loop-row.keys.items in
    let there : row < length changes = omega (arith, c.loop-row-test.true, c.len-row-end.ensures.len) in
    let kind : c.is_taking.result ≡ is_taking (slice_index (get_or changes row []) 1) = c.is_taking.ensures ∙ ap is_taking c.number.ensures in
    elim c.if-is_taking.branch [
      | then-is_taking+in_ok-push w ↦
          let key : w.pair_key.result ≡ pair_key (slice_index (get_or changes row []) 2) (slice_index (get_or changes row []) 3) =
          w.pair_key.ensures ∙ (λ i. pair_key (w.number-then-is_taking.ensures i) (w.number-then-is_taking-2.ensures i)) in
          let items : c.if-is_taking.keys.items ≡ before ++ pair_key (slice_index (get_or changes row []) 2) (slice_index (get_or changes row []) 3) ∷ [] =
          ap (λ keys. keys.items) w.keys-is ∙ w.in_ok-push.ensures.items ∙ ap (λ (k : ℕ). before ++ k ∷ []) key in
          let small : slice_index (get_or changes row []) 3 < 4294967296 = omega (arith, w.number-then-is_taking-2.type_inv, w.number-then-is_taking-2.ensures) in
          subst (λ (keys : List ℕ). AreTaken keys (take (row + 1) changes)) (sym items) (taken_more before changes row there small (sym kind ∙ w.if-is_taking.true) c.loop-row.invariant)
      | else-is_taking w ↦
          let items : c.if-is_taking.keys.items ≡ before = ap (λ keys. keys.items) w.keys-is in
          subst (λ (keys : List ℕ). AreTaken keys (take (row + 1) changes)) (sym items) (taken_same before changes row there (sym kind ∙ w.if-is_taking.false) c.loop-row.invariant)
    ]

pub returns : goal.returns
returns c =
    let changes = rows_in c.args.layout.now.changes in
    let keys = c.loop-row.keys.items in
    let sorted = c.sort_unstable.new.self.items in
    let all : take c.loop-row.row changes ≡ changes = take_all c.loop-row.row changes (omega (arith, c.loop-row-test.false, c.len-row-end.ensures.len)) in
    taken_sorted keys sorted (sections_in c.args.layout.now) (subst (λ (rows : List (List ℕ)). AreTaken keys rows) all c.loop-row.invariant) c.sort_unstable.ensures.permutation
    (IsNonDecreasingBy-from_sort (λ (x : ℕ). x) sorted c.sort_unstable.ensures.sorted)

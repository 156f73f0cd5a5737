use Rattle.std.proofs.Common.{◌≡◌, ◌∙◌, ℕ, ◌+◌, ◌<◌, not, List, [], ◌∷◌, ◌++◌, get_or, length, take, sym, ap, subst, nat_cmp, arith}
use Rattle.std.specs.Prelude.{slice_index}
use Rattle.std.specs.List.Sorted.{IsBinarySearchResult}
use Rattle.std.proofs.lemmas.List.{take_all}
use Rattle.std.proofs.lemmas.List.Sorted.{IsNonDecreasingBy-from_sort}
use Rattle.image_form_sections.specs.Layouts.{rows_in, sections_in}
use Rattle.image_form_sections.specs.TestsOfChanges.{is_taken_from, pair_key}
use Rattle.image_form_sections.proofs.PairKeys.{AreQuiet, quiet_more, quiet_same, quiet_sorted, taken_found}
use Rattle.image_form_sections.proofs.quiet_rules.quiet_places.Goals as goal
use Rattle.image_form_sections.proofs.quiet_rules.quiet_places.Goals.{then-is_err+in_ok-push, else-is_err}

pub loop-row-preserved : goal.loop-row-preserved
loop-row-preserved c =
    let s = sections_in c.args.layout.now in
    let pairs = rows_in c.args.layout.now.assigned in
    let row = c.loop-row.row in
    let before = c.loop-row.keys.items in
    let place = slice_index (get_or pairs row []) 0 in
    let variable = slice_index (get_or pairs row []) 1 in
    let taken = c.in_ok-taken.taken.items in
    let r = c.binary_search.result in
    let there : row < length pairs = omega (arith, c.loop-row-test.true, c.len-row-end.ensures.len) in
    let small : variable < 4294967296 = omega (arith, c.number-in-loop-row.type_inv, c.number-in-loop-row.ensures) in
    let key : c.pair_key-key.result ≡ pair_key place variable = c.pair_key-key.ensures ∙ (λ i. pair_key (c.number.ensures i) (c.number-in-loop-row.ensures i)) in
    let searched : IsBinarySearchResult (λ y. nat_cmp y (pair_key place variable)) taken r =
    subst (λ (k : ℕ). IsBinarySearchResult (λ y. nat_cmp y k) taken r) key
    (subst (λ (keys : List ℕ). IsBinarySearchResult (λ y. nat_cmp y c.pair_key-key.result) keys r) c.deref.ensures.value c.binary_search.ensures.position) in
    let told : is_taken_from s place variable ≡ not c.is_err.result = sym (taken_found taken s place variable r small c.in_ok-taken.ensures searched) ∙ c.is_err.ensures.negation in
    elim c.if-is_err.branch [
      | then-is_err+in_ok-push w ↦
          let items : c.if-is_err.keys.items ≡ before ++ pair_key place variable ∷ [] =
          ap (λ keys. keys.items) w.keys-is ∙ w.in_ok-push.ensures.items ∙ ap (λ (k : ℕ). before ++ k ∷ []) key in
          subst (λ (keys : List ℕ). AreQuiet s keys (take (row + 1) pairs)) (sym items) (quiet_more s before pairs row there small (told ∙ ap not w.if-is_err.true) c.loop-row.invariant)
      | else-is_err w ↦
          let items : c.if-is_err.keys.items ≡ before = ap (λ keys. keys.items) w.keys-is in
          subst (λ (keys : List ℕ). AreQuiet s keys (take (row + 1) pairs)) (sym items) (quiet_same s before pairs row there (told ∙ ap not w.if-is_err.false) c.loop-row.invariant)
    ]

pub returns : goal.returns
returns c =
    let pairs = rows_in c.args.layout.now.assigned in
    let s = sections_in c.args.layout.now in
    let keys = c.loop-row.keys.items in
    let sorted = c.sort_unstable.new.self.items in
    let all : take c.loop-row.row pairs ≡ pairs = take_all c.loop-row.row pairs (omega (arith, c.loop-row-test.false, c.len-row-end.ensures.len)) in
    quiet_sorted keys sorted s (subst (λ (rows : List (List ℕ)). AreQuiet s keys rows) all c.loop-row.invariant) c.sort_unstable.ensures.permutation
    (IsNonDecreasingBy-from_sort (λ (x : ℕ). x) sorted c.sort_unstable.ensures.sorted)

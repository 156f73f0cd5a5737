-- What is told at the points of a block is just what is stale there.
use Rattle.std.proofs.Common.{◌≡◌, ℕ, ◌<◌, Bool, true, Some, List, [], ◌++◌, length, take, refl, sym, ap, ◌∙◌, subst, arith}
use Rattle.std.specs.Prelude.{◌↔◌, slice_get}
use Rattle.std.proofs.lemmas.List.{length-append, take_at}
use Rattle.std.proofs.lemmas.Option.{same_Some, slice_get_within}
use Rattle.places.specs.declared.flow.Assignment.{Assignment}
use Rattle.graph_core.specs.Graphs.{Instruction, Block, Graph}
use Rattle.graph_paths.specs.Reached.{AreLed}
use Rattle.graph_paths.proofs.Points.{point_reached}
use Rattle.dead_pass_rule.specs.Certified.{AreIdle}
use Rattle.dead_pass_notes.specs.Stale.{ComesStale}
use Rattle.dead_pass_notes.specs.Rows.{stale_behind, IsStaleAt, AreAll}
use Rattle.dead_pass_notes.proofs.Points.{told_so, path_told}

-- what stands before the same rest is the same
same_before : {A : Type 0} (xs ys rest : List A) → xs ++ rest ≡ ys ++ rest → xs ≡ ys
same_before xs ys rest e =
    let one = length-append xs rest in
    let two = length-append ys rest in
    let whole = ap (λ l. length l) e in
    let count : length xs ≡ length ys = omega (arith, one, two, whole) in
    sym (take_at xs rest (length xs) refl) ∙ ap (take (length xs)) e ∙ take_at ys rest (length xs) (sym count)

module _ {assignments : List Assignment} (g : Graph) (going : (block left : ℕ) → Bool) (are : AreIdle assignments g going) (led : ℕ → Bool) (leads : AreLed g.blocks led) (names : ℕ) (told : (n x : ℕ) → Bool) (all : AreAll g going led names told)
    (so : (n x : ℕ) → n < length g.blocks → x < names → told n x ≡ true → IsStaleAt assignments g x n) where
  pub told_exactly : (x n : ℕ) (b : Block) (before rest : List Instruction) → x < names → slice_get g.blocks n ≡ Some b → led n ≡ true → b.instructions ≡ before ++ rest
      → (stale_behind (going n) x (told n x) before (length rest) ≡ true) ↔ ComesStale assignments g x n rest b.end
  told_exactly x n b before rest named at way parts = (
    (λ e. told_so g going are x n b at [] before rest (told n x) parts (point_reached g led leads n b [] (before ++ rest) at parts way)
        (λ is. subst (λ l. ComesStale assignments g x n l b.end) parts (so n x (slice_get_within g.blocks n b at) named is b at)) e),
    (λ s.
        (let there = path_told g going are led leads names told all x named s.path in
        let same : there.block ≡ b = same_Some there.block b (sym there.is ∙ at) in
        let split : there.before ++ rest ≡ before ++ rest = sym there.instructions ∙ ap (λ (c : Block). c.instructions) same ∙ parts in
        ap (λ l. stale_behind (going n) x (told n x) l (length rest)) (sym (same_before there.before before rest split)) ∙ there.tells s.stale)),
  )

-- The nodes of rows are those that their recipes need.
use Rattle.std.proofs.Common.{◌≡◌, ◌<◌, ◌≤◌, ◌+◌, ◌⊎◌, ◌^◌, inl, inr, ℕ, List, [], ◌∷◌, Option, Some, None, length, slice_get, refl, subst, sym, ap, ◌∙◌, arith}
use Rattle.std.proofs.lemmas.Option.{none-some}
use Rattle.graph_core.specs.declared.recipe.Recipe as declared-recipe
use Rattle.graph_core.specs.Graphs.{recipe_view}
use Rattle.graph_core.specs.Paths.{Among, front, behind}
use Rattle.graph_core.specs.Validity.{total}
use Rattle.currency.specs.declared.verdict.Verdict as told-verdict
use Rattle.currency.specs.declared.verdict.Verdict.TheVariants as told
use Rattle.currency.specs.declared.verdict.PlaceVerdict.{PlaceVerdict}
use Rattle.image_form.specs.declared.recipes.Node.{Node}
use Rattle.image_build_tables.specs.Nodes.{AreEarlier, AreOnce, Begin, Naming}
use Rattle.image_build_tables.specs.Rows.{AreNewBy, AreNewIn, AreNodesOf, IsNodeToldBy, Telling, naming_at, size_told}
use Rattle.image_build_tables.proofs.Ahead.{behind_first}
use Rattle.image_build_tables.proofs.Belonging.{below_or}
use Rattle.image_build_tables.proofs.Growing.{begin_fewer, node_kept}

-- what is ahead of a list behind its first element is ahead of it
pub among_behind : (ahead : List PlaceVerdict) (w : PlaceVerdict) (all : List PlaceVerdict) → w ∷ behind_first ahead ≡ ahead → ((x : PlaceVerdict) → Among x ahead → Among x all) → (x : PlaceVerdict) → Among x (behind_first ahead) → Among x all
among_behind ahead w all whole known x is = known x (subst (Among x) whole (behind is))

module _ (t : Telling) (nodes grown : List Node) (w : PlaceVerdict) (all : List PlaceVerdict) (among : Among w all) (k : ℕ) (after : length nodes ≤ k) (within : k < length grown) where
  by_naming : (r : declared-recipe.Recipe) (change : ℕ) → w.verdict ≡ told.Recovered r change → (o : Option Naming) → naming_at t w.place.0 ≡ o → AreNewIn nodes grown o (recipe_view r) → IsNodeToldBy t grown all k
  by_naming r change is None none new = absurd (omega (arith, new, after, within))
  by_naming r change is (Some n) some new =
      let found = new k after within in
      record { row = w; recipe = r; change = change; part = found.0; naming = n; among = among; verdict = is; naming_is = some; of = found.1; node = found.2 }

  by_verdict : (v : told-verdict.Verdict) → w.verdict ≡ v → AreNewBy t nodes grown w.place.0 v → IsNodeToldBy t grown all k
  by_verdict told.Home is new = absurd (omega (arith, new, after, within))
  by_verdict (told.Recovered r change) is new = by_naming r change is (naming_at t w.place.0) refl new
  by_verdict (told.Noncurrent change start writer q) is new = absurd (omega (arith, new, after, within))
  by_verdict (told.Nonresident change start writer q) is new = absurd (omega (arith, new, after, within))

-- so it is when the nodes of a verdict come to them
pub nodes_step : (t : Telling) (nodes grown : List Node) (ahead : List PlaceVerdict) (w : PlaceVerdict) (all : List PlaceVerdict) → w ∷ behind_first ahead ≡ ahead → Begin nodes grown → ((x : PlaceVerdict) → Among x ahead → Among x all)
    → (length grown < 2 ^ 32 → AreNewBy t nodes grown w.place.0 w.verdict) → (length nodes < 2 ^ 32 → AreNodesOf t nodes all) → length grown < 2 ^ 32 → AreNodesOf t grown all
nodes_step t nodes grown ahead w all whole begin known new told few k within = by (below_or k (length nodes))
  where
    by : (k < length nodes) ⊎ (length nodes ≤ k) → IsNodeToldBy t grown all k
    by (inl before) =
        let was = told (omega (arith, few, begin_fewer nodes grown begin)) k before in
        record { row = was.row; recipe = was.recipe; change = was.change; part = was.part; naming = was.naming; among = was.among; verdict = was.verdict; naming_is = was.naming_is; of = was.of; node = node_kept nodes grown was.naming was.part k begin was.node }
    by (inr after) = by_verdict t nodes grown w all (known w (subst (Among w) whole front)) k after within w.verdict refl (new few)

-- ---- How many there are, and in which order

-- so many nodes are asked for at most
abbrev pub all_told : List PlaceVerdict → ℕ
all_told all = total (λ (w : PlaceVerdict). size_told w.verdict) all

-- with those that are still to be told of they are no more than are asked for
pub few_step : (nodes grown : List Node) (ahead : List PlaceVerdict) (w : PlaceVerdict) (all : List PlaceVerdict) → w ∷ behind_first ahead ≡ ahead → length grown ≤ length nodes + size_told w.verdict → length nodes + all_told ahead ≤ all_told all
    → length grown + all_told (behind_first ahead) ≤ all_told all
few_step nodes grown ahead w all whole more few = let same : size_told w.verdict + all_told (behind_first ahead) ≡ all_told ahead = ap all_told whole in omega (arith, same, more, few)

-- none are more
pub few_begin : (nodes : List Node) (all : List PlaceVerdict) → nodes ≡ [] → length nodes + all_told all ≤ all_told all
few_begin nodes all none = let no = ap length none in omega (arith, no)

pub few_end : (nodes : List Node) (ahead all : List PlaceVerdict) → length nodes + all_told ahead ≤ all_told all → length nodes ≤ all_told all
few_end nodes ahead all few = omega (arith, few)

-- no two of none are alike, and each stands behind its operands
pub none_once : (nodes : List Node) → nodes ≡ [] → AreOnce nodes
none_once nodes none i j x y one other same = absurd (none-some x (ap (λ (l : List Node). slice_get l i) (sym none) ∙ one))

pub none_earlier : (nodes : List Node) → nodes ≡ [] → AreEarlier nodes
none_earlier nodes none k n is = absurd (none-some n (ap (λ (l : List Node). slice_get l k) (sym none) ∙ is))

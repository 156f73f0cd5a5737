-- The blocks of labels, one after the other.
use Rattle.std.proofs.Common.{◌≡◌, ℕ, ◌+◌, ◌<◌, List, get_or, length, map, take, arith, sym}
use Rattle.std.proofs.lemmas.List.{get_or-map, length-map}
use Rattle.graph_core.specs.Paths.{Among}
use Rattle.graph_core.specs.declared.name.Label.{Label}
use Rattle.currency_notes.proofs.Lists.{each_more, get_among}

-- the numbers of labels
abbrev pub label_numbers : List Label → List ℕ
label_numbers labels = map (λ (label : Label). label.0) labels

module _ (labels : List Label) (i : ℕ) (d : Label) (lt : i < length labels) where
  next_within : i < length (label_numbers labels)
  next_within = let long = length-map labels (λ (label : Label). label.0) in omega (arith, lt, long)

  next_is : (get_or labels i d).0 ≡ get_or (label_numbers labels) i (get_or labels i d).0
  next_is = sym (get_or-map (λ (label : Label). label.0) labels i d (get_or labels i d).0 lt)

  -- the next one is among them
  pub next_label : Among (get_or labels i d).0 (label_numbers labels)
  next_label = get_among (label_numbers labels) i (get_or labels i d).0 next_within next_is

-- what is so of the blocks of the labels before one and of that is so as far as that
pub each_label : (P : ℕ → Type 0) (labels : List Label) (i : ℕ) (d : Label) → i < length labels → ((l : ℕ) → Among l (take i (label_numbers labels)) → P l) → P (get_or labels i d).0 → (l : ℕ) → Among l (take (i + 1) (label_numbers labels)) → P l
each_label P labels i d lt = each_more P (label_numbers labels) i (get_or labels i d).0 (next_within labels i d lt) (next_is labels i d lt)

-- Nodes of which each stands once, behind its operands, and whose numbers a map tells.
use Rattle.std.proofs.Common.{◌≡◌, ◌<◌, ◌≤◌, ◌+◌, ◌^◌, ◌⊎◌, inl, inr, ℕ, zero, suc, Bool, true, false, cond, List, [], ◌∷◌, ◌++◌, Option, Some, None, length, length-append, slice_get, get_or, refl, subst, sym, ap, ◌∙◌, arith}
use Rattle.std.specs.Prelude.{OnOk, Result, Ok, Err, if◌then◌else◌}
use Rattle.std.specs.BTreeMap as tree
use Rattle.std.specs.BTreeMap.{BTreeMap}
use Rattle.std.specs.List.{AllByRecursion}
use Rattle.std.specs.Ordering.{is_eq}
use Rattle.std.proofs.lemmas.Option.{none-some, same_Some, slice_get_read, slice_get_within}
use Rattle.std.specs.Option.{option_map_or}
use Rattle.graph_core.specs.Graphs.{Operand, Name, Constant, StaticAddress, Recipe, Of, Truncated, Operated, Scalar}
use Rattle.graph_homes.specs.declared.home.Home.{Home}
use Rattle.graph_homes.specs.declared.home.Home.TheVariants.{Register, Slot}
use Rattle.image_form.specs.Decoding.{node_of}
use Rattle.image_form.specs.Numbers.{node_numbers}
use Rattle.image_form.specs.RulesOfNodes.{operands}
use Rattle.image_form.specs.declared.recipes.Node.{Node}
use Rattle.image_form.specs.declared.recipes.Node.TheVariants as node
use Rattle.image_form.proofs.RecordsBack.{node_back}
use Rattle.image_form_sections.specs.Layouts.{node_cmp}
use Rattle.image_form_sections.proofs.FirstAt.{same_three, three_alike, three_same, three_self}
use Rattle.image_build_tables.specs.Nodes.{AreEarlier, AreOnce, Begin, IsNodeOf, Naming, TellsNumbers, home_node, key, operand_node}
use Rattle.image_build_tables.specs.Variables.{bounded_count as counted}
use Rattle.image_build_tables.proofs.Growing.{begin_fewer}

-- ---- What a node is tells it

numbers_by : (n : Node) → node_numbers n ≡ (key n).0 ∷ (key n).1 ∷ (key n).2 ∷ []
numbers_by (node.Constant value) = refl
numbers_by (node.Variable variable) = refl
numbers_by (node.Home home) = refl
numbers_by (node.Truncated truncation operand) = refl
numbers_by (node.Operated operation left right) = refl

from_key : ℕ × ℕ × ℕ → Node
from_key k = node_of (k.0 ∷ k.1 ∷ k.2 ∷ [])

key_back : (n : Node) → from_key (key n) ≡ n
unfolding from_key
key_back n = ap node_of (sym (numbers_by n)) ∙ node_back n

key_tells : (x y : Node) → key x ≡ key y → x ≡ y
key_tells x y e = sym (key_back x) ∙ ap from_key e ∙ key_back y

-- ---- One more node

-- an element of a list with one more is one of the list or that one
of_longer : (nodes : List Node) (n m : Node) (k : ℕ) → slice_get (nodes ++ n ∷ []) k ≡ Some m → (slice_get nodes k ≡ Some m) ⊎ ((k ≡ length nodes) × (n ≡ m))
of_longer [] n m zero is = inr (refl, same_Some n m is)
of_longer [] n m (suc k) is = absurd (none-some m is)
of_longer (x ∷ nodes) n m zero is = inl is
of_longer (x ∷ nodes) n m (suc k) is = elim (of_longer nodes n m k is) [ inl there ↦ inl there | inr last ↦ inr (ap suc last.0, last.1) ]

length_longer : (nodes : List Node) (n : Node) → length (nodes ++ n ∷ []) ≡ length nodes + 1
length_longer nodes n = length-append nodes (n ∷ [])

-- no node is this one
abbrev IsNew : List Node → Node → Type 0
IsNew nodes n = (k : ℕ) → slice_get nodes k ≡ Some n → ⊥

-- a map tells a number of one more key
abbrev TellsOne : BTreeMap (ℕ × ℕ × ℕ) ℕ → BTreeMap (ℕ × ℕ × ℕ) ℕ → Node → ℕ → Type 0
TellsOne numbers longer n number = (q : ℕ × ℕ × ℕ) → tree.get node_cmp longer q ≡ cond (is_eq (node_cmp (key n) q)) (Some number) (tree.get node_cmp numbers q)

module _ (numbers longer : BTreeMap (ℕ × ℕ × ℕ) ℕ) (nodes : List Node) (n : Node) (number : ℕ) (told : TellsNumbers numbers nodes) (new : length nodes < 2 ^ 32 → IsNew nodes n) (one : TellsOne numbers longer n number) where
  -- the others stay told,
  pub told_kept : TellsNumbers longer nodes
  told_kept few k m is =
      one (key m) ∙ ap (λ (b : Bool). cond b (Some number) (tree.get node_cmp numbers (key m))) (same_three (key n) (key m)) ∙ by (three_same (key n) (key m)) refl
    where
      by : (b : Bool) → three_same (key n) (key m) ≡ b → cond b (Some number) (tree.get node_cmp numbers (key m)) ≡ Some k
      by true same = absurd (new few k (is ∙ ap Some (key_tells m n (sym (three_alike (key n) (key m) same)))))
      by false other = told few k m is

  -- and it is told where it is put behind them
  pub told_more : (length nodes < 4294967295 → number ≡ length nodes) → TellsNumbers longer (nodes ++ n ∷ [])
  told_more counted few k m is = elim (of_longer nodes n m k is) [
    | inl there ↦ told_kept (omega (arith, few, length_longer nodes n)) k m there
    | inr last ↦
        one (key m) ∙ ap (λ (b : Bool). cond b (Some number) (tree.get node_cmp numbers (key m))) (same_three (key n) (key m) ∙ ap (λ (x : Node). three_same (key n) (key x)) (sym last.1) ∙ three_self (key n))
        ∙ ap Some (counted (omega (arith, few, length_longer nodes n)) ∙ sym last.0)
  ]

-- ---- What is found

-- What stands at an index of a list that is read stands there.
pub read_at : (read nodes : List Node) (k : ℕ) (n : Node) → read ≡ nodes → k < length read → n ≡ get_or read k n → slice_get nodes k ≡ Some n
read_at read nodes k n same within is = ap (λ (l : List Node). slice_get l k) (sym same) ∙ slice_get_read read (length read) k n refl within is

-- The number of a node is found by what the node is.
pub told_at : (numbers : BTreeMap (ℕ × ℕ × ℕ) ℕ) (nodes : List Node) (n : Node) (sought : ℕ × ℕ × ℕ) (found : Option ℕ) → TellsNumbers numbers nodes → sought ≡ key n → found ≡ tree.get node_cmp numbers sought
    → length nodes < 2 ^ 32 → (k : ℕ) → slice_get nodes k ≡ Some n → found ≡ Some k
told_at numbers nodes n sought found told is there few k at = there ∙ ap (tree.get node_cmp numbers) is ∙ told few k n at

-- ---- What is put behind

module _ (nodes all : List Node) (n : Node) (put : all ≡ nodes ++ n ∷ []) where
  long : length all ≡ length nodes + 1
  long = ap (λ (l : List Node). length l) put ∙ length_longer nodes n

  last_is : slice_get all (length nodes) ≡ Some n
  last_is = ap (λ (l : List Node). slice_get l (length nodes)) put ∙ last nodes
    where
      last : (xs : List Node) → slice_get (xs ++ n ∷ []) (length xs) ≡ Some n
      last [] = refl
      last (x ∷ xs) = last xs

  pub fresh_more : (k : ℕ) → length nodes ≤ k → k < length all → slice_get all k ≡ Some n
  fresh_more k behind within = (let here : length nodes ≡ k = omega (arith, behind, within, long) in ap (slice_get all) (sym here) ∙ last_is)

  pub node_more : (number : ℕ) → (length nodes < 4294967295 → number ≡ length nodes) → length all < 4294967296 → slice_get all number ≡ Some n
  node_more number counted few = ap (slice_get all) (counted (omega (arith, few, long))) ∙ last_is

-- a map that tells of one more tells of the nodes, and of that one where it is put behind them
pub told_put : (numbers longer : BTreeMap (ℕ × ℕ × ℕ) ℕ) (nodes : List Node) (n : Node) (number : ℕ) (told : TellsNumbers numbers nodes) (new : length nodes < 2 ^ 32 → IsNew nodes n) (one : TellsOne numbers longer n number)
    → (length nodes < 4294967295 → number ≡ length nodes) → (all : List Node) (done : Bool) → all ≡ (if done then nodes ++ n ∷ [] else nodes) → TellsNumbers longer all
told_put numbers longer nodes n number told new one counted all true put = subst (TellsNumbers longer) (sym put) (told_more numbers longer nodes n number told new one counted)
told_put numbers longer nodes n number told new one counted all false kept = subst (TellsNumbers longer) (sym kept) (told_kept numbers longer nodes n number told new one)

-- a count below the greatest is told as it is
pub counted_is : (number many : ℕ) (nodes : List Node) → number ≡ counted many → many ≡ length nodes → length nodes < 4294967295 → number ≡ length nodes
counted_is number many nodes is same few = omega (arith, is, same, few)

-- a node that is put behind others that are not it stands once
pub once_more : (nodes : List Node) (n : Node) → IsNew nodes n → AreOnce nodes → AreOnce (nodes ++ n ∷ [])
once_more nodes n new once i j x y one other same = elim (of_longer nodes n x i one) [
  | inl first ↦ elim (of_longer nodes n y j other) [
    | inl second ↦ once i j x y first second same
    | inr last ↦ absurd (new i (first ∙ ap Some (same ∙ sym last.1)))
  ]
  | inr end ↦ elim (of_longer nodes n y j other) [
    | inl second ↦ absurd (new j (second ∙ ap Some (sym same ∙ sym end.1)))
    | inr last ↦ end.0 ∙ sym last.0
  ]
]

-- behind its operands it stands behind them
pub earlier_more : (nodes : List Node) (n : Node) → AllByRecursion (λ j. j < length nodes) (operands n) → AreEarlier nodes → AreEarlier (nodes ++ n ∷ [])
earlier_more nodes n own earlier k m is = elim (of_longer nodes n m k is) [
  | inl there ↦ earlier k m there
  | inr last ↦ subst (λ (x : Node). AllByRecursion (λ j. j < k) (operands x)) last.1 (subst (λ l. AllByRecursion (λ j. j < l) (operands n)) (sym last.0) own)
]

-- ---- Nodes of recipes

-- the node of a recipe is there
pub node_there : (nodes : List Node) (n : Naming) (r : Recipe) (k : ℕ) → IsNodeOf nodes n r k → k < length nodes
node_there nodes n (Of a) k is = slice_get_within nodes k _ is
node_there nodes n (Truncated t r) k (j, is, of) = slice_get_within nodes k _ is
node_there nodes n (Operated o r s) k (i, j, is, one, other) = slice_get_within nodes k _ is

-- one node more
pub few_through : {E : Type 0} (all some most : ℕ) (result : Result ℕ E) → OnOk result (all ≤ some + 1) → some + 1 ≤ most → OnOk result (all ≤ most)
few_through all some most (Err e) one few = tt
few_through all some most (Ok k) one few = omega (arith, one, few)

-- what nodes keep and then keep again they keep
pub through : {E : Type 0} (P : List Node → Type 0) (old some all : List Node) (result : Result ℕ E) → OnOk result (Begin some all) → (length some < 2 ^ 32 → P old → P some) → OnOk result (P some → P all) → length all < 2 ^ 32 → OnOk result (P old → P all)
through P old some all (Err e) grown one other few = tt
through P old some all (Ok k) grown one other few = λ p. other (one (omega (arith, few, begin_fewer some all grown)) p)

pub twice : (P : List Node → Type 0) (old first some : List Node) → Begin first some → (length first < 2 ^ 32 → P old → P first) → (length some < 2 ^ 32 → P first → P some) → length some < 2 ^ 32 → P old → P some
twice P old first some begin one other few p = other few (one (omega (arith, few, begin_fewer first some begin)) p)

-- an operand has no operands itself
pub leaf : (n : Naming) (a : Operand) → operands (operand_node n a) ≡ []
leaf n (Constant w) = refl
leaf n (StaticAddress o k) = refl
leaf n (Name x) = by_scalar (slice_get n.graph.scalars x)
  where
    of_home : (h : Home) → operands (home_node n.slots h) ≡ []
    of_home (Register r) = refl
    of_home (Slot k) = refl

    by_home : (o : Option Home) → operands (option_map_or (home_node n.slots) o (node.Home 0)) ≡ []
    by_home None = refl
    by_home (Some h) = of_home h

    by_scalar : (o : Option Scalar) → operands (option_map_or (λ (s : Scalar). node.Variable s.variable) o (option_map_or (home_node n.slots) (slice_get n.homes x) (node.Home 0))) ≡ []
    by_scalar None = by_home (slice_get n.homes x)
    by_scalar (Some s) = refl

pub leaf_through : {E : Type 0} (old all : List Node) (result : Result ℕ E) (n : Naming) (a : Operand) (made : Node) → made ≡ operand_node n a → (AllByRecursion (λ k. k < length old) (operands made) → OnOk result (AreEarlier old → AreEarlier all)) → OnOk result (AreEarlier old → AreEarlier all)
leaf_through old all result n a made is added = added (subst (λ (m : Node). AllByRecursion (λ k. k < length old) (operands m)) (sym is) (subst (AllByRecursion (λ k. k < length old)) (sym (leaf n a)) tt))

-- a node of which the operand is there
pub below_through : {E : Type 0} (old some all : List Node) (result : Result ℕ E) (n : Naming) (r : Recipe) (j : ℕ) → OnOk result (Begin some all) → (length some < 2 ^ 32 → AreEarlier old → AreEarlier some) → (length some < 2 ^ 32 → IsNodeOf some n r j)
    → (j < length some → OnOk result (AreEarlier some → AreEarlier all)) → length all < 2 ^ 32 → OnOk result (AreEarlier old → AreEarlier all)
below_through old some all (Err e) n r j grown one of other few = tt
below_through old some all (Ok k) n r j grown one of other few =
    let low : length some < 2 ^ 32 = omega (arith, few, begin_fewer some all grown) in
    λ p. other (node_there some n r j (of low)) (one low p)

-- and one of which both are
pub both_through : {E : Type 0} (old first some all : List Node) (result : Result ℕ E) (n : Naming) (r s : Recipe) (i j : ℕ) → Begin first some → OnOk result (Begin some all) → (length first < 2 ^ 32 → AreEarlier old → AreEarlier first) → (length some < 2 ^ 32 → AreEarlier first → AreEarlier some)
    → (length first < 2 ^ 32 → IsNodeOf first n r i) → (length some < 2 ^ 32 → IsNodeOf some n s j) → (i < length some → j < length some → OnOk result (AreEarlier some → AreEarlier all)) → length all < 2 ^ 32 → OnOk result (AreEarlier old → AreEarlier all)
both_through old first some all (Err e) n r s i j begin grown one other left right last few = tt
both_through old first some all (Ok k) n r s i j begin grown one other left right last few =
    let low : length some < 2 ^ 32 = omega (arith, few, begin_fewer some all grown) in
    let least : length first < 2 ^ 32 = omega (arith, low, begin_fewer first some begin) in
    let left_low = node_there first n r i (left least) in
    let fewer = begin_fewer first some begin in
    λ p. last (omega (arith, left_low, fewer)) (node_there some n s j (right low)) (other low (one least p))

-- The names that a flood against execution brings are those that are asked for.
use Rattle.std.proofs.Common.{◌≡◌, ℕ, zero, suc, arith, ◌<◌, ◌||◌, ◌&&◌, Bool, true, false, true≢false, inl, inr, Option, Some, None, List, [], ◌∷◌, length, refl, sym, ap, ◌∙◌, subst}
use Rattle.std.specs.Prelude.{◌==◌, not, slice_get}
use Rattle.std.specs.List.{list_any}
use Rattle.std.proofs.lemmas.Bool.{or_cases, or_left, or_right, and_parts}
use Rattle.std.proofs.lemmas.Option.{same_Some, slice_get_within}
use Rattle.graph_core.specs.Graphs.{Instruction, End, Block}
use Rattle.graph_core.specs.Uses.{reads_of_end, targets_of}
use Rattle.graph_core.specs.Paths.{Among, writes}
use Rattle.graph_paths.specs.Flood.{Bits, Flows, IsBrought, begun, handed, AreSettled}
use Rattle.dead_pass_rule.specs.Asking.{Turns, asks, IsAsked, by_end, next, later, leads, TellsAsked}
use Rattle.dead_pass_rule.specs.Walks.{asked_along, asked_before_some, asking}
use Rattle.dead_pass_rule.proofs.ReadNames.{among_any, any_among}

not_not : (b : Bool) → not b ≡ true → b ≡ false
not_not true q = sym q
not_not false q = refl

module _ (turns : Turns) (all : List Block) (x : ℕ) where
  -- from what is asked for where a block's end leads to what is at its start
  asked_from : (n : ℕ) (rest : List Instruction) (e : End) (behind : Bool) → (behind ≡ true → IsAsked turns all x n [] e) → asked_along turns x n rest (list_any (λ y. y == x) (reads_of_end e) || behind) ≡ true
      → IsAsked turns all x n rest e
  asked_from n [] e behind there q = elim (or_cases _ _ q) [
    | inl read ↦ by_end (any_among x (reads_of_end e) read)
    | inr was ↦ there was
  ]
  asked_from n (i ∷ rest) e behind there q = elim (or_cases _ _ q) [
    | inl here ↦ next here
    | inr on ↦ (let both = and_parts _ _ on in later (not_not (writes x i) both.0) (asked_from n rest e behind there both.1))
  ]

  -- what some way brings is asked for
  came : (begins : ℕ → Bool) → ((m : ℕ) → begins m ≡ false) → (names : ℕ) → {n : ℕ} → IsBrought (Flows (asking turns all names)) (λ m behind. asked_before_some turns x m (slice_get all m) behind) begins n
      → (b : Block) → slice_get all n ≡ Some b → IsAsked turns all x n [] b.end
  came begins none names {n} (begun e) b at = absurd (true≢false (sym e ∙ none n))
  came begins none names {n} (handed {m} behind edge come e) b at =
      by (λ so c there. came begins none names (come so) c there) (slice_get all m) refl e (subst (λ (d : Block). Among m (targets_of d.end)) (same_Some edge.block b (sym edge.is ∙ at)) edge.leads)
    where
      by : (behind ≡ true → (c : Block) → slice_get all m ≡ Some c → IsAsked turns all x m [] c.end) → (o : Option Block) → slice_get all m ≡ o → asked_before_some turns x m o behind ≡ true → Among m (targets_of b.end)
          → IsAsked turns all x n [] b.end
      by again None there q among = absurd (true≢false (sym q))
      by again (Some c) there q among = leads c among there (asked_from m c.instructions c.end behind (λ so. again so c there) q)

-- it is told where something asks
tells_from : (turns : Turns) (told : ℕ → Bool) (count x n : ℕ) (here behind : Bool) (rest : List Instruction) (e : End)
    → (asked_along turns x n rest (list_any (λ y. y == x) (reads_of_end e) || behind) ≡ true → here ≡ true) → ((l : ℕ) → l < count → Among l (targets_of e) → told l ≡ true → behind ≡ true) → TellsAsked turns told count x n here rest e
tells_from turns told count x n here behind [] e so on = (
  (λ among. so (or_left _ _ (among_any x (reads_of_end e) among))),
  (λ l lt among was. so (or_right (list_any (λ y. y == x) (reads_of_end e)) behind (on l lt among was))),
)
tells_from turns told count x n here behind (i ∷ rest) e so on = (
  (λ q. so (or_left _ _ q)),
  (λ unwritten. tells_from turns told count x n here behind rest e (λ q. so (or_right (asks turns n (length rest) i x) (not (writes x i) && asked_along turns x n rest (list_any (λ y. y == x) (reads_of_end e) || behind))
      (ap (λ z. not z && asked_along turns x n rest (list_any (λ y. y == x) (reads_of_end e) || behind)) unwritten ∙ q))) on),
)

module _ (turns : Turns) (all : List Block) (names : ℕ) (begins ends starts : Bits) (none : (n x : ℕ) → begins n x ≡ false) (settled : AreSettled (asking turns all names) begins ends starts) where
  start_is : (n x : ℕ) (b : Block) → slice_get all n ≡ Some b → x < names → starts n x ≡ asked_along turns x n b.instructions (list_any (λ y. y == x) (reads_of_end b.end) || ends n x)
  start_is n x b at named = settled.brought.made n x (slice_get_within all n b at) named ∙ ap (λ o. asked_before_some turns x n o (ends n x)) at

  pub flood_asked : (n x : ℕ) (b : Block) → slice_get all n ≡ Some b → x < names → starts n x ≡ true → IsAsked turns all x n b.instructions b.end
  flood_asked n x b at named told =
      asked_from turns all x n b.instructions b.end (ends n x) (λ was. came turns all x (λ m. begins m x) (λ m. none m x) names (settled.brought.brought n x (slice_get_within all n b at) named was) b at)
      (sym (start_is n x b at named) ∙ told)

  pub flood_told : (n x : ℕ) (b : Block) → slice_get all n ≡ Some b → x < names → TellsAsked turns (λ l. starts l x) (length all) x n (starts n x) b.instructions b.end
  flood_told n x b at named = tells_from turns (λ l. starts l x) (length all) x n (starts n x) (ends n x) b.instructions b.end (λ q. start_is n x b at named ∙ q)
      (λ l lt among was. settled.closed l n x (record { block = b; is = at; comes = refl; leads = among }) lt (slice_get_within all n b at) was)

-- the block of a number
pub block_of : (all : List Block) (n : ℕ) → n < length all → (b : Block) × (slice_get all n ≡ Some b)
block_of [] n lt = absurd (omega (arith, lt))
block_of (b ∷ all) zero lt = (b, refl)
block_of (b ∷ all) (suc n) lt = block_of all n (omega (arith, lt))

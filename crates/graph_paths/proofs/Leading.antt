-- Ways that lead on, block by block.
use Rattle.std.proofs.Common.{◌≡◌, ℕ, ◌<◌, ◌≤◌, ◌⊎◌, inl, inr, Bool, true, Some, List, [], ◌∷◌, length, map, refl, sym, ap, ◌∙◌, subst, arith, get_or}
use Rattle.std.specs.Prelude.{option_map, slice_get}
use Rattle.std.proofs.lemmas.Bool.{cases_lt}
use Rattle.std.proofs.lemmas.Option.{slice_get-map, slice_get_read, slice_get_within}
use Rattle.graph_core.specs.Graphs.{Block}
use Rattle.graph_core.specs.Paths.{Among, front as here, behind as later}
use Rattle.graph_paths.specs.Reached.{IsLed, entry, leads, LeadsOn, AreLed, leading}
use Rattle.graph_paths.specs.Flood.{Flows, IsBrought, begun, handed, Bits, AreSettled}

pub among_one : {l a : ℕ} → Among l (a ∷ []) → l ≡ a
among_one here = refl
among_one (later a) = elim a [ ]

pub among_two : {l a b : ℕ} → Among l (a ∷ b ∷ []) → (l ≡ a) ⊎ (l ≡ b)
among_two here = inl refl
among_two (later a) = inr (among_one a)

-- the block of a number
pub block_there : {A : Type 0} (view : A → Block) (all : List A) (n : ℕ) (x : A) → n < length all → x ≡ get_or all n x → slice_get (map view all) n ≡ Some (view x)
block_there view all n x lt e = slice_get-map view all n ∙ ap (option_map view) (slice_get_read all (length all) n x refl lt e)

-- what flows from the first block comes along a way
brought_led : (blocks : List Block) (begins : ℕ → Bool) → ((m : ℕ) → begins m ≡ true → m ≡ 0) → {n : ℕ} → IsBrought (Flows (leading blocks)) (λ m before. before) begins n → IsLed blocks n
brought_led blocks begins only {n} (begun e) = subst (λ k. IsLed blocks k) (sym (only n e)) entry
brought_led blocks begins only (handed before edge come e) = leads edge.block (brought_led blocks begins only (come e)) edge.is edge.leads

-- where a flood from the first block settles, just the blocks are told to which ways lead
module _ (blocks : List Block) (begins comes leaves : Bits) (row : ℕ → Bool) (first : begins 0 0 ≡ true) (only : (m : ℕ) → begins m 0 ≡ true → m ≡ 0) (settled : AreSettled (leading blocks) begins comes leaves)
    (spare : (n : ℕ) → length blocks ≤ n → comes n 0 ≡ begins n 0) (same : (n : ℕ) → row n ≡ comes n 0) where
  told_led : (n : ℕ) → comes n 0 ≡ true → IsLed blocks n
  told_led n e = elim (cases_lt n (length blocks)) [
    | inl lt ↦ brought_led blocks (λ m. begins m 0) only (settled.brought.brought n 0 lt (omega arith) e)
    | inr out ↦ subst (λ k. IsLed blocks k) (sym (only n (sym (spare n out) ∙ e))) entry
  ]

  leads_on : (n : ℕ) → LeadsOn blocks row n
  leads_on n b l at led among lt =
      let n_lt : n < length blocks = slice_get_within blocks n b at in
      same l ∙ settled.closed n l 0 (record { block = b; is = at; comes = refl; leads = among }) n_lt lt (settled.brought.made n 0 n_lt (omega arith) ∙ sym (same n) ∙ led)

  pub are_led : AreLed blocks row
  are_led = record {
    first = same 0 ∙ settled.brought.begun 0 0 first;
    is_led = λ n e. told_led n (sym (same n) ∙ e);
    leads_on = leads_on;
  }

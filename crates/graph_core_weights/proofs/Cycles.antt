-- No way without a marker leads from a block back to it, where each way comes to a marker or to an end.
use Rattle.std.proofs.Common.{◌≡◌, ℕ, subst, sym, refl, ◌⊎◌, inl, inr, Some, None, Bool, true, false, cond, Option, List, [], slice_get}
use Rattle.std.specs.Option.{option_map_or}
use Rattle.graph_core.specs.Graphs.{Instruction, End, Block, Graph}
use Rattle.graph_core.specs.Paths.{Among, is_marker}
use Rattle.graph_core.specs.Uses.{targets_of}
use Rattle.graph_core.specs.WellMarked.{ComesToMarker, at_marker, on, leaves, goes}
use Rattle.graph_core_weights.specs.Costs.{has_marker}
use Rattle.graph_core_weights.proofs.Ranks.{Steps, one, more}

-- where control goes from a block on a way without a marker
abbrev pub unmarked_targets : Block → List ℕ
unmarked_targets b = cond (has_marker b.instructions) [] (targets_of b.end)

abbrev pub next_in : Graph → ℕ → List ℕ
next_in g l = option_map_or unmarked_targets (slice_get g.blocks l) []

-- A way leads on without a marker, from such instructions and such an end, to a block, and from there back to it.
pub record Turns (g : Graph) (count : ℕ) (is : List Instruction) (e : End) : Type 0 where
  pub unmarked : has_marker is ≡ false
  pub first : ℕ
  pub among : Among first (targets_of e)
  pub last : ℕ
  pub leads : (first ≡ last) ⊎ Steps count (next_in g) first last
  pub back : Steps count (next_in g) last last

no_target : (t : ℕ) → Among t [] → ⊥
no_target t among = elim among [ ]

-- What leads on from a block.
pub record LeadsOn (g : Graph) (l t : ℕ) : Type 0 where
  pub block : Block
  pub there : slice_get g.blocks l ≡ Some block
  pub unmarked : has_marker block.instructions ≡ false
  pub among : Among t (targets_of block.end)

pub leads_on : (g : Graph) (l t : ℕ) → Among t (next_in g l) → LeadsOn g l t
leads_on g l t among = by_found (slice_get g.blocks l) refl among
  where
    by_test : (b : Block) → slice_get g.blocks l ≡ Some b → (marked : Bool) → has_marker b.instructions ≡ marked → Among t (cond marked [] (targets_of b.end)) → LeadsOn g l t
    by_test b there true is among = absurd (no_target t among)
    by_test b there false is among = record { block = b; there = there; unmarked = is; among = among }

    by_found : (found : Option Block) → slice_get g.blocks l ≡ found → Among t (option_map_or unmarked_targets found []) → LeadsOn g l t
    by_found None there among = absurd (no_target t among)
    by_found (Some b) there among = by_test b there (has_marker b.instructions) refl among

-- Where none leads on so from where a block leads, none does from that block.
from_lead : (g : Graph) (count l t last : ℕ) → LeadsOn g l t → (t ≡ last) ⊎ Steps count (next_in g) t last → Steps count (next_in g) last last
    → ((b : Block) → slice_get g.blocks l ≡ Some b → Turns g count b.instructions b.end → ⊥) → ⊥
from_lead g count l t last lead leads back none = none lead.block lead.there (record { unmarked = lead.unmarked; first = t; among = lead.among; last = last; leads = leads; back = back })

from_steps : (g : Graph) (count l last : ℕ) → Steps count (next_in g) l last → Steps count (next_in g) last last → ((b : Block) → slice_get g.blocks l ≡ Some b → Turns g count b.instructions b.end → ⊥) → ⊥
from_steps g count l last (one among) back none = from_lead g count l last last (leads_on g l last among) (inl refl) back none
from_steps g count l last (more {b = t} among way) back none = from_lead g count l t last (leads_on g l t among) (inr way) back none

from_end : (g : Graph) (count : ℕ) (is : List Instruction) (e : End) → (turns : Turns g count is e) → ((l : ℕ) (b : Block) → Among l (targets_of e) → slice_get g.blocks l ≡ Some b → Turns g count b.instructions b.end → ⊥) → ⊥
from_end g count is e turns none = from_steps g count turns.first turns.last (steps turns.leads) turns.back (λ b there. none turns.first b turns.among there)
  where
    steps : (turns.first ≡ turns.last) ⊎ Steps count (next_in g) turns.first turns.last → Steps count (next_in g) turns.first turns.last
    steps (inl same) = subst (λ l. Steps count (next_in g) l turns.last) (sym same) turns.back
    steps (inr way) = way

-- Behind an instruction that is no marker.
behind_unmarked : (b rest : Bool) → cond b true rest ≡ false → rest ≡ false
behind_unmarked true rest is = cc
behind_unmarked false rest is = is

no_turn : (g : Graph) (count : ℕ) {is : List Instruction} {e : End} → ComesToMarker g is e → Turns g count is e → ⊥
no_turn g count at_marker turns = let u = turns.unmarked in cc
no_turn g count (on {i} {rest} {e} later) turns =
    no_turn g count later (record { unmarked = behind_unmarked (is_marker i) (has_marker rest) turns.unmarked; first = turns.first; among = turns.among; last = turns.last; leads = turns.leads; back = turns.back })
no_turn g count leaves turns = no_target turns.first turns.among
no_turn g count (goes {e} each) turns = from_end g count [] e turns (λ l b among there later. no_turn g count (each l b among there) later)

-- So no block is come to twice without a marker.
pub no_cycle : (g : Graph) (count : ℕ) → ((n : ℕ) (b : Block) → slice_get g.blocks n ≡ Some b → ComesToMarker g b.instructions b.end) → (a : ℕ) → Steps count (next_in g) a a → ⊥
no_cycle g count cycles a way = from_steps g count a a way way (λ b there. no_turn g count (cycles a b there))

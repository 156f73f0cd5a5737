-- The memory of the code of a unit: over homes it is the same, and in the smaller room a jump leads from anywhere in the code to anywhere in it.
use Rattle.std.proofs.Common.{◌≡◌, ℕ, ◌+◌, ◌<◌, ◌≤◌, inl, inr, Bool, false, length, ◌∙◌, ap, subst, arith, refl, sym}
use Rattle.std.proofs.lemmas.Option.{slice_get_within}
use Rattle.memory_map.specs.declared.map.Map.{Map}
use Rattle.memory_map.specs.declared.map.Room.TheVariants.{Small}
use Rattle.memory_map.specs.Maps.{map_of, most_words}
use Rattle.graph_core.specs.Graphs.{UnitForm}
use Rattle.graph_homes.specs.Homed.{HomedForm, over_homes}
use Rattle.rv_emit_tables.specs.Emitted.{EmittedForm}
use Rattle.rv_emit_layout.specs.Laid.{IsEmittedOf}
use Rattle.rv_code.specs.declared.instruction.Instruction.{Instruction}
use Rattle.rv_code.specs.declared.instruction.Instruction.TheVariants as instruction
use Rattle.rv_code.specs.Encoding.{encoded}
use Rattle.rv_emit_steps.specs.Programs.{Program, distance, IsAt}
use Rattle.rv_emit_words.specs.Constants.{low_part}
use Rattle.rv_emit_runs.specs.Pieces.{IsJump}
use Rattle.rv_emit_runs.specs.Laid.{IsCode}
use Rattle.rv_emit_storage.specs.UnitMaps.{map_of_unit}

-- A unit over homes has the memory of the unit.
pub over_homes_map : (h : HomedForm) → map_of_unit (over_homes h) ≡ map_of_unit h.unit
unfolding map_of_unit
over_homes_map h = refl

-- So has its code.
pub code_map : (h : HomedForm) (e : EmittedForm) → IsCode h e → map_of_unit (over_homes h) ≡ e.map
code_map h e code = over_homes_map h ∙ sym code.map

-- Over so many words a jump leads, either way.
abbrev pub jump_reach : ℕ
jump_reach = 262144

-- No code of a unit of the smaller room has more.
pub all_in_reach : (u : UnitForm) → u.room ≡ Small → most_words (map_of_unit u) ≤ jump_reach
unfolding map_of_unit
all_in_reach u small = subst (λ r. most_words (map_of r) ≤ jump_reach) (sym small) (omega arith)

pub emitted_in_reach : (h : HomedForm) (e : EmittedForm) → IsEmittedOf h e → h.unit.room ≡ Small → most_words e.map ≤ jump_reach
emitted_in_reach h e emitted small = let same : most_words e.map ≡ most_words (map_of_unit h.unit) = ap (λ (m : Map). most_words m) emitted.regions in omega (arith, same, all_in_reach h.unit small)

-- An instruction that stands in the code stands within it.
pub index_inside : (p : Program) (index : ℕ) (b : Bool) (i : Instruction) → IsAt p index b i → index < most_words p.map
index_inside p index b i at =
    let within : index < length p.words = slice_get_within p.words index (encoded i) at.there in
    let short : length p.words ≤ most_words p.map = p.short in
    omega (arith, within, short)

-- A jump that stands in the code ends within it.
pub jump_inside : (p : Program) (index : ℕ) (b : Bool) (r q to behind : ℕ) → IsJump p index b r q to behind → behind ≤ most_words p.map
jump_inside p index b r q to j (inl (at, next)) = let low = index_inside p index b (instruction.Jal r (distance index to)) at in omega (arith, low, next)
jump_inside p index b r q to j (inr (upper, lower, next)) = let low = index_inside p (index + 1) false (instruction.Jalr r q (low_part (distance index to))) lower in omega (arith, low, next)

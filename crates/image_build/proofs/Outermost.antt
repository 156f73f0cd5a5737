-- The words before all functions are no place's.
use Rattle.std.proofs.Common.{◌≡◌, ℕ, ◌-◌, ◌<◌, ◌≤◌, ⊎_elim, refl, ◌∙◌, arith, List, [], ◌∷◌}
use Rattle.std.specs.Prelude.{slice_index}
use Rattle.std.specs.List.{AllByRecursion}
use Rattle.std.proofs.lemmas.Bool.{cases_lt}
use Rattle.memory_map.specs.Maps.{stub_words}
use Rattle.memory_map.proofs.Facts.{map_facts}
use Rattle.graph_homes.specs.Homed.{HomedForm}
use Rattle.rv_emit_tables.specs.Emitted.{EmittedForm}
use Rattle.rv_emit_steps.specs.Programs.{Program}
use Rattle.rv_emit_words.specs.declared.piece.PlacedPiece.{PlacedPiece}
use Rattle.rv_emit_code.specs.Blocks.{no_code, with_stub}
use Rattle.rv_emit_runs.specs.Pieces.{Targets}
use Rattle.rv_emit_runs.specs.Placed.{PlacedAt}
use Rattle.rv_emit_runs.specs.Laid.{IsCode, program_of, targets_in}

-- the words of pieces that are no place's are no place's
owned_by_none : (p : Program) (t : Targets) (pieces : List PlacedPiece) (i j x : ℕ) → AllByRecursion (λ (y : PlacedPiece). y.owner ≡ 0) pieces → PlacedAt p t i pieces j → i ≤ x → x < j → t.owner x ≡ 0
owned_by_none p t [] i j x none placed low high = absurd (omega (arith, placed, low, high))
owned_by_none p t (y ∷ more) i j x none placed low high =
    ⊎_elim (λ (lt : x < placed.0). placed.2 x low lt ∙ none.0) (λ (ge : placed.0 ≤ x). owned_by_none p t more placed.0 j x none.1 placed.3 ge high) (cases_lt x placed.0)

-- The word before the one to which main returns is no place's.
pub outermost : (h : HomedForm) (e : EmittedForm) (code : IsCode h e) → slice_index e.owners (stub_words e.map - 3) ≡ 0
outermost h e code =
    let some = (map_facts e.map).stub in
    owned_by_none (program_of e code.short) (targets_in e code.arrangement h.unit.main) (with_stub e.map h.unit.main (no_code 0 [])).pieces 0 (stub_words e.map) (stub_words e.map - 3) (refl, (refl, (refl, (refl, (refl, tt))))) code.stub (omega arith) (omega (arith, some))

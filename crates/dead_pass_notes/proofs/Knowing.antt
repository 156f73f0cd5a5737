-- What is known where a walk comes to a note.
use Rattle.std.proofs.Common.{◌≡◌, ℕ, suc, ◌+◌, ◌<◌, ◌≤◌, ◌⊎◌, inl, inr, Bool, true, false, true≢false, Option, Some, None, List, [], ◌∷◌, ◌++◌, length, refl, sym, ap, ◌∙◌, subst, arith}
use Rattle.std.specs.Prelude.{◌↔◌, ◌==◌, slice_get}
use Rattle.std.specs.Option.{option_map_or}
use Rattle.std.proofs.lemmas.Bool.{cases_lt, eqb-true}
use Rattle.std.proofs.lemmas.List.{get_or_past, length-append}
use Rattle.std.proofs.lemmas.Option.{slice_get_within}
use Rattle.bit_rows.specs.Grid.{row_at}
use Rattle.places.specs.declared.flow.Assignment.{Assignment}
use Rattle.graph_core.specs.Graphs.{Instruction, End, Block, Graph}
use Rattle.graph_core.specs.Paths.{Passed, History, writes}
use Rattle.graph_core.specs.Uses.{target_of}
use Rattle.dead_pass_rule.specs.Asking.{is_going}
use Rattle.dead_pass_rule.specs.Walks.{turn_of}
use Rattle.graph_paths.specs.declared.marks.Marks.{Marks}
use Rattle.graph_paths.specs.PathMarksTable.{bits_of}
use Rattle.dead_pass_notes.specs.Spots.{left_at, end_at}
use Rattle.dead_pass_notes.proofs.PlaceWaysPoints.{left_there, end_there}
use Rattle.dead_pass_notes.specs.Stale.{Went, IsStale, went, before as stale_before, ComesStale}
use Rattle.dead_pass_notes.specs.Rows.{stale_behind}
use Rattle.dead_pass_notes.proofs.Exact.{told_exactly}
use Rattle.dead_pass_notes.specs.declared.idle_graph.IdleGraph.{IdleGraph}
use Rattle.dead_pass_notes.specs.declared.notes.Notes.{Notes}
use Rattle.dead_pass_notes.specs.declared.recipes.NotePoint.{NotePoint}
use Rattle.dead_pass_notes.specs.Idle.{IsBorneOut, assignments_of, graph_of}
use Rattle.dead_pass_notes.specs.Sources.{AreNamed, IsKnown, noted}
use Rattle.dead_pass_notes.specs.RemovalNotesStale.{AreKnown, HasComeBehind}

-- what is outside a row is not told
outside_row : (marks : Marks) (row bit : ℕ) → row < marks.count → marks.width ≤ bit → bits_of marks row bit ≡ false
outside_row marks row bit inside past =
    let each = marks.each in
    let wide = marks.wide row (omega (arith, inside, each)) in
    get_or_past (row_at marks.rows row) bit false (omega (arith, past, wide))

written_target : (y : ℕ) (target : Option ℕ) → option_map_or (λ x. x == y) target false ≡ true → target ≡ Some y
written_target y None e = absurd (true≢false (sym e))
written_target y (Some x) e = ap Some (eqb-true x y e)

-- a name that is stale is a name of the graph
stale_named : {assignments : List Assignment} → (g : Graph) → AreNamed g → (y : ℕ) {h : History} → IsStale assignments g y h → y < g.name_count
stale_named g named y (went {i} it w) = named i.block w.behind.block w.behind.before w.rest i.instruction y w.behind.is w.behind.instructions (written_target y (target_of i.instruction) it)
stale_named g named y (stale_before other s) = stale_named g named y s

-- The walk has come to a note.
pub known_at : (idle : IdleGraph) (notes : Notes) (note : NotePoint) (b : Block) (before rest : List Instruction) → IsBorneOut idle → AreKnown idle notes → AreNamed (graph_of idle) → notes.stale.count ≡ notes.blocks + 2 → notes.stale.width ≡ notes.names
    → slice_get (graph_of idle).blocks note.spot.block ≡ Some b → bits_of idle.reached 0 note.spot.block ≡ true → b.instructions ≡ before ++ rest → length rest ≡ suc note.spot.left → HasComeBehind idle notes note.spot.block before (suc note.spot.left)
    → IsKnown idle notes.stale note
known_at idle notes note b before rest borne known named count width at way parts behind come =
    let g = graph_of idle in
    let n = note.spot.block in
    let blocks = known.blocks in
    let names = known.names in
    let left : noted g note ≡ rest = left_there g n (suc note.spot.left) b before rest at parts behind in
    let end : end_at g n ≡ b.end = end_there g n b at in
    let long = length-append before rest in
    let whole = ap (λ l. length l) parts in
    record {
      borne_out = borne;
      point = record { block = b; is = at; within = omega (arith, long, whole, behind) };
      tells = λ y. elim (cases_lt y g.name_count) [
        | inl lt ↦ (let exact = told_exactly g (is_going (turn_of idle.turns.items)) borne.goes (bits_of idle.reached 0) borne.led g.name_count (bits_of notes.stale) known.all (λ m x inside small told. known.stale m x inside small told) y n b before rest lt at way parts in
            let going = is_going (turn_of idle.turns.items) n in
            let here : bits_of notes.stale (length g.blocks) y ≡ stale_behind going y (bits_of notes.stale n y) before (length rest) =
            ap (λ k. bits_of notes.stale k y) (sym blocks) ∙ come y lt ∙ ap (stale_behind going y (bits_of notes.stale n y) before) (sym behind) in (
              (λ e. subst (λ l. ComesStale (assignments_of idle) g y n l (end_at g n)) (sym left) (subst (λ f. ComesStale (assignments_of idle) g y n rest f) (sym end) (exact.0 (sym here ∙ e)))),
              (λ s. here ∙ exact.1 (subst (λ f. ComesStale (assignments_of idle) g y n rest f) end (subst (λ l. ComesStale (assignments_of idle) g y n l (end_at g n)) left s))),
            ))
        | inr le ↦ (
          (λ e. absurd (true≢false (sym e ∙ outside_row notes.stale (length g.blocks) y (omega (arith, count, blocks)) (omega (arith, width, names, le))))),
          (λ s. (let small = stale_named g named y s.stale in absurd (omega (arith, small, le)))),
        )
      ];
    }

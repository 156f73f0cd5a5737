-- What is known of stale names stays known while a walk goes on, and is told where it is.
use Rattle.std.proofs.Common.{◌≡◌, ℕ, suc, ◌+◌, ◌<◌, Bool, Option, List, [], ◌∷◌, ◌++◌, length, sym, ap, ◌∙◌, arith}
use Rattle.std.specs.Prelude.{if◌then◌else◌}
use Rattle.places.specs.declared.flow.Assignment.{Assignment}
use Rattle.graph_core.specs.Graphs.{Instruction, Graph}
use Rattle.graph_core.specs.Paths.{writes}
use Rattle.graph_core.specs.Uses.{target_of}
use Rattle.graph_paths.specs.declared.marks.Marks.{Marks}
use Rattle.graph_paths.specs.PathMarksTable.{bits_of}
use Rattle.dead_pass_rule.specs.Asking.{is_going}
use Rattle.dead_pass_rule.specs.Walks.{turn_of, is_written, AreSameBut}
use Rattle.dead_pass_notes.specs.Rows.{AreStale, AreAll, stale_behind}
use Rattle.dead_pass_notes.proofs.Points.{stale_more}
use Rattle.dead_pass_notes.specs.declared.idle_graph.IdleGraph.{IdleGraph}
use Rattle.dead_pass_notes.specs.declared.notes.Notes.{Notes}
use Rattle.dead_pass_notes.specs.Idle.{graph_of}
use Rattle.dead_pass_notes.specs.RemovalNotesStale.{AreKnown, HasComeBehind}

stale_same : {assignments : List Assignment} → (g : Graph) (names : ℕ) (old new : Marks) → ((n x : ℕ) → n < length g.blocks → bits_of new n x ≡ bits_of old n x) → AreStale assignments g names old → AreStale assignments g names new
stale_same g names old new same stale n x inside named is = stale n x inside named (sym (same n x inside) ∙ is)

all_same : (g : Graph) (goes : (block left : ℕ) → Bool) (led : ℕ → Bool) (names : ℕ) (old new : ℕ → ℕ → Bool) → ((n x : ℕ) → n < length g.blocks → new n x ≡ old n x) → AreAll g goes led names old → AreAll g goes led names new
all_same g goes led names old new same all n inside b l x at way among within named e =
    same l x within ∙ all n inside b l x at way among within named (ap (λ w. stale_behind (goes n) x w b.instructions 0) (sym (same n x inside)) ∙ e)

-- What is told at the starts of blocks stays where only the walk's row changes.
pub rows_same : (idle : IdleGraph) (old : Notes) (new : Marks) → AreKnown idle old → AreSameBut old.blocks old.stale new → (n x : ℕ) → n < length (graph_of idle).blocks → bits_of new n x ≡ bits_of old.stale n x
rows_same idle old new known others n x inside = (let blocks = known.blocks in others n x (λ q. omega (arith, q, inside, blocks)))

pub known_same : (idle : IdleGraph) (old new : Notes) → new.blocks ≡ old.blocks → new.names ≡ old.names → AreSameBut old.blocks old.stale new.stale → AreKnown idle old → AreKnown idle new
known_same idle old new blocks names others known =
    let same = rows_same idle old new.stale known others in
    record {
      blocks = blocks ∙ known.blocks;
      names = names ∙ known.names;
      stale = stale_same (graph_of idle) (graph_of idle).name_count old.stale new.stale same known.stale;
      all = all_same (graph_of idle) (is_going (turn_of idle.turns.items)) (bits_of idle.reached 0) (graph_of idle).name_count (bits_of old.stale) (bits_of new.stale) same known.all;
    }

-- The walk begins.
pub begun : (idle : IdleGraph) (old : Notes) (new : Marks) (block : ℕ) → AreSameBut old.blocks old.stale new → AreKnown idle old → block < length (graph_of idle).blocks → ((x : ℕ) → bits_of new old.blocks x ≡ bits_of old.stale block x) → (left x : ℕ) → x < (graph_of idle).name_count
    → bits_of new old.blocks x ≡ stale_behind (is_going (turn_of idle.turns.items) block) x (bits_of new block x) [] left
begun idle old new block others known inside walk left x named = walk x ∙ sym (rows_same idle old new known others block x inside)

-- The walk goes on over an instruction.
pub gone_on : (idle : IdleGraph) (old : Notes) (new : Marks) (n : ℕ) (before : List Instruction) (i : Instruction) (left : ℕ) (target : Option ℕ) (goes : Bool) → AreSameBut old.blocks old.stale new → AreKnown idle old → n < length (graph_of idle).blocks
    → ((x : ℕ) → x < old.names → bits_of new old.blocks x ≡ (if is_written x target then goes else bits_of old.stale old.blocks x)) → target ≡ target_of i → goes ≡ is_going (turn_of idle.turns.items) n left
    → HasComeBehind idle old n before (suc left) → (x : ℕ) → x < (graph_of idle).name_count → bits_of new old.blocks x ≡ stale_behind (is_going (turn_of idle.turns.items) n) x (bits_of new n x) (before ++ i ∷ []) left
gone_on idle old new n before i left target goes others known inside walk is_target is_going_there so_far x named =
    let going = is_going (turn_of idle.turns.items) n in
    let names = known.names in
    let was = bits_of old.stale n x in
    let here : bits_of new n x ≡ was = rows_same idle old new known others n x inside in
    walk x (omega (arith, named, names))
    ∙ ap (λ t. if is_written x t then goes else bits_of old.stale old.blocks x) is_target
    ∙ ap (λ b. if writes x i then b else bits_of old.stale old.blocks x) is_going_there
    ∙ ap (λ b. if writes x i then going left else b) (so_far x named)
    ∙ sym (stale_more going x was before i left)
    ∙ ap (λ w. stale_behind going x w (before ++ i ∷ []) left) (sym here)

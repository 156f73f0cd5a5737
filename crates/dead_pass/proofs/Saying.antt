-- Notes say what they shall, block by block.
use Rattle.std.proofs.Common.{◌≡◌, ℕ, zero, suc, ◌+◌, ◌-◌, ◌≤◌, ◌⊎◌, inl, inr, Bool, true, false, true≢false, Option, Some, None, List, [], ◌∷◌, ◌++◌, length, map, take, drop, get_or, refl, sym, ap, ◌∙◌, subst, arith, append_assoc}
use Rattle.std.specs.Prelude.{slice_get}
use Rattle.std.proofs.lemmas.Bool.{cases_Bool}
use Rattle.std.proofs.lemmas.List.{length-append}
use Rattle.std.proofs.lemmas.Option.{same_Some, none-some}
use Rattle.places.specs.declared.flow.Assignment.{Assignment}
use Rattle.graph_core.specs.declared.name.Name as declared-name
use Rattle.graph_core.specs.declared.recipe.NoteValue as declared-value
use Rattle.graph_core.specs.declared.instruction.Instr as declared-instr
use Rattle.graph_core.specs.declared.instruction.Instr.TheVariants as instr
use Rattle.graph_core.specs.Graphs.{Instruction, Note, End, Block, Graph, Logged, instruction_view}
use Rattle.graph_core.specs.Paths.{History}
use Rattle.graph_core.specs.Validity.{HasPlace}
use Rattle.dead_pass_rule.specs.Asking.{is_going}
use Rattle.dead_pass_rule.specs.Walks.{turn_of}
use Rattle.dead_pass_rule.specs.Idle.{IsIdle, idle as is_idle, Goes}
use Rattle.graph_paths.specs.Reached.{IsReached}
use Rattle.graph_paths.proofs.Points.{point_reached, reached_told}
use Rattle.graph_paths.specs.PathMarksTable.{bits_of}
use Rattle.dead_pass_notes.specs.declared.idle_graph.IdleGraph.{IdleGraph}
use Rattle.dead_pass_notes.specs.declared.notes.Notes.{Notes}
use Rattle.dead_pass_notes.specs.Idle.{IsBorneOut, assignments_of, graph_of}
use Rattle.dead_pass_notes.specs.Said.{SaysAs, noted, unreached, other, AreSaid, ends, stays, SaysWhatItShall}
use Rattle.dead_pass_notes.specs.Stale.{IsStale, went, before as stale_before}
use Rattle.dead_pass.specs.Noted.{ArePlaced, IsReady}
use Rattle.dead_pass.proofs.Leaving.{rest_is}
use Rattle.dead_pass.proofs.Placed.{note_placed}

-- whether an instruction is a note
abbrev pub is_note : Instruction → Bool
is_note (Note x v) = true
is_note _ = false

pub no_note_view : (i : declared-instr.Instr) → ((x : declared-name.Name) (v : declared-value.NoteValue) → i ≡ instr.Note x v → ⊥) → is_note (instruction_view i) ≡ false
no_note_view (instr.Note x v) none = absurd (none x v refl)
no_note_view _ none = refl

-- what is no note stays
pub no_note : {assignments : List Assignment} → (log : List Logged) (g : Graph) (n : ℕ) (rest : List Instruction) (e : End) (i : Instruction) → is_note i ≡ false → SaysAs assignments log g n rest e i i
no_note log g n rest e i none = other (λ x v is. true≢false (sym (ap is_note is) ∙ none))

module _ (log : List Logged) (idle : IdleGraph) (borne : IsBorneOut idle) (n : ℕ) (b : Block) (is : slice_get (graph_of idle).blocks n ≡ Some b) where
  -- where no path comes all stays
  pub unreached_said : bits_of idle.reached 0 n ≡ false → (before rest : List Instruction) → b.instructions ≡ before ++ rest → AreSaid (assignments_of idle) log (graph_of idle) n b.end rest rest
  unreached_said none before [] parts = ends
  unreached_said none before (i ∷ rest) parts =
      let comes : IsReached (graph_of idle) n (i ∷ rest) b.end → ⊥ = λ r. true≢false (sym (reached_told (graph_of idle) (bits_of idle.reached 0) borne.led r) ∙ none) in
      stays (λ goes. comes goes.reached) (unreached comes) (unreached_said none (before ++ i ∷ []) rest (parts ∙ sym (append_assoc before (i ∷ []) rest)))

-- WHERE NOTHING GOES each note says what it said.
module _ (log : List Logged) (idle : IdleGraph) (borne : IsBorneOut idle) (none : (n left : ℕ) → is_going (turn_of idle.turns.items) n left ≡ false) where
  never : {n : ℕ} {rest : List Instruction} {e : End} → Goes (assignments_of idle) (graph_of idle) n rest e → ⊥
  never goes = of goes.idle goes
    where
      of : {n : ℕ} {rest : List Instruction} {e : End} → IsIdle (assignments_of idle) (graph_of idle) n rest e → Goes (assignments_of idle) (graph_of idle) n rest e → ⊥
      of (is_idle {n} {i} {rest} {e} {p} {x} stood target may computed read_by) goes =
          true≢false (sym ((borne.goes.goes n stood.block stood.before rest i stood.is stood.instructions).1 (subst (λ f. Goes (assignments_of idle) (graph_of idle) n (i ∷ rest) f) stood.ends goes)) ∙ none n (length rest))

  never_stale : {y : ℕ} {h : History} → IsStale (assignments_of idle) (graph_of idle) y h → ⊥
  never_stale (went it w) = never w.goes
  never_stale (stale_before it s) = never_stale s

  module _ (n : ℕ) (b : Block) (is : slice_get (graph_of idle).blocks n ≡ Some b) (has : HasPlace b.instructions b.place) (way : bits_of idle.reached 0 n ≡ true) where
    same_said : (before : List Instruction) (i : Instruction) (rest : List Instruction) → b.instructions ≡ before ++ i ∷ rest → SaysAs (assignments_of idle) log (graph_of idle) n rest b.end i i
    same_said before (Note x v) rest parts =
        let placed = note_placed before rest x v b.place (subst (λ l. HasPlace l b.place) parts has) in
        noted (point_reached (graph_of idle) (bits_of idle.reached 0) borne.led n b before (Note x v ∷ rest) is parts way) (record { block = b; before = before; is = is; instructions = parts; ends = refl; place = placed.1 })
        (stays (λ d. never d.goes) (λ l. never_stale l.stale.stale))
    same_said before i rest parts = no_note log (graph_of idle) n rest b.end i refl

    all_said : (before rest : List Instruction) → b.instructions ≡ before ++ rest → AreSaid (assignments_of idle) log (graph_of idle) n b.end rest rest
    all_said before [] parts = ends
    all_said before (i ∷ rest) parts = stays never (same_said before i rest parts) (all_said (before ++ i ∷ []) rest (parts ∙ sym (append_assoc before (i ∷ []) rest)))

  pub graph_same : ArePlaced (graph_of idle) → SaysWhatItShall (assignments_of idle) log (graph_of idle) (graph_of idle)
  graph_same placed = record {
    notes = λ n b c at there. (let same_block : b ≡ c = same_Some b c (sym at ∙ there) in
        subst (λ (d : Block). AreSaid (assignments_of idle) log (graph_of idle) n b.end b.instructions d.instructions) same_block
        (elim (cases_Bool (bits_of idle.reached 0 n)) [
          | inl way ↦ all_said n b at (placed n b at) way [] b.instructions refl
          | inr none_comes ↦ unreached_said log idle borne n b at none_comes [] b.instructions refl
        ]));
  }

-- The last of a list, or one before it.
last_or : {A : Type 0} (left : List A) (made c : A) (n : ℕ) → slice_get (left ++ made ∷ []) n ≡ Some c → (slice_get left n ≡ Some c) ⊎ ((n ≡ length left) × (made ≡ c))
last_or [] made c zero at = inr (refl, same_Some made c at)
last_or [] made c (suc n) at = absurd (none-some c at)
last_or (x ∷ left) made c zero at = inl at
last_or (x ∷ left) made c (suc n) at = elim (last_or left made c n at) [ inl was ↦ inl was | inr last ↦ inr (ap suc last.0, last.1) ]

-- BLOCKS ARE GONE OVER: these are ahead, the first of this number, and in those that are left so far each note says what it shall.
pub record AreUnderWay (log : List Logged) (idle : IdleGraph) (notes : Notes) (number : ℕ) (ahead left : List Block) : Type 0 where
  pub ready : IsReady log idle notes
  pub counted : length left ≡ number
  pub ahead_there : (k : ℕ) (b : Block) → slice_get ahead k ≡ Some b → slice_get (graph_of idle).blocks (number + k) ≡ Some b
  pub said : (n : ℕ) (b c : Block) → slice_get (graph_of idle).blocks n ≡ Some b → slice_get left n ≡ Some c → AreSaid (assignments_of idle) log (graph_of idle) n b.end b.instructions c.instructions

module _ (log : List Logged) (idle : IdleGraph) where
  pub blocks_begin : (notes : Notes) (all : List Block) → IsReady log idle notes → (graph_of idle).blocks ≡ all → AreUnderWay log idle notes 0 all []
  blocks_begin notes all ready e =
      record { ready = ready; counted = refl; ahead_there = λ k b at. (let z : 0 + k ≡ k = omega arith in ap (λ m. slice_get (graph_of idle).blocks m) z ∙ ap (λ l. slice_get l k) e ∙ at); said = λ n b c at there. absurd (none-some c there) }

  next_said : (old new : Notes) (number : ℕ) (x made : Block) (ahead left longer : List Block) → longer ≡ left ++ made ∷ [] → (IsReady log idle old → IsReady log idle new)
      → (IsReady log idle old → slice_get (graph_of idle).blocks number ≡ Some x → AreSaid (assignments_of idle) log (graph_of idle) number x.end x.instructions made.instructions)
      → AreUnderWay log idle old number (x ∷ ahead) left → AreUnderWay log idle new (number + 1) ahead longer
  next_said old new number x made ahead left longer grown ready said w =
      let counted = w.counted in
      let long = ap (λ l. length l) grown in
      let more = length-append left (made ∷ []) in
      let here : slice_get (graph_of idle).blocks number ≡ Some x = (let z : number ≡ number + 0 = omega arith in ap (λ k. slice_get (graph_of idle).blocks k) z ∙ w.ahead_there 0 x refl) in
      record {
        ready = ready w.ready;
        counted = omega (arith, counted, long, more);
        ahead_there = λ k b at. (let z : number + 1 + k ≡ number + suc k = omega arith in ap (λ m. slice_get (graph_of idle).blocks m) z ∙ w.ahead_there (suc k) b at);
        said = λ n b c at there. elim (last_or left made c n (ap (λ l. slice_get l n) (sym grown) ∙ there)) [
          | inl was ↦ w.said n b c at was
          | inr last ↦ (let last_number : number ≡ n = sym (last.0 ∙ counted) in
              let same_block : x ≡ b = same_Some x b (sym here ∙ ap (λ k. slice_get (graph_of idle).blocks k) last_number ∙ at) in
              subst (λ (d : Block). AreSaid (assignments_of idle) log (graph_of idle) n b.end b.instructions d.instructions) last.1
              (subst (λ (d : Block). AreSaid (assignments_of idle) log (graph_of idle) n d.end d.instructions made.instructions) same_block (subst (λ k. AreSaid (assignments_of idle) log (graph_of idle) k x.end x.instructions made.instructions) last_number (said w.ready here))))
        ];
      }

  pub blocks_on : {A : Type 0} (view : A → Block) (ahead : List A) (x : A) (old new : Notes) (number : ℕ) (made : Block) (left longer : List Block) → 1 ≤ length ahead → x ≡ get_or ahead 0 x → longer ≡ left ++ made ∷ [] → (IsReady log idle old → IsReady log idle new)
      → (IsReady log idle old → slice_get (graph_of idle).blocks number ≡ Some (view x) → AreSaid (assignments_of idle) log (graph_of idle) number (view x).end (view x).instructions made.instructions)
      → AreUnderWay log idle old number (map view ahead) left → AreUnderWay log idle new (number + 1) (map view (take (length ahead - 1) (drop 1 ahead))) longer
  blocks_on view [] x old new number made left longer le e grown ready said w = absurd (omega (arith, le))
  blocks_on view (y ∷ ahead) x old new number made left longer le e grown ready said w =
      subst (λ zs. AreUnderWay log idle new (number + 1) (map view zs) longer) (sym (rest_is y ahead))
      (next_said old new number (view x) made (map view ahead) left longer grown ready said (subst (λ z. AreUnderWay log idle old number (view z ∷ map view ahead) left) (sym e) w))

-- Notes say what they shall, while a block is gone over.
use Rattle.std.proofs.Common.{◌≡◌, ℕ, suc, ◌-◌, ◌≤◌, ◌<◌, Bool, true, false, true≢false, Option, Some, List, [], ◌∷◌, ◌++◌, length, map, take, drop, get_or, refl, sym, ap, ◌∙◌, subst, arith, append_assoc}
use Rattle.std.specs.Prelude.{slice_get}
use Rattle.std.proofs.lemmas.List.{length-map}
use Rattle.graph_core.specs.Graphs.{NoteValue, Instruction, Note, Block, Logged}
use Rattle.graph_core.specs.Validity.{place_behind, HasPlace}
use Rattle.dead_pass_rule.specs.Asking.{is_going}
use Rattle.dead_pass_rule.specs.Walks.{turn_of}
use Rattle.dead_pass_rule.specs.Removing.{without}
use Rattle.graph_paths.proofs.Points.{point_reached}
use Rattle.graph_paths.specs.PathMarksTable.{bits_of}
use Rattle.dead_pass_notes.specs.Spots.{end_at}
use Rattle.dead_pass_notes.proofs.PlaceWaysPoints.{left_there, end_there}
use Rattle.dead_pass_writes.specs.declared.writes.Spot.{Spot}
use Rattle.dead_pass_notes.specs.declared.idle_graph.IdleGraph.{IdleGraph}
use Rattle.dead_pass_notes.specs.declared.notes.Notes.{Notes}
use Rattle.dead_pass_notes.specs.declared.recipes.NotePoint.{NotePoint}
use Rattle.dead_pass_notes.specs.Idle.{assignments_of, graph_of}
use Rattle.dead_pass_notes.specs.Said.{IsSaid, SaysAs, noted, AreSaid, ends, gone, stays}
use Rattle.dead_pass_notes.specs.Sources.{HasRoom, IsKnown, IsSaidAt}
use Rattle.dead_pass_notes.specs.RemovalNotesStale.{AreKnown, HasComeBehind, HasOtherWays, HasSameWays}
use Rattle.dead_pass_writes.specs.RemovedChangesTelling.{AreToldOf}
use Rattle.dead_pass_notes.proofs.Knowing.{known_at}
use Rattle.dead_pass_notes.specs.Rows.{AreStale, AreAll, stale_behind}
use Rattle.dead_pass.specs.LeftBy.{IsPushed, went, stayed}
use Rattle.dead_pass.specs.Noted.{IsReady, IsVisited, IsHere, IsSaidBehind}
use Rattle.dead_pass.proofs.Leaving.{append_nil, rest_is}
use Rattle.dead_pass.proofs.Placed.{note_placed}

-- WHAT STAYS KNOWN. Searches along ways change nothing else.
pub ready_ways : (log : List Logged) (idle : IdleGraph) (old new : Notes) → HasOtherWays old new → (HasRoom idle old.ways → HasRoom idle new.ways) → IsReady log idle old → IsReady log idle new
ready_ways log idle old new same room ready =
    let known = ready.known in
    record {
      borne_out = ready.borne_out;
      known = record {
        blocks = same.blocks ∙ known.blocks;
        names = same.names ∙ known.names;
        stale = subst (λ m. AreStale (assignments_of idle) (graph_of idle) (graph_of idle).name_count m) (sym same.stale) known.stale;
        all = subst (λ m. AreAll (graph_of idle) (is_going (turn_of idle.turns.items)) (bits_of idle.reached 0) (graph_of idle).name_count (bits_of m)) (sym same.stale) known.all;
      };
      room = room ready.room;
      told = subst (λ r. AreToldOf log r.now) (sym same.removed) ready.told;
      named = ready.named;
      placed = ready.placed;
    }

pub come_ways : (idle : IdleGraph) (old new : Notes) → HasOtherWays old new → (n : ℕ) (before : List Instruction) (left : ℕ) → HasComeBehind idle old n before left → HasComeBehind idle new n before left
come_ways idle old new same n before left come x named =
    ap (λ m. bits_of m new.blocks x) same.stale ∙ ap (λ k. bits_of old.stale k x) same.blocks ∙ come x named ∙ ap (λ m. stale_behind (is_going (turn_of idle.turns.items) n) x (bits_of m n x) before left) (sym same.stale)

-- nor does a step of the walk
pub ready_step : (log : List Logged) (idle : IdleGraph) (old new : Notes) → HasSameWays old new → (AreKnown idle old → AreKnown idle new) → IsReady log idle old → IsReady log idle new
ready_step log idle old new same known ready = record {
  borne_out = ready.borne_out;
  known = known ready.known;
  room = subst (λ w. HasRoom idle w) (sym same.ways) ready.room;
  told = subst (λ r. AreToldOf log r.now) (sym same.removed) ready.told;
  named = ready.named;
  placed = ready.placed;
}

module _ (log : List Logged) (idle : IdleGraph) (notes : Notes) (at : NotePoint) (b : Block) (before : List Instruction) (x : ℕ) (v : NoteValue) (rest : List Instruction) (ready : IsReady log idle notes) (here : IsHere idle notes at b before (Note x v) rest) where
  pub known_here : IsKnown idle notes.stale at
  known_here = known_at idle notes at b before (Note x v ∷ rest) ready.borne_out ready.known ready.named notes.table.count notes.table.width here.visited.is here.visited.reached here.instructions (ap suc here.behind) here.come

  -- a note that says what it shall
  pub says : (w : NoteValue) → IsSaidAt (assignments_of idle) log (graph_of idle) at x v w → SaysAs (assignments_of idle) log (graph_of idle) at.spot.block rest b.end (Note x v) (Note x w)
  says w said =
      let g = graph_of idle in
      let n = at.spot.block in
      let is = here.visited.is in
      let left = left_there g n (suc at.spot.left) b before (Note x v ∷ rest) is here.instructions (ap suc here.behind) in
      noted (point_reached g (bits_of idle.reached 0) ready.borne_out.led n b before (Note x v ∷ rest) is here.instructions here.visited.reached)
      (record { block = b; before = before; is = is; instructions = here.instructions; ends = refl; place = here.place x v refl })
      (subst (λ e. IsSaid (assignments_of idle) log g at.place.0 n x v (Note x v ∷ rest) e w) (end_there g n b is) (subst (λ l. IsSaid (assignments_of idle) log g at.place.0 n x v l (end_at g n) w) left said))

-- A WALK OVER A BLOCK to which a path comes.
module _ (log : List Logged) (idle : IdleGraph) (n : ℕ) (b : Block) where
  -- The walk is under way: these instructions are ahead, this place is in force, and what is left so far says what it shall, whatever is left of those ahead.
  pub record IsUnderWay (notes : Notes) (place : Option ℕ) (ahead left : List Instruction) : Type 0 where
    pub ready : IsReady log idle notes
    pub before : List Instruction
    pub instructions : b.instructions ≡ before ++ ahead
    pub in_force : place ≡ place_behind before b.place
    pub come : HasComeBehind idle notes n before (length ahead)
    pub said : (later : List Instruction) → AreSaid (assignments_of idle) log (graph_of idle) n b.end ahead later → AreSaid (assignments_of idle) log (graph_of idle) n b.end b.instructions (left ++ later)

  module _ (visited : IsVisited idle n b) where
    -- it has come to an instruction
    here_now : (notes : Notes) (at : NotePoint) (count : ℕ) (place : Option ℕ) (i : Instruction) (rest left : List Instruction) → at.spot ≡ record { block = n; left = count } → ((p : ℕ) → place ≡ Some p → at.place.0 ≡ p) → length rest ≡ count
        → (w : IsUnderWay notes place (i ∷ rest) left) → IsHere idle notes at b w.before i rest
    here_now notes at count place i rest left spot in_place counts w =
        let block : at.spot.block ≡ n = ap (λ (s : Spot). s.block) spot in
        let behind : length rest ≡ at.spot.left = counts ∙ sym (ap (λ (s : Spot). s.left) spot) in
        record {
          visited = record { is = ap (λ k. slice_get (graph_of idle).blocks k) block ∙ visited.is; reached = ap (λ k. bits_of idle.reached 0 k) block ∙ visited.reached };
          instructions = w.instructions;
          behind = behind;
          place = λ x v is.
              (let has : HasPlace (w.before ++ Note x v ∷ rest) b.place = subst (λ j. HasPlace (w.before ++ j ∷ rest) b.place) is (subst (λ l. HasPlace l b.place) w.instructions (w.ready.placed n b visited.is)) in
              let placed = note_placed w.before rest x v b.place has in
              placed.1 ∙ ap Some (sym (in_place placed.0 (w.in_force ∙ placed.1))));
          come = subst (λ k. HasComeBehind idle notes k w.before (suc at.spot.left)) (sym block) (subst (λ k. HasComeBehind idle notes n w.before (suc k)) behind w.come);
        }

    -- What is left of those ahead of an instruction says what it shall, and so does what is left of it.
    module _ (ready : (notes : Notes) × IsReady log idle notes) (before : List Instruction) (i : Instruction) (rest left longer : List Instruction) (parts : b.instructions ≡ before ++ i ∷ rest)
        (go : (later : List Instruction) → AreSaid (assignments_of idle) log (graph_of idle) n b.end (i ∷ rest) later → AreSaid (assignments_of idle) log (graph_of idle) n b.end b.instructions (left ++ later)) where
      abbrev IsLeft : List Instruction → Type 0
      IsLeft l = AreSaid (assignments_of idle) log (graph_of idle) n b.end b.instructions l

      said_gone : is_going (turn_of idle.turns.items) n (length rest) ≡ true → longer ≡ left ++ without i → (later : List Instruction) → AreSaid (assignments_of idle) log (graph_of idle) n b.end rest later → IsLeft (longer ++ later)
      said_gone going grown later said =
          subst IsLeft (sym (append_assoc left (without i) later) ∙ ap (λ l. l ++ later) (sym grown)) (go (without i ++ later) (gone ((ready.1.borne_out.goes.goes n b before rest i visited.is parts).0 going) said))

      said_stayed : is_going (turn_of idle.turns.items) n (length rest) ≡ false → IsSaidBehind (assignments_of idle) log (graph_of idle) n b i rest left longer → (later : List Instruction) → AreSaid (assignments_of idle) log (graph_of idle) n b.end rest later → IsLeft (longer ++ later)
      said_stayed staying behind later said =
          subst IsLeft (sym (append_assoc left (behind.left ∷ []) later) ∙ ap (λ l. l ++ later) (sym behind.is))
          (go (behind.left ∷ later) (stays (λ is. true≢false (sym ((ready.1.borne_out.goes.goes n b before rest i visited.is parts).1 is) ∙ staying)) behind.says said))

    said_on : (going : Bool) (i : Instruction) (left longer : List Instruction) → IsPushed going i left longer → (P : Type 0) → (going ≡ true → longer ≡ left ++ without i → P) → (going ≡ false → P) → P
    said_on going i left longer (went is grown) P one other = one is grown
    said_on going i left longer (stayed is kept grown) P one other = other is

    -- the walk goes on over an instruction
    walk_next : (going : Bool) (at : NotePoint) (count : ℕ) (place next : Option ℕ) (old new : Notes) (i : Instruction) (rest left longer : List Instruction) → at.spot ≡ record { block = n; left = count } → ((p : ℕ) → place ≡ Some p → at.place.0 ≡ p)
        → length rest ≡ count → going ≡ is_going (turn_of idle.turns.items) n count → IsPushed going i left longer
        → ((before : List Instruction) → going ≡ false → IsReady log idle old → IsHere idle old at b before i rest → IsSaidBehind (assignments_of idle) log (graph_of idle) at.spot.block b i rest left longer)
        → (IsReady log idle old → IsReady log idle new)
        → ((before : List Instruction) → IsReady log idle old → HasComeBehind idle old n before (suc count) → HasComeBehind idle new n (before ++ i ∷ []) count)
        → ((before : List Instruction) → place ≡ place_behind before b.place → next ≡ place_behind (before ++ i ∷ []) b.place)
        → IsUnderWay old place (i ∷ rest) left → IsUnderWay new next rest longer
    walk_next going at count place next old new i rest left longer spot in_place counts is pushed behind ready come in_force w =
        let told : is_going (turn_of idle.turns.items) n (length rest) ≡ going = ap (is_going (turn_of idle.turns.items) n) counts ∙ sym is in
        let block : at.spot.block ≡ n = ap (λ (s : Spot). s.block) spot in
        record {
          ready = ready w.ready;
          before = w.before ++ i ∷ [];
          instructions = w.instructions ∙ sym (append_assoc w.before (i ∷ []) rest);
          in_force = in_force w.before w.in_force;
          come = subst (λ k. HasComeBehind idle new n (w.before ++ i ∷ []) k) (sym counts) (come w.before w.ready (subst (λ k. HasComeBehind idle old n w.before (suc k)) counts w.come));
          said = said_on going i left longer pushed ((later : List Instruction) → AreSaid (assignments_of idle) log (graph_of idle) n b.end rest later → AreSaid (assignments_of idle) log (graph_of idle) n b.end b.instructions (longer ++ later))
              (λ goes grown. said_gone (old, w.ready) w.before i rest left longer w.instructions w.said (told ∙ goes) grown)
              (λ staying. said_stayed (old, w.ready) w.before i rest left longer w.instructions w.said (told ∙ staying)
              (subst (λ k. IsSaidBehind (assignments_of idle) log (graph_of idle) k b i rest left longer) block (behind w.before staying w.ready (here_now old at count place i rest left spot in_place counts w))));
        }

    pub walk_on : {A : Type 0} (view : A → Instruction) (ahead : List A) (x : A) (going : Bool) (at : NotePoint) (count : ℕ) (place next : Option ℕ) (old new : Notes) (left longer : List Instruction) → 1 ≤ length ahead → x ≡ get_or ahead 0 x
        → at.spot ≡ record { block = n; left = count } → ((p : ℕ) → place ≡ Some p → at.place.0 ≡ p) → count ≡ length (take (length ahead - 1) (drop 1 ahead)) → going ≡ is_going (turn_of idle.turns.items) n count → IsPushed going (view x) left longer
        → ((before rest : List Instruction) → going ≡ false → IsReady log idle old → IsHere idle old at b before (view x) rest → IsSaidBehind (assignments_of idle) log (graph_of idle) at.spot.block b (view x) rest left longer)
        → (IsReady log idle old → IsReady log idle new)
        → ((before : List Instruction) → IsReady log idle old → HasComeBehind idle old n before (suc count) → HasComeBehind idle new n (before ++ view x ∷ []) count)
        → ((before : List Instruction) → place ≡ place_behind before b.place → next ≡ place_behind (before ++ view x ∷ []) b.place)
        → IsUnderWay old place (map view ahead) left → IsUnderWay new next (map view (take (length ahead - 1) (drop 1 ahead))) longer
    walk_on view [] x going at count place next old new left longer le e spot in_place counts is pushed behind ready come in_force w = absurd (omega (arith, le))
    walk_on view (y ∷ ahead) x going at count place next old new left longer le e spot in_place counts is pushed behind ready come in_force w =
        let counted : length (map view ahead) ≡ count = length-map ahead view ∙ sym (counts ∙ ap (λ l. length l) (rest_is y ahead)) in
        let here : IsUnderWay old place (view x ∷ map view ahead) left = subst (λ z. IsUnderWay old place (view z ∷ map view ahead) left) (sym e) w in
        subst (λ zs. IsUnderWay new next (map view zs) longer) (sym (rest_is y ahead))
        (walk_next going at count place next old new (view x) (map view ahead) left longer spot in_place counted is pushed (λ before. behind before (map view ahead)) ready come in_force here)

  -- the walk begins
  pub walk_first : (notes : Notes) (place : Option ℕ) (all : List Instruction) → IsReady log idle notes → HasComeBehind idle notes n [] (length all) → b.place ≡ place → b.instructions ≡ all → IsUnderWay notes place all []
  walk_first notes place all ready come kept parts =
      record { ready = ready; before = []; instructions = parts; in_force = sym kept; come = come; said = λ later said. subst (λ l. AreSaid (assignments_of idle) log (graph_of idle) n b.end l later) (sym parts) said }

  -- and is done
  pub walk_done : {A : Type 0} (view : A → Instruction) (ahead : List A) (notes : Notes) (place : Option ℕ) (left : List Instruction) → length ahead < 1 → IsUnderWay notes place (map view ahead) left → AreSaid (assignments_of idle) log (graph_of idle) n b.end b.instructions left
  walk_done view [] notes place left lt w = subst (λ l. AreSaid (assignments_of idle) log (graph_of idle) n b.end b.instructions l) (append_nil left) (w.said [] ends)
  walk_done view (y ∷ ahead) notes place left lt w = absurd (omega (arith, lt))

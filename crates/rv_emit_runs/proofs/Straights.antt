-- The machine does the step of an instruction that goes straight on, or that fills an object.
use Rattle.std.proofs.Common.{◌≡◌, ℕ, ◌+◌, ◌*◌, ◌≤◌, sym, ap, ◌∙◌, subst, arith, refl, Option, Some, None, false, List, [], ◌∷◌, length, map, slice_get}
use Rattle.std.specs.Prelude.{option_map, option_and_then}
use Rattle.rv_code.specs.declared.instruction.Instruction.{Instruction as MachineInstruction}
use Rattle.graph_core.specs.Graphs.{Instruction, Marker, Note, Move, Operate, Truncate, Same, Address, Load, Store, Zero, CopyWords, Call}
use Rattle.graph_core.specs.Memory.{Memory, zeroed, copied}
use Rattle.graph_core.specs.Runs.{Configuration, Stepped, Goes, Shows, Ends as EndsUnit, Wild, with_memory, execute, step, step_from}
use Rattle.graph_core.specs.Uses.{target_of}
use Rattle.graph_core.specs.Validity.{IsValid, IsInstruction, KeepsPlace}
use Rattle.graph_homes.specs.declared.home.Home.{Home}
use Rattle.graph_homes.specs.Homed.{HomedForm, HaveHomes, home_of, placed_instruction, over_homes}
use Rattle.rv_emit_tables.specs.Emitted.{EmittedForm}
use Rattle.rv_emit_words.specs.declared.piece.Held.{Held}
use Rattle.rv_emit_storage.specs.Storages.{home_at}
use Rattle.rv_emit_words.specs.Growing.{CodeState, with_code}
use Rattle.rv_emit_words.proofs.Appending.{with_code_held}
use Rattle.rv_emit_instructions.specs.Code.{with_instruction}
use Rattle.rv_emit_instructions.specs.Filling.{zero_code, copy_code}
use Rattle.rv_emit_steps.specs.Programs.{CodeAt, behind}
use Rattle.rv_emit_steps.specs.Points.{Point}
use Rattle.rv_emit_steps.specs.Frames.{Setting, DoesStep as DoesUnitStep, IsStraight, straight_code}
use Rattle.rv_emit_steps.proofs.Steps.{going_on, straight_appended, step_done}
use Rattle.rv_emit_runs.specs.Keeping.{IsTargetAmong, IsSaved}
use Rattle.rv_emit_runs.specs.Placed.{PlacedAt}
use Rattle.rv_emit_runs.specs.Returns.{Resumes}
use Rattle.rv_emit_runs.specs.Waiting.{FunctionCode, setting_of}
use Rattle.rv_emit_runs.proofs.Filling.{zero_all, copy_all}
use Rattle.rv_emit_runs.proofs.Saved.{instruction_saved}
use Rattle.rv_emit_runs.proofs.Stepping.{target_among, straight_comes}
use Rattle.rv_emit_runs.specs.Laid.{graph_at, IsCode}
use Rattle.rv_emit_runs.proofs.Frames.{all_codes}
use Rattle.rv_emit_runs.proofs.Lists.{get_among}
use Rattle.rv_emit_runs.proofs.Places.{IsNoMarker, keeps_same, unmarked_keeps, unmarked_behind}
use Rattle.rv_emit_runs.proofs.Related.{GoesOn, Related, DoesStep, does_within, come_unseen}
use Rattle.rv_emit_runs.proofs.Rest.{program_in, codes_in, blocks_in, places_in, position_of, RestFrom, NextAt, next_at, rest_behind, next_among}
use Rattle.rv_emit_runs.proofs.States.{growing, going_on_from, code_goes_on, code_there, pieces_of_code}
use Rattle.rv_emit_runs.proofs.Tracks.{pieces_of, passed_by, Advances, passes_one, calls_function}
use Rattle.rv_emit_runs.proofs.UnitSteps.{spot_of, KeepsSpot, IsPlain, execute_spot}

-- An instruction that goes straight on is no marker and calls nothing, also over homes.
straight_unmarked : (x : Instruction) → IsStraight x → IsNoMarker x
straight_unmarked (Marker p) straight = absurd straight
straight_unmarked (Note x v) straight = tt
straight_unmarked (Move x a) straight = tt
straight_unmarked (Operate x op a b) straight = tt
straight_unmarked (Truncate x t a) straight = tt
straight_unmarked (Same x a b) straight = tt
straight_unmarked (Address x object) straight = tt
straight_unmarked (Load x e l) straight = tt
straight_unmarked (Store e l a) straight = tt
straight_unmarked (Zero object words) straight = absurd straight
straight_unmarked (CopyWords object bytes words) straight = absurd straight
straight_unmarked (Call target f all) straight = absurd straight

straight_calls : (x : Instruction) → IsStraight x → calls_function x ≡ false
straight_calls (Marker p) straight = refl
straight_calls (Note x v) straight = refl
straight_calls (Move x a) straight = refl
straight_calls (Operate x op a b) straight = refl
straight_calls (Truncate x t a) straight = refl
straight_calls (Same x a b) straight = refl
straight_calls (Address x object) straight = refl
straight_calls (Load x e l) straight = refl
straight_calls (Store e l a) straight = refl
straight_calls (Zero object words) straight = refl
straight_calls (CopyWords object bytes words) straight = refl
straight_calls (Call target f all) straight = absurd straight

straight_plain : (home : ℕ → Home) (x : Instruction) → IsStraight x → IsPlain (placed_instruction home x)
straight_plain home (Marker p) straight = absurd straight
straight_plain home (Note x v) straight = tt
straight_plain home (Move x a) straight = tt
straight_plain home (Operate x op a b) straight = tt
straight_plain home (Truncate x t a) straight = tt
straight_plain home (Same x a b) straight = tt
straight_plain home (Address x object) straight = tt
straight_plain home (Load x e l) straight = tt
straight_plain home (Store e l a) straight = tt
straight_plain home (Zero object words) straight = absurd straight
straight_plain home (CopyWords object bytes words) straight = absurd straight
straight_plain home (Call target f all) straight = absurd straight

module _ (h : HomedForm) (valid : IsValid h.unit) (homed : HaveHomes h) (e : EmittedForm) (code : IsCode h e) (c : Configuration) (q : Point) (r : Related h e code c q) (x : Instruction) (more : List Instruction) (is : r.rest.more ≡ x ∷ more) where
  abbrev f : FunctionCode
  f = codes_in h e code c.here.function

  abbrev home : ℕ → Home
  home = home_at (codes_in h e code c.here.function).storage

  abbrev rest : List Instruction
  rest = map (placed_instruction (home_at (codes_in h e code c.here.function).storage)) more

  pub rest_is : c.here.rest ≡ placed_instruction (home_at (codes_in h e code c.here.function).storage) x ∷ map (placed_instruction (home_at (codes_in h e code c.here.function).storage)) more
  rest_is = r.rest.rest ∙ ap (λ l. map (placed_instruction home) l) is

  -- What it is to do is what the step does.
  pub step_is : step (over_homes h) c ≡ execute (over_homes h) (placed_instruction (home_at (codes_in h e code c.here.function).storage) x) (going_on c (map (placed_instruction (home_at (codes_in h e code c.here.function).storage)) more))
  step_is = ap (λ l. step_from (over_homes h) l c) rest_is

  next : NextAt h e code (spot_of c.here) r.index r.held q.shown r.rest x more
  next = next_at h e code (spot_of c.here) r.index r.held q.shown r.rest x more is

  -- A step to a configuration in which the activation is where it was, behind words of an instruction that begins no place.
  pub words_done : (words : List MachineInstruction) (later : List Held) → IsNoMarker x
      → with_instruction (codes_in h e code c.here.function).storage (codes_in h e code c.here.function).graph.entry x (growing r.held r.rest.owner q.shown) ≡ record (with_code words (growing r.held r.rest.owner q.shown)) { held = later }
      → (d : Configuration) → spot_of d.here ≡ spot_of (going_on c (map (placed_instruction (home_at (codes_in h e code c.here.function).storage)) more)).here
      → CodeAt (program_in h e code) r.index q.shown words × RestFrom h e code (passed_by (position_of r.rest) x more) (spot_of d.here) (r.index + length words) later (behind q.shown words)
  words_done words later unmarked appended d spot =
      let s : CodeState = growing r.held r.rest.owner q.shown in
      let there = code_there (program_in h e code) (places_in h e code c.here.function) r.index next.behind_it words s refl
      (subst (λ (t : CodeState). PlacedAt (program_in h e code) (places_in h e code c.here.function) r.index t.pieces next.behind_it) appended next.there) in
      let state : going_on_from (with_instruction f.storage f.graph.entry x s) ≡ growing later r.rest.owner (behind q.shown words) =
      ap going_on_from appended ∙ ap (λ (t : CodeState). growing later t.owner t.begins) (code_goes_on words s) in
      let behind_it = rest_behind h e code (spot_of c.here) r.index r.held q.shown r.rest x more is next c.here.place r.rest.owner later (behind q.shown words) state
      (keeps_same more (Some r.rest.owner) (Some c.here.place) (unmarked_keeps x more (Some r.rest.owner) (Some c.here.place) unmarked (subst (λ l. KeepsPlace l (Some r.rest.owner) (Some c.here.place)) is r.rest.owned))) (unmarked_behind x more (Some c.here.place) unmarked) (unmarked_behind x [] (Some c.here.place) unmarked) in
      (there.0, subst (λ k. RestFrom h e code (passed_by (position_of r.rest) x more) (spot_of d.here) k later (behind q.shown words)) there.1 (subst (λ p. RestFrom h e code (passed_by (position_of r.rest) x more) p next.behind_it later (behind q.shown words)) (sym spot) behind_it))

  -- The words are no more than the pieces of the instruction.
  pub words_few : (words : List MachineInstruction) (later : List Held)
      → with_instruction (codes_in h e code c.here.function).storage (codes_in h e code c.here.function).graph.entry x (growing r.held r.rest.owner q.shown) ≡ record (with_code words (growing r.held r.rest.owner q.shown)) { held = later }
      → length words ≤ pieces_of (codes_in h e code c.here.function).storage (codes_in h e code c.here.function).graph.entry x (growing r.held r.rest.owner q.shown)
  words_few words later appended =
      let many = pieces_of_code words (growing r.held r.rest.owner q.shown) in
      let same = ap (λ (t : CodeState). length t.pieces) appended in
      omega (arith, many, same)

  -- The activation passes the instruction.
  pub passes_it : calls_function x ≡ false → Advances (blocks_in h e code) (position_of r.rest) (passed_by (position_of r.rest) x more)
  passes_it none = passes_one x more is none refl

  -- What is held behind words is what was held.
  words_held : (words : List MachineInstruction) → with_code words (growing r.held r.rest.owner q.shown) ≡ record (with_code words (growing r.held r.rest.owner q.shown)) { held = r.held }
  words_held words = let s : CodeState = growing r.held r.rest.owner q.shown in ap (λ l. record (with_code words s) { held = l }) (with_code_held words s)

  -- The register that it writes is one that the frame keeps.
  pub saved_is : IsTargetAmong (codes_in h e code c.here.function).slots (option_map (home_at (codes_in h e code c.here.function).storage) (target_of x)) → IsSaved (codes_in h e code c.here.function).saved (option_map (home_at (codes_in h e code c.here.function).storage) (target_of x))
  saved_is among =
      instruction_saved (home_of h c.here.function) (graph_at h.unit c.here.function) f.slots r.rest.block x (get_among f.graph.blocks r.rest.number r.rest.block r.rest.there) (next_among h e code (spot_of c.here) r.index r.held q.shown r.rest x more is) among

  -- ---- One that goes straight on

  straight_unseen : IsStraight x → IsInstruction (over_homes h) (codes_in h e code c.here.function).graph x → (d : Configuration) → step (over_homes h) c ≡ Goes d → DoesStep h e code (position_of r.rest) (pieces_of (codes_in h e code c.here.function).storage (codes_in h e code c.here.function).graph.entry x (growing r.held r.rest.owner q.shown)) q (Goes d)
  straight_unseen straight legal d goes =
      let words = straight_code f.storage r.held x in
      let w : Setting = setting_of (over_homes h) r.addresses r.held f in
      let s : CodeState = growing r.held r.rest.owner q.shown in
      let codes_valid = all_codes h valid homed code.arrangement (over_homes h) in
      let spot : spot_of d.here ≡ spot_of (going_on c rest).here = subst (λ z. KeepsSpot (going_on c rest) z) (sym step_is ∙ goes) (execute_spot (over_homes h) (placed_instruction home x) (going_on c rest) (straight_plain home x straight)) in
      let appended = straight_appended f.storage f.graph.entry x s straight ∙ words_held words in
      let done = words_done words r.held (straight_unmarked x straight) appended d spot in
      let saved = saved_is (target_among w x ((codes_valid c.here.function).storage r.addresses r.held) legal straight) in
      does_within h e code (position_of r.rest) (length words) _ q (Goes d) (words_few words r.held appended)
      (come_unseen h e code (position_of r.rest) (passed_by (position_of r.rest) x more) q r.index (length words) (r.index + length words) (behind q.shown words) r.addresses r.held d
      (straight_comes (codes_in h e code) (over_homes h) codes_valid r.addresses (Resumes (program_in h e code) (codes_in h e code) (GoesOn h e code)) (program_in h e code) q.state r.index q.shown r.held c d r.holding x rest r.all r.stands done.0 rest_is legal straight saved goes)
      done.1 (passes_it (straight_calls x straight)))

  pub straight_step : IsStraight x → IsInstruction (over_homes h) (codes_in h e code c.here.function).graph x → DoesStep h e code (position_of r.rest) (pieces_of (codes_in h e code c.here.function).storage (codes_in h e code c.here.function).graph.entry x (growing r.held r.rest.owner q.shown)) q (step (over_homes h) c)
  straight_step straight legal = by_step (step (over_homes h) c) refl
    where
      never : (z : Stepped) → step (over_homes h) c ≡ z
          → DoesUnitStep (setting_of (over_homes h) r.addresses r.held (codes_in h e code c.here.function)) (going_on c (map (placed_instruction (home_at (codes_in h e code c.here.function).storage)) more)) r.holding (option_map (home_at (codes_in h e code c.here.function).storage) (target_of x))
          (straight_code (codes_in h e code c.here.function).storage r.held x) z
      never z is_z =
          let w : Setting = setting_of (over_homes h) r.addresses r.held f in
          subst (λ y. DoesUnitStep w (going_on c rest) r.holding (option_map home (target_of x)) (straight_code f.storage r.held x) y) is_z
          (step_done w c r.holding x rest ((all_codes h valid homed code.arrangement (over_homes h) c.here.function).storage r.addresses r.held) r.all.here r.stands.in_range rest_is legal straight)

      by_step : (z : Stepped) → step (over_homes h) c ≡ z → DoesStep h e code (position_of r.rest) (pieces_of (codes_in h e code c.here.function).storage (codes_in h e code c.here.function).graph.entry x (growing r.held r.rest.owner q.shown)) q z
      by_step (Goes d) is_z = straight_unseen straight legal d is_z
      by_step (Shows seen d) is_z = absurd (never (Shows seen d) is_z)
      by_step (EndsUnit seen) is_z = absurd (never (EndsUnit seen) is_z)
      by_step Wild is_z = tt

  -- ---- One that fills an object

  pub zero_step : (object words : ℕ) → x ≡ Zero object words → IsInstruction h.unit (codes_in h e code c.here.function).graph (Zero object words) → DoesStep h e code (position_of r.rest) (pieces_of (codes_in h e code c.here.function).storage (codes_in h e code c.here.function).graph.entry x (growing r.held r.rest.owner q.shown) + 3 * words) q (step (over_homes h) c)
  zero_step object words same legal =
      subst (λ z. DoesStep h e code (position_of r.rest) (pieces_of (codes_in h e code c.here.function).storage (codes_in h e code c.here.function).graph.entry x (growing r.held r.rest.owner q.shown) + 3 * words) q z) (sym does) (by_memory (zeroed c.memory (c.here.first_object + object) words) refl)
    where
      does : step (over_homes h) c ≡ with_memory (going_on c (map (placed_instruction (home_at (codes_in h e code c.here.function).storage)) more)) (zeroed c.memory (c.here.first_object + object) words)
      does = step_is ∙ ap (λ i. execute (over_homes h) (placed_instruction home i) (going_on c rest)) same

      by_memory : (later : Option Memory) → zeroed c.memory (c.here.first_object + object) words ≡ later → DoesStep h e code (position_of r.rest) (pieces_of (codes_in h e code c.here.function).storage (codes_in h e code c.here.function).graph.entry x (growing r.held r.rest.owner q.shown) + 3 * words) q (with_memory (going_on c (map (placed_instruction (home_at (codes_in h e code c.here.function).storage)) more)) later)
      by_memory None made = tt
      by_memory (Some later) made =
          let code_of_it = zero_code f.storage object words in
          let d : Configuration = record (going_on c rest) { memory = later } in
          let s : CodeState = growing r.held r.rest.owner q.shown in
          let appended = ap (λ i. with_instruction f.storage f.graph.entry i s) same ∙ words_held code_of_it in
          let done = words_done code_of_it r.held (subst (λ i. IsNoMarker i) (sym same) tt) appended d refl in
          let few = words_few code_of_it r.held appended in
          does_within h e code (position_of r.rest) (length code_of_it + 3 * words) _ q (Goes d) (omega (arith, few))
          (come_unseen h e code (position_of r.rest) (passed_by (position_of r.rest) x more) q r.index (length code_of_it + 3 * words) (r.index + length code_of_it) (behind q.shown code_of_it) r.addresses r.held d
          (zero_all (codes_in h e code) (over_homes h) (all_codes h valid homed code.arrangement (over_homes h)) r.addresses (Resumes (program_in h e code) (codes_in h e code) (GoesOn h e code)) (program_in h e code) q.state r.index q.shown r.held c d r.holding r.all r.stands object words rest done.0
          (rest_is ∙ ap (λ i. placed_instruction home i ∷ rest) same) legal (does ∙ ap (with_memory (going_on c rest)) made))
          done.1 (passes_it (ap calls_function same)))

  pub copy_step : (object bytes words : ℕ) → x ≡ CopyWords object bytes words → IsInstruction h.unit (codes_in h e code c.here.function).graph (CopyWords object bytes words) → DoesStep h e code (position_of r.rest) (pieces_of (codes_in h e code c.here.function).storage (codes_in h e code c.here.function).graph.entry x (growing r.held r.rest.owner q.shown) + 5 * words) q (step (over_homes h) c)
  copy_step object bytes words same legal =
      subst (λ z. DoesStep h e code (position_of r.rest) (pieces_of (codes_in h e code c.here.function).storage (codes_in h e code c.here.function).graph.entry x (growing r.held r.rest.owner q.shown) + 5 * words) q z) (sym does) (by_memory (option_and_then (λ all. copied c.memory (c.here.first_object + object) all words) (slice_get h.unit.array_bytes bytes)) refl)
    where
      does : step (over_homes h) c
          ≡ with_memory (going_on c (map (placed_instruction (home_at (codes_in h e code c.here.function).storage)) more)) (option_and_then (λ all. copied c.memory (c.here.first_object + object) all words) (slice_get h.unit.array_bytes bytes))
      does = step_is ∙ ap (λ i. execute (over_homes h) (placed_instruction home i) (going_on c rest)) same

      by_memory : (later : Option Memory) → option_and_then (λ all. copied c.memory (c.here.first_object + object) all words) (slice_get h.unit.array_bytes bytes) ≡ later
          → DoesStep h e code (position_of r.rest) (pieces_of (codes_in h e code c.here.function).storage (codes_in h e code c.here.function).graph.entry x (growing r.held r.rest.owner q.shown) + 5 * words) q (with_memory (going_on c (map (placed_instruction (home_at (codes_in h e code c.here.function).storage)) more)) later)
      by_memory None made = tt
      by_memory (Some later) made =
          let code_of_it = copy_code f.storage r.held object bytes words in
          let d : Configuration = record (going_on c rest) { memory = later } in
          let s : CodeState = growing r.held r.rest.owner q.shown in
          let appended = ap (λ i. with_instruction f.storage f.graph.entry i s) same ∙ words_held code_of_it in
          let done = words_done code_of_it r.held (subst (λ i. IsNoMarker i) (sym same) tt) appended d refl in
          let few = words_few code_of_it r.held appended in
          does_within h e code (position_of r.rest) (length code_of_it + 5 * words) _ q (Goes d) (omega (arith, few))
          (come_unseen h e code (position_of r.rest) (passed_by (position_of r.rest) x more) q r.index (length code_of_it + 5 * words) (r.index + length code_of_it) (behind q.shown code_of_it) r.addresses r.held d
          (copy_all (codes_in h e code) (over_homes h) (all_codes h valid homed code.arrangement (over_homes h)) r.addresses (Resumes (program_in h e code) (codes_in h e code) (GoesOn h e code)) (program_in h e code) q.state r.index q.shown r.held c d r.holding r.all r.stands object bytes words rest done.0
          (rest_is ∙ ap (λ i. placed_instruction home i ∷ rest) same) legal (does ∙ ap (with_memory (going_on c rest)) made))
          done.1 (passes_it (ap calls_function same)))

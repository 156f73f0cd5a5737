-- The machine does each step of the unit over homes.
use Rattle.std.proofs.Common.{◌≡◌, ℕ, ◌+◌, ◌-◌, ◌*◌, subst, arith, refl, false, List, [], ◌∷◌, length}
use Rattle.std.specs.Prelude.{◌==◌}
use Rattle.rv_code.specs.declared.instruction.Instruction.TheVariants as instruction
use Rattle.rv_code.specs.declared.instruction.ImmediateOperation.TheVariants.{Addi}
use Rattle.graph_core.specs.declared.instruction.Callee.TheVariants as callee
use Rattle.graph_core.specs.Graphs.{Instruction, Marker, Note, NoteValue, Is, Gone, Move, Operate, Truncate, Same, Address, Load, Store, Zero, CopyWords, Call, End, Graph}
use Rattle.graph_core.specs.Paths.{Among}
use Rattle.graph_core.specs.Runs.{Configuration, step}
use Rattle.graph_core.specs.Validity.{IsValid, IsInstruction, IsNoteValue}
use Rattle.graph_homes.specs.Homed.{HomedForm, HaveHomes, over_homes}
use Rattle.rv_emit_tables.specs.Emitted.{EmittedForm}
use Rattle.rv_emit_steps.specs.Programs.{Program, IsAt}
use Rattle.rv_emit_steps.specs.Points.{Point}
use Rattle.rv_emit_storage.specs.Storages.{StorageForm}
use Rattle.rv_emit_words.specs.Growing.{CodeState}
use Rattle.rv_emit_code.specs.Beginning.{beginning_behind}
use Rattle.rv_emit_code.specs.Blocks.{no_code, with_stub}
use Rattle.memory_map.specs.Maps.{stub_words}
use Rattle.memory_map.proofs.Facts.{map_facts}
use Rattle.rv_emit_runs.specs.Pieces.{Targets, IsJump}
use Rattle.rv_emit_runs.specs.Placed.{PlacedAt}
use Rattle.rv_emit_runs.specs.Returns.{EndsMain}
use Rattle.rv_emit_runs.specs.Waiting.{FunctionCode}
use Rattle.rv_emit_runs.proofs.Running.{StubAt}
use Rattle.rv_emit_runs.specs.Laid.{Arrangement, code_of, HasWords, IsCode}
use Rattle.rv_emit_runs.proofs.Calls.{getchar_step, putchar_step, exit_step, function_step}
use Rattle.rv_emit_runs.proofs.EndSteps.{longest_end, end_step}
use Rattle.rv_emit_runs.proofs.Marks.{marker_step}
use Rattle.rv_emit_runs.proofs.Related.{Related, DoesStep}
use Rattle.rv_emit_runs.proofs.Rest.{program_in, codes_in, places_in, position_of, next_among, next_valid, next_words}
use Rattle.rv_emit_runs.proofs.States.{growing}
use Rattle.rv_emit_runs.proofs.Straights.{straight_step, zero_step, copy_step}
use Rattle.rv_emit_runs.proofs.Tracks.{pieces_of}
use Rattle.rv_emit_runs.proofs.UnitSteps.{spot_of}

-- ---- What stands before all functions

-- Its words, and whose they are.
pub record StubThere (p : Program) (t : Targets) (main : ℕ) : Type 0 where
  pub stub : StubAt p (t.function main)
  pub ends : EndsMain p
  pub owned : t.owner (stub_words p.map - 3) ≡ 0

stub_is : (p : Program) (t : Targets) (main : ℕ) → PlacedAt p t 0 (with_stub p.map main (no_code 0 [])).pieces (stub_words p.map) → StubThere p t main
stub_is p t main (k1, (a1, n1), o1, (k2, (a2, n2), o2, (k3, a3, o3, (k4, (a4, n4), o4, (k5, (a5, n5), o5, end))))) =
    let is1 : k1 ≡ 1 = omega (arith, n1) in
    let is2 : k2 ≡ 2 = omega (arith, n1, n2) in
    let some = (map_facts p.map).stub in
    let is3 : k3 ≡ stub_words p.map - 2 = omega (arith, n4, n5, end, some) in
    let is4 : k4 ≡ stub_words p.map - 2 + 1 = omega (arith, n4, is3) in
    record {
      stub = record {
        sp = a1;
        tp = subst (λ k. IsAt p k false (instruction.Immediate Addi 4 0 1024)) is1 a2;
        call = subst (λ k. IsJump p k false 1 1 (t.function main) (stub_words p.map - 2)) is2 (subst (λ k. IsJump p k2 false 1 1 (t.function main) k) is3 a3);
      };
      ends = (subst (λ k. IsAt p k false (instruction.Immediate Addi 17 0 10)) is3 a4, (subst (λ k. IsAt p k false instruction.Ecall) is4 a5, tt));
      owned = o3 (stub_words p.map - 3) (omega (arith, is2, some)) (omega (arith, is3, some));
    }

pub stub_there : (h : HomedForm) (e : EmittedForm) (code : IsCode h e) → StubThere (program_in h e code) (places_in h e code h.unit.main) h.unit.main
stub_there h e code = stub_is (program_in h e code) (places_in h e code h.unit.main) h.unit.main code.stub

-- ---- Steps

-- How many instructions the machine takes at most for one of the unit: as many as its code has pieces; where words are set or copied, three or five more for each of them;
-- and where a function is called, by one word or two, also those with which that begins.
abbrev pub longest_of : HomedForm → Arrangement → StorageForm → (entry : ℕ) → Instruction → CodeState → ℕ
longest_of h a g entry (Zero object count) s = pieces_of g entry (Zero object count) s + 3 * count
longest_of h a g entry (CopyWords object bytes count) s = pieces_of g entry (CopyWords object bytes count) s + 5 * count
longest_of h a g entry (Call target (callee.Function f) all) s =
    pieces_of g entry (Call target (callee.Function f) all) s + 4 + length (beginning_behind (code_of h a f).storage (code_of h a f).graph (code_of h a f).saved (code_of h a f).size (f == h.unit.main))
longest_of h a g entry x s = pieces_of g entry x s

-- And for what is next where these instructions and this end are left of a block, of which so many words stand there.
abbrev pub longest_from : HomedForm → Arrangement → FunctionCode → (words : ℕ) → End → List Instruction → CodeState → ℕ
longest_from h a c n last [] s = longest_end c.saved c.size n last
longest_from h a c n last (x ∷ more) s = longest_of h a c.storage c.graph.entry x s

note_valid : (h : HomedForm) (g : Graph) (v : NoteValue) → IsNoteValue h.unit g v → IsNoteValue (over_homes h) g v
note_valid h g (Is r) is = is
note_valid h g (Gone change) is = is

module _ (h : HomedForm) (valid : IsValid h.unit) (homed : HaveHomes h) (e : EmittedForm) (code : IsCode h e) (c : Configuration) (q : Point) (r : Related h e code c q) where
  -- The next instruction.
  instruction_step : (x : Instruction) (more : List Instruction) → r.rest.more ≡ x ∷ more → IsInstruction h.unit (codes_in h e code c.here.function).graph x → HasWords x → DoesStep h e code (position_of r.rest) (longest_of h code.arrangement (codes_in h e code c.here.function).storage (codes_in h e code c.here.function).graph.entry x (growing r.held r.rest.owner q.shown)) q (step (over_homes h) c)
  instruction_step (Marker p) more is legal words = marker_step h valid homed e code c q r p more is
  instruction_step (Note x v) more is legal words = straight_step h valid homed e code c q r (Note x v) more is tt (legal.0, note_valid h (codes_in h e code c.here.function).graph v legal.1)
  instruction_step (Move x a) more is legal words = straight_step h valid homed e code c q r (Move x a) more is words legal
  instruction_step (Operate x op a b) more is legal words = straight_step h valid homed e code c q r (Operate x op a b) more is words legal
  instruction_step (Truncate x t a) more is legal words = straight_step h valid homed e code c q r (Truncate x t a) more is words legal
  instruction_step (Same x a b) more is legal words = straight_step h valid homed e code c q r (Same x a b) more is words legal
  instruction_step (Address x object) more is legal words = straight_step h valid homed e code c q r (Address x object) more is tt legal
  instruction_step (Load x element l) more is legal words = straight_step h valid homed e code c q r (Load x element l) more is words legal
  instruction_step (Store element l a) more is legal words = straight_step h valid homed e code c q r (Store element l a) more is words legal
  instruction_step (Zero object count) more is legal words = zero_step h valid homed e code c q r (Zero object count) more is object count refl legal
  instruction_step (CopyWords object bytes count) more is legal words = copy_step h valid homed e code c q r (CopyWords object bytes count) more is object bytes count refl legal
  instruction_step (Call target callee.Getchar all) more is legal words = getchar_step h valid homed e code c q r target callee.Getchar all more is legal.0 legal.1 words refl legal.2
  instruction_step (Call target callee.Putchar all) more is legal words = putchar_step h valid homed e code c q r target callee.Putchar all more is legal.0 legal.1 words refl legal.2
  instruction_step (Call target callee.Exit all) more is legal words = exit_step h valid homed e code c q r target callee.Exit all more is legal.0 legal.1 words refl legal.2
  instruction_step (Call target (callee.Function f) all) more is legal words = function_step h valid homed e code c q r target (callee.Function f) all more is legal.0 legal.1 words f refl legal.2

  -- Whatever is left of the block.
  pub step_done : DoesStep h e code (position_of r.rest) (longest_from h code.arrangement (codes_in h e code c.here.function) (code.arrangement.label c.here.function r.rest.at.next - r.index) r.rest.block.end r.rest.more (growing r.held r.rest.owner q.shown)) q (step (over_homes h) c)
  step_done = by_more r.rest.more refl
    where
      by_more : (more : List Instruction) → r.rest.more ≡ more → DoesStep h e code (position_of r.rest) (longest_from h code.arrangement (codes_in h e code c.here.function) (code.arrangement.label c.here.function r.rest.at.next - r.index) r.rest.block.end more (growing r.held r.rest.owner q.shown)) q (step (over_homes h) c)
      by_more [] is = end_step h valid homed e code (stub_there h e code).ends c q r is
      by_more (x ∷ more) is =
          let among : Among x r.rest.block.instructions = next_among h e code (spot_of c.here) r.index r.held q.shown r.rest x more is in
          instruction_step x more is (next_valid h e code valid (spot_of c.here) r.index r.held q.shown r.rest x among) (next_words h e code (spot_of c.here) r.index r.held q.shown r.rest x among)

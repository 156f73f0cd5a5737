-- Code in parts, and stretches one behind the other.
use Rattle.std.proofs.Common.{◌≡◌, ℕ, ◌+◌, ◌∙◌, subst, arith, refl, List, [], ◌∷◌, ◌++◌, length, Bool, false}
use Rattle.rv_code.specs.declared.instruction.Instruction.{Instruction}
use Rattle.rv_code.specs.declared.instruction.Instruction.TheVariants.{Lui, Auipc, Jal, Jalr, Branch, Load, Store, Immediate, Register, Fence, Ecall, Ebreak}
use Rattle.rv_machine.specs.Run.{MachineEvent}
use Rattle.rv_emit_steps.specs.Holding.{Holding}
use Rattle.rv_emit_steps.specs.Doing.{done_by, done_by_all, CanDoAll}
use Rattle.rv_emit_steps.specs.Programs.{Program, CodeAt, behind}
use Rattle.rv_emit_steps.specs.Points.{Point, Ends, Reaches}
use Rattle.rv_emit_steps.proofs.Leading.{leads_then, leads_to_end}

-- The front of code.
pub code_front : (p : Program) (index : ℕ) (b : Bool) (front rest : List Instruction) → CodeAt p index b (front ++ rest) → CodeAt p index b front
code_front p index b [] rest h = tt
code_front p index b (i ∷ front) rest h = (h.0, code_front p (index + 1) false front rest h.1)

behind_none : (code : List Instruction) → behind false code ≡ false
behind_none [] = refl
behind_none (i ∷ code) = refl

-- What stands behind a front.
pub code_rest : (p : Program) (index : ℕ) (b : Bool) (front rest : List Instruction) → CodeAt p index b (front ++ rest) → CodeAt p (index + length front) (behind b front) rest
code_rest p index b [] rest h = let e : index ≡ index + 0 = omega arith in subst (λ j. CodeAt p j b rest) e h
code_rest p index b (i ∷ front) rest h =
    let e : index + 1 + length front ≡ index + length (i ∷ front) = omega arith in
    let r : CodeAt p (index + 1 + length front) (behind false front) rest = code_rest p (index + 1) false front rest h.1 in
    subst (λ c. CodeAt p (index + length (i ∷ front)) c rest) (behind_none front) (subst (λ j. CodeAt p j (behind false front) rest) e r)

-- What is done by code in two parts, and that it can be done.
pub done_by_both : (front rest : List Instruction) (h : Holding) → done_by_all (front ++ rest) h ≡ done_by_all rest (done_by_all front h)
done_by_both [] rest h = refl
done_by_both (i ∷ front) rest h = done_by_both front rest (done_by i h)

pub can_do_both : (front rest : List Instruction) (h : Holding) → CanDoAll front h → CanDoAll rest (done_by_all front h) → CanDoAll (front ++ rest) h
can_do_both [] rest h f r = r
can_do_both (i ∷ front) rest h f r = (f.0, can_do_both front rest (done_by i h) f.1 r)

-- No instruction moves the regions of memory.
region_stays : (i : Instruction) (h : Holding) → (done_by i h).regions ≡ h.regions
region_stays (Lui r n) h = refl
region_stays (Auipc r n) h = refl
region_stays (Jal r n) h = refl
region_stays (Jalr r a n) h = refl
region_stays (Branch op a b n) h = refl
region_stays (Load op r a n) h = refl
region_stays (Store op b a n) h = refl
region_stays (Immediate op r a n) h = refl
region_stays (Register op r a b) h = refl
region_stays (Fence r a n) h = refl
region_stays Ecall h = refl
region_stays Ebreak h = refl

pub regions_stay : (code : List Instruction) (h : Holding) → (done_by_all code h).regions ≡ h.regions
regions_stay [] h = refl
regions_stay (i ∷ more) h = regions_stay more (done_by i h) ∙ region_stays i h

-- A second stretch behind a first one.
pub reaches_then : (p : Program) (m n : ℕ) (from : Point) (seen : List MachineEvent) (j : ℕ) (shown : Bool) (g : Holding) (more : List MachineEvent) (k : ℕ) (last : Bool) (h : Holding)
    → (first : Reaches p m from seen j shown g) → Reaches p n (record { state = first.state; shown = shown }) more k last h → Reaches p (m + n) from (seen ++ more) k last h
reaches_then p m n from seen j shown g more k last h first second = record {
  state = second.state;
  leads = leads_then p.stops m n from seen (record { state = first.state; shown = shown }) more (record { state = second.state; shown = last }) first.leads second.leads;
  stands = second.stands;
}

-- The end behind a stretch.
pub reaches_end : (p : Program) (m n : ℕ) (from : Point) (seen : List MachineEvent) (j : ℕ) (shown : Bool) (g : Holding) (more : List MachineEvent)
    → (first : Reaches p m from seen j shown g) → Ends p.stops n (record { state = first.state; shown = shown }) more → Ends p.stops (m + n) from (seen ++ more)
reaches_end p m n from seen j shown g more first second = leads_to_end p.stops m n from seen (record { state = first.state; shown = shown }) more first.leads second

-- The words that pass arguments bring each into its register, and leave the frame as it stands.
use Rattle.std.proofs.Common.{◌≡◌, ◌≢◌, ℕ, ◌+◌, ◌<◌, ◌≤◌, ◌⊎◌, ⊎_elim, inl, inr, sym, ap, ◌∙◌, subst, arith, refl, cond, List, [], ◌∷◌, ◌++◌, length}
use Rattle.std.specs.List.{AllByRecursion}
use Rattle.std.proofs.lemmas.Bool.{lt-ltb, cases_eq}
use Rattle.rv_code.specs.declared.instruction.Instruction.{Instruction}
use Rattle.graph_core.specs.Graphs.{Operand, Name, Constant, StaticAddress}
use Rattle.graph_core.specs.Runs.{Configuration}
use Rattle.graph_core.specs.Validity.{IsOperand}
use Rattle.graph_homes.specs.declared.home.Home.{Home}
use Rattle.graph_homes.specs.declared.home.Home.TheVariants.{Register, Slot}
use Rattle.graph_homes.specs.Homed.{IsHomeAmong}
use Rattle.rv_emit_words.specs.declared.piece.Held.{Held}
use Rattle.rv_emit_words.specs.declared.piece.Piece.TheVariants as piece
use Rattle.rv_emit_storage.specs.declared.storage.Source.{Source}
use Rattle.rv_emit_storage.specs.declared.storage.Source.TheVariants.{Home as OfHome, Word}
use Rattle.rv_emit_storage.specs.Storages.{StorageForm, home_at, slot_at, source_of}
use Rattle.rv_emit_words.specs.Growing.{CodeState, with_code, with_piece, forgotten}
use Rattle.rv_emit_words.specs.Operands.{bringing}
use Rattle.rv_emit_instructions.specs.Calls.{argument_register, passed, passed_from}
use Rattle.rv_emit_steps.specs.Holding.{Holding, word_at}
use Rattle.rv_emit_steps.specs.Doing.{done_by_all, CanDoAll}
use Rattle.rv_emit_steps.proofs.Placing.{done_by_both, can_do_both, regions_stay}
use Rattle.rv_emit_steps.specs.EmitMovesDoing.{Brings, CanFetch, HoldsAll, IsLeft, IsReadable, value_of}
use Rattle.rv_emit_steps.proofs.Computing.{left_0, left_2, left_3, readable_stays}
use Rattle.rv_emit_steps.specs.Frames.{Setting, IsStorage, AreScratch, HoldsFrame}
use Rattle.rv_emit_steps.proofs.Operands.{operand_readable}
use Rattle.rv_emit_runs.specs.Passing.{passing_code, passing_held, ArePassed, AreWords}
use Rattle.rv_emit_runs.proofs.Bringing.{HoldsWords, read_fits, source_brought}
use Rattle.rv_emit_runs.proofs.Loading.{all_left, held_forgotten, scratch_forgotten}

-- ---- The code

-- ---- What they do

-- A register is none that arguments pass in from this number on.
abbrev pub IsBefore : (number register : ℕ) → Type 0
IsBefore n q = (q < 10 + n) ⊎ (17 < q)

-- Behind the words arguments are in their registers. No others are written but t0, memory and input are as they were, and scratch registers hold what is not forgotten.
pub record Passes (g : StorageForm) (code : List Instruction) (later : List Held) (h before : Holding) (n : ℕ) (all : List Operand) : Type 0 where
  pub can : CanDoAll code h
  pub passed : ArePassed g before (done_by_all code h) n all
  pub kept : (q : ℕ) → q ≢ 5 → IsBefore n q → (done_by_all code h).registers q ≡ h.registers q
  pub memory : (done_by_all code h).memory ≡ h.memory
  pub input : (done_by_all code h).input ≡ h.input
  pub all_held : HoldsAll later (done_by_all code h)
  pub scratch : AreScratch later

-- A register is none that arguments pass in.
abbrev pub IsNoArgument : ℕ → Type 0
IsNoArgument q = (q < 10) ⊎ (17 < q)

-- What is read is in no register that arguments pass in.
abbrev pub IsHomeSource : Source → Type 0
IsHomeSource (OfHome (Register r)) = IsNoArgument r
IsHomeSource (OfHome (Slot k)) = Unit {0}
IsHomeSource (Word n) = Unit {0}

abbrev pub AreHomeSources : StorageForm → List Operand → Type 0
AreHomeSources g [] = Unit {0}
AreHomeSources g (a ∷ more) = IsHomeSource (source_of g a) × AreHomeSources g more

home_no_argument : (slots : ℕ) (home : Home) → IsHomeAmong slots home → IsHomeSource (OfHome home)
home_no_argument slots (Register r) (inl is) = inl (omega (arith, is))
home_no_argument slots (Register r) (inr (low, high)) = inr (omega (arith, low))
home_no_argument slots (Slot k) among = tt

source_same : (g : StorageForm) (h t : Holding) (source : Source) → ((q : ℕ) → IsLeft q → IsNoArgument q → t.registers q ≡ h.registers q) → t.memory ≡ h.memory → IsHomeSource source → IsReadable g h source → value_of g t source ≡ value_of g h source
source_same g h t (OfHome (Register r)) kept memory is can = kept r can is
source_same g h t (OfHome (Slot k)) kept memory is can = ap (λ s. word_at t.memory (s + slot_at g k)) (kept 2 left_2 (inl (omega arith))) ∙ ap (λ (m : ℕ → ℕ). word_at m (h.registers 2 + slot_at g k)) memory
source_same g h t (Word n) kept memory is can = refl

-- What is to be read can be, and is the same as at the start.
abbrev pub AreReadable : StorageForm → (before h : Holding) → List Operand → Type 0
AreReadable g before h [] = Unit {0}
AreReadable g before h (a ∷ more) = IsReadable g h (source_of g a) × (value_of g h (source_of g a) ≡ value_of g before (source_of g a)) × AreReadable g before h more

still_readable : (g : StorageForm) (before h t : Holding) (all : List Operand) → t.regions ≡ h.regions → ((q : ℕ) → IsLeft q → IsNoArgument q → t.registers q ≡ h.registers q) → t.memory ≡ h.memory → AreHomeSources g all → AreReadable g before h all → AreReadable g before t all
still_readable g before h t [] same_map kept memory homes all = tt
still_readable g before h t (a ∷ more) same_map kept memory homes all =
    (readable_stays g h t (source_of g a) same_map (kept 2 left_2 (inl (omega arith))) all.0, source_same g h t (source_of g a) kept memory homes.0 all.0 ∙ all.1, still_readable g before h t more same_map kept memory homes.1 all.2)

pub all_pass : (g : StorageForm) (before : Holding) (n : ℕ) (all : List Operand) (held : List Held) (h : Holding) → n + length all ≤ 8 → CanFetch g held h → AreScratch held → HoldsWords h → AreHomeSources g all → AreReadable g before h all
    → Passes g (passing_code g n held all) (passing_held n held all) h before n all
all_pass g before n [] held h few can scratch range homes readable = record { can = tt; passed = tt; kept = λ q scr is. refl; memory = refl; input = refl; all_held = can.all; scratch = scratch }
all_pass g before n (a ∷ more) held h few can scratch range homes readable =
    let r : ℕ = argument_register n in
    let is : r ≡ 10 + n = ap (λ b. cond b (10 + n) 17) (lt-ltb n 8 (omega (arith, few))) in
    let source : Source = source_of g a in
    let front = bringing g held r source in
    let brings : Brings front h r r (value_of g h source) = source_brought g held h r source (omega (arith, is)) can range readable.0 in
    let t : Holding = done_by_all front h in
    let later : List Held = forgotten r held in
    let no : (q : ℕ) → IsNoArgument q → q ≢ r = λ q none e. ⊎_elim (λ (l : q < 10). omega (arith, l, e, is)) (λ (u : 17 < q). omega (arith, u, e, is, few)) none in
    let kept : (q : ℕ) → IsLeft q → IsNoArgument q → t.registers q ≡ h.registers q = λ q left none. brings.kept q (no q none) left.t0 in
    let fetch : CanFetch g later t = record {
      fits = can.fits;
      none = kept 0 left_0 (inl (omega arith)) ∙ can.none;
      gp = kept 3 left_3 (inl (omega arith)) ∙ can.gp;
      all = held_forgotten r held h t brings.kept can.left can.all;
      left = all_left later (scratch_forgotten r held scratch);
    } in
    let fits : value_of g h source < 4294967296 = read_fits g h source range readable.0 in
    let words : HoldsWords t = record {
      words = λ q left. ⊎_elim
          (λ (same : q ≡ r). subst (λ x. x < 4294967296) (sym (ap t.registers same ∙ brings.value)) fits)
          (λ (other : q ≢ r). subst (λ x. x < 4294967296) (sym (brings.kept q other left.t0)) (range.words q left))
          (cases_eq q r);
      bytes = λ b. subst (λ (m : ℕ → ℕ). m b < 256) (sym brings.memory) (range.bytes b);
    } in
    let rest : Passes g (passing_code g (n + 1) later more) (passing_held (n + 1) later more) t before (n + 1) more =
    all_pass g before (n + 1) more later t (omega (arith, few)) fetch (scratch_forgotten r held scratch) words homes.1 (still_readable g before h t more (regions_stay front h) kept brings.memory homes.1 readable.2) in
    let back = passing_code g (n + 1) later more in
    let both : done_by_all (front ++ back) h ≡ done_by_all back t = done_by_both front back h in
    record {
      can = can_do_both front back h brings.can rest.can;
      passed = subst (λ (u : Holding). ArePassed g before u n (a ∷ more)) (sym both) (rest.kept r (λ e. omega (arith, e, is)) (inl (omega (arith, is))) ∙ brings.value ∙ readable.1, rest.passed);
      kept = λ q scr before_it. ap (λ (u : Holding). u.registers q) both
          ∙ rest.kept q scr (⊎_elim (λ (l : q < 10 + n). inl (omega (arith, l))) (λ (u : 17 < q). inr u) before_it)
          ∙ brings.kept q (λ e. ⊎_elim (λ (l : q < 10 + n). omega (arith, l, e, is)) (λ (u : 17 < q). omega (arith, u, e, is, few)) before_it) scr;
      memory = ap (λ (u : Holding). u.memory) both ∙ rest.memory ∙ brings.memory;
      input = ap (λ (u : Holding). u.input) both ∙ rest.input ∙ brings.input;
      all_held = subst (λ (u : Holding). HoldsAll (passing_held (n + 1) later more) u) (sym both) rest.all_held;
      scratch = rest.scratch;
    }

-- ---- From the frame

all_readable : (w : Setting) (c : Configuration) (h : Holding) (all : List Operand) → IsStorage w → HoldsFrame w c h → AllByRecursion (IsOperand w.unit.statics w.graph) all → AreWords all → AreReadable w.storage h h all
all_readable w c h [] storage frame legal fit = tt
all_readable w c h (a ∷ more) storage frame legal fit = (operand_readable w c h a storage frame legal.0 fit.0, refl, all_readable w c h more storage frame legal.1 fit.1)

all_sources : (w : Setting) (all : List Operand) → IsStorage w → AllByRecursion (IsOperand w.unit.statics w.graph) all → AreHomeSources w.storage all
all_sources w [] storage legal = tt
all_sources w (Name x ∷ more) storage legal = (home_no_argument w.slots (home_at w.storage x) (storage.homes x legal.0), all_sources w more storage legal.1)
all_sources w (Constant n ∷ more) storage legal = (tt, all_sources w more storage legal.1)
all_sources w (StaticAddress object offset ∷ more) storage legal = (tt, all_sources w more storage legal.1)

-- Arguments pass, where the frame stands.
pub arguments_pass : (w : Setting) (c : Configuration) (h : Holding) (all : List Operand) → IsStorage w → HoldsFrame w c h → HoldsWords h → AllByRecursion (IsOperand w.unit.statics w.graph) all → AreWords all → length all ≤ 8
    → Passes w.storage (passing_code w.storage 0 w.held all) (passing_held 0 w.held all) h h 0 all
arguments_pass w c h all storage frame range legal fit few = all_pass w.storage h 0 all w.held h (omega (arith, few)) frame.fetch frame.scratch range (all_sources w all storage legal) (all_readable w c h all storage frame legal fit)

-- The code of an end that returns does the unit's step.
use Rattle.std.proofs.Common.{◌≡◌, ℕ, ◌+◌, sym, subst, arith, refl, Option, Some, None, Bool, false, List, [], ◌++◌, length}
use Rattle.std.specs.Prelude.{option_map}
use Rattle.rv_machine.specs.State.{MachineState}
use Rattle.graph_core.specs.declared.value.Value.TheVariants.{Odd}
use Rattle.graph_core.specs.Graphs.{Operand, Return, UnitForm}
use Rattle.graph_core.specs.Runs.{Activation, Configuration, value, leave, execute_end, step, step_from}
use Rattle.graph_core.specs.Validity.{AreOperandsOfEnd}
use Rattle.graph_homes.specs.Homed.{placed_operand, placed_end}
use Rattle.rv_emit_words.specs.declared.piece.Held.{Held}
use Rattle.rv_emit_storage.specs.declared.storage.Source.{Source}
use Rattle.rv_emit_storage.specs.Storages.{StorageForm, home_at, source_of}
use Rattle.rv_emit_words.specs.Operands.{bringing}
use Rattle.rv_emit_steps.specs.Holding.{Holding}
use Rattle.rv_emit_steps.specs.Doing.{done_by_all}
use Rattle.rv_emit_steps.specs.Programs.{Program, CodeAt, behind, Stands}
use Rattle.rv_emit_steps.proofs.Placing.{regions_stay}
use Rattle.rv_emit_steps.proofs.Straight.{code_does}
use Rattle.rv_emit_steps.specs.EmitMovesDoing.{Brings, IsReadable, value_of}
use Rattle.rv_emit_steps.specs.Meaning.{Means}
use Rattle.rv_emit_steps.specs.Frames.{Setting, IsStorage, IsWord}
use Rattle.rv_emit_steps.proofs.Operands.{operand_readable, operand_means}
use Rattle.rv_emit_code.specs.Ends.{words}
use Rattle.rv_emit_code.specs.Leaving.{leaving_code, leaving, room_behind, return_pieces}
use Rattle.rv_emit_runs.specs.Pieces.{Targets, AreInCode, PiecesAt}
use Rattle.rv_emit_runs.specs.Returns.{Resumes, EndsMain}
use Rattle.rv_emit_runs.specs.Waiting.{FunctionCode, IsFunctionCode, setting_of, HoldsAll}
use Rattle.rv_emit_runs.proofs.Bringing.{source_brought, words_in_range}
use Rattle.rv_emit_runs.proofs.Keeping.{all_reheld}
use Rattle.rv_emit_runs.proofs.Loading.{kept_no_a0}
use Rattle.rv_emit_runs.proofs.Placed.{begins_is, WordsFirst, words_first}
use Rattle.rv_emit_runs.proofs.Returning.{DoesReturn, returned_behind, return_done}

-- How many words bring a result, if there is one.
abbrev pub result_words : StorageForm → List Held → Option Source → ℕ
result_words g held None = 0
result_words g held (Some value) = length (bringing g held 10 value)

-- A return gives a word, if it gives a constant.
abbrev pub IsWordIfAny : Option Operand → Type 0
IsWordIfAny None = Unit {0}
IsWordIfAny (Some a) = IsWord a

module _ (p : Program) (codes : ℕ → FunctionCode) (u : UnitForm) (valid : (k : ℕ) → IsFunctionCode u (codes k)) (addresses : ℕ → ℕ) (goes_on : Activation → ℕ → Type 0) (t : Targets) (inside : AreInCode p.map t) (main : EndsMain p) where
  module _ (s : MachineState) (i : ℕ) (b : Bool) (held : List Held) (c : Configuration) (h : Holding) (all : HoldsAll codes u addresses (Resumes p codes goes_on) held c h) (stands : Stands p s i h) (end next j : ℕ) (follows : j ≡ t.label next)
      (ending : CodeAt p (t.label end) false (leaving_code (codes c.here.function).saved (codes c.here.function).size)) where
    returns_with : (v : Option Operand) → AreOperandsOfEnd u.statics (codes c.here.function).graph (Return v) → IsWordIfAny v
        → PiecesAt p t i b (return_pieces (codes c.here.function).storage held (codes c.here.function).saved (codes c.here.function).size b end next (option_map (source_of (codes c.here.function).storage) v)) j
        → DoesReturn p s i b (result_words (codes c.here.function).storage held (option_map (source_of (codes c.here.function).storage) v) + (5 + length (leaving_code (codes c.here.function).saved (codes c.here.function).size))) codes u addresses goes_on c
        (execute_end u (placed_end (home_at (codes c.here.function).storage) (Return v)) c)
    returns_with None legal fits there =
        let more : 5 + length (leaving_code (codes c.here.function).saved (codes c.here.function).size) ≡ 0 + (5 + length (leaving_code (codes c.here.function).saved (codes c.here.function).size)) = omega arith in
        subst (λ n. DoesReturn p s i b n codes u addresses goes_on c (leave c Odd)) more
        (return_done p codes u valid addresses goes_on t inside s i b c h (all_reheld codes u valid addresses (Resumes p codes goes_on) held [] c h h all (λ q kept. refl) refl refl refl tt tt) stands end next j 9 there follows ending main Odd tt)
    returns_with (Some a) legal fits there =
        let f : FunctionCode = codes c.here.function in
        let w : Setting = setting_of u addresses held f in
        let storage : IsStorage w = (valid c.here.function).storage addresses held in
        let source : Source = source_of f.storage a in
        let code = bringing f.storage held 10 source in
        let readable : IsReadable f.storage h source = operand_readable w c h a storage all.here legal fits in
        let brings : Brings code h 10 10 (value_of f.storage h source) = source_brought f.storage held h 10 source (omega arith) all.here.fetch (words_in_range h stands.in_range) readable in
        let g : Holding = done_by_all code h in
        let v = value u.statics c.here.names (placed_operand (home_at f.storage) a) in
        let first : WordsFirst p t i b code (leaving f.saved f.size (behind b code) end next (room_behind f.storage.base source)) j = words_first p t i b code (leaving f.saved f.size (behind b code) end next (room_behind f.storage.base source)) j
        (subst (λ q. PiecesAt p t i b (words code ++ leaving f.saved f.size q end next (room_behind f.storage.base source)) j) (begins_is b code) there) in
        let one = code_does p s i h b code stands first.code_there brings.can in
        let all1 = all_reheld codes u valid addresses (Resumes p codes goes_on) held [] c h g all (λ q kept. brings.kept q (kept_no_a0 q kept) kept.left.t0) (regions_stay code h) brings.memory brings.input tt tt in
        returned_behind p s i b (length code) (i + length code) (behind b code) g (5 + length (leaving_code f.saved f.size)) codes u addresses goes_on c (leave c v) one
        (return_done p codes u valid addresses goes_on t inside one.state (i + length code) (behind b code) c g all1 one.stands end next j (room_behind f.storage.base source) first.rest_there follows ending main v
        (subst (λ x. Means addresses c.memory v x) (sym brings.value) (operand_means w c h a storage all.here legal)))

    -- Where nothing but a return is left of a block, its code does the unit's step.
    pub return_end_done : (v : Option Operand) → c.here.rest ≡ [] → c.here.end ≡ placed_end (home_at (codes c.here.function).storage) (Return v) → AreOperandsOfEnd u.statics (codes c.here.function).graph (Return v) → IsWordIfAny v
        → PiecesAt p t i b (return_pieces (codes c.here.function).storage held (codes c.here.function).saved (codes c.here.function).size b end next (option_map (source_of (codes c.here.function).storage) v)) j
        → DoesReturn p s i b (result_words (codes c.here.function).storage held (option_map (source_of (codes c.here.function).storage) v) + (5 + length (leaving_code (codes c.here.function).saved (codes c.here.function).size))) codes u addresses goes_on c (step u c)
    return_end_done v none is legal fits there =
        let most : ℕ = result_words (codes c.here.function).storage held (option_map (source_of (codes c.here.function).storage) v) + (5 + length (leaving_code (codes c.here.function).saved (codes c.here.function).size)) in
        subst (λ l. DoesReturn p s i b most codes u addresses goes_on c (step_from u l c)) (sym none)
        (subst (λ e. DoesReturn p s i b most codes u addresses goes_on c (execute_end u e c)) (sym is) (returns_with v legal fits there))

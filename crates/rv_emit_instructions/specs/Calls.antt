-- The code of calls. Registers 10 to 17 are a0 to a7.
use Rattle.std.specs.Prelude.{ℕ, ◌+◌, nat_lt, if◌then◌else◌, Option, List, [], ◌∷◌}
use Rattle.std.specs.Option.{option_map_or}
use Rattle.rv_code.specs.declared.instruction.Instruction.TheVariants.{Immediate, Ecall}
use Rattle.rv_code.specs.declared.instruction.ImmediateOperation.TheVariants.{Addi}
use Rattle.graph_core.specs.declared.instruction.Callee.{Callee}
use Rattle.graph_core.specs.declared.instruction.Callee.TheVariants.{Getchar, Putchar, Exit, Function}
use Rattle.graph_core.specs.Graphs.{Operand}
use Rattle.rv_emit_words.specs.declared.piece.Piece.TheVariants.{Call}
use Rattle.rv_emit_storage.specs.Storages.{StorageForm, home_at, source_of}
use Rattle.rv_emit_words.specs.Growing.{CodeState, with_code, with_piece, forgotten}
use Rattle.rv_emit_words.specs.Operands.{bringing, home_written}

-- The register in which an argument passes, by its number.
abbrev pub argument_register : (number : ℕ) → ℕ
argument_register n = if nat_lt n 8 then 10 + n else 17

-- Nothing more is known of a register.
abbrev pub forgetting : (register : ℕ) → CodeState → CodeState
forgetting r s = record s { held = forgotten r s.held }

-- An argument is brought into its register, which holds no constant from then on.
abbrev pub passed : StorageForm → (number : ℕ) → Operand → CodeState → CodeState
passed g n a s =
    forgetting (argument_register n) (with_code (bringing g s.held (argument_register n) (source_of g a)) s)

-- Arguments are passed in order, the first of them by its number.
abbrev pub passed_from : StorageForm → (number : ℕ) → List Operand → CodeState → CodeState
passed_from g n [] s = s
passed_from g n (a ∷ more) s = passed_from g (n + 1) more (passed g n a s)

-- The environment is called, by the number of the call in a7.
abbrev pub environment_called : (number : ℕ) → CodeState → CodeState
environment_called n s = with_code (Ecall ∷ []) (forgetting 17 (with_code (Immediate Addi 17 0 n ∷ []) s))

-- What is called is called. No scratch register holds a constant behind a function.
abbrev pub called : Callee → CodeState → CodeState
called Getchar s = environment_called 1 s
called Putchar s = environment_called 2 s
called Exit s = environment_called 10 s
called (Function f) s = with_piece (Call f) (record s { held = [] })

-- The target of a call, if it has one, becomes what is in a0.
abbrev pub answered : StorageForm → (target : Option ℕ) → CodeState → CodeState
answered g target s = option_map_or (λ x. with_code (home_written g (home_at g x) 10) s) target s

-- The code of a call behind other code.
abbrev pub with_call : StorageForm → (target : Option ℕ) → Callee → (arguments : List Operand) → CodeState → CodeState
with_call g target f all s = answered g target (called f (passed_from g 0 all s))

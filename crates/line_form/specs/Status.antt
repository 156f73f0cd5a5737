-- How a session ends: the number that the program ends with, and the message.
use Rattle.std.specs.Prelude.{ℕ, List, [], ◌++◌, codes, string_bytes}
use Rattle.debug_records.specs.declared.code.Code.{Code}
use Rattle.debug_records.specs.Code.{code_text}
use Rattle.line_form.specs.Decimal.{decimal}
use Rattle.line_form.specs.declared.status.Status.{Status}
use Rattle.line_form.specs.declared.status.Status.TheVariants.{Done, Usage, SourceRefused, ScriptRefused, ReadFault, WriteFault, NoMemory, ImageRefused, TooLong, AuditFailed}

-- the number that the program ends with
abbrev pub status_number : Status → ℕ
status_number Done = 0
status_number Usage = 2
status_number (SourceRefused code line) = 3
status_number (ScriptRefused code line) = 4
status_number ReadFault = 5
status_number WriteFault = 6
status_number NoMemory = 7
status_number (ImageRefused code offset) = 8
status_number (TooLong name) = 9
status_number (AuditFailed rule line) = 10

-- what was refused, the code, and where, as `cdbg: source refused E29 line 1`
abbrev pub refusal_text : (what : List ℕ) → Code → (kind : List ℕ) → ℕ → List ℕ
refusal_text what code kind at =
    codes "cdbg: " ++ (what ++ (codes " refused " ++ (code_text code ++ (kind ++ decimal at))))

-- the message without its line end; none for a job that was done
abbrev pub fault_text : Status → List ℕ
fault_text Done = []
fault_text Usage = codes "cdbg: usage"
fault_text (SourceRefused code line) = refusal_text (codes "source") code (codes " line ") line
fault_text (ScriptRefused code line) = refusal_text (codes "script") code (codes " line ") line
fault_text ReadFault = codes "cdbg: read failed"
fault_text WriteFault = codes "cdbg: write failed"
fault_text NoMemory = codes "cdbg: out of memory"
fault_text (ImageRefused code offset) = refusal_text (codes "image") code (codes " offset ") offset
fault_text (TooLong name) = codes "cdbg: too long " ++ string_bytes name
fault_text (AuditFailed rule line) = codes "cdbg: audit no " ++ (code_text rule ++ (codes " line " ++ decimal line))

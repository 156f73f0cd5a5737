-- What a refusal says of the texts, and what comes after it.
use Rattle.std.specs.Prelude.{◌≡◌, ℕ, List, Option, Some, None, Err}
use Rattle.debug_records.specs.declared.code.Code.{Code}
use Rattle.image_form.specs.Form.{Form}
use Rattle.image_form.specs.Spelling.{spelling}
use Rattle.image_form.specs.Reading.{read_of}
use Rattle.line_form.specs.declared.status.Status.{Status}
use Rattle.line_form.specs.declared.status.Status.TheVariants.{Done, Usage, SourceRefused, ScriptRefused, ReadFault, WriteFault, NoMemory, ImageRefused, TooLong, AuditFailed}
use Rattle.script_form.specs.Script.{Order, IsScript}
use Rattle.script_form.specs.Refusal.{IsRefused}
use Rattle.c_source.specs.Sources.{HasProgram}
use Rattle.command_line.specs.Job.{JobGiven, attach, compile, debug, passes, sweep}
use Rattle.work_gen.specs.Generated.{text as generated}
use Rattle.session.specs.Served.{IfGiven, With, script_of}
use Rattle.session.specs.Limits.{Held, Holds}
use Rattle.session.specs.Front.{IsRefusedSource}
use Rattle.session.specs.Images.{IsReadBack}

-- the text is a script
abbrev pub IsScriptText : List ℕ → Type 0
IsScriptText text = (os : List Order) × IsScript text os

-- The bytes spell an image.
abbrev pub IsImageText : List ℕ → Type 0
IsImageText bytes = (f : Form) × IsReadBack f × (bytes ≡ spelling f)

-- the text that a job compiles, where it is there: the source of its name, and for a `sweep` the generated one
abbrev pub compiled_by : Held → JobGiven → Option (List ℕ)
compiled_by held (debug given) = held given.source
compiled_by held (compile given) = held given.source
compiled_by held (attach given) = None
compiled_by held (passes given) = held given.source
compiled_by held (sweep given) = Some (generated given.seed given.size)

-- the text that a job compiles is refused
abbrev pub TextIsRefused : Held → JobGiven → Code → ℕ → Type 0
TextIsRefused held job code line = Holds (compiled_by held job) (λ text. IsRefusedSource text code line)

-- The source of a job is refused. That of a `sweep` is generated and breaks no rule of C; an `attach` has none.
abbrev pub SourceIsRefused : Held → JobGiven → Code → ℕ → Type 0
SourceIsRefused held (debug given) code line = TextIsRefused held (debug given) code line
SourceIsRefused held (compile given) code line = TextIsRefused held (compile given) code line
SourceIsRefused held (attach given) code line = ⊥
SourceIsRefused held (passes given) code line = TextIsRefused held (passes given) code line
SourceIsRefused held (sweep given) code line = ⊥

-- Bytes are refused that spell no image: this is the first rule that they break, at this byte.
abbrev pub AreNoImage : Code → (offset : ℕ) → (bytes : List ℕ) → Type 0
AreNoImage code offset bytes = read_of bytes ≡ Err (code, offset)

-- the image of an `attach` is refused; no other job loads one
abbrev pub ImageIsRefused : Held → JobGiven → Code → ℕ → Type 0
ImageIsRefused held (debug given) code offset = ⊥
ImageIsRefused held (compile given) code offset = ⊥
ImageIsRefused held (attach given) code offset = Holds (held given.image) (AreNoImage code offset)
ImageIsRefused held (passes given) code offset = ⊥
ImageIsRefused held (sweep given) code offset = ⊥

-- what comes before the script is accepted: a source of a program, or an image; what a `sweep` generates always is
abbrev pub IsUnderstood : Held → JobGiven → Type 0
IsUnderstood held (debug given) = Holds (held given.source) HasProgram
IsUnderstood held (compile given) = Holds (held given.source) HasProgram
IsUnderstood held (attach given) = Holds (held given.image) IsImageText
IsUnderstood held (passes given) = Holds (held given.source) HasProgram
IsUnderstood held (sweep given) = Unit {0}

-- The script is refused where all before it is accepted: this is the first line that breaks a rule, and the rule.
pub record ScriptIsRefused (held : Held) (job : JobGiven) (code : Code) (line : ℕ) : Type 0 where
  pub before : IsUnderstood held job
  pub cause : With (script_of job) (λ name. Holds (held name) (λ text. IsRefused text code line))

-- the source or the image, and the script, are accepted
pub record AreAccepted (held : Held) (job : JobGiven) : Type 0 where
  pub before : IsUnderstood held job
  pub script : IfGiven (script_of job) (λ name. Holds (held name) IsScriptText)

-- the session ended before anything was saved or put out: at its words, at a load, at a text over its limit, or with a
-- refusal of the source, the script or the image
abbrev pub IsEarly : Status → Type 0
IsEarly Done = ⊥
IsEarly Usage = Unit {0}
IsEarly (SourceRefused code line) = Unit {0}
IsEarly (ScriptRefused code line) = Unit {0}
IsEarly ReadFault = Unit {0}
IsEarly WriteFault = ⊥
IsEarly NoMemory = ⊥
IsEarly (ImageRefused code offset) = Unit {0}
IsEarly (TooLong name) = Unit {0}
IsEarly (AuditFailed rule line) = Unit {0}

-- the session loaded all texts: it is done, or it refused the source, the script or the image, or a write failed
abbrev pub HasLoaded : Status → Type 0
HasLoaded Done = Unit {0}
HasLoaded Usage = ⊥
HasLoaded (SourceRefused code line) = Unit {0}
HasLoaded (ScriptRefused code line) = Unit {0}
HasLoaded ReadFault = ⊥
HasLoaded WriteFault = Unit {0}
HasLoaded NoMemory = ⊥
HasLoaded (ImageRefused code offset) = Unit {0}
HasLoaded (TooLong name) = ⊥
HasLoaded (AuditFailed rule line) = Unit {0}

-- the session was cut off: a write failed, or memory was wanting
abbrev pub IsCut : Status → Type 0
IsCut Done = ⊥
IsCut Usage = ⊥
IsCut (SourceRefused code line) = ⊥
IsCut (ScriptRefused code line) = ⊥
IsCut ReadFault = ⊥
IsCut WriteFault = Unit {0}
IsCut NoMemory = Unit {0}
IsCut (ImageRefused code offset) = ⊥
IsCut (TooLong name) = ⊥
IsCut (AuditFailed rule line) = ⊥

-- How long the texts of a session may be.
use Rattle.std.specs.Prelude.{◌≡◌, ◌≤◌, ◌<◌, ◌⊎◌, ℕ, List, Option, Some, None, length}
use Rattle.command_line.specs.Job.{JobGiven, attach, compile, debug, passes, sweep}
use Rattle.session.specs.Served.{IfGiven, With, script_of, input_of}

-- how many bytes a script has at most: 1 MiB
abbrev pub script_limit : ℕ
script_limit = 1048576

-- how many bytes an input has at most: 16 MiB
unfoldable pub input_limit : ℕ
input_limit = 16777216

-- how many bytes an image has at most that is attached: 128 MiB
unfoldable pub image_limit : ℕ
image_limit = 134217728

-- What a shelf holds, by name.
abbrev pub Held : Type 0
Held = List ℕ → Option (List ℕ)

-- the name holds a text of which this is true
abbrev pub Holds : Option (List ℕ) → (List ℕ → Type 0) → Type 0
Holds None P = ⊥
Holds (Some text) P = P text

-- the name holds a text of at most so many bytes
abbrev pub IsWithin : ℕ → Option (List ℕ) → Type 0
IsWithin limit held = Holds held (λ text. length text ≤ limit)

-- the name holds a text of more bytes
abbrev pub IsBeyond : ℕ → Option (List ℕ) → Type 0
IsBeyond limit held = Holds held (λ text. limit < length text)

-- the name holds a text
abbrev pub IsThere : Option (List ℕ) → Type 0
IsThere held = Holds held (λ text. Unit {0})

-- what is loaded first is there: a source, which is refused where it is too long, or an image within its limit; a
-- `sweep` loads nothing
abbrev pub FirstIsLoaded : Held → JobGiven → Type 0
FirstIsLoaded held (debug given) = IsThere (held given.source)
FirstIsLoaded held (compile given) = IsThere (held given.source)
FirstIsLoaded held (attach given) = IsWithin image_limit (held given.image)
FirstIsLoaded held (passes given) = IsThere (held given.source)
FirstIsLoaded held (sweep given) = Unit {0}

-- the texts of a job are there, and within their limits
pub record AreWithin (held : Held) (job : JobGiven) : Type 0 where
  pub first : FirstIsLoaded held job
  pub script : IfGiven (script_of job) (λ name. IsWithin script_limit (held name))
  pub input : IfGiven (input_of job) (λ name. IsWithin input_limit (held name))

-- the image of this name is loaded, and too long
abbrev pub ImageIsTooLong : Held → JobGiven → List ℕ → Type 0
ImageIsTooLong held (debug given) name = ⊥
ImageIsTooLong held (compile given) name = ⊥
ImageIsTooLong held (passes given) name = ⊥
ImageIsTooLong held (sweep given) name = ⊥
ImageIsTooLong held (attach given) name = (name ≡ given.image) × IsBeyond image_limit (held given.image)

-- this text of the job is loaded under the name, and too long
abbrev pub IsThisBeyond : Held → (text : Option (List ℕ)) → (limit : ℕ) → (name : List ℕ) → Type 0
IsThisBeyond held text limit name = With text (λ given. (name ≡ given) × IsBeyond limit (held given))

-- the script of this name is too long, and what is loaded before it is there and not too long
pub record ScriptIsTooLong (held : Held) (job : JobGiven) (name : List ℕ) : Type 0 where
  pub first : FirstIsLoaded held job
  pub cause : IsThisBeyond held (script_of job) script_limit name

-- the input of this name is too long, and what is loaded before it is there and not too long
pub record InputIsTooLong (held : Held) (job : JobGiven) (name : List ℕ) : Type 0 where
  pub first : FirstIsLoaded held job
  pub script : IfGiven (script_of job) (λ given. IsWithin script_limit (held given))
  pub cause : IsThisBeyond held (input_of job) input_limit name

-- The text of this name is the first that is too long, of the image that is attached, the script and the input, and
-- each text before it is there.
abbrev pub IsTooLong : Held → JobGiven → List ℕ → Type 0
IsTooLong held job name = ImageIsTooLong held job name ⊎ (ScriptIsTooLong held job name ⊎ InputIsTooLong held job name)

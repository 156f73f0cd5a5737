-- Where nothing stands in the way, the job is done, or memory was wanting.
use Rattle.std.proofs.Common.{◌≡◌, ℕ, ◌<◌, ◌≤◌, ◌⊎◌, inl, inr, ⊎_elim, refl, ap, ◌∙◌, arith, List, length}
use Rattle.std.specs.Prelude.{Option, Some, None, Err, Ok, Result, true, string_bytes}
use Rattle.outside.specs.Counts.{RoseOrStands}
use Rattle.debug_records.specs.declared.code.Code.{Code}
use Rattle.image_form.specs.Form.{Form}
use Rattle.image_form.specs.Reading.{read_of}
use Rattle.line_form.specs.declared.status.Status.{Status}
use Rattle.line_form.specs.declared.status.Status.TheVariants.{Done, Usage, SourceRefused, ScriptRefused, ReadFault, WriteFault, NoMemory, ImageRefused, TooLong, AuditFailed}
use Rattle.script_form.specs.Refusal.{IsRefused}
use Rattle.script_form.proofs.ScriptLaws.{readings_one}
use Rattle.c_source.specs.Sources.{HasProgram}
use Rattle.c_source.proofs.Sources.{unbroken}
use Rattle.command_line.specs.Grammar.{IsJob}
use Rattle.command_line.specs.Words.{Text}
use Rattle.command_line.specs.Job.{JobGiven, attach, compile, debug, passes, sweep}
use Rattle.session.specs.Served.{IfGiven, With, input_of, script_of}
use Rattle.session.specs.Limits.{Held, Holds, AreWithin, FirstIsLoaded, ImageIsTooLong, InputIsTooLong, IsBeyond, IsThisBeyond, IsTooLong, IsWithin, ScriptIsTooLong, image_limit, input_limit}
use Rattle.session.specs.Front.{IsRefusedSource}
use Rattle.work_gen.specs.Generated.{text as generated}
use Rattle.work_gen_laws.proofs.Swept.{swept_has_program}
use Rattle.session.specs.Ending.{IsCaused, World}
use Rattle.session.specs.Causes.{AreNoImage, ImageIsRefused, IsImageText, IsScriptText, IsUnderstood, SourceIsRefused, TextIsRefused, AreAccepted}

-- what bytes are read as, and why none can be read, are not both there
never_both : (read : Result Form (Code × ℕ)) (f : Form) (e : Code × ℕ) → read ≡ Ok f → read ≡ Err e → ⊥
never_both read f e is refused = cc

-- a text is not of two kinds that exclude one another
contrary : (P Q : List ℕ → Type 0) → ((t : List ℕ) → P t → Q t → ⊥) → (held : Option (List ℕ)) → Holds held P → Holds held Q → ⊥
contrary P Q apart None p q = p
contrary P Q apart (Some text) p q = apart text p q

short_and_long : (limit : ℕ) (held : Option (List ℕ)) → IsWithin limit held → IsBeyond limit held → ⊥
short_and_long limit None s l = s
short_and_long limit (Some text) s l = let x : length text ≤ limit = s in let y : limit < length text = l in omega arith

image_short_and_long : (held : Held) (job : JobGiven) (name : List ℕ) → FirstIsLoaded held job → ImageIsTooLong held job name → ⊥
image_short_and_long held (debug given) name w t = t
image_short_and_long held (compile given) name w t = t
image_short_and_long held (passes given) name w t = t
image_short_and_long held (sweep given) name w t = t
image_short_and_long held (attach given) name w t = short_and_long image_limit (held given.image) w t.1

text_short_and_long : (held : Held) (text : Option (List ℕ)) (limit : ℕ) (name : List ℕ) → IfGiven text (λ given. IsWithin limit (held given)) → IsThisBeyond held text limit name → ⊥
text_short_and_long held None limit name w t = t
text_short_and_long held (Some given) limit name w t = short_and_long limit (held given) w t.1

none_too_long : (held : Held) (job : JobGiven) (name : List ℕ) → AreWithin held job → IsTooLong held job name → ⊥
none_too_long held job name w t =
    ⊎_elim (λ (i : ImageIsTooLong held job name). image_short_and_long held job name w.first i)
    (λ u. ⊎_elim (λ (s : ScriptIsTooLong held job name). text_short_and_long held (script_of job) 1048576 name w.script s.cause)
    (λ (i : InputIsTooLong held job name). text_short_and_long held (input_of job) input_limit name w.input i.cause) u) t

-- what is understood is not refused
source_understood : (held : Held) (job : JobGiven) (code : Code) (line : ℕ) → IsUnderstood held job → SourceIsRefused held job code line → ⊥
source_understood held (debug given) code line u r = contrary HasProgram (λ t. IsRefusedSource t code line) (λ t has refused. unbroken t code line has refused) (held given.source) u r
source_understood held (compile given) code line u r = contrary HasProgram (λ t. IsRefusedSource t code line) (λ t has refused. unbroken t code line has refused) (held given.source) u r
source_understood held (passes given) code line u r = contrary HasProgram (λ t. IsRefusedSource t code line) (λ t has refused. unbroken t code line has refused) (held given.source) u r
source_understood held (sweep given) code line u r = r
source_understood held (attach given) code line u r = r

image_understood : (held : Held) (job : JobGiven) (code : Code) (offset : ℕ) → IsUnderstood held job → ImageIsRefused held job code offset → ⊥
image_understood held (debug given) code offset u r = r
image_understood held (compile given) code offset u r = r
image_understood held (passes given) code offset u r = r
image_understood held (sweep given) code offset u r = r
image_understood held (attach given) code offset u r = contrary IsImageText (AreNoImage code offset) (λ t is refused. never_both (read_of t) is.0 (code, offset) (ap read_of is.2 ∙ is.1.reads) refused) (held given.image) u r

script_read : (held : Held) (script : Option (List ℕ)) (code : Code) (line : ℕ) → IfGiven script (λ name. Holds (held name) IsScriptText) → With script (λ name. Holds (held name) (λ text. IsRefused text code line)) → ⊥
script_read held None code line s r = r
script_read held (Some name) code line s r = contrary IsScriptText (λ t. IsRefused t code line) (λ t p q. readings_one.apart t p.0 code line p.1 q) (held name) s r

-- of the job that words are the source is refused where its text is: a generated one is of a program
pub source_refused : (words : List Text) (job : JobGiven) (held : Held) (code : Code) (line : ℕ) → IsJob words job → TextIsRefused held job code line → SourceIsRefused held job code line
source_refused words (debug given) held code line is r = r
source_refused words (compile given) held code line is r = r
source_refused words (attach given) held code line is r = absurd r
source_refused words (passes given) held code line is r = r
source_refused words (sweep given) held code line is r = unbroken (generated given.seed given.size) code line (swept_has_program words given is) r

-- where the texts are within their limits and accepted, and no load, save or put failed
pub complete : (words : List Text) (job : JobGiven) (old : World) (status : Status) (new : World) → IsJob words job → IsCaused job old status new → old.shelf.tells ≡ true
    → AreWithin old.shelf.held job → AreAccepted old.shelf.held job → ¬ RoseOrStands old.shelf.load_count new.shelf.load_count → ¬ RoseOrStands old.shelf.save_count new.shelf.save_count → ¬ RoseOrStands old.sink.fault_count new.sink.fault_count → (status ≡ Done) ⊎ (status ≡ NoMemory)
complete words job old Done new is c told w a nl ns nk = inl refl
complete words job old Usage new is c told w a nl ns nk = absurd (c.usage refl)
complete words job old (SourceRefused code line) new is c told w a nl ns nk = absurd (source_understood old.shelf.held job code line a.before (source_refused words job old.shelf.held code line is (c.source code line refl told)))
complete words job old (ScriptRefused code line) new is c told w a nl ns nk = absurd (script_read old.shelf.held (script_of job) code line a.script (c.script code line refl told).cause)
complete words job old ReadFault new is c told w a nl ns nk = absurd (nl (c.read refl))
complete words job old WriteFault new is c told w a nl ns nk = absurd (⊎_elim ns nk (c.write refl))
complete words job old NoMemory new is c told w a nl ns nk = inr refl
complete words job old (ImageRefused code offset) new is c told w a nl ns nk = absurd (image_understood old.shelf.held job code offset a.before (c.image code offset refl told))
complete words job old (TooLong name) new is c told w a nl ns nk = absurd (none_too_long old.shelf.held job (string_bytes name) w (c.too_long name refl told))
complete words job old (AuditFailed rule line) new is c told w a nl ns nk = absurd (c.audit rule line refl)

-- What the stages of a session say together.
use Rattle.std.proofs.Common.{◌≡◌, ℕ, ◌+◌, ◌<◌, ◌≤◌, ◌⊎◌, inl, inr, sym, ap, ◌∙◌, subst, arith, refl, List, [], length, take, append-nil}
use Rattle.std.specs.Prelude.{Option, Some, None, Err, Ok, Vec}
use Rattle.std.proofs.lemmas.List.{take_all, length-take}
use Rattle.std.specs.List.{AllByRecursion}
use Rattle.debug_records.specs.declared.change.PassName.{PassName}
use Rattle.debug_records.specs.declared.code.Code.{Code}
use Rattle.graph_core.specs.Graphs.{UnitForm}
use Rattle.image_form.specs.Form.{Form, form}
use Rattle.image_form.specs.Rules.{IsImage}
use Rattle.image_form.specs.Spelling.{spelling}
use Rattle.image_form.specs.Views.{viewed}
use Rattle.image_form.specs.declared.lent.View.{View}
use Rattle.image_form.proofs.OneSpelling.{spells_one}
use Rattle.std.specs.Global.{Global}
use Rattle.outside.specs.Held.{IsKeptOrCut, Loads}
use Rattle.line_form.specs.declared.status.Status.{Status}
use Rattle.line_form.specs.declared.status.Status.TheVariants.{Done, Usage, SourceRefused, ScriptRefused, ReadFault, WriteFault, NoMemory, ImageRefused, TooLong, AuditFailed}
use Rattle.script_form.specs.Script.{orders}
use Rattle.script_form.specs.Refusal.{IsRefused}
use Rattle.script_form.specs.declared.command.Command.{Command}
use Rattle.stop_engine.specs.Transcript.{transcript_bytes}
use Rattle.debug_records.specs.declared.mode.Mode.{Mode}
use Rattle.c_source.specs.Sources.{HasProgram}
use Rattle.c_source.proofs.Sources.{program_is_short}
use Rattle.session.specs.declared.preparing.Made.{Made}
use Rattle.command_line.specs.Job.{AttachGiven, CompileGiven, DebugGiven, JobGiven, attach, compile, debug, passes, sweep}
use Rattle.command_line.specs.Words.{Text}
use Rattle.session.specs.Served.{Saving}
use Rattle.session.specs.Limits.{Held, Holds}
use Rattle.session.specs.Front.{IsRefusedSource}
use Rattle.session.specs.Causes.{IsEarly, IsImageText, IsScriptText, ScriptIsRefused, AreAccepted}
use Rattle.session.proofs.ReadBack.{read_back}
use Rattle.session.proofs.Refusals.{source_held}
use Rattle.session.specs.Stages.{ImageEnds, ScriptEnds, SourceFails, WriteEnds}
use Rattle.session.specs.Prepared.{IsMade}
use Rattle.session.specs.Outcome.{HasLeft, HoldsImage, HoldsPart, IsAttached, IsDebugged, IsImageOfSource}

-- a text that was loaded within its limit is what the shelf held
pub held_is : (limit : ℕ) (held : Option (List ℕ)) (got : List ℕ) → Loads held limit got → length got ≤ limit → held ≡ Some got
held_is limit None got h short = absurd h
held_is limit (Some text) got h short =
    let len : length got ≡ length (take (limit + 1) text) = ap length h in
    let all : length text ≤ limit + 1 = omega (arith, length-take (limit + 1) text) in
    ap Some (sym (h ∙ take_all (limit + 1) text all))

pub holds : (P : List ℕ → Type 0) (held : Option (List ℕ)) (got : List ℕ) → held ≡ Some got → P got → Holds held P
holds P held got e p = subst (λ h. Holds h P) (sym e) p

pub source_accepted : (held : Option (List ℕ)) (got : List ℕ) → Loads held 1048576 got → HasProgram got → Holds held HasProgram
source_accepted held got h s = holds HasProgram held got (held_is 1048576 held got h (program_is_short got s)) s

-- why a source was refused
pub source_refused : (status : Status) (code : Code) (line : ℕ) (source : List ℕ) (held : Option (List ℕ)) → status ≡ SourceRefused code line → SourceFails status source → Loads held 1048576 source → Holds held (λ t. IsRefusedSource t code line)
source_refused status code line source held e ends loads = source_held code line held source loads (subst (λ s. SourceFails s source) e ends)

-- the session played the image that the shelf held
pub attached : (image : View) (commands : Vec Command Global) (bytes script input : List ℕ) (held : Held) (given : AttachGiven) → ImageEnds (Ok image) bytes → ScriptEnds (Ok commands) script
    → held given.image ≡ Some bytes → held given.script ≡ Some script → held given.input ≡ Some input → AllByRecursion (λ b. b < 256) input → IsAttached held given (transcript_bytes (viewed image) (orders commands.items) input given.limit)
attached image commands bytes script input held given is asks is_image is_script is_input are_bytes = record {
  form = viewed image;
  form_is = read_back (viewed image) is.0;
  image_is = is_image ∙ ap Some is.1;
  text = script;
  orders = orders commands.items;
  script_is = is_script;
  orders_are = asks;
  bytes = input;
  are_bytes = are_bytes;
  input_is = is_input;
  printed_is = refl;
}

-- the image that is attached and the script are accepted
pub attached_accepted : (image : View) (commands : Vec Command Global) (bytes script : List ℕ) (held : Held) (given : AttachGiven) → ImageEnds (Ok image) bytes → ScriptEnds (Ok commands) script
    → held given.image ≡ Some bytes → held given.script ≡ Some script → AreAccepted held (attach given)
attached_accepted image commands bytes script held given is asks is_image is_script = record {
  before = holds IsImageText (held given.image) bytes is_image (viewed image, read_back (viewed image) is.0, is.1);
  script = holds IsScriptText (held given.script) script is_script (orders commands.items, asks);
}

-- why a script was refused, behind an image
pub attached_refused : (status : Status) (code : Code) (line : ℕ) (image : View) (bytes script : List ℕ) (held : Held) (given : AttachGiven) → status ≡ ScriptRefused code line → ImageEnds (Ok image) bytes → ScriptEnds (Err status) script
    → held given.image ≡ Some bytes → held given.script ≡ Some script → ScriptIsRefused held (attach given) code line
attached_refused status code line image bytes script held given e is ends is_image is_script = record {
  before = holds IsImageText (held given.image) bytes is_image (viewed image, read_back (viewed image) is.0, is.1);
  cause = holds (λ t. IsRefused t code line) (held given.script) script is_script (subst (λ s. ScriptEnds (Err s) script) e ends);
}

-- the transcript of what is the same is the same
pub played_same : (m : Form) (commands : List Command) (commands' : List Command) (input input' : List ℕ) (limit limit' : ℕ) → commands ≡ commands' → input' ≡ input → limit ≡ limit'
    → transcript_bytes m (orders commands) input' limit ≡ transcript_bytes m (orders commands') input limit'
played_same m commands commands' input input' limit limit' c i l =
    ap (λ os. transcript_bytes m (orders os) input' limit) c ∙ ap (λ b. transcript_bytes m (orders commands') b limit) i ∙ ap (transcript_bytes m (orders commands') input) l

-- where nothing was saved, the image's name holds what it held
pub nothing_left : {P : Type 0} (named : P → PassName) (steps : P → UnitForm → UnitForm → Type 0) (handed_in : List P) (held held' : Held) (job : JobGiven) → ((n : List ℕ) → held' n ≡ held n) → HasLeft named steps handed_in held held' job
nothing_left named steps handed_in held held' (debug given) same = inl (same given.image)
nothing_left named steps handed_in held held' (compile given) same = inl (same given.image)
nothing_left named steps handed_in held held' (attach given) same = tt
nothing_left named steps handed_in held held' (passes given) same = tt
nothing_left named steps handed_in held held' (sweep given) same = tt

module _ {P : Type 0} {named : P → PassName} {steps : P → UnitForm → UnitForm → Type 0} {handed_in : List P} where
  -- why a script was, behind a source
  pub script_refused : (status : Status) (code : Code) (line : ℕ) (source script : List ℕ) (made : Made) (held : Held) (given : DebugGiven) → status ≡ ScriptRefused code line → IsMade named steps handed_in source given.passes given.mode made → ScriptEnds (Err status) script
      → Loads (held given.source) 1048576 source → held given.script ≡ Some script → ScriptIsRefused held (debug given) code line
  script_refused status code line source script made held given e is ends loads is_script = record {
    before = source_accepted (held given.source) source loads is.image.understood;
    cause = holds (λ t. IsRefused t code line) (held given.script) script is_script (subst (λ s. ScriptEnds (Err s) script) e ends);
  }

  -- both are accepted where the image stands
  pub both_accepted : (source script : List ℕ) (made : Made) (commands : Vec Command Global) (held : Held) (given : DebugGiven) → IsMade named steps handed_in source given.passes given.mode made → ScriptEnds (Ok commands) script
      → Loads (held given.source) 1048576 source → held given.script ≡ Some script → AreAccepted held (debug given)
  both_accepted source script made commands held given is asks loads is_script = record {
    before = source_accepted (held given.source) source loads is.image.understood;
    script = holds IsScriptText (held given.script) script is_script (orders commands.items, asks);
  }

  -- and the source alone where nothing else is asked for
  pub source_alone_accepted : (source : List ℕ) (made : Made) (held : Held) (given : CompileGiven) → IsMade named steps handed_in source given.passes given.mode made → Loads (held given.source) 1048576 source → AreAccepted held (compile given)
  source_alone_accepted source made held given is loads = record { before = source_accepted (held given.source) source loads is.image.understood; script = tt }

  -- the bytes that were made are an image of the source
  pub image_made : (held : Held) (saving : Saving) (source bytes : List ℕ) (made : Made) → Loads (held saving.source) 1048576 source → IsMade named steps handed_in source saving.passes saving.mode made → bytes ≡ made.bytes.items → IsImageOfSource named steps handed_in held saving bytes
  image_made held saving source bytes made loads is same = record {
    source = source;
    source_held = held_is 1048576 (held saving.source) source loads (program_is_short source is.image.understood);
    understood = is.image.understood;
    form = form made.image;
    form_is = is.image.image;
    bytes_are = same ∙ is.bytes;
    truthful = is.image.truthful;
  }

  -- and the image that they lend is the one that was made
  pub viewed_made : (source : List ℕ) (names : List Text) (mode : Mode) (made : Made) (v : View) (bytes : List ℕ) → IsMade named steps handed_in source names mode made → bytes ≡ made.bytes.items → IsImage (viewed v) → bytes ≡ spelling (viewed v) → viewed v ≡ form made.image
  viewed_made source names mode made v bytes is same image spelled = spells_one (viewed v) (form made.image) image is.rules (sym spelled ∙ (same ∙ is.bytes))

  -- a save that gave an error left what the name held, or a part of the image
  pub part_left : (held before held' : Held) (saving : Saving) (name bytes : List ℕ) → IsImageOfSource named steps handed_in held saving bytes → before name ≡ held name → name ≡ saving.image → IsKeptOrCut bytes (before name) (held' name) → (held' saving.image ≡ held saving.image) ⊎ HoldsPart named steps handed_in held held' saving
  part_left held before held' saving name bytes made same is part = inr (record {
    bytes = bytes;
    made = made;
    part = subst (λ n. IsKeptOrCut bytes (held n) (held' n)) is (subst (λ h. IsKeptOrCut bytes h (held' name)) same part);
  })

  -- one that was made left the whole image
  pub whole_left : (held held' : Held) (saving : Saving) (name bytes : List ℕ) → IsImageOfSource named steps handed_in held saving bytes → name ≡ saving.image → held' name ≡ Some bytes → (held' saving.image ≡ held saving.image) ⊎ HoldsPart named steps handed_in held held' saving
  whole_left held held' saving name bytes made is saved = inr (record {
    bytes = bytes;
    made = made;
    part = inr (bytes, ([], sym (append-nil bytes)), ap held' (sym is) ∙ saved);
  })

  pub whole_saved : (held held' : Held) (saving : Saving) (name bytes : List ℕ) → IsImageOfSource named steps handed_in held saving bytes → name ≡ saving.image → held' name ≡ Some bytes → HoldsImage named steps handed_in held held' saving
  whole_saved held held' saving name bytes made is saved = record { bytes = bytes; made = made; saved = ap held' (sym is) ∙ saved }

  -- the session saved the image and played it
  pub debugged : (held held' : Held) (given : DebugGiven) (source script input : List ℕ) (made : Made) (commands : Vec Command Global) → Loads (held given.source) 1048576 source → held given.script ≡ Some script → held given.input ≡ Some input → AllByRecursion (λ b. b < 256) input
      → IsMade named steps handed_in source given.passes given.mode made → ScriptEnds (Ok commands) script → held' given.image ≡ Some made.bytes.items → IsDebugged named steps handed_in held held' given (transcript_bytes (form made.image) (orders commands.items) input given.limit)
  debugged held held' given source script input made commands loads is_script is_input are_bytes is asks saved = record {
    source = source;
    source_held = held_is 1048576 (held given.source) source loads (program_is_short source is.image.understood);
    understood = is.image.understood;
    played = record {
      form = form made.image;
      form_is = is.image.image;
      image_is = saved ∙ ap Some is.bytes;
      text = script;
      orders = orders commands.items;
      script_is = is_script;
      orders_are = asks;
      bytes = input;
      are_bytes = are_bytes;
      input_is = is_input;
      printed_is = refl;
    };
    truthful = is.image.truthful;
  }

-- a job whose save or lines failed did not end early
pub cut_late : (A : Type 0) (status : Status) (old new : ℕ) → WriteEnds {A = A} (Err status) old new → IsEarly status → ⊥
cut_late A Done old new ends early = early
cut_late A Usage old new ends early = ends
cut_late A (SourceRefused code line) old new ends early = ends
cut_late A (ScriptRefused code line) old new ends early = ends
cut_late A ReadFault old new ends early = ends
cut_late A WriteFault old new ends early = early
cut_late A NoMemory old new ends early = early
cut_late A (ImageRefused code offset) old new ends early = ends
cut_late A (TooLong name) old new ends early = ends
cut_late A (AuditFailed rule line) old new ends early = ends

-- What fails as something is saved or put out is told after that alone.
pub written_late : (A : Type 0) (s : Status) (old new : ℕ) → WriteEnds {A = A} (Err s) old new → IsEarly s → ⊥
written_late A Done old new ends early = early
written_late A Usage old new ends early = ends
written_late A (SourceRefused code line) old new ends early = ends
written_late A (ScriptRefused code line) old new ends early = ends
written_late A ReadFault old new ends early = ends
written_late A WriteFault old new ends early = early
written_late A NoMemory old new ends early = early
written_late A (ImageRefused code offset) old new ends early = ends
written_late A (TooLong name) old new ends early = ends
written_late A (AuditFailed rule line) old new ends early = ends

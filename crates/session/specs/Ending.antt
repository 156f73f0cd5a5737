-- How a job ends: one record of what its status says, what stays, and what it leaves. The top call says each part of it
-- of the job that its words ask for.
use Rattle.std.specs.Prelude.{◌≡◌, ◌≢◌, ◌⊎◌, ℕ, true, List, [], String, string_bytes}
use Rattle.std.specs.Global.{Global}
use Rattle.outside.specs.Counts.{RoseOrStands}
use Rattle.outside.specs.States.{ShelfState, SinkState}
use Rattle.line_form.specs.declared.status.Status.{Status}
use Rattle.line_form.specs.declared.status.Status.TheVariants.{Done, Usage, SourceRefused, ScriptRefused, ReadFault, WriteFault, ImageRefused, TooLong, AuditFailed}
use Rattle.debug_records.specs.declared.code.Code.{Code}
use Rattle.debug_records.specs.declared.change.PassName.{PassName}
use Rattle.graph_core.specs.Graphs.{UnitForm}
use Rattle.command_line.specs.Job.{JobGiven}
use Rattle.session.specs.Served.{SavesTo}
use Rattle.session.specs.Limits.{AreWithin, IsTooLong}
use Rattle.session.specs.Causes.{TextIsRefused, ImageIsRefused, ScriptIsRefused, AreAccepted, HasLoaded, IsEarly, IsCut}
use Rattle.session.specs.Outcome.{HasLeft, HasSaved, IsDone, TookPart}

-- what is known of the shelf and of the sink of a session
pub record World : Type 0 where
  pub shelf : ShelfState
  pub sink : SinkState

-- each fault comes exactly where its cause holds, in the order of the stages
pub record IsCaused (job : JobGiven) (old : World) (result : Status) (new : World) : Type 0 where
  pub usage : result ≢ Usage
  pub audit : (rule : Code) (line : ℕ) → result ≢ AuditFailed rule line
  pub read : result ≡ ReadFault → RoseOrStands old.shelf.load_count new.shelf.load_count
  pub read_only : result ≢ ReadFault → new.shelf.load_count ≡ old.shelf.load_count
  pub too_long : (name : String Global) → result ≡ TooLong name → old.shelf.tells ≡ true
      → IsTooLong old.shelf.held job (string_bytes name)
  pub within : HasLoaded result → old.shelf.tells ≡ true → AreWithin old.shelf.held job
  pub image : (code : Code) (offset : ℕ) → result ≡ ImageRefused code offset → old.shelf.tells ≡ true
      → ImageIsRefused old.shelf.held job code offset
  pub source : (code : Code) (line : ℕ) → result ≡ SourceRefused code line → old.shelf.tells ≡ true
      → TextIsRefused old.shelf.held job code line
  pub script : (code : Code) (line : ℕ) → result ≡ ScriptRefused code line → old.shelf.tells ≡ true
      → ScriptIsRefused old.shelf.held job code line
  pub accepted : (result ≡ Done) ⊎ (result ≡ WriteFault) → old.shelf.tells ≡ true → AreAccepted old.shelf.held job
  pub write : result ≡ WriteFault
      → RoseOrStands old.shelf.save_count new.shelf.save_count ⊎ RoseOrStands old.sink.fault_count new.sink.fault_count
  pub write_only : result ≢ WriteFault
      → (new.shelf.save_count ≡ old.shelf.save_count) × (new.sink.fault_count ≡ old.sink.fault_count)

-- before anything was saved or put out nothing changes, and only the image's name of a `debug` ever does
pub record Stays (job : JobGiven) (old : World) (result : Status) (new : World) : Type 0 where
  pub kept : IsEarly result → old.shelf.tells ≡ true → (n : List ℕ) → new.shelf.held n ≡ old.shelf.held n
  pub nothing : IsEarly result → old.sink.tells ≡ true → new.sink.taken ≡ old.sink.taken
  pub others : old.shelf.tells ≡ true → (n : List ℕ) → ¬ SavesTo job n → new.shelf.held n ≡ old.shelf.held n

module _ {P : Type 0} (named : P → PassName) (steps : P → UnitForm → UnitForm → Type 0) (handed_in : List P) where
  -- what stands under the name of the image in the end
  pub record LeavesImage (job : JobGiven) (old : World) (result : Status) (new : World) : Type 0 where
    pub saved : result ≡ Done → old.shelf.tells ≡ true
        → HasSaved named steps handed_in old.shelf.held new.shelf.held job
    pub whole : result ≡ WriteFault → ¬ RoseOrStands old.shelf.save_count new.shelf.save_count → old.shelf.tells ≡ true
        → HasSaved named steps handed_in old.shelf.held new.shelf.held job
    pub left : IsCut result → old.shelf.tells ≡ true → HasLeft named steps handed_in old.shelf.held new.shelf.held job

  -- what the sink took in the end
  pub record LeavesTranscript (job : JobGiven) (old : World) (result : Status) (new : World) : Type 0 where
    pub part : IsCut result → old.shelf.tells ≡ true → old.sink.tells ≡ true
        → TookPart named steps handed_in old.shelf.held new.shelf.held job old.sink.taken new.sink.taken
    pub done : result ≡ Done → old.shelf.tells ≡ true → old.sink.tells ≡ true
        → IsDone named steps handed_in old.shelf.held new.shelf.held job old.sink.taken new.sink.taken

  -- how a job ends where these passes were handed in
  pub record Ends (job : JobGiven) (old : World) (result : Status) (new : World) : Type 0 where
    pub caused : IsCaused job old result new
    pub stays : Stays job old result new
    pub image : LeavesImage job old result new
    pub transcript : LeavesTranscript job old result new

-- how a job ends that runs no pass
abbrev pub EndsWithoutPasses : JobGiven → World → Status → World → Type 0
EndsWithoutPasses = Ends {P = PassName} (λ name. name) (λ name u v. ⊥) []

-- What a session says of words that ask for no job, and of one that failed at a line: parts of what its clauses say of
-- more.
use Rattle.std.proofs.Common.{◌≡◌, ◌⊎◌, inr, ℕ, List, true}
use Rattle.outside.specs.Counts.{RoseOrStands}
use Rattle.outside.specs.States.{ShelfState, SinkState}
use Rattle.command_line.specs.Job.{JobGiven}
use Rattle.command_line.specs.Words.{Text}
use Rattle.debug_records.specs.declared.change.PassName.{PassName}
use Rattle.graph_core.specs.Graphs.{UnitForm}
use Rattle.line_form.specs.declared.status.Status.{Status}
use Rattle.line_form.specs.declared.status.Status.TheVariants.{Done, WriteFault}
use Rattle.session.specs.Served.{AreNotServed, AreServed}
use Rattle.session.specs.Causes.{IsEarly}
use Rattle.session.specs.Outcome.{HasSaved}

module _ {P : Type 0} (named : P → PassName) (passes : List P) (words : List Text) (result : Status) where
  -- WORDS THAT ASK FOR NO JOB CHANGE NOTHING: what the clause `kept` says of them
  pub unasked : (old new : ShelfState)
      → (IsEarly result ⊎ AreNotServed named passes words → old.tells ≡ true → (n : List ℕ) → new.held n ≡ old.held n)
      → AreNotServed named passes words → old.tells ≡ true → (n : List ℕ) → new.held n ≡ old.held n
  unasked old new kept none told n = kept (inr none) told n

  -- AND PRINT NOTHING: what the clause `nothing` says of them
  pub silent : (old new : SinkState)
      → (IsEarly result ⊎ AreNotServed named passes words → old.tells ≡ true → new.taken ≡ old.taken)
      → AreNotServed named passes words → old.tells ≡ true → new.taken ≡ old.taken
  silent old new nothing none told = nothing (inr none) told

  -- A JOB THAT FAILED AT A LINE AND NOT AT THE SAVE HAS SAVED THE WHOLE IMAGE: what the clause `saved` says of it
  pub whole : (steps : P → UnitForm → UnitForm → Type 0) (old new : ShelfState)
      → ((asked : JobGiven) → AreServed named passes words asked
      → (result ≡ Done) ⊎ ((result ≡ WriteFault) × ¬ RoseOrStands old.save_count new.save_count) → old.tells ≡ true
      → HasSaved named steps passes old.held new.held asked)
      → (asked : JobGiven) → AreServed named passes words asked → result ≡ WriteFault
      → ¬ RoseOrStands old.save_count new.save_count → old.tells ≡ true
      → HasSaved named steps passes old.held new.held asked
  whole steps old new saved asked served failed kept told = saved asked served (inr (failed, kept)) told

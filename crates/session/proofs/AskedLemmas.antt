-- What the words ask for.
use Rattle.std.proofs.Common.{◌≡◌, ◌⊎◌, inl, inr, refl, sym, subst, List, ℕ}
use Rattle.std.specs.Prelude.{Option, Some, None, Result, Ok, Err, IfNone, IfSome}
use Rattle.debug_records.specs.declared.change.PassName.{PassName}
use Rattle.graph_core.specs.Graphs.{UnitForm}
use Rattle.line_form.specs.declared.status.Status.{Status}
use Rattle.line_form.specs.declared.status.Status.TheVariants.{Done, Usage, SourceRefused, ScriptRefused, ReadFault, WriteFault, NoMemory, ImageRefused, TooLong, AuditFailed}
use Rattle.command_line.specs.Grammar.{IsJob, IsNoJob}
use Rattle.command_line.specs.Job.{AttachGiven, JobGiven, attach, job_given}
use Rattle.command_line.specs.declared.job.Job.{Job}
use Rattle.command_line.proofs.GrammarLemmas.{one_job}
use Rattle.pass_law.specs.HandedIn.{AreHandedIn}
use Rattle.session.specs.Served.{AreNotServed, AreServed, needed}
use Rattle.session.specs.Ending.{Ends, EndsWithoutPasses, World}
use Rattle.session.specs.Stages.{AskEnds, CheckEnds}

module _ {P : Type 0} (named : P → PassName) (passes : List P) (words : List (List ℕ)) where
  -- the words ask for one job
  pub one_asked : (a b : JobGiven) → AreServed named passes words a → AreServed named passes words b → a ≡ b
  one_asked a b is_a is_b = one_job words a b is_a.words_are is_b.words_are

  -- a job whose passes were looked for is answered
  pub answered : (found : Option Job) (j : Job) (r : Result Job Status) → IfSome found (λ k. IsJob words (job_given k)) → found ≡ Some j → CheckEnds named passes r j → AskEnds named passes r words
  answered found j (Ok k) is e (same, has) =
      let job : IsJob words (job_given j) = subst (λ f. IfSome f (λ k. IsJob words (job_given k))) e is in
      subst (λ (i : Job). AreServed named passes words (job_given i)) (sym same) (record { words_are = job; passes_are = has })
  answered found j (Err Done) is e h = absurd h
  answered found j (Err Usage) is e lacks = λ a s.
      let job : IsJob words (job_given j) = subst (λ f. IfSome f (λ k. IsJob words (job_given k))) e is in
      lacks (subst (λ b. AreHandedIn named passes (needed b)) (one_job words a (job_given j) s.words_are job) s.passes_are)
  answered found j (Err (SourceRefused code line)) is e h = absurd h
  answered found j (Err (ScriptRefused code line)) is e h = absurd h
  answered found j (Err ReadFault) is e h = absurd h
  answered found j (Err WriteFault) is e h = absurd h
  answered found j (Err NoMemory) is e h = tt
  answered found j (Err (ImageRefused code offset)) is e h = absurd h
  answered found j (Err (TooLong name)) is e h = absurd h
  answered found j (Err (AuditFailed rule line)) is e h = absurd h

  pub no_job : (found : Option Job) → IfNone found (IsNoJob words) → found ≡ None → AreNotServed named passes words
  no_job found is e = λ a s. subst (λ f. IfNone f (IsNoJob words)) e is a s.words_are

  -- where the words ask for a job, only memory can be wanting
  pub refused_is_complete : (status : Status) (a : JobGiven) → AskEnds named passes (Err status) words → AreServed named passes words a → (status ≡ Done) ⊎ (status ≡ NoMemory)
  refused_is_complete Done a h s = absurd h
  refused_is_complete Usage a h s = absurd (h a s)
  refused_is_complete (SourceRefused code line) a h s = absurd h
  refused_is_complete (ScriptRefused code line) a h s = absurd h
  refused_is_complete ReadFault a h s = absurd h
  refused_is_complete WriteFault a h s = absurd h
  refused_is_complete NoMemory a h s = inr refl
  refused_is_complete (ImageRefused code offset) a h s = absurd h
  refused_is_complete (TooLong name) a h s = absurd h
  refused_is_complete (AuditFailed rule line) a h s = absurd h

module _ {P : Type 0} {named : P → PassName} {steps : P → UnitForm → UnitForm → Type 0} {handed_in : List P} where
  -- how a job ends is how the same job ends
  pub same_ends : (a b : JobGiven) (old : World) (status : Status) (new : World) → a ≡ b → Ends named steps handed_in a old status new → Ends named steps handed_in b old status new
  same_ends a b old status new same ends = subst (λ j. Ends named steps handed_in j old status new) same ends

  -- an `attach` ends with any passes as without: it prints of none
  pub attach_ends : (given : AttachGiven) (old : World) (status : Status) (new : World) → EndsWithoutPasses (attach given) old status new → Ends named steps handed_in (attach given) old status new
  attach_ends given old status new ends = record {
    caused = ends.caused;
    stays = ends.stays;
    image = record { saved = ends.image.saved; whole = ends.image.whole; left = ends.image.left };
    transcript = record {
      part = λ cut told told_sink. elim (ends.transcript.part cut told told_sink) [ inl same ↦ inl same | inr off ↦ inr (record { printed = off.printed; prints = off.prints; part = off.part }) ];
      done = λ is told told_sink. (let done = ends.transcript.done is told told_sink in record { printed = done.printed; prints = done.prints; whole = done.whole });
    };
  }

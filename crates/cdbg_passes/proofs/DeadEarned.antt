-- Each change of the removal of dead assignments is earned.
use Rattle.std.proofs.Common.{◌≡◌, ℕ, inl, inr, Some, List, ◌∷◌, length, refl, sym, ap, ◌∙◌, subst}
use Rattle.std.specs.Prelude.{slice_get, option_map, codes}
use Rattle.debug_records.specs.Change.{pass_name}
use Rattle.debug_records.specs.declared.change.Kind.TheVariants.{Removed}
use Rattle.graph_core.specs.declared.value.Value.TheVariants.{Odd}
use Rattle.graph_core.specs.Graphs.{Name, Of, NoteValue, Is, Instruction, Note, End, Block, Scalar, Graph, UnitForm}
use Rattle.graph_core.specs.Paths.{History, Path, place_of}
use Rattle.graph_core.specs.WellMarked.{AreWellMarked, IsRightNote, IsVariable, WrittenIn, instruction}
use Rattle.graph_core_weights.proofs.Standing.{in_place}
use Rattle.pass_law.specs.Earned.{IsBorneOut, IsRemoved}
use Rattle.dead_pass_rule.specs.Removing.{IsReduced}
use Rattle.dead_pass_notes.specs.Said.{IsDropped, SaysWhatItShall}
use Rattle.dead_pass_notes.specs.Writes.{IsRemovedWrite}
use Rattle.dead_pass_laws.proofs.Came.{reduced_graph, IsTaken, path_passes}
use Rattle.dead_pass_laws.proofs.Entry.{variable_scalar}
use Rattle.dead_pass_laws.proofs.Followed.{IsFollowed}
use Rattle.dead_pass_laws.proofs.Instructions.{left_note}
use Rattle.dead_pass_laws.proofs.Lags.{Lags, lags_behind}
use Rattle.dead_pass_laws.proofs.Values.{writes_target}
use Rattle.dead_pass_laws.proofs.Ways.{path_next}
use Rattle.dead_pass_laws.proofs.Whole.{function_made}
use Rattle.dead_pass_laws.proofs.Written.{dropped_none, goes_dropped, written_stays}
use Rattle.cdbg_passes.specs.Earned.{AreEarned}
use Rattle.cdbg_passes.specs.Steps.{RemovesDead}
use Rattle.cdbg_passes.proofs.Functions.{made_of}
use Rattle.cdbg_passes.proofs.Lagging.{IsLagging, lagging_unread}
use Rattle.cdbg_passes.proofs.LoggedCases.{logged_for}
use Rattle.cdbg_passes.proofs.Unassigned.{unassigned}

module _ (u v : UnitForm) (g : Graph) (blocks : List Block) (taken : IsTaken u v.log g blocks) (p x variable : ℕ) (is_variable : IsVariable g x variable) (d : IsDropped u.assignments g p x) where
  -- The place wrote the scalar before,
  was_written : WrittenIn g p x
  was_written = instruction d.instruction (in_place g d.n d.stands.block d.stands.before d.instruction d.rest p d.stands.is d.stands.instructions d.stands.place) (writes_target x d.instruction d.target)

  -- and does not after.
  unwritten : WrittenIn (reduced_graph g blocks) p x → ⊥
  unwritten w = dropped_none g p x d (written_stays u v.log g blocks taken p x w)

  -- Where a path comes to its note in the place, the scalar lags.
  lags_there : (hist after : History) (n : ℕ) (value : NoteValue) (rest : List Instruction) (e : End) → Path g hist n (Note x value ∷ rest) e → place_of hist ≡ Some p → IsFollowed u v.log g blocks taken hist after n (Note x value ∷ rest) e
      → Lags u.assignments g x hist n (Note x value ∷ rest) e
  lags_there hist after n value rest e along place followed = elim (followed.still_written x (taken.marked.behind_write hist n x rest e (subst (λ w. Path g hist n (Note x w ∷ rest) e) own along))) [
    | inl lagging ↦ lagging.lags
    | inr still ↦ absurd (dropped_none g p x d (still.stays_written p place))
  ]
    where
      by_right : IsRightNote u g p x variable value → value ≡ Is (Of (Name x))
      by_right (inl it) = it.0
      by_right (inr another) = absurd (another.1 was_written)

      own : value ≡ Is (Of (Name x))
      own = by_right (taken.marked.right hist n p x variable value rest e is_variable along place)

  -- So it does behind the note in the graph after.
  note_lags : (after : History) (value : NoteValue) (n : ℕ) (rest : List Instruction) (e : End) → Path (reduced_graph g blocks) after n (Note x value ∷ rest) e → place_of after ≡ Some p → IsLagging u v.log g blocks taken x n rest e
  note_lags after value n rest e along place =
      let c = path_next u v.log g blocks taken after n (Note x value) rest e along in
      let was = left_note v.log g n c.rest e x value c.left refl in
      let there : Path g c.hist n (Note x was.0 ∷ c.rest) e = subst (λ i. Path g c.hist n (i ∷ c.rest) e) was.1 c.along in
      let followed : IsFollowed u v.log g blocks taken c.hist after n (Note x was.0 ∷ c.rest) e = subst (λ i. IsFollowed u v.log g blocks taken c.hist after n (i ∷ c.rest) e) was.1 c.followed in
      record {
        hist = record { block = n; left = length c.rest; instruction = Note x was.0; wrote = Odd } ∷ c.hist;
        rest = c.rest;
        along = path_passes g c.hist n (Note x was.0) c.rest e Odd there;
        said = c.said;
        lags = lags_behind g x c.hist n (Note x was.0) c.rest e Odd refl (lags_there c.hist after n was.0 c.rest e there (sym followed.same_place ∙ place) followed);
      }

  -- An assignment that goes was removed.
  was_removed : IsRemoved g (reduced_graph g blocks) p x
  was_removed = record {
    once = d.once;
    none = unassigned (reduced_graph g blocks) p x unwritten;
    unread = λ hist value n rest e along place. lagging_unread u v.log g blocks taken x n rest e (note_lags hist value n rest e along place);
  }

-- EACH CHANGE OF THE REMOVAL OF DEAD ASSIGNMENTS IS EARNED.
pub dead_earned : (u v : UnitForm) → AreWellMarked u → RemovesDead u v → AreEarned u v
dead_earned u v marked step k c low at homes =
    let l = logged_for (pass_name (codes "dead")) Removed (λ before after. IsRemovedWrite u.assignments before) u v step.changes k c low at in
    let reduced = made_of (IsReduced u.assignments) u.graphs v.graphs step.functions l.function l.before l.after l.stood l.stands in
    let said = made_of (SaysWhatItShall u.assignments v.log) u.graphs v.graphs step.notes l.function l.before l.after l.stood l.stands in
    let made = function_made u v marked (pass_name (codes "dead")) step.changes l.function l.before l.after l.stood l.stands reduced said in
    let write : IsRemovedWrite u.assignments l.before l.of = l.is in
    let dropped : IsDropped u.assignments l.before l.of.place.0 write.x = goes_dropped l.before l.of.place.0 write.x (variable_scalar l.before.scalars write.x l.of.var.0 write.variable)
    (record { n = l.of.block; instruction = write.instruction; rest = write.rest; end = write.end; stands = write.stood; target = write.written; goes = write.goes }) in
    let removed = was_removed u v l.before l.after.blocks made.taken l.of.place.0 write.x l.of.var.0 write.variable dropped in
    record {
      logged = l.logged;
      function = l.function;
      before = l.before;
      after = l.after;
      stood = l.stood;
      stands = l.stands;
      x = write.x;
      scalar = ap (λ (all : List Scalar). option_map (λ (s : Scalar). s.variable) (slice_get all write.x)) (ap (λ (q : Graph). q.scalars) reduced.rest) ∙ write.variable ∙ ap (λ (m : ℕ). Some m) l.variable_is;
      borne_out = subst (λ a. IsBorneOut a v.log (homes l.function) l.before l.after c.place write.x c.variable) (sym l.kind_is)
          (subst (λ q. IsRemoved l.before l.after q write.x) l.place_is (subst (λ h. IsRemoved l.before h l.of.place.0 write.x) (sym made.is) removed));
    }

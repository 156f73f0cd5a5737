use Rattle.std.proofs.Common.{◌≡◌, not, Bool, true, false, true≢false, length, map, sym, ◌∙◌, refl, arith}
use Rattle.graph_core.specs.Graphs.{scalar_view}
use Rattle.home_assign.specs.Moves.{is_moved_at}
use Rattle.home_assign.proofs.FirstCopies.{so_far_other, so_far_own}
use Rattle.home_assign.proofs.copies.Copies.add.Goals as goal
use Rattle.home_assign.proofs.copies.Copies.add.Goals.{else-is_first-via-then-is_first+then-scalars-from+else-has, else-is_first-via-then-is_first+else-scalars-from, else-is_first-via-else-is_first}

not_true : (b : Bool) → not b ≡ true → b ≡ false
not_true true e = absurd (true≢false (sym e))
not_true false e = refl

pub returns-in_ok-add : goal.returns-in_ok-add
returns-in_ok-add c = λ rest whole so.
    so_far_own (is_moved_at (map scalar_view c.args.scalars.now) c.args.moves.now) (length c.args.scalars.now) c.args.place c.args.to c.args.from c.args.self.now (record { seen = c.add.new.self; own = c.add-then-has.new.self }) rest whole so c.in_ok-is_first.ensures.added
    (not_true _ (sym c.in_ok-is_first.ensures.new ∙ c.if-is_first.true)) (omega (arith, c.if-scalars-from.true)) (sym c.has.ensures ∙ c.if-has.true) c.in_ok-add.ensures.added

pub returns-else-is_first : goal.returns-else-is_first
returns-else-is_first c = λ rest whole so.
    so_far_other (is_moved_at (map scalar_view c.args.scalars.now) c.args.moves.now) (length c.args.scalars.now) c.args.place c.args.to c.args.from c.args.self.now (record { seen = c.add.new.self; own = c.args.self.now.own }) rest whole so c.in_ok-is_first.ensures.added
    (λ unseen temporary away. elim c.else-is_first.branch [
      | else-is_first-via-then-is_first+then-scalars-from+else-has w ↦ true≢false (sym away ∙ sym w.has.ensures ∙ w.if-has.false)
      | else-is_first-via-then-is_first+else-scalars-from w ↦ omega (arith, temporary, w.if-scalars-from.false)
      | else-is_first-via-else-is_first w ↦ true≢false (sym (c.in_ok-is_first.ensures.new ∙ not_false _ unseen) ∙ w.if-is_first.false)
    ])
    (λ x y. refl)
  where
    not_false : (b : Bool) → b ≡ false → not b ≡ true
    not_false true e = absurd (true≢false e)
    not_false false e = refl

use Rattle.std.proofs.Common.{◌≡◌, ◌∙◌, ℕ, List, arith, subst, sym}
use Rattle.std.specs.List.Sorted.{IsNonDecreasing}
use Rattle.currency_writers.specs.Flooding.{AreLeastOf, AreStartsOf}
use Rattle.currency_writers.specs.Marks.{room_of}
use Rattle.currency_hiding.proofs.Barring.{room_same}
use Rattle.currency_hiding.proofs.QuietWays.{disturbed_by, quiet_starts}
use Rattle.currency_hiding.proofs.quiet.Quiet.turn_to.Goals as goal

pub past-ways-requires : goal.past-ways-requires
past-ways-requires c =
    (let disturbed = c.mark_disturbed.ensures.room in
    let same : room_of c.mark_barred.new.self.disturbed ≡ room_of c.mark_disturbed.new.self.disturbed = room_same _ _ c.in_ok-mark_barred.ensures.disturbed in
    let was = c.requires.disturbed in
    record { turned = c.requires.asked.search; room = omega (arith, disturbed, same, was) })

pub find_starts-requires : goal.find_starts-requires
find_starts-requires c =
    (let blocked : room_of c.past-ways.result.blocked.now ≡ room_of c.mark_barred.new.self.disturbed = room_same _ _ c.past-ways.ensures.blocked in
    let same : room_of c.mark_barred.new.self.disturbed ≡ room_of c.mark_disturbed.new.self.disturbed = room_same _ _ c.in_ok-mark_barred.ensures.disturbed in
    let disturbed = c.mark_disturbed.ensures.room in
    let forget = c.forget.ensures.room in
    let starts : room_of c.mark_barred.new.self.starts ≡ room_of c.args.self.now.starts = room_same _ _ (c.in_ok-mark_barred.ensures.starts ∙ c.mark_disturbed.ensures.starts) in
    let was = c.requires.starts in
    record {
      ways = c.past-ways.ensures.ways;
      ascend = subst (λ (xs : List ℕ). IsNonDecreasing xs) (sym c.deref.ensures.value) c.in_ok-from.ensures.ascend;
      none = c.forget.ensures.none;
      room = omega (arith, blocked, same, disturbed, forget, starts, was);
    })

pub returns-clause-starts : goal.returns-clause-starts
returns-clause-starts c =
    (let q = c.args.question in
    let barred = c.mark_barred.new.self.barred in
    let from = c.in_ok-from.from.items in
    let w = c.past-ways.result in
    let starts = c.find_starts.new.starts in
    quiet_starts q.changes.now q.search.now q.function.now w barred c.assigning.result.now from starts
    (disturbed_by q.changes.now q.search.now q.function.now w c.mark_disturbed.new.self.disturbed (room_of c.args.self.now.disturbed) c.requires.asked.search c.requires.disturbed c.past-ways.ensures.steps (c.past-ways.ensures.blocked ∙ c.in_ok-mark_barred.ensures.disturbed) c.mark_disturbed.ensures.marked
    c.mark_disturbed.ensures.only)
    (record { marked = c.in_ok-mark_barred.ensures.marked; bare = c.in_ok-mark_barred.ensures.only; assigning = c.assigning.ensures.places; only = c.in_ok-from.ensures.only; all = c.in_ok-from.ensures.all })
    (subst (λ (xs : List ℕ). AreStartsOf w xs starts) c.deref.ensures.value c.in_ok-find_starts.ensures.starts) (subst (λ (xs : List ℕ). AreLeastOf w xs starts) c.deref.ensures.value c.in_ok-find_starts.ensures.least))

pub returns-clause-disturbed_room : goal.returns-clause-disturbed_room
returns-clause-disturbed_room c = room_same _ _ c.in_ok-mark_barred.ensures.disturbed ∙ c.mark_disturbed.ensures.room

pub returns-clause-barred_room : goal.returns-clause-barred_room
returns-clause-barred_room c = c.in_ok-mark_barred.ensures.room ∙ room_same _ _ c.mark_disturbed.ensures.barred

pub returns-clause-starts_room : goal.returns-clause-starts_room
returns-clause-starts_room c = c.in_ok-find_starts.ensures.room ∙ c.forget.ensures.room ∙ room_same _ _ (c.in_ok-mark_barred.ensures.starts ∙ c.mark_disturbed.ensures.starts)

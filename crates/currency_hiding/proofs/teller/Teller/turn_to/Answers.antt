use Rattle.std.proofs.Common.{arith, refl}
use Rattle.std.specs.Prelude.{◌≡◌}
use Rattle.currency_writers.specs.Flow.{HasRoom}
use Rattle.currency_writers.specs.Marks.{room_of}
use Rattle.currency_writers.specs.declared.search.Search as declared-search
use Rattle.currency_hiding.specs.declared.quiet.Quiet as declared-quiet
use Rattle.currency_hiding.specs.QuietStarts.{HasQuietRoom}
use Rattle.currency_hiding.specs.declared.teller.Teller as declared-teller
use Rattle.currency_hiding.specs.Found.{IsAsked}
use Rattle.currency_hiding.proofs.Asked.{asked_by}
use Rattle.currency_hiding.proofs.First.{ready_by}
use Rattle.currency_hiding.proofs.Found.{causes_none}
use Rattle.currency_hiding.proofs.teller.Teller.turn_to.Goals as goal

pub add_removed-requires : goal.add_removed-requires
add_removed-requires c =
    (let search = c.turn_to.new.self in
    let function = c.turn_to-2.new.self in
    let changes = c.args.self.now.changes in
    let room : HasRoom search.flow c.forget.new.self.told =
    (let flow = c.in_ok-turn_to.ensures.room in let told = c.forget.ensures.room in let was = c.requires.teller.room in omega (arith, flow, told, was)) in
    record {
      asked = asked_by changes search function c.args.var.0 c.requires.teller.changes c.in_ok-turn_to.ensures.turned c.in_ok-turn_to.ensures.var c.in_ok-turn_to-2.ensures.on;
      none = c.forget.ensures.found;
      causes = causes_none changes search function c.forget.new.self c.forget.ensures.found c.forget.ensures.told room;
    })

pub add_moved-requires : goal.add_moved-requires
add_moved-requires c = record {
  asked = asked_by c.args.self.now.changes c.turn_to.new.self c.turn_to-2.new.self c.args.var.0 c.requires.teller.changes c.in_ok-turn_to.ensures.turned c.in_ok-turn_to.ensures.var c.in_ok-turn_to-2.ensures.on;
  next = c.in_ok-add_removed.ensures.next;
  causes = c.in_ok-add_removed.ensures.causes;
}

pub add_reused-requires : goal.add_reused-requires
add_reused-requires c = record {
  asked = asked_by c.args.self.now.changes c.turn_to.new.self c.turn_to-2.new.self c.args.var.0 c.requires.teller.changes c.in_ok-turn_to.ensures.turned c.in_ok-turn_to.ensures.var c.in_ok-turn_to-2.ensures.on;
  next = c.in_ok-add_moved.ensures.next;
  causes = c.in_ok-add_moved.ensures.causes;
}

pub turn_to-requires-3 : goal.turn_to-requires-3
turn_to-requires-3 c =
    (let flow = c.in_ok-turn_to.ensures.room in
    let was = c.requires.teller.quiet in
    let disturbed = was.disturbed in
    let barred = was.barred in
    record {
      asked = asked_by c.args.self.now.changes c.turn_to.new.self c.turn_to-2.new.self c.args.var.0 c.requires.teller.changes c.in_ok-turn_to.ensures.turned c.in_ok-turn_to.ensures.var c.in_ok-turn_to-2.ensures.on;
      disturbed = omega (arith, flow, disturbed);
      barred = omega (arith, flow, barred);
      starts = was.starts;
    })

quiet_room : (s t : declared-search.Search) (q r : declared-quiet.Quiet) → room_of t.flow.assigns ≡ room_of s.flow.assigns → room_of r.disturbed ≡ room_of q.disturbed → room_of r.barred ≡ room_of q.barred → room_of r.starts ≡ room_of q.starts → HasQuietRoom s q → HasQuietRoom t r
quiet_room s t q r flow disturbed barred starts was =
    (let one = was.disturbed in
    let two = was.barred in
    let three = was.starts in
    record { disturbed = omega (arith, flow, disturbed, one); barred = omega (arith, flow, barred, two); starts = omega (arith, disturbed, starts, three) })

pub returns-clause-teller : goal.returns-clause-teller
returns-clause-teller c = record {
  teller = record {
    changes = c.requires.teller.changes;
    search = c.in_ok-turn_to.ensures.turned.search;
    room = c.in_ok-add_reused.ensures.causes.room;
    quiet = quiet_room c.args.self.now.search c.turn_to.new.self c.args.self.now.quiet c.turn_to-3.new.self c.in_ok-turn_to.ensures.room c.in_ok-turn_to-3.ensures.disturbed_room c.in_ok-turn_to-3.ensures.barred_room c.in_ok-turn_to-3.ensures.starts_room c.requires.teller.quiet;
  };
  changes = refl;
  flow = c.in_ok-turn_to.ensures.table;
}

pub returns-clause-ready : goal.returns-clause-ready
returns-clause-ready c =
    (let search = c.turn_to.new.self in
    let function = c.turn_to-2.new.self in
    let changes = c.args.self.now.changes in
    let t : declared-teller.Teller = record { changes = changes; search = search; causes = c.add_reused.new.self; quiet = c.turn_to-3.new.self } in
    let asked : IsAsked changes search function = asked_by changes search function c.args.var.0 c.requires.teller.changes c.in_ok-turn_to.ensures.turned c.in_ok-turn_to.ensures.var c.in_ok-turn_to-2.ensures.on in
    let moved = c.in_ok-add_moved.ensures in
    let reused = c.in_ok-add_reused.ensures in
    ready_by t function c.add_removed.new.self c.add_moved.new.self asked reused.causes c.in_ok-add_removed.ensures.all moved.kept moved.all reused.kept reused.all c.in_ok-turn_to-3.ensures.starts)

use Rattle.std.proofs.Common.{sym, ap, subst, arith}
use Rattle.graph_homes.specs.declared.home.Home.TheVariants.{Register, Slot}
use Rattle.home_assign.specs.Choosing.{HaveHomeRegisters}
use Rattle.home_assign.specs.Rule.{IsHome, slots_in}
use Rattle.home_assign.proofs.Choices.{concluded, registers_put, registers_same, registers_slot, slots_few, slots_put}
use Rattle.home_assign.proofs.choosing.Choice.push.Goals as goal

pub put_home-requires-in-None-clause-home : goal.put_home-requires-in-None-clause-home
put_home-requires-in-None-clause-home c = omega (arith, c.requires.slots, slots_few c.args.self.now.homes.items)

pub overflow_add-self : goal.overflow_add-self
overflow_add-self c = omega (arith, c.requires.slots, slots_few c.args.self.now.homes.items, c.requires.few)

pub returns-in_ok-put_home-in-Some-clause-registers : goal.returns-in_ok-put_home-in-Some-clause-registers
returns-in_ok-put_home-in-Some-clause-registers c =
    let homes = c.args.self.now.homes.items in
    subst (λ hs. HaveHomeRegisters c.take.new.self hs) (sym c.in_ok-put_home-in-Some.ensures.put)
    (registers_put c.chosen.new.interference c.take.new.self homes c.in-Some.register c.home_register.result c.args.name c.home_register.ensures.at c.requires.name c.take.ensures.taken
    (registers_same c.args.interference.now c.chosen.new.interference homes c.chosen.ensures.registers c.requires.registers))

pub returns-in_ok-put_home-in-Some-clause-slots : goal.returns-in_ok-put_home-in-Some-clause-slots
returns-in_ok-put_home-in-Some-clause-slots c =
    omega (arith, c.requires.slots, ap slots_in c.in_ok-put_home-in-Some.ensures.put, slots_put c.args.self.now.homes.items (Register c.home_register.result))

pub returns-in_ok-put_home-in-Some-clause-next : goal.returns-in_ok-put_home-in-Some-clause-next
returns-in_ok-put_home-in-Some-clause-next c = record {
  home = Register c.home_register.result;
  is = c.in_ok-put_home-in-Some.ensures.put;
  rule = λ g right told.
      concluded g c.args.interference.now c.args.self.now.homes.items c.args.name right c.requires.registers c.requires.name c.requires.within c.args.joined told c.requires.among c.in-Some.ensures.chosen c.home_register.result
      c.home_register.ensures.at;
}

pub returns-in_ok-put_home-in-None-clause-registers : goal.returns-in_ok-put_home-in-None-clause-registers
returns-in_ok-put_home-in-None-clause-registers c =
    let homes = c.args.self.now.homes.items in
    subst (λ hs. HaveHomeRegisters c.chosen.new.interference hs) (sym c.in_ok-put_home-in-None.ensures.put)
    (registers_slot c.chosen.new.interference homes c.args.self.now.slots (registers_same c.args.interference.now c.chosen.new.interference homes c.chosen.ensures.registers c.requires.registers))

pub returns-in_ok-put_home-in-None-clause-slots : goal.returns-in_ok-put_home-in-None-clause-slots
returns-in_ok-put_home-in-None-clause-slots c =
    omega (arith, c.requires.slots, ap slots_in c.in_ok-put_home-in-None.ensures.put, slots_put c.args.self.now.homes.items (Slot c.args.self.now.slots))

pub returns-in_ok-put_home-in-None-clause-next : goal.returns-in_ok-put_home-in-None-clause-next
returns-in_ok-put_home-in-None-clause-next c = record {
  home = Slot c.args.self.now.slots;
  is = c.in_ok-put_home-in-None.ensures.put;
  rule = λ g right told.
      subst (λ n. IsHome g c.args.self.now.homes.items c.args.name (Slot n)) (sym c.requires.slots)
      (concluded g c.args.interference.now c.args.self.now.homes.items c.args.name right c.requires.registers c.requires.name c.requires.within c.args.joined told c.requires.among c.in-None.ensures.chosen);
}

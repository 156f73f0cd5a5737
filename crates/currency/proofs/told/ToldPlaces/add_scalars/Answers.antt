use Rattle.std.proofs.Common.{arith, length, refl, ◌∙◌}
use Rattle.currency.specs.Evident.{IsHidingScalar}
use Rattle.currency.proofs.Entries.{scalar_next_any, scalars_done, scalars_first}
use Rattle.currency.proofs.Hiding.{function_on, new_none, same_function, same_teller, scalar_more_any, scalar_within, teller_on}
use Rattle.currency.proofs.Tellable.{can_read}
use Rattle.currency.proofs.told.ToldPlaces.add_scalars.Goals as goal

pub loop-x-init : goal.loop-x-init
loop-x-init c = record {
  told = scalars_first c.args.self.now c.args.scalars.now c.args.unshown.now;
  teller = same_teller c.args.teller.now c.requires.teller;
  function = same_function c.args.function.now c.requires.function;
  hiding = new_none (IsHidingScalar c.args.teller.now c.args.function.now.writers c.args.scalars.now) c.args.self.now;
  count = refl;
}

pub add_scalar-requires-clause-teller : goal.add_scalar-requires-clause-teller
add_scalar-requires-clause-teller c = c.loop-x.invariant.teller.teller

pub add_scalar-requires-clause-function : goal.add_scalar-requires-clause-function
add_scalar-requires-clause-function c = c.loop-x.invariant.function.function

pub add_scalar-requires-clause-scalar : goal.add_scalar-requires-clause-scalar
add_scalar-requires-clause-scalar c = scalar_within c.args.function.now c.loop-x.function c.args.scalars.now c.loop-x.x c.loop-x.x c.loop-x.invariant.function refl c.loop-x-test.true c.requires.scalars

pub add_scalar-requires-clause-can : goal.add_scalar-requires-clause-can
add_scalar-requires-clause-can c =
    (let known = c.loop-x.invariant in
    can_read c.args.teller.now c.loop-x.teller c.args.function.now c.loop-x.function c.args.scalars.now c.args.unshown.now c.loop-x.x _ c.index-unshown-x.result c.deref.result.now (length c.args.self.now.by_place.items) (length c.loop-x.self.by_place.items) c.loop-x-test.true (omega arith)
    c.index-unshown-x.is c.deref.ensures.value known.count known.teller known.function c.requires.can)

pub loop-x-preserved : goal.loop-x-preserved
loop-x-preserved c =
    (let known = c.loop-x.invariant in
    let said = c.in_ok-add_scalar.ensures in
    record {
      told = scalar_next_any c.args.self.now c.loop-x.self c.add_scalar.new.self c.args.scalars.now c.args.unshown.now c.loop-x.x _ c.index-unshown-x.result c.deref.result.now c.loop-x-test.true (omega arith) c.index-unshown-x.is c.deref.ensures.value known.told said.told;
      teller = teller_on c.args.teller.now c.loop-x.teller c.add_scalar.new.teller known.teller said.teller;
      function = function_on c.args.function.now c.loop-x.function c.add_scalar.new.function known.function said.function;
      hiding = scalar_more_any c.args.teller.now c.loop-x.teller c.args.function.now c.loop-x.function c.args.scalars.now c.loop-x.x c.loop-x.x _ c.args.self.now c.loop-x.self c.add_scalar.new.self c.loop-x-test.true refl known.teller known.function known.hiding said.hiding;
      count = said.count ∙ known.count;
    })

pub returns-clause-told : goal.returns-clause-told
returns-clause-told c = scalars_done c.args.self.now c.loop-x.self c.args.scalars.now c.args.unshown.now c.loop-x.x (omega arith) c.loop-x.invariant.told

use Rattle.std.proofs.Common.{◌≡◌, false, length, replicate, rules}
use Rattle.currency_shown.proofs.Linking.{begun_none, chains_all}
use Rattle.currency_shown.proofs.chains.chains_of.Goals as goal

pub add-requires-clause-begun : goal.add-requires-clause-begun
add-requires-clause-begun c =
    let filled : c.in_ok-vec.field-0.items ≡ replicate (length c.args.blocks.now) false = search rules in
    begun_none c.args.blocks.now c.in_ok-links.links _ filled c.new.ensures.items

pub returns : goal.returns
returns c =
    chains_all c.args.blocks.now c.in_ok-links.links c.add_all.new.self c.in_ok-links.ensures c.in_ok-add_all.ensures.begun
    (λ lt none. c.in_ok-add_all.ensures.kept 0 (c.in_ok-add_each.ensures.kept 0 (c.in_ok-add.ensures.starts lt none))) c.in_ok-add_all.ensures.starts

use Rattle.std.proofs.Common.{◌≡◌, ◌<◌, ℕ, length, sym, ap, ◌∙◌, arith, refl, Some}
use Rattle.std.specs.Prelude.{slice_get, slice_index_or}
use Rattle.std.specs.declared.vec.Vec.{Vec}
use Rattle.std.specs.declared.alloc.Global.{Global}
use Rattle.std.proofs.lemmas.Option.{slice_get-get_or}
use Rattle.dead_pass_rule.specs.Walks.{turn_in}
use Rattle.dead_pass_rule.proofs.Turning.{goes_one}
use Rattle.base_laws.proofs.Lists.{get_same}
use Rattle.dead_pass_rule.proofs.cascade.put_turn.Goals as goal

pub returns-clause-one : goal.returns-clause-one
returns-clause-one c = λ e.
    (let turns = c.args.turns.now in
    let row = slice_index_or turns c.args.block c.index-turns-block-2.result in
    let lt : c.args.block < length turns = omega arith in
    let at : slice_get turns c.args.block ≡ Some row = slice_get-get_or turns c.args.block c.index-turns-block-2.result lt in
    let first = slice_index_or turns c.args.block c.index-turns-block.result in
    let same : first ≡ row = get_same turns c.args.block c.index-turns-block.result c.index-turns-block-2.result lt in
    let counts : length first.items ≡ length row.items = ap (λ (v : Vec ℕ Global). length v.items) same in
    let size = first.ok.0 in
    let within : c.args.left < length row.items = omega (arith, c.len.ensures, counts, size) in
    let stayed : slice_index_or row.items c.args.left 0 ≡ 0 = sym (ap (λ o. turn_in o c.args.left) at) ∙ sym c.turn_at.ensures ∙ c.if-turn_at-ne0.false in
    goes_one turns _ c.args.block c.args.left row _ at refl refl within stayed)

use Rattle.std.proofs.Common.{◌-◌, ℕ, List, Some, ap, arith, subst, sym, ◌∙◌}
use Rattle.std.proofs.lemmas.Option.{slice_get-get_or}
use Rattle.debug_records.specs.declared.change.Var as declared-var
use Rattle.currency_shown.specs.Found.{AreOnlyOf, AreVisibleTold, IsSeen}
use Rattle.currency_shown.proofs.found.Found.add_place.Goals as goal

pub returns : goal.returns
returns c =
    (let m = c.args.function.now.homes in
    let s = c.args.state.now in
    let p = c.args.place.0 in
    let some = c.requires.some in
    let within = c.requires.within in
    let said = c.in_ok-add_all.ensures in
    record {
      row = c.index-row.result.now;
      some = some;
      is = slice_get-get_or c.args.table.now.rows.items (p - 1) c.index-row.result.now (omega (arith, some, within)) ∙ ap Some (sym c.index-row.ensures);
      fresh = c.requires.fresh;
      room = c.requires.room;
      met = said.met;
      added = said.added;
      told = subst (λ (vars : List declared-var.Var). AreVisibleTold m s c.args.numbering.now p c.add_all.new.self.unshown.items vars) c.deref.ensures.value said.told;
      only = subst (λ (vars : List declared-var.Var). AreOnlyOf (IsSeen c.args.numbering.now vars) c.args.self.now.unshown.items c.add_all.new.self.unshown.items) c.deref.ensures.value said.only;
    })

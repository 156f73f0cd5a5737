use Rattle.std.proofs.Common.{◌≡◌, ◌+◌, map, sum, take, ◌∙◌, arith}
use Rattle.image_form.specs.Views.{viewed}
use Rattle.image_form.specs.declared.tables.Function.{Function}
use Rattle.image_form.specs.declared.tables.Change.{Change}
use Rattle.image_form.specs.declared.variables.Variable.{Variable}
use Rattle.stop_engine_tables.proofs.NameBounds.{pass_name-ends, pass_name-piece}
use Rattle.stop_engine_tables.proofs.NameStartLaws.{starts-of, starts-within}
use Rattle.stop_engine_tables.proofs.Records.{record_at}
use Rattle.stop_engine_tables.proofs.tables.NameStarts.pass.Goals as goal

pub index-start-requires : goal.index-start-requires
index-start-requires c =
    let within = starts-within _ (λ (x : Change). x.pass_length) (viewed c.args.image.now).changes c.args.number c.args.self.now.passes.items c.requires.starts.passes c.requires.number in
    omega (arith, within)

pub name_at-requires : goal.name_at-requires
name_at-requires c =
    let m = viewed c.args.image.now in
    let start : c.index-start.result.now ≡ (sum (map (λ (f : Function). f.name_length) m.functions) + sum (map (λ (v : Variable). v.name_length) m.variables)) + sum (map (λ (x : Change). x.pass_length) (take c.args.number m.changes)) =
    c.index-start.ensures ∙ starts-of _ (λ (x : Change). x.pass_length) m.changes c.args.number _ c.args.self.now.passes.items c.requires.starts.passes c.requires.number in
    rw (start, record_at m.changes c.args.number c.change_at.result c.change_at.result c.change_at.ensures) (pass_name-ends m c.args.number c.change_at.result c.requires.image c.requires.number)

pub returns : goal.returns
returns c =
    let m = viewed c.args.image.now in
    let start : c.index-start.result.now ≡ (sum (map (λ (f : Function). f.name_length) m.functions) + sum (map (λ (v : Variable). v.name_length) m.variables)) + sum (map (λ (x : Change). x.pass_length) (take c.args.number m.changes)) =
    c.index-start.ensures ∙ starts-of _ (λ (x : Change). x.pass_length) m.changes c.args.number _ c.args.self.now.passes.items c.requires.starts.passes c.requires.number in
    rw (c.name_at.ensures, start, record_at m.changes c.args.number c.change_at.result c.change_at.result c.change_at.ensures) (pass_name-piece m c.args.number c.change_at.result c.requires.number)

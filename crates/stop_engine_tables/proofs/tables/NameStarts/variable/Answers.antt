use Rattle.std.proofs.Common.{◌≡◌, ◌+◌, map, sum, take, ◌∙◌, arith}
use Rattle.image_form.specs.Views.{viewed}
use Rattle.image_form.specs.declared.tables.Function.{Function}
use Rattle.image_form.specs.declared.variables.Variable.{Variable}
use Rattle.stop_engine_tables.proofs.NameBounds.{variable_name-ends, variable_name-piece}
use Rattle.stop_engine_tables.proofs.NameStartLaws.{starts-of, starts-within}
use Rattle.stop_engine_tables.proofs.Records.{record_at}
use Rattle.stop_engine_tables.proofs.tables.NameStarts.variable.Goals as goal

pub index-start-requires : goal.index-start-requires
index-start-requires c =
    let within = starts-within _ (λ (x : Variable). x.name_length) (viewed c.args.image.now).variables c.args.number c.args.self.now.variables.items c.requires.starts.variables c.requires.number in
    omega (arith, within)

pub name_at-requires : goal.name_at-requires
name_at-requires c =
    let m = viewed c.args.image.now in
    let start : c.index-start.result.now ≡ sum (map (λ (f : Function). f.name_length) m.functions) + sum (map (λ (x : Variable). x.name_length) (take c.args.number m.variables)) =
    c.index-start.ensures ∙ starts-of _ (λ (x : Variable). x.name_length) m.variables c.args.number _ c.args.self.now.variables.items c.requires.starts.variables c.requires.number in
    rw (start, record_at m.variables c.args.number c.variable_at.result c.variable_at.result c.variable_at.ensures) (variable_name-ends m c.args.number c.variable_at.result c.requires.image c.requires.number)

pub returns : goal.returns
returns c =
    let m = viewed c.args.image.now in
    let start : c.index-start.result.now ≡ sum (map (λ (f : Function). f.name_length) m.functions) + sum (map (λ (x : Variable). x.name_length) (take c.args.number m.variables)) =
    c.index-start.ensures ∙ starts-of _ (λ (x : Variable). x.name_length) m.variables c.args.number _ c.args.self.now.variables.items c.requires.starts.variables c.requires.number in
    rw (c.name_at.ensures, start, record_at m.variables c.args.number c.variable_at.result c.variable_at.result c.variable_at.ensures) (variable_name-piece m c.args.number c.variable_at.result c.requires.number)

use Rattle.std.proofs.Common.{◌≡◌, map, sum, take, ◌∙◌, arith}
use Rattle.image_form.specs.Views.{viewed}
use Rattle.image_form.specs.declared.tables.Function.{Function}
use Rattle.stop_engine_tables.proofs.NameBounds.{function_name-ends, function_name-piece}
use Rattle.stop_engine_tables.proofs.NameStartLaws.{starts-of-first, starts-within}
use Rattle.stop_engine_tables.proofs.Records.{record_at}
use Rattle.stop_engine_tables.proofs.tables.NameStarts.function.Goals as goal

pub index-start-requires : goal.index-start-requires
index-start-requires c =
    let within = starts-within 0 (λ (x : Function). x.name_length) (viewed c.args.image.now).functions c.args.number c.args.self.now.functions.items c.requires.starts.functions c.requires.number in
    omega (arith, within)

pub name_at-requires : goal.name_at-requires
name_at-requires c =
    let m = viewed c.args.image.now in
    let start : c.index-start.result.now ≡ sum (map (λ (x : Function). x.name_length) (take c.args.number m.functions)) =
    c.index-start.ensures ∙ starts-of-first (λ (x : Function). x.name_length) m.functions c.args.number _ c.args.self.now.functions.items c.requires.starts.functions c.requires.number in
    rw (start, record_at m.functions c.args.number c.function_at.result c.function_at.result c.function_at.ensures) (function_name-ends m c.args.number c.function_at.result c.requires.image c.requires.number)

pub returns : goal.returns
returns c =
    let m = viewed c.args.image.now in
    let start : c.index-start.result.now ≡ sum (map (λ (x : Function). x.name_length) (take c.args.number m.functions)) =
    c.index-start.ensures ∙ starts-of-first (λ (x : Function). x.name_length) m.functions c.args.number _ c.args.self.now.functions.items c.requires.starts.functions c.requires.number in
    rw (c.name_at.ensures, start, record_at m.functions c.args.number c.function_at.result c.function_at.result c.function_at.ensures) (function_name-piece m c.args.number c.function_at.result c.requires.number)

use Rattle.std.proofs.Common.{map, replicate, ap, sym, ◌∙◌}
use Rattle.std.proofs.lemmas.List.{length-replicate}
use Rattle.image_form.specs.declared.variables.Storage.TheVariants.{Static}
use Rattle.rv_emit_tables.specs.Emitted.{function_view}
use Rattle.graph_core.specs.Graphs.{graph_view}
use Rattle.graph_homes.specs.declared.homed.FunctionHomes.{FunctionHomes}
use Rattle.image_build_tables.specs.Storages.{functions_kept, put_all, statics_kept}
use Rattle.image_build_tables.proofs.Putting.{put_twice}
use Rattle.image_build_tables.proofs.storages.storages_of.Goals as goal

pub returns : goal.returns
returns c =
    let n = c.args.variables in
    let h = c.args.homed.now in
    let e = c.args.emitted.now in
    let table = replicate n (Static 0) in
    let statics = statics_kept 0 e.statics.items in
    let functions = functions_kept (map graph_view h.unit.graphs.items) (map function_view e.functions.items) (map (λ (f : FunctionHomes). f.homes.items) h.homes.items) in
    let are = c.in_ok-table.ensures.items_if_clones_equal (λ y e. e) in
    let counted = length-replicate n (Static 0) ∙ sym c.in_ok-table.ensures.len in
    put_twice statics functions c.in_ok-table.table.items table c.put_statics.new.table c.put_functions.new.table c.in_ok-table.table.len counted are
    c.deref_mut.result.now c.deref_mut.ensures.value (c.put_statics.ensures ∙ ap (λ l. put_all (statics_kept 0 l) c.deref_mut.result.now) c.deref.ensures.value)
    c.deref_mut-2.result.now c.deref_mut-2.ensures.value
    (c.put_functions.ensures ∙ (λ i. put_all (functions_kept (map graph_view (c.deref-2.ensures.value i)) (map function_view (c.deref-3.ensures.value i)) (map (λ (f : FunctionHomes). f.homes.items) (c.deref-4.ensures.value i))) c.deref_mut-2.result.now))

use Rattle.std.proofs.Common.{◌∙◌}
use Rattle.image_build_tables.proofs.Putting.{function_put, whole}
use Rattle.image_build_tables.proofs.storages.put_functions.Goals as goal

pub loop-left-preserved : goal.loop-left-preserved
loop-left-preserved c =
    let l = c.loop-left in
    let gs = whole l.left.now c.graph-item.result c.in-len1-up.len_at_least c.graph-item.is in
    let cs = whole l.codes_left.now c.code-item.result c.in-len1-up-codes_left.len_at_least c.code-item.is in
    let hs = whole l.homes_left.now c.of-item.result c.in-len1-up-homes_left.len_at_least c.of-item.is in
    function_put l.left.now c.graph-item.result l.codes_left.now c.code-item.result l.homes_left.now c.of-item.result gs cs hs
    c.deref.result.now c.deref-in-len1-up.result.now c.deref-in-len1-up-2.result.now c.deref-in-len1-up-3.result.now
    c.deref.ensures.value c.deref-in-len1-up.ensures.value c.deref-in-len1-up-2.ensures.value c.deref-in-len1-up-3.ensures.value
    l.table c.put_scalars.new.table c.put_objects.new.table c.put_scalars.ensures c.put_objects.ensures ∙ l.invariant

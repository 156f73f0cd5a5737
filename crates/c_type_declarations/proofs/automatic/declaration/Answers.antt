use Rattle.std.proofs.Common.{◌≡◌, ◌<◌, ◌≤◌, ◌+◌, [], ◌∷◌, length, get_or, drop, map, sym, ap, ◌∙◌}
use Rattle.std.proofs.lemmas.List.{map-append}
use Rattle.c_tree.specs.Declarations.{declarator_view}
use Rattle.c_tree.specs.TypedStatements.{declared_view}
use Rattle.c_type_declarations.specs.Progress.{progress_view}
use Rattle.c_type_declarations.proofs.Loops.{drop_item, automatics_end, automatics_step}
use Rattle.c_type_declarations.proofs.automatic.declaration.Goals as goal

pub loop-declarator-preserved : goal.loop-declarator-preserved
loop-declarator-preserved c =
    let xs = c.args.declaration.now.declarators.items in
    let i = c.loop-declarator.declarator-index in
    let lt : i < length xs = rw c.deref-declarator-items.ensures.value at c.loop-declarator-test.true in
    let is : c.declarator-item.result ≡ get_or xs i c.declarator-item.result = rw c.deref-declarator-items.ensures.value at c.declarator-item.is in
    rw (c.in_ok-push.ensures.items, map-append declared_view c.loop-declarator.all.items (c.in_ok-one.one ∷ []))
    (sym (automatics_step c.args.declaration.now.integer_type (declarator_view c.declarator-item.result) (map declarator_view (drop (i + 1) xs)) (map declared_view c.loop-declarator.all.items) (declared_view c.in_ok-one.one) (progress_view c.loop-declarator.progress) (progress_view c.automatic.new.progress) c.in_ok-one.ensures)
    ∙ (rw (ap (λ ys. map declarator_view ys) (drop_item xs i c.declarator-item.result lt is)) at c.loop-declarator.invariant))

pub returns : goal.returns
returns c =
    let xs = c.args.declaration.now.declarators.items in
    let i = c.loop-declarator.declarator-index in
    let end : length xs ≤ i = rw c.deref-declarator-items.ensures.value at c.loop-declarator-test.false in
    sym (automatics_end c.args.declaration.now.integer_type declarator_view xs i (map declared_view c.loop-declarator.all.items) (progress_view c.loop-declarator.progress) end) ∙ c.loop-declarator.invariant

use Rattle.std.proofs.Common.{◌≡◌, List, ap, map, subst, sym, ◌∙◌}
use Rattle.std.specs.Prelude.{IfSome}
use Rattle.graph_core.specs.declared.graph.MemoryObject.{MemoryObject}
use Rattle.graph_core.specs.Graphs.{Binding, Block, Graph, Scalar, binding_view, block_view, graph_view, scalar_view}
use Rattle.copy_pass_rule.specs.Copying.{IsPropagated}
use Rattle.copy_pass_rule.specs.Flow.{AreFound, AreReadBlocks, IsSomeUnknown, lines_of}
use Rattle.copy_pass_rule.specs.Found.{AreCopiesOf}
use Rattle.graph_paths.specs.PathMarksTable.{bits_of}
use Rattle.copy_pass_rule.proofs.ByRule as rule
use Rattle.copy_pass_rule.proofs.Standing.{refused}
use Rattle.copy_pass_rule.proofs.propagation.propagated_by.Goals as goal

pub returns : goal.returns
returns c =
    let g = c.args.graph.now in
    let copies = c.in-Some.copies.all.now in
    let bits = bits_of c.in_ok-starts.starts in
    let after : List Block = map block_view c.in-Some-2.blocks.items in
    let found = subst (λ xs. AreFound (lines_of (map block_view xs)) copies bits) c.deref.ensures.value c.in_ok-starts.ensures.found in
    let all = subst (λ o. IfSome o (λ made. AreReadBlocks (map scalar_view g.scalars.items) copies bits 0 (map block_view g.blocks.items) (map block_view made.items))) c.in-Some-2.is
    (subst (λ xs. IfSome c.in_ok-blocks.field-0 (λ made. AreReadBlocks (map scalar_view g.scalars.items) copies bits 0 (map block_view xs) (map block_view made.items))) c.deref-3.ensures.value
    (subst (λ ss. IfSome c.in_ok-blocks.field-0 (λ made. AreReadBlocks (map scalar_view ss) copies bits 0 (map block_view c.deref-3.result.now) (map block_view made.items))) c.deref-2.ensures.value c.in_ok-blocks.ensures.read)) in
    let made : List Binding → List Scalar → List MemoryObject → Graph =
    λ (bindings : List Binding) (scalars : List Scalar) (objects : List MemoryObject).
    record { entry = g.entry.0; parameters = bindings; scalars = scalars; objects = objects; name_count = g.name_count; first_moved = g.first_moved; blocks = after } in
    let one = ap (λ x. made (map binding_view x) (map scalar_view c.in_ok-from_slice-2.field-0.items) c.in_ok-from_slice-3.field-0.items) (c.in_ok-from_slice.ensures.items ∙ c.deref-4.ensures.value) in
    let two = ap (λ x. made (map binding_view g.parameters.items) (map scalar_view x) c.in_ok-from_slice-3.field-0.items) (c.in_ok-from_slice-2.ensures.items ∙ c.deref-5.ensures.value) in
    let three = ap (λ x. made (map binding_view g.parameters.items) (map scalar_view g.scalars.items) x) (c.in_ok-from_slice-3.ensures.items ∙ c.deref-6.ensures.value) in
    subst (λ (h : Graph). IsPropagated (graph_view g) h) (sym (one ∙ two ∙ three)) (rule.propagated (graph_view g) copies bits after found all)

pub returns-in_default-2 : goal.returns-in_default-2
returns-in_default-2 c = λ are.
    (let g = c.args.graph.now in
    let copies = c.in-Some.copies.all.now in
    let bits = bits_of c.in_ok-starts.starts in
    let same : copies ≡ c.args.copies.now =
    subst (λ o. IfSome o (λ some. some.all.now ≡ c.args.copies.now)) c.in-Some.is c.in_ok-copies.ensures.all in
    let found = subst (λ xs. AreFound (lines_of (map block_view xs)) copies bits) c.deref.ensures.value c.in_ok-starts.ensures.found in
    let unknown = subst (λ xs. IsSomeUnknown (map scalar_view g.scalars.items) copies bits (map block_view xs)) c.deref-3.ensures.value
    (subst (λ ss. IsSomeUnknown (map scalar_view ss) copies bits (map block_view c.deref-3.result.now)) c.deref-2.ensures.value
    (c.in_ok-blocks.ensures.none c.in_default-2.is)) in
    refused (graph_view g) copies bits found unknown (subst (λ all. AreCopiesOf (graph_view g) all) (sym same) are))

use Rattle.std.proofs.Common.{◌≡◌, ◌∙◌, ap, arith, refl, subst, sym}
use Rattle.graph_core.specs.Graphs.{graph_view}
use Rattle.graph_core.specs.declared.graph.Graph as declared-graph
use Rattle.currency_writers.specs.Marks.{room_of}
use Rattle.currency_writers.specs.declared.copies.Copies as declared-copies
use Rattle.currency_writers.specs.declared.writers.Writers as declared-writers
use Rattle.currency_hiding.specs.declared.function.Function as declared-function
use Rattle.currency_hiding.specs.Found.{AreCopiesBelow}
use Rattle.currency_hiding.proofs.Asked.{function_on, only_by, only_next, own_by, owns_done, owns_next}
use Rattle.currency_hiding.proofs.function.Function.mark_own.Goals as goal

pub mark_copy-requires : goal.mark_copy-requires
mark_copy-requires c =
    (let f = c.loop-change.self in
    let known = c.loop-change.invariant in
    let is = function_on c.args.self.now f known.writers known.copies (ap room_of known.written) known.room c.requires in
    record { copies = is.copies; below = subst (λ (g : declared-graph.Graph). AreCopiesBelow (graph_view g) (room_of f.own)) (sym is.graph) is.below })

pub loop-change-preserved : goal.loop-change-preserved
loop-change-preserved c =
    (let f = c.loop-change.self in
    let known = c.loop-change.invariant in
    let said = c.mark_copy.ensures in
    let list = c.args.moved.now in
    let k = c.loop-change.change-index in
    let graph : f.copies.graph.now ≡ f.writers.graph.now = ap (λ (z : declared-copies.Copies). z.graph.now) known.copies ∙ c.requires.graph ∙ sym (ap (λ (w : declared-writers.Writers). w.graph.now) known.writers) in
    let new : declared-function.Function = record { writers = f.writers; copies = f.copies; scalar = f.scalar; written = f.written; own = c.mark_copy.new.marks } in
    record {
      writers = known.writers;
      copies = known.copies;
      scalar = known.scalar;
      written = known.written;
      marked = owns_next f new list k _ c.loop-change-test.true refl refl said.kept (own_by new _ graph said.there) known.marked;
      only = only_next f new list k _ c.loop-change-test.true refl refl (only_by new f.own _ graph said.only) known.only;
      room = said.room ∙ known.room;
    })

pub returns-clause-marked : goal.returns-clause-marked
returns-clause-marked c = owns_done c.loop-change.self c.args.moved.now c.loop-change.change-index (omega arith) c.loop-change.invariant.marked

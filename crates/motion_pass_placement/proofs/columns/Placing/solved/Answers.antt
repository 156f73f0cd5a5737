use Rattle.std.proofs.Common.{◌≡◌, ℕ, List, Bool, map, sym, ◌∙◌, subst}
use Rattle.graph_core.specs.Graphs.{Block, block_view}
use Rattle.motion_pass_points.specs.declared.columns.Local.{Local}
use Rattle.motion_pass_points.specs.Columns.{IsColumn}
use Rattle.motion_pass_problems.specs.Problems.{TellFacts}
use Rattle.motion_pass_problems.specs.declared.problems.Facts.{Facts}
use Rattle.motion_pass_placement.specs.Columns.{all_in, blocks_in, reached_in}
use Rattle.motion_pass_placement.proofs.columns.Placing.solved.Goals as goal

-- the words of a column tell the facts
abbrev Tell : List Block → (ℕ → Bool) → List Local → Facts → Type 0
Tell blocks reached locals f = TellFacts blocks reached locals f.unsafe_starts.items f.past_starts.items f.past_ends.items f.used_starts.items f.used_ends.items

pub returns : goal.returns
returns c =
    let s = c.args.self.now in
    let column = c.in_ok-column.column in
    let facts = c.in_ok-facts.facts in
    let locals = c.in_ok-locals.locals.items in
    let of_is : column.index ≡ c.args.index = c.in_ok-column.ensures.index in
    let marked : IsColumn (all_in s) column.index column.spoiled.items
    = subst (λ i. IsColumn (all_in s) i column.spoiled.items) (sym of_is) c.in_ok-column.ensures.column in
    let told : Tell (blocks_in s) (reached_in s) locals facts
    = subst (λ xs. Tell (map block_view xs) (reached_in s) locals facts) c.deref.ensures.value
    (subst (λ (ls : List Local). Tell (map block_view c.deref.result.now) (reached_in s) ls facts) c.deref-2.ensures.value
    c.in_ok-facts.ensures) in
    record {
      of = of_is;
      marked = marked;
      facts = λ k e of at. told k e (record {
        whole = c.requires.placing.reached;
        once = c.requires.placing.once;
        told = λ n b got comes. c.in_ok-locals.ensures marked k e (of ∙ sym of_is) at n b got comes;
      });
    }

pub new-requires-clause-named : goal.new-requires-clause-named
new-requires-clause-named c = c.requires.placing.named

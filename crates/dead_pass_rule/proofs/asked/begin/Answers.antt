use Rattle.std.proofs.Common.{ℕ, List, true≢false, inl, inr, sym, ap, ◌∙◌, arith}
use Rattle.std.specs.Prelude.{◌==◌, ◌&&◌}
use Rattle.std.specs.List.{list_any}
use Rattle.std.proofs.lemmas.Bool.{or_cases, or_left}
use Rattle.graph_core.specs.Graphs.{end_view}
use Rattle.graph_core.specs.Uses.{numbers}
use Rattle.graph_paths.specs.PathMarksTable.{bits_of}
use Rattle.dead_pass_rule.proofs.ReadNames.{among_any, any_among}
use Rattle.dead_pass_rule.proofs.Walking.{one_kept, table_but}
use Rattle.dead_pass_rule.proofs.asked.begin.Goals as goal

pub returns-clause-read : goal.returns-clause-read
returns-clause-read c = λ x lt among.
    (let names = ap numbers c.deref.ensures.value ∙ c.in_ok-read.ensures in
    c.ask_all.ensures.walk x lt ∙ or_left _ _ (ap (λ (l : List ℕ). list_any (λ y. y == x) l) names ∙ among_any x _ among))

pub returns-clause-only : goal.returns-clause-only
returns-clause-only c = λ x lt b.
    (let names = ap numbers c.deref.ensures.value ∙ c.in_ok-read.ensures in
    elim (or_cases _ _ (sym (c.ask_all.ensures.walk x lt) ∙ b)) [
      | inl a ↦ inl (any_among x _ (sym (ap (λ (l : List ℕ). list_any (λ y. y == x) l) names) ∙ a))
      | inr old ↦ elim (c.join_all.ensures.only x old) [
        | inl z ↦ absurd (true≢false (sym z ∙ c.keep.ensures.there x ∙ ap (λ d. d && bits_of c.args.marks.now c.args.blocks x) (c.requires.table.zero_row x)))
        | inr one ↦ inr (one_kept c.args.blocks (end_view c.args.end.now) c.args.marks.now c.keep.new.self x (λ n bit small. c.keep.ensures.rows n bit (λ q. omega (arith, q, small))) one)
      ]
    ])

pub returns-clause-table : goal.returns-clause-table
returns-clause-table c =
    table_but c.args.blocks c.args.names c.join_all.new.marks c.ask_all.new.marks c.join_all.ensures.table c.ask_all.ensures.same_count c.ask_all.ensures.same_width c.ask_all.ensures.others

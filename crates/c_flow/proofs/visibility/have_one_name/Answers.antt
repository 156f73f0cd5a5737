use Rattle.std.proofs.Common.{List, ℕ, eqb, map, sym, ap, ◌∙◌}
use Rattle.std.specs.Cmp.Lexicographic.{pointwise}
use Rattle.c_tree.specs.Programs.{automatic_view}
use Rattle.c_places.specs.Places.{name_of}
use Rattle.c_flow.proofs.Classes.{name_test}
use Rattle.c_flow.proofs.visibility.have_one_name.Goals as goal

pub returns : goal.returns
returns c =
    let one = name_of (map automatic_view c.args.automatics.now) c.args.one in
    let other = name_of (map automatic_view c.args.automatics.now) c.args.other in
    c.eq.ensures ∙ ap (λ (s : List ℕ). pointwise eqb s c.name_at-2.result.now) c.name_at.ensures ∙ ap (λ (t : List ℕ). pointwise eqb one t) c.name_at-2.ensures ∙ sym (name_test one other)

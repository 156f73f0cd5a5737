use Rattle.std.proofs.Common.{◌≡◌, None, length, vec_len, arith, sym, ap}
use Rattle.std.specs.Prelude.{max}
use Rattle.c_tree.specs.Declarations.{initializer_view}
use Rattle.c_type_declarations.specs.Objects.{literal_for}
use Rattle.c_type_declarations.proofs.Lists.{count_chain}
use Rattle.c_type_declarations.proofs.Views.{list_view}
use Rattle.c_type_declarations.proofs.object.implied_count.Goals as goal

pub returns-in-List : goal.returns-in-List
returns-in-List c =
    let all : vec_len c.in-List.initializers ≡ length c.in-List.initializers.items = omega arith in
    let none : literal_for c.args.element (initializer_view c.in-Some.initializer) ≡ None = sym (rw c.in_default-literal_for.is at c.literal_for.ensures) in
    rw (c.in-Some.is, none, c.in-List.is, list_view c.in-List.initializers, count_chain c.in-List.initializers.items, c.max.ensures, c.len.ensures) (ap (λ n. max n 1) all)

use Rattle.std.proofs.Common.{◌≡◌, ◌+◌, ◌<◌, ◌^◌, List, false, true, map, sym, subst}
use Rattle.std.specs.List.{AllByRecursion}
use Rattle.std.proofs.lemmas.List.Elements.{All-from_recursion, recursion_from_All}
use Rattle.c_tree.specs.declared.program.TypedFunction.{TypedFunction}
use Rattle.c_tree.specs.Programs.{TypedFunctionTree, function_view, program_view}
use Rattle.c_places.specs.Places.{places_of_program}
use Rattle.c_flow.specs.Tables.{Fits32}
use Rattle.c_flow.proofs.Counted.{few_functions, few_given, few_listed, few_places}
use Rattle.c_flow.proofs.limits.all_fit.Goals as goal

pub returns-then-not-counts_fit : goal.returns-then-not-counts_fit
returns-then-not-counts_fit c =
    let p = program_view c.args.program.now in (
      λ (t : false ≡ true). cc,
      λ (v : Fits32 p).
          let h = c.counts_fit.ensures.1 (few_places c.args.places.now (places_of_program p) c.requires v.places, few_given c.deref.result.now c.args.program.now.functions.items c.deref.ensures.value v.functions) in
          (cc),
    )

pub returns-then-not-variables_fit : goal.returns-then-not-variables_fit
returns-then-not-variables_fit c =
    let p = program_view c.args.program.now in
    (λ (t : false ≡ true). cc, λ (v : Fits32 p). let h = c.variables_fit.ensures.1 v.variables in (cc))

pub returns : goal.returns
returns c =
    let p = program_view c.args.program.now in
    let P : List TypedFunction → Type 0 = λ all. AllByRecursion (λ (f : TypedFunctionTree). f.first_variable + f.parameters < 2 ^ 32) (map function_view all) in
    let counts = c.counts_fit.ensures.0 c.if-not-counts_fit.false in
    let variables = c.variables_fit.ensures.0 c.if-not-variables_fit.false in (
      λ t. record {
        places = few_listed c.args.places.now (places_of_program p) c.requires counts.0;
        functions = few_functions c.deref.result.now c.args.program.now.functions.items c.deref.ensures.value counts.1;
        variables = variables;
        parameters = All-from_recursion (λ (f : TypedFunctionTree). f.first_variable + f.parameters < 2 ^ 32) p.functions (subst P c.deref-2.ensures.value (c.parameters_fit.ensures.0 t));
      },
      λ (v : Fits32 p).
          c.parameters_fit.ensures.1 (subst P (sym c.deref-2.ensures.value) (recursion_from_All (λ (f : TypedFunctionTree). f.first_variable + f.parameters < 2 ^ 32) p.functions v.parameters)),
    )

use Rattle.std.proofs.Common.{◌≡◌, arith, rules}
use Rattle.std.specs.Prelude.{Ok}
use Rattle.c_tree.specs.Programs.{program_view}
use Rattle.c_source.proofs.Bytes.{bytes_from}
use Rattle.c_source.specs.Sources.{program_of_source}
use Rattle.c_source.proofs.Lawful.{program_lawful, program_named, program_within}
use Rattle.c_source.proofs.Sources.{program_found}
use Rattle.c_source.proofs.source.program.Goals as goal

pub returns-clause-laws : goal.returns-clause-laws
returns-clause-laws c =
    let text = c.args.text.now in
    let p = program_view c.in_ok-program.program in
    let is : program_of_source text ≡ Ok p = search (rules, program_found) in
    (program_lawful text p (bytes_from text (λ i. omega (arith, c.type_inv.text i))) is).0

pub returns-clause-fits : goal.returns-clause-fits
returns-clause-fits c =
    let text = c.args.text.now in
    let p = program_view c.in_ok-program.program in
    let is : program_of_source text ≡ Ok p = search (rules, program_found) in
    (program_lawful text p (bytes_from text (λ i. omega (arith, c.type_inv.text i))) is).1

pub returns-clause-names : goal.returns-clause-names
returns-clause-names c =
    let text = c.args.text.now in
    let p = program_view c.in_ok-program.program in
    let is : program_of_source text ≡ Ok p = search (rules, program_found) in
    program_named text p (bytes_from text (λ i. omega (arith, c.type_inv.text i))) is

pub returns-clause-spots : goal.returns-clause-spots
returns-clause-spots c =
    let text = c.args.text.now in
    let p = program_view c.in_ok-program.program in
    let is : program_of_source text ≡ Ok p = search (rules, program_found) in
    program_within text p (bytes_from text (λ i. omega (arith, c.type_inv.text i))) is

-- What stands at file scope is spelled by the tokens before others.
use Rattle.std.proofs.Common.{ℕ, suc, ◌≤◌, List, length, Option, arith}
use Rattle.c_token.specs.Lexemes.{Lexeme}
use Rattle.c_tree.specs.Expressions.{NameTree}
use Rattle.c_tree.specs.Declarations.{ParameterTree}
use Rattle.c_tree.specs.Statements.{BlockTree}
use Rattle.c_tree.specs.Trees.{ItemTree}
use Rattle.c_parse_tokens.specs.declared.specifier.SpecifierList.{SpecifierList}
use Rattle.c_parse.specs.Files.{IsOptionalName, nameless, its_name, IsParameter, parameter, AreParameters, no_parameter, void, parameters, IsBody, no_body, body, AreResultStars, of_void, of_integer, IsItem, include, function, objects}
use Rattle.c_parse.proofs.Passing.{Passes, here, behind, join, step, no_longer}
use Rattle.c_parse.proofs.ExpressionsPass.{specifiers_pass, stars_pass}
use Rattle.c_parse.proofs.DeclarationsPass.{brackets_pass, declarator_passes, separated_pass}
use Rattle.c_parse.proofs.StatementsPass.{statements_pass}

pub name_passes : {n : Option NameTree} {ts rest : List Lexeme} → IsOptionalName n ts rest → Passes ts rest
name_passes nameless = here
name_passes (its_name k) = behind here

pub parameter_passes : {p : ParameterTree} {ts rest : List Lexeme} → IsParameter p ts rest → Passes ts rest
parameter_passes (parameter s c n b t e) = join (specifiers_pass s.words) (join (stars_pass c) (join (name_passes n) (brackets_pass b)))

pub parameters_pass : {all : List ParameterTree} {ts rest : List Lexeme} → AreParameters all ts rest → Passes ts rest
parameters_pass no_parameter = here
parameters_pass (void k) = behind here
parameters_pass (parameters all) = separated_pass (λ p us more g. parameter_passes g) all

pub body_passes : {ps : List ParameterTree} {b : Option BlockTree} {ts rest : List Lexeme} → IsBody ps b ts rest → Passes ts rest
body_passes (no_body k) = behind here
body_passes (body h o all c) = behind (step (statements_pass all))

pub result_stars_pass : {found : SpecifierList} {count : ℕ} {ts rest : List Lexeme} → AreResultStars found count ts rest → Passes ts rest
result_stars_pass (of_void e) = here
result_stars_pass (of_integer e s) = stars_pass s

-- an item has a token
pub item_shorter : {i : ItemTree} {ts rest : List Lexeme} → IsItem i ts rest → suc (length rest) ≤ length ts
item_shorter (include k i) = omega arith
item_shorter (function s c k o ps d b) =
    let a = no_longer (join (specifiers_pass s.words) (result_stars_pass c)) in
    let e = no_longer (join (step (parameters_pass ps)) (body_passes b)) in omega (arith, a, e)
item_shorter (objects s v all k) = let a = no_longer (join (specifiers_pass s.words) (separated_pass (λ d us more g. declarator_passes g) all)) in omega (arith, a)

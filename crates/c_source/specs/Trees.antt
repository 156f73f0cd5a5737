-- What is asked of the parts of a source's tree: the spots that they tell, and their form.
use Rattle.std.specs.Prelude.{◌≡◌, Bool, true, false, List, [], ◌∷◌, ◌++◌, Option}
use Rattle.debug_records.specs.declared.source.Spot.{Spot}
use Rattle.c_tree.specs.Expressions.{NameTree, ExpressionTree, SuffixTree, Indexes, Calls, Increments, Decrements, chain_of_arguments}
use Rattle.c_tree.specs.Declarations.{BracketsTree, InitializerTree, DeclaratorTree, DeclarationTree, ParameterTree}
use Rattle.c_tree.specs.Declarations as declaration
use Rattle.c_tree.specs.Statements.{StartTree, StatementTree, BlockTree, BranchTree, LabelTree, CaseLabel, DefaultLabel}
use Rattle.c_tree.specs.Statements as statement
use Rattle.c_tree.specs.Trees.{FunctionTree, ItemTree, Defines}
use Rattle.c_parse_statements.specs.Clauses.{HeaderTree}
use Rattle.c_type_laws.specs.Names.{is_name}
use Rattle.c_source.specs.Constants.{HasNumbers, HaveNumbers}
use Rattle.c_source.specs.Formed.{HasNumbersIfAny, IsSizeFormed, IsInitializerFormed, AreInitializersFormed, IsInitialFormed, IsDeclaratorFormed, AreDeclaratorsFormed, IsStartFormed, is_no_declaration, declare_nothing, IsFormed, AreFormed}
use Rattle.c_source.specs.Files.{AreSizesFormed, IsNameFormed, AreNamesFormed, IsBodyFormed, IsItemFormed}
use Rattle.c_source.specs.TextOrder.{spots_of, spots_of_all, spots_if_any, spots_of_brackets, spots_of_initializer, spots_of_initializers, spots_of_initial, spots_of_declarator, spots_of_declarators, spots_of_start, spots_of_statement, spots_of_statements, spots_of_name, spots_of_parameters, spots_of_body, spots_of_item}
use Rattle.c_source.specs.Standing.{Shape}

abbrev pub expressions : Shape ExpressionTree
expressions = record { spots = spots_of; formed = HasNumbers }

abbrev pub argument_lists : Shape (List ExpressionTree)
argument_lists =
    record { spots = λ es. spots_of_all (chain_of_arguments es); formed = λ es. HaveNumbers (chain_of_arguments es) }

abbrev pub optional_expressions : Shape (Option ExpressionTree)
optional_expressions = record { spots = spots_if_any; formed = HasNumbersIfAny }

-- the spots that a suffix tells
abbrev pub spots_of_suffix : SuffixTree → List Spot
spots_of_suffix (Indexes e last) = spots_of e
spots_of_suffix (Calls all last) = spots_of_all (chain_of_arguments all)
spots_of_suffix (Increments last) = []
spots_of_suffix (Decrements last) = []

-- the constants within a suffix are numbers of their types
abbrev pub IsSuffixFormed : SuffixTree → Type 0
IsSuffixFormed (Indexes e last) = HasNumbers e
IsSuffixFormed (Calls all last) = HaveNumbers (chain_of_arguments all)
IsSuffixFormed (Increments last) = Unit {0}
IsSuffixFormed (Decrements last) = Unit {0}

abbrev pub suffix_shape : Shape SuffixTree
suffix_shape = record { spots = spots_of_suffix; formed = IsSuffixFormed }

abbrev pub names : Shape NameTree
names = record { spots = λ n. n.spot ∷ []; formed = λ n. is_name n.name ≡ true }

abbrev pub sizes : Shape BracketsTree
sizes = record { spots = spots_of_brackets; formed = IsSizeFormed }

abbrev pub initializers : Shape InitializerTree
initializers = record { spots = spots_of_initializer; formed = IsInitializerFormed }

abbrev pub initializer_lists : Shape (List InitializerTree)
initializer_lists =
    record {
      spots = λ all. spots_of_initializers (declaration.chain_of_initializers all);
      formed = λ all. AreInitializersFormed (declaration.chain_of_initializers all);
    }

abbrev pub optional_initializers : Shape (Option InitializerTree)
optional_initializers = record { spots = spots_of_initial; formed = IsInitialFormed }

abbrev pub declarators : Shape DeclaratorTree
declarators = record { spots = spots_of_declarator; formed = IsDeclaratorFormed }

abbrev pub declarations : Shape DeclarationTree
declarations =
    record { spots = λ d. spots_of_declarators d.declarators; formed = λ d. AreDeclaratorsFormed d.declarators }

abbrev pub starts : Shape StartTree
starts = record { spots = spots_of_start; formed = IsStartFormed }

abbrev pub headers : Shape HeaderTree
headers =
    record {
      spots = λ h. spots_of_start h.start ++ spots_if_any h.condition ++ spots_if_any h.step;
      formed = λ h. IsStartFormed h.start × HasNumbersIfAny h.condition × HasNumbersIfAny h.step;
    }

-- the spots that a label tells
abbrev pub spots_of_label : LabelTree → List Spot
spots_of_label (CaseLabel extent e) = extent.first ∷ spots_of e
spots_of_label (DefaultLabel extent) = extent.first ∷ []

-- the constants within a label are numbers of their types
abbrev pub IsLabelFormed : LabelTree → Type 0
IsLabelFormed (CaseLabel extent e) = HasNumbers e
IsLabelFormed (DefaultLabel extent) = Unit {0}

abbrev pub label_shape : Shape LabelTree
label_shape = record { spots = spots_of_label; formed = IsLabelFormed }

-- a statement, or a declaration where one may stand
abbrev pub IsStatementFormed : (may_declare : Bool) → StatementTree → Type 0
IsStatementFormed may_declare s = IsFormed s × (may_declare ≡ false → is_no_declaration s ≡ true)

abbrev pub statements : (may_declare : Bool) → Shape StatementTree
statements may_declare = record { spots = spots_of_statement; formed = IsStatementFormed may_declare }

-- the spots that a block tells
abbrev pub spots_of_block : BlockTree → List Spot
spots_of_block b = b.opening ∷ spots_of_statements (statement.chain_of_statements b.statements) ++ b.closing ∷ []

-- statements in braces, among which declarations may stand or not
abbrev pub IsBlockFormed : (may_declare : Bool) → BlockTree → Type 0
IsBlockFormed may_declare b =
    AreFormed (statement.chain_of_statements b.statements)
    × (may_declare ≡ false → declare_nothing (statement.chain_of_statements b.statements))

abbrev pub blocks : (may_declare : Bool) → Shape BlockTree
blocks may_declare = record { spots = spots_of_block; formed = IsBlockFormed may_declare }

abbrev pub branches : Shape BranchTree
branches =
    record {
      spots = λ b. b.spot ∷ spots_of b.condition ++ spots_of_statement b.then;
      formed = λ b. HasNumbers b.condition × IsFormed b.then × (is_no_declaration b.then ≡ true);
    }

abbrev pub optional_names : Shape (Option NameTree)
optional_names = record { spots = spots_of_name; formed = IsNameFormed }

abbrev pub parameters : Shape ParameterTree
parameters =
    record {
      spots = λ d. spots_of_name d.name ++ spots_of_brackets d.brackets;
      formed = λ d. IsSizeFormed d.brackets × IsNameFormed d.name;
    }

abbrev pub parameter_lists : Shape (List ParameterTree)
parameter_lists = record { spots = spots_of_parameters; formed = λ all. AreSizesFormed all × AreNamesFormed all }

abbrev pub bodies : List ParameterTree → Shape (Option BlockTree)
bodies ps = record { spots = spots_of_body; formed = IsBodyFormed ps }

abbrev pub functions : Shape FunctionTree
functions = record { spots = λ f. spots_of_item (Defines f); formed = λ f. IsItemFormed (Defines f) }

abbrev pub items : Shape ItemTree
items = record { spots = spots_of_item; formed = IsItemFormed }

-- The names of tables keep their rules, where an image can tell of the changes.
use Rattle.std.proofs.Common.{◌≡◌, ℕ, zero, suc, ◌+◌, ◌*◌, ◌≤◌, true, Some, List, [], ◌∷◌, ◌++◌, length, map, take, drop, sum, slice_get, refl, sym, ap, ◌∙◌, subst, append-nil, arith}
use Rattle.std.specs.Prelude.{IsTrue, nat_le, slice_index}
use Rattle.std.specs.List.{AllByRecursion, flat_map, list_all}
use Rattle.std.proofs.lemmas.List.{length-map, length-append}
use Rattle.std.proofs.lemmas.List.Concat.{flat_map-append}
use Rattle.std.proofs.lemmas.List.Folds.{flat_map-map}
use Rattle.std.proofs.lemmas.Option.{none-some, same_Some}
use Rattle.std.proofs.Math.Seq.{take-append_seam, drop-append-add}
use Rattle.places.specs.declared.table.PlaceRow.{PlaceRow}
use Rattle.c_tree.specs.Programs.{AutomaticTree, LiteralTree, ProgramTree, StaticTree, TypedFunctionTree}
use Rattle.c_type_laws.specs.Names.{begins_identifier, is_identifier_byte, is_identifier, is_name, has_few_elements}
use Rattle.c_type_laws.proofs.Named.{automatic_named, function_named, name_short, static_named}
use Rattle.debug_records.specs.Change.{IsPassName, letters}
use Rattle.graph_core.specs.Graphs.{Logged}
use Rattle.graph_homes.specs.Homed.{HomedForm}
use Rattle.rv_emit_tables.specs.Emitted.{EmittedForm}
use Rattle.image_form.specs.Form.{Form}
use Rattle.image_form.specs.Names.{function_name, function_name_lengths, name_at, pass_name, pass_name_lengths, variable_name, variable_name_lengths}
use Rattle.image_form.specs.RulesOfNames.{IsIdentifier, IsIdentifierOrEmpty, NameRules, is_lower_letter}
use Rattle.image_form.specs.declared.tables.Change.{Change}
use Rattle.image_form.specs.declared.variables.Variable.{Variable}
use Rattle.image_build_tables.specs.Variables.{Shape, automatic_shape, bounded_count, length_of_name, literal_shape, name_length, pass_names, shape, static_shape}
use Rattle.image_build_tables.specs.Tables.{change_record}
use Rattle.image_truth_units.specs.Changes.{CanBeTold}
use Rattle.image_truth_units.proofs.Accepted.{both}
use Rattle.image_truth_units.proofs.Given.{Given}
use Rattle.image_truth_units.proofs.Lists.{all_at, all_from, map_at, there}
use Rattle.image_truth_units.proofs.ProgramPlaces.{both_all}
use Rattle.base_laws.proofs.Lists.{all_map, all_weaker, append_same, map_map, sum_more}

-- ---- Names that lie one after the other

-- each is found by the lengths
name_found : (names : List (List ℕ)) (more : List ℕ) (k : ℕ) (name : List ℕ) → slice_get names k ≡ Some name → name_at (map length names) k (flat_map (λ n. n) names ++ more) ≡ name
name_found [] more k name is = absurd (none-some name is)
name_found (n ∷ names) more zero name is =
    let others = flat_map (λ n. n) names in
    ap (take (length n)) (append_same n others more) ∙ take-append_seam n (others ++ more) ∙ same_Some n name is
name_found (n ∷ names) more (suc k) name is =
    let others = flat_map (λ n. n) names in
    let joined : (n ++ others) ++ more ≡ n ++ (others ++ more) = append_same n others more in
    let skipped : drop (sum (length n ∷ take k (map length names))) ((n ++ others) ++ more) ≡ drop (sum (take k (map length names))) (others ++ more)
    = ap (drop (sum (length n ∷ take k (map length names)))) joined ∙ ap (λ i. drop i (n ++ (others ++ more))) (sum_more (length n) (take k (map length names))) ∙ drop-append-add n (others ++ more) (sum (take k (map length names))) in
    ap (take (slice_index (map length names) k)) skipped ∙ name_found names more k name is

names_length : (names : List (List ℕ)) → length (flat_map (λ n. n) names) ≡ sum (map length names)
names_length [] = refl
names_length (n ∷ names) =
    let others = names_length names in
    length-append n (flat_map (λ n. n) names) ∙ ap (λ k. length n + k) others ∙ sym (sum_more (length n) (map length names))

-- the lengths that tables say of short names are their own
shortened : (names : List (List ℕ)) → AllByRecursion (λ (n : List ℕ). length n ≤ 63) names → map (λ (n : List ℕ). bounded_count (length n)) names ≡ map length names
shortened [] each = refl
shortened (n ∷ names) each =
    let short = each.0 in
    let same : bounded_count (length n) ≡ length n = omega (arith, short) in
    ap (λ k. k ∷ map (λ (n : List ℕ). bounded_count (length n)) names) same ∙ ap (λ l. length n ∷ l) (shortened names each.1)

sum_short : (names : List (List ℕ)) → AllByRecursion (λ (n : List ℕ). length n ≤ 63) names → sum (map length names) ≤ 63 * length names
sum_short [] each = let empty : List (List ℕ) = [] in let none : sum (map length empty) ≡ 0 = refl in omega (arith, none)
sum_short (n ∷ names) each =
    let here = each.0 in
    let rest = sum_short names each.1 in
    let all = sum_more (length n) (map length names) in
    omega (arith, here, rest, all)

sum_passes : (names : List (List ℕ)) → AllByRecursion IsPassName names → sum (map length names) ≤ 16 * length names
sum_passes [] each = let empty : List (List ℕ) = [] in let none : sum (map length empty) ≡ 0 = refl in omega (arith, none)
sum_passes (n ∷ names) each =
    let here : length n ≤ 16 = each.0.most in
    let rest = sum_passes names each.1 in
    let all = sum_more (length n) (map length names) in
    omega (arith, here, rest, all)

past_names : (names : List (List ℕ)) (rest : List ℕ) → drop (sum (map length names)) (flat_map (λ n. n) names ++ rest) ≡ rest
past_names names rest =
    let none : sum (map length names) ≡ length (flat_map (λ n. n) names) + 0 = sym (names_length names) ∙ omega arith in
    ap (λ k. drop k (flat_map (λ n. n) names ++ rest)) none ∙ drop-append-add (flat_map (λ n. n) names) rest 0

-- ---- The names of a program, and of passes

-- the names of the passes of a log, one for each change
abbrev pass_names_of : List Logged → List (List ℕ)
pass_names_of log = map (λ (c : Logged). letters c.pass) log

abbrev pass_length : Change → ℕ
pass_length c = c.pass_length

abbrev function_names : ProgramTree → List (List ℕ)
function_names p = map (λ (f : TypedFunctionTree). f.name) p.functions

-- the names of all variables; literals have none
abbrev variable_names : ProgramTree → List (List ℕ)
variable_names p = map (λ (t : StaticTree). t.name) p.statics ++ (map (λ (l : LiteralTree). []) p.literals ++ map (λ (a : AutomaticTree). a.name) p.automatics)

abbrev shape_length : Shape → ℕ
shape_length q = q.name_length

abbrev said_length : List ℕ → ℕ
said_length n = bounded_count (length n)

static_lengths : (ts : List StaticTree) (rest : List Shape) (others : List (List ℕ)) → map shape_length rest ≡ map said_length others → map shape_length (map static_shape ts ++ rest) ≡ map said_length (map (λ (t : StaticTree). t.name) ts ++ others)
static_lengths [] rest others same = same
static_lengths (t ∷ ts) rest others same = ap (λ l. bounded_count (length t.name) ∷ l) (static_lengths ts rest others same)

literal_lengths : (ls : List LiteralTree) (rest : List Shape) (others : List (List ℕ)) → map shape_length rest ≡ map said_length others → map shape_length (map literal_shape ls ++ rest) ≡ map said_length (map (λ (l : LiteralTree). []) ls ++ others)
literal_lengths [] rest others same = same
literal_lengths (l ∷ ls) rest others same = ap (λ l. 0 ∷ l) (literal_lengths ls rest others same)

automatic_lengths : (xs : List AutomaticTree) → map shape_length (map automatic_shape xs) ≡ map said_length (map (λ (a : AutomaticTree). a.name) xs)
automatic_lengths [] = refl
automatic_lengths (a ∷ xs) = ap (λ l. bounded_count (length a.name) ∷ l) (automatic_lengths xs)

no_names : (ls : List LiteralTree) → flat_map {A = ℕ} (λ (n : List ℕ). n) (map (λ (l : LiteralTree). []) ls) ≡ []
no_names [] = refl
no_names (l ∷ ls) = no_names ls

names_joined : (p : ProgramTree) → flat_map (λ n. n) (variable_names p) ≡ flat_map (λ (t : StaticTree). t.name) p.statics ++ flat_map (λ (a : AutomaticTree). a.name) p.automatics
names_joined p =
    let statics = map (λ (t : StaticTree). t.name) p.statics in
    let literals : List (List ℕ) = map (λ (l : LiteralTree). []) p.literals in
    let automatics = map (λ (a : AutomaticTree). a.name) p.automatics in
    flat_map-append (λ n. n) statics (literals ++ automatics)
    ∙ ap (λ l. l ++ flat_map (λ n. n) (literals ++ automatics)) (flat_map-map (λ n. n) (λ (t : StaticTree). t.name) p.statics)
    ∙ ap (λ l. flat_map (λ (t : StaticTree). t.name) p.statics ++ l) (flat_map-append (λ n. n) literals automatics ∙ ap (λ l. l ++ flat_map (λ n. n) automatics) (no_names p.literals) ∙ flat_map-map (λ n. n) (λ (a : AutomaticTree). a.name) p.automatics)

-- ---- Identifiers

identifier : (s : List ℕ) → is_name s ≡ true → IsIdentifier s
identifier [] h = absurd (let wrong = (both (is_identifier []) (nat_le 0 63) h).0 in cc)
identifier (c ∷ cs) h = both (begins_identifier c) (list_all is_identifier_byte cs) (both (is_identifier (c ∷ cs)) (nat_le (length (c ∷ cs)) 63) h).0

identifier_or_empty : (s : List ℕ) → IsIdentifier s → IsIdentifierOrEmpty s
identifier_or_empty [] is = tt
identifier_or_empty (c ∷ cs) is = is

-- a name that a variable may have
abbrev IsAllowed : List ℕ → Type 0
IsAllowed n = (length n ≤ 63) × IsIdentifierOrEmpty n

allowed : (n : List ℕ) → is_name n ≡ true → IsAllowed n
allowed n h = (name_short n h, identifier_or_empty n (identifier n h))

-- ---- All of it

module _ (p : ProgramTree) (h : HomedForm) (e : EmittedForm) (rows : List PlaceRow) (m : Form) (given : Given p h e rows m) (told : AllByRecursion (CanBeTold p) h.unit.log) where
  functions_allowed : AllByRecursion (λ (n : List ℕ). (length n ≤ 63) × IsIdentifier n) (function_names p)
  functions_allowed = all_map (λ (f : TypedFunctionTree). f.name) (λ n. (length n ≤ 63) × IsIdentifier n) p.functions
      (all_from (λ (f : TypedFunctionTree). (length f.name ≤ 63) × IsIdentifier f.name) p.functions (λ i f is. let named = function_named p given.names i f is in (name_short f.name named, identifier f.name named)))

  variables_allowed : AllByRecursion IsAllowed (variable_names p)
  variables_allowed =
      let statics = map (λ (t : StaticTree). t.name) p.statics in
      let literals : List (List ℕ) = map (λ (l : LiteralTree). []) p.literals in
      let automatics = map (λ (a : AutomaticTree). a.name) p.automatics in
      both_all IsAllowed statics (literals ++ automatics)
      (all_map (λ (t : StaticTree). t.name) IsAllowed p.statics (all_from (λ (t : StaticTree). IsAllowed t.name) p.statics (λ i t is. allowed t.name (both (is_name t.name) (has_few_elements t.of) (static_named p given.names i t is).0).0)))
      (both_all IsAllowed literals automatics
      (all_map (λ (l : LiteralTree). []) IsAllowed p.literals (all_from (λ (l : LiteralTree). IsAllowed []) p.literals (λ i l is. (omega arith, tt))))
      (all_map (λ (a : AutomaticTree). a.name) IsAllowed p.automatics (all_from (λ (a : AutomaticTree). IsAllowed a.name) p.automatics (λ i a is. allowed a.name (both (is_name a.name) (has_few_elements a.of) (automatic_named p given.names i a is)).0))))

  function_lengths : function_name_lengths m ≡ map length (function_names p)
  function_lengths =
      given.tables.functions ∙ sym (map_map said_length (λ (f : TypedFunctionTree). f.name) p.functions)
      ∙ shortened (function_names p) (all_weaker (λ (n : List ℕ). (length n ≤ 63) × IsIdentifier n) (λ (n : List ℕ). length n ≤ 63) (function_names p) (λ n is. is.0) functions_allowed)

  variable_lengths : variable_name_lengths m ≡ map length (variable_names p)
  variable_lengths =
      sym (map_map shape_length shape m.variables) ∙ ap (map shape_length) given.tables.variables
      ∙ static_lengths p.statics (map literal_shape p.literals ++ map automatic_shape p.automatics) (map (λ (l : LiteralTree). []) p.literals ++ map (λ (a : AutomaticTree). a.name) p.automatics)
      (literal_lengths p.literals (map automatic_shape p.automatics) (map (λ (a : AutomaticTree). a.name) p.automatics) (automatic_lengths p.automatics))
      ∙ shortened (variable_names p) (all_weaker IsAllowed (λ (n : List ℕ). length n ≤ 63) (variable_names p) (λ n is. is.0) variables_allowed)

  passes_allowed : AllByRecursion IsPassName (pass_names_of h.unit.log)
  passes_allowed = all_map (λ (c : Logged). letters c.pass) IsPassName h.unit.log (all_weaker (CanBeTold p) (λ (c : Logged). IsPassName (letters c.pass)) h.unit.log (λ c is. is.called) told)

  passes_short : AllByRecursion (λ (n : List ℕ). length n ≤ 63) (pass_names_of h.unit.log)
  passes_short = all_weaker IsPassName (λ (n : List ℕ). length n ≤ 63) (pass_names_of h.unit.log) (λ n is. let most : length n ≤ 16 = is.most in omega (arith, most)) passes_allowed

  pass_lengths : pass_name_lengths m ≡ map length (pass_names_of h.unit.log)
  pass_lengths =
      ap (map pass_length) given.tables.changes ∙ map_map pass_length change_record h.unit.log
      ∙ sym (map_map said_length (λ (c : Logged). letters c.pass) h.unit.log) ∙ shortened (pass_names_of h.unit.log) passes_short

  passes_joined : pass_names h.unit.log ≡ flat_map (λ n. n) (pass_names_of h.unit.log) ++ []
  passes_joined = sym (flat_map-map (λ n. n) (λ (c : Logged). letters c.pass) h.unit.log) ∙ sym (append-nil (flat_map (λ n. n) (pass_names_of h.unit.log)))

  abbrev variable_bytes : List ℕ
  variable_bytes = flat_map (λ n. n) (variable_names p) ++ pass_names h.unit.log

  names_are : m.names ≡ flat_map (λ n. n) (function_names p) ++ variable_bytes
  names_are =
      let first = flat_map (λ (f : TypedFunctionTree). f.name) p.functions in
      let others = flat_map (λ (t : StaticTree). t.name) p.statics ++ flat_map (λ (a : AutomaticTree). a.name) p.automatics in
      given.tables.names ∙ append_same first others (pass_names h.unit.log) ∙ ap (λ l. l ++ (others ++ pass_names h.unit.log)) (sym (flat_map-map (λ n. n) (λ (f : TypedFunctionTree). f.name) p.functions))
      ∙ ap (λ l. flat_map (λ n. n) (function_names p) ++ (l ++ pass_names h.unit.log)) (sym (names_joined p))

  bytes_are : drop (sum (function_name_lengths m)) m.names ≡ variable_bytes
  bytes_are = ap (λ l. drop (sum l) m.names) function_lengths ∙ ap (drop (sum (map length (function_names p)))) names_are ∙ past_names (function_names p) variable_bytes

  function_name_is : (k : ℕ) (n : List ℕ) → slice_get (function_names p) k ≡ Some n → function_name m k ≡ n
  function_name_is k n is = ap (λ l. name_at l k m.names) function_lengths ∙ ap (name_at (map length (function_names p)) k) names_are ∙ name_found (function_names p) variable_bytes k n is

  variable_name_is : (k : ℕ) (n : List ℕ) → slice_get (variable_names p) k ≡ Some n → variable_name m k ≡ n
  variable_name_is k n is =
      ap (λ l. name_at l k (drop (sum (function_name_lengths m)) m.names)) variable_lengths ∙ ap (name_at (map length (variable_names p)) k) bytes_are ∙ name_found (variable_names p) (pass_names h.unit.log) k n is

  -- what stands behind the names of variables
  past_variables : drop (sum (function_name_lengths m) + sum (variable_name_lengths m)) m.names ≡ pass_names h.unit.log
  past_variables =
      let functions = flat_map (λ n. n) (function_names p) in
      let variables = flat_map (λ n. n) (variable_names p) in
      let one : sum (function_name_lengths m) ≡ length functions = ap sum function_lengths ∙ sym (names_length (function_names p)) in
      let other : sum (variable_name_lengths m) ≡ length variables + 0 = ap sum variable_lengths ∙ sym (names_length (variable_names p)) ∙ omega arith in
      ap (λ n. drop n m.names) (ap (λ k. k + sum (variable_name_lengths m)) one ∙ ap (λ k. length functions + k) other)
      ∙ ap (drop (length functions + (length variables + 0))) names_are ∙ drop-append-add functions variable_bytes (length variables + 0) ∙ drop-append-add variables (pass_names h.unit.log) 0

  pass_name_is : (k : ℕ) (n : List ℕ) → slice_get (pass_names_of h.unit.log) k ≡ Some n → pass_name m k ≡ n
  pass_name_is k n is =
      ap (λ l. name_at l k (drop (sum (function_name_lengths m) + sum (variable_name_lengths m)) m.names)) pass_lengths
      ∙ ap (name_at (map length (pass_names_of h.unit.log)) k) (past_variables ∙ passes_joined) ∙ name_found (pass_names_of h.unit.log) [] k n is

  whole_is : length m.names ≡ sum (function_name_lengths m) + sum (variable_name_lengths m) + sum (pass_name_lengths m)
  whole_is =
      let a = ap length names_are in
      let b = length-append (flat_map (λ n. n) (function_names p)) variable_bytes in
      let c = length-append (flat_map (λ n. n) (variable_names p)) (pass_names h.unit.log) in
      let d : length (pass_names h.unit.log) ≡ sum (map length (pass_names_of h.unit.log)) = ap length (sym (flat_map-map (λ n. n) (λ (c : Logged). letters c.pass) h.unit.log)) ∙ names_length (pass_names_of h.unit.log) in
      let f = names_length (function_names p) in
      let v = names_length (variable_names p) in
      let fl = ap sum function_lengths in
      let vl = ap sum variable_lengths in
      let pl = ap sum pass_lengths in
      omega (arith, a, b, c, d, f, v, fl, vl, pl)

  -- They are no longer than names may be.
  pub names_few : length m.names ≤ 63 * length m.functions + 63 * length m.variables + 16 * length m.changes
  names_few =
      let whole = whole_is in
      let fl = ap sum function_lengths in
      let vl = ap sum variable_lengths in
      let pl = ap sum pass_lengths in
      let pn = sum_passes (pass_names_of h.unit.log) passes_allowed in
      let pm : length (pass_names_of h.unit.log) ≡ length m.changes = length-map h.unit.log (λ (c : Logged). letters c.pass) ∙ sym (length-map h.unit.log change_record) ∙ sym (ap length given.tables.changes) in
      let f = sum_short (function_names p) (all_weaker (λ (n : List ℕ). (length n ≤ 63) × IsIdentifier n) (λ (n : List ℕ). length n ≤ 63) (function_names p) (λ n is. is.0) functions_allowed) in
      let v = sum_short (variable_names p) (all_weaker IsAllowed (λ (n : List ℕ). length n ≤ 63) (variable_names p) (λ n is. is.0) variables_allowed) in
      let a = ap length function_lengths in
      let b = length-map (function_names p) length in
      let c = length-map m.functions name_length in
      let d = ap length variable_lengths in
      let g = length-map (variable_names p) length in
      let k = length-map m.variables (λ (x : Variable). x.name_length) in
      omega (arith, whole, fl, vl, pl, pn, pm, f, v, a, b, c, d, g, k)

  -- THE NAMES KEEP THEIR RULES.
  pub name_rules : NameRules m
  name_rules = record {
    whole = whole_is;
    functions = λ k low.
        let many = length-map m.functions name_length in
        let also = length-map p.functions length_of_name in
        let same = ap length given.tables.functions in
        let f = there p.functions k (omega (arith, low, many, also, same)) in
        let at = map_at (λ (x : TypedFunctionTree). x.name) p.functions k f.0 f.1 in
        subst IsIdentifier (sym (function_name_is k f.0.name at)) (all_at (λ (n : List ℕ). (length n ≤ 63) × IsIdentifier n) (function_names p) k f.0.name functions_allowed at).1;
    variables = λ k low.
        let one = length-map (variable_names p) length in
        let two = length-map m.variables (λ (x : Variable). x.name_length) in
        let same = ap length variable_lengths in
        let n = there (variable_names p) k (omega (arith, low, one, two, same)) in
        subst IsIdentifierOrEmpty (sym (variable_name_is k n.0 n.1)) (all_at IsAllowed (variable_names p) k n.0 variables_allowed n.1).1;
    passes = λ k low.
        let one = length-map h.unit.log (λ (c : Logged). letters c.pass) in
        let two = ap length given.tables.changes ∙ length-map h.unit.log change_record in
        let n = there (pass_names_of h.unit.log) k (omega (arith, low, one, two)) in
        subst (λ name. IsTrue (list_all is_lower_letter name)) (sym (pass_name_is k n.0 n.1)) (all_at IsPassName (pass_names_of h.unit.log) k n.0 passes_allowed n.1).lower_case;
  }

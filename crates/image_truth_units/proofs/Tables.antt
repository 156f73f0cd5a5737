-- The variables of an image whose tables say what a program declares are the program's.
use Rattle.std.proofs.Common.{◌≡◌, ◌≢◌, ℕ, zero, suc, ◌+◌, ◌-◌, ◌<◌, ◌≤◌, Option, Some, None, List, [], ◌∷◌, ◌++◌, length, map, take, drop, sum, slice_get, refl, sym, ap, ◌∙◌, subst, arith}
use Rattle.std.specs.Prelude.{slice_index, replicate}
use Rattle.std.specs.List.{AllByRecursion, flat_map}
use Rattle.std.proofs.Common.{inl, inr}
use Rattle.std.proofs.lemmas.Bool.{cases_lt}
use Rattle.std.proofs.lemmas.List.{length-map, length-append}
use Rattle.std.proofs.lemmas.List.Concat.{flat_map-append}
use Rattle.std.proofs.lemmas.List.Folds.{flat_map-map}
use Rattle.std.proofs.lemmas.Option.{none-some, same_Some}
use Rattle.std.proofs.Math.Seq.{take-append_seam, drop-append-add}
use Rattle.c_tree.specs.declared.object_type.ObjectType.{ObjectType}
use Rattle.c_tree.specs.Programs.{StaticTree, AutomaticTree, LiteralTree, TypedFunctionTree, ProgramTree}
use Rattle.image_build_tables.specs.Variables.{Shape, shape, static_shape, literal_shape, automatic_shape, shapes_of, owner, owned_from, owners_of, bounded_count, declared_names, name_length, length_of_name, element_of_object, element_count}
use Rattle.image_form.specs.Form.{Form}
use Rattle.image_form.specs.Names.{name_at, variable_name, variable_name_lengths, function_name_lengths}
use Rattle.image_form.specs.Rules.{IsImage}
use Rattle.image_form.specs.RulesOfFunctions.{IsFunction}
use Rattle.image_form.specs.RulesOfVariables.{IsVariable, IsKept}
use Rattle.image_form.specs.declared.tables.Function.{Function}
use Rattle.image_form.specs.declared.variables.ElementType.TheVariants.{U8}
use Rattle.image_form.specs.declared.variables.Storage.TheVariants as kept
use Rattle.image_form.specs.declared.variables.Variable.{Variable}
use Rattle.image_truth_units.proofs.Areas.{there}
use Rattle.image_truth_units.specs.Variables.{static_count, automatic_number, HasElements, IsNamed, HasVariablesOf}
use Rattle.base_laws.proofs.Lists.{all_map, all_weaker, append_same, map_map, some_length, sum_more}
pub use Rattle.base_laws.proofs.Lists.{behind_at, from_map, front_at, got_one as all_at, map_at}

-- ---- Lists

-- ---- Names that lie one after the other

-- of names that lie one after the other, each is found by the lengths
name_found : (names : List (List ℕ)) (more : List ℕ) (k : ℕ) (name : List ℕ) → slice_get names k ≡ Some name → name_at (map length names) k (flat_map (λ n. n) names ++ more) ≡ name
name_found [] more k name is = absurd (none-some name is)
name_found (n ∷ names) more zero name is =
    let others = flat_map (λ n. n) names in
    ap (take (length n)) (append_same n others more) ∙ take-append_seam n (others ++ more) ∙ same_Some n name is
name_found (n ∷ names) more (suc k) name is =
    let others = flat_map (λ n. n) names in
    let joined : (n ++ others) ++ more ≡ n ++ (others ++ more) = append_same n others more in
    let skipped : drop (sum (length n ∷ take k (map length names))) ((n ++ others) ++ more) ≡ drop (sum (take k (map length names))) (others ++ more)
    = ap (drop (sum (length n ∷ take k (map length names)))) joined ∙ ap (λ i. drop i (n ++ (others ++ more))) (sum_more (length n) (take k (map length names))) ∙ drop-append-add n (others ++ more) (sum (take k (map length names))) in
    ap (take (slice_index (map length names) k)) skipped ∙ name_found names more k name is

names_length : (names : List (List ℕ)) → length (flat_map (λ n. n) names) ≡ sum (map length names)
names_length [] = refl
names_length (n ∷ names) =
    let others = names_length names in
    length-append n (flat_map (λ n. n) names) ∙ ap (λ k. length n + k) others ∙ sym (sum_more (length n) (map length names))

-- the lengths that an image says of short names are their own
shortened : (names : List (List ℕ)) → AllByRecursion (λ l. l ≤ 63) (map (λ (n : List ℕ). bounded_count (length n)) names) → map (λ (n : List ℕ). bounded_count (length n)) names ≡ map length names
shortened [] each = refl
shortened (n ∷ names) each =
    let short = each.0 in
    let same : bounded_count (length n) ≡ length n = omega (arith, short) in
    ap (λ k. k ∷ map (λ (n : List ℕ). bounded_count (length n)) names) same ∙ ap (λ l. length n ∷ l) (shortened names each.1)

-- what lies behind names is found behind their lengths
past_names : (names : List (List ℕ)) (rest : List ℕ) → drop (sum (map length names)) (flat_map (λ n. n) names ++ rest) ≡ rest
past_names names rest =
    let none : sum (map length names) ≡ length (flat_map (λ n. n) names) + 0 = sym (names_length names) ∙ omega arith in
    ap (λ k. drop k (flat_map (λ n. n) names ++ rest)) none ∙ drop-append-add (flat_map (λ n. n) names) rest 0

-- ---- The names of a program's variables

-- the names of all variables; literals have none
variable_names : ProgramTree → List (List ℕ)
variable_names p = map (λ (t : StaticTree). t.name) p.statics ++ (map (λ (l : LiteralTree). []) p.literals ++ map (λ (a : AutomaticTree). a.name) p.automatics)

abbrev shape_length : Shape → ℕ
shape_length q = q.name_length

-- the length that an image says of a name
abbrev said_length : List ℕ → ℕ
said_length n = bounded_count (length n)

static_lengths : (ts : List StaticTree) (rest : List Shape) (others : List (List ℕ)) → map shape_length rest ≡ map said_length others → map shape_length (map static_shape ts ++ rest) ≡ map said_length (map (λ (t : StaticTree). t.name) ts ++ others)
static_lengths [] rest others same = same
static_lengths (t ∷ ts) rest others same = ap (λ l. bounded_count (length t.name) ∷ l) (static_lengths ts rest others same)

literal_lengths : (ls : List LiteralTree) (rest : List Shape) (others : List (List ℕ)) → map shape_length rest ≡ map said_length others → map shape_length (map literal_shape ls ++ rest) ≡ map said_length (map (λ (l : LiteralTree). []) ls ++ others)
literal_lengths [] rest others same = same
literal_lengths (l ∷ ls) rest others same = ap (λ l. 0 ∷ l) (literal_lengths ls rest others same)

automatic_lengths : (xs : List AutomaticTree) → map shape_length (map automatic_shape xs) ≡ map said_length (map (λ (a : AutomaticTree). a.name) xs)
automatic_lengths [] = refl
automatic_lengths (a ∷ xs) = ap (λ l. bounded_count (length a.name) ∷ l) (automatic_lengths xs)

no_names : (ls : List LiteralTree) → flat_map {A = ℕ} (λ (n : List ℕ). n) (map (λ (l : LiteralTree). []) ls) ≡ []
no_names [] = refl
no_names (l ∷ ls) = no_names ls

-- the names of all variables, one after the other
names_joined : (p : ProgramTree) → flat_map (λ n. n) (variable_names p) ≡ flat_map (λ (t : StaticTree). t.name) p.statics ++ flat_map (λ (a : AutomaticTree). a.name) p.automatics
unfolding variable_names
names_joined p =
    let statics = map (λ (t : StaticTree). t.name) p.statics in
    let literals : List (List ℕ) = map (λ (l : LiteralTree). []) p.literals in
    let automatics = map (λ (a : AutomaticTree). a.name) p.automatics in
    flat_map-append (λ n. n) statics (literals ++ automatics)
    ∙ ap (λ l. l ++ flat_map (λ n. n) (literals ++ automatics)) (flat_map-map (λ n. n) (λ (t : StaticTree). t.name) p.statics)
    ∙ ap (λ l. flat_map (λ (t : StaticTree). t.name) p.statics ++ l) (flat_map-append (λ n. n) literals automatics ∙ ap (λ l. l ++ flat_map (λ n. n) automatics) (no_names p.literals) ∙ flat_map-map (λ n. n) (λ (a : AutomaticTree). a.name) p.automatics)

-- ---- Owners

-- it is none of the functions'
abbrev IsOwned : Option ℕ → Type 0
IsOwned None = ⊥
IsOwned (Some f) = Unit {0}

all_owned : (number : ℕ) (functions : List TypedFunctionTree) → AllByRecursion IsOwned (owned_from number functions)
all_owned number [] = tt
all_owned number (f ∷ more) = in_front f.variables (all_owned (number + 1) more)
  where
    in_front : (n : ℕ) → AllByRecursion IsOwned (owned_from (number + 1) more) → AllByRecursion IsOwned (replicate n (Some number) ++ owned_from (number + 1) more)
    in_front zero rest = rest
    in_front (suc n) rest = (tt, in_front n rest)

-- ---- The variables

module _ (p : ProgramTree) (m : Form) (functions : map name_length m.functions ≡ map length_of_name p.functions) (variables : map shape m.variables ≡ shapes_of p) (owners : map owner m.variables ≡ owners_of p) (more : List ℕ) (names : m.names ≡ declared_names p ++ more) (rules : IsImage m) where
  -- the lengths of names are theirs
  lengths_are : variable_name_lengths m ≡ map length (variable_names p)
  unfolding variable_names
  lengths_are = said ∙ shortened (variable_names p) (subst (AllByRecursion (λ l. l ≤ 63)) said (all_map (λ (v : Variable). v.name_length) (λ l. l ≤ 63) m.variables (all_weaker (IsVariable m) (λ v. v.name_length ≤ 63) m.variables (λ v rule. rule.short_name) rules.variables.each)))
    where
      said : variable_name_lengths m ≡ map said_length (variable_names p)
      said = sym (map_map shape_length shape m.variables) ∙ ap (map shape_length) variables
          ∙ static_lengths p.statics (map literal_shape p.literals ++ map automatic_shape p.automatics) (map (λ (l : LiteralTree). []) p.literals ++ map (λ (a : AutomaticTree). a.name) p.automatics)
          (literal_lengths p.literals (map automatic_shape p.automatics) (map (λ (a : AutomaticTree). a.name) p.automatics) (automatic_lengths p.automatics))

  function_lengths_are : function_name_lengths m ≡ map length (map (λ (f : TypedFunctionTree). f.name) p.functions)
  function_lengths_are = said ∙ shortened (map (λ (f : TypedFunctionTree). f.name) p.functions) (subst (AllByRecursion (λ l. l ≤ 63)) said (all_map (λ (g : Function). g.name_length) (λ l. l ≤ 63) m.functions (all_weaker (IsFunction m) (λ g. g.name_length ≤ 63) m.functions (λ g rule. rule.short_name) rules.functions.each)))
    where
      said : function_name_lengths m ≡ map said_length (map (λ (f : TypedFunctionTree). f.name) p.functions)
      said = functions ∙ sym (map_map said_length (λ (f : TypedFunctionTree). f.name) p.functions)

  -- and the bytes behind the names of functions are those of the names of variables
  bytes_are : drop (sum (function_name_lengths m)) m.names ≡ flat_map (λ n. n) (variable_names p) ++ more
  bytes_are =
      let own = map (λ (f : TypedFunctionTree). f.name) p.functions in
      let first = flat_map (λ (f : TypedFunctionTree). f.name) p.functions in
      let others = flat_map (λ (t : StaticTree). t.name) p.statics ++ flat_map (λ (a : AutomaticTree). a.name) p.automatics in
      let whole : m.names ≡ flat_map (λ n. n) own ++ (others ++ more) = names ∙ append_same first others more ∙ ap (λ l. l ++ (others ++ more)) (sym (flat_map-map (λ n. n) (λ (f : TypedFunctionTree). f.name) p.functions)) in
      ap (λ l. drop (sum l) m.names) function_lengths_are ∙ ap (drop (sum (map length own))) whole ∙ past_names own (others ++ more) ∙ ap (λ l. l ++ more) (sym (names_joined p))

  name_of : (k : ℕ) (n : List ℕ) → slice_get (variable_names p) k ≡ Some n → variable_name m k ≡ n
  name_of k n is =
      ap (λ l. name_at l k (drop (sum (function_name_lengths m)) m.names)) lengths_are ∙ ap (name_at (map length (variable_names p)) k) bytes_are ∙ name_found (variable_names p) more k n is

  -- a variable by the shape that the program gives it
  is_named : (k : ℕ) (n : List ℕ) (of : ObjectType) (q : Shape) → slice_get (shapes_of p) k ≡ Some q → q.name_length ≡ bounded_count (length n) → q.element ≡ element_of_object of → q.count ≡ element_count of → slice_get (variable_names p) k ≡ Some n → n ≢ [] → HasElements of → IsNamed m k n of
  is_named k n of q is length_is element_is count_is name_is some elements =
      let v = from_map shape m.variables k q (ap (λ l. slice_get l k) variables ∙ is) in
      let long = some_length n some in
      let said : v.0.name_length ≡ bounded_count (length n) = ap shape_length v.2 ∙ length_is in
      record {
        variable = v.0;
        is = v.1;
        length_is = λ none. absurd (omega (arith, said, none, long));
        name_is = name_of k n name_is;
        element = ap (λ (q : Shape). q.element) v.2 ∙ element_is;
        count = ap (λ (q : Shape). q.count) v.2 ∙ count_is;
        some = elements;
      }

  -- ---- Their places among all

  pub past_statics : {A : Type 0} (f : StaticTree → A) (rest : List A) (k : ℕ) → slice_get (map f p.statics ++ rest) (length p.statics + k) ≡ slice_get rest k
  past_statics f rest k = ap (λ n. slice_get (map f p.statics ++ rest) (n + k)) (sym (length-map p.statics f)) ∙ behind_at (map f p.statics) rest k

  pub past_literals : {A : Type 0} (f : StaticTree → A) (g : LiteralTree → A) (rest : List A) (k : ℕ) → slice_get (map f p.statics ++ (map g p.literals ++ rest)) (automatic_number p k) ≡ slice_get rest k
  past_literals f g rest k =
      let all = map f p.statics ++ (map g p.literals ++ rest) in
      let e : automatic_number p k ≡ length p.statics + (length p.literals + k) = omega arith in
      ap (slice_get all) e ∙ past_statics f (map g p.literals ++ rest) (length p.literals + k)
      ∙ ap (λ n. slice_get (map g p.literals ++ rest) (n + k)) (sym (length-map p.literals g)) ∙ behind_at (map g p.literals) rest k

  -- only variables of functions are owned
  pub owner_at : (k : ℕ) (v : Variable) → slice_get m.variables k ≡ Some v → slice_get (owners_of p) k ≡ Some v.function
  owner_at k v is = ap (λ l. slice_get l k) (sym owners) ∙ map_at owner m.variables k v is

  pub owned_behind : (k f : ℕ) (v : Variable) → slice_get m.variables k ≡ Some v → v.function ≡ Some f → static_count p ≤ k
  owned_behind k f v is own = elim (cases_lt k (length p.statics)) [
    | inl static ↦
        let t = there p.statics k static in
        let none = front_at (map (λ (t : StaticTree). None) p.statics) (map (λ (l : LiteralTree). None) p.literals ++ owned_from 0 p.functions) k None (map_at (λ (t : StaticTree). None) p.statics k t.0 t.1) in
        absurd (differ v.function f own (sym (owner_at k v is) ∙ none))
    | inr behind ↦ elim (cases_lt k (static_count p)) [
      | inl literal ↦
          let l = there p.literals (k - length p.statics) (omega (arith, literal, behind)) in
          let at : length p.statics + (k - length p.statics) ≡ k = omega (arith, behind) in
          let rest = map (λ (l : LiteralTree). None) p.literals ++ owned_from 0 p.functions in
          let none : slice_get (owners_of p) k ≡ Some None = ap (slice_get (owners_of p)) (sym at) ∙ past_statics (λ (t : StaticTree). None) rest (k - length p.statics)
          ∙ front_at (map (λ (l : LiteralTree). None) p.literals) (owned_from 0 p.functions) (k - length p.statics) None (map_at (λ (l : LiteralTree). None) p.literals (k - length p.statics) l.0 l.1) in
          absurd (differ v.function f own (sym (owner_at k v is) ∙ none))
      | inr done ↦ done
    ]
  ]
    where
      differ : (o : Option ℕ) (f : ℕ) → o ≡ Some f → Some o ≡ Some None → ⊥
      differ o f own none = cc

  -- and only these are kept elsewhere than at addresses
  pub fixed_before : (k address : ℕ) (v : Variable) → slice_get m.variables k ≡ Some v → v.storage ≡ kept.Static address → k < static_count p
  fixed_before k address v is stored = elim (cases_lt k (static_count p)) [
    | inl before ↦ before
    | inr behind ↦
        let at : automatic_number p (k - static_count p) ≡ k = omega (arith, behind) in
        let there_is : slice_get (owned_from 0 p.functions) (k - static_count p) ≡ Some v.function = sym (past_literals (λ (t : StaticTree). None) (λ (l : LiteralTree). None) (owned_from 0 p.functions) (k - static_count p)) ∙ ap (slice_get (owners_of p)) at ∙ owner_at k v is in
        let own = all_at IsOwned (owned_from 0 p.functions) (k - static_count p) v.function (all_owned 0 p.functions) there_is in
        let rule = (all_at (IsVariable m) m.variables k v rules.variables.each is).kept in
        absurd (never v.function own (subst (IsKept m v.function) stored rule))
  ]
    where
      never : (o : Option ℕ) → IsOwned o → IsKept m o (kept.Static address) → ⊥
      never None own rule = absurd own
      never (Some f) own rule = absurd rule

  -- The variables of an image that keeps its rules are the program's, where its tables say what the program declares, each variable has a name, and each array an element.
  pub has_variables : ((n : ℕ) (t : StaticTree) → slice_get p.statics n ≡ Some t → (t.name ≢ []) × HasElements t.of) → ((x : ℕ) (a : AutomaticTree) → slice_get p.automatics x ≡ Some a → (a.name ≢ []) × HasElements a.of) → HasVariablesOf p m
  unfolding variable_names
  has_variables static_law automatic_law = record {
    statics = λ n t is.
        let law = static_law n t is in
        is_named n t.name t.of (static_shape t) (front_at (map static_shape p.statics) (map literal_shape p.literals ++ map automatic_shape p.automatics) n (static_shape t) (map_at static_shape p.statics n t is)) refl refl refl
        (front_at (map (λ (t : StaticTree). t.name) p.statics) (map (λ (l : LiteralTree). []) p.literals ++ map (λ (a : AutomaticTree). a.name) p.automatics) n t.name (map_at (λ (t : StaticTree). t.name) p.statics n t is)) law.0 law.1;
    literals = λ n l is.
        let there_is = past_statics static_shape (map literal_shape p.literals ++ map automatic_shape p.automatics) n ∙ front_at (map literal_shape p.literals) (map automatic_shape p.automatics) n (literal_shape l) (map_at literal_shape p.literals n l is) in
        let v = from_map shape m.variables (length p.statics + n) (literal_shape l) (ap (λ l. slice_get l (length p.statics + n)) variables ∙ there_is) in
        record { variable = v.0; is = v.1; length_is = ap shape_length v.2 };
    automatics = λ x a is.
        let law = automatic_law x a is in
        is_named (automatic_number p x) a.name a.of (automatic_shape a) (past_literals static_shape literal_shape (map automatic_shape p.automatics) x ∙ map_at automatic_shape p.automatics x a is) refl refl refl
        (past_literals (λ (t : StaticTree). t.name) (λ (l : LiteralTree). []) (map (λ (a : AutomaticTree). a.name) p.automatics) x ∙ map_at (λ (a : AutomaticTree). a.name) p.automatics x a is) law.0 law.1;
    owned = owned_behind;
    fixed = fixed_before;
  }

  -- a literal is an array of bytes, as many as it has as far as numbers of 32 bits go
  pub literal_sized : (n : ℕ) (l : LiteralTree) (v : Variable) → slice_get p.literals n ≡ Some l → slice_get m.variables (length p.statics + n) ≡ Some v → (v.element ≡ U8) × (v.count ≡ bounded_count (length l.bytes))
  literal_sized n l v is at =
      let there_is = past_statics static_shape (map literal_shape p.literals ++ map automatic_shape p.automatics) n ∙ front_at (map literal_shape p.literals) (map automatic_shape p.automatics) n (literal_shape l) (map_at literal_shape p.literals n l is) in
      let same : shape v ≡ literal_shape l = same_Some (shape v) (literal_shape l) (sym (map_at shape m.variables (length p.statics + n) v at) ∙ ap (λ l. slice_get l (length p.statics + n)) variables ∙ there_is) in
      (ap (λ (q : Shape). q.element) same, ap (λ (q : Shape). q.count) same)

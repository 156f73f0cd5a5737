-- The names and elements of each variable and function of a program that has them.
use Rattle.std.proofs.Common.{◌≡◌, ◌≢◌, ◌≤◌, ℕ, zero, suc, nat_le, true, List, [], ◌∷◌, length, Some, slice_get, subst, arith}
use Rattle.std.proofs.lemmas.Bool.Decides.{nat_tests}
use Rattle.c_tree.specs.Programs.{AutomaticTree, StaticTree, TypedFunctionTree, ProgramTree}
use Rattle.c_type_laws.specs.Names.{is_identifier, is_name, is_named, statics_named, automatics_named, functions_named, has_elements, statics_have_elements, HasNames}
use Rattle.base_laws.proofs.Booleans.{two_true}

-- a name is not empty
pub name_some : (s : List ℕ) → is_name s ≡ true → s ≢ []
name_some [] h = cc
name_some (b ∷ s) h = λ e. cc

no_more : (n m : ℕ) → nat_le n m ≡ true → n ≤ m
no_more n m h = grind (arith, nat_tests)

-- it has no more than 63 bytes
pub name_short : (s : List ℕ) → is_name s ≡ true → length s ≤ 63
name_short s h = no_more (length s) 63 (two_true (is_identifier s) (nat_le (length s) 63) h).1

static_there : (all : List StaticTree) (n : ℕ) (v : StaticTree) → statics_named all ≡ true → slice_get all n ≡ Some v → is_named v.name v.of ≡ true
static_there [] n v h e = cc
static_there (x ∷ all) zero v h e = let same : x ≡ v = cc in subst (λ (z : StaticTree). is_named z.name z.of ≡ true) same (two_true (is_named x.name x.of) (statics_named all) h).0
static_there (x ∷ all) (suc n) v h e = static_there all n v (two_true (is_named x.name x.of) (statics_named all) h).1 e

elements_there : (all : List StaticTree) (n : ℕ) (v : StaticTree) → statics_have_elements all ≡ true → slice_get all n ≡ Some v → has_elements v.of ≡ true
elements_there [] n v h e = cc
elements_there (x ∷ all) zero v h e = let same : x ≡ v = cc in subst (λ (z : StaticTree). has_elements z.of ≡ true) same (two_true (has_elements x.of) (statics_have_elements all) h).0
elements_there (x ∷ all) (suc n) v h e = elements_there all n v (two_true (has_elements x.of) (statics_have_elements all) h).1 e

automatic_there : (all : List AutomaticTree) (n : ℕ) (v : AutomaticTree) → automatics_named all ≡ true → slice_get all n ≡ Some v → is_named v.name v.of ≡ true
automatic_there [] n v h e = cc
automatic_there (x ∷ all) zero v h e = let same : x ≡ v = cc in subst (λ (z : AutomaticTree). is_named z.name z.of ≡ true) same (two_true (is_named x.name x.of) (automatics_named all) h).0
automatic_there (x ∷ all) (suc n) v h e = automatic_there all n v (two_true (is_named x.name x.of) (automatics_named all) h).1 e

function_there : (all : List TypedFunctionTree) (n : ℕ) (f : TypedFunctionTree) → functions_named all ≡ true → slice_get all n ≡ Some f → is_name f.name ≡ true
function_there [] n f h e = cc
function_there (x ∷ all) zero f h e = let same : x ≡ f = cc in subst (λ (z : TypedFunctionTree). is_name z.name ≡ true) same (two_true (is_name x.name) (functions_named all) h).0
function_there (x ∷ all) (suc n) f h e = function_there all n f (two_true (is_name x.name) (functions_named all) h).1 e

module _ (p : ProgramTree) (names : HasNames p) where
  -- A static variable has a name, and elements.
  pub static_named : (n : ℕ) (v : StaticTree) → slice_get p.statics n ≡ Some v → (is_named v.name v.of ≡ true) × (has_elements v.of ≡ true)
  static_named n v is = (static_there p.statics n v names.statics is, elements_there p.statics n v names.elements is)

  -- An automatic variable has a name.
  pub automatic_named : (n : ℕ) (v : AutomaticTree) → slice_get p.automatics n ≡ Some v → is_named v.name v.of ≡ true
  automatic_named n v is = automatic_there p.automatics n v names.automatics is

  -- So has a function.
  pub function_named : (n : ℕ) (f : TypedFunctionTree) → slice_get p.functions n ≡ Some f → is_name f.name ≡ true
  function_named n f is = function_there p.functions n f names.functions is

-- Where an image keeps a variable, by the homes of its unit's names and its code.
use Rattle.std.proofs.Common.{◌≡◌, ℕ, zero, suc, ◌+◌, ◌⊎◌, inl, inr, ⊎_elim, Some, List, [], ◌∷◌, ◌++◌, replicate, slice_get, refl, sym, ap, ◌∙◌, arith}
use Rattle.std.specs.Prelude.{slice_set}
use Rattle.std.proofs.lemmas.Option.{none-some, same_Some}
use Rattle.graph_homes.specs.declared.home.Home.{Home}
use Rattle.graph_core.specs.declared.graph.MemoryObject.{MemoryObject}
use Rattle.graph_core.specs.Graphs.{Graph, Scalar}
use Rattle.graph_core.specs.Paths.{Among, front, behind}
use Rattle.graph_homes.specs.Homed.{HomedForm}
use Rattle.rv_emit_tables.specs.Emitted.{EmittedForm, FunctionCode}
use Rattle.image_form.specs.declared.variables.Storage.{Storage}
use Rattle.image_form.specs.declared.variables.Storage.TheVariants as storage
use Rattle.image_build_tables.specs.Storages.{Keeping, storage_of, scalars_kept, objects_kept, functions_kept, statics_kept, keepings_of, put_all, storages_of}
use Rattle.base_laws.proofs.Lists.{set_other as set_from}
use Rattle.graph_core.proofs.Among.{among_either}

-- ---- Lists

same_from : {A : Type 0} (n k : ℕ) (x y : A) → slice_get (replicate n x) k ≡ Some y → x ≡ y
same_from zero k x y is = absurd (none-some y is)
same_from (suc n) zero x y is = same_Some x y is
same_from (suc n) (suc k) x y is = same_from n k x y is

-- ---- What is put in a table

-- one of these puts a storage at a number
pub record IsPut (all : List Keeping) (number : ℕ) (at : Storage) : Type 0 where
  pub keeping : Keeping
  pub among : Among keeping all
  pub variable : keeping.variable ≡ number
  pub storage_is : keeping.storage ≡ at

put_from : (all : List Keeping) (table : List Storage) (number : ℕ) (at : Storage) → slice_get (put_all all table) number ≡ Some at → IsPut all number at ⊎ (slice_get table number ≡ Some at)
put_from [] table number at is = inr is
put_from (k ∷ more) table number at is =
    ⊎_elim (λ (put : IsPut more number at). inl (record { keeping = put.keeping; among = behind put.among; variable = put.variable; storage_is = put.storage_is }))
    (λ old. ⊎_elim (λ both. inl (record { keeping = k; among = front; variable = sym both.0; storage_is = both.1 })) (λ older. inr older) (set_from table k.variable number k.storage at old))
    (put_from more (slice_set table k.variable k.storage) number at is)

-- ---- Where variables are

-- a variable is the scalar of a function, in the home of its name
pub record IsScalarAt (h : HomedForm) (e : EmittedForm) (number : ℕ) (at : Storage) : Type 0 where
  pub function : ℕ
  pub graph : Graph
  pub is : slice_get h.unit.graphs function ≡ Some graph
  pub code : FunctionCode
  pub code_is : slice_get e.functions function ≡ Some code
  pub homes : List Home
  pub homes_are : slice_get h.homes function ≡ Some homes
  pub index : ℕ
  pub scalar : Scalar
  pub there : slice_get graph.scalars index ≡ Some scalar
  pub variable : scalar.variable ≡ number
  pub home : Home
  pub home_is : slice_get homes index ≡ Some home
  pub storage_is : storage_of code.slots home ≡ at

-- a variable is the object of a function, at its offset in the frame
pub record IsObjectAt (h : HomedForm) (e : EmittedForm) (number : ℕ) (at : Storage) : Type 0 where
  pub function : ℕ
  pub graph : Graph
  pub is : slice_get h.unit.graphs function ≡ Some graph
  pub code : FunctionCode
  pub code_is : slice_get e.functions function ≡ Some code
  pub index : ℕ
  pub object : MemoryObject
  pub there : slice_get graph.objects index ≡ Some object
  pub variable : object.var.0 ≡ number
  pub offset : ℕ
  pub offset_is : slice_get code.objects index ≡ Some offset
  pub storage_is : storage.Frame offset ≡ at

pub data IsKeptBy (h : HomedForm) (e : EmittedForm) (number : ℕ) (at : Storage) : Type 0 where
  static : (address : ℕ) → slice_get e.statics number ≡ Some address → storage.Static address ≡ at → IsKeptBy h e number at
  scalar : IsScalarAt h e number at → IsKeptBy h e number at
  object : IsObjectAt h e number at → IsKeptBy h e number at
  nowhere : storage.Static 0 ≡ at → IsKeptBy h e number at

static_among : (from : ℕ) (addresses : List ℕ) (k : Keeping) → Among k (statics_kept from addresses) → (n : ℕ) × (address : ℕ) × (slice_get addresses n ≡ Some address) × (k.variable ≡ from + n) × (storage.Static address ≡ k.storage)
static_among from [] k among = elim among [ ]
static_among from (address ∷ more) k front = (0, address, refl, omega arith, refl)
static_among from (address ∷ more) k (behind among) = let r = static_among (from + 1) more k among in (suc r.0, r.1, r.2, (let e = r.3 in omega (arith, e)), r.4)

scalar_among : (slots : ℕ) (scalars : List Scalar) (homes : List Home) (k : Keeping) → Among k (scalars_kept slots scalars homes)
    → (n : ℕ) × (s : Scalar) × (home : Home) × (slice_get scalars n ≡ Some s) × (slice_get homes n ≡ Some home) × (s.variable ≡ k.variable) × (storage_of slots home ≡ k.storage)
scalar_among slots [] homes k among = elim among [ ]
scalar_among slots (s ∷ more) [] k among = elim among [ ]
scalar_among slots (s ∷ more) (home ∷ homes) k front = (0, s, home, refl, refl, refl, refl)
scalar_among slots (s ∷ more) (home ∷ homes) k (behind among) = let r = scalar_among slots more homes k among in (suc r.0, r.1, r.2, r.3, r.4, r.5, r.6)

object_among : (objects : List MemoryObject) (offsets : List ℕ) (k : Keeping) → Among k (objects_kept objects offsets)
    → (n : ℕ) × (o : MemoryObject) × (offset : ℕ) × (slice_get objects n ≡ Some o) × (slice_get offsets n ≡ Some offset) × (o.var.0 ≡ k.variable) × (storage.Frame offset ≡ k.storage)
object_among [] offsets k among = elim among [ ]
object_among (o ∷ more) [] k among = elim among [ ]
object_among (o ∷ more) (offset ∷ offsets) k front = (0, o, offset, refl, refl, refl, refl)
object_among (o ∷ more) (offset ∷ offsets) k (behind among) = let r = object_among more offsets k among in (suc r.0, r.1, r.2, r.3, r.4, r.5, r.6)

-- one that is put by functions
record IsOfOne (graphs : List Graph) (codes : List FunctionCode) (all : List (List Home)) (k : Keeping) : Type 0 where
  pub function : ℕ
  pub graph : Graph
  pub is : slice_get graphs function ≡ Some graph
  pub code : FunctionCode
  pub code_is : slice_get codes function ≡ Some code
  pub homes : List Home
  pub homes_are : slice_get all function ≡ Some homes
  pub kept : Among k (scalars_kept code.slots graph.scalars homes) ⊎ Among k (objects_kept graph.objects code.objects)

function_among : (graphs : List Graph) (codes : List FunctionCode) (all : List (List Home)) (k : Keeping) → Among k (functions_kept graphs codes all) → IsOfOne graphs codes all k
function_among [] codes all k among = elim among [ ]
function_among (g ∷ graphs) [] all k among = elim among [ ]
function_among (g ∷ graphs) (code ∷ codes) [] k among = elim among [ ]
function_among (g ∷ graphs) (code ∷ codes) (homes ∷ all) k among =
    ⊎_elim (λ of. record { function = 0; graph = g; is = refl; code = code; code_is = refl; homes = homes; homes_are = refl; kept = inl of })
    (λ rest. ⊎_elim (λ of. record { function = 0; graph = g; is = refl; code = code; code_is = refl; homes = homes; homes_are = refl; kept = inr of })
    (λ others. let r = function_among graphs codes all k others in record { function = suc r.function; graph = r.graph; is = r.is; code = r.code; code_is = r.code_is; homes = r.homes; homes_are = r.homes_are; kept = r.kept })
    (among_either (objects_kept g.objects code.objects) (functions_kept graphs codes all) k rest))
    (among_either (scalars_kept code.slots g.scalars homes) (objects_kept g.objects code.objects ++ functions_kept graphs codes all) k among)

-- A variable of an image is kept by one of these.
pub kept_by : (h : HomedForm) (e : EmittedForm) (many number : ℕ) (at : Storage) → slice_get (storages_of h e many) number ≡ Some at → IsKeptBy h e number at
kept_by h e many number at is = ⊎_elim by_put (λ old. nowhere (same_from many number (storage.Static 0) at old)) (put_from (keepings_of h e) (replicate many (storage.Static 0)) number at is)
  where
    by_one : (k : Keeping) → k.variable ≡ number → k.storage ≡ at → IsOfOne h.unit.graphs e.functions h.homes k → IsKeptBy h e number at
    by_one k variable storage_is one =
        ⊎_elim
        (λ of. let r = scalar_among one.code.slots one.graph.scalars one.homes k of in
        scalar (record { function = one.function; graph = one.graph; is = one.is; code = one.code; code_is = one.code_is; homes = one.homes; homes_are = one.homes_are; index = r.0; scalar = r.1; there = r.3; variable = r.5 ∙ variable; home = r.2; home_is = r.4; storage_is = r.6 ∙ storage_is }))
        (λ of. let r = object_among one.graph.objects one.code.objects k of in
        object (record { function = one.function; graph = one.graph; is = one.is; code = one.code; code_is = one.code_is; index = r.0; object = r.1; there = r.3; variable = r.5 ∙ variable; offset = r.2; offset_is = r.4; storage_is = r.6 ∙ storage_is }))
        one.kept

    by_put : IsPut (keepings_of h e) number at → IsKeptBy h e number at
    by_put put =
        ⊎_elim
        (λ of. let r = static_among 0 e.statics put.keeping of in
        let same : r.0 ≡ number = (let at_is = r.3 in let v = put.variable in omega (arith, at_is, v)) in
        static r.1 (ap (slice_get e.statics) (sym same) ∙ r.2) (r.4 ∙ put.storage_is))
        (λ of. by_one put.keeping put.variable put.storage_is (function_among h.unit.graphs e.functions h.homes put.keeping of))
        (among_either (statics_kept 0 e.statics) (functions_kept h.unit.graphs e.functions h.homes) put.keeping put.among)

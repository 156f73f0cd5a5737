-- Where tables keep each variable of a program.
use Rattle.std.proofs.Common.{◌≡◌, ◌≢◌, ℕ, zero, suc, ◌+◌, ◌≤◌, ◌<◌, ◌⊎◌, inl, inr, ⊎_elim, Some, List, [], ◌∷◌, ◌++◌, length, map, replicate, slice_get, slice_index, refl, sym, ap, ◌∙◌, subst, arith}
use Rattle.std.specs.Prelude.{slice_set}
use Rattle.std.specs.List.{AllByRecursion}
use Rattle.std.proofs.lemmas.List.{length-append, length-map}
use Rattle.std.proofs.lemmas.Option.{none-some, same_Some}
use Rattle.graph_homes.specs.declared.home.Home.{Home}
use Rattle.graph_homes.specs.declared.home.Home.TheVariants.{Register, Slot}
use Rattle.graph_core.specs.declared.graph.MemoryObject.{MemoryObject}
use Rattle.graph_core.specs.Graphs.{Graph, Scalar, StaticObject, UnitForm}
use Rattle.graph_core.specs.Memory.{static_bytes}
use Rattle.graph_core.specs.Paths.{Among, front, behind}
use Rattle.graph_core.specs.Validity.{taken_by, total}
use Rattle.graph_homes.specs.Homed.{HomedForm}
use Rattle.rv_emit_storage.specs.StaticAddresses.{addresses_from, static_at, static_sizes, statics_start}
use Rattle.memory_map.specs.Maps.{bytes_size}
use Rattle.rv_emit_tables.specs.Emitted.{EmittedForm, FunctionCode}
use Rattle.image_form.specs.declared.variables.Storage.{Storage}
use Rattle.image_form.specs.declared.variables.Storage.TheVariants as storage
use Rattle.image_build_tables.specs.Storages.{Keeping, functions_kept, keepings_of, objects_kept, put_all, scalars_kept, statics_kept, storage_of, storages_of}
use Rattle.base_laws.proofs.Lists.{both_all as both_kinds, set_other}
use Rattle.graph_core.proofs.Among.{among_behind as among_right, among_front as among_left}

-- ---- Lists

-- ---- What stands in a table

set_same : {A : Type 0} (xs : List A) (n : ℕ) (x y : A) → slice_get (slice_set xs n x) n ≡ Some y → x ≡ y
set_same [] n x y is = absurd (none-some y is)
set_same (z ∷ xs) zero x y is = same_Some x y is
set_same (z ∷ xs) (suc n) x y is = set_same xs n x y is

-- what is put behind others stands, or what stood does
put_or : (P : Storage → Type 0) (all : List Keeping) (table : List Storage) (number : ℕ) (at : Storage) → AllByRecursion (λ (k : Keeping). P k.storage) all → slice_get (put_all all table) number ≡ Some at → P at ⊎ (slice_get table number ≡ Some at)
put_or P [] table number at each is = inr is
put_or P (k ∷ more) table number at each is =
    ⊎_elim (λ (new : P at). inl new)
    (λ (old : slice_get (slice_set table k.variable k.storage) number ≡ Some at). ⊎_elim (λ both. inl (subst P both.1 each.0)) (λ older. inr older) (set_other table k.variable number k.storage at old))
    (put_or P more (slice_set table k.variable k.storage) number at each.1 is)

-- Where something is put at a number, what stands there is put.
pub put_kept : (P : Storage → Type 0) (all : List Keeping) (table : List Storage) (keeping : Keeping) (at : Storage) → AllByRecursion (λ (k : Keeping). P k.storage) all → Among keeping all → slice_get (put_all all table) keeping.variable ≡ Some at → P at
put_kept P [] table keeping at each among is = elim among [ ]
put_kept P (_ ∷ more) table keeping at each front is =
    ⊎_elim (λ (new : P at). new) (λ (old : slice_get (slice_set table keeping.variable keeping.storage) keeping.variable ≡ Some at). subst P (set_same table keeping.variable keeping.storage at old) each.0)
    (put_or P more (slice_set table keeping.variable keeping.storage) keeping.variable at each.1 is)
put_kept P (k ∷ more) table keeping at each (behind among) is = put_kept P more (slice_set table k.variable k.storage) keeping at each.1 among is

-- ---- What is put is not the address 0

abbrev pub IsSome : Storage → Type 0
IsSome at = storage.Static 0 ≢ at

statics_some : (number : ℕ) (addresses : List ℕ) → AllByRecursion (λ a. 1 ≤ a) addresses → AllByRecursion (λ (k : Keeping). IsSome k.storage) (statics_kept number addresses)
statics_some number [] each = tt
statics_some number (a ∷ more) each = ((λ wrong. no_address a each.0 wrong), statics_some (number + 1) more each.1)
  where
    no_address : (a : ℕ) → 1 ≤ a → storage.Static 0 ≡ storage.Static a → ⊥
    no_address a low wrong = let zero_is : 0 ≡ a = cc in absurd (omega (arith, low, zero_is))

home_some : (slots : ℕ) (home : Home) → IsSome (storage_of slots home)
home_some slots (Register r) = λ wrong. cc
home_some slots (Slot k) = λ wrong. cc

scalars_some : (slots : ℕ) (scalars : List Scalar) (homes : List Home) → AllByRecursion (λ (k : Keeping). IsSome k.storage) (scalars_kept slots scalars homes)
scalars_some slots [] homes = tt
scalars_some slots (s ∷ more) [] = tt
scalars_some slots (s ∷ more) (home ∷ homes) = (home_some slots home, scalars_some slots more homes)

objects_some : (objects : List MemoryObject) (offsets : List ℕ) → AllByRecursion (λ (k : Keeping). IsSome k.storage) (objects_kept objects offsets)
objects_some [] offsets = tt
objects_some (o ∷ more) [] = tt
objects_some (o ∷ more) (offset ∷ offsets) = ((λ wrong. frame offset wrong), objects_some more offsets)
  where
    frame : (offset : ℕ) → storage.Static 0 ≡ storage.Frame offset → ⊥
    frame offset wrong = cc

functions_some : (graphs : List Graph) (codes : List FunctionCode) (all : List (List Home)) → AllByRecursion (λ (k : Keeping). IsSome k.storage) (functions_kept graphs codes all)
functions_some [] codes all = tt
functions_some (g ∷ graphs) [] all = tt
functions_some (g ∷ graphs) (c ∷ codes) [] = tt
functions_some (g ∷ graphs) (c ∷ codes) (homes ∷ all) =
    both_kinds (λ (k : Keeping). IsSome k.storage) (scalars_kept c.slots g.scalars homes) (objects_kept g.objects c.objects ++ functions_kept graphs codes all) (scalars_some c.slots g.scalars homes)
    (both_kinds (λ (k : Keeping). IsSome k.storage) (objects_kept g.objects c.objects) (functions_kept graphs codes all) (objects_some g.objects c.objects) (functions_some graphs codes all))

pub keepings_some : (h : HomedForm) (e : EmittedForm) → AllByRecursion (λ a. 1 ≤ a) e.statics → AllByRecursion (λ (k : Keeping). IsSome k.storage) (keepings_of h e)
keepings_some h e each = both_kinds (λ (k : Keeping). IsSome k.storage) (statics_kept 0 e.statics) (functions_kept h.unit.graphs e.functions h.homes) (statics_some 0 e.statics each) (functions_some h.unit.graphs e.functions h.homes)

-- ---- What is put

-- A variable of this number is put in a table.
pub record IsPutAt (all : List Keeping) (number : ℕ) : Type 0 where
  pub keeping : Keeping
  pub among : Among keeping all
  pub variable : keeping.variable ≡ number

static_put : (from : ℕ) (addresses : List ℕ) (n : ℕ) → n < length addresses → IsPutAt (statics_kept from addresses) (from + n)
static_put from [] n low = absurd (omega (arith, low))
static_put from (a ∷ more) zero low = record { keeping = record { variable = from; storage = storage.Static a }; among = front; variable = omega arith }
static_put from (a ∷ more) (suc n) low = let r = static_put (from + 1) more n (omega (arith, low)) in let is = r.variable in record { keeping = r.keeping; among = behind r.among; variable = omega (arith, is) }

scalar_put : (slots : ℕ) (scalars : List Scalar) (homes : List Home) (k : ℕ) (s : Scalar) → length scalars ≤ length homes → slice_get scalars k ≡ Some s → IsPutAt (scalars_kept slots scalars homes) s.variable
scalar_put slots [] homes k s fits is = absurd (none-some s is)
scalar_put slots (x ∷ more) [] k s fits is = absurd (omega (arith, fits))
scalar_put slots (x ∷ more) (home ∷ homes) zero s fits is = record { keeping = record { variable = x.variable; storage = storage_of slots home }; among = front; variable = ap (λ (z : Scalar). z.variable) (same_Some x s is) }
scalar_put slots (x ∷ more) (home ∷ homes) (suc k) s fits is = let r = scalar_put slots more homes k s (omega (arith, fits)) is in record { keeping = r.keeping; among = behind r.among; variable = r.variable }

object_put : (objects : List MemoryObject) (offsets : List ℕ) (k : ℕ) (o : MemoryObject) → length objects ≤ length offsets → slice_get objects k ≡ Some o → IsPutAt (objects_kept objects offsets) o.var.0
object_put [] offsets k o fits is = absurd (none-some o is)
object_put (x ∷ more) [] k o fits is = absurd (omega (arith, fits))
object_put (x ∷ more) (offset ∷ offsets) zero o fits is = record { keeping = record { variable = x.var.0; storage = storage.Frame offset }; among = front; variable = ap (λ (z : MemoryObject). z.var.0) (same_Some x o is) }
object_put (x ∷ more) (offset ∷ offsets) (suc k) o fits is = let r = object_put more offsets k o (omega (arith, fits)) is in record { keeping = r.keeping; among = behind r.among; variable = r.variable }

put_left : (xs ys : List Keeping) (number : ℕ) → IsPutAt xs number → IsPutAt (xs ++ ys) number
put_left xs ys number put = record { keeping = put.keeping; among = among_left xs ys put.keeping put.among; variable = put.variable }

put_right : (xs ys : List Keeping) (number : ℕ) → IsPutAt ys number → IsPutAt (xs ++ ys) number
put_right xs ys number put = record { keeping = put.keeping; among = among_right xs ys put.keeping put.among; variable = put.variable }

function_put : (graphs : List Graph) (codes : List FunctionCode) (all : List (List Home)) (f : ℕ) (g : Graph) (c : FunctionCode) (homes : List Home) (number : ℕ) → slice_get graphs f ≡ Some g → slice_get codes f ≡ Some c → slice_get all f ≡ Some homes
    → IsPutAt (scalars_kept c.slots g.scalars homes) number ⊎ IsPutAt (objects_kept g.objects c.objects) number → IsPutAt (functions_kept graphs codes all) number
function_put [] codes all f g c homes number is at of put = absurd (none-some g is)
function_put (x ∷ graphs) [] all f g c homes number is at of put = absurd (none-some c at)
function_put (x ∷ graphs) (y ∷ codes) [] f g c homes number is at of put = absurd (none-some homes of)
function_put (x ∷ graphs) (y ∷ codes) (z ∷ all) zero g c homes number is at of put =
    subst (λ (w : Graph). IsPutAt (scalars_kept y.slots w.scalars z ++ (objects_kept w.objects y.objects ++ functions_kept graphs codes all)) number) (sym (same_Some x g is))
    (subst (λ (w : FunctionCode). IsPutAt (scalars_kept w.slots g.scalars z ++ (objects_kept g.objects w.objects ++ functions_kept graphs codes all)) number) (sym (same_Some y c at))
    (subst (λ (w : List Home). IsPutAt (scalars_kept c.slots g.scalars w ++ (objects_kept g.objects c.objects ++ functions_kept graphs codes all)) number) (sym (same_Some z homes of))
    (⊎_elim (λ (one : IsPutAt (scalars_kept c.slots g.scalars homes) number). put_left (scalars_kept c.slots g.scalars homes) (objects_kept g.objects c.objects ++ functions_kept graphs codes all) number one)
    (λ (two : IsPutAt (objects_kept g.objects c.objects) number). put_right (scalars_kept c.slots g.scalars homes) (objects_kept g.objects c.objects ++ functions_kept graphs codes all) number (put_left (objects_kept g.objects c.objects) (functions_kept graphs codes all) number two))
    put)))
function_put (x ∷ graphs) (y ∷ codes) (z ∷ all) (suc f) g c homes number is at of put =
    put_right (scalars_kept y.slots x.scalars z) (objects_kept x.objects y.objects ++ functions_kept graphs codes all) number
    (put_right (objects_kept x.objects y.objects) (functions_kept graphs codes all) number (function_put graphs codes all f g c homes number is at of put))

-- A static object is put.
pub put_static : (h : HomedForm) (e : EmittedForm) (n : ℕ) → n < length e.statics → IsPutAt (keepings_of h e) n
put_static h e n low =
    let here : 0 + n ≡ n = omega arith in
    put_left (statics_kept 0 e.statics) (functions_kept h.unit.graphs e.functions h.homes) n (subst (IsPutAt (statics_kept 0 e.statics)) here (static_put 0 e.statics n low))

-- So is a variable of a function.
pub put_scalar : (h : HomedForm) (e : EmittedForm) (f k : ℕ) (g : Graph) (c : FunctionCode) (homes : List Home) (s : Scalar) → slice_get h.unit.graphs f ≡ Some g → slice_get e.functions f ≡ Some c → slice_get h.homes f ≡ Some homes → length g.scalars ≤ length homes → slice_get g.scalars k ≡ Some s → IsPutAt (keepings_of h e) s.variable
put_scalar h e f k g c homes s is at of fits there =
    put_right (statics_kept 0 e.statics) (functions_kept h.unit.graphs e.functions h.homes) s.variable (function_put h.unit.graphs e.functions h.homes f g c homes s.variable is at of (inl (scalar_put c.slots g.scalars homes k s fits there)))

pub put_object : (h : HomedForm) (e : EmittedForm) (f k : ℕ) (g : Graph) (c : FunctionCode) (homes : List Home) (o : MemoryObject) → slice_get h.unit.graphs f ≡ Some g → slice_get e.functions f ≡ Some c → slice_get h.homes f ≡ Some homes → length g.objects ≤ length c.objects → slice_get g.objects k ≡ Some o → IsPutAt (keepings_of h e) o.var.0
put_object h e f k g c homes o is at of fits there =
    put_right (statics_kept 0 e.statics) (functions_kept h.unit.graphs e.functions h.homes) o.var.0 (function_put h.unit.graphs e.functions h.homes f g c homes o.var.0 is at of (inr (object_put g.objects c.objects k o fits there)))

-- What is kept of a variable that is put is not the address 0.
pub kept_some : (h : HomedForm) (e : EmittedForm) (many number : ℕ) (at : Storage) → AllByRecursion (λ a. 1 ≤ a) e.statics → IsPutAt (keepings_of h e) number → slice_get (storages_of h e many) number ≡ Some at → IsSome at
kept_some h e many number at each put is =
    put_kept IsSome (keepings_of h e) (replicate many (storage.Static 0)) put.keeping at (keepings_some h e each) put.among (ap (slice_get (storages_of h e many)) put.variable ∙ is)

-- ---- Addresses

address_within : (start : ℕ) (sizes : List ℕ) (n : ℕ) → n < length sizes → (start ≤ slice_index (addresses_from start sizes) n) × (slice_index (addresses_from start sizes) n + 4 ≤ start + total taken_by sizes)
address_within start [] n low = absurd (omega (arith, low))
address_within start (b ∷ more) zero low = (omega arith, omega arith)
address_within start (b ∷ more) (suc n) low =
    let r = address_within (start + taken_by b) more n (omega (arith, low)) in
    let one = r.0 in let two = r.1 in
    (omega (arith, one), omega (arith, two))

total_both : (xs ys : List ℕ) → total taken_by (xs ++ ys) ≡ total taken_by xs + total taken_by ys
total_both [] ys = omega arith
total_both (x ∷ xs) ys = let rest = total_both xs ys in omega (arith, rest)

total_map : {A : Type 0} (f : A → ℕ) (xs : List A) → total taken_by (map f xs) ≡ total (λ x. taken_by (f x)) xs
total_map f [] = refl
total_map f (x ∷ xs) = ap (λ n. taken_by (f x) + n) (total_map f xs)

-- Addresses of static objects lie within static memory.
pub static_within : (u : UnitForm) (n : ℕ) → n < length u.statics → total (λ (o : StaticObject). taken_by (static_bytes o)) u.statics + total (λ (b : List ℕ). taken_by (length b)) u.array_bytes ≤ 1048576
    → ((statics_start u) ≤ static_at u n) × (static_at u n + 4 ≤ (statics_start u) + bytes_size)
static_within u n low most =
    let sum = length-append (map static_bytes u.statics) (map (λ (b : List ℕ). length b) u.array_bytes) in
    let many = length-map u.statics static_bytes in
    let r = address_within (statics_start u) (static_sizes u) n (omega (arith, low, sum, many)) in
    let all = total_both (map static_bytes u.statics) (map (λ (b : List ℕ). length b) u.array_bytes) in
    let one = total_map static_bytes u.statics in
    let two = total_map (λ (b : List ℕ). length b) u.array_bytes in
    let high = r.1 in
    (r.0, omega (arith, high, all, one, two, most))

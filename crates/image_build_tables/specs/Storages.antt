-- Where the variables of a program are kept, by the homes of its unit's names and its code.
use Rattle.std.specs.Prelude.{ℕ, ◌+◌, ◌*◌, List, [], ◌∷◌, ◌++◌, replicate, slice_set}
use Rattle.graph_homes.specs.declared.home.Home.{Home}
use Rattle.graph_homes.specs.declared.home.Home.TheVariants.{Register, Slot}
use Rattle.graph_core.specs.declared.graph.MemoryObject.{MemoryObject}
use Rattle.graph_core.specs.Graphs.{Graph, Scalar}
use Rattle.graph_homes.specs.Homed.{HomedForm}
use Rattle.rv_emit_tables.specs.Emitted.{EmittedForm, FunctionCode}
use Rattle.image_form.specs.declared.variables.Storage.{Storage}
use Rattle.image_form.specs.declared.variables.Storage.TheVariants as storage
use Rattle.image_build_tables.specs.Variables.{bounded_count}

-- A variable, by its number, and where it is kept.
pub record Keeping : Type 0 where
  pub variable : ℕ
  pub storage : Storage

-- the storage that a home is, in a function whose slots begin at this offset in its frame
abbrev pub storage_of : (slots : ℕ) → Home → Storage
storage_of slots (Register r) = storage.Register r
storage_of slots (Slot k) = storage.Slot (bounded_count (slots + 4 * k))

-- the scalars of a function, each in the home of its name
abbrev pub scalars_kept : (slots : ℕ) → List Scalar → List Home → List Keeping
scalars_kept slots [] homes = []
scalars_kept slots (s ∷ more) [] = []
scalars_kept slots (s ∷ more) (home ∷ homes) =
    record { variable = s.variable; storage = storage_of slots home } ∷ scalars_kept slots more homes

-- the objects of a function, each at its offset in the frame
abbrev pub objects_kept : List MemoryObject → (offsets : List ℕ) → List Keeping
objects_kept [] offsets = []
objects_kept (o ∷ more) [] = []
objects_kept (o ∷ more) (offset ∷ offsets) =
    record { variable = o.var.0; storage = storage.Frame offset } ∷ objects_kept more offsets

-- the variables of functions with their code and their homes
abbrev pub functions_kept : List Graph → List FunctionCode → List (List Home) → List Keeping
functions_kept [] codes all = []
functions_kept (g ∷ graphs) [] all = []
functions_kept (g ∷ graphs) (code ∷ codes) [] = []
functions_kept (g ∷ graphs) (code ∷ codes) (homes ∷ all) =
    scalars_kept code.slots g.scalars homes ++ (objects_kept g.objects code.objects ++ functions_kept graphs codes all)

-- static variables and literals, the first of which has this number, at their addresses
abbrev pub statics_kept : (number : ℕ) → (addresses : List ℕ) → List Keeping
statics_kept number [] = []
statics_kept number (address ∷ more) =
    record { variable = number; storage = storage.Static address } ∷ statics_kept (number + 1) more

-- the variables of a unit
abbrev pub keepings_of : HomedForm → EmittedForm → List Keeping
keepings_of h e = statics_kept 0 e.statics ++ functions_kept h.unit.graphs e.functions h.homes

-- a table of storages, by the numbers of variables, in which each of these is put in its turn
abbrev pub put_all : List Keeping → List Storage → List Storage
put_all [] table = table
put_all (k ∷ more) table = put_all more (slice_set table k.variable k.storage)

-- WHERE EACH OF SO MANY VARIABLES IS KEPT: static ones and literals at their addresses, scalars of functions in their
-- homes, objects in their frames. One that is nowhere is said to be at the address 0, where nothing is.
abbrev pub storages_of : HomedForm → EmittedForm → (variables : ℕ) → List Storage
storages_of h e variables = put_all (keepings_of h e) (replicate variables (storage.Static 0))

-- Of how many variables it is said where they are kept.
use Rattle.std.proofs.Common.{◌≡◌, ℕ, List, [], ◌∷◌, length, replicate, slice_set, refl, ◌∙◌}
use Rattle.std.proofs.lemmas.List.{length-replicate, length-set}
use Rattle.graph_homes.specs.Homed.{HomedForm}
use Rattle.rv_emit_tables.specs.Emitted.{EmittedForm}
use Rattle.image_form.specs.declared.variables.Storage.{Storage}
use Rattle.image_form.specs.declared.variables.Storage.TheVariants as kept
use Rattle.image_build_tables.specs.Storages.{Keeping, keepings_of, put_all, storages_of}

-- putting in keeps how many there are
put_all_length : (all : List Keeping) (table : List Storage) → length (put_all all table) ≡ length table
put_all_length [] table = refl
put_all_length (k ∷ all) table = put_all_length all (slice_set table k.variable k.storage) ∙ length-set table k.variable k.storage

pub storages_length : (h : HomedForm) (e : EmittedForm) (n : ℕ) → length (storages_of h e n) ≡ n
storages_length h e n = put_all_length (keepings_of h e) (replicate n (kept.Static 0)) ∙ length-replicate n (kept.Static 0)

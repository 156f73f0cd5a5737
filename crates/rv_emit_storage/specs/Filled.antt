-- The bytes of static memory, object by object.
use Rattle.std.specs.Prelude.{ℕ, ◌+◌, ◌/◌, ◌%◌, ◌==◌, ◌&&◌, nat_lt, if◌then◌else◌, List, [], ◌∷◌, take, slice_get, slice_set}
use Rattle.std.specs.Option.{option_map_or}
use Rattle.graph_core.specs.declared.instruction.Element.{Element}
use Rattle.graph_core.specs.declared.instruction.Element.TheVariants.{Unsigned8, Signed8, Unsigned16, Signed16, Word}
use Rattle.graph_core.specs.declared.unit.Relocation.{Relocation}
use Rattle.graph_core.specs.Graphs.{StaticObject}
use Rattle.graph_core.specs.Memory.{static_bytes}
use Rattle.graph_core.specs.Validity.{taken_by}
use Rattle.rv_emit_storage.specs.StaticAddresses.{padded}

-- Bytes of which the four from an offset on are those of a word, the lowest first.
abbrev pub with_word : (at word : ℕ) → List ℕ → List ℕ
with_word at w bytes =
    slice_set (slice_set (slice_set (slice_set bytes at (w % 256)) (at + 1) (w / 256 % 256)) (at + 2) (w / 65536 % 256))
    (at + 3) (w / 16777216 % 256)

-- The bytes of an object that has so many, with the address that a relocation holds, if a word of the object begins
-- where it stands.
abbrev pub with_relocation : (addresses : List ℕ) → (size : ℕ) → Relocation → List ℕ → List ℕ
with_relocation addresses size r bytes =
    if r.at % 4 == 0 && nat_lt r.at size
    then option_map_or (λ a. with_word r.at ((a + r.offset) % 4294967296) bytes) (slice_get addresses r.object)
    bytes
    else bytes

-- With those that relocations hold: of several at one offset the first counts.
abbrev pub with_relocations : (addresses : List ℕ) → (size : ℕ) → List Relocation → List ℕ → List ℕ
with_relocations addresses size [] bytes = bytes
with_relocations addresses size (r ∷ more) bytes =
    with_relocation addresses size r (with_relocations addresses size more bytes)

-- The relocations of an object that count: only an object of words holds addresses.
abbrev pub relocations_by : Element → List Relocation → List Relocation
relocations_by Word all = all
relocations_by Unsigned8 all = []
relocations_by Signed8 all = []
relocations_by Unsigned16 all = []
relocations_by Signed16 all = []

abbrev pub relocations_of : StaticObject → List Relocation
relocations_of o = relocations_by o.element o.relocations

-- What an object takes, with the addresses that it holds.
abbrev pub filled_object : (addresses : List ℕ) → StaticObject → List ℕ
filled_object addresses o =
    with_relocations addresses (static_bytes o) (relocations_of o)
    (padded (taken_by (static_bytes o)) (take (static_bytes o) o.bytes))

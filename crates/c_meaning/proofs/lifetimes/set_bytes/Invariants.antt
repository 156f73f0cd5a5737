use Rattle.std.proofs.Common.{◌≡◌, map, drop}
use Rattle.c_meaning_values.specs.Views.{object_view}
use Rattle.c_meaning.specs.Lifetimes.{element_value, set_values}
use Rattle.c_meaning.proofs.lifetimes.set_bytes.Given as goal

abbrev pub invariant-loop-index : goal.invariant-loop-index
invariant-loop-index l =
    set_values (map object_view l.memory.all.items) l.object l.index (map (element_value l.of) (drop l.index l.bytes)) ≡ set_values (map object_view l.fn.memory.all.items) l.object 0 (map (element_value l.of) l.bytes)

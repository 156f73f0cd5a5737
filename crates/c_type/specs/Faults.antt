-- The first fault of a source.
use Rattle.std.specs.Prelude.{nat_lt, ◌==◌, List, [], ◌∷◌, Bool, ◌&&◌, ◌||◌, Option, Some, None, if◌then◌else◌}
use Rattle.c_type_expressions.specs.declared.findings.Fault.{Fault}

-- a fault comes before another: it ends at an earlier token; or at the same one with a lesser code; or with the same
-- code in a smaller construct
abbrev pub comes_before : Fault → Fault → Bool
comes_before f g =
    nat_lt f.last g.last
    ||
    (f.last == g.last
    &&
    (nat_lt f.code.number g.code.number
    || (f.code.number == g.code.number && nat_lt g.first.at f.first.at)))

-- the earlier of a fault and one that may be there; of two that tie the one that was found first
abbrev pub earlier : Option Fault → Fault → Fault
earlier None g = g
earlier (Some f) g = if comes_before g f then g else f

-- the first of faults behind one that may be there
abbrev pub first_behind : Option Fault → List Fault → Option Fault
first_behind best [] = best
first_behind best (f ∷ fs) = first_behind (Some (earlier best f)) fs

-- the fault that is told: the first by its position in the source
abbrev pub first_fault : List Fault → Option Fault
first_fault fs = first_behind None fs

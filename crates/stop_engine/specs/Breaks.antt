-- The places that `break` marks.
use Rattle.std.specs.Prelude.{ℕ, ◌+◌, ◌==◌, ◌&&◌, min, Bool, if◌then◌else◌, bytes_eq, Option, Some, None, List, [], ◌∷◌, map}
use Rattle.std.specs.List.{filter}
use Rattle.std.specs.Option.{option_map_or}
use Rattle.image_form.specs.Form.{Form}
use Rattle.image_form.specs.Names.{function_name}
use Rattle.image_form.specs.declared.tables.FlowPair.{FlowPair}
use Rattle.image_form.specs.declared.tables.Function.{Function}
use Rattle.image_form.specs.declared.tables.Place.{Place}
use Rattle.rv_machine.specs.Run.{is_stop}
use Rattle.script_form.specs.Script.{Mark, OnLine, InFunction}
use Rattle.stop_engine_view.specs.Run.{stop_addresses}

-- whether a place is a stop on a line of the source
abbrev pub is_stop_on : Form → (line : ℕ) → Place → Bool
is_stop_on m line p = p.line == line && is_stop (stop_addresses m) p.address

-- the numbers of the stops on a line, of places that are counted on from a number
abbrev pub stops_on : Form → (line number : ℕ) → List Place → List ℕ
stops_on m line number [] = []
stops_on m line number (p ∷ places) =
    if is_stop_on m line p then number ∷ stops_on m line (number + 1) places else stops_on m line (number + 1) places

-- the first function of a name, of functions that are counted on from a number
abbrev pub function_called : Form → (name : List ℕ) → (number : ℕ) → List Function → Option Function
function_called m name number [] = None
function_called m name number (f ∷ functions) =
    if bytes_eq (function_name m number) name then Some f else function_called m name (number + 1) functions

-- the places to which execution may go from a place
abbrev pub followers : (place : ℕ) → List FlowPair → List ℕ
followers place flow = map (λ (f : FlowPair). f.to) (filter (λ (f : FlowPair). f.from == place) flow)

-- the least of some numbers
abbrev pub least_of : List ℕ → Option ℕ
least_of [] = None
least_of (x ∷ xs) = Some (option_map_or (λ y. min x y) (least_of xs) x)

-- the least place that follows the entry of the first function of a name
abbrev pub first_place : Form → (name : List ℕ) → Option ℕ
first_place m name =
    option_map_or (λ (f : Function). least_of (followers f.entry m.flow)) (function_called m name 0 m.functions) None

-- a list of the one or of none
abbrev pub one_or_none : Option ℕ → List ℕ
one_or_none (Some x) = x ∷ []
one_or_none None = []

-- What `break` marks: all stops on a line, or the least place that follows the entry of the first function of a name.
abbrev pub break_places : Form → Mark → List ℕ
break_places m (OnLine line) = stops_on m line 1 m.places
break_places m (InFunction name) = one_or_none (first_place m name)

-- What the forms of code give is carried out.
use Rattle.c_tree.specs.Programs.{ProgramTree}
use Rattle.graph_homes.specs.Homed.{HomedForm}
use Rattle.rv_emit_tables.specs.Emitted.{EmittedForm}
use Rattle.rv_emit.specs.Emits.{Emits}
use Rattle.image_form.specs.Form.{Form}
use Rattle.image_build.specs.Carried.{CarriesOut}
use Rattle.image_build.specs.Made.{IsMadeOf, IsMadeOfCode}

-- what is emitted carries out the unit
pub carries_out : (h : HomedForm) (e : EmittedForm) (emits : Emits h e) → CarriesOut h emits.code.arrangement e
carries_out h e emits = record {
  map = emits.code.map;
  initial = emits.code.initial;
  comes = emits.comes;
  owners = emits.owners;
  owned = emits.owned;
  stops = emits.stops;
  apart = emits.apart;
  writers = emits.tables;
  bindings = emits.bindings;
  nothing_else = emits.nothing_else;
  told = emits.told;
  statics = emits.statics;
}

-- An image that is made of a unit and of the words of its code is made of the unit.
pub carried : (p : ProgramTree) (h : HomedForm) (m : Form) → IsMadeOfCode p h m → IsMadeOf p h m
carried p h m made = record {
  emitted = made.emitted;
  arrangement = made.emits.code.arrangement;
  carries = carries_out h made.emitted made.emits;
  parts = made.parts;
}

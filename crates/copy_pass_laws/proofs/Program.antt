-- Units that are alike are of one program.
use Rattle.std.proofs.Common.{length, sym, ap, subst}
use Rattle.graph_core.specs.Graphs.{Graph, UnitForm}
use Rattle.graph_core.specs.Paths.{Among}
use Rattle.pass_law.specs.Keeps.{SameFunction, SameProgram}
use Rattle.copy_pass_rule.specs.Alike.{IsReadFor, AreAlike}
use Rattle.copy_pass_rule.proofs.Shapes.{same_block_markers}
use Rattle.copy_pass_laws.specs.Alike.{AreAlikeUnits}
use Rattle.copy_pass_laws.proofs.CopyMarksLists.{pairs_so}

-- Graphs that are alike are of one function.
same_function : (g h : Graph) → AreAlike g h → SameFunction g h
same_function g h alike =
    let marks = same_block_markers (IsReadFor (length g.scalars)) g.blocks h.blocks alike.blocks in
    record {
      entry = ap (λ (k : Graph). k.entry) alike.rest;
      parameters = ap (λ (k : Graph). k.parameters) alike.rest;
      scalars = ap (λ (k : Graph). k.scalars) alike.rest;
      objects = ap (λ (k : Graph). k.objects) alike.rest;
      markers = λ p. (λ m. subst (λ ps. Among p ps) (sym marks) m, λ m. subst (λ ps. Among p ps) marks m);
    }

-- THE PROGRAM STAYS. A unit that is alike to another is of the same program.
pub same_program : (u v : UnitForm) → AreAlikeUnits u v → SameProgram u v
same_program u v alike = record {
  main = alike.shared.main;
  statics = alike.shared.statics;
  array_bytes = alike.shared.array_bytes;
  steps = alike.shared.steps;
  assignments = alike.shared.assignments;
  room = alike.shared.room;
  added = alike.added;
  log = alike.log;
  functions = pairs_so AreAlike SameFunction same_function u.graphs v.graphs alike.functions;
}

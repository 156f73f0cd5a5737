use Rattle.std.proofs.Common.{◌≡◌, ◌∙◌, List, length, map, ap, arith, refl}
use Rattle.std.proofs.lemmas.List.{length-map}
use Rattle.graph_core.specs.Graphs.{graph_view, unit_view}
use Rattle.rv_emit_tables.specs.Emitted.{function_view, FunctionCode}
use Rattle.rv_emit_layout.specs.declared.laying.Laid.{Laid}
use Rattle.rv_emit_layout.specs.declared.layout.OwnedWord.{OwnedWord}
use Rattle.rv_emit_layout.specs.Laid.{coded_view, laid_view, static_view, stops_of_all, told_of_all}
use Rattle.rv_emit_layout.proofs.Appended.{told_count}
use Rattle.rv_emit_layout.proofs.Fitting.{statics_fit}
use Rattle.rv_emit_layout.proofs.assembling.assemble.Goals as goal

pub returns-clause-statics : goal.returns-clause-statics
returns-clause-statics c = (c.in_ok-statics.statics.array_bytes.items, c.in_ok-statics.ensures.addresses (statics_fit (unit_view c.args.homed.now.unit) c.requires.valid))

pub returns-clause-functions : goal.returns-clause-functions
returns-clause-functions c =
    let told : length (map function_view c.in_ok-functions.functions.items) ≡ length (told_of_all (map graph_view c.deref.result.now) c.deref-3.result.now 0 (map laid_view c.deref-2.result.now)) = ap (λ (l : List FunctionCode). length l) c.in_ok-functions.ensures in
    let all : length c.deref-2.result.now ≡ length c.in_ok-coded.coded.all.items = ap (λ (l : List Laid). length l) c.deref-2.ensures.value in
    omega (arith, told, all, length-map c.in_ok-functions.functions.items function_view, told_count (map graph_view c.deref.result.now) c.deref-3.result.now 0 (map laid_view c.deref-2.result.now), length-map c.deref-2.result.now laid_view, c.in_ok-coded.ensures.each)

pub returns-clause-code : goal.returns-clause-code
returns-clause-code c =
    let u = unit_view c.args.homed.now.unit in
    let fits = statics_fit u c.requires.valid in
    record {
      regions = c.map_of_unit.ensures;
      statics = static_view c.in_ok-statics.statics;
      coded = coded_view c.in_ok-coded.coded;
      code = c.in_ok-coded.ensures.code;
      words = c.in_ok-words_of.ensures ∙ ap (map (λ (w : OwnedWord). w.word)) c.deref-4.ensures.value;
      owners = c.in_ok-owners_of.ensures ∙ ap (map (λ (w : OwnedWord). w.owner)) c.deref-5.ensures.value;
      stops = c.in_ok-stops_of.ensures ∙ ap (λ fs. stops_of_all fs 0 (map laid_view c.deref-6.result.now)) c.deref-7.ensures.value ∙ ap (λ all. stops_of_all c.in_ok-coded.coded.firsts.items 0 (map laid_view all)) c.deref-6.ensures.value;
      functions = c.in_ok-functions.ensures ∙ ap (λ gs. told_of_all (map graph_view gs) c.deref-3.result.now 0 (map laid_view c.deref-2.result.now)) c.deref.ensures.value
          ∙ ap (λ fs. told_of_all u.graphs fs 0 (map laid_view c.deref-2.result.now)) c.deref-3.ensures.value
          ∙ ap (λ all. told_of_all u.graphs c.in_ok-coded.coded.firsts.items 0 (map laid_view all)) c.deref-2.ensures.value;
      objects = refl;
      addresses = record { objects = c.in_ok-statics.ensures.objects fits; arrays = c.in_ok-statics.ensures.arrays fits; base = c.in_ok-statics.ensures.base };
      initial = c.in_ok-initial_bytes.ensures.exact fits (c.in_ok-statics.ensures.objects fits) c.requires.valid.relocations;
      bytes = c.in_ok-initial_bytes.ensures.bytes;
    }

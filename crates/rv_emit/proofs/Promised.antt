-- What is emitted does what the unit does.
use Rattle.std.proofs.Common.{◌≡◌, ◌≤◌, ◌∙◌, sym, ap, subst, length, arith}
use Rattle.std.specs.Prelude.{slice_index}
use Rattle.std.specs.List.{AllByRecursion}
use Rattle.memory_map.specs.Maps.{most_words}
use Rattle.graph_core.specs.Paths.{Among}
use Rattle.graph_core.specs.Validity.{IsValid}
use Rattle.graph_homes.specs.Homed.{HomedForm, HaveHomes}
use Rattle.rv_emit_tables.specs.declared.emitted.PlacedStop.{PlacedStop}
use Rattle.rv_emit_tables.specs.Emitted.{EmittedForm}
use Rattle.rv_emit_storage.proofs.Filling.{have_all}
use Rattle.rv_emit_runs.specs.Laid.{IsCode, IsInWords}
use Rattle.rv_emit_runs.proofs.Whole.{agrees_throughout, comes_by_all}
use Rattle.rv_emit_layout.specs.Laid.{IsEmittedOf}
use Rattle.rv_emit_runs.proofs.Rooms.{apart_has_room}
use Rattle.rv_emit_runs.proofs.EmitBoundWhole.{follows_in_time}
use Rattle.rv_emit_runs.specs.Told.{AreCountable, IsCountable, TellBinders, TellWriters, Tells}
use Rattle.rv_emit_runs.specs.Writing.{WritesNothingElse}
use Rattle.rv_emit_runs.proofs.BinderTables.{tells_binders}
use Rattle.rv_emit_runs.proofs.Lists.{all_at}
use Rattle.rv_emit_runs.proofs.Binders.{code_binds}
use Rattle.rv_emit_runs.proofs.EmitPlacedMarkers.{emitted_stops}
use Rattle.rv_emit_runs.proofs.NothingElse.{nothing_else}
use Rattle.rv_emit_runs.proofs.Told.{emitted_tells}
use Rattle.rv_emit_runs.proofs.UnitOwners.{emitted_owners}
use Rattle.rv_emit_runs.proofs.WriterTables.{tells_writers}
use Rattle.rv_emit_runs.proofs.Writers.{code_writes}
use Rattle.rv_emit_runs.proofs.UnitCode.{arrangement_is, code_is, code_parts}
use Rattle.rv_emit.specs.Emits.{Emits}

-- Stops at one address are of one place.
stops_apart : (h : HomedForm) (e : EmittedForm) → IsCode h e → (s t : PlacedStop) → Among s e.stops → Among t e.stops → s.address ≡ t.address → s.place ≡ t.place
stops_apart h e code s t is_s is_t same =
    let one = code.stops s is_s in
    let two = code.stops t is_t in
    let index : one.0 ≡ two.0 = let here = one.1 in let there = two.1 in omega (arith, same, here, there) in
    sym one.2 ∙ ap (slice_index e.owners) index ∙ two.2

-- Where 32 bits can count the instructions of all graphs they can count those of each function.
pub countable_each : (h : HomedForm) → AllByRecursion IsCountable h.unit.graphs → AreCountable h
countable_each h all f g is = all_at IsCountable h.unit.graphs f g all is

pub emits_all : (h : HomedForm) → IsValid h.unit → HaveHomes h → (e : EmittedForm) → IsEmittedOf h e → length e.code ≤ most_words e.map → length e.owners ≡ length e.code → AllByRecursion IsInWords h.unit.graphs → AreCountable h → Emits h e
emits_all h valid homed e emitted short owners words countable =
    let code : IsCode h e = code_is h valid homed e emitted short emitted.addresses words emitted.initial emitted.bytes in
    let arranged = sym (arrangement_is h valid homed e emitted short emitted.addresses words emitted.initial emitted.bytes) in
    record {
      code = code;
      comes = comes_by_all h valid homed e code;
      agrees = agrees_throughout h valid homed e code;
      in_time = λ timed. follows_in_time h timed homed e code (apart_has_room h e code (code_parts h valid homed e emitted short emitted.addresses words emitted.initial emitted.bytes));
      owners = owners;
      owned = emitted_owners h valid e emitted short;
      stops = emitted_stops h valid e emitted short;
      writers = code_writes h e code;
      binders = code_binds h e code;
      nothing_else = subst (λ a. WritesNothingElse h a e) arranged (nothing_else h valid homed e emitted short words);
      tables = subst (λ a. TellWriters h a e) arranged (tells_writers h valid homed e emitted short words countable);
      bindings = subst (λ a. TellBinders h a e) arranged (tells_binders h valid homed e emitted short words);
      apart = stops_apart h e code;
      told = subst (λ a. Tells h a e) arranged (emitted_tells h valid homed e emitted);
      statics = have_all h.unit e.statics (emitted.objects ∙ emitted.addresses.objects);
    }

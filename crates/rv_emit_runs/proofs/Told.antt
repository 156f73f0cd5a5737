-- What is told of what is emitted is where its parts are.
use Rattle.std.proofs.Common.{◌≡◌, ℕ, zero, suc, ◌+◌, ◌≤◌, ◌==◌, Some, List, [], ◌∷◌, length, map, take, slice_get, slice_index, refl, sym, ap, ◌∙◌, subst, arith}
use Rattle.std.proofs.lemmas.List.{length-append, length-map, length-take-le}
use Rattle.std.proofs.lemmas.Option.{slice_get_within}
use Rattle.graph_core.specs.Graphs.{Graph, UnitForm}
use Rattle.graph_core.specs.Memory.{static_bytes}
use Rattle.graph_core.specs.Validity.{IsValid}
use Rattle.graph_homes.specs.Homed.{HomedForm, HaveHomes, homes_in}
use Rattle.rv_emit_storage.specs.StaticAddresses.{static_addresses, static_sizes, statics_start}
use Rattle.rv_emit_tables.specs.Emitted.{EmittedForm}
use Rattle.rv_emit_storage.proofs.Filling.{addresses_count, have_all}
use Rattle.rv_emit_sequence.specs.Sequences.{Ground, counted}
use Rattle.rv_emit_runs.specs.Laid.{graph_at}
use Rattle.rv_emit_runs.proofs.Frames.{graph_is}
use Rattle.rv_emit_layout.specs.Laid.{LaidForm, ground_for, parameters_in, told_by, told_of_all, IsEmittedOf, IsDrawnOf}
use Rattle.rv_emit_runs.specs.Told.{IsTold, Tells}
use Rattle.rv_emit_runs.proofs.Grounds.{ground_at, ground_is}
use Rattle.rv_emit_runs.proofs.UnitCode.{arranged}
use Rattle.rv_emit_runs.proofs.UnitPlaced.{LaidAt, laid_at, laid_count}

-- ---- Functions in order

pub told_there : (graphs : List Graph) (firsts : List ℕ) (all : List LaidForm) (f k : ℕ) (l : LaidForm) → f + length all ≤ 4294967295 → slice_get all k ≡ Some l
    → slice_get (told_of_all graphs firsts f all) k ≡ Some (told_by (slice_index firsts (f + k)) (parameters_in graphs (f + k)) l)
told_there graphs firsts [] f k l few e = cc
told_there graphs firsts (x ∷ more) f zero l few e =
    let same : x ≡ l = cc in
    let here : f ≡ f + 0 = omega arith in
    ap (λ y. Some (told_by (slice_index firsts f) (parameters_in graphs f) y)) same ∙ ap (λ j. Some (told_by (slice_index firsts j) (parameters_in graphs j) l)) here
told_there graphs firsts (x ∷ more) f (suc k) l few e =
    let next : counted (f + 1) ≡ f + 1 = omega (arith, few) in
    let index : counted (f + 1) + k ≡ f + suc k = omega (arith, next) in
    told_there graphs firsts more (counted (f + 1)) k l (omega (arith, few, next)) e ∙ ap (λ j. Some (told_by (slice_index firsts j) (parameters_in graphs j) l)) index

-- ---- Static objects

objects_many : (u : UnitForm) (addresses : List ℕ) → addresses ≡ take (length u.statics) (static_addresses u) → length addresses ≡ length u.statics
objects_many u addresses is =
    let all = addresses_count (statics_start u) (static_sizes u) in
    let both = length-append (map static_bytes u.statics) (map (λ (b : List ℕ). length b) u.array_bytes) in
    let objects = length-map u.statics static_bytes in
    ap (λ (l : List ℕ). length l) is ∙ length-take-le (length u.statics) (static_addresses u) (omega (arith, all, both, objects))

-- ---- All of it

module _ (h : HomedForm) (valid : IsValid h.unit) (homed : HaveHomes h) (e : EmittedForm) (emitted : IsEmittedOf h e) where
  function_told : (f : ℕ) (g : Graph) → slice_get h.unit.graphs f ≡ Some g → IsTold h (arranged emitted.statics emitted.coded) e f
  function_told f g is = by_laid (laid_at h emitted.statics 0 h.unit.graphs emitted.coded.all (let few : length h.unit.graphs ≤ 256 = valid.functions in omega (arith, few)) emitted.code.laid f g is)
    where
      by_laid : LaidAt h emitted.statics emitted.coded.all 0 f g → IsTold h (arranged emitted.statics emitted.coded) e f
      by_laid found =
          let here : 0 + f ≡ f = omega arith in
          let few : length h.unit.graphs ≤ 256 = valid.functions in
          let count : length emitted.coded.all ≡ length h.unit.graphs = laid_count h emitted.statics 0 h.unit.graphs emitted.coded.all emitted.code.laid in
          let graph : g ≡ graph_at h.unit f = sym (graph_is h.unit f g is) in
          let laid : IsDrawnOf emitted.statics (graph_at h.unit f) (homes_in h f) (f == h.unit.main) found.laid =
          subst (λ q. IsDrawnOf emitted.statics q (homes_in h f) (f == h.unit.main) found.laid) graph (subst (λ j. IsDrawnOf emitted.statics g (homes_in h j) (j == h.unit.main) found.laid) here found.is) in
          let ground : ground_for emitted.statics (graph_at h.unit f) (homes_in h f) found.laid ≡ ground_at h valid homed emitted.statics emitted.addresses (arranged emitted.statics emitted.coded) refl f =
          ground_is h valid homed emitted.statics emitted.addresses (arranged emitted.statics emitted.coded) refl f (slice_get_within h.unit.graphs f g is) (f == h.unit.main) found.laid laid in
          record {
            code = told_by (slice_index emitted.coded.firsts (0 + f)) (parameters_in h.unit.graphs (0 + f)) found.laid;
            is = ap (λ l. slice_get l f) emitted.functions ∙ told_there h.unit.graphs emitted.coded.firsts emitted.coded.all 0 f found.laid (omega (arith, few, count)) found.there;
            frame = ap (λ (q : Ground). q.size) ground;
            slots = ap (λ (q : Ground). q.storage.slots) ground;
            objects = ap (λ (q : Ground). q.storage.objects) ground;
          }

  -- What is told is where all stands as it was arranged.
  pub emitted_tells : Tells h (arranged emitted.statics emitted.coded) e
  emitted_tells = record {
    many = objects_many h.unit e.statics (emitted.objects ∙ emitted.addresses.objects);
    statics = have_all h.unit e.statics (emitted.objects ∙ emitted.addresses.objects);
    functions = function_told;
  }

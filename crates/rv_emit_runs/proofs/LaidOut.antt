-- A frame that is laid out as frames are has room for all that it is to have.
use Rattle.std.proofs.Common.{◌≡◌, ◌≢◌, ℕ, zero, suc, ◌+◌, ◌%◌, ◌<◌, ◌≤◌, ⊎_elim, inl, inr, sym, ap, ◌∙◌, subst, arith, refl, Some, List, [], ◌∷◌, length, slice_get, slice_index}
use Rattle.std.specs.List.{AllByRecursion}
use Rattle.std.proofs.lemmas.Bool.{cases_lt}
use Rattle.graph_core.specs.declared.graph.MemoryObject.{MemoryObject}
use Rattle.graph_core.specs.Graphs.{UnitForm}
use Rattle.graph_core.specs.Validity.{total, taken_by_object}
use Rattle.graph_homes.specs.Frames.{slots_start, objects_start, object_offsets, frame_size, saved}
use Rattle.graph_homes.specs.Homed.{IsHomeRegister, IsHomeAmong}
use Rattle.rv_emit_storage.specs.Storages.{home_at, object_at}
use Rattle.rv_emit_runs.specs.Waiting.{FunctionCode, IsFunctionCode, bytes_in}
use Rattle.rv_emit_runs.proofs.Saved.{saved_homes}

-- ---- Objects one behind the other

taken_whole : (m : MemoryObject) → (taken_by_object m % 4 ≡ 0) × (bytes_in m + 4 ≤ taken_by_object m)
taken_whole m = (omega arith, omega arith)

-- An object's offset is a multiple of 4 from the first one on, and what it takes ends before all that is taken.
pub record LiesAt (o : ℕ) (objects : List MemoryObject) (k : ℕ) (m : MemoryObject) : Type 0 where
  pub aligned : slice_index (object_offsets o objects) k % 4 ≡ 0
  pub low : o ≤ slice_index (object_offsets o objects) k
  pub high : slice_index (object_offsets o objects) k + taken_by_object m ≤ o + total taken_by_object objects

lies_at : (objects : List MemoryObject) (o k : ℕ) (m : MemoryObject) → o % 4 ≡ 0 → slice_get objects k ≡ Some m → LiesAt o objects k m
lies_at [] o k m aligned e = cc
lies_at (z ∷ objects) o zero m aligned e =
    let same : z ≡ m = cc in
    let size : taken_by_object z ≡ taken_by_object m = ap taken_by_object same in
    record { aligned = aligned; low = omega arith; high = omega (arith, size) }
lies_at (z ∷ objects) o (suc k) m aligned e =
    let whole = (taken_whole z).0 in
    let later : LiesAt (o + taken_by_object z) objects k m = lies_at objects (o + taken_by_object z) k m (omega (arith, aligned, whole)) e in
    let low = later.low in
    let high = later.high in
    record { aligned = later.aligned; low = omega (arith, low); high = omega (arith, high) }

lies_apart : (objects : List MemoryObject) (o j k : ℕ) (m n : MemoryObject) → o % 4 ≡ 0 → j < k → slice_get objects j ≡ Some m → slice_get objects k ≡ Some n → slice_index (object_offsets o objects) j + bytes_in m < slice_index (object_offsets o objects) k
lies_apart [] o j k m n aligned lt ej ek = cc
lies_apart (z ∷ objects) o j zero m n aligned lt ej ek = absurd (omega (arith, lt))
lies_apart (z ∷ objects) o zero (suc k) m n aligned lt ej ek =
    let same : z ≡ m = cc in
    let size : taken_by_object z ≡ taken_by_object m = ap taken_by_object same in
    let even = (taken_whole z).0 in
    let later : LiesAt (o + taken_by_object z) objects k n = lies_at objects (o + taken_by_object z) k n (omega (arith, aligned, even)) ek in
    let low = later.low in
    let room = (taken_whole m).1 in
    omega (arith, low, size, room)
lies_apart (z ∷ objects) o (suc j) (suc k) m n aligned lt ej ek =
    let even = (taken_whole z).0 in
    lies_apart objects (o + taken_by_object z) j k m n (omega (arith, aligned, even)) (omega (arith, lt)) ej ek

-- ---- The frame

-- A frame is laid out as frames are: its slots behind what it keeps, and its objects behind these. Each name has a home, which is a register or one of so many slots.
pub record IsLaidOut (f : FunctionCode) : Type 0 where
  pub kept : f.saved ≡ saved (home_at f.storage) f.graph
  pub slots : f.storage.slots ≡ slots_start (length f.saved)
  pub objects : f.storage.objects ≡ object_offsets (objects_start (length f.saved) f.slots) f.graph.objects
  pub size : f.size ≡ frame_size (length f.saved) f.slots f.graph.objects
  pub small : f.size ≤ 16384
  pub homes : (x : ℕ) → x < f.graph.name_count → IsHomeAmong f.slots (home_at f.storage x)

get_some : (xs : List MemoryObject) (n : ℕ) → n < length xs → (m : MemoryObject) × (slice_get xs n ≡ Some m)
get_some [] n low = absurd (omega (arith, low))
get_some (x ∷ xs) zero low = (x, refl)
get_some (x ∷ xs) (suc n) low = get_some xs n (omega (arith, low))

-- So it has room.
pub laid_out_is : (u : UnitForm) (f : FunctionCode) → IsLaidOut f → IsFunctionCode u f
laid_out_is u f laid =
    let start = laid.slots in
    let size = laid.size in
    record {
      storage = λ addresses held. record {
        homes = laid.homes;
        aligned = omega (arith, start);
        room = omega (arith, start, size);
        objects = λ k lt. object_within k (get_some f.graph.objects k lt);
      };
      kept = omega (arith, start);
      registers = subst (λ l. AllByRecursion IsHomeRegister l) (sym laid.kept) (saved_homes (home_at f.storage) f.graph);
      aligned = omega (arith, size);
      small = laid.small;
      objects = λ k m e.
          let at : object_at f.storage k ≡ slice_index (object_offsets (objects_start (length f.saved) f.slots) f.graph.objects) k = ap (λ l. slice_index l k) laid.objects in
          let lies : LiesAt (objects_start (length f.saved) f.slots) f.graph.objects k m = lies_at f.graph.objects (objects_start (length f.saved) f.slots) k m (omega arith) e in
          let low = lies.low in
          let high = lies.high in
          let room = (taken_whole m).1 in
          record { aligned = ap (λ a. a % 4) at ∙ lies.aligned; low = omega (arith, at, low, start); high = omega (arith, at, high, room, size) };
      apart = λ j k m n ne ej ek.
          let aj : object_at f.storage j ≡ slice_index (object_offsets (objects_start (length f.saved) f.slots) f.graph.objects) j = ap (λ l. slice_index l j) laid.objects in
          let ak : object_at f.storage k ≡ slice_index (object_offsets (objects_start (length f.saved) f.slots) f.graph.objects) k = ap (λ l. slice_index l k) laid.objects in
          ⊎_elim
          (λ (lt : j < k). let apart = lies_apart f.graph.objects (objects_start (length f.saved) f.slots) j k m n (omega arith) lt ej ek in inl (omega (arith, aj, ak, apart)))
          (λ (ge : k ≤ j). let other : j ≢ k = ne in let apart = lies_apart f.graph.objects (objects_start (length f.saved) f.slots) k j n m (omega arith) (omega (arith, ge, other)) ek ej in inr (omega (arith, aj, ak, apart)))
          (cases_lt j k);
    }
  where
    object_within : (k : ℕ) → (m : MemoryObject) × (slice_get f.graph.objects k ≡ Some m) → object_at f.storage k ≤ f.size
    object_within k (m, e) =
        let at : object_at f.storage k ≡ slice_index (object_offsets (objects_start (length f.saved) f.slots) f.graph.objects) k = ap (λ l. slice_index l k) laid.objects in
        let lies : LiesAt (objects_start (length f.saved) f.slots) f.graph.objects k m = lies_at f.graph.objects (objects_start (length f.saved) f.slots) k m (omega arith) e in
        let high = lies.high in
        let size = laid.size in
        omega (arith, at, high, size)

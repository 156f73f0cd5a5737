-- Each parameter that is a scalar has a word that writes its home, of the entry's place.
use Rattle.std.proofs.Common.{◌≡◌, ℕ, zero, suc, ◌+◌, ◌-◌, ◌%◌, ◌<◌, ◌≤◌, ⊎_elim, ◌==◌, Bool, false, Some, List, [], ◌∷◌, ◌++◌, length, slice_get, refl, sym, ap, ◌∙◌, subst, arith, append_assoc}
use Rattle.std.proofs.lemmas.Bool.{cases_lt}
use Rattle.std.proofs.lemmas.List.{length-append}
use Rattle.std.proofs.lemmas.Option.{slice_get_within}
use Rattle.rv_code.specs.Encoding.{encoded}
use Rattle.rv_code.proofs.RoundTrip.{decoded_encoded}
use Rattle.rv_code.specs.declared.instruction.Instruction.{Instruction}
use Rattle.graph_core.specs.Graphs.{Binding, ToScalar, Graph}
use Rattle.graph_homes.specs.Homed.{HomedForm, home_of}
use Rattle.rv_emit_tables.specs.Emitted.{EmittedForm}
use Rattle.rv_emit_words.specs.declared.piece.PlacedPiece.{PlacedPiece}
use Rattle.rv_emit_storage.specs.Storages.{StorageForm, home_at}
use Rattle.rv_emit_instructions.specs.Calls.{argument_register}
use Rattle.rv_emit_code.specs.Beginning.{base_code, beginning_code, binding_code, bindings_code, entering_code, guard_code, with_beginning}
use Rattle.rv_emit_code.specs.Blocks.{no_code}
use Rattle.rv_emit_code.specs.Ends.{words}
use Rattle.rv_emit_steps.specs.Programs.{Program, IsAt}
use Rattle.rv_emit_runs.specs.Pieces.{Targets, PiecesAt}
use Rattle.rv_emit_runs.specs.Placed.{PlacedAt}
use Rattle.rv_emit_runs.proofs.Grown.{beginning_there}
use Rattle.rv_emit_runs.specs.Laid.{code_of, program_of, targets_in, IsCode}
use Rattle.rv_emit_runs.proofs.Frames.{graph_is}
use Rattle.rv_emit_runs.specs.Writing.{AreSpelledAt, EndsWriting, HasBinder, HaveBinders}
use Rattle.rv_emit_runs.proofs.Owners.{AreOwned, first_owned}
use Rattle.rv_emit_runs.proofs.Writers.{writing_some}
use Rattle.rv_emit_runs.proofs.Writing.{home_is_written}

-- ---- Words

-- Words stand as they are spelled.
record Spelled (p : Program) (i j : ℕ) (code : List Instruction) : Type 0 where
  pub there : AreSpelledAt p.words i code
  pub is : j ≡ i + length code

words_spelled : (p : Program) (t : Targets) (i j : ℕ) (b : Bool) (code : List Instruction) → PiecesAt p t i b (words code) j → Spelled p i j code
words_spelled p t i j b [] there = record { there = tt; is = omega (arith, there) }
words_spelled p t i j b (x ∷ more) (m, at, rest) =
    let word : IsAt p i b x = at.0 in
    let next : m ≡ i + 1 = at.1 in
    let later : Spelled p m j more = words_spelled p t m j false more rest in
    let many = later.is in
    record { there = ((encoded x, word.there, decoded_encoded x word.in_form), subst (λ n. AreSpelledAt p.words n more) next later.there); is = omega (arith, many, next) }

front_spelled : (w : List ℕ) (i : ℕ) (xs ys : List Instruction) → AreSpelledAt w i (xs ++ ys) → AreSpelledAt w i xs × AreSpelledAt w (i + length xs) ys
front_spelled w i [] ys all = (tt, subst (λ n. AreSpelledAt w n ys) (none i) all)
  where
    none : (n : ℕ) → n ≡ n + 0
    none n = omega arith
front_spelled w i (x ∷ xs) ys all =
    let later = front_spelled w (i + 1) xs ys all.1 in
    ((all.0, later.0), subst (λ n. AreSpelledAt w n ys) (next i (length xs)) later.1)
  where
    next : (n m : ℕ) → n + 1 + m ≡ n + suc m
    next n m = omega arith

-- Words of pieces that all belong to one place belong to it.
all_of : (p : Program) (t : Targets) (place i j : ℕ) (pieces : List PlacedPiece) → AreOwned (λ o. o ≡ place) pieces → PlacedAt p t i pieces j → (m : ℕ) → i ≤ m → m < j → t.owner m ≡ place
all_of p t place i j [] own there m low high = absurd (omega (arith, low, high, there))
all_of p t place i j (x ∷ more) own (k, at, of, rest) m low high = ⊎_elim (λ (lt : m < k). of m low lt ∙ own.0) (λ (ge : k ≤ m). all_of p t place k j more own.1 rest m ge high) (cases_lt m k)

-- ---- Parameters

-- The code of a parameter stands among that of all.
record BindingAmong (g : StorageForm) (f : Graph) (code : List Instruction) (b : Binding) : Type 0 where
  pub front : List Instruction
  pub number : ℕ
  pub back : List Instruction
  pub is : code ≡ front ++ (binding_code g f (argument_register number) b ++ back)

binding_among : (g : StorageForm) (f : Graph) (n : ℕ) (all : List Binding) (k : ℕ) (b : Binding) → slice_get all k ≡ Some b → BindingAmong g f (bindings_code g f n all) b
binding_among g f n [] k b at = cc
binding_among g f n (x ∷ more) zero b at =
    let same : x ≡ b = cc in
    record { front = []; number = n; back = bindings_code g f ((n + 1) % 4294967296) more; is = ap (λ y. binding_code g f (argument_register n) y ++ bindings_code g f ((n + 1) % 4294967296) more) same }
binding_among g f n (x ∷ more) (suc k) b at =
    let later : BindingAmong g f (bindings_code g f ((n + 1) % 4294967296) more) b = binding_among g f ((n + 1) % 4294967296) more k b at in
    record {
      front = binding_code g f (argument_register n) x ++ later.front;
      number = later.number;
      back = later.back;
      is = ap (λ l. binding_code g f (argument_register n) x ++ l) later.is ∙ sym (append_assoc (binding_code g f (argument_register n) x) later.front (binding_code g f (argument_register later.number) b ++ later.back));
    }

-- ---- All of them

module _ (h : HomedForm) (e : EmittedForm) (code : IsCode h e) where
  binder : (f k x : ℕ) → f < length h.unit.graphs → slice_get (code_of h code.arrangement f).graph.parameters k ≡ Some (ToScalar x) → HasBinder h code.arrangement e f (code_of h code.arrangement f).graph.entry (home_of h f x)
  binder f k x low at =
      let p : Program = program_of e code.short in
      let t : Targets = targets_in e code.arrangement f in
      let s : StorageForm = (code_of h code.arrangement f).storage in
      let g : Graph = (code_of h code.arrangement f).graph in
      let saved : List ℕ = (code_of h code.arrangement f).saved in
      let size : ℕ = (code_of h code.arrangement f).size in
      let main : Bool = f == h.unit.main in
      let i : ℕ = code.arrangement.function f in
      let j : ℕ = code.arrangement.label f 0 in
      let placed : PlacedAt p t i (with_beginning s g saved size main (no_code g.entry [])).pieces j = (code.functions f low).begins in
      let spelled : Spelled p i j (beginning_code s g saved size main) = words_spelled p t i j false (beginning_code s g saved size main) (beginning_there s g saved size main (no_code g.entry []) refl p t i j placed) in
      let front : List Instruction = guard_code ++ entering_code saved size ++ base_code main s.base in
      let whole : beginning_code s g saved size main ≡ front ++ bindings_code s g 0 g.parameters =
      sym (append_assoc guard_code (entering_code saved size ++ base_code main s.base) (bindings_code s g 0 g.parameters)) ∙ ap (λ l. l ++ bindings_code s g 0 g.parameters) (sym (append_assoc guard_code (entering_code saved size) (base_code main s.base))) in
      let among : BindingAmong s g (bindings_code s g 0 g.parameters) (ToScalar x) = binding_among s g 0 g.parameters k (ToScalar x) at in
      let mine : List Instruction = binding_code s g (argument_register among.number) (ToScalar x) in
      let ends : EndsWriting s (home_at s x) mine = home_is_written s (home_at s x) (argument_register among.number) in
      let parts : beginning_code s g saved size main ≡ (front ++ among.front) ++ (mine ++ among.back) = whole ∙ ap (λ l. front ++ l) among.is ∙ sym (append_assoc front among.front (mine ++ among.back)) in
      let behind = (front_spelled p.words i (front ++ among.front) (mine ++ among.back) (subst (λ l. AreSpelledAt p.words i l) parts spelled.there)).1 in
      let from : ℕ = i + length (front ++ among.front) in
      let here : AreSpelledAt p.words from mine = (front_spelled p.words from mine among.back behind).0 in
      let last : AreSpelledAt p.words (from + length ends.before) ends.last = (front_spelled p.words from ends.before ends.last (subst (λ l. AreSpelledAt p.words from l) ends.is here)).1 in
      let some : 1 ≤ length ends.last = writing_some s (home_at s x) ends.last ends.writes in
      let many : j ≡ i + length (beginning_code s g saved size main) = spelled.is in
      let total = ap (λ (l : List Instruction). length l) parts ∙ length-append (front ++ among.front) (mine ++ among.back) in
      let inner = length-append mine among.back in
      let both = ap (λ (l : List Instruction). length l) ends.is ∙ length-append ends.before ends.last in
      record {
        index = from + length ends.before + length ends.last - 1;
        within = omega (arith, some);
        writes = record { from = from + length ends.before; last = ends.last; there = last; writes = ends.writes; is = omega (arith, some) };
        owner = all_of p t g.entry i j (with_beginning s g saved size main (no_code g.entry [])).pieces
            (first_owned (λ o. o ≡ g.entry) (record { storage = s; entry = g.entry; saved = saved; size = size; end = 0 }) g main refl) placed (from + length ends.before + length ends.last - 1) (omega (arith, some)) (omega (arith, some, many, total, inner, both));
      }

  -- Each scalar that is a parameter has its binder.
  pub code_binds : HaveBinders h code.arrangement e
  code_binds f g at k x parameter =
      let low : f < length h.unit.graphs = slice_get_within h.unit.graphs f g at in
      let same : g ≡ (code_of h code.arrangement f).graph = sym (graph_is h.unit f g at) in
      subst (λ (q : Graph). HasBinder h code.arrangement e f q.entry (home_of h f x)) (sym same) (binder f k x low (subst (λ (q : Graph). slice_get q.parameters k ≡ Some (ToScalar x)) same parameter))

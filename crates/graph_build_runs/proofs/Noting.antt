-- A scalar that was written is noted, where the source writes its object.
use Rattle.std.proofs.Common.{◌≡◌, ◌≢◌, ℕ, zero, suc, ◌+◌, ◌/◌, ◌<◌, ◌≤◌, ◌⊎◌, inl, inr, List, [], ◌∷◌, length, Option, Some, None, Bool, true, false, slice_get, slice_set, refl, sym, ap, ◌∙◌, subst, arith}
use Rattle.std.specs.Prelude.{◌==◌, if◌then◌else◌}
use Rattle.std.proofs.lemmas.Bool.{cases_eq}
use Rattle.std.proofs.lemmas.List.{length-set}
use Rattle.std.proofs.lemmas.Bool.Decides.{nat_tests}
use Rattle.word_base.specs.Owners.{Owner, Variable}
use Rattle.c_tree.specs.Programs.{AutomaticTree, ProgramTree}
use Rattle.c_meaning_values.specs.declared.value.Value as source-value
use Rattle.c_meaning_values.specs.declared.value.Value.TheVariants as source
use Rattle.c_meaning_values.specs.declared.value.Phase.{Phase}
use Rattle.c_meaning_values.specs.declared.value.Phase.TheVariants.{Live, Ended}
use Rattle.c_meaning_values.specs.Types.{value_count}
use Rattle.c_meaning_values.specs.Memory.{Object as SourceObject, Memory as SourceMemory}
use Rattle.c_meaning_steps.specs.States.{State}
use Rattle.graph_core.specs.declared.value.Value.{Value}
use Rattle.graph_core.specs.declared.value.Value.TheVariants.{Number, Pointer, Odd}
use Rattle.graph_core.specs.declared.value.Shadow.{Shadow}
use Rattle.graph_core.specs.declared.value.Shadow.TheVariants.{Known}
use Rattle.graph_core.specs.Memory.{Memory, bytes_of}
use Rattle.graph_core.specs.Runs.{Activation, with_value_at}
use Rattle.graph_core.specs.Values.{is_odd}
use Rattle.graph_build_names.specs.Names.{Names, names_of, scalar_of}
use Rattle.graph_build_runs.specs.Typed.{OwnersDiffer}
use Rattle.graph_build_runs.specs.Correspondence.{SameObject, SamePointer, points, ended, SameValue, SameValues, IsInMemory}
use Rattle.graph_build_runs.proofs.Leads.{Setting, names_in, depth_in, Local, World, put_here, put_elsewhere, same_number}
use Rattle.graph_build_runs.proofs.Later.{get_set, Onward, live_open, Later, later_changed, OthersLater, others_refl, value_later, values_later}
use Rattle.graph_build_runs.proofs.Kept.{is_want, ScalarIs, ObjectIs, Own, Waits, Outer, Placed, ArePlaced, Fits}

-- a value that corresponds to one of the source is known
pub known_value : (p : ProgramTree) (memory : SourceMemory) (others : Memory) (v : source-value.Value) (w : Value) → SameValue p memory others v w → is_odd w ≡ false
known_value p memory others (source.Number z) w same = ap is_odd same
known_value p memory others source.Null w same = ap is_odd same
known_value p memory others (source.Pointer n offset) w (points o is begun inside m q at object within e) = ap is_odd e
known_value p memory others (source.Pointer n offset) w (ended o is over known) = go w known
  where
    go : (w : Value) → w ≢ Odd → is_odd w ≡ false
    go (Number k) ne = refl
    go (Pointer m size k) ne = refl
    go Odd ne = absurd (ne refl)

-- two names are two numbers
pub other_number : (j k : ℕ) → j ≢ k → j == k ≡ false
other_number j k ne = grind (arith, nat_tests, ne)

-- scalars have names of their own, are not in memory, and hold one value
pub record ScalarsApart (x : Setting) : Type 0 where
  pub one : (v w k : ℕ) → scalar_of (names_in x) v ≡ Some k → scalar_of (names_in x) w ≡ Some k → v ≡ w
  pub outside : (v k : ℕ) (a : AutomaticTree) → scalar_of (names_in x) v ≡ Some k → slice_get x.program.automatics v ≡ Some a → a.in_memory ≡ false
  pub single : (v k : ℕ) (a : AutomaticTree) → scalar_of (names_in x) v ≡ Some k → slice_get x.program.automatics v ≡ Some a → value_count a.of ≡ 1

-- A scalar is as it was, in memories that went on, where its object is.
pub scalar_later : (p : ProgramTree) (memory after : SourceMemory) (others others_after : Memory) → Later memory after → OthersLater others others_after
    → (want : Option ℕ) (o : SourceObject) (k : ℕ) (names : ℕ → Value) (shadows : ℕ → Shadow) → ScalarIs p memory others want o k names shadows → ScalarIs p after others_after want o k names shadows
scalar_later p memory after others others_after later others_later want o k names shadows c = record {
  value = c.value;
  holds = c.holds;
  named = λ h. value_later p memory after others others_after later others_later c.value (names k) (c.named h);
  word = c.word;
  known = c.known;
  same = value_later p memory after others others_after later others_later c.value c.word c.same;
}

-- an object in memory is as it was
pub object_stays : (p : ProgramTree) (others others_after : Memory) → OthersLater others others_after → (v depth n : ℕ) (a : AutomaticTree) → ObjectIs p others v depth n a → ObjectIs p others_after v depth n a
object_stays p others others_after others_later v depth n a c =
    let b = others_later n c.object c.is in
    record { object = b.object; is = b.is; owner = b.owner ∙ c.owner; lives = b.live ∙ c.lives; element = b.element ∙ c.element; count = b.count ∙ c.count }

-- an activation is as it was, where its scalars' objects are
pub own_later : (p : ProgramTree) (n : Names) (want : Option ℕ) (memory after : SourceMemory) (others others_after : Memory) (depth first : ℕ) (names : ℕ → Value) (shadows : ℕ → Shadow) → Later memory after → OthersLater others others_after
    → ((v k m : ℕ) (o : SourceObject) → scalar_of n v ≡ Some k → slice_get after m ≡ Some o → o.owner ≡ Variable v depth → slice_get memory m ≡ Some o)
    → Own p n want memory others depth first names shadows → Own p n want after others_after depth first names shadows
own_later p n want memory after others others_after depth first names shadows later others_later keeps own = record {
  scalars = λ v k m o is at owner live.
      scalar_later p memory after others others_after later others_later want o k names shadows (own.scalars v k m o is (keeps v k m o is at owner) owner live);
  objects = λ v k a is at. object_stays p others others_after others_later v depth (first + k) a (own.objects v k a is at);
}

-- so are those that wait
pub outer_later : (p : ProgramTree) (memory after : SourceMemory) (others others_after : Memory) → Later memory after → OthersLater others others_after → (waiting : List Activation)
    → ((depth : ℕ) (n : Names) (v k m : ℕ) (o : SourceObject) → depth ≤ length waiting → slice_get after m ≡ Some o → o.owner ≡ Variable v depth → slice_get memory m ≡ Some o)
    → Outer p memory others waiting → Outer p after others_after waiting
outer_later p memory after others others_after later others_later [] keeps outer = tt
outer_later p memory after others others_after later others_later (a ∷ more) keeps outer =
    let c = outer.0 in (
      record {
        tree = c.tree;
        is = c.is;
        own =
            own_later p (names_of p c.tree false) None memory after others others_after (length more + 1) a.first_object a.names a.shadows later others_later
            (λ v k m o is at owner. keeps (length more + 1) (names_of p c.tree false) v k m o (omega arith) at owner) c.own;
      },
      outer_later p memory after others others_after later others_later more (λ depth n v k m o le at owner. keeps depth n v k m o (omega (arith, le)) at owner) outer.1,
    )

pub placed_later : (p : ProgramTree) (memory after : SourceMemory) (others others_after : Memory) → Later memory after → OthersLater others others_after → (o : SourceObject)
    → ((c : Placed p memory others o) → slice_get others_after c.number ≡ Some c.object) → Placed p memory others o → Placed p after others_after o
placed_later p memory after others others_after later others_later o stays c =
    record { number = c.number; object = c.object; is = stays c; same = c.same; values = λ live. values_later p memory after others others_after later others_later o.values c.object.values (c.values live) }

-- one value in the place of one
one_value : (vs : List source-value.Value) (v : source-value.Value) → length vs ≡ 1 → slice_set vs 0 v ≡ v ∷ []
one_value [] v e = absurd (omega (arith, e))
one_value (u ∷ []) v e = refl
one_value (u ∷ w ∷ more) v e = absurd (omega (arith, e))

depths_differ : {a b d e : ℕ} → Variable a d ≡ Variable b e → d ≡ e
depths_differ h = cc

variables_same : {a b d e : ℕ} → Variable a d ≡ Variable b e → a ≡ b
variables_same h = cc

-- The object of a scalar takes a value that its name has, and its shadow says so. It may come to live.
module _ (x : Setting) (y k m : ℕ) (o : SourceObject) (v : source-value.Value) (phase : Phase) (goes_on : Onward o.phase phase) (s : State) (l : Local) (w : World) (apart : ScalarsApart x) (named : scalar_of (names_in x) y ≡ Some k)
    (at : slice_get s.memory m ≡ Some o) (owner : o.owner ≡ Variable y (depth_in x)) (begun : o.phase ≢ Ended) (one : length o.values ≡ 1) (differ : OwnersDiffer s.memory) where
  later : Later s.memory (slice_set s.memory m (record o { values = slice_set o.values 0 v; phase = phase }))
  later = later_changed s.memory m o (record o { values = slice_set o.values 0 v; phase = phase }) at refl refl goes_on (length-set o.values 0 v)

  -- an object that is another one's is as it was
  elsewhere : (n : ℕ) (q : SourceObject) → slice_get (slice_set s.memory m (record o { values = slice_set o.values 0 v; phase = phase })) n ≡ Some q → q.owner ≢ Variable y (depth_in x) → slice_get s.memory n ≡ Some q
  elsewhere n q is ne = elim (get_set s.memory m n (record o { values = slice_set o.values 0 v; phase = phase }) q is) [
    | inl both ↦ absurd (ne (ap (λ z. z.owner) both.1 ∙ owner))
    | inr both ↦ both.1
  ]

  scalar_noted : Fits x (Some k) s l w → SameValue x.program s.memory w.memory v (l.names k) → (u j n : ℕ) (q : SourceObject) → scalar_of (names_in x) u ≡ Some j
      → slice_get (slice_set s.memory m (record o { values = slice_set o.values 0 v; phase = phase })) n ≡ Some q → q.owner ≡ Variable u (depth_in x) → q.phase ≡ Live
      → ScalarIs x.program (slice_set s.memory m (record o { values = slice_set o.values 0 v; phase = phase })) w.memory None q j l.names (with_value_at l.shadows k (Known (l.names k)))
  scalar_noted f same u j n q is found mine live = elim (get_set s.memory m n (record o { values = slice_set o.values 0 v; phase = phase }) q found) [
    | inl both ↦
        let kept : SameValue x.program (slice_set s.memory m (record o { values = slice_set o.values 0 v; phase = phase })) w.memory v (l.names k) =
        value_later x.program s.memory (slice_set s.memory m (record o { values = slice_set o.values 0 v; phase = phase })) w.memory w.memory later (others_refl w.memory) v (l.names k) same in
        let us : u ≡ y = variables_same (sym mine ∙ ap (λ z. z.owner) both.1 ∙ owner) in
        let ks : k ≡ j = names_same (sym named ∙ ap (scalar_of (names_in x)) (sym us) ∙ is) in
        let named_now : SameValue x.program (slice_set s.memory m (record o { values = slice_set o.values 0 v; phase = phase })) w.memory v (l.names j) =
        subst (λ i. SameValue x.program (slice_set s.memory m (record o { values = slice_set o.values 0 v; phase = phase })) w.memory v (l.names i)) ks kept in
        record {
          value = v;
          holds = ap (λ z. z.values) both.1 ∙ one_value o.values v one;
          named = λ h. named_now;
          word = l.names k;
          known = ap (with_value_at l.shadows k (Known (l.names k))) (sym ks) ∙ put_here l.shadows k (Known (l.names k));
          same = kept;
        }
    | inr both ↦
        let c = f.own.scalars u j n q is both.1 mine live in
        let ne : j ≢ k = λ e. both.0 (differ n m q o both.1 at (λ over. begun_not_ended (sym live ∙ over)) begun (mine ∙ ap (λ i. Variable i (depth_in x)) (apart.one u y k (is ∙ ap Some e) named) ∙ sym owner)) in
        record {
          value = c.value;
          holds = c.holds;
          named = λ h. value_later x.program s.memory (slice_set s.memory m (record o { values = slice_set o.values 0 v; phase = phase })) w.memory w.memory later (others_refl w.memory) c.value (l.names j) (c.named (other_number j k ne));
          word = c.word;
          known = put_elsewhere l.shadows k j (Known (l.names k)) (other_number j k ne) ∙ c.known;
          same = value_later x.program s.memory (slice_set s.memory m (record o { values = slice_set o.values 0 v; phase = phase })) w.memory w.memory later (others_refl w.memory) c.value c.word c.same;
        }
  ]
    where
      names_same : {a b : ℕ} → Some a ≡ Some b → a ≡ b
      names_same h = cc

      begun_not_ended : Live ≡ Ended → ⊥
      begun_not_ended h = cc

  pub fits_written : Fits x (Some k) s l w → SameValue x.program s.memory w.memory v (l.names k)
      → Fits x None (record s { memory = slice_set s.memory m (record o { values = slice_set o.values 0 v; phase = phase }) }) (record l { shadows = with_value_at l.shadows k (Known (l.names k)) }) w
  fits_written f same = record {
    own = record { scalars = scalar_noted f same; objects = f.own.objects };
    outer = outer_later x.program s.memory (slice_set s.memory m (record o { values = slice_set o.values 0 v; phase = phase })) w.memory w.memory later (others_refl w.memory) x.waiting
        (λ depth n u j i q le found mine. elsewhere i q found (λ e. deeper depth le (depths_differ (sym mine ∙ e)))) f.outer;
    placed = λ n q found alive inside.
        (let old = elsewhere n q found (λ e. in_no_memory (subst (IsInMemory x.program) e inside)) in
        placed_later x.program s.memory (slice_set s.memory m (record o { values = slice_set o.values 0 v; phase = phase })) w.memory w.memory later (others_refl w.memory) q (λ c. c.is) (f.placed n q old alive inside));
    differ = f.differ;
    above = f.above;
    later = f.later;
    statics = f.statics;
    input = f.input;
    events = f.events;
  }
    where
      deeper : (depth : ℕ) → depth ≤ length x.waiting → depth ≡ length x.waiting + 1 → ⊥
      deeper depth le e = omega (arith, le, e)

      in_no_memory : IsInMemory x.program (Variable y (depth_in x)) → ⊥
      in_no_memory inside = let no = apart.outside y k inside.0 named inside.1 in let yes = inside.2 in cc

-- The object is written, and lives.
pub fits_noted : (x : Setting) (y k m : ℕ) (o : SourceObject) (v : source-value.Value) (s : State) (l : Local) (w : World) → ScalarsApart x → scalar_of (names_in x) y ≡ Some k → slice_get s.memory m ≡ Some o → o.owner ≡ Variable y (depth_in x) → o.phase ≢ Ended → length o.values ≡ 1 → OwnersDiffer s.memory
    → Fits x (Some k) s l w → SameValue x.program s.memory w.memory v (l.names k)
    → Fits x None (record s { memory = slice_set s.memory m (record o { values = slice_set o.values 0 v; phase = Live }) }) (record l { shadows = with_value_at l.shadows k (Known (l.names k)) }) w
fits_noted x y k m o v s l w apart named at owner alive one differ f same = fits_written x y k m o v Live (live_open o.phase alive) s l w apart named at owner alive one differ f same

-- A scalar's value changes, and is noted.
use Rattle.std.proofs.Common.{◌≡◌, ◌≢◌, ℕ, ◌<◌, ◌≤◌, List, ◌∷◌, length, Option, Some, None, Bool, true, false, slice_get, slice_set, refl, sym, ap, ◌∙◌, subst, arith}
use Rattle.std.specs.Prelude.{◌==◌, if◌then◌else◌, option_map, option_and_then}
use Rattle.std.proofs.lemmas.Bool.{eqb-true}
use Rattle.std.proofs.lemmas.Bool.Decides.{nat_tests}
use Rattle.word_base.specs.Owners.{Variable}
use Rattle.c_tree.specs.declared.object_type.ObjectType.{ObjectType}
use Rattle.c_tree.specs.declared.object_type.ValueType.{ValueType}
use Rattle.c_tree.specs.declared.object_type.Object.TheVariants as object
use Rattle.c_tree.specs.TypedExpressions.{Named}
use Rattle.c_type_rules.specs.Types.{loaded_type}
use Rattle.c_meaning_values.specs.declared.value.Value as source-value
use Rattle.c_meaning_values.specs.declared.value.Value.TheVariants as source
use Rattle.c_meaning_values.specs.declared.value.Phase.TheVariants.{Live, Ended}
use Rattle.c_meaning_values.specs.Memory.{Object as SourceObject, Memory as SourceMemory, is_usable, is_begun, is_writable, object_of, value_in as value_at, written_in, index_at, set_value, begun}
use Rattle.c_meaning_steps.specs.declared.event.Ending.TheVariants as ending
use Rattle.c_meaning_steps.specs.States.{State, Evaluated, Gives, Ends, value_or_undefined, with, usable, Both, Pair, NoPair}
use Rattle.c_meaning.specs.Expressions.{Calls, designate}
use Rattle.c_meaning_steps.specs.Steps.{store, value_stored, left_side_read, read_by}
use Rattle.graph_core.specs.declared.value.Value.{Value}
use Rattle.graph_core.specs.declared.value.Shadow.TheVariants.{Known}
use Rattle.graph_core.specs.Graphs.{Operand, Name, Instruction, Note, Is, Of, End}
use Rattle.graph_core.specs.Runs.{Goes, Wild, with_value_at, step, value}
use Rattle.graph_core.specs.Values.{is_odd}
use Rattle.graph_build_names.specs.Names.{scalar_of}
use Rattle.graph_build_steps.specs.Drafts.{Made, note}
use Rattle.graph_build_steps.specs.declared.change.Change as declared-change
use Rattle.graph_build_steps.specs.Steps.{changed}
use Rattle.graph_build_runs.specs.Typed.{IsOf}
use Rattle.graph_build_runs.specs.Correspondence.{SameValue}
use Rattle.graph_build_runs.specs.Stops.{IsDeclared}
use Rattle.graph_build_runs.proofs.Leads.{Setting, names_in, size_in, depth_in, Local, World, set_name, at, stays, goes, then_leads, put_here, put_elsewhere, less_other}
use Rattle.graph_build_runs.proofs.Later.{Later, later_written, written_is, others_refl, value_later}
use Rattle.graph_build_runs.proofs.Kept.{is_want, Sound, Fits, ScalarsFirst, fits_local, fits_wanted}
use Rattle.graph_build_runs.proofs.Results.{Passes}
use Rattle.graph_build_runs.proofs.Noting.{ScalarsApart, known_value, fits_noted}
use Rattle.graph_build_runs.proofs.Objects.{first_index, owned_at, begun_live}
use Rattle.graph_build_runs.proofs.Operands.{IsBelow}
use Rattle.graph_build_runs.proofs.Scalars.{one_typed}
use Rattle.graph_build_runs.proofs.Renewing.{Changes}

-- what is kept of an activation's names stays where scalars' names agree, but for one that is excepted
pub fits_agree : (x : Setting) (want other : Option ℕ) (s : State) (l m : Local) (w : World) → Fits x want s l w → m.shadows ≡ l.shadows → ((v k : ℕ) → scalar_of (names_in x) v ≡ Some k → is_want other k ≡ false → (is_want want k ≡ false) × (m.names k ≡ l.names k)) → Fits x other s m w
fits_agree x want other s l m w f shadows agree =
    fits_local x want other s l m w f (record {
      scalars = λ v k i o is at owner live. (let c = f.own.scalars v k i o is at owner live in
          record {
            value = c.value;
            holds = c.holds;
            named = λ h. (let a = agree v k is h in subst (SameValue x.program s.memory w.memory c.value) (sym a.1) (c.named a.0));
            word = c.word;
            known = ap (λ q. q k) shadows ∙ c.known;
            same = c.same;
          });
      objects = f.own.objects;
    })

-- a name's shadow says its value
abbrev pub noted_in : Local → ℕ → Local
noted_in l k = record l { shadows = with_value_at l.shadows k (Known (l.names k)) }

note_step : (x : Setting) (k : ℕ) (ops : List Instruction) (end : End) (l : Local) (w : World) → is_odd (l.names k) ≡ false → step x.unit (at x (Note k (Is (Of (Name k))) ∷ ops) end l w) ≡ Goes (at x ops end (noted_in l k) w)
note_step x k ops end l w known = ap (λ b. if b then Wild else Goes (at x ops end (noted_in l k) w)) known

-- What a write of a scalar's object comes to, where its name has the value: the shadow is to say so.
pub record NotedAs (x : Setting) (k : ℕ) (s : State) (l : Local) (w : World) (u : source-value.Value) (after : SourceMemory) : Type 0 where
  pub fits : Fits x None (record s { memory = after }) (noted_in l k) w
  pub later : Later s.memory after
  pub same : SameValue x.program after w.memory u (l.names k)

-- the object of a scalar, which has not ended
pub record ScalarObject (x : Setting) (v : ℕ) (memory : SourceMemory) (n : ℕ) : Type 0 where
  pub object : SourceObject
  pub is : slice_get memory n ≡ Some object
  pub owner : object.owner ≡ Variable v (depth_in x)
  pub alive : object.phase ≢ Ended

pub scalar_later : (x : Setting) (v : ℕ) (memory after : SourceMemory) (n : ℕ) → Later memory after → ScalarObject x v memory n → ScalarObject x v after n
scalar_later x v memory after n later o =
    let c = later n o.object o.is in record { object = c.object; is = c.is; owner = c.owner ∙ o.owner; alive = λ over. o.alive (c.phase.open_before over) }

module _ (x : Setting) (apart : ScalarsApart x) (v k : ℕ) (named_by : scalar_of (names_in x) v ≡ Some k) where
  -- A scalar's object is written: nothing is defined, or its name is to be noted.
  pub note_cases : (n : ℕ) (u : source-value.Value) (s : State) (l : Local) (w : World) → Sound x.program x.begun s → Fits x (Some k) s l w → ScalarObject x v s.memory n → SameValue x.program s.memory w.memory u (l.names k) → (R : Evaluated → Type 0) → R (Ends ending.Undefined s)
      → ((after : SourceMemory) → NotedAs x k s l w u after → R (Gives u (record s { memory = after }))) → R (store (source.Pointer n 0) u s)
  note_cases n u s l w sound f o same R undefined next =
      subst (λ q. R (value_stored (option_and_then (written_in s.memory n 0 u) q) u s)) (sym o.is) (by_way (is_writable o.object 0))
    where
      after : SourceMemory
      after = slice_set s.memory n (record o.object { values = slice_set o.object.values 0 u; phase = Live })

      written : begun (set_value s.memory n (index_at o.object 0) u) n ≡ slice_set s.memory n (record o.object { values = slice_set o.object.values 0 u; phase = Live })
      written = ap (λ i. begun (set_value s.memory n i u) n) (first_index o.object.element) ∙ written_is s.memory n 0 o.object u o.is

      by_way : (b : Bool) → R (value_stored (if b then Some (begun (set_value s.memory n (index_at o.object 0) u) n) else None) u s)
      by_way false = undefined
      by_way true =
          let a = subst (λ q. IsDeclared x.program q o.object) o.owner (sound.declared n o.object o.is) in
          let one : length o.object.values ≡ 1 = a.3 ∙ apart.single v k a.0 named_by a.1 in
          let later = later_written s.memory n 0 o.object u o.is o.alive in
          subst (λ m. R (Gives u (record s { memory = m }))) (sym written)
          (next (slice_set s.memory n (record o.object { values = slice_set o.object.values 0 u; phase = Live }))
          (record {
            fits = fits_noted x v k n o.object u s l w apart named_by o.is o.owner o.alive one sound.differ f same;
            later = later;
            same = value_later x.program s.memory (slice_set s.memory n (record o.object { values = slice_set o.object.values 0 u; phase = Live })) w.memory w.memory later (others_refl w.memory) u (l.names k) same;
          }))

  -- A scalar is designated and read: nothing is defined, or its name has the value.
  pub located_cases : (calls : Calls) (of : ObjectType) (s : State) (l : Local) (w : World) → Sound x.program x.begun s → Fits x None s l w → (R : Both → Type 0) → R (NoPair ending.Undefined s)
      → ((n : ℕ) (u : source-value.Value) (o : ScalarObject x v s.memory n) → SameValue x.program s.memory w.memory u (l.names k) → IsOf s.memory (loaded_type o.object.element) u → R (Pair (source.Pointer n 0) u s))
      → R (left_side_read (designate calls (depth_in x) (Named (object.Automatic v) of) s))
  located_cases calls of s l w sound f R undefined next = found_by (object_of (Variable v (depth_in x)) s.memory) refl
    where
      used : (n : ℕ) (u : source-value.Value) (o : ScalarObject x v s.memory n) → SameValue x.program s.memory w.memory u (l.names k) → IsOf s.memory (loaded_type o.object.element) u → (b : Bool) → R (read_by (source.Pointer n 0) (if b then Gives u s else Ends ending.Undefined s))
      used n u o same is true = next n u o same is
      used n u o same is false = undefined

      reads : (n : ℕ) (o : ScalarObject x v s.memory n) → (b : Bool) → is_begun o.object.phase ≡ b → R (read_by (source.Pointer n 0) (with (value_or_undefined (if b then slice_get o.object.values (index_at o.object 0) else None) s) usable))
      reads n o false e = undefined
      reads n o true e =
          let c = f.own.scalars v k n o.object named_by o.is o.owner (begun_live o.object.phase e) in
          let found : slice_get o.object.values (index_at o.object 0) ≡ Some c.value = ap (slice_get o.object.values) (first_index o.object.element) ∙ ap (λ vs. slice_get vs 0) c.holds in
          subst (λ r. R (read_by (source.Pointer n 0) (with (value_or_undefined r s) usable))) (sym found)
          (used n c.value o (c.named refl) (one_typed s.memory o.object c.value c.holds (sound.typed n o.object o.is)) (is_usable s.memory c.value))

      found_by : (r : Option ℕ) → object_of (Variable v (depth_in x)) s.memory ≡ r → R (left_side_read (value_or_undefined (option_map (λ n. source.Pointer n 0) r) s))
      found_by None e = undefined
      found_by (Some n) e =
          let o = owned_at (Variable v (depth_in x)) s.memory n e in
          subst (λ q. R (read_by (source.Pointer n 0) (with (value_or_undefined (option_and_then (λ p. value_at p 0) q) s) usable))) (sym o.is)
          (reads n (record { object = o.object; is = o.is; owner = o.owner_is; alive = o.alive }) (is_begun o.object.phase) refl)

-- what follows a new value, if there is one, that is stored where a pointer points
abbrev pub by_new : (source-value.Value → Evaluated → Evaluated) → Option source-value.Value → source-value.Value → State → Evaluated
by_new F None p s = Ends ending.Undefined s
by_new F (Some new) p s = F new (store p new s)

-- a local with a name as it was, if one was written before
abbrev pub restored : Option ℕ → Value → Local → Local
restored None v l = l
restored (Some y) v l = set_name l y v

restored_names : (other : Option ℕ) (v : Value) (l : Local) (j : ℕ) → is_want other j ≡ false → (restored other v l).names j ≡ l.names j
restored_names None v l j ne = refl
restored_names (Some y) v l j ne = put_elsewhere l.names y j v ne

restored_shadows : (other : Option ℕ) (v : Value) (l : Local) → (restored other v l).shadows ≡ l.shadows
restored_shadows None v l = refl
restored_shadows (Some y) v l = refl

restored_same : (other : Option ℕ) (a : Value) (q : Local) (j : ℕ) (u : Value) (i : ℕ) → i == j ≡ false → (restored other a (set_name q j u)).names i ≡ (restored other a q).names i
restored_same None a q j u i ne = put_elsewhere q.names j i u ne
restored_same (Some y) a q j u i ne = ap (λ z. if i == y then a else z) (put_elsewhere q.names j i u ne)

-- it stays so where a temporary is written
pub restored_temporary : (x : Setting) (low : ScalarsFirst x) (s : State) (w : World) (other : Option ℕ) (a : Value) (l : Local) (j : ℕ) (u : Value) → size_in x ≤ j → Fits x None s (restored other a l) w → Fits x None s (restored other a (set_name l j u)) w
restored_temporary x low s w other a l j u le f =
    fits_agree x None None s (restored other a l) (restored other a (set_name l j u)) w f (restored_shadows other a (set_name l j u) ∙ sym (restored_shadows other a l))
    (λ y i is nw. (refl, restored_same other a l j u i (less_other i j (let less = low y i is in omega (arith, less, le)))))

-- but for that name all is kept
pub restored_fits : (x : Setting) (s : State) (w : World) (other : Option ℕ) (a : Value) (l : Local) → Fits x None s (restored other a l) w → Fits x other s l w
restored_fits x s w other a l f = fits_agree x None other s (restored other a l) l w f (sym (restored_shadows other a l)) (λ y i is nw. (refl, sym (restored_names other a l i nw)))

-- a name that is put back is as it was
pub put_back : (names : ℕ → Value) (y i : ℕ) (a : Value) → (with_value_at (with_value_at names y a) y (names y)) i ≡ names i
put_back names y i a = go (i == y) refl
  where
    go : (b : Bool) → i == y ≡ b → (if b then names y else with_value_at names y a i) ≡ names i
    go true e = ap names (sym (eqb-true i y e))
    go false e = put_elsewhere names y i a e

-- the new value of a name is what is noted
noted_names : (other : Option ℕ) (v : Value) (l : Local) (k : ℕ) (u : Value) → (set_name (restored other v l) k u).names k ≡ u
noted_names other v l k u = put_here (restored other v l).names k u

module _ (x : Setting) (low : ScalarsFirst x) (apart : ScalarsApart x) (v k : ℕ) (named_by : scalar_of (names_in x) v ≡ Some k) (c : declared-change.Change) (target : ValueType) (HasBy : source-value.Value → Type 0)
    (next : SourceMemory → source-value.Value → source-value.Value → Option source-value.Value) (changes : Changes x c target HasBy next) where
  -- the run behind a new value and its note
  pub record Anew (t free b : ℕ) (old by : Operand) (m : Made) (other : Option ℕ) (s : State) (l : Local) (w : World) (new : source-value.Value) (after : SourceMemory) : Type 0 where
    pub local : Local
    pub leads : Passes x (changed c k t free old by (note k m)).ops (changed c k t free old by (note k m)).end l w m.ops m.end local w
    pub fits : Fits x other (record s { memory = after }) local w
    pub later : Later s.memory after
    pub same : SameValue x.program after w.memory new (local.names k)
    pub kept : (y : ℕ) → y < b → k == y ≡ false → local.names y ≡ l.names y

  -- A scalar's value changes: nothing is defined, or the unit has the new one, and noted it.
  pub anew_cases : (t free b : ℕ) (old by : Operand) (m : Made) (other : Option ℕ) (before_it : Value) (n : ℕ) (s : State) (l : Local) (w : World) (vo vb : source-value.Value) → b ≤ t → size_in x ≤ t → b ≤ free → size_in x ≤ free → IsBelow free old → is_want other k ≡ false → Sound x.program x.begun s
      → Fits x None s (restored other before_it l) w → ScalarObject x v s.memory n → IsOf s.memory target vo → HasBy vb → SameValue x.program s.memory w.memory vo (value x.unit.statics l.names old) → SameValue x.program s.memory w.memory vb (value x.unit.statics l.names by)
      → (F : source-value.Value → Evaluated → Evaluated) (R : Evaluated → Type 0) → R (Ends ending.Undefined s) → ((new : source-value.Value) → R (F new (Ends ending.Undefined s)))
      → ((new : source-value.Value) (after : SourceMemory) → next s.memory vo vb ≡ Some new → Anew t free b old by m other s l w new after → R (F new (Gives new (record s { memory = after }))))
      → (r : Option source-value.Value) → next s.memory vo vb ≡ r → R (by_new F r (source.Pointer n 0) s)
  anew_cases t free b old by m other before_it n s l w vo vb le size le2 size2 below apart_k sound f o ho hb same_o same_b F R undefined unwritten go_on None e = undefined
  anew_cases t free b old by m other before_it n s l w vo vb le size le2 size2 below apart_k sound f o ho hb same_o same_b F R undefined unwritten go_on (Some new) e =
      let P : Local → Type 0 = λ q. Fits x None s (restored other before_it q) w in
      let h = changes.renews P (λ q j u above p. restored_temporary x low s w other before_it q j u above p) k t free old by (note k m) s None (restored other before_it l) l w vo vb new size size2 below sound f f ho hb same_o same_b e in
      let made = h.1 in
      let ghost = set_name (restored other before_it made.local) k h.0 in
      let real = set_name made.local k h.0 in
      let ghost_fits = fits_wanted x s (restored other before_it made.local) w k h.0 made.holds in
      let same_ghost : SameValue x.program s.memory w.memory new (ghost.names k) = subst (SameValue x.program s.memory w.memory new) (sym (noted_names other before_it made.local k h.0)) h.2 in
      note_cases x apart v k named_by n new s ghost w sound ghost_fits o same_ghost (λ q. R (F new q)) (unwritten new)
      (λ after noted.
      (let real_is : real.names k ≡ h.0 = put_here made.local.names k h.0 in
      let same_real : SameValue x.program after w.memory new (real.names k) = subst (SameValue x.program after w.memory new) (noted_names other before_it made.local k h.0 ∙ sym real_is) noted.same in
      go_on new after e (record {
        local = noted_in real k;
        leads = then_leads made.leads (goes (note_step x k m.ops m.end real w (known_value x.program after w.memory new (real.names k) same_real)) stays);
        fits = fits_agree x None other (record s { memory = after }) (noted_in ghost k) (noted_in real k) w noted.fits (shadows_same other made.local h.0)
            (λ y i is nw. (refl, names_same other made.local h.0 i nw));
        later = noted.later;
        same = same_real;
        kept = λ y lt ne. put_elsewhere made.local.names k y h.0 (turned y ne) ∙ made.kept y (omega (arith, lt, le2)) (less_other y t (omega (arith, lt, le)));
      })))
    where
      turned : (y : ℕ) → k == y ≡ false → y == k ≡ false
      turned y h = grind (arith, nat_tests)

      names_same : (other : Option ℕ) (q : Local) (u : Value) (i : ℕ) → is_want other i ≡ false → (set_name q k u).names i ≡ (set_name (restored other before_it q) k u).names i
      names_same other q u i ne = ap (λ z. if i == k then u else z) (sym (restored_names other before_it q i ne))

      shadows_same : (other : Option ℕ) (q : Local) (u : Value) → (noted_in (set_name q k u) k).shadows ≡ (noted_in (set_name (restored other before_it q) k u) k).shadows
      shadows_same other q u =
          ap (λ z. with_value_at q.shadows k (Known z)) (put_here q.names k u ∙ sym (put_here (restored other before_it q).names k u)) ∙ ap (λ z. with_value_at z k (Known ((set_name (restored other before_it q) k u).names k))) (sym (restored_shadows other before_it q))

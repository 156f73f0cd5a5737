-- In the graph of a function the properties of the rules hold behind each marker, and so along each path.
use Rattle.std.proofs.Common.{◌≡◌, ◌⊎◌, inl, inr, ℕ, suc, ◌+◌, ◌≤◌, ◌<◌, Bool, true, false, Option, Some, None, List, [], ◌∷◌, ◌++◌, length, map, slice_get, refl, sym, ap, ◌∙◌, subst, arith, if◌then◌else◌, ◌==◌}
use Rattle.std.specs.Prelude.{◌||◌, ◌&&◌}
use Rattle.std.proofs.lemmas.Bool.Decides.{nat_tests}
use Rattle.c_tree.specs.Programs.{TypedFunctionTree, ProgramTree}
use Rattle.c_places.specs.Flow.{reaches_end}
use Rattle.c_places.specs.Places.{Place, stop, brought_by_body, parameters_of, close_of, places_of_all, places_of_function, places_of_program}
use Rattle.c_flow.specs.declared.edge.Edge.{Edge}
use Rattle.c_flow.specs.Assigns.{assigned_by_statements}
use Rattle.c_flow.specs.Flow.{edge, start_of_all, ways_of_body, flow_of_all, flow_of_function}
use Rattle.graph_core.specs.Graphs.{Instruction, Marker, Note, Is, Of, Name, Binding, ToScalar, ToObject, End, Block, Graph}
use Rattle.graph_core.specs.Uses.{targets_of}
use Rattle.graph_core.specs.Paths.{History, Among, front, behind, Path, is_marker, is_call, is_bound, bound_at, writes, written, unnoted}
use Rattle.graph_core.specs.WellMarked.{StandsIn, here, behind as further, InPlace}
use Rattle.graph_build_names.specs.Names.{Names, scalar_of}
use Rattle.graph_build_steps.specs.Drafts.{Made}
use Rattle.graph_build_statements.specs.Coding.{Coding, Part, place_of, block_of}
use Rattle.graph_build.specs.Units.{bound_to, binding_of, is_again, block_count, function_part, function_coding, graph_of}
use Rattle.graph_build_laws.proofs.Scalars.{names_few}
use Rattle.graph_build_laws.specs.Points.{AtLabel, StandIn}
use Rattle.graph_build_laws.proofs.Ascending.{AllAscend}
use Rattle.graph_build_laws.proofs.Flows.{StandsAmong, made_among, unmarked, place_stands, stand, where_is}
use Rattle.graph_build_laws.proofs.Instances.{NoMarkers, NoneMarked, HasNone}
use Rattle.graph_build_laws.proofs.Paths.{BeginsPlace}
use Rattle.graph_build_laws.proofs.GraphMarkingStatements.{AreMadeOf}
use Rattle.graph_build_laws.proofs.Targets.{AllFit, WayFits, EdgesFit, edge_fits, edges_both, edge_among, fit_front, fit_back, starts_fit, flows_fit}
use Rattle.image_truth_units.proofs.Rules.{no_name}
use Rattle.image_truth_units.proofs.Standing.{asked, grown}
use Rattle.image_truth_units.proofs.Statements.{Marks, MayAll, Holds}
use Rattle.image_truth_units.proofs.UnitFactsFunctions.{KeepsNote, function_has}
use Rattle.image_truth_units.proofs.Waiting.{wants, wants_end, Waits, HasWaits, LeadsWait, waits_noting, apart as waits_apart}
use Rattle.image_truth_units.proofs.Waiting as waiting
use Rattle.image_truth_units.proofs.Due.{Due, HasDue, LeadsDue, due_noting}
use Rattle.image_truth_units.proofs.Due as due
use Rattle.image_truth_units.proofs.Allowed.{Allowed, AllAllowed, BlockAllowed, BlocksAllowed, HasAllowed, LeadsAllowed, allowed_noting, note_allowed}
use Rattle.image_truth_units.proofs.Walking.{IsKept, walked}
use Rattle.base_laws.proofs.Numbers.{false_true, same_is}
use Rattle.base_laws.proofs.Options.{some_same}
use Rattle.graph_core.proofs.Among.{one_of_all}

none_among : (all : List Block) (b : Block) → NoneMarked all → Among b all → NoMarkers b.instructions
none_among [] b h a = elim a [ ]
none_among (x ∷ all) b h front = h.0
none_among (x ∷ all) b h (behind a) = none_among all b h.1 a

fit_from : (number : ℕ) (all xs : List Place) (j : ℕ) → ((i : ℕ) (q : Place) → slice_get xs i ≡ Some q → slice_get all (j + i) ≡ Some q) → AllFit number (StandsAmong all) xs
fit_from number all [] j h = tt
fit_from number all (x ∷ xs) j h = ((j + 0, x, h 0 x refl, refl), fit_from number all xs (j + 1) (λ i q e. subst (λ m. slice_get all m ≡ Some q) (one i) (h (suc i) q e)))
  where
    one : (i : ℕ) → j + suc i ≡ j + 1 + i
    one i = omega arith

-- a parameter's scalar is bound
bound_is : (n : Names) (all : List ℕ) (v y : ℕ) → Among v all → scalar_of n v ≡ Some y → is_bound y (map (binding_of n) all) ≡ true
bound_is n [] v y a e = elim a [ ]
bound_is n (w ∷ more) v y front e = subst (λ o. is_bound y (bound_to n o w ∷ map (binding_of n) more) ≡ true) (sym e) (ap (λ b. b || is_bound y (map (binding_of n) more)) (same_is y))
bound_is n (w ∷ more) v y (behind a) e = by (bound_to n (scalar_of n w) w) (bound_is n more v y a e)
  where
    or_right : (a b : Bool) → b ≡ true → a || b ≡ true
    or_right true b e = refl
    or_right false b e = e

    by : (b : Binding) → is_bound y (map (binding_of n) more) ≡ true → is_bound y (b ∷ map (binding_of n) more) ≡ true
    by (ToScalar z) h = or_right (z == y) (is_bound y (map (binding_of n) more)) h
    by (ToObject o) h = h

module _ (p : ProgramTree) (k : ℕ) (f : TypedFunctionTree) (is : slice_get p.functions k ≡ Some f) (is_main : Bool) (ascend : AllAscend (places_of_program p)) (counted : length (graph_of p f is_main).blocks ≡ block_count p f is_main) where
  abbrev Any : (a b : ℕ) → Type 0
  Any a b = Unit {0}

  any : (e : Edge) → Among e (flow_of_function f) → Unit {0}
  any e a = tt

  abbrev ours : List Place
  ours = places_of_function (0 + k) f

  abbrev Ours : ℕ → Type 0
  Ours at = StandsAmong ours at

  abbrev pub code : Coding
  code = function_coding p f is_main

  abbrev pub g : Graph
  g = graph_of p f is_main

  abbrev pub whole : Part
  whole = function_part code f is_main

  ours_fit : AllFit (0 + k) Ours ours
  ours_fit = fit_from (0 + k) ours ours 0 (λ i q e. subst (λ m. slice_get ours m ≡ Some q) (none i) e)
    where
      none : (i : ℕ) → i ≡ 0 + i
      none i = omega arith

  close_fits : (b : Bool) → AllFit (0 + k) Ours (if b then stop (0 + k) (parameters_of f ++ brought_by_body f.body) f.close ∷ [] else []) → WayFits (0 + k) Ours (if b then Some f.close.at else None)
  close_fits true h = h.0
  close_fits false h = tt

  flow_stays : EdgesFit (0 + k) Ours (flow_of_function f)
  flow_stays =
      let body = places_of_all (0 + k) (parameters_of f) f.body in
      let ways = ways_of_body f in
      let hb = fit_front (0 + k) Ours body (close_of (0 + k) f) ours_fit.1 in
      let next = close_fits (reaches_end f.body) (fit_back (0 + k) Ours body (close_of (0 + k) f) ours_fit.1) in
      let to = start_of_all f.body ways.next in
      edges_both (0 + k) Ours (edge f.spot.at to) (flow_of_all ways f.body) (edge_fits (0 + k) Ours f.spot.at to ours_fit.0 (starts_fit (0 + k) Ours f.body (parameters_of f) ways.next hb next))
      (flows_fit (0 + k) Ours f.body (parameters_of f) ways hb (record { next = next; by_break = tt; by_continue = tt }))

  -- the flow leads to blocks that begin with markers
  at_marker : (G : List Instruction → End → Type 0) → ((q : ℕ) (rest : List Instruction) (e : End) → G (Marker q ∷ rest) e) → (e : Edge) → Among e (flow_of_function f) → AtLabel g.blocks G (block_of code e.to)
  at_marker G marks e a b at =
      let y = place_stands p k f is is_main ascend Any any counted e.to (edge_among (0 + k) Ours (flow_of_function f) e flow_stays a).1 in
      let same : y.block ≡ b = some_same (sym y.at_label ∙ at) in
      subst (λ (d : Block). G d.instructions d.end) same (subst (λ (l : List Instruction). G l y.block.end) (sym y.head_is) (marks (place_of code e.to) y.rest y.block.end))

  pub whole_stands : StandIn g.blocks code.top whole.inner
  whole_stands = stand p k f is is_main ascend Any any counted

  none_marked : NoneMarked whole.inner × AreMadeOf HasNone whole.inner whole.placed
  none_marked = unmarked p k f is is_main ascend Any any counted

  same_rest : {q r : ℕ} {xs ys : List Instruction} → Marker q ∷ xs ≡ Marker r ∷ ys → xs ≡ ys
  same_rest e = cc

  -- each block is a place's, and has a property behind its marker, or has no marker
  of_block : (Has : (p : ℕ) → Made → Type 0) (G : (p : ℕ) → List Instruction → End → Type 0) → ((q : ℕ) (m : Made) → StandIn g.blocks code.top m.inner → Has q m → G q m.ops m.end) → AreMadeOf Has whole.inner whole.placed →
      (b : Block) → Among b whole.placed ⊎ Among b whole.inner → BeginsPlace G b ⊎ NoMarkers b.instructions
  of_block Has G from all b (inl a) =
      let m = made_among Has whole.inner whole.placed b all a in
      let o = made_among HasNone whole.inner whole.placed b none_marked.1 a in
      inl (record {
        place = m.place;
        rest = m.made.ops;
        is = m.instructions;
        none = subst NoMarkers (same_rest (sym o.instructions ∙ m.instructions)) o.has.0;
        has = subst (λ (e : End). G m.place m.made.ops e) (sym m.ends) (from m.place m.made (grown g.blocks code.top m.made.inner whole.inner m.grown whole_stands) m.has);
      })
  of_block Has G from all b (inr a) = inr (none_among whole.inner b none_marked.0 a)

  pub of_blocks : (Has : (p : ℕ) → Made → Type 0) (G : (p : ℕ) → List Instruction → End → Type 0) → ((q : ℕ) (m : Made) → StandIn g.blocks code.top m.inner → Has q m → G q m.ops m.end) → AreMadeOf Has whole.inner whole.placed →
      (n : ℕ) (b : Block) → slice_get g.blocks n ≡ Some b → BeginsPlace G b ⊎ NoMarkers b.instructions
  of_blocks Has G from all n b e = of_block Has G from all b (where_is p k f is is_main ascend Any any counted n b e)

  -- the first block is that of the entry
  begins_entry : (G : List Instruction → End → Type 0) → ((q : ℕ) (rest : List Instruction) (e : End) → G (Marker q ∷ rest) e) → (b : Block) → slice_get g.blocks 0 ≡ Some b → G b.instructions b.end
  begins_entry G marks b e = subst (λ (d : Block). G d.instructions d.end) (some_same e) (marks _ _ _)

  -- ---- a name that waits to be written

  module _ (y : ℕ) (temp : Bool) (far : temp ≡ true → code.scalars ≤ y) where
    abbrev B : ℕ → Type 0
    B q = bound_at g y (Marker q) ≡ false

    abbrev may : (q z : ℕ) → Type 0
    may q z = Unit {0}

    abbrev HasW : (q : ℕ) → Option ℕ → Made → Type 0
    HasW q w m = HasWaits g.blocks y temp code.scalars far q code.top (may q) (B q) w m

    abbrev waits_marks : Marks
    waits_marks = record {
      code = code;
      own = asked y temp;
      may = may;
      Has = HasW;
      Leads = λ q l inner. LeadsWait g.blocks y temp code.scalars far q code.top (may q) (B q) l inner;
      Stand = λ inner. Unit {0};
      few = names_few p f (is_again p f);
      apart = waits_apart g.blocks y temp code.scalars far 0 code.top (may 0) (B 0);
      rules = λ q. waits_noting g.blocks y temp code.scalars far q code.top (may q) (B q);
    }

    note_waits : KeepsNote waits_marks f.spot.at (parameters_of f)
    note_waits v z a e m h free st other = later' (other_name (z == y) refl) (h free st tt)
      where
        entry_same : (code.entry == code.entry) ≡ true
        entry_same = same_is code.entry

        bound : z ≡ y → is_bound y g.parameters ≡ true
        bound same = subst (λ r. is_bound r g.parameters ≡ true) same (bound_is code.names (parameters_of f) v z a e)

        clash : z ≡ y → ⊥
        clash same = false_true (sym free ∙ ap (λ b. b && is_bound y g.parameters) entry_same ∙ bound same)

        is_same : (z == y) ≡ true → z ≡ y
        is_same t = grind (arith, nat_tests)

        other_name : (b : Bool) → (z == y) ≡ b → (z == y) ≡ false
        other_name true t = absurd (clash (is_same t))
        other_name false t = t

        no_and : (b : Bool) → b && false ≡ false
        no_and true = refl
        no_and false = refl

        later' : (z == y) ≡ false → Waits g.blocks y temp m.ops m.end → Waits g.blocks y temp (Note z (Is (Of (Name z))) ∷ m.ops) m.end
        later' off k = waiting.later (ap (λ b. b || (temp && false)) off ∙ no_and temp) k

    waits_hold : Holds waits_marks whole
    waits_hold =
        function_has waits_marks f is_main note_waits (λ a k v z o e. tt) (λ e a inner st b s. at_marker (Waits g.blocks y temp) (λ q rest end. waiting.marks) e a) tt

    abbrev Behind : (q : ℕ) → List Instruction → End → Type 0
    Behind q rest e = B q → Waits g.blocks y temp rest e

    abbrev Inv : History → List Instruction → End → Type 0
    Inv h rest e = written g y h ≡ false → Waits g.blocks y temp rest e

    or_none : (a b : Bool) → a || b ≡ false → (a ≡ false) × (b ≡ false)
    or_none true b h = cc
    or_none false b h = (refl, h)

    step_on : (i : Instruction) (rest : List Instruction) (e : End) → is_marker i ≡ false → writes y i ≡ false → Waits g.blocks y temp (i ∷ rest) e → Waits g.blocks y temp rest e
    step_on i rest e off w waiting.marks = cc
    step_on i rest e off w (waiting.wrote a b) = absurd (false_true (sym w ∙ b))
    step_on i rest e off w (waiting.later a k) = k

    over_on : (e : End) (l : ℕ) (b : Block) → Among l (targets_of e) → slice_get g.blocks l ≡ Some b → Waits g.blocks y temp [] e → Waits g.blocks y temp b.instructions b.end
    over_on e l b a at (waiting.over off k) = k l a b at

    waits_kept : IsKept g Behind Inv
    waits_kept = record {
      begins = λ b e off. begins_entry (Waits g.blocks y temp) (λ q rest end. waiting.marks) b e;
      mark = λ h n v q rest e has k off. has off;
      step = λ h n v i rest e off k w. (let both = or_none (writes y i) (written g y h) (subst (λ c. (if c then bound_at g y i else (writes y i || written g y h)) ≡ false) off w) in step_on i rest e off both.0 (k both.1));
      over = λ h e l b a at k off. over_on e l b a at (k off);
    }

    -- Where a path has not written the name in the place in force, it waits to be written.
    pub waits : (h : History) (n : ℕ) (rest : List Instruction) (e : End) → Path g h n rest e → written g y h ≡ false → Waits g.blocks y temp rest e
    waits = walked g Behind (of_blocks (λ q m. HasW q None m) Behind (λ q m st h b. h b st tt) waits_hold.1) Inv waits_kept

    not_waited : (i : Instruction) (rest : List Instruction) (e : End) → wants g.blocks y temp i ≡ true → is_marker i ≡ false → Waits g.blocks y temp (i ∷ rest) e → ⊥
    not_waited i rest e wanted off waiting.marks = cc
    not_waited i rest e wanted off (waiting.wrote a b) = false_true (sym a ∙ wanted)
    not_waited i rest e wanted off (waiting.later a k) = false_true (sym a ∙ wanted)

    not_ended : (e : End) → wants_end g.blocks y temp e ≡ true → Waits g.blocks y temp [] e → ⊥
    not_ended e wanted (waiting.over a k) = false_true (sym a ∙ wanted)

    -- what wants the name comes only behind a write of it
    pub behind_written : (h : History) (n : ℕ) (i : Instruction) (rest : List Instruction) (e : End) → Path g h n (i ∷ rest) e → wants g.blocks y temp i ≡ true → is_marker i ≡ false → written g y h ≡ true
    behind_written h n i rest e way wanted off = by (written g y h) refl
      where
        by : (b : Bool) → written g y h ≡ b → written g y h ≡ true
        by true e' = e'
        by false e' = absurd (not_waited i rest e wanted off (waits h n (i ∷ rest) e way e'))

    pub end_written : (h : History) (n : ℕ) (e : End) → Path g h n [] e → wants_end g.blocks y temp e ≡ true → written g y h ≡ true
    end_written h n e way wanted = by (written g y h) refl
      where
        by : (b : Bool) → written g y h ≡ b → written g y h ≡ true
        by true e' = e'
        by false e' = absurd (not_ended e wanted (waits h n [] e way e'))

  -- ---- a scalar that waits for its note

  module _ (x : ℕ) (few : x < code.scalars) where
    abbrev any_may : (q z : ℕ) → Type 0
    any_may q z = Unit {0}

    abbrev due_marks : Marks
    due_marks = record {
      code = code;
      own = no_name;
      may = any_may;
      Has = λ q w m. HasDue g.blocks x code.scalars few q code.top (any_may q) w m;
      Leads = λ q l inner. LeadsDue g.blocks x code.scalars few q code.top (any_may q) l inner;
      Stand = λ inner. Unit {0};
      few = names_few p f (is_again p f);
      apart = λ z lt. refl;
      rules = λ q. due_noting g.blocks x code.scalars few q code.top (any_may q);
    }

    note_due : KeepsNote due_marks f.spot.at (parameters_of f)
    note_due v z a e m h st = (due.noting g.blocks x code.scalars few (place_of code f.spot.at) code.top (any_may 0) z false m.ops m.end (h st).0 (λ off. (h st).0), λ t. absurd (false_true t))

    due_hold : Holds due_marks whole
    due_hold = function_has due_marks f is_main note_due (λ a k v z o e. tt) (λ e a inner st s. at_marker (Due g.blocks x false) (λ q rest end. due.marks) e a) tt

    abbrev BehindDue : (q : ℕ) → List Instruction → End → Type 0
    BehindDue q rest e = Due g.blocks x false rest e

    abbrev InvDue : History → List Instruction → End → Type 0
    InvDue h rest e = Due g.blocks x (unnoted x h) rest e

    at_mark : (b : Bool) (q : ℕ) (rest : List Instruction) (e : End) → Due g.blocks x b (Marker q ∷ rest) e → b ≡ false
    at_mark b q rest e due.marks = refl
    at_mark b q rest e (due.step off c k) = cc

    due_on : (b : Bool) (i : Instruction) (rest : List Instruction) (e : End) → is_marker i ≡ false → Due g.blocks x b (i ∷ rest) e → Due g.blocks x (due.waiting x i b) rest e
    due_on b i rest e off due.marks = cc
    due_on b i rest e off (due.step m c k) = k

    due_over : (b : Bool) (e : End) (l : ℕ) (d : Block) → Among l (targets_of e) → slice_get g.blocks l ≡ Some d → Due g.blocks x b [] e → Due g.blocks x b d.instructions d.end
    due_over b e l d a at (due.over k) = k l a d at

    due_kept : IsKept g BehindDue InvDue
    due_kept = record {
      begins = λ b e. begins_entry (Due g.blocks x false) (λ q rest end. due.marks) b e;
      mark = λ h n v q rest e has k. subst (λ b. Due g.blocks x b rest e) (sym (at_mark (unnoted x h) q rest e k)) has;
      step = λ h n v i rest e off k. due_on (unnoted x h) i rest e off k;
      over = λ h e l b a at k. due_over (unnoted x h) e l b a at k;
    }

    pub dues : (h : History) (n : ℕ) (rest : List Instruction) (e : End) → Path g h n rest e → Due g.blocks x (unnoted x h) rest e
    dues = walked g BehindDue (of_blocks (λ q m. HasDue g.blocks x code.scalars few q code.top (any_may q) None m) BehindDue (λ q m st h. (h st).0) due_hold.1) InvDue due_kept

    -- No call stands between a write of the scalar and its note.
    pub call_noted : (h : History) (n : ℕ) (i : Instruction) (rest : List Instruction) (e : End) → Path g h n (i ∷ rest) e → is_call i ≡ true → unnoted x h ≡ false
    call_noted h n i rest e way call = by (unnoted x h) (dues h n (i ∷ rest) e way)
      where
        by : (b : Bool) → Due g.blocks x b (i ∷ rest) e → b ≡ false
        by false d = refl
        by true (due.step off c k) = absurd (false_true (sym (c refl) ∙ call))

    -- None stands before a marker.
    pub marker_noted : (h : History) (n q : ℕ) (rest : List Instruction) (e : End) → Path g h n (Marker q ∷ rest) e → unnoted x h ≡ false
    marker_noted h n q rest e way = at_mark (unnoted x h) q rest e (dues h n (Marker q ∷ rest) e way)

  -- ---- what places may write

  module _ (may : (q z : ℕ) → Type 0) (entry_may : (v z : ℕ) → Among v (parameters_of f) → scalar_of code.names v ≡ Some z → may code.entry z) where
    abbrev pub allowed_marks : Marks
    allowed_marks = record {
      code = code;
      own = no_name;
      may = may;
      Has = λ q w m. HasAllowed code.scalars may q code.top w m;
      Leads = λ q l inner. LeadsAllowed code.scalars may q code.top l inner;
      Stand = λ inner. BlocksAllowed code.scalars may inner;
      few = names_few p f (is_again p f);
      apart = λ z lt. refl;
      rules = λ q. allowed_noting code.scalars may q code.top;
    }

    module _ (may_all : MayAll allowed_marks (assigned_by_statements f.body)) where
      allowed_hold : Holds allowed_marks whole
      allowed_hold = function_has allowed_marks f is_main (λ v z a e m h. ((note_allowed code.scalars may code.entry code.top z (entry_may v z a e), h.0), h.1, tt)) may_all (λ e a inner st. st) tt

      -- an instruction that stands in a place, where no marker is
      stands_allowed : (q r : ℕ) (i : Instruction) (all : List Instruction) → StandsIn q i (Some r) all → NoMarkers all → AllAllowed code.scalars (may r) all → Allowed code.scalars (may q) i
      stands_allowed q r i [] s none h = elim s [ ]
      stands_allowed q r i (j ∷ all) here none h = h.0
      stands_allowed q r i (Marker z ∷ all) (further s) none h = let off = none.0 in cc
      stands_allowed q r i (Note z v ∷ all) (further s) none h = stands_allowed q r i all s none.1 h.1
      stands_allowed q r i (Rattle.graph_core.specs.Graphs.Move z a ∷ all) (further s) none h = stands_allowed q r i all s none.1 h.1
      stands_allowed q r i (Rattle.graph_core.specs.Graphs.Operate z o a b ∷ all) (further s) none h = stands_allowed q r i all s none.1 h.1
      stands_allowed q r i (Rattle.graph_core.specs.Graphs.Truncate z t a ∷ all) (further s) none h = stands_allowed q r i all s none.1 h.1
      stands_allowed q r i (Rattle.graph_core.specs.Graphs.Same z a b ∷ all) (further s) none h = stands_allowed q r i all s none.1 h.1
      stands_allowed q r i (Rattle.graph_core.specs.Graphs.Address z o ∷ all) (further s) none h = stands_allowed q r i all s none.1 h.1
      stands_allowed q r i (Rattle.graph_core.specs.Graphs.Load z e l ∷ all) (further s) none h = stands_allowed q r i all s none.1 h.1
      stands_allowed q r i (Rattle.graph_core.specs.Graphs.Store e l a ∷ all) (further s) none h = stands_allowed q r i all s none.1 h.1
      stands_allowed q r i (Rattle.graph_core.specs.Graphs.Zero o w ∷ all) (further s) none h = stands_allowed q r i all s none.1 h.1
      stands_allowed q r i (Rattle.graph_core.specs.Graphs.CopyWords o b w ∷ all) (further s) none h = stands_allowed q r i all s none.1 h.1
      stands_allowed q r i (Rattle.graph_core.specs.Graphs.Call z t all' ∷ all) (further s) none h = stands_allowed q r i all s none.1 h.1

      placed_allowed : (q r : ℕ) (i : Instruction) (rest : List Instruction) → StandsIn q i None (Marker r ∷ rest) → NoMarkers rest → AllAllowed code.scalars (may r) rest → Allowed code.scalars (may q) i
      placed_allowed q r i rest (further s) none h = stands_allowed q r i rest s none h

      -- Each instruction that stands in a place is allowed there.
      pub in_place_allowed : (q : ℕ) (i : Instruction) → InPlace g q i → Allowed code.scalars (may q) i
      in_place_allowed q i s = by (where_is p k f is is_main ascend Any any counted s.number s.block s.is)
        where
          by : Among s.block whole.placed ⊎ Among s.block whole.inner → Allowed code.scalars (may q) i
          by (inl a) =
              let m = made_among (λ q m. HasAllowed code.scalars may q code.top None m) whole.inner whole.placed s.block allowed_hold.1 a in
              let o = made_among HasNone whole.inner whole.placed s.block none_marked.1 a in
              placed_allowed q m.place i m.made.ops (subst (λ (l : List Instruction). StandsIn q i None l) m.instructions (subst (λ r. StandsIn q i r s.block.instructions) m.no_place s.stands))
              (subst NoMarkers (same_rest (sym o.instructions ∙ m.instructions)) o.has.0) m.has.0
          by (inr a) =
              let b = one_of_all (BlockAllowed code.scalars may) whole.inner s.block allowed_hold.0 a in
              stands_allowed q b.0 i s.block.instructions (subst (λ r. StandsIn q i r s.block.instructions) b.1 s.stands) (none_among whole.inner s.block none_marked.0 a) b.2

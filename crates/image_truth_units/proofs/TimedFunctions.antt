-- The blocks of a function's graph: its entry's, those of other places, and inner ones, which have other places.
use Rattle.std.proofs.Common.{◌≡◌, ◌≢◌, ◌⊎◌, inl, inr, ℕ, Bool, true, Option, Some, None, List, [], ◌∷◌, ◌++◌, reverse, slice_get, refl, sym, ap, ◌∙◌, subst, if◌then◌else◌}
use Rattle.std.specs.List.{AllByRecursion}
use Rattle.c_tree.specs.Programs.{TypedFunctionTree, ProgramTree}
use Rattle.c_places.specs.Places.{parameters_of}
use Rattle.c_flow.specs.declared.edge.Ways.{Ways}
use Rattle.c_flow.specs.Flow.{start_of_all, ways_of_body}
use Rattle.graph_core.specs.Graphs as unit
use Rattle.graph_core.specs.Graphs.{Instruction, Marker, Note, Move, Operate, Truncate, Same, Address, Load, Store, Zero, CopyWords, Call, End, Return, Jump, Block, Graph, UnitForm}
use Rattle.graph_core.specs.Uses.{targets_of}
use Rattle.graph_core.specs.Paths.{Among, front, behind}
use Rattle.graph_core.specs.Validity.{KeepsPlace, IsKept, AreAllDifferent, AreEdges, IsGraph, place_behind, markers_in, markers_of_blocks}
use Rattle.graph_build_names.specs.Names.{Names, scalar_of}
use Rattle.graph_build_steps.specs.Drafts.{Made, ending}
use Rattle.graph_build_statements.specs.Coding.{Coding, Part, block_of, going}
use Rattle.graph_build.specs.Units.{note_if, note_parameters, add_close, body_part, function_part, function_coding, graph_of}
use Rattle.graph_build_laws.proofs.Standing.{got_among, among_either, among_reversed}
use Rattle.graph_build_laws.proofs.Accepted.{ProgramFacts}
use Rattle.graph_build_laws.proofs.Markers.{markers_append}
use Rattle.image_truth_units.specs.Timing.{KeepsTime}
use Rattle.image_truth_units.proofs.Ordinary.{AllOrdinary, ordinary, IsPlaced, IsInner, AreInner}
use Rattle.image_truth_units.proofs.Paths.{is_note, AllNotes, BeginsPlace, LeadsOn, IsOther, Kind, entry, other, inner, keeps_time}
use Rattle.image_truth_units.proofs.Rooms.{few}
use Rattle.image_truth_units.proofs.Starts.{entry_leads}
use Rattle.image_truth_units.proofs.TimedStatements.{ArePlaced, Adds, no_part, place_adds, statements_add}
use Rattle.base_laws.proofs.Lists.{all_before, all_behind}
use Rattle.base_laws.proofs.Options.{some_same}

-- the notes of parameters
record IsNoted (now m : Made) : Type 0 where
  notes : AllNotes m.ops → AllNotes now.ops
  ends : now.end ≡ m.end
  inside : now.inner ≡ m.inner

noted_if : (n : Names) (o : Option ℕ) (m : Made) → IsNoted (note_if n o m) m
noted_if n None m = record { notes = λ h. h; ends = refl; inside = refl }
noted_if n (Some x) m = record { notes = λ h. (refl, h); ends = refl; inside = refl }

noted_all : (n : Names) (all : List ℕ) (m : Made) → IsNoted (note_parameters n all m) m
noted_all n [] m = record { notes = λ h. h; ends = refl; inside = refl }
noted_all n (x ∷ more) m =
    let rest = noted_all n more m in
    let one = noted_if n (scalar_of n x) (note_parameters n more m) in record { notes = λ h. one.notes (rest.notes h); ends = one.ends ∙ rest.ends; inside = one.inside ∙ rest.inside }

note_stays : (i : Instruction) (more : List Instruction) (q : Option ℕ) → is_note i ≡ true → place_behind (i ∷ more) q ≡ place_behind more q
note_stays (Marker p) more q h = cc
note_stays _ more q h = refl

notes_stay : (all : List Instruction) (q : Option ℕ) → AllNotes all → place_behind all q ≡ q
notes_stay [] q h = refl
notes_stay (i ∷ all) q h = note_stays i all q h.0 ∙ notes_stay all q h.1

-- a block of ordinary instructions keeps its own place
kept_place : (all : List Instruction) (p q : Option ℕ) → AllOrdinary all → KeepsPlace all p q → p ≡ q
kept_place [] p q h k = k
kept_place (Marker r ∷ rest) p q h k = let no = h.0 in cc
kept_place (Note y v ∷ rest) p q h k = k
kept_place (Move y a ∷ rest) p q h k = k
kept_place (Operate y o a b ∷ rest) p q h k = k
kept_place (Truncate y t a ∷ rest) p q h k = k
kept_place (Same y a b ∷ rest) p q h k = k
kept_place (Address y o ∷ rest) p q h k = k
kept_place (Load y e l ∷ rest) p q h k = k
kept_place (Store e l a ∷ rest) p q h k = k
kept_place (Zero o w ∷ rest) p q h k = k
kept_place (CopyWords o b w ∷ rest) p q h k = k
kept_place (Call y f all ∷ rest) p q h k = k

all_turned : (p : ℕ) (all : List ℕ) → AllByRecursion (λ q. p ≢ q) all → AllByRecursion (λ q. q ≢ p) all
all_turned p [] h = tt
all_turned p (q ∷ all) h = ((λ e. h.0 (sym e)), all_turned p all h.1)

placed_among : (all : List Block) (b : Block) → ArePlaced all → Among b all → IsPlaced b
placed_among [] b h a = elim a [ ]
placed_among (x ∷ all) b h front = h.0
placed_among (x ∷ all) b h (behind a) = placed_among all b h.1 a

inner_among : (Own : ℕ → Type 0) (all : List Block) (b : Block) → AreInner Own all → Among b all → IsInner Own b
inner_among Own [] b h a = elim a [ ]
inner_among Own (x ∷ all) b h front = h.0
inner_among Own (x ∷ all) b h (behind a) = inner_among Own all b h.1 a

own_among : (Own : ℕ → Type 0) (all : List Block) (b : Block) → AllByRecursion Own (markers_of_blocks all) → Among b all → (q : ℕ) (rest : List Instruction) → b.instructions ≡ Marker q ∷ rest → Own q
own_among Own [] b h a q rest is = elim a [ ]
own_among Own (x ∷ all) b h front q rest is = (subst (λ (l : List Instruction). AllByRecursion Own (markers_in l ++ markers_of_blocks all)) is h).0
own_among Own (x ∷ all) b h (behind a) q rest is = own_among Own all b (all_behind Own (markers_in x.instructions) (markers_of_blocks all) h) a q rest is

among_first : (b x : Block) (xs : List Block) → Among b (x ∷ xs) → (b ≡ x) ⊎ Among b xs
among_first b x xs front = inl refl
among_first b x xs (behind a) = inr a

module _ (p : ProgramTree) (u : UnitForm) (facts : ProgramFacts p) (f : TypedFunctionTree) (is_main : Bool) (valid : IsGraph u (graph_of p f is_main)) (different : AreAllDifferent (markers_of_blocks (graph_of p f is_main).blocks)) where
  abbrev c : Coding
  c = function_coding p f is_main

  abbrev g : Graph
  g = graph_of p f is_main

  abbrev whole : Part
  whole = function_part c f is_main

  abbrev body : Part
  body = body_part c f is_main

  abbrev ways : Ways
  ways = ways_of_body f

  abbrev Own : ℕ → Type 0
  Own q = q ≢ g.entry

  -- what the entry's block is made of
  abbrev go : Made
  go = going c (start_of_all f.body ways.next) body.inner

  abbrev begun : Made
  begun = note_parameters c.names (parameters_of f) go

  abbrev entry_block : Block
  entry_block = record { place = None; instructions = Marker g.entry ∷ begun.ops; end = begun.end }

  noted : IsNoted begun go
  noted = noted_all c.names (parameters_of f) go

  go_notes : (o : Option ℕ) (xs : List Block) → AllNotes (going c o xs).ops
  go_notes None xs = tt
  go_notes (Some at) xs = tt

  go_inner : (o : Option ℕ) (xs : List Block) → (going c o xs).inner ≡ xs
  go_inner None xs = refl
  go_inner (Some at) xs = refl

  notes : AllNotes begun.ops
  notes = noted.notes (go_notes (start_of_all f.body ways.next) body.inner)

  inner_same : whole.inner ≡ body.inner
  inner_same = noted.inside ∙ go_inner (start_of_all f.body ways.next) body.inner

  -- the places of the body are not the entry's
  body_own : AllByRecursion Own (markers_of_blocks body.placed)
  body_own =
      let later = all_behind (λ q. g.entry ≢ q) (markers_in begun.ops) (markers_of_blocks (body.placed ++ reverse whole.inner)) different.0 in
      all_turned g.entry (markers_of_blocks body.placed)
      (all_before (λ q. g.entry ≢ q) (markers_of_blocks body.placed) (markers_of_blocks (reverse whole.inner)) (subst (λ (l : List ℕ). AllByRecursion (λ q. g.entry ≢ q) l) (markers_append body.placed (reverse whole.inner)) later))

  close_adds : (o : Option ℕ) (part : Part) → Adds Own c (few p facts) (add_close c is_main o part) part
  close_adds None part = no_part Own c (few p facts) part
  close_adds (Some at) part = place_adds Own c (few p facts) at (ending (Return (if is_main then Some (unit.Constant 0) else None)) part.inner) part (λ own h. (ordinary tt, h))

  body_sound : ArePlaced body.placed × AreInner Own body.inner
  body_sound =
      let empty : Part = record { placed = []; inner = [] } in
      let closing = add_close c is_main ways.next empty in
      let x = statements_add Own c (few p facts) f.body c.scalars ways closing body_own in
      let y = close_adds ways.next empty x.0 in
      x.1 (y.1 (tt, tt))

  -- a block is the entry's, another place's, or an inner one
  placed_is : (b : Block) → Among b (body.placed) → IsOther g b
  placed_is b a = let k = placed_among body.placed b body_sound.0 a in record { placed = k; other = own_among Own body.placed b body_own a k.place k.rest k.is }

  inner_is : (b : Block) → Among b (reverse whole.inner) → IsInner Own b
  inner_is b a = inner_among Own body.inner b body_sound.1 (subst (λ (l : List Block). Among b l) inner_same (among_reversed whole.inner b a))

  where_is : (n : ℕ) (b : Block) → slice_get g.blocks n ≡ Some b → (b ≡ entry_block) ⊎ (IsOther g b ⊎ IsInner Own b)
  where_is n b got = by (among_either whole.placed (reverse whole.inner) b (got_among g.blocks n b got))
    where
      first : (b ≡ entry_block) ⊎ Among b body.placed → (b ≡ entry_block) ⊎ (IsOther g b ⊎ IsInner Own b)
      first (inl is) = inl is
      first (inr a) = inr (inl (placed_is b a))

      by : Among b whole.placed ⊎ Among b (reverse whole.inner) → (b ≡ entry_block) ⊎ (IsOther g b ⊎ IsInner Own b)
      by (inl a) = first (among_first b entry_block body.placed a)
      by (inr a) = inr (inr (inner_is b a))

  -- the entry leads to a place's block
  jumps : (l : ℕ) × (begun.end ≡ Jump l)
  jumps = by (start_of_all f.body ways.next) refl
    where
      by : (o : Option ℕ) → start_of_all f.body ways.next ≡ o → (l : ℕ) × (begun.end ≡ Jump l)
      by None e = absurd (entry_leads f e)
      by (Some at) e = (block_of c at, noted.ends ∙ ap (λ r. (going c r body.inner).end) e)

  edges : AreEdges g (Some g.entry) (targets_of begun.end)
  edges = subst (λ r. AreEdges g r (targets_of begun.end)) (notes_stay begun.ops (Some g.entry) notes) valid.blocks.0.edges

  kept : (l : ℕ) → begun.end ≡ Jump l → IsKept (Some g.entry) (slice_get g.blocks l)
  kept l e = (subst (λ (d : End). AreEdges g (Some g.entry) (targets_of d)) e edges).0

  begins : (l : ℕ) → begun.end ≡ Jump l → (b : Block) → slice_get g.blocks l ≡ Some b → BeginsPlace b.instructions
  begins l e b got = by (where_is l b got)
    where
      there : KeepsPlace b.instructions (Some g.entry) b.place
      there = subst (λ r. IsKept (Some g.entry) r) got (kept l e)

      by : (b ≡ entry_block) ⊎ (IsOther g b ⊎ IsInner Own b) → BeginsPlace b.instructions
      by (inl is) = (g.entry, begun.ops, ap (λ (d : Block). d.instructions) is)
      by (inr (inl k)) = (k.placed.place, k.placed.rest, k.placed.is)
      by (inr (inr k)) = absurd (k.own (some_same (sym (kept_place b.instructions (Some g.entry) b.place k.all there ∙ k.has))))

  leads_on : LeadsOn g begun.end
  leads_on = let j = jumps in record { leads = λ l a b got. only j.0 j.1 l (subst (λ (d : End). Among l (targets_of d)) j.1 a) b got; no_end = λ a e. clash a (sym j.1 ∙ e) }
    where
      only : (m : ℕ) → begun.end ≡ Jump m → (l : ℕ) → Among l (m ∷ []) → (b : Block) → slice_get g.blocks l ≡ Some b → BeginsPlace b.instructions
      only m e l front b got = begins m e b got
      only m e l (behind a) b got = elim a [ ]

      clash : {m : ℕ} (a : Option unit.Operand) → Jump m ≡ Return a → ⊥
      clash a e = cc

  kinds : (n : ℕ) (b : Block) → slice_get g.blocks n ≡ Some b → Kind g b
  kinds n b got = by (where_is n b got)
    where
      by : (b ≡ entry_block) ⊎ (IsOther g b ⊎ IsInner Own b) → Kind g b
      by (inl is) = subst (λ (d : Block). Kind g d) (sym is) (entry (record { rest = begun.ops; no_place = refl; is = refl; notes = notes; on = leads_on }))
      by (inr (inl k)) = other k
      by (inr (inr k)) = inner k

  -- The graph of a function keeps what bounds its places' time.
  pub graph_keeps_time : KeepsTime g
  graph_keeps_time = keeps_time g kinds

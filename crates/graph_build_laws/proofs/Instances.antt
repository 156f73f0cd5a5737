-- A property of points that goes back, and one of instructions that are no markers, pass what is made.
use Rattle.std.proofs.Common.{◌≡◌, ℕ, false, Some, List, [], ◌∷◌, ◌++◌, length, slice_get, refl, sym, ◌∙◌, subst}
use Rattle.graph_core.specs.Graphs.{Instruction, End, Return, Jump, Branch, Block}
use Rattle.graph_core.specs.Paths.{Among, front, behind, is_marker}
use Rattle.graph_build_steps.specs.Drafts.{Made, with_inner_block, label_of}
use Rattle.graph_build_laws.specs.Passing.{Grows, IsPassing}
use Rattle.graph_build_laws.specs.Points.{AtLabel, GoesBack, StandIn}
use Rattle.base_laws.proofs.Options.{some_same}
pub use Rattle.base_laws.proofs.Lists.{snoc_old as got_before}
pub use Rattle.graph_core.proofs.Among.{each_of_one as to_one}

pub got_next : {A : Type 0} (xs : List A) (a : A) → slice_get (xs ++ a ∷ []) (length xs) ≡ Some a
got_next [] a = refl
got_next (x ∷ xs) a = got_next xs a

-- a block's end leads to two, one or no label
pub to_two : (P : ℕ → Type 0) (l m : ℕ) → P l → P m → (k : ℕ) → Among k (l ∷ m ∷ []) → P k
to_two P l m h g k front = h
to_two P l m h g k (behind front) = g
to_two P l m h g k (behind (behind a)) = elim a [ ]

pub to_none : (P : ℕ → Type 0) → (k : ℕ) → Among k [] → P k
to_none P k a = elim a [ ]

-- a property of each block with a place
abbrev pub Each : ((p : ℕ) → List Instruction → End → Type 0) → List Block → Type 0
Each G [] = Unit {0}
Each G (b ∷ more) = ((p : ℕ) × (b.place ≡ Some p) × G p b.instructions b.end) × Each G more

each_more : (G : (p : ℕ) → List Instruction → End → Type 0) (place : ℕ) (m : Made) (xs : List Block) → Each G xs → G place m.ops m.end → Each G (xs ++ record { place = Some place; instructions = m.ops; end = m.end } ∷ [])
each_more G place m [] h k = ((place, refl, k), tt)
each_more G place m (x ∷ xs) h k = (h.0, each_more G place m xs h.1 k)

-- A property of points that goes back
module _ (blocks : List Block) (top : ℕ) (G : (p : ℕ) → List Instruction → End → Type 0) (back : (p : ℕ) → GoesBack blocks (G p)) where
  -- where its inner blocks stand, what is made has it, and so have its inner blocks
  abbrev pub HasBack : (p : ℕ) → Made → Type 0
  HasBack p m = StandIn blocks top m.inner → G p m.ops m.end × Each G m.inner

  abbrev pub LeadsBack : (p label : ℕ) → List Block → Type 0
  LeadsBack p l inner = StandIn blocks top inner → AtLabel blocks (G p) l × Each G inner

  abbrev pub StandBack : List Block → Type 0
  StandBack inner = StandIn blocks top inner → Each G inner

  pub grown_stand : (xs ys : List Block) → Grows xs ys → StandIn blocks top ys → StandIn blocks top xs
  grown_stand xs ys g st k b e = st k b (subst (λ (zs : List Block). slice_get zs k ≡ Some b) (sym g.1) (got_before xs g.0 k b e))

  closed_stand : (place : ℕ) (m : Made) → StandIn blocks top (with_inner_block place m) → StandIn blocks top m.inner
  closed_stand place m st k b e = st k b (got_before m.inner (record { place = Some place; instructions = m.ops; end = m.end } ∷ []) k b e)

  closed_label : (p place : ℕ) (m : Made) → StandIn blocks top (with_inner_block place m) → G p m.ops m.end → AtLabel blocks (G p) (label_of top m)
  closed_label p place m st h b e =
      let it : Block = record { place = Some place; instructions = m.ops; end = m.end } in
      let there : slice_get blocks (label_of top m) ≡ Some it = st (length m.inner) it (got_next m.inner it) in
      subst (λ (c : Block). G p c.instructions c.end) (some_same (sym there ∙ e)) h

  pub back_passes : (p : ℕ) → IsPassing p top (HasBack p) (LeadsBack p) StandBack
  back_passes p = record {
    step = λ i m h has st. ((back p).step i m.ops m.end h (has st).0, (has st).1);
    jump = λ l inner h st. ((back p).end (Jump l) (to_one (AtLabel blocks (G p)) l (h st).0), (h st).1);
    branch = λ o a b one other inner h k st. ((back p).end (Branch o a b one other) (to_two (AtLabel blocks (G p)) one other (h st).0 (k st).0), (h st).1);
    end = λ a inner h st. ((back p).end (Return a) (to_none (AtLabel blocks (G p))), h st);
    close = λ m has st. (let x = has (closed_stand p m st) in (closed_label p p m st x.0, each_more G p m m.inner x.1 x.0));
    keep = λ m l inner g has h st. (let s = closed_stand p m st in let x = has s in ((h (grown_stand inner m.inner g s)).0, each_more G p m m.inner x.1 x.0));
    stands = λ m has st. (has st).1;
    shut = λ m has st. (let x = has (closed_stand p m st) in each_more G p m m.inner x.1 x.0);
  }

-- instructions that are no markers
abbrev pub NoMarkers : List Instruction → Type 0
NoMarkers [] = Unit {0}
NoMarkers (i ∷ rest) = (is_marker i ≡ false) × NoMarkers rest

abbrev pub NoneMarked : List Block → Type 0
NoneMarked [] = Unit {0}
NoneMarked (b ∷ more) = NoMarkers b.instructions × NoneMarked more

none_more : (place : ℕ) (m : Made) (xs : List Block) → NoneMarked xs → NoMarkers m.ops → NoneMarked (xs ++ record { place = Some place; instructions = m.ops; end = m.end } ∷ [])
none_more place m [] h k = (k, tt)
none_more place m (x ∷ xs) h k = (h.0, none_more place m xs h.1 k)

-- what is made has no marker, and its inner blocks have none
abbrev pub HasNone : (p : ℕ) → Made → Type 0
HasNone p m = NoMarkers m.ops × NoneMarked m.inner

abbrev pub LeadsNone : (p label : ℕ) → List Block → Type 0
LeadsNone p l inner = NoneMarked inner

pub none_passes : (p top : ℕ) → IsPassing p top (HasNone p) (LeadsNone p) NoneMarked
none_passes p top = record {
  step = λ i m h has. ((h, has.0), has.1);
  jump = λ l inner h. (tt, h);
  branch = λ o a b one other inner h k. (tt, h);
  end = λ a inner h. (tt, h);
  close = λ m has. none_more p m m.inner has.1 has.0;
  keep = λ m l inner g has h. none_more p m m.inner has.1 has.0;
  stands = λ m has. has.1;
  shut = λ m has. none_more p m m.inner has.1 has.0;
}

-- The earliest earlier names to which names are joined, as instructions join them.
use Rattle.std.proofs.Common.{◌≡◌, ℕ, zero, suc, ◌<◌, ◌≤◌, ◌==◌, inl, inr, ◌⊎◌, Option, Some, None, List, [], ◌∷◌, length, map, get_or, refl, sym, ap, ◌∙◌, subst, arith, replicate}
use Rattle.std.specs.Prelude.{max, min, slice_get}
use Rattle.std.proofs.Math.ListN.{set}
use Rattle.std.proofs.lemmas.Bool.{cases_eq, cases_lt, cond-true, cond-false, eq-eqb, ne_eqb}
use Rattle.std.proofs.lemmas.Bool.Decides.{eqb_tells}
use Rattle.std.proofs.lemmas.List.{length-set, set_past, get_or-set_same, get_or-set_other, get_or-replicate, length-replicate}
use Rattle.graph_core.specs.Graphs.{Name, Constant, StaticAddress, Instruction, Marker, Note, Move, Operate, Truncate, Same, Address, Load, Store, Zero, CopyWords, Call, Block, Graph}
use Rattle.graph_core.specs.Paths.{Among, front, behind}
use Rattle.home_assign.specs.Joins.{AreJoined, IsFirst}
use Rattle.home_assign.specs.Joining.{earliest, with_join, with_copy, with_copies, with_blocks}

-- what it says of joins that this is the earliest earlier name, or that there is none
abbrev pub Told : (ℕ → ℕ → Type 0) → ℕ → Option ℕ → Type 0
Told J k None = (z : ℕ) → z < k → J k z → ⊥
Told J k (Some y) = (y < k) × J k y × ((z : ℕ) → z < k → J k z → y ≤ z)

-- the list says it of each name
pub record Tells (J : ℕ → ℕ → Type 0) (n : ℕ) (first : List (Option ℕ)) : Type 0 where
  pub each : length first ≡ n
  pub at : (k : ℕ) → k < n → Told J k (get_or first k None)

told_same : (J K : ℕ → ℕ → Type 0) (k : ℕ) (o : Option ℕ) → ((z : ℕ) → z < k → J k z → K k z) → ((z : ℕ) → z < k → K k z → J k z) → Told J k o → Told K k o
told_same J K k None there back h = λ z lt c. h z lt (back z lt c)
told_same J K k (Some y) there back h = (h.0, there y h.0 h.1, λ z lt c. h.2 z lt (back z lt c))

pub tells_same : (J K : ℕ → ℕ → Type 0) (n : ℕ) (first : List (Option ℕ)) → ((k z : ℕ) → z < k → J k z → K k z) → ((k z : ℕ) → z < k → K k z → J k z) → Tells J n first → Tells K n first
tells_same J K n first there back h = record { each = h.each; at = λ k lt. told_same J K k (get_or first k None) (there k) (back k) (h.at k lt) }

-- two names are these two
abbrev Pair : (x y : ℕ) → ℕ → ℕ → Type 0
Pair x y k z = ((k ≡ x) × (z ≡ y)) ⊎ ((k ≡ y) × (z ≡ x))

module _ (J : ℕ → ℕ → Type 0) (n : ℕ) (first : List (Option ℕ)) (x y : ℕ) where
  abbrev More : ℕ → ℕ → Type 0
  More k z = J k z ⊎ Pair x y k z

  pair_is : (k z : ℕ) → z < k → Pair x y k z → (k ≡ max x y) × (z ≡ min x y)
  pair_is k z lt (inl h) = (omega (arith, lt, h.0, h.1), omega (arith, lt, h.0, h.1))
  pair_is k z lt (inr h) = (omega (arith, lt, h.0, h.1), omega (arith, lt, h.0, h.1))

  pair_at : (k : ℕ) → k ≡ max x y → Pair x y k (min x y)
  pair_at k e = elim (cases_lt x y) [ inl lt ↦ inr (omega (arith, e, lt), omega (arith, lt)) | inr ge ↦ inl (omega (arith, e, ge), omega (arith, ge)) ]

  later_told : (k : ℕ) → (x ≡ y → ⊥) → k ≡ max x y → (o : Option ℕ) → Told J k o → Told More k (Some (earliest o (min x y)))
  later_told k ne e None h = (
    omega (arith, e, ne),
    inr (pair_at k e),
    (λ z lt c. elim c [ inl j ↦ absurd (h z lt j) | inr p ↦ omega (arith, (pair_is k z lt p).1) ]),
  )
  later_told k ne e (Some w) h = (
    omega (arith, e, ne, h.0),
    elim (cases_lt (min x y) w) [
      | inl lt ↦ inr (let q : min w (min x y) ≡ min x y = omega (arith, lt) in subst (λ z. Pair x y k z) (sym q) (pair_at k e))
      | inr ge ↦ inl (let q : min w (min x y) ≡ w = omega (arith, ge) in subst (λ z. J k z) (sym q) h.1)
    ],
    (λ z lt c. elim c [ inl j ↦ omega (arith, h.2 z lt j) | inr p ↦ omega (arith, (pair_is k z lt p).1) ]),
  )

  join_tells : Tells J n first → Tells More n (with_join first x y)
  join_tells h = elim (eqb_tells x y) [
    | inl same ↦
        subst (Tells More n) (sym (cond-true (x == y) first (set first (max x y) (Some (earliest (get_or first (max x y) None) (min x y)))) same.0))
        (tells_same J More n first (λ k z lt j. inl j) (λ k z lt c. elim c [ inl j ↦ j | inr p ↦ absurd (omega (arith, lt, pair_is k z lt p, same.1)) ]) h)
    | inr other ↦
        subst (Tells More n) (sym (cond-false (x == y) first (set first (max x y) (Some (earliest (get_or first (max x y) None) (min x y)))) other.0))
        (record {
          each = length-set first (max x y) (Some (earliest (get_or first (max x y) None) (min x y))) ∙ h.each;
          at = λ k lt. elim (cases_eq k (max x y)) [
            | inl e ↦
                subst (Told More k) (sym (ap (λ m. get_or (set first m (Some (earliest (get_or first m None) (min x y)))) k None) (sym e) ∙ get_or-set_same first k (Some (earliest (get_or first k None) (min x y))) None (omega (arith, lt, h.each))))
                (later_told k other.1 e (get_or first k None) (h.at k lt))
            | inr ne ↦
                subst (Told More k) (sym (get_or-set_other first (max x y) k (Some (earliest (get_or first (max x y) None) (min x y))) None ne))
                (told_same J More k (get_or first k None) (λ z less j. inl j) (λ z less c. elim c [ inl j ↦ j | inr p ↦ absurd (ne ((pair_is k z less p).0)) ]) (h.at k lt))
          ];
        })
  ]

-- an instruction copies one of two names to the other
abbrev By : Instruction → ℕ → ℕ → Type 0
By i k z = (Move k (Name z) ≡ i) ⊎ (Move z (Name k) ≡ i)

abbrev move_target : Instruction → ℕ
move_target (Move x a) = x
move_target _ = 0

abbrev move_source : Instruction → ℕ
move_source (Move x (Name y)) = y
move_source _ = 0

module _ (J : ℕ → ℕ → Type 0) (n : ℕ) where
  none_by : (first : List (Option ℕ)) (i : Instruction) → ((k z : ℕ) → By i k z → ⊥) → Tells J n first → Tells (λ k z. J k z ⊎ By i k z) n first
  none_by first i never h = tells_same J (λ k z. J k z ⊎ By i k z) n first (λ k z lt j. inl j) (λ k z lt c. elim c [ inl j ↦ j | inr b ↦ absurd (never k z b) ]) h

  copy_tells : (first : List (Option ℕ)) (i : Instruction) → Tells J n first → Tells (λ k z. J k z ⊎ By i k z) n (with_copy i first)
  copy_tells first (Marker p) h = none_by first (Marker p) (λ k z b. elim b [ inl e ↦ cc | inr e ↦ cc ]) h
  copy_tells first (Note x v) h = none_by first (Note x v) (λ k z b. elim b [ inl e ↦ cc | inr e ↦ cc ]) h
  copy_tells first (Move x (Name y)) h =
      tells_same (λ k z. J k z ⊎ Pair x y k z) (λ k z. J k z ⊎ By (Move x (Name y)) k z) n (with_join first x y)
      (λ k z lt c. elim c [
        | inl j ↦ inl j
        | inr (inl p) ↦ inr (inl (ap (λ m. Move m (Name z)) p.0 ∙ ap (λ m. Move x (Name m)) p.1))
        | inr (inr p) ↦ inr (inr (ap (λ m. Move m (Name k)) p.1 ∙ ap (λ m. Move x (Name m)) p.0))
      ])
      (λ k z lt c. elim c [
        | inl j ↦ inl j
        | inr (inl e) ↦ inr (inl (ap move_target e, ap move_source e))
        | inr (inr e) ↦ inr (inr (ap move_source e, ap move_target e))
      ])
      (join_tells J n first x y h)
  copy_tells first (Move x (Constant w)) h = none_by first (Move x (Constant w)) (λ k z b. elim b [ inl e ↦ cc | inr e ↦ cc ]) h
  copy_tells first (Move x (StaticAddress object offset)) h = none_by first (Move x (StaticAddress object offset)) (λ k z b. elim b [ inl e ↦ cc | inr e ↦ cc ]) h
  copy_tells first (Operate x o a b) h = none_by first (Operate x o a b) (λ k z b. elim b [ inl e ↦ cc | inr e ↦ cc ]) h
  copy_tells first (Truncate x t a) h = none_by first (Truncate x t a) (λ k z b. elim b [ inl e ↦ cc | inr e ↦ cc ]) h
  copy_tells first (Same x a b) h = none_by first (Same x a b) (λ k z b. elim b [ inl e ↦ cc | inr e ↦ cc ]) h
  copy_tells first (Address x object) h = none_by first (Address x object) (λ k z b. elim b [ inl e ↦ cc | inr e ↦ cc ]) h
  copy_tells first (Load x e l) h = none_by first (Load x e l) (λ k z b. elim b [ inl e ↦ cc | inr e ↦ cc ]) h
  copy_tells first (Store e l a) h = none_by first (Store e l a) (λ k z b. elim b [ inl e ↦ cc | inr e ↦ cc ]) h
  copy_tells first (Zero object words) h = none_by first (Zero object words) (λ k z b. elim b [ inl e ↦ cc | inr e ↦ cc ]) h
  copy_tells first (CopyWords object bytes words) h = none_by first (CopyWords object bytes words) (λ k z b. elim b [ inl e ↦ cc | inr e ↦ cc ]) h
  copy_tells first (Call x f all) h = none_by first (Call x f all) (λ k z b. elim b [ inl e ↦ cc | inr e ↦ cc ]) h

-- one of these instructions copies one of two names to the other
abbrev Among2 : List Instruction → ℕ → ℕ → Type 0
Among2 all k z = Among (Move k (Name z)) all ⊎ Among (Move z (Name k)) all

abbrev Parts : Instruction → List Instruction → Type 0
Parts a [] = ⊥
Parts a (j ∷ rest) = (a ≡ j) ⊎ Among a rest

parts : (a : Instruction) {every : List Instruction} → Among a every → Parts a every
parts a (front {all}) = inl refl
parts a (behind {b} {all} more) = inr more

among_parts : (a i : Instruction) (all : List Instruction) → Among a (i ∷ all) → (a ≡ i) ⊎ Among a all
among_parts a i all h = parts a h

among_from : (a i : Instruction) (all : List Instruction) → a ≡ i → Among a (i ∷ all)
among_from a i all e = subst (λ j. Among a (j ∷ all)) e front

copies_tell : (J : ℕ → ℕ → Type 0) (n : ℕ) (all : List Instruction) (first : List (Option ℕ)) → Tells J n first → Tells (λ k z. J k z ⊎ Among2 all k z) n (with_copies all first)
copies_tell J n [] first h = tells_same J (λ k z. J k z ⊎ Among2 [] k z) n first (λ k z lt j. inl j) (λ k z lt c. elim c [ inl j ↦ j | inr (inl a) ↦ absurd (none a) | inr (inr a) ↦ absurd (none a) ]) h
  where
    none : {a : Instruction} → Among a [] → ⊥
    none a = elim a [ ]
copies_tell J n (i ∷ more) first h =
    tells_same (λ k z. (J k z ⊎ By i k z) ⊎ Among2 more k z) (λ k z. J k z ⊎ Among2 (i ∷ more) k z) n (with_copies more (with_copy i first))
    (λ k z lt c. elim c [
      | inl (inl j) ↦ inl j
      | inl (inr (inl e)) ↦ inr (inl (among_from (Move k (Name z)) i more e))
      | inl (inr (inr e)) ↦ inr (inr (among_from (Move z (Name k)) i more e))
      | inr (inl a) ↦ inr (inl (behind a))
      | inr (inr a) ↦ inr (inr (behind a))
    ])
    (λ k z lt c. elim c [
      | inl j ↦ inl (inl j)
      | inr (inl a) ↦ elim (among_parts (Move k (Name z)) i more a) [ inl e ↦ inl (inr (inl e)) | inr m ↦ inr (inl m) ]
      | inr (inr a) ↦ elim (among_parts (Move z (Name k)) i more a) [ inl e ↦ inl (inr (inr e)) | inr m ↦ inr (inr m) ]
    ])
    (copies_tell (λ k z. J k z ⊎ By i k z) n more (with_copy i first) (copy_tells J n first i h))

-- one of these blocks does
abbrev InBlocks : List Block → ℕ → ℕ → Type 0
InBlocks blocks k z = (m : ℕ) × (b : Block) × (slice_get blocks m ≡ Some b) × Among2 b.instructions k z

blocks_tell : (J : ℕ → ℕ → Type 0) (n : ℕ) (blocks : List Block) (first : List (Option ℕ)) → Tells J n first → Tells (λ k z. J k z ⊎ InBlocks blocks k z) n (with_blocks blocks first)
blocks_tell J n [] first h = tells_same J (λ k z. J k z ⊎ InBlocks [] k z) n first (λ k z lt j. inl j) (λ k z lt c. elim c [ inl j ↦ j | inr b ↦ absurd (none b.0 b.1 b.2) ]) h
  where
    none : (m : ℕ) (b : Block) → slice_get [] m ≡ Some b → ⊥
    none m b e = cc
blocks_tell J n (d ∷ more) first h =
    tells_same (λ k z. (J k z ⊎ Among2 d.instructions k z) ⊎ InBlocks more k z) (λ k z. J k z ⊎ InBlocks (d ∷ more) k z) n (with_blocks more (with_copies d.instructions first))
    (λ k z lt c. elim c [
      | inl (inl j) ↦ inl j
      | inl (inr a) ↦ inr (0, d, refl, a)
      | inr b ↦ inr (suc b.0, b.1, b.2, b.3)
    ])
    (λ k z lt c. elim c [
      | inl j ↦ inl (inl j)
      | inr b ↦ here k z b.0 b.1 b.2 b.3
    ])
    (blocks_tell (λ k z. J k z ⊎ Among2 d.instructions k z) n more (with_copies d.instructions first) (copies_tell J n d.instructions first h))
  where
    here : (k z m : ℕ) (b : Block) → slice_get (d ∷ more) m ≡ Some b → Among2 b.instructions k z → (J k z ⊎ Among2 d.instructions k z) ⊎ InBlocks more k z
    here k z zero b is a = let same : d ≡ b = cc in inl (inr (subst (λ c. Among2 c.instructions k z) (sym same) a))
    here k z (suc m) b is a = inr (m, b, is, a)

-- The list that the instructions of a graph make of one without any join.
pub first_told : (g : Graph) (first : List (Option ℕ)) → first ≡ with_blocks g.blocks (replicate g.name_count None) → (length first ≡ g.name_count) × ((x : ℕ) → x < g.name_count → IsFirst g x (get_or first x None))
first_told g first is = (told.each, λ x lt. conclude x (get_or first x None) (told.at x lt))
  where
    none : Tells (λ k z. ⊥) g.name_count (replicate g.name_count None)
    none = record { each = length-replicate g.name_count None; at = λ k less. subst (Told (λ k z. ⊥) k) (sym (get_or-replicate g.name_count k None None less)) (λ z l c. c) }

    told : Tells (λ k z. ⊥ ⊎ InBlocks g.blocks k z) g.name_count first
    told = subst (Tells (λ k z. ⊥ ⊎ InBlocks g.blocks k z) g.name_count) (sym is) (blocks_tell (λ k z. ⊥) g.name_count g.blocks (replicate g.name_count None) none)

    in_blocks : (x y : ℕ) → AreJoined g x y → InBlocks g.blocks x y
    in_blocks x y j = (j.n, j.b, j.is, j.copies)

    are_joined : (x y : ℕ) → InBlocks g.blocks x y → AreJoined g x y
    are_joined x y b = record { n = b.0; b = b.1; is = b.2; copies = b.3 }

    conclude : (x : ℕ) (o : Option ℕ) → Told (λ k z. ⊥ ⊎ InBlocks g.blocks k z) x o → IsFirst g x o
    conclude x None h = λ y less j. h y less (inr (in_blocks x y j))
    conclude x (Some y) h = record {
      earlier_one = h.0;
      joined = elim h.1 [ inl never ↦ absurd never | inr b ↦ are_joined x y b ];
      first = λ z less j. h.2 z less (inr (in_blocks x z j));
    }

-- of no block left
pub blocks_done : {A : Type 0} (view : A → Block) (left : List A) (first made : List (Option ℕ)) → length left < 1 → with_blocks (map view left) first ≡ made → first ≡ made
blocks_done view [] first made lt e = e
blocks_done view (b ∷ left) first made lt e = absurd (omega (arith, lt))

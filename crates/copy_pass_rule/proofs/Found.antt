-- One copy more is found, or one point more at which none is made.
use Rattle.std.proofs.Common.{◌≡◌, ◌≢◌, ℕ, zero, suc, ◌+◌, ◌<◌, ◌≤◌, ◌⊎◌, inl, inr, Bool, true, false, true≢false, Option, Some, None, List, [], ◌∷◌, ◌++◌, length, map, refl, sym, ap, ◌∙◌, subst, arith, length-append}
use Rattle.std.specs.Prelude.{◌==◌, ◌&&◌, slice_get}
use Rattle.std.proofs.lemmas.Bool.{and_parts, eq-eqb, eqb-true, cases_eq}
use Rattle.std.proofs.lemmas.List.{length-map}
use Rattle.std.proofs.lemmas.Option.{slice_get_within, same_Some, none-some}
use Rattle.std.proofs.Math.Path.{fun_ext}
use Rattle.base_laws.proofs.Lists.{snoc_old, snoc_new}
use Rattle.graph_core.specs.Graphs.{Instruction, Move, Name, Block, Graph}
use Rattle.graph_core.specs.Uses.{target_of}
use Rattle.copy_pass_rule.specs.declared.copies.CopyAt.{CopyAt}
use Rattle.copy_pass_rule.specs.Copying.{AreOfOneType, reading}
use Rattle.copy_pass_rule.specs.Flow.{Line, lines_of, stands_at, Bits, AreFound, IsKnown, missing_where, source_among}
use Rattle.copy_pass_rule.specs.Found.{AreApart, AreWithin, AreNumerable, AreMissingAt, IsKnownAt, AreCopiesOf}
use Rattle.copy_pass_rule.specs.Known.{IsNoCopy}
use Rattle.copy_pass_rule.specs.Numbered.{AreOfScalars}
use Rattle.copy_pass_rule.proofs.LaterCopies.{found_of_first, missed_told, source_same, source_snoc}

pub snoc_cases : {A : Type 0} (xs : List A) (y z : A) (k : ℕ) → slice_get (xs ++ y ∷ []) k ≡ Some z → (slice_get xs k ≡ Some z) ⊎ ((k ≡ length xs) × (y ≡ z))
snoc_cases [] y z zero at = inr (refl, same_Some y z at)
snoc_cases [] y z (suc k) at = absurd (none-some z at)
snoc_cases (x ∷ xs) y z zero at = inl at
snoc_cases (x ∷ xs) y z (suc k) at = elim (snoc_cases xs y z k at) [ inl f ↦ inl f | inr f ↦ inr (ap suc f.0, f.1) ]

abbrev pub tail : {A : Type 0} → List A → List A
tail [] = []
tail (x ∷ xs) = xs

-- where as many stand behind, the same stand there
pub same_rest : {A : Type 0} (before others rest later : List A) (i j : A) → before ++ i ∷ rest ≡ others ++ j ∷ later → length rest ≡ length later → (i ∷ rest) ≡ (j ∷ later)
same_rest [] [] rest later i j e long = e
same_rest [] (y ∷ others) rest later i j e long =
    (let whole : length (i ∷ rest) ≡ length (y ∷ (others ++ j ∷ later)) = ap length e in
    let parts : length (others ++ j ∷ later) ≡ length others + length (j ∷ later) = length-append others (j ∷ later) in
    absurd (omega (arith, whole, parts, long)))
same_rest (x ∷ before) [] rest later i j e long =
    (let whole : length (x ∷ (before ++ i ∷ rest)) ≡ length (j ∷ later) = ap length e in
    let parts : length (before ++ i ∷ rest) ≡ length before + length (i ∷ rest) = length-append before (i ∷ rest) in
    absurd (omega (arith, whole, parts, long)))
same_rest (x ∷ before) (y ∷ others) rest later i j e long = same_rest before others rest later i j (ap tail e) long

same_bit : (a b : Bool) → (a ≡ true → b ≡ true) → (b ≡ true → a ≡ true) → a ≡ b
same_bit true true f g = refl
same_bit true false f g = sym (f refl)
same_bit false true f g = g refl
same_bit false false f g = refl

point_is : (c : CopyAt) (n left : ℕ) → stands_at c n left ≡ true → (n ≡ c.block) × (left ≡ c.left)
point_is c n left e = (let both = and_parts (n == c.block) (left == c.left) e in (eqb-true n c.block both.0, eqb-true left c.left both.1))

point_at : (c : CopyAt) (n left : ℕ) → n ≡ c.block → left ≡ c.left → stands_at c n left ≡ true
point_at c n left block there = ap (λ z. z && (left == c.left)) (eq-eqb n c.block block) ∙ eq-eqb left c.left there

-- what is missing is told once
pub same_bits : (lines : List Line) (copies : List CopyAt) (bits others : Bits) → AreFound lines copies bits → AreFound lines copies others → (n k : ℕ) (c : CopyAt) → n < length lines → slice_get copies k ≡ Some c → bits n (suc k) ≡ others n (suc k)
same_bits lines copies bits others one two n k c lt at =
    same_bit (bits n (suc k)) (others n (suc k)) (λ e. missed_told lines copies others two k c at (one.is_missed n k c lt at e) lt) (λ e. missed_told lines copies bits one k c at (two.is_missed n k c lt at e) lt)

-- the copies of the next instruction are known
abbrev KnownNext : Graph → List CopyAt → Bits → (n : ℕ) → Block → List Instruction → Type 0
KnownNext g copies bits n b [] = ⊥
KnownNext g copies bits n b (i ∷ rest) = IsKnownAt g copies bits n b i rest

module _ (g : Graph) where
  -- The copies that are made at points that are done: they are known there.
  pub record AreFoundTo (Done : (n left : ℕ) → Type 0) (found : List CopyAt) : Type 0 where
    pub numerable : AreNumerable found (length g.blocks) (length g.scalars)
    pub own : (k : ℕ) (c : CopyAt) → slice_get found k ≡ Some c → Done c.block c.left
    pub known : (bits : Bits) → AreFound (lines_of g.blocks) found bits → (n : ℕ) (b : Block) (before rest : List Instruction) (i : Instruction) → slice_get g.blocks n ≡ Some b → b.instructions ≡ before ++ i ∷ rest → Done n (length rest)
        → IsKnownAt g found bits n b i rest

  -- these, and one point more
  abbrev pub And : (Done : (n left : ℕ) → Type 0) → (block there : ℕ) → (n left : ℕ) → Type 0
  And Done block there n left = Done n left ⊎ ((n ≡ block) × (left ≡ there))

  module _ (Done : (n left : ℕ) → Type 0) (found : List CopyAt) (so_far : AreFoundTo Done found) (n : ℕ) (b : Block) (before rest : List Instruction) (i : Instruction) (at : slice_get g.blocks n ≡ Some b) (parts : b.instructions ≡ before ++ i ∷ rest)
      (fresh : Done n (length rest) → ⊥) (bits : Bits) (is : AreFound (lines_of g.blocks) found bits) (missing : ℕ → Bool) (are : AreMissingAt found bits n b (i ∷ rest) missing) where
    abbrev made : Instruction
    made = reading (source_among found missing 0) i

    inside : n < length (lines_of g.blocks)
    inside = (let lt : n < length g.blocks = slice_get_within g.blocks n b at in let long : length (lines_of g.blocks) ≡ length g.blocks = length-map g.blocks _ in omega (arith, lt, long))

    -- it is read the same by any bits
    same_made : (others : Bits) → AreFound (lines_of g.blocks) found others → (m : ℕ → Bool) → AreMissingAt found others n b (i ∷ rest) m → reading (source_among found m 0) i ≡ made
    same_made others found_too m so = ap (λ f. reading f i) (fun_ext (λ x. source_same found m missing 0 x (λ k c there. at_zero m k (so k c there ∙ ap (missing_where c n (length (i ∷ rest)) (map target_of b.instructions)) (same_bits (lines_of g.blocks) found others bits found_too is n k c inside there) ∙ sym (are k c there)))))
      where
        at_zero : (m : ℕ → Bool) (k : ℕ) → m k ≡ missing k → m (0 + k) ≡ missing (0 + k)
        at_zero m k e = (let z : 0 + k ≡ k = omega arith in ap m z ∙ e ∙ ap missing (sym z))

    none_stands : (k : ℕ) (c : CopyAt) → slice_get found k ≡ Some c → stands_at c n (length rest) ≡ true → ⊥
    none_stands k c there stands = (let p = point_is c n (length rest) stands in fresh (subst (λ l. Done n l) (sym p.1) (subst (λ m. Done m c.left) (sym p.0) (so_far.own k c there))))

    -- the instruction that stands at the point
    here_is : (d : Block) (front later : List Instruction) (j : Instruction) → slice_get g.blocks n ≡ Some d → d.instructions ≡ front ++ j ∷ later → length later ≡ length rest → (b ≡ d) × ((i ∷ rest) ≡ (j ∷ later))
    here_is d front later j there split long =
        let same : b ≡ d = same_Some b d (sym at ∙ there) in
        (same, same_rest before front rest later i j (sym parts ∙ ap (λ (e : Block). e.instructions) same ∙ split) (sym long))

    -- no copy is made there
    pub found_none : IsNoCopy g.scalars made → AreFoundTo (And Done n (length rest)) found
    found_none never = record {
      numerable = so_far.numerable;
      own = λ k c there. inl (so_far.own k c there);
      known = λ others found_too m d front later j there split done. elim done [
        | inl old ↦ so_far.known others found_too m d front later j there split old
        | inr new ↦ at_new others found_too m d front later j there split new.0 new.1
      ];
    }
      where
        at_new : (others : Bits) → AreFound (lines_of g.blocks) found others → (k : ℕ) (d : Block) (front later : List Instruction) (j : Instruction) → slice_get g.blocks k ≡ Some d → d.instructions ≡ front ++ j ∷ later → k ≡ n → length later ≡ length rest
            → IsKnownAt g found others k d j later
        at_new others found_too k d front later j there split q long =
            let is_here = here_is d front later j (subst (λ m. slice_get g.blocks m ≡ Some d) q there) split long in
            subst (λ m. IsKnownAt g found others m d j later) (sym q) (subst (λ (e : Block). IsKnownAt g found others n e j later) is_here.0 (moved is_here.1))
          where
            own_point : IsKnownAt g found others n b i rest
            own_point = λ m so. record {
              listed = λ l c stood stands. absurd (none_stands l c stood stands);
              all = λ x y e typed. absurd (never x y (sym (same_made others found_too m so) ∙ e) typed);
            }

            moved : (i ∷ rest) ≡ (j ∷ later) → IsKnownAt g found others n b j later
            moved e = subst (λ (js : List Instruction). KnownNext g found others n b js) e own_point

    -- a copy is made there, that is missing at all points that are done
    pub found_one : (c : CopyAt) → c.block ≡ n → c.left ≡ length rest → made ≡ Move c.target (Name c.source) → AreOfOneType g.scalars c.target c.source
        → ((others : Bits) → AreFound (lines_of g.blocks) (found ++ c ∷ []) others → (k : ℕ) (d : Block) (front later : List Instruction) (j : Instruction) → slice_get g.blocks k ≡ Some d → d.instructions ≡ front ++ j ∷ later
        → And Done n (length rest) k (length later) → missing_where c k (length (j ∷ later)) (map target_of d.instructions) (others k (suc (length found))) ≡ true)
        → AreFoundTo (And Done n (length rest)) (found ++ c ∷ [])
    found_one c block left makes typed later_missing = record {
      numerable = record {
        apart = λ j k one two at_one at_two same_block same_left. elim (snoc_cases found c one j at_one) [
          | inl old ↦ elim (snoc_cases found c two k at_two) [
            | inl older ↦ so_far.numerable.apart j k one two old older same_block same_left
            | inr new ↦ absurd (apart_of j one old (same_block ∙ sym (ap (λ (e : CopyAt). e.block) new.1)) (same_left ∙ sym (ap (λ (e : CopyAt). e.left) new.1)))
          ]
          | inr new ↦ elim (snoc_cases found c two k at_two) [
            | inl older ↦ absurd (apart_of k two older (sym same_block ∙ sym (ap (λ (e : CopyAt). e.block) new.1)) (sym same_left ∙ sym (ap (λ (e : CopyAt). e.left) new.1)))
            | inr newer ↦ new.0 ∙ sym newer.0
          ]
        ];
        within = λ k d there. elim (snoc_cases found c d k there) [
          | inl old ↦ so_far.numerable.within k d old
          | inr new ↦ subst (λ (e : CopyAt). e.block < length g.blocks) new.1 (subst (λ m. m < length g.blocks) (sym block) (slice_get_within g.blocks n b at))
        ];
        of_scalars = λ k d there. elim (snoc_cases found c d k there) [
          | inl old ↦ so_far.numerable.of_scalars k d old
          | inr new ↦ subst (λ (e : CopyAt). (e.target < length g.scalars) × (e.source < length g.scalars)) new.1 (slice_get_within g.scalars c.target typed.target typed.target_is, slice_get_within g.scalars c.source typed.source typed.source_is)
        ];
      };
      own = λ k d there. elim (snoc_cases found c d k there) [
        | inl old ↦ inl (so_far.own k d old)
        | inr new ↦ inr (sym (ap (λ (e : CopyAt). e.block) new.1) ∙ block, sym (ap (λ (e : CopyAt). e.left) new.1) ∙ left)
      ];
      known = λ others found_too m d front later j there split done. elim done [
        | inl old ↦ at_old others found_too m d front later j there split old
        | inr new ↦ at_new others found_too m d front later j there split new.0 new.1
      ];
    }
      where
        apart_of : (k : ℕ) (d : CopyAt) → slice_get found k ≡ Some d → d.block ≡ c.block → d.left ≡ c.left → ⊥
        apart_of k d there e l = none_stands k d there (point_at d n (length rest) (sym block ∙ sym e) (sym left ∙ sym l))

        first_of : {others : Bits} → AreFound (lines_of g.blocks) (found ++ c ∷ []) others → AreFound (lines_of g.blocks) found others
        first_of {others} whole = found_of_first (lines_of g.blocks) found (c ∷ []) others whole

        first_missing : (others : Bits) (k : ℕ) (d : Block) (js : List Instruction) (m : ℕ → Bool) → AreMissingAt (found ++ c ∷ []) others k d js m → AreMissingAt found others k d js m
        first_missing others k d js m so l e there = so l e (snoc_old found (c ∷ []) l e there)

        last_missing : (others : Bits) → AreFound (lines_of g.blocks) (found ++ c ∷ []) others → (k : ℕ) (d : Block) (front later : List Instruction) (j : Instruction) → slice_get g.blocks k ≡ Some d → d.instructions ≡ front ++ j ∷ later
            → And Done n (length rest) k (length later) → (m : ℕ → Bool) → AreMissingAt (found ++ c ∷ []) others k d (j ∷ later) m → m (0 + length found) ≡ true
        last_missing others whole k d front later j there split done m so =
            (let z : 0 + length found ≡ length found = omega arith in ap m z ∙ so (length found) c (snoc_new found c) ∙ later_missing others whole k d front later j there split done)

        same_reading : (others : Bits) → AreFound (lines_of g.blocks) (found ++ c ∷ []) others → (k : ℕ) (d : Block) (front later : List Instruction) (j : Instruction) → slice_get g.blocks k ≡ Some d → d.instructions ≡ front ++ j ∷ later
            → And Done n (length rest) k (length later) → (m : ℕ → Bool) → AreMissingAt (found ++ c ∷ []) others k d (j ∷ later) m → reading (source_among (found ++ c ∷ []) m 0) j ≡ reading (source_among found m 0) j
        same_reading others whole k d front later j there split done m so =
            ap (λ f. reading f j) (fun_ext (λ x. source_snoc found c m 0 x (last_missing others whole k d front later j there split done m so)))

        at_old : (others : Bits) → AreFound (lines_of g.blocks) (found ++ c ∷ []) others → (k : ℕ) (d : Block) (front later : List Instruction) (j : Instruction) → slice_get g.blocks k ≡ Some d → d.instructions ≡ front ++ j ∷ later
            → Done k (length later) → IsKnownAt g (found ++ c ∷ []) others k d j later
        at_old others whole k d front later j there split done m so =
            let was : IsKnown g.scalars found k (length later) (reading (source_among found m 0) j) = so_far.known others (first_of whole) k d front later j there split done m (first_missing others k d (j ∷ later) m so) in
            subst (λ i. IsKnown g.scalars (found ++ c ∷ []) k (length later) i) (sym (same_reading others whole k d front later j there split (inl done) m so)) (record {
              listed = λ l e stood stands. elim (snoc_cases found c e l stood) [
                | inl old ↦ was.listed l e old stands
                | inr new ↦ (let p = point_is e k (length later) stands in
                    absurd (fresh (subst (λ x. Done n x) (p.1 ∙ sym (ap (λ (y : CopyAt). y.left) new.1) ∙ left) (subst (λ x. Done x (length later)) (p.0 ∙ sym (ap (λ (y : CopyAt). y.block) new.1) ∙ block) done))))
              ];
              all = λ x y e one. (let f = was.all x y e one in (f.0, f.1, snoc_old found (c ∷ []) f.0 f.1 f.2, f.3, f.4, f.5));
            })

        own_point : (others : Bits) → AreFound (lines_of g.blocks) (found ++ c ∷ []) others → IsKnownAt g (found ++ c ∷ []) others n b i rest
        own_point others whole m so =
            let same : reading (source_among (found ++ c ∷ []) m 0) i ≡ made = same_reading others whole n b before rest i at parts (inr (refl, refl)) m so ∙ same_made others (first_of whole) m (first_missing others n b (i ∷ rest) m so) in
            subst (λ i. IsKnown g.scalars (found ++ c ∷ []) n (length rest) i) (sym same) (record {
              listed = λ l e stood stands. elim (snoc_cases found c e l stood) [
                | inl old ↦ absurd (none_stands l e old stands)
                | inr new ↦ subst (λ (d : CopyAt). (made ≡ Move d.target (Name d.source)) × AreOfOneType g.scalars d.target d.source) new.1 (makes, typed)
              ];
              all = λ x y e one. (let both : Move c.target (Name c.source) ≡ Move x (Name y) = sym makes ∙ e in
                  let to : c.target ≡ x = cc in
                  let from : c.source ≡ y = cc in
                  (length found, c, snoc_new found c, point_at c n (length rest) (sym block) (sym left), to, from));
            })

        at_new : (others : Bits) → AreFound (lines_of g.blocks) (found ++ c ∷ []) others → (k : ℕ) (d : Block) (front later : List Instruction) (j : Instruction) → slice_get g.blocks k ≡ Some d → d.instructions ≡ front ++ j ∷ later → k ≡ n
            → length later ≡ length rest → IsKnownAt g (found ++ c ∷ []) others k d j later
        at_new others whole k d front later j there split q long =
            let is_here = here_is d front later j (subst (λ m. slice_get g.blocks m ≡ Some d) q there) split long in
            subst (λ m. IsKnownAt g (found ++ c ∷ []) others m d j later) (sym q) (subst (λ (e : Block). IsKnownAt g (found ++ c ∷ []) others n e j later) is_here.0 (moved is_here.1))
          where
            moved : (i ∷ rest) ≡ (j ∷ later) → IsKnownAt g (found ++ c ∷ []) others n b j later
            moved e = subst (λ (js : List Instruction). KnownNext g (found ++ c ∷ []) others n b js) e (own_point others whole)

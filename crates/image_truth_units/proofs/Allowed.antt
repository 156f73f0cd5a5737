-- Instructions write scalars that their place may write, and note these alone, each by itself.
use Rattle.std.proofs.Common.{◌≡◌, ℕ, ◌≤◌, ◌<◌, true, false, Option, Some, None, List, [], ◌∷◌, ◌++◌, refl, sym, ◌∙◌, subst, arith, ◌==◌}
use Rattle.std.specs.List.{AllByRecursion}
use Rattle.graph_core.specs.Graphs.{Instruction, Marker, Note, Is, Of, Name, Move, Operate, Truncate, Same, Address, Load, Store, Zero, CopyWords, Call, Block}
use Rattle.graph_core.specs.Uses.{target_of, is_computation}
use Rattle.graph_core.specs.Paths.{writes}
use Rattle.graph_build_steps.specs.Drafts.{Made}
use Rattle.image_truth_units.proofs.Rules.{no_name, IsNoting}
use Rattle.image_truth_units.proofs.Standing.{writes_target}
use Rattle.base_laws.proofs.Numbers.{are_equal as same_name, false_true}

-- a note is of the scalar itself, which may be written
abbrev pub IsRightNote : (may : ℕ → Type 0) → Instruction → Type 0
IsRightNote may (Note x v) = (v ≡ Is (Of (Name x))) × may x
IsRightNote may _ = Unit {0}

pub record Allowed (scalars : ℕ) (may : ℕ → Type 0) (i : Instruction) : Type 0 where
  pub writes_may : (x : ℕ) → x < scalars → writes x i ≡ true → may x
  pub note : IsRightNote may i

-- instructions are
abbrev pub AllAllowed : (scalars : ℕ) → (may : ℕ → Type 0) → List Instruction → Type 0
AllAllowed scalars may all = AllByRecursion (Allowed scalars may) all

-- a block that keeps a place is
abbrev pub BlockAllowed : (scalars : ℕ) → (may : ℕ → ℕ → Type 0) → Block → Type 0
BlockAllowed scalars may b = (p : ℕ) × (b.place ≡ Some p) × AllAllowed scalars (may p) b.instructions

abbrev pub BlocksAllowed : (scalars : ℕ) → (may : ℕ → ℕ → Type 0) → List Block → Type 0
BlocksAllowed scalars may all = AllByRecursion (BlockAllowed scalars may) all

right_note : (may : ℕ → Type 0) (i : Instruction) → is_computation i ≡ true → IsRightNote may i
right_note may (Marker p) h = tt
right_note may (Note y v) h = cc
right_note may (Move y a) h = tt
right_note may (Operate y o a b) h = tt
right_note may (Truncate y t a) h = tt
right_note may (Same y a b) h = tt
right_note may (Address y o) h = tt
right_note may (Load y e l) h = tt
right_note may (Store e l a) h = tt
right_note may (Zero o k) h = tt
right_note may (CopyWords o b k) h = tt
right_note may (Call y f all) h = tt

module _ (scalars : ℕ) (may : ℕ → ℕ → Type 0) (place top : ℕ) where
  -- a name that was written may be written, if it is a scalar's
  abbrev pub MayName : Option ℕ → Type 0
  MayName None = Unit {0}
  MayName (Some z) = z < scalars → may place z

  abbrev pub HasAllowed : Option ℕ → Made → Type 0
  HasAllowed w m = AllAllowed scalars (may place) m.ops × BlocksAllowed scalars may m.inner × MayName w

  abbrev pub LeadsAllowed : (label : ℕ) → List Block → Type 0
  LeadsAllowed l inner = BlocksAllowed scalars may inner

  abbrev pub StandAllowed : List Block → Type 0
  StandAllowed inner = BlocksAllowed scalars may inner

  one_more : (xs : List Block) (b : Block) → BlocksAllowed scalars may xs → BlockAllowed scalars may b → BlocksAllowed scalars may (xs ++ b ∷ [])
  one_more [] b h k = (k, tt)
  one_more (x ∷ xs) b h k = (h.0, one_more xs b h.1 k)

  shut_allowed : (m : Made) → HasAllowed None m → BlocksAllowed scalars may (m.inner ++ record { place = Some place; instructions = m.ops; end = m.end } ∷ [])
  shut_allowed m h = one_more m.inner (record { place = Some place; instructions = m.ops; end = m.end }) h.1 (place, refl, h.0)

  writing : (i : Instruction) (z : ℕ) → IsRightNote (may place) i → ((x : ℕ) → writes x i ≡ (z == x)) → (z < scalars → may place z) → Allowed scalars (may place) i
  writing i z right w k = record { writes_may = λ x lt e. (let same = same_name z x (sym (w x) ∙ e) in subst (may place) same (k (omega (arith, lt, same)))); note = right }

  computing : (i : Instruction) (z : ℕ) → is_computation i ≡ true → target_of i ≡ Some z → (z < scalars → may place z) → Allowed scalars (may place) i
  computing i z comp tgt k = writing i z (right_note (may place) i comp) (λ x. writes_target x z i tgt) k

  -- an instruction that writes no name
  silent : (i : Instruction) → IsRightNote (may place) i → ((x : ℕ) → writes x i ≡ false) → Allowed scalars (may place) i
  silent i right w = record { writes_may = λ x lt e. absurd (false_true (sym (w x) ∙ e)); note = right }

  pub note_allowed : (z : ℕ) → may place z → Allowed scalars (may place) (Note z (Is (Of (Name z))))
  note_allowed z k = silent (Note z (Is (Of (Name z)))) (refl, k) (λ x. refl)

  no_scalar : (z : ℕ) → scalars ≤ z → z < scalars → may place z
  no_scalar z le lt = absurd (omega (arith, le, lt))

  pub allowed_noting : IsNoting scalars place top no_name (may place) HasAllowed LeadsAllowed StandAllowed
  allowed_noting = record {
    write = λ i z m comp tgt c k. (let h = k refl in ((computing i z comp tgt h.2, h.0), h.1, tt));
    fresh = λ z m le h. (h.0, h.1, no_scalar z le);
    pass = λ w i z m comp tgt le c k. (let h = k refl in ((computing i z comp tgt (no_scalar z le), h.0), h.1, h.2));
    store = λ w el l a m c h. ((silent (Store el l a) tt (λ x. refl), h.0), h.1, h.2);
    change = λ w i z m comp tgt off own c h. ((computing i z comp tgt (λ lt. own), (note_allowed z own, h.0)), h.1, h.2);
    noted = λ z m own h. ((note_allowed z own, h.0), h.1, λ lt. own);
    zero = λ o k m h. ((silent (Zero o k) tt (λ x. refl), h.0), h.1, tt);
    copy = λ o d k m h. ((silent (CopyWords o d k) tt (λ x. refl), h.0), h.1, tt);
    call = λ z f all m c k. (let h = k refl in ((writing (Call (Some z) f all) z tt (λ x. refl) h.2, h.0), h.1, tt));
    call_none = λ f all m c h. ((silent (Call None f all) tt (λ x. refl), h.0), h.1, tt);
    jump = λ l inner h. (tt, h, tt);
    branch = λ o a d one other inner s r h k. (tt, h, tt);
    end = λ a inner c h. (tt, h, tt);
    close = λ m h. shut_allowed m h;
    keep = λ m l inner g has h. shut_allowed m has;
    made = λ m h. h.1;
    shut = λ m h. shut_allowed m h;
  }

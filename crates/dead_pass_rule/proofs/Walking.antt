-- Walks back over blocks, and what they tell.
use Rattle.std.proofs.Common.{◌≡◌, ℕ, suc, ◌+◌, ◌<◌, ◌≤◌, ◌⊎◌, inl, inr, Bool, true, false, Some, List, [], ◌∷◌, ◌++◌, length, refl, sym, ap, ◌∙◌, subst, arith}
use Rattle.std.specs.Prelude.{◌&&◌, ◌||◌, not, slice_index_or}
use Rattle.std.proofs.lemmas.Bool.{and_parts, or_cases, or_left, or_right}
use Rattle.graph_core.specs.Graphs.{Instruction, End, Block}
use Rattle.graph_core.specs.Uses.{target_of, targets_of, reads_of_end}
use Rattle.graph_core.specs.Paths.{Among, reads, writes}
use Rattle.graph_paths.specs.declared.marks.Marks.{Marks}
use Rattle.graph_paths.specs.PathMarksTable.{bits_of}
use Rattle.dead_pass_rule.specs.Asking.{Turns, is_going, is_gone, IsAsked, by_end, next, later, leads, TellsAsked}
use Rattle.dead_pass_rule.specs.Walks.{IsTable, AreSameBut, AreSameBelow, AreAsked, IsToldOfOne}
use Rattle.dead_pass_rule.proofs.Certificate.{tells_more, tells_on_going}

-- Of each name it is told at least where something asks for it that stays, and just there where so it is told of blocks: at the end of a block, and before one instruction more.
module _ (turns : Turns) (blocks names n : ℕ) (e : End) (first now : Marks) where
  abbrev Tells : (now : Marks) → List Instruction → Type 0
  Tells now rest = (x : ℕ) → x < names → TellsAsked turns (λ l. bits_of first l x) blocks x n (bits_of now blocks x) rest e

  pub tells_first : ((l : ℕ) → l < blocks → Among l (targets_of e) → (x : ℕ) → x < names → bits_of first l x ≡ true → bits_of now blocks x ≡ true)
      → ((x : ℕ) → x < names → Among x (reads_of_end e) → bits_of now blocks x ≡ true) → Tells now []
  tells_first come read x lt = ((λ among. read x lt among), (λ l small to was. come l small to x lt was))

  pub asked_first : ((x : ℕ) → x < names → bits_of now blocks x ≡ true → Among x (reads_of_end e) ⊎ IsToldOfOne blocks e first x)
      → (all : List Block) → AreAsked turns all blocks names first → (x : ℕ) → x < names → bits_of now blocks x ≡ true → IsAsked turns all x n [] e
  asked_first only all are x lt b = elim (only x lt b) [
    | inl among ↦ by_end among
    | inr one ↦ (let there = are one.l x one.within lt one.told in leads there.block one.among there.is there.asked)
  ]

  module _ (more : Marks) (i : Instruction) (rest : List Instruction) (gone : Bool) (is : gone ≡ is_gone turns n (length rest) i)
      (step : (x : ℕ) → x < names → bits_of more blocks x ≡ ((not gone && reads x i) || (not (writes x i) && bits_of now blocks x))) where
    pub tells_next : Tells now rest → Tells more (i ∷ rest)
    tells_next tells x lt = (
      (λ a. step x lt ∙ or_left (not gone && reads x i) (not (writes x i) && bits_of now blocks x) (ap (λ z. not z && reads x i) is ∙ a)),
      (λ unwritten. tells_more turns [] (λ l. bits_of first l x) blocks x n (bits_of now blocks x) (bits_of more blocks x) rest e
          (λ was. step x lt ∙ or_right (not gone && reads x i) (not (writes x i) && bits_of now blocks x) (ap (λ z. not z && bits_of now blocks x) unwritten ∙ was)) (tells x lt)),
    )

    pub asked_next : (all : List Block) → ((x : ℕ) → x < names → bits_of now blocks x ≡ true → IsAsked turns all x n rest e) → (x : ℕ) → x < names → bits_of more blocks x ≡ true → IsAsked turns all x n (i ∷ rest) e
    asked_next all asked x lt b = by_part (or_cases (not gone && reads x i) (not (writes x i) && bits_of now blocks x) (sym (step x lt) ∙ b))
      where
        not_not : (z : Bool) → not z ≡ true → z ≡ false
        not_not true q = sym q
        not_not false q = refl

        by_part : (((not gone && reads x i) ≡ true) ⊎ ((not (writes x i) && bits_of now blocks x) ≡ true)) → IsAsked turns all x n (i ∷ rest) e
        by_part (inl a) = next (ap (λ z. not z && reads x i) (sym is) ∙ a)
        by_part (inr later_on) = (let both = and_parts (not (writes x i)) (bits_of now blocks x) later_on in later (not_not (writes x i) both.0) (asked x lt both.1))

-- where a write goes that nothing asks for, nothing more is asked for
pub walked_going : (turns more : Turns) (blocks names n : ℕ) (e : End) (first now : Marks) (rest : List Instruction) → ((m k : ℕ) → is_going turns m k ≡ true → is_going more m k ≡ true)
    → ((x : ℕ) → x < names → TellsAsked turns (λ l. bits_of first l x) blocks x n (bits_of now blocks x) rest e) → (x : ℕ) → x < names → TellsAsked more (λ l. bits_of first l x) blocks x n (bits_of now blocks x) rest e
walked_going turns more blocks names n e first now rest f tells x lt = tells_on_going turns more f (λ l. bits_of first l x) blocks x n (bits_of now blocks x) rest e (tells x lt)

-- the rows stay in order where that of a walk changes
pub table_but : (blocks names : ℕ) (old new : Marks) → IsTable blocks names old → new.count ≡ old.count → new.width ≡ old.width → AreSameBut blocks old new → IsTable blocks names new
table_but blocks names old new table count width others = record {
  count = count ∙ table.count;
  width = width ∙ table.width;
  zero_row = λ bit. others (blocks + 1) bit (λ q. omega (arith, q)) ∙ table.zero_row bit;
}

-- what is told of one of the blocks behind an end was told before
pub one_kept : (blocks : ℕ) (e : End) (old new : Marks) (x : ℕ) → AreSameBelow blocks old new → IsToldOfOne blocks e new x → IsToldOfOne blocks e old x
one_kept blocks e old new x same one = record { l = one.l; among = one.among; within = one.within; told = sym (same one.l x one.within) ∙ one.told }

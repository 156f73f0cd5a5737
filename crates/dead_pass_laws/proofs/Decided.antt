-- Of each instruction of a block it is decided whether it goes.
use Rattle.std.proofs.Common.{◌≡◌, ℕ, ◌⊎◌, inl, inr, Some, None, List, [], ◌∷◌, ◌++◌, length, sym, ap, ◌∙◌, subst, arith}
use Rattle.places.specs.declared.flow.Assignment.{Assignment}
use Rattle.graph_core.specs.Graphs.{Instruction, End, Block, Graph, Logged, UnitForm}
use Rattle.graph_core.specs.Points.{Behind}
use Rattle.dead_pass_rule.specs.Idle.{Goes}
use Rattle.dead_pass_notes.specs.Said.{AreSaid, ends, gone, stays}
use Rattle.std.proofs.lemmas.List.{length-append}
use Rattle.std.proofs.lemmas.Option.{none-some, same_Some}
use Rattle.dead_pass_laws.proofs.Came.{IsTaken}
use Rattle.dead_pass_laws.proofs.Lists.{AtBoth, at_both}
use Rattle.dead_pass_laws.proofs.Points.{rest_same}

-- An instruction goes, or it stays.
abbrev pub IsDecided : List Assignment → Graph → (n : ℕ) → List Instruction → End → Type 0
IsDecided assignments g n rest e = Goes assignments g n rest e ⊎ (Goes assignments g n rest e → ⊥)

module _ {assignments : List Assignment} (log : List Logged) (g : Graph) (n : ℕ) (e : End) where
  -- what is said of the notes of a block decides it
  said_decided : (before : List Instruction) (i : Instruction) (rest xs ys : List Instruction) → AreSaid assignments log g n e xs ys → xs ≡ before ++ i ∷ rest → IsDecided assignments g n (i ∷ rest) e
  said_decided before i rest xs ys ends parts = (let l = length-append before (i ∷ rest) in let m = ap length parts in absurd (omega (arith, l, m)))
  said_decided [] i rest xs ys (gone {i = j} {rest = more} went left) parts = inl (subst (λ l. Goes assignments g n l e) parts went)
  said_decided [] i rest xs ys (stays {i = j} {rest = more} stay says left) parts = inr (λ q. stay (subst (λ l. Goes assignments g n l e) (sym parts) q))
  said_decided (k ∷ before) i rest xs ys (gone {rest = more} {after} went left) parts = said_decided before i rest more after left (rest_same parts)
  said_decided (k ∷ before) i rest xs ys (stays {rest = more} {after} stay says left) parts = said_decided before i rest more after left (rest_same parts)

-- So it is of each point of a function from which dead assignments were removed.
pub decided : (u : UnitForm) (log : List Logged) (g : Graph) (blocks : List Block) → IsTaken u log g blocks → (n : ℕ) (i : Instruction) (rest : List Instruction) (e : End) → Behind g i n rest e → IsDecided u.assignments g n (i ∷ rest) e
decided u log g blocks taken n i rest e b = by_blocks (at_both g.blocks blocks n taken.reduced.count)
  where
    by_blocks : AtBoth (λ x y. Unit {0}) g.blocks blocks n → IsDecided u.assignments g n (i ∷ rest) e
    by_blocks (inl none) = (let no : None ≡ Some b.block = sym none.0 ∙ b.is in absurd (none-some b.block no))
    by_blocks (inr some) =
        let one : some.0 ≡ b.block = same_Some some.0 b.block (sym some.2 ∙ b.is) in
        subst (λ f. IsDecided u.assignments g n (i ∷ rest) f) (ap (λ (c : Block). c.end) one ∙ sym b.ends)
        (said_decided log g n some.0.end b.before i rest some.0.instructions some.1.instructions (taken.said.notes n some.0 some.1 some.2 some.3) (ap (λ (c : Block). c.instructions) one ∙ b.instructions))

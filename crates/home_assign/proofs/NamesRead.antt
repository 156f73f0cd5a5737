-- What a valid instruction reads and writes are names of its graph.
use Rattle.std.proofs.Common.{◌≡◌, ℕ, ◌<◌, inl, inr, subst, Some, None, List, [], ◌∷◌, ◌++◌}
use Rattle.std.specs.List.{AllByRecursion}
use Rattle.std.proofs.lemmas.Option.{none-some, same_Some}
use Rattle.graph_core.specs.Graphs.{Operand, Name, Constant, StaticAddress, Recipe, Of, Truncated, Operated, Location, Automatic, Static, At, Instruction, Marker, Note, Move, Operate, Truncate, Same, Address, Load, Store, Zero, CopyWords, Call, End, Jump, Branch, Return, Graph, StaticObject, UnitForm}
use Rattle.graph_core.specs.Uses.{names_of, names_of_all, names_of_location, reads_of, reads_of_end, target_of, names_in}
use Rattle.graph_core.specs.Paths.{Among, front, behind}
use Rattle.graph_core.specs.Validity.{IsOperand, IsLocation, AreOperandsOf, AreOperandsOfEnd, IsInstruction}
use Rattle.home_assign.proofs.Lists.{among_either}

module _ (statics : List StaticObject) (g : Graph) where
  operand_within : (a : Operand) (x : ℕ) → IsOperand statics g a → Among x (names_of a) → x < g.name_count
  operand_within (Name y) x is front = is
  operand_within (Name y) x is (behind later) = elim later [ ]
  operand_within (Constant w) x is among = elim among [ ]
  operand_within (StaticAddress object offset) x is among = elim among [ ]

  both_within : (a b : Operand) (x : ℕ) → IsOperand statics g a → IsOperand statics g b → Among x (names_of a ++ names_of b) → x < g.name_count
  both_within a b x p q among = elim (among_either x (names_of a) (names_of b) among) [ inl l ↦ operand_within a x p l | inr r ↦ operand_within b x q r ]

  all_within : (all : List Operand) (x : ℕ) → AllByRecursion (IsOperand statics g) all → Among x (names_of_all all) → x < g.name_count
  all_within [] x are among = elim among [ ]
  all_within (a ∷ more) x are among = elim (among_either x (names_of a) (names_of_all more) among) [ inl l ↦ operand_within a x are.0 l | inr r ↦ all_within more x are.1 r ]

  location_within : (l : Location) (x : ℕ) → IsLocation statics g l → Among x (names_of_location l) → x < g.name_count
  location_within (Automatic object offset) x is among = elim among [ ]
  location_within (Static object) x is among = elim among [ ]
  location_within (At a) x is among = operand_within a x is among

  pub recipe_within : (r : Recipe) (x : ℕ) → AreOperandsOf statics g r → Among x (names_in r) → x < g.name_count
  recipe_within (Of a) x is among = operand_within a x is among
  recipe_within (Truncated t r) x is among = recipe_within r x is among
  recipe_within (Operated o r s) x is among = elim (among_either x (names_in r) (names_in s) among) [ inl l ↦ recipe_within r x is.0 l | inr m ↦ recipe_within s x is.1 m ]

  pub end_within : (e : End) (x : ℕ) → AreOperandsOfEnd statics g e → Among x (reads_of_end e) → x < g.name_count
  end_within (Jump l) x is among = elim among [ ]
  end_within (Branch k a b l m) x is among = both_within a b x is.0 is.1 among
  end_within (Return None) x is among = elim among [ ]
  end_within (Return (Some a)) x is among = operand_within a x is among

module _ (u : UnitForm) (g : Graph) where
  pub reads_within : (i : Instruction) (x : ℕ) → IsInstruction u g i → Among x (reads_of i) → x < g.name_count
  reads_within (Marker p) x is among = elim among [ ]
  reads_within (Note y v) x is among = elim among [ ]
  reads_within (Move y a) x is among = operand_within u.statics g a x is.1 among
  reads_within (Operate y o a b) x is among = both_within u.statics g a b x is.1 is.2 among
  reads_within (Truncate y t a) x is among = operand_within u.statics g a x is.1 among
  reads_within (Same y a b) x is among = both_within u.statics g a b x is.1 is.2 among
  reads_within (Address y object) x is among = elim among [ ]
  reads_within (Load y e l) x is among = location_within u.statics g l x is.1 among
  reads_within (Store e l a) x is among = elim (among_either x (names_of_location l) (names_of a) among) [ inl m ↦ location_within u.statics g l x is.0 m | inr m ↦ operand_within u.statics g a x is.1 m ]
  reads_within (Zero object words) x is among = elim among [ ]
  reads_within (CopyWords object bytes words) x is among = elim among [ ]
  reads_within (Call y f all) x is among = all_within u.statics g all x is.1 among

  pub target_within : (i : Instruction) (x : ℕ) → IsInstruction u g i → target_of i ≡ Some x → x < g.name_count
  target_within (Marker p) x is e = absurd (none-some x e)
  target_within (Note y v) x is e = absurd (none-some x e)
  target_within (Move y a) x is e = subst (λ n. n < g.name_count) (same_Some y x e) is.0
  target_within (Operate y o a b) x is e = subst (λ n. n < g.name_count) (same_Some y x e) is.0
  target_within (Truncate y t a) x is e = subst (λ n. n < g.name_count) (same_Some y x e) is.0
  target_within (Same y a b) x is e = subst (λ n. n < g.name_count) (same_Some y x e) is.0
  target_within (Address y object) x is e = subst (λ n. n < g.name_count) (same_Some y x e) is.0
  target_within (Load y f l) x is e = subst (λ n. n < g.name_count) (same_Some y x e) is.0
  target_within (Store f l a) x is e = absurd (none-some x e)
  target_within (Zero object words) x is e = absurd (none-some x e)
  target_within (CopyWords object bytes words) x is e = absurd (none-some x e)
  target_within (Call None f all) x is e = absurd (none-some x e)
  target_within (Call (Some y) f all) x is e = subst (λ n. n < g.name_count) (same_Some y x e) is.0

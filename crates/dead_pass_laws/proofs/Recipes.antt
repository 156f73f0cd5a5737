-- A recipe at a note gives, by the names after, the value that the program before read where the recipe says.
use Rattle.std.proofs.Common.{◌≡◌, ℕ, ◌<◌, ◌≤◌, ◌⊎◌, inl, inr, true, false, true≢false, Some, List, ◌∷◌, length, refl, sym, ap, ◌∙◌, subst, arith}
use Rattle.std.specs.Prelude.{◌==◌, ◌&&◌}
use Rattle.std.proofs.lemmas.Bool.{cases_Bool}
use Rattle.std.proofs.lemmas.Option.{same_Some}
use Rattle.places.specs.Flow.{assigns}
use Rattle.graph_core.specs.declared.value.Value.{Value}
use Rattle.graph_core.specs.Graphs.{Operand, Recipe, Instruction, Move, Operate, Truncate, End, Block, Graph, Logged, UnitForm}
use Rattle.graph_core.specs.Histories.{values_behind}
use Rattle.graph_core.specs.Paths.{History, Among, front, Path, place_of, writes, is_marker, is_bound, written}
use Rattle.graph_core.specs.Points.{StandsWith, assignments_in}
use Rattle.graph_core.specs.Runs.{value, recipe_value}
use Rattle.graph_core.specs.Uses.{target_of, names_of, reads_of}
use Rattle.graph_core.specs.Values.{operate, truncate}
use Rattle.graph_core.specs.WellMarked.{IsVariable, IsLocal, ReadsAcross, moved as reads_moved, sunk as reads_sunk}
use Rattle.dead_pass_rule.specs.Idle.{Goes}
use Rattle.dead_pass_notes.specs.Between.{IsWrittenBetween}
use Rattle.dead_pass_notes.specs.Said.{IsDefinition, IsRecipe, constant, address, name, moved, truncated, operated, IsRightSide, moved as made_moved, truncated as made_truncated, operated as made_operated}
use Rattle.dead_pass_notes.specs.Stale.{went, ComesStale}
use Rattle.dead_pass_laws.proofs.Back.{From, it_went}
use Rattle.dead_pass_laws.proofs.Came.{IsValueOf, IsTaken}
use Rattle.dead_pass_laws.proofs.Entry.{goes_assigned, variable_scalar}
use Rattle.dead_pass_laws.proofs.Lists.{among_left, among_right}
use Rattle.dead_pass_laws.proofs.Once.{AreOne, one_write, not_bound}
use Rattle.dead_pass_laws.proofs.Points.{path_stands, first_same, rest_same}
use Rattle.dead_pass_laws.proofs.Values.{name_kept, target_written, unwritten_other}
use Rattle.dead_pass_laws.proofs.Walks.{IsLast, HasLast, has_last}

module _ (u : UnitForm) (log : List Logged) (g : Graph) (blocks : List Block) (taken : IsTaken u log g blocks) (k : ℕ) (note : List Instruction) (last : End) (first others : ℕ → Value) (whole : History) (arrives : Path g whole k note last) (p : ℕ) where
  -- what is so at a point from which the way goes on to the note
  abbrev FromHere : (h : History) (n : ℕ) (rest : List Instruction) (e : End) → Type 0
  FromHere = From u log g blocks taken k note last first others whole arrives

  -- an instruction is the last before a point that wrote a name, in the place of the note
  abbrev IsLastOf : (h : History) (x m : ℕ) (j : Instruction) (more : List Instruction) (f : End) → Type 0
  IsLastOf h x m j more f = IsLast u log g blocks taken k note last first others whole arrives h p x m j more f

  -- ---- The one write of a name in the place

  -- The last write of a name is its one write in the place.
  last_is : (h : History) (x m n : ℕ) (i j : Instruction) (rest more : List Instruction) (e f : End) → AreOne g n m (j ∷ more) (i ∷ rest) f e → IsLastOf h x n j more f → IsLastOf h x m i rest e
  last_is h x m n i j rest more e f one is =
      subst (λ b. IsLastOf h x b i rest e) one.block (subst (λ d. IsLastOf h x n i rest d) one.ends (subst (λ l. IsLastOf h x n i l f) (rest_same one.rest) (subst (λ q. IsLastOf h x n q more f) (first_same one.rest) is)))

  -- Where the place assigns a name once, and it was written there, the instruction that writes it there is the last that wrote it.
  pub once_last : (h : History) (n : ℕ) (rest : List Instruction) (e : End) (x m : ℕ) (i : Instruction) (more : List Instruction) (f : End) → FromHere h n rest e → place_of h ≡ Some p → written g x h ≡ true
      → assignments_in g p x ≡ 1 → StandsWith g p m (i ∷ more) f → target_of i ≡ Some x → IsLastOf h x m i more f
  once_last h n rest e x m i more f from place it once stands target =
      let none : (p == g.entry && is_bound x g.parameters) ≡ false = not_bound g p x once m i more f stands target in
      let has : HasLast u log g blocks taken k note last first others whole arrives h p x = has_last u log g blocks taken k note last first others whole arrives p x none h n rest e from.along from it place in
      let is = has.found in
      let stands_there : StandsWith g p has.block (has.write ∷ has.more) has.end = path_stands u g taken.valid taken.marked is.history has.block has.write has.more has.end p is.from.along is.plain is.place in
      last_is h x m has.block i has.write more has.more f has.end (one_write g p x once has.block m has.write i has.more more has.end f stands_there stands is.target target) is

  -- ---- Operands

  -- An instruction that reads an operand stands at a point of the path to the note, in its place. Where it writes a name, that is a temporary that code motion did not make, or a scalar whose write goes.
  pub record IsReader (h : History) (n : ℕ) (j : Instruction) (rest : List Instruction) (e : End) (w : Value) : Type 0 where
    pub plain : is_marker j ≡ false
    pub from : FromHere h n (j ∷ rest) e
    pub behind : FromHere (record { block = n; left = length rest; instruction = j; wrote = w } ∷ h) n rest e
    pub place : place_of h ≡ Some p
    pub own : (y : ℕ) → target_of j ≡ Some y → IsLocal g y ⊎ ((y < length g.scalars) × Goes u.assignments g n (j ∷ rest) e)

  -- what it reads of an operand
  abbrev pub Reads : Instruction → Operand → Type 0
  Reads j a = (y : ℕ) → Among y (names_of a) → Among y (reads_of j)

  -- The last write of a name reads in its place, too.
  pub last_reader : (h : History) (x m : ℕ) (i : Instruction) (more : List Instruction) (f : End) → (is : IsLastOf h x m i more f) → ((y : ℕ) → target_of i ≡ Some y → IsLocal g y ⊎ ((y < length g.scalars) × Goes u.assignments g m (i ∷ more) f)) → IsReader is.history m i more f is.wrote
  last_reader h x m i more f is own = record { plain = is.plain; from = is.from; behind = is.behind; place = is.place; own = own }

  -- a name that is no such temporary, is not stale at the note, and is not written between
  name_value : (h : History) (n : ℕ) (j : Instruction) (rest : List Instruction) (e : End) (w : Value) (y : ℕ) → IsReader h n j rest e w → (IsLocal g y → ⊥) → (ComesStale u.assignments g y k note last → ⊥) → (IsWrittenBetween u.assignments g k note y n rest e → ⊥)
      → others y ≡ values_behind first h y
  name_value h n j rest e w y reader not_local fresh unwritten = elim (cases_Bool (writes y j)) [
    | inl it ↦ absurd (by_own it (reader.own y (target_written y j it)))
    | inr other ↦ sym (reader.behind.holds y fresh unwritten) ∙ name_kept (target_of j) w (values_behind first h) y (unwritten_other y j other)
  ]
    where
      by_own : writes y j ≡ true → IsLocal g y ⊎ ((y < length g.scalars) × Goes u.assignments g n (j ∷ rest) e) → ⊥
      by_own it (inl local) = not_local local
      by_own it (inr goes) =
          fresh (record { history = whole; path = arrives; stale = reader.behind.stale y (went it (it_went u log g blocks taken k note last first others whole arrives h n j rest e w reader.from.along reader.plain goes.1)) unwritten })

  -- the definition of a temporary that is read
  defined : (h : History) (n : ℕ) (j : Instruction) (rest : List Instruction) (e : End) (w : Value) (t m : ℕ) (i : Instruction) (more : List Instruction) (f : End) → IsReader h n j rest e w → Among t (reads_of j) → IsDefinition g p k note last t m more f i → IsLastOf h t m i more f
  defined h n j rest e w t m i more f reader among def =
      once_last h n (j ∷ rest) e t m i more f reader.from reader.place (by_local (taken.marked.local h n j t rest e def.local reader.from.along among)) def.once def.stands def.target
    where
      -- what it writes is neither a temporary that code motion made nor a scalar in a place that does not assign its variable
      never_moved : (y : ℕ) → g.first_moved ≤ y → IsLocal g y ⊎ ((y < length g.scalars) × Goes u.assignments g n (j ∷ rest) e) → ⊥
      never_moved y made (inl own) = (let least = own.not_moved in omega (arith, made, least))
      never_moved y made (inr goes) = (let scalar = goes.0 in let least = taken.valid.scalars in omega (arith, made, scalar, least))

      never_sunk : (y variable q : ℕ) → target_of j ≡ Some y → IsVariable g y variable → place_of h ≡ Some q → assigns u.assignments q variable ≡ false → IsLocal g y ⊎ ((y < length g.scalars) × Goes u.assignments g n (j ∷ rest) e) → ⊥
      never_sunk y variable q target of at unassigned (inl own) = (let less = variable_scalar g.scalars y variable of in let least = own.temporary in omega (arith, less, least))
      never_sunk y variable q target of at unassigned (inr goes) = true≢false (sym (goes_assigned u log g blocks taken h n j rest e y variable q reader.from.along at target of goes.1) ∙ unassigned)

      by_local : (written g t h ≡ true) ⊎ ReadsAcross u g h j → written g t h ≡ true
      by_local (inl it) = it
      by_local (inr (reads_moved y target made computes)) = absurd (never_moved y made (reader.own y target))
      by_local (inr (reads_sunk y variable q target of at unassigned)) = absurd (never_sunk y variable q target of at unassigned (reader.own y target))

  -- what it writes is such a temporary
  own_local : (t : ℕ) (m : ℕ) (i : Instruction) (more : List Instruction) (f : End) → IsDefinition g p k note last t m more f i → (y : ℕ) → target_of i ≡ Some y → IsLocal g y ⊎ ((y < length g.scalars) × Goes u.assignments g m (i ∷ more) f)
  own_local t m i more f def y target = inl (subst (λ z. IsLocal g z) (same_Some t y (sym def.target ∙ target)) def.local)

  -- What a recipe gives after is what was read before.
  pub operand_value : (n : ℕ) (rest : List Instruction) (e : End) (a : Operand) (r : Recipe) → IsRecipe u.assignments g p k note last n rest e a r → (h : History) (j : Instruction) (w : Value) → IsReader h n j rest e w → Reads j a
      → recipe_value u.statics others r ≡ value u.statics (values_behind first h) a
  operand_value n rest e a r constant h j w reader reads = refl
  operand_value n rest e a r address h j w reader reads = refl
  operand_value n rest e a r (name {y = y} not_local fresh unwritten) h j w reader reads = name_value h n j rest e w y reader not_local fresh unwritten
  operand_value n rest e a r (moved {m = m} {t = t} {more = more} {f = f} {x = x} {a = b} {r = q} def given) h j w reader reads =
      let is : IsLastOf h t m (Move x b) more f = defined h n j rest e w t m (Move x b) more f reader (reads t front) def in
      operand_value m more f b q given is.history (Move x b) is.wrote (last_reader h t m (Move x b) more f is (own_local t m (Move x b) more f def)) (λ y among. among)
      ∙ sym (is.value ∙ is.is)
  operand_value n rest e a r (truncated {m = m} {t = t} {more = more} {f = f} {x = x} {at = at} {a = b} {r = q} def given) h j w reader reads =
      let is : IsLastOf h t m (Truncate x at b) more f = defined h n j rest e w t m (Truncate x at b) more f reader (reads t front) def in
      ap (truncate at) (operand_value m more f b q given is.history (Truncate x at b) is.wrote (last_reader h t m (Truncate x at b) more f is (own_local t m (Truncate x at b) more f def)) (λ y among. among))
      ∙ sym (is.value ∙ is.is)
  operand_value n rest e a r (operated {m = m} {t = t} {more = more} {f = f} {x = x} {o = o} {a = b} {b = c} {r = q} {s = s} def left right) h j w reader reads =
      let is : IsLastOf h t m (Operate x o b c) more f = defined h n j rest e w t m (Operate x o b c) more f reader (reads t front) def in
      let there : IsReader is.history m (Operate x o b c) more f is.wrote = last_reader h t m (Operate x o b c) more f is (own_local t m (Operate x o b c) more f def) in
      ap (λ z. operate o z (recipe_value u.statics others s)) (operand_value m more f b q left is.history (Operate x o b c) is.wrote there (λ y among. among_left y (names_of b) (names_of c) among))
      ∙ ap (operate o (value u.statics (values_behind first is.history) b)) (operand_value m more f c s right is.history (Operate x o b c) is.wrote there (λ y among. among_right y (names_of b) (names_of c) among))
      ∙ sym (is.value ∙ is.is)

  -- What the recipe of an instruction gives after is what the instruction wrote before.
  pub written_value : (n : ℕ) (rest : List Instruction) (e : End) (j : Instruction) (r : Recipe) → IsRightSide u.assignments g p k note last n rest e j r → (h : History) (w : Value) → IsReader h n j rest e w → IsValueOf u.statics (values_behind first h) j w
      → recipe_value u.statics others r ≡ w
  written_value n rest e j r (made_moved {x} {a} given) h w reader is = operand_value n rest e a r given h j w reader (λ y among. among) ∙ sym is
  written_value n rest e j r (made_truncated {x} {at} {a} {r = q} given) h w reader is = ap (truncate at) (operand_value n rest e a q given h j w reader (λ y among. among)) ∙ sym is
  written_value n rest e j r (made_operated {x} {o} {a} {b} {r = q} {s} left right) h w reader is =
      ap (λ z. operate o z (recipe_value u.statics others s)) (operand_value n rest e a q left h j w reader (λ y among. among_left y (names_of a) (names_of b) among))
      ∙ ap (operate o (value u.statics (values_behind first h) a)) (operand_value n rest e b s right h j w reader (λ y among. among_right y (names_of a) (names_of b) among))
      ∙ sym is

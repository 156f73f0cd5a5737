-- The values of names and temporaries at a point, before what is done there and behind it.
use Rattle.std.proofs.Common.{◌≡◌, ℕ, zero, suc, ◌+◌, ◌<◌, ◌⊎◌, inl, inr, Bool, false, true≢false, Some, List, [], ◌∷◌, sym, ap, ◌∙◌, subst, arith}
use Rattle.std.specs.Prelude.{slice_get}
use Rattle.std.specs.List.{AllByRecursion}
use Rattle.std.proofs.lemmas.Option.{same_Some}
use Rattle.graph_core.specs.declared.value.Value.{Value}
use Rattle.graph_core.specs.Graphs.{Instruction, End, Graph, UnitForm}
use Rattle.graph_core.specs.Computations.{Computation}
use Rattle.graph_core.specs.Validity.{IsInstruction, AreOperandsOfEnd, IsBlock, IsGraph}
use Rattle.graph_core.specs.Runs.{with_value_at}
use Rattle.motion_pass_points.specs.Ways.{Point, within, along, spoils_at, Leads, IsCome, goes, IsWanted, wanted_here, wanted_later, IsInserted}
use Rattle.motion_pass_points.proofs.Keys.{it_does}
use Rattle.motion_pass_placement.specs.Moving.{IsDoneAt}
use Rattle.motion_pass_laws.proofs.Ready.{come_stands, IsReady, ready_unspoiled, ready_before}
use Rattle.motion_pass_laws.proofs.Values.{computed, value_stable, put_other, put_same, AreOwn, own_computed}
use Rattle.base_laws.proofs.Lists.{all_behind_these as all_behind}
pub use Rattle.base_laws.proofs.Lists.{all_at}

module _ (u : UnitForm) (g : Graph) (valid : IsGraph u g) where
  -- What stands in a block of a valid graph is valid.
  pub valid_at : {n : ℕ} {rest : List Instruction} {f : End} → IsCome g.blocks (within n rest f) → AllByRecursion (IsInstruction u g) rest × AreOperandsOfEnd u.statics g f
  valid_at {n} {rest} {f} come =
      let s = come_stands g.blocks come in
      let block : IsBlock u g s.block = all_at (IsBlock u g) g.blocks n s.block valid.blocks s.is in
      (all_behind (IsInstruction u g) s.before rest (subst (AllByRecursion (IsInstruction u g)) s.parts block.instructions), subst (AreOperandsOfEnd u.statics g) s.ends block.operands)

  -- A computation that is wanted from a point on is made of names of the graph.
  pub wanted_own : (e : Computation) (p : Point) → IsCome g.blocks p → IsWanted g.blocks e p → AreOwn u g e
  wanted_own e (within n [] f) come (wanted_here does past) = absurd (true≢false (sym does))
  wanted_own e (within n (i ∷ rest) f) come (wanted_here does past) = (let all = valid_at come in own_computed u g i all.0.0 e (it_does e i does))
  wanted_own e (along n l) come (wanted_here does past) = absurd (true≢false (sym does))
  wanted_own e p come (wanted_later {q = q} not step wanted) = wanted_own e q (goes come step) wanted

  -- So is one that is done.
  pub done_own : (e : Computation) (p : Point) → IsDoneAt g.blocks e p → AreOwn u g e
  done_own e p is = wanted_own e is.1.1.0 (goes is.0 is.1.1.1) is.1.1.2

  module _ (live : ℕ → Bool) (names : ℕ → Value) where
    -- the value of a computation over the names before
    abbrev pub worth : Computation → Value
    worth e = computed u.statics live names e

    -- What is done at a point has left these names: others than those of the computations stay, and of each of these the temporary has its value, or it stays where it isn't done.
    pub record IsSettled (p : Point) (name : ℕ) (treated : List Computation) (before after : ℕ → Value) : Type 0 where
      pub kept : (x : ℕ) → x < name → after x ≡ before x
      pub each : (k : ℕ) (e : Computation) → slice_get treated k ≡ Some e
          → (IsDoneAt g.blocks e p × (after (name + k) ≡ worth e)) ⊎ ((IsDoneAt g.blocks e p → ⊥) × (after (name + k) ≡ before (name + k)))

    -- The names agree with those before.
    abbrev pub Agree : (ℕ → Value) → Type 0
    Agree others = (x : ℕ) → x < g.name_count → others x ≡ names x

    -- Of several computations the first is done: then it is settled with the others.
    pub settled_first : (p : Point) (name : ℕ) (e : Computation) (more : List Computation) (before after : ℕ → Value) → IsDoneAt g.blocks e p → IsSettled p (suc name) more (with_value_at before name (worth e)) after → IsSettled p name (e ∷ more) before after
    settled_first p name e more before after is rest = record {
      kept = λ x less. rest.kept x (omega (arith, less)) ∙ put_other before name (worth e) x (λ same. omega (arith, less, same));
      each = each;
    }
      where
        next : (k : ℕ) → suc name + k ≡ name + suc k
        next k = omega (arith)

        first_kept : after name ≡ worth e
        first_kept = rest.kept name (omega (arith)) ∙ put_same before name (worth e)

        stays : (k : ℕ) → with_value_at before name (worth e) (suc name + k) ≡ before (name + suc k)
        stays k = put_other before name (worth e) (suc name + k) (λ same. omega (arith, same)) ∙ ap before (next k)

        each : (k : ℕ) (d : Computation) → slice_get (e ∷ more) k ≡ Some d → (IsDoneAt g.blocks d p × (after (name + k) ≡ worth d)) ⊎ ((IsDoneAt g.blocks d p → ⊥) × (after (name + k) ≡ before (name + k)))
        each zero d at =
            let one : e ≡ d = same_Some e d at in
            let here : name + zero ≡ name = omega (arith) in
            inl (subst (λ z. IsDoneAt g.blocks z p) one is, ap after here ∙ first_kept ∙ ap worth one)
        each (suc k) d at = elim (rest.each k d at) [
          | inl t ↦ inl (t.0, ap after (sym (next k)) ∙ t.1)
          | inr t ↦ inr (t.0, ap after (sym (next k)) ∙ t.1 ∙ stays k)
        ]

    -- the others, where the first one is not done
    pub settled_passed : (p : Point) (name : ℕ) (e : Computation) (more : List Computation) (before after : ℕ → Value) → (IsDoneAt g.blocks e p → ⊥) → IsSettled p (suc name) more before after → IsSettled p name (e ∷ more) before after
    settled_passed p name e more before after not rest = record { kept = λ x less. rest.kept x (omega (arith, less)); each = each }
      where
        next : (k : ℕ) → suc name + k ≡ name + suc k
        next k = omega (arith)

        each : (k : ℕ) (d : Computation) → slice_get (e ∷ more) k ≡ Some d → (IsDoneAt g.blocks d p × (after (name + k) ≡ worth d)) ⊎ ((IsDoneAt g.blocks d p → ⊥) × (after (name + k) ≡ before (name + k)))
        each zero d at =
            let one : e ≡ d = same_Some e d at in
            let here : name + zero ≡ name = omega (arith) in
            inr (λ is. not (subst (λ z. IsDoneAt g.blocks z p) (sym one) is), ap after here ∙ rest.kept name (omega (arith)) ∙ ap before (sym here))
        each (suc k) d at = elim (rest.each k d at) [
          | inl t ↦ inl (t.0, ap after (sym (next k)) ∙ t.1)
          | inr t ↦ inr (t.0, ap after (sym (next k)) ∙ t.1 ∙ ap before (next k))
        ]

    -- THE NAMES AT A POINT, before what is done there: they agree with those before, and the temporary of each computation whose value is ready has it.
    pub record AreCarried (treated : List Computation) (p : Point) (others : ℕ → Value) : Type 0 where
      pub agree : Agree others
      pub ready : (k : ℕ) (e : Computation) → slice_get treated k ≡ Some e → IsReady g.blocks e p → others (g.name_count + k) ≡ worth e

    -- Behind what is done there the temporary also has the value of each computation that is done.
    pub record AreHeld (treated : List Computation) (p : Point) (others : ℕ → Value) : Type 0 where
      pub agree : Agree others
      pub held : (k : ℕ) (e : Computation) → slice_get treated k ≡ Some e → ((IsInserted g.blocks e p → ⊥) → (IsReady g.blocks e p → ⊥) → ⊥) → others (g.name_count + k) ≡ worth e

    -- What is done leads from the one to the other.
    pub held_behind : (treated : List Computation) (p : Point) (before after : ℕ → Value) → IsCome g.blocks p → AreCarried treated p before → IsSettled p g.name_count treated before after → AreHeld treated p after
    held_behind treated p before after come carried settled = record {
      agree = λ x less. settled.kept x less ∙ carried.agree x less;
      held = λ k e at so. value_stable (after (g.name_count + k)) (worth e) (λ other. elim (settled.each k e at) [
        | inl t ↦ other t.1
        | inr t ↦ so (λ inserted. t.0 (come, inserted)) (λ ready. other (t.1 ∙ carried.ready k e at ready))
      ]);
    }

    -- Nothing is done at a point: then nothing changes.
    pub held_there : (treated : List Computation) (p : Point) (others : ℕ → Value) → ((e : Computation) → IsInserted g.blocks e p → ⊥) → AreCarried treated p others → AreHeld treated p others
    held_there treated p others never carried = record {
      agree = carried.agree;
      held = λ k e at so. value_stable (others (g.name_count + k)) (worth e) (λ other. so (never e) (λ ready. other (carried.ready k e at ready)));
    }

  -- FROM A POINT TO THE NEXT: where the temporaries stay, and the computations keep their values of which no operand is written, what was held behind the one is carried to the other.
  pub carried_on : (live : ℕ → Bool) (names now : ℕ → Value) (treated : List Computation) (p q : Point) (others new : ℕ → Value) → IsCome g.blocks p → Leads g.blocks p q → AreHeld live names treated p others → Agree live now new
      → ((k : ℕ) → new (g.name_count + k) ≡ others (g.name_count + k)) → ((e : Computation) → spoils_at e p ≡ false → worth live now e ≡ worth live names e) → AreCarried live now treated q new
  carried_on live names now treated p q others new come step held agree stay same = record {
    agree = agree;
    ready = λ k e at ready. stay k ∙ held.held k e at (λ not_done unready. ready_before g.blocks e step ready not_done unready) ∙ sym (same e (ready_unspoiled g.blocks e come step ready));
  }

-- Configurations of a unit and of the unit over homes that runs come to alike, and what their next steps have to do.
use Rattle.std.proofs.Common.{◌≡◌, ◌≢◌, ℕ, zero, suc, ◌+◌, inl, inr, false, Option, Some, None, List, [], ◌∷◌, length, map, refl, sym, ap, subst}
use Rattle.std.specs.Prelude.{◌==◌}
use Rattle.std.specs.Option.{option_map_or}
use Rattle.std.specs.List.{AllByRecursion}
use Rattle.std.proofs.lemmas.Bool.{ne_eqb}
use Rattle.event_runs.specs.Agreement.{Pairs}
use Rattle.graph_core.specs.declared.value.Value.{Value}
use Rattle.graph_core.specs.declared.value.Shadow.{Shadow}
use Rattle.graph_core.specs.declared.value.Shadow.TheVariants as shadow
use Rattle.graph_core.specs.declared.instruction.Callee.{Callee}
use Rattle.graph_core.specs.Graphs.{Operand, Call}
use Rattle.graph_core.specs.Runs.{Activation, Configuration, Stepped, Goes, Shows, Ends, Wild, frame, numbers_from}
use Rattle.graph_homes.specs.Homed.{HomedForm}
use Rattle.graph_homes.specs.Seen.{Going}
use Rattle.graph_solve_live.specs.Live.{passed}
use Rattle.home_assign.specs.Alike.{placed_activation, IsSameWaiting, AreSame, IsSameFrame, SameSeen}
use Rattle.home_assign.proofs.Fits.{Fits}

module _ (h : HomedForm) where
  -- An activation that waits for a call, and the same over homes.
  pub record Waits (a b : Activation) : Type 0 where
    pub held : ℕ → Value
    pub shadows : ℕ → Shadow
    pub is : b ≡ placed_activation h a held shadows
    pub gone : (x : ℕ) → shadows x ≡ shadow.Gone
    pub callee : Callee
    pub operands : List Operand
    pub fits : Fits h a.function a.graph a.names a.shadows (Call a.wants callee operands ∷ a.rest) a.end held

  -- the configuration over homes of a configuration
  abbrev pub placed_configuration : Configuration → (held : ℕ → Value) → (shadows : ℕ → Shadow) → (waiting : List Activation) → Configuration
  placed_configuration c held shadows waiting = record { memory = c.memory; input = c.input; here = placed_activation h c.here held shadows; waiting = waiting }

  -- Both runs come to these.
  pub record Related (c d : Configuration) : Type 0 where
    pub held : ℕ → Value
    pub shadows : ℕ → Shadow
    pub waiting : List Activation
    pub is : d ≡ placed_configuration c held shadows waiting
    pub gone : (x : ℕ) → shadows x ≡ shadow.Gone
    pub here : Fits h c.here.function c.here.graph c.here.names c.here.shadows c.here.rest c.here.end held
    pub waits : Pairs Waits c.waiting waiting

  -- A step over homes does what a step of the unit does.
  abbrev pub DoesSame : Stepped → Stepped → Type 0
  DoesSame (Goes c) (Goes d) = Related c d
  DoesSame (Shows e c) (Shows o d) = Related c d × SameSeen h (Going e c) (Going o d)
  DoesSame (Ends e) (Ends o) = o ≡ e
  DoesSame Wild Wild = Unit {0}
  DoesSame _ _ = ⊥

  -- Related configurations are the same.
  not_wanted : (w : Option ℕ) (x : ℕ) → w ≢ Some x → option_map_or (λ y. y == x) w false ≡ false
  not_wanted None x ne = refl
  not_wanted (Some z) x ne = ne_eqb z x (λ e. ne (ap Some e))

  waiting_same : (a b : Activation) → Waits a b → IsSameWaiting h a b
  waiting_same a b w = subst (IsSameWaiting h a) (sym w.is) (
    record { of = w.fits.of; held = w.held; shadows = w.shadows; placed = refl; gone = w.gone },
    (λ x lt kind. w.fits.kept x lt (elim kind [ inl alone ↦ inl alone | inr live ↦ inr (passed (not_wanted a.wants x live.1) live.0) ])),
  )

  all_waiting_same : (xs ys : List Activation) → Pairs Waits xs ys → Pairs (IsSameWaiting h) xs ys
  all_waiting_same [] [] all = tt
  all_waiting_same [] (y ∷ ys) all = absurd all
  all_waiting_same (x ∷ xs) [] all = absurd all
  all_waiting_same (x ∷ xs) (y ∷ ys) all = (waiting_same x y all.0, all_waiting_same xs ys all.1)

  pub related_same : (c d : Configuration) → Related c d → AreSame h c d
  related_same c d r = subst (AreSame h c) (sym r.is) (record {
    memory = refl;
    input = refl;
    here = (record { of = r.here.of; held = r.held; shadows = r.shadows; placed = refl; gone = r.gone }, r.here.kept);
    waiting = all_waiting_same c.waiting r.waiting r.waits;
  })

  pub many_waiting : (xs ys : List Activation) → Pairs Waits xs ys → length ys ≡ length xs
  many_waiting [] [] all = refl
  many_waiting [] (y ∷ ys) all = absurd all
  many_waiting (x ∷ xs) [] all = absurd all
  many_waiting (x ∷ xs) (y ∷ ys) all = ap suc (many_waiting xs ys all.1)

  -- ---- Frames

  all_gone : (shadows : ℕ → Shadow) → ((x : ℕ) → shadows x ≡ shadow.Gone) → (from count : ℕ) → AllByRecursion (λ s. s ≡ shadow.Gone) (map shadows (numbers_from from count))
  all_gone shadows gone from zero = tt
  all_gone shadows gone from (suc count) = (gone from, all_gone shadows gone (from + 1) count)

  as_many : (shadows others : ℕ → Shadow) (from count : ℕ) → length (map others (numbers_from from count)) ≡ length (map shadows (numbers_from from count))
  as_many shadows others from zero = refl
  as_many shadows others from (suc count) = ap suc (as_many shadows others (from + 1) count)

  pub frame_same : (a : Activation) (held : ℕ → Value) (shadows : ℕ → Shadow) → ((x : ℕ) → shadows x ≡ shadow.Gone) → IsSameFrame (frame a) (frame (placed_activation h a held shadows))
  frame_same a held shadows gone = record {
    function = refl;
    place = refl;
    many = as_many a.shadows shadows 0 (length a.graph.scalars);
    gone = all_gone shadows gone 0 (length a.graph.scalars);
  }

  pub frames_same : (xs ys : List Activation) → Pairs Waits xs ys → Pairs IsSameFrame (map frame xs) (map frame ys)
  frames_same [] [] all = tt
  frames_same [] (y ∷ ys) all = absurd all
  frames_same (x ∷ xs) [] all = absurd all
  frames_same (x ∷ xs) (y ∷ ys) all = (
    (let w = all.0 in subst (λ z. IsSameFrame (frame x) (frame z)) (sym w.is) (frame_same x w.held w.shadows w.gone)),
    frames_same xs ys all.1,
  )

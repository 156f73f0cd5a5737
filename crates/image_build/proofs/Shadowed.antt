-- Activations with the shadows that a stop before passes shows of them.
use Rattle.std.proofs.Common.{◌≡◌, ℕ, zero, suc, ◌+◌, refl, sym, ap, ◌∙◌, subst, arith, Option, Some, None, List, [], ◌∷◌, length, map, slice_get}
use Rattle.std.specs.Option.{option_map_or}
use Rattle.std.proofs.lemmas.Option.{none-some, same_Some}
use Rattle.event_runs.specs.Agreement.{Pairs}
use Rattle.graph_core.specs.declared.value.Shadow.{Shadow}
use Rattle.graph_core.specs.declared.value.Shadow.TheVariants as shadow
use Rattle.graph_core.specs.declared.value.Value.{Value}
use Rattle.graph_core.specs.Runs.{Activation, Configuration, Frame, frame, numbers_from}
use Rattle.graph_homes.specs.Homed.{HomedForm}
use Rattle.home_assign.specs.Alike.{IsSame, IsSameWaiting, AreSame, AreShown, shown_value}
use Rattle.pass_law.specs.Keeps.{StaysOrGoes, stays, goes, SameFrame}

-- ---- Lists

-- the values of a function from a number on are a list, where each is the list's
listed : {A : Type 0} (f : ℕ → A) (from count : ℕ) (all : List A) → length all ≡ count → ((k : ℕ) (a : A) → slice_get all k ≡ Some a → f (from + k) ≡ a) → map f (numbers_from from count) ≡ all
listed f from zero [] many each = refl
listed f from zero (a ∷ all) many each = absurd (omega (arith, many))
listed f from (suc count) [] many each = absurd (omega (arith, many))
listed f from (suc count) (a ∷ all) many each =
    let first : from + 0 ≡ from = omega arith in
    ap (λ b. b ∷ map f (numbers_from (from + 1) count)) (sym (ap f first) ∙ each 0 a refl)
    ∙ ap (λ l. a ∷ l) (listed f (from + 1) count all (omega (arith, many)) (λ k b is. (let next : from + 1 + k ≡ from + suc k = omega arith in ap f next ∙ each (suc k) b is)))

-- a list that is paired with the values of a function has as many
many_paired : {A B : Type 0} (R : A → B → Type 0) (g : ℕ → B) (from count : ℕ) (all : List A) → Pairs R all (map g (numbers_from from count)) → length all ≡ count
many_paired R g from zero [] pairs = refl
many_paired R g from zero (a ∷ all) pairs = absurd pairs
many_paired R g from (suc count) [] pairs = absurd pairs
many_paired R g from (suc count) (a ∷ all) pairs = ap (λ n. suc n) (many_paired R g (from + 1) count all pairs.1)

-- and each of its elements is paired with the value of its number
paired_at : {A B : Type 0} (R : A → B → Type 0) (g : ℕ → B) (from count : ℕ) (all : List A) → Pairs R all (map g (numbers_from from count)) → (k : ℕ) (a : A) → slice_get all k ≡ Some a → R a (g (from + k))
paired_at R g from zero [] pairs k a is = absurd (none-some a is)
paired_at R g from zero (b ∷ all) pairs k a is = absurd pairs
paired_at R g from (suc count) [] pairs k a is = absurd pairs
paired_at R g from (suc count) (b ∷ all) pairs zero a is = let first : from ≡ from + 0 = omega arith in subst (λ n. R a (g n)) first (subst (λ c. R c (g from)) (same_Some b a is) pairs.0)
paired_at R g from (suc count) (b ∷ all) pairs (suc k) a is = let next : from + 1 + k ≡ from + suc k = omega arith in subst (λ n. R a (g n)) next (paired_at R g (from + 1) count all pairs.1 k a is)

-- ---- Activations

-- the shadows of a list, and behind it others
abbrev pub shadows_of : List Shadow → (others : ℕ → Shadow) → ℕ → Shadow
shadows_of all others x = option_map_or (λ (s : Shadow). s) (slice_get all x) (others x)

-- an activation with the shadows of a frame
abbrev pub shadowed : Activation → Frame → Activation
shadowed a f = record a { shadows = shadows_of f.shadows a.shadows }

-- activations, each with those of its frame
abbrev pub all_shadowed : List Activation → List Frame → List Activation
all_shadowed [] fs = []
all_shadowed (a ∷ all) [] = a ∷ all
all_shadowed (a ∷ all) (f ∷ fs) = shadowed a f ∷ all_shadowed all fs

-- an activation with the shadows of a frame that corresponds to its own shows that frame
frame_is : (a : Activation) (f : Frame) → SameFrame f (frame a) → frame (shadowed a f) ≡ f
frame_is a f same =
    let many : length f.shadows ≡ length a.graph.scalars = many_paired StaysOrGoes a.shadows 0 (length a.graph.scalars) f.shadows same.shadows in
    let shadows : map (shadows_of f.shadows a.shadows) (numbers_from 0 (length a.graph.scalars)) ≡ f.shadows = listed (shadows_of f.shadows a.shadows) 0 (length a.graph.scalars) f.shadows many each in
    ap (λ l. record { function = a.function; place = a.place; shadows = l }) shadows ∙ ap (λ n. record { function = n; place = a.place; shadows = f.shadows }) same.function ∙ ap (λ n. record { function = f.function; place = n; shadows = f.shadows }) same.place
  where
    each : (k : ℕ) (s : Shadow) → slice_get f.shadows k ≡ Some s → shadows_of f.shadows a.shadows (0 + k) ≡ s
    each k s is = let zeroth : 0 + k ≡ k = omega arith in ap (shadows_of f.shadows a.shadows) zeroth ∙ ap (λ o. option_map_or (λ (t : Shadow). t) o (a.shadows k)) is

-- so do all
pub frames_are : (all : List Activation) (fs : List Frame) → Pairs SameFrame fs (map frame all) → map frame (all_shadowed all fs) ≡ fs
frames_are [] [] same = refl
frames_are [] (f ∷ fs) same = absurd same
frames_are (a ∷ all) [] same = absurd same
frames_are (a ∷ all) (f ∷ fs) same = ap (λ g. g ∷ map frame (all_shadowed all fs)) (frame_is a f same.0) ∙ ap (λ l. f ∷ l) (frames_are all fs same.1)

-- ---- Over homes

-- a shadow that stays or goes to one that is known is that one
known_before : (s t : Shadow) (v : Value) → StaysOrGoes s t → t ≡ shadow.Known v → s ≡ shadow.Known v
known_before s t v stays known = known
known_before s t v goes known = absurd (let clash : shadow.Gone ≡ shadow.Known v = known in cc)

module _ (h : HomedForm) where
  -- over homes an activation is the same with any shadows
  here_same : (a b : Activation) (f : Frame) → IsSame h a b → IsSame h (shadowed a f) b
  here_same a b f same = record { of = same.of; held = same.held; shadows = same.shadows; placed = same.placed; gone = same.gone }

  waiting_same : (all others : List Activation) (fs : List Frame) → Pairs (IsSameWaiting h) all others → Pairs (IsSameWaiting h) (all_shadowed all fs) others
  waiting_same [] others fs same = same
  waiting_same (a ∷ all) [] fs same = absurd same
  waiting_same (a ∷ all) (b ∷ others) [] same = same
  waiting_same (a ∷ all) (b ∷ others) (f ∷ fs) same = ((here_same a b f same.0.0, same.0.1), waiting_same all others fs same.1)

  -- So is a configuration.
  pub are_same : (c d : Configuration) (f : Frame) (fs : List Frame) → AreSame h c d → AreSame h (record c { here = shadowed c.here f; waiting = all_shadowed c.waiting fs }) d
  are_same c d f fs same = record { memory = same.memory; input = same.input; here = (here_same c.here d.here f same.here.0, same.here.1); waiting = waiting_same c.waiting d.waiting fs same.waiting }

  -- And where a recipe gives a scalar's value on all paths, a shadow that is known behind passes was known before them, and was the same.
  pub are_shown : (a b : Activation) (f : Frame) → SameFrame f (frame a) → AreShown h a b → AreShown h (shadowed a f) b
  are_shown a b f same shown x r on_all = (by (slice_get f.shadows x) refl, (shown x r on_all).1)
    where
      by : (o : Option Shadow) → slice_get f.shadows x ≡ o → option_map_or (λ (s : Shadow). s) o (a.shadows x) ≡ shadow.Known (shown_value h a.function b.names r)
      by None is = (shown x r on_all).0
      by (Some s) is =
          let zeroth : 0 + x ≡ x = omega arith in
          known_before s (a.shadows x) (shown_value h a.function b.names r) (subst (λ n. StaysOrGoes s (a.shadows n)) zeroth (paired_at StaysOrGoes a.shadows 0 (length a.graph.scalars) f.shadows same.shadows x s is)) (shown x r on_all).0

-- A scalar's register is shared where the search says so, and the log goes on scalar by scalar.
use Rattle.std.proofs.Common.{◌≡◌, ℕ, zero, suc, ◌+◌, ◌<◌, ◌==◌, ◌&&◌, ◌||◌, ◌↔◌, inl, inr, Bool, true, false, true≢false, Option, Some, None, List, [], ◌∷◌, ◌++◌, length, map, take, drop, get_or, refl, sym, ap, ◌∙◌, subst, arith, append_assoc, length-append}
use Rattle.std.specs.Prelude.{slice_get}
use Rattle.std.specs.List.{list_any}
use Rattle.std.specs.Option.{option_map_or}
use Rattle.std.proofs.lemmas.Bool.{eq-eqb, eqb-true, or_cases, or_left, or_right, and_from, and_parts, false_from_ne_true}
use Rattle.std.proofs.lemmas.Option.{slice_get_within}
use Rattle.debug_records.specs.declared.change.Kind.{Kind}
use Rattle.debug_records.specs.declared.change.Kind.TheVariants.{Removed, Moved, Reused, Replaced, Sunk}
use Rattle.debug_records.specs.declared.change.PassName.{PassName}
use Rattle.graph_core.specs.Graphs.{Graph, Logged, Scalar}
use Rattle.graph_core.specs.Paths.{Among, front, behind}
use Rattle.graph_homes.specs.declared.home.Home.{Home}
use Rattle.graph_homes.specs.declared.home.Home.TheVariants.{Register, Slot}
use Rattle.graph_homes.specs.Reused.{IsReused, IsTemporaryOf, first_copy}
use Rattle.home_assign.specs.declared.moves.Moves.{Moves}
use Rattle.home_assign.specs.declared.pairs.Pairs.{Pairs}
use Rattle.home_assign.specs.Copies.{IsOwn}
use Rattle.home_assign.specs.Moves.{AreMoves, is_moved, is_moved_at, moves_from}
use Rattle.home_assign.specs.Pairs.{has}
use Rattle.home_assign.specs.Sharing.{AreLogged, AreShared, none, shared, own, IsForeign, change_of, home_in}

any_among : (f : Logged → Bool) (cs : List Logged) → list_any f cs ≡ true → (c : Logged) × Among c cs × (f c ≡ true)
any_among f [] t = absurd (true≢false (sym t))
any_among f (c ∷ cs) t = elim (or_cases (f c) (list_any f cs) t) [
  | inl now ↦ (c, front, now)
  | inr later ↦ (let found = any_among f cs later in (found.0, behind found.1, found.2))
]

among_any : (f : Logged → Bool) (c : Logged) (cs : List Logged) → Among c cs → f c ≡ true → list_any f cs ≡ true
among_any f c [] among t = elim among [ ]
among_any f c (d ∷ cs) front t = or_left (f c) (list_any f cs) t
among_any f c (d ∷ cs) (behind there) t = or_right (f d) (list_any f cs) (among_any f c cs there t)

moved_is : (k : Kind) → is_moved k ≡ true → k ≡ Moved
moved_is Removed e = absurd (true≢false (sym e))
moved_is Moved e = refl
moved_is Reused e = absurd (true≢false (sym e))
moved_is Replaced e = absurd (true≢false (sym e))
moved_is Sunk e = absurd (true≢false (sym e))

home_there : (o : Option Home) (r : ℕ) → option_map_or (λ home. home) o (Slot 0) ≡ Register r → o ≡ Some (Register r)
home_there None r e = absurd (let no : Slot 0 ≡ Register r = e in cc)
home_there (Some k) r e = ap (λ h. Some h) e

module _ (made : List Logged) (moves : Moves) (are : AreMoves made moves) (homes : List Home) (g : Graph) (own_of : Pairs) (each : length homes ≡ g.name_count)
    (known : (x y : ℕ) → (has own_of x y ≡ true) ↔ IsOwn (is_moved_at g.scalars moves) (length g.scalars) (λ p z. first_copy p z g.blocks) x y) where
  module _ (x : ℕ) (s : Scalar) (at : slice_get g.scalars x ≡ Some s) where
    moved_at : (p : ℕ) → is_moved_at g.scalars moves x p ≡ list_any (moves_from s.variable p) made
    moved_at p = ap (λ o. option_map_or (λ (t : Scalar). has moves.pairs t.variable p) o false) at ∙ are s.variable p

    own_temporary : (y : ℕ) → has own_of x y ≡ true → IsTemporaryOf made g x s.variable y
    own_temporary y t =
        let one = (known x y).0 t in
        let found = any_among (moves_from s.variable one.place) made (sym (moved_at one.place) ∙ one.moved_away) in
        let parts = and_parts (is_moved found.0.kind) ((found.0.variable == s.variable) && (found.0.place == one.place)) found.2 in
        let numbers = and_parts (found.0.variable == s.variable) (found.0.place == one.place) parts.1 in
        record {
          change = found.0;
          logged = found.1;
          moved = moved_is found.0.kind parts.0;
          of = eqb-true found.0.variable s.variable numbers.0;
          copied = ap (λ p. first_copy p x g.blocks) (eqb-true found.0.place one.place numbers.1) ∙ one.copied;
          temporary = one.temporary;
        }

    temporary_own : (y : ℕ) → IsTemporaryOf made g x s.variable y → has own_of x y ≡ true
    temporary_own y t = (known x y).1 (record {
      place = t.change.place;
      copied = t.copied;
      moved_away = moved_at t.change.place ∙ among_any (moves_from s.variable t.change.place) t.change made t.logged
          (and_from (is_moved t.change.kind) ((t.change.variable == s.variable) && (t.change.place == t.change.place)) (ap is_moved t.moved)
          (and_from (t.change.variable == s.variable) (t.change.place == t.change.place) (eq-eqb t.change.variable s.variable t.of) (eq-eqb t.change.place t.change.place refl)));
      temporary = t.temporary;
    })

    -- the search says it rightly
    pub foreign_reused : IsForeign homes own_of x ↔ IsReused made (home_in homes) g x s.variable
    foreign_reused = (
      (λ f. record {
        register = f.register;
        y = f.y;
        named = omega (arith, slice_get_within homes f.y (Register f.register) f.shared, each);
        other = f.other;
        kept = ap (λ o. option_map_or (λ home. home) o (Slot 0)) f.kept;
        shared = ap (λ o. option_map_or (λ home. home) o (Slot 0)) f.shared;
        foreign = λ t. true≢false (sym (temporary_own f.y t) ∙ f.foreign);
      }),
      (λ r. record {
        register = r.register;
        y = r.y;
        kept = home_there (slice_get homes x) r.register r.kept;
        shared = home_there (slice_get homes r.y) r.register r.shared;
        other = r.other;
        foreign = false_from_ne_true (has own_of x r.y) (λ t. r.foreign (own_temporary r.y t));
      }),
    )

-- ---- Scalar by scalar

module _ (made : List Logged) (home : ℕ → Home) (g : Graph) (pass : PassName) where
  abbrev Are : ℕ → List Scalar → List Logged → Type 0
  Are x ss all = AreShared made home g pass x ss all

  one_shared : (x n : ℕ) (ss : List Scalar) (s : Scalar) (all : List Logged) → n ≡ x + length ss → IsReused made home g n s.variable → Are x ss all → Are x (ss ++ s ∷ []) (all ++ change_of pass s ∷ [])
  one_shared x n [] s all e is none = (let same : n ≡ x = omega (arith, e) in shared (subst (λ k. IsReused made home g k s.variable) same is) none)
  one_shared x n (t ∷ ss) s all e is (shared {all = rest} of more) = shared of (one_shared (x + 1) n ss s rest (omega (arith, e)) is more)
  one_shared x n (t ∷ ss) s all e is (own never more) = own never (one_shared (x + 1) n ss s all (omega (arith, e)) is more)

  one_own : (x n : ℕ) (ss : List Scalar) (s : Scalar) (all : List Logged) → n ≡ x + length ss → (IsReused made home g n s.variable → ⊥) → Are x ss all → Are x (ss ++ s ∷ []) all
  one_own x n [] s all e never none = (let same : n ≡ x = omega (arith, e) in own (subst (λ k. IsReused made home g k s.variable → ⊥) same never) none)
  one_own x n (t ∷ ss) s all e never (shared {all = rest} of more) = shared of (one_own (x + 1) n ss s rest (omega (arith, e)) never more)
  one_own x n (t ∷ ss) s all e never (own alone more) = own alone (one_own (x + 1) n ss s all (omega (arith, e)) never more)

  -- no scalars
  pub logged_none : (old : List Logged) → AreLogged made home g pass [] old old
  logged_none old = record { all = []; are = none; log = sym (append_nil old) }
    where
      append_nil : (xs : List Logged) → xs ++ [] ≡ xs
      append_nil [] = refl
      append_nil (x ∷ xs) = ap (λ ys. x ∷ ys) (append_nil xs)

  -- a further scalar whose register other names have too
  pub logged_shared : (n : ℕ) (ss : List Scalar) (s : Scalar) (old now new : List Logged) → n ≡ length ss → IsReused made home g n s.variable → new ≡ now ++ change_of pass s ∷ [] → AreLogged made home g pass ss old now → AreLogged made home g pass (ss ++ s ∷ []) old new
  logged_shared n ss s old now new e is more logged = record {
    all = logged.all ++ change_of pass s ∷ [];
    are = one_shared 0 n ss s logged.all (omega (arith, e)) is logged.are;
    log = more ∙ ap (λ xs. xs ++ change_of pass s ∷ []) logged.log ∙ append_assoc old logged.all (change_of pass s ∷ []);
  }

  -- a further scalar that has its register alone
  pub logged_own : (n : ℕ) (ss : List Scalar) (s : Scalar) (old now : List Logged) → n ≡ length ss → (IsReused made home g n s.variable → ⊥) → AreLogged made home g pass ss old now → AreLogged made home g pass (ss ++ s ∷ []) old now
  logged_own n ss s old now e never logged = record { all = logged.all; are = one_own 0 n ss s logged.all (omega (arith, e)) never logged.are; log = logged.log }

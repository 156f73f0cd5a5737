-- The objects of a program's run by their owners.
use Rattle.std.proofs.Common.{◌≡◌, ◌≢◌, ℕ, zero, suc, ◌/◌, List, [], ◌∷◌, length, Option, Some, None, Bool, true, false, not, ◌&&◌, slice_get, refl, sym, ap, ◌∙◌}
use Rattle.std.specs.Prelude.{◌==◌, if◌then◌else◌, nat_le, option_map}
use Rattle.std.proofs.lemmas.Bool.{eqb-true}
use Rattle.word_base.specs.Owners.{Owner, Static, Literal, Variable, is_same_owner}
use Rattle.c_tree.specs.declared.types.IntegerType.{IntegerType}
use Rattle.c_tree.specs.declared.types.IntegerType.TheVariants.{Char, SignedChar, UnsignedChar, Short, UnsignedShort, Int, UnsignedInt, Long, UnsignedLong}
use Rattle.c_tree.specs.declared.object_type.Scalar.{Scalar}
use Rattle.c_meaning_values.specs.declared.value.Phase.{Phase}
use Rattle.c_meaning_values.specs.declared.value.Phase.TheVariants.{Initialising, Live, Ended}
use Rattle.c_meaning_values.specs.Types.{scalar_size, size_by_stars}
use Rattle.c_meaning_values.specs.Memory.{Object, Memory, is_over, is_begun, is_literal, is_writable, index_at, is_owned, object_of}
use Rattle.graph_build_runs.proofs.Words.{both_true}
use Rattle.base_laws.proofs.Booleans.{three_true}

-- the first value of an object stands at its beginning
by_stars : (base : IntegerType) (stars : ℕ) → 0 / size_by_stars base stars ≡ 0
by_stars Char zero = refl
by_stars SignedChar zero = refl
by_stars UnsignedChar zero = refl
by_stars Short zero = refl
by_stars UnsignedShort zero = refl
by_stars Int zero = refl
by_stars UnsignedInt zero = refl
by_stars Long zero = refl
by_stars UnsignedLong zero = refl
by_stars base (suc stars) = refl

pub first_index : (e : Scalar) → 0 / scalar_size e ≡ 0
first_index e = by_stars e.base e.stars

pub owner_is : (a b : Owner) → is_same_owner a b ≡ true → a ≡ b
owner_is (Static n) (Static m) h = ap Static (eqb-true n m h)
owner_is (Static n) (Literal m) h = cc
owner_is (Static n) (Variable m e) h = cc
owner_is (Literal n) (Static m) h = cc
owner_is (Literal n) (Literal m) h = ap Literal (eqb-true n m h)
owner_is (Literal n) (Variable m e) h = cc
owner_is (Variable n d) (Static m) h = cc
owner_is (Variable n d) (Literal m) h = cc
owner_is (Variable n d) (Variable m e) h =
    let both = both_true (n == m) (d == e) h in
    ap (λ k. Variable k d) (eqb-true n m both.0) ∙ ap (Variable m) (eqb-true d e both.1)

open_phase : (phase : Phase) → not (is_over phase) ≡ true → phase ≢ Ended
open_phase Initialising h = λ e. cc
open_phase Live h = λ e. cc
open_phase Ended h = cc

-- an object that may be written has not ended
pub writable_open : (o : Object) (offset : ℕ) → is_writable o offset ≡ true → o.phase ≢ Ended
writable_open o offset h = let c = three_true (not (is_over o.phase)) (not (is_literal o.owner)) (not (nat_le (length o.values) (index_at o offset))) h in open_phase o.phase c.0

-- An owner's object that has not ended.
pub record Owned (owner : Owner) (memory : Memory) (n : ℕ) : Type 0 where
  pub object : Object
  pub is : slice_get memory n ≡ Some object
  pub owner_is : object.owner ≡ owner
  pub alive : object.phase ≢ Ended

pub owned_at : (owner : Owner) (memory : Memory) (n : ℕ) → object_of owner memory ≡ Some n → Owned owner memory n
owned_at owner [] n h = cc
owned_at owner (o ∷ memory) n h = go (λ j. owned_at owner memory j) (is_owned owner o) refl h
  where
    later : ((j : ℕ) → object_of owner memory ≡ Some j → Owned owner memory j) → (r : Option ℕ) (n : ℕ) → object_of owner memory ≡ r → option_map (λ k. suc k) r ≡ Some n → Owned owner (o ∷ memory) n
    later rest None n e k = cc
    later rest (Some j) zero e k = cc
    later rest (Some j) (suc n) e k =
        let same : j ≡ n = cc in
        let c = rest n (e ∙ ap Some same) in
        record { object = c.object; is = c.is; owner_is = c.owner_is; alive = c.alive }

    go : ((j : ℕ) → object_of owner memory ≡ Some j → Owned owner memory j) → (b : Bool) → is_owned owner o ≡ b → (if b then Some 0 else option_map (λ k. suc k) (object_of owner memory)) ≡ Some n → Owned owner (o ∷ memory) n
    go rest true e k =
        let both = both_true (not (is_over o.phase)) (is_same_owner owner o.owner) e in
        let first : 0 ≡ n = cc in
        record { object = o; is = ap (slice_get (o ∷ memory)) (sym first); owner_is = sym (owner_is owner o.owner both.1); alive = open_phase o.phase both.0 }
    go rest false e k = later rest (object_of owner memory) n refl k

pub begun_live : (phase : Phase) → is_begun phase ≡ true → phase ≡ Live
begun_live Initialising h = cc
begun_live Live h = refl
begun_live Ended h = cc

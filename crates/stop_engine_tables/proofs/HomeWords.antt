-- The words of a function that write a home, and the places to which they belong.
use Rattle.std.proofs.Common.{◌≡◌, ℕ, zero, suc, ◌+◌, ◌-◌, ◌/◌, ◌<◌, ◌==◌, true, false, Option, Some, None, List, length, IsSomeAnd, refl, ap, ◌∙◌, subst, arith}
use Rattle.std.specs.Prelude.{Contains, IfSome, ◌&&◌, slice_get, slice_index, slice_index_or}
use Rattle.std.proofs.Math.Bool.{and-false, and-true}
use Rattle.std.proofs.lemmas.Option.{get_or_from_slice_get, slice_get-get_or, slice_get_within}
use Rattle.image_form.specs.Form.{Form}
use Rattle.image_form.specs.Rules.{IsImage}
use Rattle.image_form.specs.RulesOfFunctions.{IsFunction, first_code_address}
use Rattle.image_form.specs.RulesOfPlaces.{IsInFunction, word_address}
use Rattle.image_form.specs.declared.tables.Function.{Function}
use Rattle.image_form.specs.declared.tables.Place.{Place}
use Rattle.image_form.specs.declared.variables.Storage.{Storage}
use Rattle.image_form.specs.declared.variables.Variable.{Variable}
use Rattle.image_form.proofs.TableLaws.{each_at}
use Rattle.stop_engine_tables.proofs.VariableListLaws.{owners-there}
use Rattle.stop_engine_view.specs.HomeWrites.{writes_home}

-- the owner of a word is 0 or a place
pub owner_low : (m : Form) (w n : ℕ) → IsImage m → slice_get m.owners w ≡ Some n → n < length m.places + 1
owner_low m w zero image at = omega arith
owner_low m w (suc i) image at = by_place (slice_get m.places i) refl (image.owners.owned w (suc i) at (λ e. omega (arith, e)))
  where
    by_place : (o : Option Place) → slice_get m.places i ≡ o → IsSomeAnd o (λ p. IsInFunction m p.function (word_address w)) → suc i < length m.places + 1
    by_place None e is = absurd is
    by_place (Some p) e is = let within = slice_get_within m.places i p e in omega (arith, within)

-- the function of a variable is there
pub owner_there : (m : Form) (number : ℕ) (v : Variable) (f : ℕ) → IsImage m → slice_get m.variables number ≡ Some v → v.function ≡ Some f → f < length m.functions
owner_there m number v f image at own =
    let there : IfSome (slice_index_or m.variables number v).function (λ g. g < length m.functions) = owners-there m (length m.functions) image refl number v (slice_get_within m.variables number v at) in
    let same : (slice_index_or m.variables number v).function ≡ Some f = ap (λ (w : Variable). w.function) (get_or_from_slice_get m.variables number v v at) ∙ own in
    subst (λ (o : Option ℕ). IfSome o (λ g. g < length m.functions)) same there

-- a function of the image is one as its rules ask
pub function_kept : (m : Form) (g : Function) → IsImage m → Contains m.functions g → IsFunction m g
function_kept m g image there =
    let at : slice_get m.functions there.0 ≡ Some g = slice_get-get_or m.functions there.0 g there.1 ∙ ap Some there.2 in
    each_at (IsFunction m) m.functions there.0 g image.functions.each at

-- how many words it has, by the numbers of its first one and of the one behind its last
pub words_of : (m : Form) (g : Function) → IsFunction m g → (g.end - 65536) / 4 - (g.first - 65536) / 4 ≡ (g.end - g.first) / 4
unfolding first_code_address
words_of m g its =
    let aligned = its.first_in_code.0 in
    let from = its.first_in_code.1 in
    let end = its.end_aligned in
    let some = its.not_empty in
    omega (arith, aligned, from, end, some)

-- a word that writes the home counts for its owner
pub written_here : (owners code : List ℕ) (storage : Storage) (index owner place : ℕ) → slice_get owners index ≡ Some owner → writes_home code storage index ≡ true
    → (slice_index owners index == place && writes_home code storage index) ≡ (owner == place)
written_here owners code storage index owner place at writes =
    ap (λ b. slice_index owners index == place && b) writes ∙ (and-true (slice_index owners index == place) ∙ ap (λ n. n == place) (get_or_from_slice_get owners index owner 0 at))

-- another word counts for none
pub written_not : (owners code : List ℕ) (storage : Storage) (index place : ℕ) → writes_home code storage index ≡ false
    → (slice_index owners index == place && writes_home code storage index) ≡ false
written_not owners code storage index place writes = ap (λ b. slice_index owners index == place && b) writes ∙ and-false (slice_index owners index == place)

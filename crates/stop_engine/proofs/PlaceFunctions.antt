-- The function in which a place stands.
use Rattle.std.proofs.Common.{◌≡◌, ℕ, ◌<◌, ◌≤◌, Option, Some, None, IsSomeAnd, length, refl}
use Rattle.std.specs.Prelude.{slice_get}
use Rattle.std.proofs.lemmas.Option.{slice_get_within}
use Rattle.image_form.specs.Form.{Form}
use Rattle.image_form.specs.Rules.{IsImage}
use Rattle.image_form.specs.RulesOfPlaces.{IsPlace}
use Rattle.image_form.specs.declared.tables.Function.{Function}
use Rattle.image_form.specs.declared.tables.Place.{Place}
use Rattle.image_form.proofs.TableLaws.{each_at}

within : (m : Form) (p : Place) (o : Option Function) → slice_get m.functions p.function ≡ o
    → IsSomeAnd o (λ (g : Function). (g.first ≤ p.address) × (p.address < g.end)) → p.function < length m.functions
within m p None e h = absurd h
within m p (Some g) e h = slice_get_within m.functions p.function g e

-- It is one of the image's.
pub place_function : (m : Form) (n : ℕ) (p : Place) → IsImage m → slice_get m.places n ≡ Some p
    → p.function < length m.functions
place_function m n p image there =
    within m p (slice_get m.functions p.function) refl (each_at (IsPlace m) m.places n p image.places.each there).in_function

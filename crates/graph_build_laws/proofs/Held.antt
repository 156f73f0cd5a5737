-- Values in names of their own are not moved.
use Rattle.std.proofs.Common.{◌≡◌, ℕ, ◌+◌, ◌≤◌, Bool, true, false, Option, Some, None, refl, arith, if◌then◌else◌, subst, sym, ap, ◌∙◌}
use Rattle.c_tree.specs.declared.object_type.Object.{Object}
use Rattle.c_tree.specs.declared.object_type.Object.TheVariants as object
use Rattle.graph_core.specs.Graphs as unit
use Rattle.graph_core.specs.Graphs.{Operand}
use Rattle.graph_build_layout.specs.declared.laid.Use.TheVariants.{Anywhere}
use Rattle.graph_build_names.specs.Names.{Names, pick, object_of, object_location}
use Rattle.graph_build_names.specs.Writes.{is_moved, is_location_moved}
use Rattle.graph_build_layout.specs.Laid.{operation_laid, leaf_laid, object_laid}
use Rattle.graph_build_layout.specs.Layout.{named_location, named_address}
use Rattle.graph_build_laws.proofs.Temporaries.{pick_least}
use Rattle.graph_build_laws.proofs.Written.{Few}
use Rattle.graph_build_laws.proofs.Pieces.{one_if, one_most}

module _ (n : Names) (scalars : ℕ) where
  pub name_stays : (w : ℕ → Bool) → Few scalars w → (y : ℕ) → scalars ≤ y → one_if (w y) ≡ 0
  name_stays w few y h = ap one_if (few y h)

  -- the result of an operation
  pub operation_stays : (w : ℕ → Bool) → Few scalars w → (begun free top : ℕ) → scalars ≤ begun → begun ≤ free → one_if (is_moved w (operation_laid n Anywhere begun free top).value) ≡ 0
  operation_stays w few begun free top p q = name_stays w few (pick n begun free) (pick_least n scalars begun free p (omega arith))

  -- the location of a variable
  pub location_stays : (w : ℕ → Bool) (o : Object) → one_if (is_location_moved w (named_location n o)) ≡ 0
  location_stays w (object.Static i) = refl
  location_stays w (object.Literal i) = refl
  location_stays w (object.Automatic v) = go (object_of n v)
    where
      go : (o : Option ℕ) → one_if (is_location_moved w (object_location o)) ≡ 0
      go None = refl
      go (Some k) = refl

  -- its address
  pub address_stays : (w : ℕ → Bool) → Few scalars w → (o : Object) (t : ℕ) → scalars ≤ t → one_if (is_moved w (named_address n o Anywhere t).value) ≡ 0
  address_stays w few (object.Static i) t h = refl
  address_stays w few (object.Literal i) t h = refl
  address_stays w few (object.Automatic v) t h = go (object_of n v)
    where
      go : (o : Option ℕ) → one_if (is_moved w (object_laid n Anywhere o t).value) ≡ 0
      go None = refl
      go (Some k) = operation_stays w few t t t h (omega arith)

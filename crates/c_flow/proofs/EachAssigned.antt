-- The parameters that the entry of a function assigns, as a loop that counts up meets them.
use Rattle.std.proofs.Common.{◌≡◌, ℕ, ◌+◌, ◌-◌, ◌<◌, ◌≤◌, sym, ap, ◌∙◌, List, [], ◌∷◌, ◌++◌, map, append_assoc}
use Rattle.c_tree.specs.declared.object_type.Object.TheVariants.{Automatic}
use Rattle.c_places.specs.Places.{numbers_from}
use Rattle.c_places.proofs.Parameters.{next_number, no_number}
use Rattle.c_flow.specs.declared.assigned.Assigned.{Assigned}
use Rattle.c_flow.specs.Assigns.{assigns_object}

-- the entry at a position assigns the variables of these numbers
abbrev pub entry_assigns : ℕ → List ℕ → List Assigned
entry_assigns at numbers = map (λ (x : ℕ). assigns_object at (Automatic x)) numbers

-- with the next parameter behind a list, what the entry of a function assigns is complete by the parameters behind it
pub parameter_added : (at least i count : ℕ) (xs ys : List Assigned) → i < count → ys ≡ xs ++ assigns_object at (Automatic (least + i)) ∷ []
    → ys ++ entry_assigns at (numbers_from (least + (i + 1)) (count - (i + 1))) ≡ xs ++ entry_assigns at (numbers_from (least + i) (count - i))
parameter_added at least i count xs ys lt longer =
    rw longer
    (append_assoc xs (assigns_object at (Automatic (least + i)) ∷ []) (entry_assigns at (numbers_from (least + (i + 1)) (count - (i + 1))))
    ∙ ap (λ (ns : List ℕ). xs ++ entry_assigns at ns) (sym (next_number least i count lt)))

-- behind the last parameter there is none
pub no_parameter : (least i count : ℕ) → count ≤ i → numbers_from (least + i) (count - i) ≡ []
no_parameter = no_number

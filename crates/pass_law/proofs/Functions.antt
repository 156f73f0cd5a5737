-- Functions that are gone through one by one.
use Rattle.std.proofs.Common.{◌≡◌, ◌-◌, ◌<◌, ◌≤◌, List, [], ◌∷◌, ◌++◌, length, sym, subst, arith, append_assoc, get_or, map, take, drop}
use Rattle.graph_core.specs.Graphs.{Graph}
use Rattle.pass_law.specs.Kept.{EachFunction}
use Rattle.base_laws.proofs.Lists.{append_nil, rest_is}

-- What is left of the functions, behind those that stand in their new form.
pub data Left (IsMade : Graph → Graph → Type 0) (gs hs left : List Graph) : Type 0 where
  leaves : ((more : List Graph) → EachFunction IsMade left more → EachFunction IsMade gs (hs ++ more)) → Left IsMade gs hs left

module _ (IsMade : Graph → Graph → Type 0) where
  pub left_first : (gs : List Graph) → Left IsMade gs [] gs
  left_first gs = leaves (λ more of. of)

  pub left_next : (gs hs all : List Graph) (g h : Graph) (left : List Graph) → all ≡ hs ++ h ∷ [] → IsMade g h → Left IsMade gs hs (g ∷ left) → Left IsMade gs all left
  left_next gs hs all g h left e made (leaves go) =
      let P : List Graph → Type 0 = λ zs. Left IsMade gs zs left in
      subst P (sym e) (leaves (λ more of. (let Q : List Graph → Type 0 = λ zs. EachFunction IsMade gs zs in
      subst Q (sym (append_assoc hs (h ∷ []) more)) (go (h ∷ more) (made, of)))))

  pub functions_step : {A : Type 0} (view : A → Graph) (gs : List Graph) (left : List A) (x d : A) (hs all : List Graph) (h : Graph) → 1 ≤ length left → x ≡ get_or left 0 d → all ≡ hs ++ h ∷ []
      → IsMade (view x) h → Left IsMade gs hs (map view left) → Left IsMade gs all (map view (take (length left - 1) (drop 1 left)))
  functions_step view gs [] x d hs all h le e made are old = absurd (omega arith)
  functions_step view gs (y ∷ left) x d hs all h le e made are old =
      subst (λ zs. Left IsMade gs all (map view zs)) (sym (rest_is y left)) (left_next gs hs all (view y) h (map view left) made (subst (λ z. IsMade (view z) h) e are) old)

  pub functions_done : {A : Type 0} (view : A → Graph) (gs : List Graph) (left : List A) (hs : List Graph) → length left < 1 → Left IsMade gs hs (map view left) → EachFunction IsMade gs hs
  functions_done view gs [] hs lt (leaves go) = (let Q : List Graph → Type 0 = λ zs. EachFunction IsMade gs zs in subst Q (append_nil hs) (go [] tt))
  functions_done view gs (y ∷ left) hs lt old = absurd (omega arith)

-- Types of scalars, and the copies that instructions make.
use Rattle.std.proofs.Common.{◌≡◌, ◌≢◌, ℕ, true, false, true≢false, Option, Some, None, List, get_or, refl, sym, ap, ◌∙◌, subst}
use Rattle.std.specs.Prelude.{slice_get, option_map}
use Rattle.std.proofs.lemmas.Option.{same_Some, none-some, get_or_from_slice_get}
use Rattle.graph_core.specs.Graphs.{Name, Instruction, Move, Scalar}
use Rattle.copy_pass_rule.specs.declared.copies.CopyAt.{CopyAt}
use Rattle.copy_pass_rule.specs.Copying.{AreOfOneType}
use Rattle.copy_pass_rule.specs.Flow.{IsKnown, stands_at}
use Rattle.copy_pass_rule.specs.Known.{IsNoCopy, type_in}
use Rattle.copy_pass_rule.specs.Numbered.{IsOnlyOne}

typed : (o : Option Scalar) (a : ℕ) → option_map (λ (s : Scalar). s.of) o ≡ Some a → (s : Scalar) × (o ≡ Some s) × (s.of ≡ a)
typed None a e = absurd (none-some a e)
typed (Some s) a e = (s, refl, same_Some s.of a e)

pub one_type : (scalars : List Scalar) (x y a b : ℕ) → type_in scalars x ≡ Some a → type_in scalars y ≡ Some b → y ≢ x → b ≡ a → AreOfOneType scalars x y
one_type scalars x y a b at_x at_y other same =
    let s = typed (slice_get scalars x) a at_x in
    let t = typed (slice_get scalars y) b at_y in
    record { target = s.0; source = t.0; target_is = s.1; source_is = t.1; type = t.2 ∙ same ∙ sym s.2; other = other }

pub target_typed : (scalars : List Scalar) (x y : ℕ) (s : AreOfOneType scalars x y) → type_in scalars x ≡ Some s.target.of
target_typed scalars x y s = ap (option_map (λ (t : Scalar). t.of)) s.target_is

pub source_typed : (scalars : List Scalar) (x y : ℕ) (s : AreOfOneType scalars x y) → type_in scalars y ≡ Some s.source.of
source_typed scalars x y s = ap (option_map (λ (t : Scalar). t.of)) s.source_is

-- an instruction that makes the one copy that stands there
pub known_by : (scalars : List Scalar) (copies : List CopyAt) (n left : ℕ) (i : Instruction) (k : ℕ) → IsOnlyOne copies n left k → (target source : ℕ) → i ≡ Move target (Name source) → AreOfOneType scalars target source → (d : CopyAt)
    → (get_or copies k d).target ≡ target → (get_or copies k d).source ≡ source → IsKnown scalars copies n left i
known_by scalars copies n left i k one target source is typed d to from = record {
  listed = λ j c at stands.
      (let here : slice_get copies k ≡ Some c = ap (slice_get copies) (sym (one.only j c at stands)) ∙ at in
      let same : get_or copies k d ≡ c = get_or_from_slice_get copies k c d here in
      let a : target ≡ c.target = sym to ∙ ap (λ (e : CopyAt). e.target) same in
      let b : source ≡ c.source = sym from ∙ ap (λ (e : CopyAt). e.source) same in
      (is ∙ ap (λ z. Move z (Name source)) a ∙ ap (λ z. Move c.target (Name z)) b, subst (λ z. AreOfOneType scalars c.target z) b (subst (λ z. AreOfOneType scalars z source) a typed)));
  all = λ x y other others.
      (let same : get_or copies k d ≡ one.copy = get_or_from_slice_get copies k one.copy d one.is in
      let both : Move target (Name source) ≡ Move x (Name y) = sym is ∙ other in
      let a : target ≡ x = cc in
      let b : source ≡ y = cc in
      (k, one.copy, one.is, one.stands, sym (ap (λ (e : CopyAt). e.target) same) ∙ to ∙ a, sym (ap (λ (e : CopyAt). e.source) same) ∙ from ∙ b));
}

-- an instruction that makes none, where none stands
pub known_none : (scalars : List Scalar) (copies : List CopyAt) (n left : ℕ) (i : Instruction) → ((k : ℕ) (c : CopyAt) → slice_get copies k ≡ Some c → stands_at c n left ≡ false) → IsNoCopy scalars i → IsKnown scalars copies n left i
known_none scalars copies n left i none never = record {
  listed = λ k c at stands. absurd (true≢false (sym stands ∙ none k c at));
  all = λ x y is typed. absurd (never x y is typed);
}

-- where it is known, the one copy that stands there is the one that is made
pub of_known : (scalars : List Scalar) (copies : List CopyAt) (n left : ℕ) (i : Instruction) (k : ℕ) → IsOnlyOne copies n left k → (target source : ℕ) → i ≡ Move target (Name source) → AreOfOneType scalars target source → (d : CopyAt)
    → IsKnown scalars copies n left i → ((get_or copies k d).target ≡ target) × ((get_or copies k d).source ≡ source)
of_known scalars copies n left i k one target source is typed d known =
    let made = known.all target source is typed in
    let same : get_or copies k d ≡ made.1 = get_or_from_slice_get copies k made.1 d (ap (slice_get copies) (sym (one.only made.0 made.1 made.2 made.3)) ∙ made.2) in
    (ap (λ (e : CopyAt). e.target) same ∙ made.4, ap (λ (e : CopyAt). e.source) same ∙ made.5)

-- none is made where one stands, or one is made where none stands
pub stands_alone : (scalars : List Scalar) (copies : List CopyAt) (n left : ℕ) (i : Instruction) (k : ℕ) → IsOnlyOne copies n left k → IsNoCopy scalars i → IsKnown scalars copies n left i → ⊥
stands_alone scalars copies n left i k one never known = (let made = known.listed k one.copy one.is one.stands in never one.copy.target one.copy.source made.0 made.1)

pub none_stands : (scalars : List Scalar) (copies : List CopyAt) (n left : ℕ) (i : Instruction) → ((k : ℕ) (c : CopyAt) → slice_get copies k ≡ Some c → stands_at c n left ≡ false) → (target source : ℕ) → i ≡ Move target (Name source)
    → AreOfOneType scalars target source → IsKnown scalars copies n left i → ⊥
none_stands scalars copies n left i none target source is typed known = (let made = known.all target source is typed in absurd (true≢false (sym made.3 ∙ none made.0 made.1 made.2)))

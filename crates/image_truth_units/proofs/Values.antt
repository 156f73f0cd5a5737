-- The text of a word of a value is the value's.
use Rattle.std.proofs.Common.{◌≡◌, ℕ, zero, suc, ◌%◌, List, ◌∷◌, refl, sym, ap, ◌∙◌, subst, arith}
use Rattle.std.specs.Int.{cast_signed, w8, w16}
use Rattle.c_tree.specs.declared.types.IntegerType.{IntegerType}
use Rattle.c_tree.specs.declared.types.IntegerType.TheVariants.{Char, SignedChar, UnsignedChar, Short, UnsignedShort, Int, UnsignedInt, Long, UnsignedLong}
use Rattle.c_tree.specs.declared.object_type.Scalar.{Scalar}
use Rattle.c_tree.specs.Programs.{ProgramTree}
use Rattle.c_meaning_values.specs.declared.value.Value as source
use Rattle.c_meaning_values.specs.declared.value.Value.TheVariants.{Number, Null, Pointer}
use Rattle.c_meaning_values.specs.Types.{scalar_size, size_by_stars}
use Rattle.c_meaning_values.specs.Memory.{Memory}
use Rattle.image_build_tables.specs.Variables.{element_of_integer, element_by_stars}
use Rattle.image_form.specs.Form.{Form}
use Rattle.line_form.specs.Decimal.{decimal, signed_decimal}
use Rattle.line_form.specs.Values.{null_text}
use Rattle.rv_machine.specs.State.{MachineState}
use Rattle.stop_engine_view.specs.Pointers.{pointer_text}
use Rattle.stop_engine_view.specs.Values.{word_text}
use Rattle.stop_engine_view.specs.Words.{element_size}
use Rattle.image_truth_units.specs.Texts.{IsText}
use Rattle.image_truth_units.specs.Variables.{HasVariablesOf}
use Rattle.image_truth_units.specs.Standing.{Standing, IsWordOf, AreBitsOf, IsOfType, HoldsMemory, kept_bits}
use Rattle.image_truth_units.proofs.Numbers.{number_shown}
use Rattle.image_truth_units.proofs.Pointing.{pointer_shown}

null_shown : (m : Form) (s : MachineState) (place : ℕ) → pointer_text m s place 0 ≡ null_text
unfolding pointer_text
null_shown m s place = refl

-- the bits that are kept of a word have its text
bits_shown : (m : Form) (s : MachineState) (place : ℕ) (base : IntegerType) (stars w : ℕ) → word_text m s place (element_by_stars base stars) (kept_bits (size_by_stars base stars) w) ≡ word_text m s place (element_by_stars base stars) w
bits_shown m s place Char zero w = let same : w % 256 % 256 ≡ w % 256 = omega arith in ap decimal same
bits_shown m s place UnsignedChar zero w = let same : w % 256 % 256 ≡ w % 256 = omega arith in ap decimal same
bits_shown m s place SignedChar zero w = let same : w % 256 % 256 ≡ w % 256 = omega arith in ap (λ k. signed_decimal (cast_signed w8 k)) same
bits_shown m s place Short zero w = let same : w % 65536 % 65536 ≡ w % 65536 = omega arith in ap (λ k. signed_decimal (cast_signed w16 k)) same
bits_shown m s place UnsignedShort zero w = let same : w % 65536 % 65536 ≡ w % 65536 = omega arith in ap decimal same
bits_shown m s place Int zero w = refl
bits_shown m s place UnsignedInt zero w = refl
bits_shown m s place Long zero w = refl
bits_shown m s place UnsignedLong zero w = refl
bits_shown m s place base (suc stars) w = refl

-- an element of an image has the size of the scalar type that it is
pub size_same : (base : IntegerType) (stars : ℕ) → element_size (element_by_stars base stars) ≡ size_by_stars base stars
size_same Char zero = refl
size_same SignedChar zero = refl
size_same UnsignedChar zero = refl
size_same Short zero = refl
size_same UnsignedShort zero = refl
size_same Int zero = refl
size_same UnsignedInt zero = refl
size_same Long zero = refl
size_same UnsignedLong zero = refl
size_same base (suc stars) = refl

module _ (p : ProgramTree) (m : Form) (tables : HasVariablesOf p m) (memory : Memory) (here : Standing) (waiting : List Standing) (s : MachineState) (h : HoldsMemory p m memory here waiting s) where
  -- The text of a value's word is that of the value.
  pub word_shown : (base : IntegerType) (stars : ℕ) (v : source.Value) (w : ℕ) → IsOfType base stars v → IsWordOf p m (here ∷ waiting) memory v w → IsText p memory v (word_text m s here.place (element_by_stars base stars) w)
  word_shown base zero (Number z) w of means = ap (word_text m s here.place (element_of_integer base)) means ∙ number_shown m s here.place base z of
  word_shown base zero Null w of means = absurd of
  word_shown base zero (Pointer n offset) w of means = absurd of
  word_shown base (suc stars) (Number z) w of means = absurd of
  word_shown base (suc stars) Null w of means = ap (pointer_text m s here.place) means ∙ null_shown m s here.place
  word_shown base (suc stars) (Pointer n offset) w of means = λ o is alive.
      let leads = means o is alive in
      ap (pointer_text m s here.place) leads.leads ∙ pointer_shown p m tables memory here waiting s h o.owner o leads.start leads.bytes offset (h.declared n o is) leads.area leads.within

  -- and so is that of the bits that are kept of it
  pub element_shown : (e : Scalar) (v : source.Value) (bits : ℕ) → IsOfType e.base e.stars v → AreBitsOf p m (here ∷ waiting) memory v (scalar_size e) bits → IsText p memory v (word_text m s here.place (element_by_stars e.base e.stars) bits)
  element_shown e v bits of are =
      subst (IsText p memory v) (sym (ap (word_text m s here.place (element_by_stars e.base e.stars)) are.kept ∙ bits_shown m s here.place e.base e.stars are.word)) (word_shown e.base e.stars v are.word of are.means)

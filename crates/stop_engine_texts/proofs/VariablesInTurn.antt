-- Variables, one after the other.
use Rattle.std.proofs.Common.{◌≡◌, ℕ, ◌+◌, true, false, Some, None, List, drop, refl}
use Rattle.std.specs.Prelude.{bytes_eq, slice_get}
use Rattle.std.proofs.Math.Bool.{and-false}
use Rattle.image_form.specs.Form.{Form}
use Rattle.image_form.specs.Names.{variable_name}
use Rattle.image_form.specs.declared.variables.Variable.{Variable}
use Rattle.stop_engine_tables.proofs.Records.{records_from}
use Rattle.stop_engine_texts.specs.Shown.{is_static_before, static_of}
use Rattle.stop_engine_view.specs.Pointers.{literal_count, local_offset, local_target, static_offset, static_target, static_target_of}
use Rattle.stop_engine_view.specs.declared.target.Target.TheVariants.{Local}

-- the static object of an address is the next variable, or one behind it
pub target_here : (address n count offset : ℕ) (v : Variable) (vs : List Variable) → slice_get vs n ≡ Some v → Some offset ≡ static_offset v address
    → static_target address n count (drop n vs) ≡ Some (static_target_of v n (count + literal_count v) offset)
target_here address n count offset v vs at found = rw (records_from vs n v at, ← found) refl

pub target_behind : (address n count : ℕ) (v : Variable) (vs : List Variable) → slice_get vs n ≡ Some v → None ≡ static_offset v address
    → static_target address n count (drop n vs) ≡ static_target address (n + 1) (count + literal_count v) (drop (n + 1) vs)
target_behind address n count v vs at none = rw (records_from vs n v at, ← none) refl

-- the object of an address in a frame is the next variable
pub local_here : (address function frame deep n offset : ℕ) (v : Variable) (vs : List Variable) → slice_get vs n ≡ Some v → Some offset ≡ local_offset v function frame address
    → local_target address function frame deep n (drop n vs) ≡ Some (Local n deep offset)
local_here address function frame deep n offset v vs at found = rw (records_from vs n v at, ← found) refl

-- the static variable of a name is the next one; or one behind it, as that is not declared before the position or has another name
pub static_here : (m : Form) (position n : ℕ) (name : List ℕ) (v : Variable) → slice_get m.variables n ≡ Some v → is_static_before position v ≡ true → bytes_eq (variable_name m n) name ≡ true
    → static_of m position name n (drop n m.variables) ≡ Some n
static_here m position n name v at before is = rw (records_from m.variables n v at, before, is) refl

pub static_later : (m : Form) (position n : ℕ) (name : List ℕ) (v : Variable) → slice_get m.variables n ≡ Some v → is_static_before position v ≡ false
    → static_of m position name n (drop n m.variables) ≡ static_of m position name (n + 1) (drop (n + 1) m.variables)
static_later m position n name v at later = rw (records_from m.variables n v at, later) refl

pub static_unlike : (m : Form) (position n : ℕ) (name : List ℕ) (v : Variable) → slice_get m.variables n ≡ Some v → bytes_eq (variable_name m n) name ≡ false
    → static_of m position name n (drop n m.variables) ≡ static_of m position name (n + 1) (drop (n + 1) m.variables)
static_unlike m position n name v at other = rw (records_from m.variables n v at, other, and-false (is_static_before position v)) refl

-- An image as the bytes that spell it lend it.
use Rattle.std.specs.Prelude.{ℕ, ◌-◌, nat_lt, if◌then◌else◌, List, length}
use Rattle.image_form.specs.declared.lent.View.{View}
use Rattle.image_form.specs.Form.{Form}
use Rattle.image_form.specs.Lent.{image_in}
use Rattle.image_form.specs.Names.{function_name, variable_name, pass_name}

-- The image that a view lends.
abbrev pub viewed : View → Form
viewed v = image_in v.layout

-- The n-th name, where functions are counted first, then variables, then changes.
abbrev pub name_of : Form → ℕ → List ℕ
name_of f n =
    if nat_lt n (length f.functions) then function_name f n
    else if nat_lt (n - length f.functions) (length f.variables) then variable_name f (n - length f.functions)
    else pass_name f (n - length f.functions - length f.variables)

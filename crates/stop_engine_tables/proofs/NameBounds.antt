-- The names of an image lie in its section of names.
use Rattle.std.proofs.Common.{◌≡◌, ℕ, ◌+◌, ◌<◌, ◌≤◌, ◌^◌, List, length, map, sum, take, drop, slice_index_or, refl, arith}
use Rattle.std.proofs.lemmas.List.{drop-drop, get_or-map, length-map, take-map}
use Rattle.std.proofs.lemmas.List.Sums.{sum_by_more_le}
use Rattle.image_form.specs.Form.{Form}
use Rattle.image_form.specs.declared.tables.Change.{Change}
use Rattle.image_form.specs.declared.tables.Function.{Function}
use Rattle.image_form.specs.declared.variables.Variable.{Variable}
use Rattle.image_form.specs.Names.{function_name, pass_name, variable_name}
use Rattle.image_form.specs.Rules.{IsImage}
use Rattle.image_form.specs.Spelling.{size}

-- nor is that of a front and the element behind it
pub sum-front_more : {A : Type 0} (f : A → ℕ) (xs : List A) (k : ℕ) (d : A) → k < length xs → sum (map f (take k xs)) + f (slice_index_or xs k d) ≤ sum (map f xs)
sum-front_more f xs k d within =
    rw (← take-map f k xs, ← get_or-map f xs k d 0 within) (sum_by_more_le (λ n. n) (map f xs) k 0 (simp length-map within))

-- an image has fewer than 2^32 bytes of names
pub names-fit : (m : Form) → IsImage m → length m.names < 2 ^ 32
unfolding size
names-fit m image = let whole : size m < 2 ^ 32 = image.sizes.whole in omega arith

-- the names of the functions are among them
pub function_names-within : (m : Form) → IsImage m → sum (map (λ (f : Function). f.name_length) m.functions) ≤ length m.names
function_names-within m image = omega (arith, image.names.whole)

-- and, behind them, those of the variables
pub variable_names-within : (m : Form) → IsImage m
    → sum (map (λ (f : Function). f.name_length) m.functions) + sum (map (λ (v : Variable). v.name_length) m.variables) ≤ length m.names
variable_names-within m image = omega (arith, image.names.whole)

-- where the name of a function ends
pub function_name-ends : (m : Form) (k : ℕ) (d : Function) → IsImage m → k < length m.functions
    → sum (map (λ (f : Function). f.name_length) (take k m.functions)) + (slice_index_or m.functions k d).name_length ≤ length m.names
function_name-ends m k d image within = omega (arith, function_names-within m image, sum-front_more (λ (f : Function). f.name_length) m.functions k d within)

-- where the name of a variable ends
pub variable_name-ends : (m : Form) (k : ℕ) (d : Variable) → IsImage m → k < length m.variables
    → sum (map (λ (f : Function). f.name_length) m.functions) + sum (map (λ (v : Variable). v.name_length) (take k m.variables)) + (slice_index_or m.variables k d).name_length ≤ length m.names
variable_name-ends m k d image within = omega (arith, variable_names-within m image, sum-front_more (λ (v : Variable). v.name_length) m.variables k d within)

-- the name of a function, by where it begins and its length
pub function_name-piece : (m : Form) (k : ℕ) (d : Function) → k < length m.functions
    → take (slice_index_or m.functions k d).name_length (drop (sum (map (λ (f : Function). f.name_length) (take k m.functions))) m.names) ≡ function_name m k
function_name-piece m k d within =
    let name_length : Function → ℕ = λ f. f.name_length in
    rw (← take-map name_length k m.functions, ← get_or-map name_length m.functions k d 0 within) refl

-- the name of a variable, by where it begins and its length
pub variable_name-piece : (m : Form) (k : ℕ) (d : Variable) → k < length m.variables
    → take (slice_index_or m.variables k d).name_length (drop (sum (map (λ (f : Function). f.name_length) m.functions) + sum (map (λ (v : Variable). v.name_length) (take k m.variables))) m.names) ≡ variable_name m k
variable_name-piece m k d within =
    let name_length : Variable → ℕ = λ v. v.name_length in
    rw (← take-map name_length k m.variables, ← get_or-map name_length m.variables k d 0 within) (simp drop-drop)

-- there are fewer variables than numbers of 32 bits
pub variables_fit : (m : Form) → IsImage m → length m.variables < 4294967295
unfolding size
variables_fit m image = let whole : size m < 2 ^ 32 = image.sizes.whole in omega arith

-- the names of the passes lie behind those of the variables
pub pass_names-within : (m : Form) → IsImage m
    → sum (map (λ (f : Function). f.name_length) m.functions) + sum (map (λ (v : Variable). v.name_length) m.variables) + sum (map (λ (c : Change). c.pass_length) m.changes) ≤ length m.names
pass_names-within m image = omega (arith, image.names.whole)

-- where the name of a pass ends
pub pass_name-ends : (m : Form) (k : ℕ) (d : Change) → IsImage m → k < length m.changes
    → sum (map (λ (f : Function). f.name_length) m.functions) + sum (map (λ (v : Variable). v.name_length) m.variables) + sum (map (λ (c : Change). c.pass_length) (take k m.changes)) + (slice_index_or m.changes k d).pass_length ≤ length m.names
pass_name-ends m k d image within = omega (arith, pass_names-within m image, sum-front_more (λ (c : Change). c.pass_length) m.changes k d within)

-- the name of a pass, by where it begins and its length
pub pass_name-piece : (m : Form) (k : ℕ) (d : Change) → k < length m.changes
    → take (slice_index_or m.changes k d).pass_length (drop (sum (map (λ (f : Function). f.name_length) m.functions) + sum (map (λ (v : Variable). v.name_length) m.variables) + sum (map (λ (c : Change). c.pass_length) (take k m.changes))) m.names) ≡ pass_name m k
pass_name-piece m k d within =
    let pass_length : Change → ℕ = λ c. c.pass_length in
    rw (← take-map pass_length k m.changes, ← get_or-map pass_length m.changes k d 0 within) (simp drop-drop)

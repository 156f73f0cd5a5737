-- The first rule that is broken, in the order of the file.
use Rattle.std.specs.Prelude.{◌≡◌, ℕ, zero, suc, ◌+◌, ◌*◌, Bool, true, false, if◌then◌else◌, List, [], ◌∷◌, Option, Some, None, Result, Ok, Err}
use Rattle.std.specs.Option.{option_map, option_map_or}
use Rattle.debug_records.specs.declared.code.Code.{Code}
use Rattle.image_form_sections.specs.declared.fault.ImageErr.{ImageErr}
use Rattle.image_form_sections.specs.declared.fault.ImageErr.TheVariants as errors

-- The code of a rule, and the byte at which it is broken.
abbrev pub Fault : Type 0
Fault = Code × ℕ

infixl 10 ◌>>=◌
-- what is done with an answer, unless it is a fault
abbrev pub ◌>>=◌ : {A B : Type 0} → Result A Fault → (A → Result B Fault) → Result B Fault
(Ok x) >>= f = f x
(Err e) >>= f = Err e

-- A rule: its code, the byte at which it stands, and whether it is kept.
pub record Check : Type 0 where
  pub code : Code
  pub at : ℕ
  pub kept : Bool

-- The first rule that is not kept.
abbrev pub first_breach : List Check → Result (Unit {0}) Fault
first_breach [] = Ok tt
first_breach (c ∷ checks) = if c.kept then first_breach checks else Err (c.code, c.at)

-- The number of the first test that fails.
abbrev pub first_false : List Bool → Option ℕ
first_false [] = None
first_false (true ∷ tests) = option_map suc (first_false tests)
first_false (false ∷ tests) = Some 0

-- The first of so many rows from the i-th on with a test that fails, and the number of the first such test. A row has a
-- test for each of its numbers.
abbrev pub first_broken : (ℕ → List Bool) → ℕ → ℕ → Option (ℕ × ℕ)
first_broken tests zero i = None
first_broken tests (suc n) i = option_map_or (λ k. Some (i, k)) (first_false (tests i)) (first_broken tests n (suc i))

-- The breach of a section that begins at start and has rows of size bytes: it stands at the number whose test fails.
abbrev pub breach_in : Code → ℕ → ℕ → Option (ℕ × ℕ) → Result (Unit {0}) Fault
breach_in code start size broken = option_map_or (λ b. Err (code, start + size * b.0 + 4 * b.1)) broken (Ok tt)

-- What a function returned, seen by view, is what reading gives, unless memory ran out.
abbrev pub Fails : {Y : Type 0} → ImageErr → Result Y Fault → Type 0
Fails errors.NoMemory read = Unit {0}
Fails (errors.Refused c at) read = read ≡ Err (c, at)

abbrev pub Gives : {X Y : Type 0} → (X → Y) → Result X ImageErr → Result Y Fault → Type 0
Gives view (Ok x) read = read ≡ Ok (view x)
Gives view (Err e) read = Fails e read

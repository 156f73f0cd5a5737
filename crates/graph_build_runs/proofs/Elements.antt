-- Elements of memory: how wide they are, and that they keep values of their types.
use Rattle.std.proofs.Common.{◌≡◌, ℕ, zero, suc, ◌+◌, ◌-◌, ◌*◌, ◌/◌, ◌%◌, ◌<◌, ◌≤◌, Bool, true, false, not, length, Some, None, refl, sym, ap, ◌∙◌, arith, ℤ, pos, negsuc}
use Rattle.std.specs.Prelude.{◌==◌, if◌then◌else◌, nat_lt, int_le}
use Rattle.std.proofs.lemmas.Bool.{leb-true}
use Rattle.std.proofs.lemmas.Bool.Decides.{nat_tests}
use Rattle.word_base.specs.Types.{holds}
use Rattle.word_base.specs.WordOperations.{truncated, sign_extended}
use Rattle.word_base.specs.declared.operation.Truncation.TheVariants as truncation
use Rattle.c_tree.specs.declared.types.IntegerType.{IntegerType}
use Rattle.c_tree.specs.declared.types.IntegerType.TheVariants.{Char, SignedChar, UnsignedChar, Short, UnsignedShort, Int, UnsignedInt, Long, UnsignedLong}
use Rattle.c_tree.specs.declared.object_type.Scalar.{Scalar}
use Rattle.c_tree.specs.Programs.{ProgramTree}
use Rattle.c_type_rules.specs.Integers.{integer}
use Rattle.c_type_rules.specs.Types.{loaded_type}
use Rattle.c_meaning_values.specs.declared.value.Value as source-value
use Rattle.c_meaning_values.specs.declared.value.Value.TheVariants as source
use Rattle.c_meaning_values.specs.Types.{scalar_size, size_by_stars}
use Rattle.c_meaning_values.specs.Memory.{Memory as SourceMemory}
use Rattle.graph_core.specs.declared.value.Value.{Value}
use Rattle.graph_core.specs.declared.value.Value.TheVariants.{Number}
use Rattle.graph_core.specs.declared.instruction.Element.{Element}
use Rattle.graph_core.specs.declared.instruction.Element.TheVariants.{Unsigned8, Signed8, Unsigned16, Signed16, Word}
use Rattle.graph_core.specs.Memory.{Object, Memory, index_in}
use Rattle.graph_core.specs.Values.{size_of, as_element}
use Rattle.graph_build_names.specs.Conversions.{unsigned_bits}
use Rattle.graph_build_steps.specs.Rules.{element_of}
use Rattle.graph_build_runs.specs.Typed.{IsOf}
use Rattle.graph_build_runs.specs.Correspondence.{SameValue}
use Rattle.graph_build_runs.proofs.Words.{both_true}
use Rattle.base_laws.proofs.Booleans.{all_four as four_true}
use Rattle.base_laws.proofs.Numbers.{same_size}

-- the element of a pointer, or of an integer
abbrev element_if : Bool → ℕ → Bool → Element
element_if none width signed =
    if not none then Word
    else (if signed then (if width == 8 then Signed8 else (if width == 16 then Signed16 else Word))
    else (if width == 8 then Unsigned8 else (if width == 16 then Unsigned16 else Word)))

some_stars : (stars : ℕ) → (suc stars == 0) ≡ false
some_stars stars = grind (arith, nat_tests)

pub word_element : (base : IntegerType) (stars : ℕ) → element_of (record { base = base; stars = suc stars }) ≡ Word
word_element base stars = ap (λ b. element_if b (integer base).width (integer base).is_signed) (some_stars stars)

-- an element has as many bytes as a scalar of its type
size_by : (base : IntegerType) (stars : ℕ) → size_of (element_of (record { base = base; stars = stars })) ≡ size_by_stars base stars
size_by Char zero = refl
size_by SignedChar zero = refl
size_by UnsignedChar zero = refl
size_by Short zero = refl
size_by UnsignedShort zero = refl
size_by Int zero = refl
size_by UnsignedInt zero = refl
size_by Long zero = refl
size_by UnsignedLong zero = refl
size_by base (suc stars) = ap size_of (word_element base stars)

pub element_size : (sc : Scalar) → size_of (element_of sc) ≡ scalar_size sc
element_size sc = size_by sc.base sc.stars

-- a multiple of a size
multiple_by : (base : IntegerType) (stars k : ℕ) → (k * size_by_stars base stars / size_by_stars base stars ≡ k) × (k * size_by_stars base stars % size_by_stars base stars ≡ 0)
multiple_by Char zero k = (omega arith, omega arith)
multiple_by SignedChar zero k = (omega arith, omega arith)
multiple_by UnsignedChar zero k = (omega arith, omega arith)
multiple_by Short zero k = (omega arith, omega arith)
multiple_by UnsignedShort zero k = (omega arith, omega arith)
multiple_by Int zero k = (omega arith, omega arith)
multiple_by UnsignedInt zero k = (omega arith, omega arith)
multiple_by Long zero k = (omega arith, omega arith)
multiple_by UnsignedLong zero k = (omega arith, omega arith)
multiple_by base (suc stars) k = (omega arith, omega arith)

pub multiple : (sc : Scalar) (k : ℕ) → (k * scalar_size sc / scalar_size sc ≡ k) × (k * scalar_size sc % scalar_size sc ≡ 0)
multiple sc k = multiple_by sc.base sc.stars k

-- An access by an element reaches the value with an index.
pub reaches : (sc : Scalar) (q : Object) (k offset : ℕ) → q.live ≡ true → q.element ≡ element_of sc → offset ≡ k * scalar_size sc → k < length q.values → index_in (element_of sc) offset q ≡ Some k
reaches sc q k offset lives element at within =
    let m = multiple sc k in
    let size = element_size sc in
    let sizes : size_of (element_of sc) == size_of q.element ≡ true = ap (λ e. size_of (element_of sc) == size_of e) element ∙ same_size (size_of (element_of sc)) in
    let quotient : offset / size_of (element_of sc) ≡ k = ap (λ n. offset / n) size ∙ ap (λ n. n / scalar_size sc) at ∙ m.0 in
    let rest : offset % size_of (element_of sc) ≡ 0 = ap (λ n. offset % n) size ∙ ap (λ n. n % scalar_size sc) at ∙ m.1 in
    let aligned : offset % size_of (element_of sc) == 0 ≡ true = ap (λ n. n == 0) rest in
    let less : nat_lt k (length q.values) ≡ true = grind (arith, nat_tests, within) in
    let in_values : nat_lt (offset / size_of (element_of sc)) (length q.values) ≡ true = ap (λ n. nat_lt n (length q.values)) quotient ∙ less in
    let all = four_true q.live (size_of (element_of sc) == size_of q.element) (offset % size_of (element_of sc) == 0) (nat_lt (offset / size_of (element_of sc)) (length q.values)) lives sizes aligned in_values in
    ap (λ b. if b then Some (offset / size_of (element_of sc)) else None) all ∙ ap Some quotient

-- what a narrow element keeps of the word of a number of its type
unsigned8 : (z : ℤ) → holds (integer Char) z ≡ true → truncated truncation.Unsigned8 (unsigned_bits z) ≡ unsigned_bits z
unfolding truncated
unsigned8 (pos n) h = let le : n ≤ 255 = leb-true n 255 (both_true (int_le (pos 0) (pos n)) (int_le (pos n) (pos 255)) h).1 in omega arith
unsigned8 (negsuc n) h = cc

unsigned16 : (z : ℤ) → holds (integer UnsignedShort) z ≡ true → truncated truncation.Unsigned16 (unsigned_bits z) ≡ unsigned_bits z
unfolding truncated
unsigned16 (pos n) h = let le : n ≤ 65535 = leb-true n 65535 (both_true (int_le (pos 0) (pos n)) (int_le (pos n) (pos 65535)) h).1 in omega arith
unsigned16 (negsuc n) h = cc

low_half : (low range : ℕ) (b : Bool) → nat_lt low (range / 2) ≡ b → sign_extended low range ≡ (if b then low else low + (4294967296 - range))
low_half low range b e = ap (λ c. if c then low else low + (4294967296 - range)) e

signed8 : (z : ℤ) → holds (integer SignedChar) z ≡ true → truncated truncation.Signed8 (unsigned_bits z) ≡ unsigned_bits z
unfolding truncated
signed8 (pos n) h =
    let le : n ≤ 127 = leb-true n 127 h in
    let low : n % 4294967296 % 256 < 128 = omega arith in
    let e : nat_lt (n % 4294967296 % 256) (256 / 2) ≡ true = grind (arith, nat_tests, low) in
    let is : n % 4294967296 % 256 ≡ n % 4294967296 = omega arith in
    low_half (n % 4294967296 % 256) 256 true e ∙ is
signed8 (negsuc n) h =
    let le : n ≤ 127 = leb-true n 127 (both_true (int_le (negsuc 127) (negsuc n)) true h).0 in
    let high : 128 ≤ unsigned_bits (negsuc n) % 256 = omega arith in
    let e : nat_lt (unsigned_bits (negsuc n) % 256) (256 / 2) ≡ false = grind (arith, nat_tests, high) in
    let is : unsigned_bits (negsuc n) % 256 + (4294967296 - 256) ≡ unsigned_bits (negsuc n) = omega arith in
    low_half (unsigned_bits (negsuc n) % 256) 256 false e ∙ is

signed16 : (z : ℤ) → holds (integer Short) z ≡ true → truncated truncation.Signed16 (unsigned_bits z) ≡ unsigned_bits z
unfolding truncated
signed16 (pos n) h =
    let le : n ≤ 32767 = leb-true n 32767 h in
    let low : n % 4294967296 % 65536 < 32768 = omega arith in
    let e : nat_lt (n % 4294967296 % 65536) (65536 / 2) ≡ true = grind (arith, nat_tests, low) in
    let is : n % 4294967296 % 65536 ≡ n % 4294967296 = omega arith in
    low_half (n % 4294967296 % 65536) 65536 true e ∙ is
signed16 (negsuc n) h =
    let le : n ≤ 32767 = leb-true n 32767 (both_true (int_le (negsuc 32767) (negsuc n)) true h).0 in
    let high : 32768 ≤ unsigned_bits (negsuc n) % 65536 = omega arith in
    let e : nat_lt (unsigned_bits (negsuc n) % 65536) (65536 / 2) ≡ false = grind (arith, nat_tests, high) in
    let is : unsigned_bits (negsuc n) % 65536 + (4294967296 - 65536) ≡ unsigned_bits (negsuc n) = omega arith in
    low_half (unsigned_bits (negsuc n) % 65536) 65536 false e ∙ is

number_kept : (t : IntegerType) (z : ℤ) → holds (integer t) z ≡ true → as_element (element_of (record { base = t; stars = 0 })) (Number (unsigned_bits z)) ≡ Number (unsigned_bits z)
number_kept Char z h = ap Number (unsigned8 z h)
number_kept SignedChar z h = ap Number (signed8 z h)
number_kept UnsignedChar z h = ap Number (unsigned8 z h)
number_kept Short z h = ap Number (signed16 z h)
number_kept UnsignedShort z h = ap Number (unsigned16 z h)
number_kept Int z h = refl
number_kept UnsignedInt z h = refl
number_kept Long z h = refl
number_kept UnsignedLong z h = refl

kept_by : (p : ProgramTree) (memory : SourceMemory) (others : Memory) (base : IntegerType) (stars : ℕ) (v : source-value.Value) (w : Value) → IsOf memory (loaded_type (record { base = base; stars = stars })) v → SameValue p memory others v w
    → as_element (element_of (record { base = base; stars = stars })) w ≡ w
kept_by p memory others base zero (source.Number z) w is same = ap (as_element (element_of (record { base = base; stars = 0 }))) same ∙ number_kept base z is ∙ sym same
kept_by p memory others base zero source.Null w is same = absurd is
kept_by p memory others base zero (source.Pointer n offset) w is same = absurd is
kept_by p memory others base (suc stars) v w is same = ap (λ e. as_element e w) (word_element base stars)

-- An element keeps a value of its type.
pub element_keeps : (p : ProgramTree) (memory : SourceMemory) (others : Memory) (sc : Scalar) (v : source-value.Value) (w : Value) → IsOf memory (loaded_type sc) v → SameValue p memory others v w → as_element (element_of sc) w ≡ w
element_keeps p memory others sc v w is same = kept_by p memory others sc.base sc.stars v w is same

-- What is read from a text of bytes: constants that are numbers of their types, and literals of bytes.
use Rattle.std.proofs.Common.{◌≡◌, ℕ, zero, suc, ◌+◌, ◌-◌, ◌<◌, pos, Bool, true, false, not, ◌&&◌, ◌||◌, nat_le, eqb, List, [], ◌∷◌, ◌++◌, take, drop, get_or, Option, Some, None, option_and_then, Result, Ok, Err, refl, arith}
use Rattle.std.specs.Prelude.{nat_lt, if◌then◌else◌, codes}
use Rattle.std.specs.List.{prefix_len}
use Rattle.std.specs.Option.{option_map_or}
use Rattle.std.proofs.lemmas.Bool.Decides.{nat_tests}
use Rattle.debug_records.specs.declared.code.Code.{Code}
use Rattle.debug_records.specs.declared.code.TheConstants.Code.{MALFORMED_CONSTANT, UNKNOWN_ESCAPE}
use Rattle.c_token.specs.declared.fault.Fault.{Fault}
use Rattle.c_token.specs.declared.token.Constant.{Constant}
use Rattle.c_token.specs.Bytes.{text_has, is_replaced}
use Rattle.c_token.specs.Constants.{is_digit_in, value_of, suffix_of, typed_constant, constant_in, constant_of, is_number_byte, constant_at}
use Rattle.c_token.specs.Literals.{simple_escapes, find_byte, simple_escape, byte_of, octal_escape, hexadecimal_escape, escape_at, unit_at, with_bytes, literal_from, literal_at, character, only_byte, character_at}
use Rattle.c_token.specs.Reading.{◌>>=◌, fault, fault_at}
use Rattle.c_type_rules.specs.Integers.{fits}
use Rattle.c_parse_expressions.specs.Expressions.{constant_type}
use Rattle.c_type_laws.specs.Statics.{are_bytes}
use Rattle.base_laws.proofs.Booleans.{both as two_true}
pub use Rattle.base_laws.proofs.Booleans.{by_test}
pub use Rattle.base_laws.proofs.Options.{by_option}

-- ---- by cases

pub by_read : {E A B : Type 0} (P : Result B E → Type 0) (r : Result A E) (f : A → Result B E) → ((e : E) → P (Err e)) → ((x : A) → r ≡ Ok x → P (f x)) → P (r >>= f)
by_read P (Ok x) f g h = h x refl
by_read P (Err e) f g h = g e

-- ---- constants

-- a constant is a number of its type
abbrev pub IsNumber : Constant → Type 0
IsNumber c = fits (constant_type c.is_long c.is_unsigned) (pos c.value) ≡ true

abbrev MayBeNumber : Option Constant → Type 0
MayBeNumber None = Unit {0}
MayBeNumber (Some c) = IsNumber c

no_larger : (v most : ℕ) → nat_lt most v ≡ false → nat_le v most ≡ true
no_larger v most h = grind (arith, nat_tests, h)

never_less : (v : ℕ) → nat_le 0 v ≡ true
never_less v = grind (arith, nat_tests)

typed_number : (is_decimal : Bool) (value : ℕ) (suffix : Bool × Bool) → nat_lt 4294967295 value ≡ false → MayBeNumber (typed_constant is_decimal value suffix)
unfolding typed_constant
typed_number is_decimal value suffix le = by is_decimal (nat_lt 2147483647 value) suffix.0 suffix.1 refl
  where
    unsigned : (long : Bool) → fits (constant_type long true) (pos value) ≡ true
    unsigned true = two_true (nat_le 0 value) (nat_le value 4294967295) (never_less value) (no_larger value 4294967295 le)
    unsigned false = two_true (nat_le 0 value) (nat_le value 4294967295) (never_less value) (no_larger value 4294967295 le)

    signed : (long : Bool) → nat_lt 2147483647 value ≡ false → fits (constant_type long false) (pos value) ≡ true
    signed true e = no_larger value 2147483647 e
    signed false e = no_larger value 2147483647 e

    by : (d large u long : Bool) → nat_lt 2147483647 value ≡ large → MayBeNumber (if d && (large && not u) then None else Some (record { value = value; is_unsigned = u || large; is_long = long }))
    by true true true long e = unsigned long
    by true true false long e = tt
    by true false true long e = unsigned long
    by true false false long e = signed long e
    by false true true long e = unsigned long
    by false true false long e = unsigned long
    by false false true long e = unsigned long
    by false false false long e = signed long e

chosen_number : (is_decimal : Bool) (value : ℕ) (o : Option (Bool × Bool)) → nat_lt 4294967295 value ≡ false → MayBeNumber (option_and_then (typed_constant is_decimal value) o)
chosen_number is_decimal value None le = tt
chosen_number is_decimal value (Some suffix) le = typed_number is_decimal value suffix le

number_in : (base : ℕ) (word : List ℕ) → MayBeNumber (constant_in base word)
unfolding constant_in
number_in base word =
    let size = prefix_len (is_digit_in base) word in
    let value = value_of base (take size word) in
    by_test MayBeNumber (eqb size 0) _ _ (λ _. tt)
    (λ _. by_test MayBeNumber (nat_lt 4294967295 value) _ _ (λ _. tt) (λ le. chosen_number (eqb base 10) value (suffix_of (drop size word)) le))

number_of : (word : List ℕ) → MayBeNumber (constant_of word)
unfolding constant_of
number_of word =
    by_test MayBeNumber (text_has word 0 (codes "0x") || text_has word 0 (codes "0X")) _ _ (λ _. number_in 16 (drop 2 word))
    (λ _. by_test MayBeNumber (text_has word 0 (codes "0")) _ _ (λ _. number_in 8 word) (λ _. number_in 10 word))

-- what is read has a property, where something is read
abbrev pub Reads : {A : Type 0} → (A → Type 0) → Result (A × ℕ) Fault → Type 0
Reads P (Ok x) = P x.0
Reads P (Err f) = Unit {0}

number_there : (o : Option Constant) (c : Constant) → MayBeNumber o → o ≡ Some c → IsNumber c
number_there o c h e = rw e at h

pub number_at : (text : List ℕ) (at : ℕ) → Reads IsNumber (constant_at text at)
unfolding constant_at
number_at text at =
    let size = prefix_len is_number_byte (drop at text) in
    by_option {A = Constant} (Reads {A = Constant} IsNumber) (λ c. Ok (c, at + size)) (constant_of (take size (drop at text))) (Err (fault MALFORMED_CONSTANT at)) (λ c e. number_there _ c (number_of (take size (drop at text))) e) tt

-- ---- bytes

-- a number below 256
abbrev pub IsByte : ℕ → Type 0
IsByte b = nat_lt b 256 ≡ true

pub bytes_first : (b : ℕ) (more : List ℕ) → are_bytes (b ∷ more) ≡ true → (IsByte b) × (are_bytes more ≡ true)
bytes_first b more h = by (nat_lt b 256) (are_bytes more) h
  where
    by : (c d : Bool) → c && d ≡ true → (c ≡ true) × (d ≡ true)
    by true true e = (refl, refl)
    by true false e = cc
    by false d e = cc

pub bytes_and : (b : ℕ) (more : List ℕ) → IsByte b → are_bytes more ≡ true → are_bytes (b ∷ more) ≡ true
bytes_and b more h g = rw (h, g) refl

pub bytes_join : (front more : List ℕ) → are_bytes front ≡ true → are_bytes more ≡ true → are_bytes (front ++ more) ≡ true
bytes_join [] more h g = g
bytes_join (b ∷ front) more h g = let c = bytes_first b front h in bytes_and b (front ++ more) c.0 (bytes_join front more c.1 g)

pub byte_there : (text : List ℕ) (at : ℕ) → are_bytes text ≡ true → IsByte (get_or text at 0)
byte_there [] at h = refl
byte_there (b ∷ text) zero h = (bytes_first b text h).0
byte_there (b ∷ text) (suc at) h = byte_there text at (bytes_first b text h).1

below_256 : (b : ℕ) → b < 256 → IsByte b
below_256 b h = grind (arith, nat_tests, h)

-- a list of which each number is below 256 is of bytes
pub bytes_from : (text : List ℕ) → ((at : ℕ) → get_or text at 0 < 256) → are_bytes text ≡ true
bytes_from [] h = refl
bytes_from (b ∷ text) h = bytes_and b text (below_256 b (h 0)) (bytes_from text (λ at. h (suc at)))

-- ---- literals

abbrev ByteOrCode : Result (ℕ × ℕ) Code → Type 0
ByteOrCode (Ok x) = IsByte x.0
ByteOrCode (Err c) = Unit {0}

at_most_255 : (v : ℕ) → nat_lt 255 v ≡ false → IsByte v
at_most_255 v h = grind (arith, nat_tests, h)

digits_byte : (base : ℕ) (digits : List ℕ) (end : ℕ) → ByteOrCode (byte_of base digits >>= λ b. Ok (b, end))
unfolding byte_of
digits_byte base digits end = by (nat_lt 255 (value_of base digits)) refl
  where
    by : (large : Bool) → nat_lt 255 (value_of base digits) ≡ large → ByteOrCode ((if large then Err MALFORMED_CONSTANT else Ok (value_of base digits)) >>= λ b. Ok (b, end))
    by true e = tt
    by false e = at_most_255 (value_of base digits) e

octal_byte : (text : List ℕ) (at : ℕ) → ByteOrCode (octal_escape text at)
unfolding octal_escape
octal_byte text at = let size = prefix_len (is_digit_in 8) (take 3 (drop at text)) in digits_byte 8 (take size (drop at text)) (at + size)

hexadecimal_byte : (text : List ℕ) (at : ℕ) → ByteOrCode (hexadecimal_escape text at)
unfolding hexadecimal_escape
hexadecimal_byte text at =
    let size = prefix_len (is_digit_in 16) (drop at text) in
    by_test ByteOrCode (eqb size 0) _ _ (λ _. tt) (λ _. digits_byte 16 (take size (drop at text)) (at + size))

-- bytes of a table
abbrev AreOfBytes : List (ℕ × ℕ) → Type 0
AreOfBytes [] = Unit {0}
AreOfBytes (e ∷ table) = IsByte e.1 × AreOfBytes table

abbrev MayBeByte : Option ℕ → Type 0
MayBeByte None = Unit {0}
MayBeByte (Some b) = IsByte b

byte_found : (table : List (ℕ × ℕ)) (b : ℕ) → AreOfBytes table → MayBeByte (find_byte table b)
byte_found [] b h = tt
byte_found (e ∷ table) b h = by_test MayBeByte (eqb e.0 b) _ _ (λ _. h.0) (λ _. byte_found table b h.1)

simple_byte : (b : ℕ) → MayBeByte (simple_escape b)
unfolding simple_escape
simple_byte b = byte_found simple_escapes b (refl, (refl, (refl, (refl, (refl, (refl, (refl, (refl, (refl, (refl, (refl, tt)))))))))))

escape_byte : (text : List ℕ) (at : ℕ) → ByteOrCode (escape_at text at)
unfolding escape_at
escape_byte text at =
    let b = get_or text at 0 in
    by_test ByteOrCode (nat_le _ at) _ _ (λ _. tt)
    (λ _. by_test ByteOrCode (eqb b 120) _ _ (λ _. hexadecimal_byte text (at + 1))
    (λ _. by_test ByteOrCode (nat_le 48 b && nat_le b 55) _ _ (λ _. octal_byte text at)
    (λ _. by (simple_escape b) (simple_byte b))))
  where
    by : (o : Option ℕ) → MayBeByte o → ByteOrCode (option_map_or (λ v. Ok (v, at + 1)) o (Err UNKNOWN_ESCAPE))
    by None h = tt
    by (Some v) h = h

fault_byte : (start : ℕ) (r : Result (ℕ × ℕ) Code) → ByteOrCode r → Reads IsByte (fault_at start r)
fault_byte start (Ok x) h = h
fault_byte start (Err c) h = tt

unit_byte : (text : List ℕ) (start at : ℕ) → are_bytes text ≡ true → Reads IsByte (unit_at text start at)
unfolding unit_at
unit_byte text start at h =
    let b = get_or text at 0 in
    by_test P (eqb b 10) _ _ (λ _. tt)
    (λ _. by_test P (is_replaced text at) _ _ (λ _. tt)
    (λ _. by_test P (not (eqb b 92)) _ _ (λ _. byte_there text at h)
    (λ _. by_test P (is_replaced text (at + 1)) _ _ (λ _. tt)
    (λ _. fault_byte start (escape_at text (at + 1)) (escape_byte text (at + 1))))))
  where
    P : Result (ℕ × ℕ) Fault → Type 0
    P r = Reads IsByte r

-- bytes
abbrev pub AreBytes : List ℕ → Type 0
AreBytes bytes = are_bytes bytes ≡ true

with_byte : (b : ℕ) (r : Result (List ℕ × ℕ) Fault) → IsByte b → Reads AreBytes r → Reads AreBytes (with_bytes (b ∷ []) r)
with_byte b (Ok x) h g = bytes_and b x.0 h g
with_byte b (Err f) h g = tt

byte_is : (r : Result (ℕ × ℕ) Fault) (u : ℕ × ℕ) → Reads IsByte r → r ≡ Ok u → IsByte u.0
byte_is r u h e = rw e at h

literal_bytes : (text : List ℕ) (quote start inside at : ℕ) (rest : List ℕ) → are_bytes text ≡ true → Reads AreBytes (literal_from text quote start inside at rest)
literal_bytes text quote start inside at [] h = tt
literal_bytes text quote start (suc inside) at (b ∷ rest) h = literal_bytes text quote start inside (at + 1) rest h
literal_bytes text quote start zero at (b ∷ rest) h =
    by_test P (eqb b quote) _ _ (λ _. refl)
    (λ _. by_read P (unit_at text start at) _ (λ e. tt)
    (λ u e. with_byte u.0 _ (byte_is _ u (unit_byte text start at h) e) (literal_bytes text quote start (u.1 - (at + 1)) (at + 1) rest h)))
  where
    P : Result (List ℕ × ℕ) Fault → Type 0
    P r = Reads AreBytes r

pub literal_there : (text : List ℕ) (at : ℕ) → are_bytes text ≡ true → Reads AreBytes (literal_at text at)
unfolding literal_at
literal_there text at h = literal_bytes text (get_or text at 0) at 0 (at + 1) (drop (at + 1) text) h

byte_number : (b : ℕ) → IsByte b → IsNumber (character b)
byte_number b h = small b h
  where
    small : (v : ℕ) → IsByte v → nat_le v 2147483647 ≡ true
    small v h = grind (arith, nat_tests, h)

only_number : (at end : ℕ) (bytes : List ℕ) → AreBytes bytes → Reads IsNumber (only_byte at bytes >>= λ b. Ok (character b, end))
only_number at end [] h = tt
only_number at end (b ∷ []) h = byte_number b (bytes_first b [] h).0
only_number at end (b ∷ c ∷ rest) h = tt

bytes_are : (r : Result (List ℕ × ℕ) Fault) (l : List ℕ × ℕ) → Reads AreBytes r → r ≡ Ok l → AreBytes l.0
bytes_are r l h e = rw e at h

pub character_there : (text : List ℕ) (at : ℕ) → are_bytes text ≡ true → Reads IsNumber (character_at text at)
unfolding character_at
character_there text at h =
    by_read (Reads IsNumber) (literal_at text at) _ (λ e. tt) (λ l e. only_number at l.1 l.0 (bytes_are _ l (literal_there text at h) e))

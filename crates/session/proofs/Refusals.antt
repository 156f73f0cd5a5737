-- Why a source is refused.
use Rattle.std.proofs.Common.{◌≡◌, ℕ, ◌≤◌, sym, ap, ◌∙◌, subst, arith, refl, List, length, take}
use Rattle.std.specs.Prelude.{Bool, true, false, nat_lt, Option, Some, None}
use Rattle.std.proofs.lemmas.Bool.Decides.{nat_tests}
use Rattle.std.proofs.lemmas.List.{take_all, length-take}
use Rattle.debug_records.specs.declared.code.Code.{Code}
use Rattle.outside.specs.Held.{Loads}
use Rattle.c_source.proofs.Sources.{long_has_no_program}
use Rattle.session.specs.Limits.{Holds}
use Rattle.session.specs.Front.{IsRefusedSource}

-- texts that are too long are refused alike
refused_as_long : (got text : List ℕ) (code : Code) (line : ℕ) → nat_lt 1048576 (length got) ≡ true → nat_lt 1048576 (length text) ≡ true → IsRefusedSource got code line → IsRefusedSource text code line
refused_as_long got text code line long longer refused = long_has_no_program text longer ∙ sym (long_has_no_program got long) ∙ refused

refused_by_length : (code : Code) (line : ℕ) (text got : List ℕ) → got ≡ take 1048577 text → (long : Bool) → nat_lt 1048576 (length got) ≡ long → IsRefusedSource got code line → IsRefusedSource text code line
refused_by_length code line text got is true long refused =
    let len : length got ≡ length (take 1048577 text) = ap length is in
    let longer : nat_lt 1048576 (length text) ≡ true = grind (arith, nat_tests, len, length-take 1048577 text, long) in
    refused_as_long got text code line long longer refused
refused_by_length code line text got is false short refused =
    let len : length got ≡ length (take 1048577 text) = ap length is in
    let all : length text ≤ 1048577 = grind (arith, nat_tests, len, length-take 1048577 text, short) in
    subst (λ t. IsRefusedSource t code line) (is ∙ take_all 1048577 text all) refused

-- what a text that was loaded is refused for, the one that the shelf holds is refused for
pub source_held : (code : Code) (line : ℕ) (held : Option (List ℕ)) (got : List ℕ) → Loads held 1048576 got → IsRefusedSource got code line → Holds held (λ t. IsRefusedSource t code line)
source_held code line None got h refused = h
source_held code line (Some text) got h refused = refused_by_length code line text got h (nat_lt 1048576 (length got)) refl refused

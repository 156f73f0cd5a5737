-- Functions keep their rules where their rows keep their tests.
use Rattle.std.proofs.Common.{◌≡◌, ℕ, zero, suc, ◌<◌, ◌≤◌, Bool, true, false, length, get_or, Some, refl, sym, subst, arith}
use Rattle.std.specs.Prelude.{slice_get, ◌==◌}
use Rattle.std.specs.List.{AllByRecursion}
use Rattle.std.proofs.lemmas.Bool.{eqb-true, eq-eqb}
use Rattle.std.proofs.lemmas.List.{length-map}
use Rattle.std.proofs.lemmas.Bool.Decides.{nat_tests}
use Rattle.image_form.specs.declared.tables.Function.{Function}
use Rattle.image_form.specs.Decoding.{sections_of, word_numbers}
use Rattle.image_form.specs.Form.{Form}
use Rattle.image_form.specs.Numbers.{function_numbers, last_if, place_numbers}
use Rattle.image_form.specs.RulesOfFunctions.{IsFunction, FunctionRules}
use Rattle.image_form_sections.specs.TestsOfCode.{function_tests, is_first, is_end, is_frame, is_mask}
use Rattle.image_form_sections.specs.Masks.{masked, mask_of}
use Rattle.image_form_sections.specs.Versions.{has_callers}
use Rattle.image_form_sections.specs.TestsOfTables.{is_place, is_above, is_code_address}
use Rattle.image_form.proofs.Kept.{AllTrue, row_is, next_from, next_at, before_at, at_each}
use Rattle.image_form.proofs.TableLaws.{each_at, each_from}
use Rattle.std.proofs.lemmas.Option.{slice_get_within}

-- A number that only some versions have, 0 in the others.
last_told : (b : Bool) (n : ℕ) → (b ≡ false → n ≡ 0) → get_or (last_if b n) 0 0 ≡ n
last_told true n none = refl
last_told false n none = let zero_is = none refl in rw zero_is refl

-- No function saves a register where the version does not tell which.
abbrev pub TellsSaved : Form → Type 0
TellsSaved f = has_callers f.version.level ≡ false → AllByRecursion (λ g. g.saved ≡ 0) f.functions

module _ (f : Form) where
  abbrev pub FunctionsKept : Type 0
  FunctionsKept = (i : ℕ) → i < length f.functions → AllTrue (function_tests (sections_of f) i)

  -- The registers that a function saves, as the last number of its row.
  saved_told : TellsSaved f → (i : ℕ) (g : Function) → slice_get f.functions i ≡ Some g → get_or (last_if (has_callers f.version.level) g.saved) 0 0 ≡ g.saved
  saved_told told i g at = last_told (has_callers f.version.level) g.saved (λ none. each_at _ f.functions i g (told none) at)

  mask_sound : TellsSaved f → (i : ℕ) (g : Function) → slice_get f.functions i ≡ Some g → is_mask (get_or (last_if (has_callers f.version.level) g.saved) 0 0) ≡ true → g.saved ≡ mask_of (masked g.saved)
  unfolding is_mask
  mask_sound told i g at kept =
      let own : (g.saved == mask_of (masked g.saved)) ≡ true = subst (λ (n : ℕ). (n == mask_of (masked n)) ≡ true) (saved_told told i g at) kept in
      eqb-true g.saved (mask_of (masked g.saved)) own

  one_sound : TellsSaved f → (i : ℕ) (g : Function) → slice_get f.functions i ≡ Some g → AllTrue (function_tests (sections_of f) i) → IsFunction f g
  unfolding is_first is_end is_frame is_place is_code_address is_above
  one_sound told i g at kept =
      let k = rw (row_is (function_numbers f.version.level) f.functions i g at, length-map f.code word_numbers, length-map f.places place_numbers) at kept in
      record {
        named = grind (arith, nat_tests, k.0);
        short_name = grind (arith, nat_tests, k.0);
        first_in_code = grind (arith, nat_tests, k.1.0);
        end_aligned = grind (arith, nat_tests, k.1.1.0);
        not_empty = grind (arith, nat_tests, k.1.1.0);
        end_in_code = grind (arith, nat_tests, k.1.1.0);
        frame_aligned = grind (arith, nat_tests, k.1.1.1.0);
        frame_some = grind (arith, nat_tests, k.1.1.1.0);
        frame_small = grind (arith, nat_tests, k.1.1.1.0);
        entry_is_place = grind (arith, nat_tests, k.1.1.1.1.0);
        saves_homes = mask_sound told i g at k.1.1.1.1.1.0;
      }

  next_sound : (j : ℕ) (h g : Function) → slice_get f.functions j ≡ Some h → slice_get f.functions (suc j) ≡ Some g → AllTrue (function_tests (sections_of f) (suc j)) → (h.end ≤ g.first) × (h.entry < g.entry)
  unfolding is_first is_end is_frame is_place is_code_address is_above
  next_sound j h g at_h at_g kept =
      let k = rw (row_is (function_numbers f.version.level) f.functions j h at_h, row_is (function_numbers f.version.level) f.functions (suc j) g at_g) at kept in
      (grind (arith, nat_tests, k.1.0), grind (arith, nat_tests, k.1.1.1.1.0))

  pub functions_sound : TellsSaved f → FunctionsKept → FunctionRules f
  functions_sound told kept = record {
    none_saved = told;
    each = each_from (IsFunction f) f.functions (λ i g at. one_sound told i g at (kept i (slice_get_within f.functions i g at)));
    apart = next_from _ f.functions (λ j h g at_h at_g. (next_sound j h g at_h at_g (kept (suc j) (slice_get_within f.functions (suc j) g at_g))).0);
    entries_ascend = next_from _ f.functions (λ j h g at_h at_g. (next_sound j h g at_h at_g (kept (suc j) (slice_get_within f.functions (suc j) g at_g))).1);
  }

  mask_complete : (i : ℕ) (g : Function) → slice_get f.functions i ≡ Some g → IsFunction f g → FunctionRules f → is_mask (get_or (last_if (has_callers f.version.level) g.saved) 0 0) ≡ true
  unfolding is_mask
  mask_complete i g at is rules = subst (λ (n : ℕ). (n == mask_of (masked n)) ≡ true) (sym (saved_told rules.none_saved i g at)) (eq-eqb g.saved (mask_of (masked g.saved)) is.saves_homes)

  one_complete : (i : ℕ) (g : Function) → slice_get f.functions i ≡ Some g → IsFunction f g → FunctionRules f → AllTrue (function_tests (sections_of f) i)
  unfolding is_first is_end is_frame is_place is_code_address is_above
  one_complete zero g at is rules =
      rw (row_is (function_numbers f.version.level) f.functions 0 g at, length-map f.code word_numbers, length-map f.places place_numbers) (
        grind (arith, nat_tests, is.named, is.short_name),
        (grind (arith, nat_tests, is.first_in_code), (grind (arith, nat_tests, is.end_aligned, is.not_empty, is.end_in_code), (grind (arith, nat_tests, is.frame_aligned, is.frame_some, is.frame_small), (grind (arith, nat_tests, is.entry_is_place), (mask_complete 0 g at is rules, tt))))),
      )
  one_complete (suc j) g at is rules =
      let before = before_at f.functions j g at in
      let apart = next_at _ f.functions rules.apart j before.0 g before.1 at in
      let ascend = next_at _ f.functions rules.entries_ascend j before.0 g before.1 at in
      rw (row_is (function_numbers f.version.level) f.functions j before.0 before.1, row_is (function_numbers f.version.level) f.functions (suc j) g at, length-map f.code word_numbers, length-map f.places place_numbers) (
        grind (arith, nat_tests, is.named, is.short_name),
        (grind (arith, nat_tests, is.first_in_code, apart), (grind (arith, nat_tests, is.end_aligned, is.not_empty, is.end_in_code), (grind (arith, nat_tests, is.frame_aligned, is.frame_some, is.frame_small), (grind (arith, nat_tests, is.entry_is_place, ascend), (mask_complete (suc j) g at is rules, tt))))),
      )

  pub functions_complete : FunctionRules f → FunctionsKept
  functions_complete rules = at_each f.functions _ (λ i g at. one_complete i g at (each_at (IsFunction f) f.functions i g rules.each at) rules)

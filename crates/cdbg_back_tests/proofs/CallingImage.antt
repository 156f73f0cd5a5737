-- The image of the tests that calls keeps every rule.
use Rattle.std.proofs.Common.{◌≡◌, ◌≢◌, ℕ, ◌+◌, ◌*◌, ◌^◌, ◌<◌, Some, slice_get, refl, arith, rules}
use Rattle.image_form.specs.Rules.{SizeRules, FitRules, IsImage}
use Rattle.image_form.specs.RulesOfFunctions.{FunctionRules, first_code_address}
use Rattle.image_form.specs.RulesOfNames.{NameRules}
use Rattle.image_form.specs.RulesOfPlaces.{PlaceRules, OwnerRules, IsOwner, word_address}
use Rattle.image_form.specs.Spelling.{size}
use Rattle.image_form_sections.specs.Versions.{is_read, greatest_level}
use Rattle.image_form.proofs.TableLaws.{ascending_distinct, numbered_from_zero}
use Rattle.cdbg_back_tests.specs.Samples.{calling_form}

sizes : (count : ℕ) → (call : ℕ) → (last : ℕ) → SizeRules (calling_form count call last)
unfolding calling_form size is_read greatest_level
sizes count call last = record {
  version = refl;
  code = omega arith;
  initial = omega arith;
  initial_words = refl;
  some_function = omega arith;
  some_place = omega arith;
  rows = omega arith;
  whole = omega arith;
}

fits : (count : ℕ) → (call : ℕ) → (last : ℕ) → count < 2048 → call < 2048 → last < 2 ^ 32 → FitRules (calling_form count call last)
unfolding calling_form
fits count call last few low short =
    let counts : count * 1048576 + 0x00000493 < 2 ^ 32 = omega arith in
    let calls : call * 1048576 + 0x00000893 < 2 ^ 32 = omega arith in
    record {
      code = search rules;
      initial = tt;
      functions = search rules;
      places = search rules;
      owners = search rules;
      variables = search rules;
      changes = tt;
      flow = tt;
      assigned = tt;
      rows = search rules;
      calls = tt;
      members = tt;
      nodes = tt;
    }

functions : (count : ℕ) → (call : ℕ) → (last : ℕ) → FunctionRules (calling_form count call last)
unfolding calling_form first_code_address
functions count call last = record {
  each = search rules;
  apart = search rules;
  entries_ascend = search rules;
  none_saved = λ _. search rules;
}

places : (count : ℕ) → (call : ℕ) → (last : ℕ) → PlaceRules (calling_form count call last)
unfolding calling_form first_code_address
places count call last = record {
  each = search rules;
  positions_ascend = search rules;
  lines_do_not_fall = search rules;
  functions_do_not_fall = search rules;
  addresses_differ = ascending_distinct (λ p. p.address) (calling_form count call last).places (search rules);
}

-- a number of a code word is told by its address
owner_at : (count : ℕ) → (call : ℕ) → (last : ℕ) → (w v n : ℕ) → word_address v ≡ word_address w → slice_get (calling_form count call last).owners v ≡ Some n → slice_get (calling_form count call last).owners w ≡ Some n
unfolding calling_form first_code_address
owner_at count call last w v n same e = let is : v ≡ w = omega (arith, same) in rw (← is) e

owners : (count : ℕ) → (call : ℕ) → (last : ℕ) → OwnerRules (calling_form count call last)
unfolding calling_form first_code_address
owners count call last = record {
  one_each = refl;
  owned = λ w n. numbered_from_zero (λ w n. n ≢ 0 → IsOwner (calling_form count call last) w n) (calling_form count call last).owners w n (search rules);
  at_places = λ i w p e. numbered_from_zero (λ i p. p.address ≡ word_address w → slice_get (calling_form count call last).owners w ≡ Some (i + 1)) (calling_form count call last).places i p
      (λ a. owner_at count call last w 5 1 a refl, (λ a. owner_at count call last w 7 2 a refl, (λ a. owner_at count call last w 9 3 a refl, (λ a. owner_at count call last w 12 4 a refl, (λ a. owner_at count call last w 15 5 a refl, (λ a. owner_at count call last w 17 6 a refl, (λ a. owner_at count call last w 19 7 a refl, (λ a. owner_at count call last w 20 8 a refl, (λ a. owner_at count call last w 27 9 a refl, tt))))))))) e;
}

names : (count : ℕ) → (call : ℕ) → (last : ℕ) → NameRules (calling_form count call last)
unfolding calling_form
names count call last = record { whole = refl; functions = search rules; variables = search rules; passes = search rules }

pub is_image : (count : ℕ) → (call : ℕ) → (last : ℕ) → count < 2048 → call < 2048 → last < 2 ^ 32 → IsImage (calling_form count call last)
unfolding calling_form
is_image count call last few low short = record {
  sizes = sizes count call last;
  fits = fits count call last few low short;
  functions = functions count call last;
  places = places count call last;
  owners = owners count call last;
  variables = record { each = search rules; in_order = search rules };
  changes = tt;
  flow = record { each = tt; ascend = tt };
  assigned = record { each = tt; ascend = tt };
  rows = record {
    visible = search rules;
    verdicts = search rules;
    quiet = search rules;
    none_quiet = λ _. search rules;
    ascend = search rules;
  };
  calls = record { none = λ _. refl };
  members = record { none = λ _. refl; structures = λ _. refl };
  nodes = record { homes = tt; earlier = λ i n e. absurd cc; shallow = λ i lt. absurd (omega (arith, lt)); differ = λ i j x y ei ej same. absurd cc };
  names = names count call last;
}

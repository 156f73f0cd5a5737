-- The image of the tests that adds keeps every rule.
use Rattle.std.proofs.Common.{◌≡◌, ◌≢◌, ℕ, ◌+◌, Some, slice_get, refl, arith, rules}
use Rattle.image_form.specs.Rules.{SizeRules, FitRules, IsImage}
use Rattle.image_form.specs.RulesOfFunctions.{FunctionRules, first_code_address}
use Rattle.image_form.specs.RulesOfNames.{NameRules}
use Rattle.image_form.specs.RulesOfPlaces.{PlaceRules, OwnerRules, IsOwner, word_address}
use Rattle.image_form.specs.Spelling.{size}
use Rattle.image_form_sections.specs.Versions.{is_read, greatest_level}
use Rattle.image_form.proofs.TableLaws.{ascending_distinct, numbered_from_zero}
use Rattle.cdbg_back_tests.specs.Samples.{addition_form}

sizes : SizeRules addition_form
unfolding addition_form size is_read greatest_level
sizes = record {
  version = refl;
  code = omega arith;
  initial = omega arith;
  initial_words = refl;
  some_function = omega arith;
  some_place = omega arith;
  rows = omega arith;
  whole = omega arith;
}

fits : FitRules addition_form
unfolding addition_form
fits = record {
  code = search rules;
  initial = tt;
  functions = search rules;
  places = search rules;
  owners = search rules;
  variables = search rules;
  changes = tt;
  flow = search rules;
  assigned = search rules;
  rows = search rules;
  calls = tt;
  members = tt;
  nodes = tt;
}

functions : FunctionRules addition_form
unfolding addition_form first_code_address
functions = record {
  each = search rules;
  apart = search rules;
  entries_ascend = search rules;
  none_saved = λ _. search rules;
}

places : PlaceRules addition_form
unfolding addition_form first_code_address
places = record {
  each = search rules;
  positions_ascend = search rules;
  lines_do_not_fall = search rules;
  functions_do_not_fall = search rules;
  addresses_differ = ascending_distinct (λ p. p.address) addition_form.places (search rules);
}

-- a number of a code word is told by its address
owner_at : (w v n : ℕ) → word_address v ≡ word_address w → slice_get addition_form.owners v ≡ Some n → slice_get addition_form.owners w ≡ Some n
unfolding addition_form first_code_address
owner_at w v n same e = let is : v ≡ w = omega (arith, same) in rw (← is) e

owners : OwnerRules addition_form
unfolding addition_form first_code_address
owners = record {
  one_each = refl;
  owned = λ w n. numbered_from_zero (λ w n. n ≢ 0 → IsOwner addition_form w n) addition_form.owners w n (search rules);
  at_places = λ i w p e. numbered_from_zero (λ i p. p.address ≡ word_address w → slice_get addition_form.owners w ≡ Some (i + 1)) addition_form.places i p
      (λ a. owner_at w 5 1 a refl, (λ a. owner_at w 12 2 a refl, (λ a. owner_at w 15 3 a refl, (λ a. owner_at w 20 4 a refl, (λ a. owner_at w 24 5 a refl, tt))))) e;
}

names : NameRules addition_form
unfolding addition_form
names = record { whole = refl; functions = search rules; variables = search rules; passes = search rules }

pub is_image : IsImage addition_form
unfolding addition_form
is_image = record {
  sizes = sizes;
  fits = fits;
  functions = functions;
  places = places;
  owners = owners;
  variables = record { each = search rules; in_order = search rules };
  changes = tt;
  flow = record { each = search rules; ascend = search rules };
  assigned = record { each = search rules; ascend = search rules };
  rows = record {
    visible = search rules;
    verdicts = search rules;
    quiet = search rules;
    none_quiet = λ _. search rules;
    ascend = search rules;
  };
  calls = record { none = λ _. refl };
  members = record { none = λ _. refl; structures = λ _. refl };
  nodes = record { homes = tt; earlier = λ i n e. absurd cc; shallow = λ i lt. absurd (omega (arith, lt)); differ = λ i j x y ei ej same. absurd cc };
  names = names;
}

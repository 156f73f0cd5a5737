-- The images that the tests run.
use Rattle.std.specs.Prelude.{ℕ, ◌+◌, ◌*◌, Some, None, [], ◌∷◌, codes}
use Rattle.debug_records.specs.declared.mode.Mode.TheVariants.{Slots}
use Rattle.image_form.specs.declared.variables.ElementType.TheVariants.{I32}
use Rattle.image_form.specs.declared.variables.Storage.TheVariants.{Slot}
use Rattle.image_form.specs.declared.verdicts.Verdict.TheVariants.{Home}
use Rattle.image_form.specs.Form.{Form}
use Rattle.image_form_sections.specs.declared.version.Level.TheVariants.{Plain}
use Rattle.memory_map.specs.declared.map.Map.TheVariants.{One}

-- The image of `int main(void){int x=2; x=x+3; putchar(65); return x;}` behind a line that includes stdio.
unfoldable pub addition_form : Form
addition_form = record {
  version = record { map = One; level = Plain };
  mode = Slots;
  code =
      0x02000137 ∷ 0x40000213 ∷ 0x00c000ef ∷ 0x00a00893 ∷ 0x00000073 ∷ 0x00021663 ∷ 0x00300893 ∷ 0x00000073 ∷ 0xfff20213
      ∷ 0xff010113 ∷
      0x00112023 ∷ 0x0040006f ∷ 0x00200313 ∷ 0x00612223 ∷ 0x0040006f ∷ 0x00412303 ∷ 0x00300393 ∷ 0x00730333 ∷ 0x00612223
      ∷ 0x0040006f ∷
      0x04100513 ∷ 0x00200893 ∷ 0x00000073 ∷ 0x0040006f ∷ 0x00412503 ∷ 0x0040006f ∷ 0x00012083 ∷ 0x01010113 ∷ 0x00120213
      ∷ 0x00008067 ∷ [];
  initial = [];
  functions =
      record { name_length = 4; first = 65556; end = 65656; frame = 16; entry = 1; saved = 0 } ∷ [];
  places =
      record { position = 23; line = 2; function = 0; address = 65556 } ∷
      record { position = 38; line = 2; function = 0; address = 65584 } ∷
      record { position = 43; line = 2; function = 0; address = 65596 } ∷
      record { position = 50; line = 2; function = 0; address = 65616 } ∷
      record { position = 63; line = 2; function = 0; address = 65632 } ∷ [];
  owners =
      0 ∷ 0 ∷ 0 ∷ 0 ∷ 0 ∷ 1 ∷ 1 ∷ 1 ∷ 1 ∷ 1 ∷ 1 ∷ 1 ∷ 2 ∷ 2 ∷ 2 ∷ 3 ∷ 3 ∷ 3 ∷ 3 ∷ 3 ∷ 4 ∷ 4 ∷ 4 ∷ 4 ∷ 5 ∷ 5 ∷ 0 ∷ 0 ∷ 0
      ∷ 0 ∷ [];
  variables =
      record { name_length = 1; function = Some 0; position = 38; element = I32; storage = Slot 4; count = 0 } ∷ [];
  changes = [];
  flow =
      record {
        from = 1;
        to = 2;
      } ∷ record { from = 2; to = 3 } ∷ record { from = 3; to = 4 } ∷ record { from = 4; to = 5 } ∷ [];
  assigned = record { place = 2; variable = 0 } ∷ record { place = 3; variable = 0 } ∷ [];
  rows =
      record { place = 3; variable = 0; verdict = Home; quiet = None } ∷
      record { place = 4; variable = 0; verdict = Home; quiet = None } ∷
      record { place = 5; variable = 0; verdict = Home; quiet = None } ∷ [];
  calls = [];
  members = [];
  nodes = [];
  names = codes "mainx";
}

-- Two functions, f and main, each with an x, and main with a y. Main sets x to 9 and y to -5, calls f, which sets its x
-- to 3, puts out A so many times, and ends by a call of the environment: its number is given, and so is the word that
-- should make it.
unfoldable pub calling_form : ℕ → ℕ → ℕ → Form
calling_form count call last = record {
  version = record { map = One; level = Plain };
  mode = Slots;
  code =
      0x02000137 ∷ 0x40000213 ∷ 0x028000ef ∷ 0x00a00893 ∷ 0x00000073 ∷ 0xfff20213 ∷ 0xff010113 ∷ 0x00300313 ∷ 0x00612223
      ∷ 0x01010113 ∷
      0x00120213 ∷ 0x00008067 ∷ 0xfff20213 ∷ 0xff010113 ∷ 0x00112023 ∷ 0x00900313 ∷ 0x00612223 ∷ 0xffb00313 ∷ 0x00612423
      ∷ 0xfc9ff0ef ∷
      (count * 1048576 + 0x00000493) ∷ 0x04100513 ∷ 0x00200893 ∷ 0x00048863 ∷ 0x00000073 ∷ 0xfff48493 ∷ 0xff5ff06f
      ∷ 0x00812503 ∷ (call * 1048576 + 0x00000893) ∷ last ∷ [];
  initial = [];
  functions =
      record { name_length = 1; first = 65556; end = 65584; frame = 16; entry = 1; saved = 0 } ∷
      record { name_length = 4; first = 65584; end = 65656; frame = 16; entry = 4; saved = 0 } ∷ [];
  places =
      record { position = 4; line = 1; function = 0; address = 65556 } ∷
      record { position = 11; line = 1; function = 0; address = 65564 } ∷
      record { position = 18; line = 2; function = 0; address = 65572 } ∷
      record { position = 24; line = 3; function = 1; address = 65584 } ∷
      record { position = 35; line = 3; function = 1; address = 65596 } ∷
      record { position = 42; line = 4; function = 1; address = 65604 } ∷
      record { position = 49; line = 5; function = 1; address = 65612 } ∷
      record { position = 55; line = 6; function = 1; address = 65616 } ∷
      record { position = 66; line = 7; function = 1; address = 65644 } ∷ [];
  owners =
      0 ∷ 0 ∷ 0 ∷ 0 ∷ 0 ∷ 1 ∷ 1 ∷ 2 ∷ 2 ∷ 3 ∷ 3 ∷ 3 ∷ 4 ∷ 4 ∷ 4 ∷ 5 ∷ 5 ∷ 6 ∷ 6 ∷ 7 ∷ 8 ∷ 8 ∷ 8 ∷ 8 ∷ 8 ∷ 8 ∷ 8 ∷ 9 ∷ 9
      ∷ 9 ∷ [];
  variables =
      record { name_length = 1; function = Some 0; position = 15; element = I32; storage = Slot 4; count = 0 } ∷
      record { name_length = 1; function = Some 1; position = 39; element = I32; storage = Slot 4; count = 0 } ∷
      record { name_length = 1; function = Some 1; position = 46; element = I32; storage = Slot 8; count = 0 } ∷ [];
  changes = [];
  flow = [];
  assigned = [];
  rows =
      record { place = 3; variable = 0; verdict = Home; quiet = None } ∷
      record { place = 6; variable = 1; verdict = Home; quiet = None } ∷
      record { place = 7; variable = 1; verdict = Home; quiet = None } ∷
      record { place = 7; variable = 2; verdict = Home; quiet = None } ∷
      record { place = 8; variable = 1; verdict = Home; quiet = None } ∷
      record { place = 8; variable = 2; verdict = Home; quiet = None } ∷
      record { place = 9; variable = 1; verdict = Home; quiet = None } ∷
      record { place = 9; variable = 2; verdict = Home; quiet = None } ∷ [];
  calls = [];
  members = [];
  nodes = [];
  names = codes "fmainxxy";
}

-- An image of few bytes has few records.
use Rattle.std.proofs.Common.{◌+◌, ◌^◌, ◌<◌, ◌≤◌, length, arith}
use Rattle.image_form_sections.specs.declared.section.Section.{Section}
use Rattle.image_form_sections.specs.declared.section.Section.TheVariants.{Functions}
use Rattle.image_form_sections.specs.Order.{record_size, section_start}
use Rattle.image_form_sections.specs.Versions.{header_size}
use Rattle.image_form_sections.proofs.SectionLaws.{ends_inside, record_some, header_some, times_low}
use Rattle.image_form.specs.Form.{Form}
use Rattle.image_form.specs.Numbers.{no_function}
use Rattle.image_form.specs.Spelling.{record_count, size}

-- A section has fewer records than the image has bytes behind its header.
pub records_inside : (f : Form) (s : Section) → 64 + record_count f s ≤ size f
unfolding size
records_inside f s =
    let level = f.version.level in
    let own = times_low 1 (record_size level s) (record_count f s) (record_some level s) in
    let begins : header_size level ≤ section_start level (record_count f) s = omega arith in
    omega (arith, own, begins, header_some level, ends_inside level (record_count f) s)

pub few_records : (f : Form) → size f < 2 ^ 32 → (s : Section) → record_count f s < 2 ^ 32
few_records f whole s = omega (arith, whole, records_inside f s)

-- No function's number is the one that stands for none.
pub less_functions : (f : Form) → size f < 2 ^ 32 → length f.functions < no_function
less_functions f whole = omega (arith, whole, records_inside f Functions)

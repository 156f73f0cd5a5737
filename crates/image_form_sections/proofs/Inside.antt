-- Sections of which the header tells lie inside the bytes.
use Rattle.std.proofs.Common.{◌≡◌, ℕ, ◌+◌, ◌*◌, ◌^◌, ◌<◌, ◌≤◌, Bool, true, false, cond, List, length, refl, arith}
use Rattle.image_form_sections.specs.declared.section.Section.{Section}
use Rattle.image_form_sections.specs.Order.{order, record_size, count_offset, is_told, sections_end, section_start}
use Rattle.image_form_sections.specs.Checking.{size_told}
use Rattle.image_form_sections.specs.Sections.{count_told, version_told, number_at}
use Rattle.image_form_sections.specs.Versions.{header_size}
use Rattle.image_form_sections.proofs.Octets.{AreBytes, number_fits}
use Rattle.image_form_sections.proofs.SectionLaws.{all_sections, header_small, few_bytes, ends_inside}

picked_few : (b : Bool) (n : ℕ) → n < 2 ^ 32 → cond b n 0 < 2 ^ 32
picked_few true n few = few
picked_few false n few = omega arith

-- A count is a number of 32 bits.
pub told_few : (bytes : List ℕ) (s : Section) → AreBytes bytes → count_told bytes s < 2 ^ 32
told_few bytes s are = picked_few (is_told (version_told bytes).level s) (number_at bytes (count_offset s)) (number_fits bytes (count_offset s) are)

-- The size that a header tells fits a word.
pub told_small : (bytes : List ℕ) → AreBytes bytes → sections_end (version_told bytes).level (count_told bytes) order < 2 ^ 63
told_small bytes are =
    let level = (version_told bytes).level in
    let few = few_bytes level (count_told bytes) order (all_sections (λ s. told_few bytes s are) order) in
    let sections : length order ≡ 14 = refl in
    omega (arith, header_small level, few, sections)

-- Bytes of whose length a header tells have a header.
pub told_long : (bytes : List ℕ) → size_told bytes ≡ length bytes → header_size (version_told bytes).level ≤ length bytes
unfolding size_told
told_long bytes told = omega (arith, told)

-- A section that a header tells of ends inside the bytes.
pub told_inside : (bytes : List ℕ) (s : Section) → size_told bytes ≡ length bytes
    → section_start (version_told bytes).level (count_told bytes) s + record_size (version_told bytes).level s * count_told bytes s ≤ length bytes
unfolding size_told
told_inside bytes s told = omega (arith, told, ends_inside (version_told bytes).level (count_told bytes) s)

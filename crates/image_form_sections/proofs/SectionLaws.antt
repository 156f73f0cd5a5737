-- Laws of the table of sections.
use Rattle.std.proofs.Common.{◌≡◌, ℕ, suc, ◌+◌, ◌*◌, ◌/◌, ◌^◌, ◌<◌, ◌≤◌, Bool, true, false, cond, List, [], ◌∷◌, ◌++◌, length, get_or, take, drop, refl, sym, ap, ◌∙◌, add-one, arith}
use Rattle.std.proofs.Math.Seq.{take-suc}
use Rattle.std.specs.Prelude.{◌||◌, sum_by}
use Rattle.std.specs.List.{AllByRecursion}
use Rattle.std.proofs.lemmas.List.Sums.{sum_by-cons, sum_by-append}
use Rattle.image_form_sections.specs.declared.section.Section.{Section}
use Rattle.image_form_sections.specs.declared.section.Section.TheVariants.{Code, Initial, Functions, Places, Owners, Variables, Changes, Flow, Assigned, Rows, Calls, Members, Nodes, Names}
use Rattle.image_form_sections.specs.declared.version.Level.{Level}
use Rattle.image_form_sections.specs.Order.{order, section_number, record_size, count_offset, is_always, is_told, sections_end, section_start}
use Rattle.image_form_sections.specs.Versions.{has_quiet, has_callers, header_size}

-- What holds of each section holds of all of a list.
pub all_sections : {P : Section → Type 0} → ((s : Section) → P s) → (ss : List Section) → AllByRecursion P ss
all_sections each [] = tt
all_sections each (s ∷ ss) = (each s, all_sections each ss)

-- Each section stands in the order behind as many as its number says.
pub stands : (s : Section) → order ≡ take (section_number s) order ++ s ∷ drop (suc (section_number s)) order
stands Code = refl
stands Initial = refl
stands Functions = refl
stands Places = refl
stands Owners = refl
stands Variables = refl
stands Changes = refl
stands Flow = refl
stands Assigned = refl
stands Rows = refl
stands Calls = refl
stands Members = refl
stands Nodes = refl
stands Names = refl

pick_low : (b : Bool) (m n k : ℕ) → m ≤ k → n ≤ k → cond b m n ≤ k
pick_low true m n k low lower = low
pick_low false m n k low lower = lower

pick_high : (b : Bool) (m n k : ℕ) → k ≤ m → k ≤ n → k ≤ cond b m n
pick_high true m n k high higher = high
pick_high false m n k high higher = higher

-- A record has at least a byte,
pub record_some : (level : Level) (s : Section) → 1 ≤ record_size level s
record_some level Code = omega arith
record_some level Initial = omega arith
record_some level Functions = pick_high (has_callers level) 24 20 1 (omega arith) (omega arith)
record_some level Places = omega arith
record_some level Owners = omega arith
record_some level Variables = omega arith
record_some level Changes = omega arith
record_some level Flow = omega arith
record_some level Assigned = omega arith
record_some level Rows = pick_high (has_quiet level) 28 24 1 (omega arith) (omega arith)
record_some level Calls = omega arith
record_some level Members = omega arith
record_some level Nodes = omega arith
record_some level Names = omega arith

-- and at most 32.
pub record_small : (level : Level) (s : Section) → record_size level s ≤ 32
record_small level Code = omega arith
record_small level Initial = omega arith
record_small level Functions = pick_low (has_callers level) 24 20 32 (omega arith) (omega arith)
record_small level Places = omega arith
record_small level Owners = omega arith
record_small level Variables = omega arith
record_small level Changes = omega arith
record_small level Flow = omega arith
record_small level Assigned = omega arith
record_small level Rows = pick_low (has_quiet level) 28 24 32 (omega arith) (omega arith)
record_small level Calls = omega arith
record_small level Members = omega arith
record_small level Nodes = omega arith
record_small level Names = omega arith

-- The header has at most 80 bytes.
pub header_small : (level : Level) → header_size level ≤ 80
header_small level = pick_low (has_callers level) 80 64 80 (omega arith) (omega arith)

pub header_some : (level : Level) → 64 ≤ header_size level
header_some level = pick_high (has_callers level) 80 64 64 (omega arith) (omega arith)

-- A count of which a header tells lies inside it.
counts_within : (callers : Bool) (s : Section) → (is_always s || callers) ≡ true → count_offset s + 4 ≤ cond callers 80 64
counts_within true Code told = omega arith
counts_within true Initial told = omega arith
counts_within true Functions told = omega arith
counts_within true Places told = omega arith
counts_within true Owners told = omega arith
counts_within true Variables told = omega arith
counts_within true Changes told = omega arith
counts_within true Flow told = omega arith
counts_within true Assigned told = omega arith
counts_within true Rows told = omega arith
counts_within true Calls told = omega arith
counts_within true Members told = omega arith
counts_within true Nodes told = omega arith
counts_within true Names told = omega arith
counts_within false Code told = omega arith
counts_within false Initial told = omega arith
counts_within false Functions told = omega arith
counts_within false Places told = omega arith
counts_within false Owners told = omega arith
counts_within false Variables told = omega arith
counts_within false Changes told = omega arith
counts_within false Flow told = omega arith
counts_within false Assigned told = omega arith
counts_within false Rows told = omega arith
counts_within false Calls told = absurd cc
counts_within false Members told = absurd cc
counts_within false Nodes told = omega arith
counts_within false Names told = omega arith

pub count_within : (level : Level) (s : Section) → is_told level s ≡ true → count_offset s + 4 ≤ header_size level
count_within level s told = counts_within (has_callers level) s told

pub times_low : (a b c : ℕ) → a ≤ b → a * c ≤ b * c
times_low a b c low = grind (arith, low)

-- The numbers of a record lie in its bytes.
pub numbers_inside : (level : Level) (s : Section) (count : ℕ) → 4 * (record_size level s / 4) * count ≤ record_size level s * count
numbers_inside level s count = times_low (4 * (record_size level s / 4)) (record_size level s) count (omega arith)

module _ (level : Level) (count : Section → ℕ) where
  -- How many bytes a section has.
  abbrev pub bytes_of : Section → ℕ
  bytes_of s = record_size level s * count s

  -- What stands before a section, the section and what stands behind it.
  pub behind_split : (before after : List Section) → sections_end level count (before ++ after) ≡ sections_end level count before + sum_by bytes_of after
  behind_split before after = omega (arith, sum_by-append bytes_of before after)

  -- The byte behind a section.
  pub behind_one : (before : List Section) (s : Section) → sections_end level count (before ++ s ∷ []) ≡ sections_end level count before + record_size level s * count s
  behind_one before s = omega (arith, behind_split before (s ∷ []), sum_by-cons bytes_of s [])

  -- The byte behind one section more.
  pub behind_next : (i : ℕ) (d : Section) → i < 14 → sections_end level count (take i order) + record_size level (get_or order i d) * count (get_or order i d) ≡ sections_end level count (take (i + 1) order)
  behind_next i d low =
      let longer : take (i + 1) order ≡ take i order ++ get_or order i d ∷ [] = rw add-one (take-suc order i d low) in
      sym (ap (sections_end level count) longer ∙ behind_one (take i order) (get_or order i d))

  -- A section ends where the whole ends, or before.
  pub ends_inside : (s : Section) → section_start level count s + record_size level s * count s ≤ sections_end level count order
  ends_inside s =
      let after = drop (suc (section_number s)) order in
      omega (arith, ap (sections_end level count) (stands s), behind_split (take (section_number s) order) (s ∷ after), sum_by-cons bytes_of s after)

  -- It has no more records than the whole has bytes.
  pub count_inside : (s : Section) → count s ≤ sections_end level count order
  count_inside s =
      let some : 1 * count s ≤ record_size level s * count s = times_low 1 (record_size level s) (count s) (record_some level s) in
      omega (arith, some, ends_inside s)

  -- Sections of few records have few bytes.
  pub few_bytes : (ss : List Section) → AllByRecursion (λ s. count s < 2 ^ 32) ss → sum_by bytes_of ss ≤ length ss * 2 ^ 37
  few_bytes [] few = omega arith
  few_bytes (s ∷ ss) few =
      let own : record_size level s * count s ≤ 32 * count s = times_low (record_size level s) 32 (count s) (record_small level s) in
      omega (arith, sum_by-cons bytes_of s ss, own, few.0, few_bytes ss few.1)

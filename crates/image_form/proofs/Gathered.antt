-- Pieces that are written one after the other.
use Rattle.std.proofs.Common.{◌≡◌, ℕ, ◌+◌, ◌<◌, true, false, Bool, cond, List, [], ◌∷◌, ◌++◌, length, get_or, take, append_assoc, sym, ap, ◌∙◌, add-one}
use Rattle.std.specs.List.{flat_map}
use Rattle.std.proofs.Math.Seq.{take-suc}
use Rattle.std.proofs.lemmas.Grind.{flat_map-append}
use Rattle.std.proofs.lemmas.List.{flat_map_more}
use Rattle.byteorder.specs.Endian.{little_bytes}
use Rattle.image_form_sections.specs.declared.section.Section.{Section}
use Rattle.image_form_sections.specs.Order.{order}
use Rattle.image_form_sections.specs.Versions.{has_callers}
use Rattle.image_form_sections.specs.declared.version.Level.{Level}
use Rattle.image_form.specs.declared.tables.Function.{Function}
use Rattle.image_form.specs.Form.{Form}
use Rattle.image_form.specs.Numbers.{function_numbers, last_if}
use Rattle.image_form.specs.Spelling.{short_header, long_header, header, section_bytes, spelled}

-- The header is written when its numbers are, those of each version and those of some.
module _ (f : Form) (old one new : List ℕ) (first : one ≡ old ++ spelled (short_header f)) where
  written : new ≡ one ++ spelled (long_header f) → new ≡ old ++ spelled (header f)
  written second =
      second
      ∙ ap (λ (l : List ℕ). l ++ spelled (long_header f)) first
      ∙ append_assoc old (spelled (short_header f)) (spelled (long_header f))
      ∙ ap (λ (l : List ℕ). old ++ l) (sym (flat_map-append (little_bytes 4) (short_header f) (long_header f)))

  pub long_written : has_callers f.version.level ≡ true → new ≡ one ++ spelled (length f.calls ∷ length f.members ∷ 0 ∷ 0 ∷ []) → new ≡ old ++ spelled (header f)
  long_written has second = written (second ∙ ap (λ (b : Bool). one ++ spelled (cond b (length f.calls ∷ length f.members ∷ 0 ∷ 0 ∷ []) [])) (sym has))

  pub short_written : has_callers f.version.level ≡ false → new ≡ one ++ [] → new ≡ old ++ spelled (header f)
  short_written lacks second = written (second ∙ ap (λ (b : Bool). one ++ spelled (cond b (length f.calls ∷ length f.members ∷ 0 ∷ 0 ∷ []) [])) (sym lacks))

-- A function is written when its numbers are, those of each version and the last one.
pub function_written : (level : Level) (g : Function) (old one new : List ℕ) → one ≡ old ++ spelled (g.name_length ∷ g.first ∷ g.end ∷ g.frame ∷ g.entry ∷ [])
    → new ≡ one ++ spelled (last_if (has_callers level) g.saved) → new ≡ old ++ spelled (function_numbers level g)
function_written level g old one new first second =
    let five = g.name_length ∷ g.first ∷ g.end ∷ g.frame ∷ g.entry ∷ [] in
    let last = last_if (has_callers level) g.saved in
    second
    ∙ ap (λ (l : List ℕ). l ++ spelled last) first
    ∙ append_assoc old (spelled five) (spelled last)
    ∙ ap (λ (l : List ℕ). old ++ l) (sym (flat_map-append (little_bytes 4) five last))

-- One section more.
pub section_written : (f : Form) (i : ℕ) (d : Section) (old out new : List ℕ) → i < 14 → out ≡ old ++ flat_map (section_bytes f) (take i order)
    → new ≡ out ++ section_bytes f (get_or order i d) → new ≡ old ++ flat_map (section_bytes f) (take (i + 1) order)
section_written f i d old out new low first second =
    let longer : take (i + 1) order ≡ take i order ++ get_or order i d ∷ [] = rw add-one (take-suc order i d low) in
    second
    ∙ ap (λ (l : List ℕ). l ++ section_bytes f (get_or order i d)) first
    ∙ flat_map_more (section_bytes f) old (take i order) (get_or order i d)
    ∙ ap (λ (ss : List Section). old ++ flat_map (section_bytes f) ss) (sym longer)

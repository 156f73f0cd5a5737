-- Verdicts as they are listed, place by place.
use Rattle.std.proofs.Common.{◌≡◌, ℕ, ◌+◌, ◌<◌, ◌≤◌, inl, inr, List, [], ◌∷◌, ◌++◌, length, get_or, map, take, drop, sym, ap, subst, ◌∙◌}
use Rattle.std.proofs.lemmas.List.{append_assoc, append-nil, map-append, take_more}
use Rattle.debug_records.specs.declared.change.Var as declared-var
use Rattle.places.specs.declared.table.PlaceRow as declared-place
use Rattle.graph_core.specs.Paths.{Among}
use Rattle.currency_notes.proofs.Lists.{among_one, among_parts, drop_end, drop_more, take_whole}
use Rattle.currency.specs.declared.verdict.Verdict.TheVariants as verdict
use Rattle.currency.specs.declared.verdict.PlaceVerdict as declared-row
use Rattle.currency.specs.Visible.{Sight, next, sight, sights_at, sights_from}
use Rattle.image_build.specs.Shown.{AreShown}
use Rattle.base_laws.proofs.Lists.{take_none}

-- ---- The variables of a place, one by one

pub sights_first : (p : ℕ) (visible : List declared-var.Var) (rows : List declared-row.PlaceVerdict) → map sight rows ≡ map sight rows ++ sights_at p (take 0 visible)
sights_first p visible rows = sym (ap (λ vars. map sight rows ++ sights_at p vars) (take_none visible) ∙ append-nil (map sight rows))

pub sights_next : (p : ℕ) (visible : List declared-var.Var) (rows new : List declared-row.PlaceVerdict) (k : ℕ) (d : declared-var.Var) → k < length visible → new ≡ rows ++ (record { place = record { 0 = p }; var = get_or visible k d; verdict = verdict.Home } ∷ []) → (before : List Sight)
    → map sight rows ≡ before ++ sights_at p (take k visible) → map sight new ≡ before ++ sights_at p (take (k + 1) visible)
sights_next p visible rows new k d lt put before e =
    let one : declared-row.PlaceVerdict = record { place = record { 0 = p }; var = get_or visible k d; verdict = verdict.Home } in
    let seen : Sight = record { place = p; variable = (get_or visible k d).0 } in
    ap (map sight) put ∙ map-append sight rows (one ∷ []) ∙ ap (λ (all : List Sight). all ++ (seen ∷ [])) e ∙ append_assoc before (sights_at p (take k visible)) (seen ∷ [])
    ∙ ap (λ (all : List Sight). before ++ all) (sym (map-append (λ (w : declared-var.Var). record { place = p; variable = w.0 }) (take k visible) (get_or visible k d ∷ []))) ∙ ap (λ vars. before ++ sights_at p vars) (sym (take_more visible k d lt))

pub sights_all : (p : ℕ) (visible : List declared-var.Var) (k : ℕ) (before after : List Sight) → length visible ≤ k → after ≡ before ++ sights_at p (take k visible) → after ≡ before ++ sights_at p visible
sights_all p visible k before after le e = e ∙ ap (λ vars. before ++ sights_at p vars) (take_whole visible k le)

-- ---- Place by place

pub sights_none : (rows : List declared-row.PlaceVerdict) (all : List declared-place.PlaceRow) → rows ≡ [] → map sight rows ++ sights_from 1 (drop 0 all) ≡ sights_from 1 all
sights_none rows [] e = ap (λ l. map sight l ++ sights_from 1 []) e
sights_none rows (r ∷ all) e = ap (λ l. map sight l ++ sights_from 1 (r ∷ all)) e

pub sights_more : (p q : ℕ) (rows new : List declared-row.PlaceVerdict) (all : List declared-place.PlaceRow) (k : ℕ) (row : declared-place.PlaceRow) (visible : List declared-var.Var) (whole : List Sight) → k < length all → row ≡ get_or all k row → visible ≡ row.visible.items
    → map sight new ≡ map sight rows ++ sights_at p visible → q ≡ next p → map sight rows ++ sights_from p (drop k all) ≡ whole → map sight new ++ sights_from q (drop (k + 1) all) ≡ whole
sights_more p q rows new all k row visible whole lt is same more number before =
    ap (λ l. l ++ sights_from q (drop (k + 1) all)) more ∙ ap (λ n. (map sight rows ++ sights_at p visible) ++ sights_from n (drop (k + 1) all)) number
    ∙ ap (λ vars. (map sight rows ++ sights_at p vars) ++ sights_from (next p) (drop (k + 1) all)) same
    ∙ append_assoc (map sight rows) (sights_at p row.visible.items) (sights_from (next p) (drop (k + 1) all)) ∙ ap (λ (l : List declared-place.PlaceRow). map sight rows ++ sights_from p l) (sym (drop_more all k row lt is)) ∙ before

pub sights_done : (p : ℕ) (rows : List declared-row.PlaceVerdict) (all : List declared-place.PlaceRow) (k : ℕ) (whole : List Sight) → length all ≤ k → map sight rows ++ sights_from p (drop k all) ≡ whole → map sight rows ≡ whole
sights_done p rows all k whole le e = sym (append-nil (map sight rows)) ∙ sym (ap (λ (l : List declared-place.PlaceRow). map sight rows ++ sights_from p l) (drop_end all k le)) ∙ e

-- ---- Each is shown

pub shown_none : (rows : List declared-row.PlaceVerdict) → rows ≡ [] → AreShown rows
shown_none rows e w among = absurd (nothing (subst (λ l. Among w l) e among))
  where
    nothing : Among w [] → ⊥
    nothing a = elim a [ ]

pub shown_more : (rows new : List declared-row.PlaceVerdict) (one : declared-row.PlaceVerdict) → one.verdict ≡ verdict.Home → new ≡ rows ++ (one ∷ []) → AreShown rows → AreShown new
shown_more rows new one is put before w among = elim (among_parts rows (one ∷ []) (subst (λ l. Among w l) put among)) [ inl a ↦ before w a | inr b ↦ ap (λ (v : declared-row.PlaceVerdict). v.verdict) (among_one b) ∙ is ]

-- The way to a visit, traced back from its end.
use Rattle.std.proofs.Common.{◌≡◌, ◌≢◌, ℕ, ◌<◌, Some, List, [], ◌∷◌, ◌++◌, length, reverse, get_or, refl, sym, ap, ◌∙◌, subst, append_assoc}
use Rattle.std.specs.Prelude.{slice_get}
use Rattle.std.proofs.lemmas.List.{reverse-append, map-append}
use Rattle.std.proofs.lemmas.Option.{slice_get-get_or}
use Rattle.debug_records.specs.declared.change.Place.{Place}
use Rattle.places.specs.declared.search.Visit.{Visit}
use Rattle.places.specs.Path.{numbers}
use Rattle.places.specs.Search.{IsWayTo}
use Rattle.places.proofs.Searched.{one_get, WayBack, way_back, way_first, way_within}

numbers_reverse : (xs : List Place) → numbers (reverse xs) ≡ reverse (numbers xs)
numbers_reverse [] = refl
numbers_reverse (x ∷ xs) =
    ap numbers (reverse-append (x ∷ []) xs) ∙ map-append (λ (p : Place). p.0) (reverse xs) (x ∷ []) ∙ ap (λ ns. ns ++ x.0 ∷ []) (numbers_reverse xs) ∙ sym (reverse-append (x.0 ∷ []) (numbers xs))

-- what stands behind one more place
numbers_more : (back : List Place) (p : Place) → reverse (numbers (back ++ p ∷ [])) ≡ p.0 ∷ reverse (numbers back)
numbers_more back p = ap reverse (map-append (λ (q : Place). q.0) back (p ∷ [])) ∙ reverse-append (numbers back) (p.0 ∷ [])

-- the visit that a way is traced to
pub trace_within : (visits : List Visit) (at : ℕ) → (way : List ℕ) × IsWayTo visits at way → at < length visits
trace_within visits at way = way_within visits at way.0 way.1

traced : (visits : List Visit) (at : ℕ) (d : Visit) (way : List ℕ) → (back : WayBack visits at way) → at < length visits → back.visit ≡ get_or visits at d
traced visits at d way back lt = one_get visits at back.visit (get_or visits at d) back.is (slice_get-get_or visits at d lt)

pub trace_less : (visits : List Visit) (at : ℕ) (d : Visit) → (way : List ℕ) × IsWayTo visits at way → at ≢ 0 → (get_or visits at d).parent < at
trace_less visits at d way some =
    let back = way_back visits at way.0 way.1 some in
    let same = traced visits at d way.0 back (way_within visits at way.0 way.1) in
    subst (λ (v : Visit). v.parent < at) same back.less

pub trace_goes : (visits : List Visit) (at : ℕ) (d : Visit) → (way : List ℕ) × IsWayTo visits at way → at ≢ 0 → (way : List ℕ) × IsWayTo visits (get_or visits at d).parent way
trace_goes visits at d way some =
    let back = way_back visits at way.0 way.1 some in
    let same = traced visits at d way.0 back (way_within visits at way.0 way.1) in
    (back.front, subst (λ (v : Visit). IsWayTo visits v.parent back.front) same back.leads)

-- the way that is left, and the places that were traced
abbrev pub IsTraced : List Visit → (at : ℕ) → (back : List Place) → (whole : List ℕ) → Type 0
IsTraced visits at back whole = (way : List ℕ) × IsWayTo visits at way × (way ++ reverse (numbers back) ≡ whole)

pub trace_more : (visits : List Visit) (at : ℕ) (d : Visit) (back more : List Place) (whole : List ℕ) → at ≢ 0 → more ≡ back ++ (get_or visits at d).place ∷ [] → IsTraced visits at back whole
    → IsTraced visits (get_or visits at d).parent more whole
trace_more visits at d back more whole some pushed traced_so_far =
    let way = traced_so_far.0 in
    let b = way_back visits at way traced_so_far.1 some in
    let same = traced visits at d way b (way_within visits at way traced_so_far.1) in
    let place : b.visit.place ≡ (get_or visits at d).place = ap (λ (v : Visit). v.place) same in
    let behind : reverse (numbers more) ≡ b.visit.place.0 ∷ reverse (numbers back) =
    ap (λ bs. reverse (numbers bs)) pushed ∙ numbers_more back (get_or visits at d).place ∙ ap (λ (p : Place). p.0 ∷ reverse (numbers back)) (sym place) in
    let joined : b.front ++ reverse (numbers more) ≡ way ++ reverse (numbers back) =
    ap (λ r. b.front ++ r) behind ∙ sym (append_assoc b.front (b.visit.place.0 ∷ []) (reverse (numbers back))) ∙ ap (λ w. w ++ reverse (numbers back)) (sym b.way_is) in
    (b.front, subst (λ (v : Visit). IsWayTo visits v.parent b.front) same b.leads, joined ∙ traced_so_far.2)

pub trace_end : (visits : List Visit) (at : ℕ) (first : Visit) (back more ended : List Place) (whole : List ℕ) → at ≡ 0 → slice_get visits at ≡ Some first → more ≡ back ++ first.place ∷ []
    → ended ≡ reverse more → IsTraced visits at back whole → numbers ended ≡ whole
trace_end visits at first back more ended whole none is pushed turned traced_so_far =
    let way = traced_so_far.0 in
    let start = way_first visits at way traced_so_far.1 none in
    let same : start.0 ≡ first = one_get visits 0 start.0 first start.1 (subst (λ n. slice_get visits n ≡ Some first) none is) in
    let place : start.0.place ≡ first.place = ap (λ (v : Visit). v.place) same in
    let way_is : way ≡ first.place.0 ∷ [] = start.2 ∙ ap (λ (p : Place). p.0 ∷ []) place in
    ap numbers turned ∙ numbers_reverse more ∙ ap (λ bs. reverse (numbers bs)) pushed ∙ numbers_more back first.place ∙ ap (λ w. w ++ reverse (numbers back)) (sym way_is) ∙ traced_so_far.2

-- A list of which some items stand in another list, in the same order, and what is in order in the whole and so in the part.
use Rattle.std.proofs.Common.{◌≡◌, ℕ, ◌⊎◌, inl, inr, List, [], ◌∷◌, ◌++◌, map, nat_le, nat_lt, true, refl, sym, ap, ◌∙◌, subst, arith}
use Rattle.std.proofs.lemmas.Bool.Decides.{nat_tests}
use Rattle.debug_records.specs.declared.source.Spot.{Spot}
use Rattle.c_type_laws.specs.Orders.{ascends_behind, ascends, never_falls}
use Rattle.c_source.specs.TextOrder.{AreInOrder}
use Rattle.c_source.proofs.Same.{two_true, both}

-- A list is a part of another: it is what stands there but for what is left out.
abbrev pub IsPart : {A : Type 0} → List A → List A → Type 0
IsPart some [] = some ≡ []
IsPart {A} some (x ∷ whole) = IsPart some whole ⊎ ((rest : List A) × (some ≡ x ∷ rest) × IsPart rest whole)

pub part_none : {A : Type 0} (whole : List A) → IsPart [] whole
part_none [] = refl
part_none (x ∷ whole) = inl (part_none whole)

pub part_all : {A : Type 0} (whole : List A) → IsPart whole whole
part_all [] = refl
part_all (x ∷ whole) = inr (whole, refl, part_all whole)

-- an item that stands in both
pub part_with : {A : Type 0} (x : A) (some whole : List A) → IsPart some whole → IsPart (x ∷ some) (x ∷ whole)
part_with x some whole h = inr (some, refl, h)

-- parts, one behind the other
pub part_append : {A : Type 0} (some whole others more : List A) → IsPart some whole → IsPart others more → IsPart (some ++ others) (whole ++ more)
part_append some [] others more h k = subst (λ z. IsPart (z ++ others) more) (sym h) k
part_append some (x ∷ whole) others more (inl h) k = inl (part_append some whole others more h k)
part_append some (x ∷ whole) others more (inr h) k = inr (h.0 ++ others, ap (λ z. z ++ others) h.1, part_append h.0 whole others more h.2 k)

-- a part of what stands first
pub part_first : {A : Type 0} (some whole more : List A) → IsPart some whole → IsPart some (whole ++ more)
part_first some [] more h = subst (λ z. IsPart z more) (sym h) (part_none more)
part_first some (x ∷ whole) more (inl h) = inl (part_first some whole more h)
part_first some (x ∷ whole) more (inr h) = inr (h.0, h.1, part_first h.0 whole more h.2)

-- a part of what stands last
pub part_last : {A : Type 0} (some before whole : List A) → IsPart some whole → IsPart some (before ++ whole)
part_last some [] whole h = h
part_last some (x ∷ before) whole h = inl (part_last some before whole h)

-- a part of a part
part_step : {A : Type 0} (x : A) (some rest all : List A) → IsPart some (x ∷ rest) → (IsPart some rest → IsPart some all) → ((r : List A) → IsPart r rest → IsPart r all) → IsPart some (x ∷ all)
part_step x some rest all (inl g) h k = inl (h g)
part_step x some rest all (inr g) h k = inr (g.0, g.1, k g.0 g.2)

pub part_on : {A : Type 0} (some whole all : List A) → IsPart some whole → IsPart whole all → IsPart some all
part_on some whole [] h k = subst (λ z. IsPart some z) k h
part_on some whole (x ∷ all) h (inl k) = inl (part_on some whole all h k)
part_on some whole (x ∷ all) h (inr k) = part_step x some k.0 all (subst (λ z. IsPart some z) k.1 h) (λ g. part_on some k.0 all g k.2) (λ r g. part_on r k.0 all g k.2)

pub part_map : {A B : Type 0} (f : A → B) (some whole : List A) → IsPart some whole → IsPart (map f some) (map f whole)
part_map f some [] h = ap (map f) h
part_map f some (x ∷ whole) (inl h) = inl (part_map f some whole h)
part_map f some (x ∷ whole) (inr h) = inr (map f h.0, ap (map f) h.1, part_map f h.0 whole h.2)

-- a part of numbers that ascend ascends
less_less : (a b c : ℕ) → nat_lt a b ≡ true → nat_lt b c ≡ true → nat_lt a c ≡ true
less_less a b c h k = grind (arith, nat_tests)

pub behind_less : (a b : ℕ) (more : List ℕ) → nat_lt a b ≡ true → ascends_behind b more ≡ true → ascends_behind a more ≡ true
behind_less a b [] h k = refl
behind_less a b (n ∷ more) h k = let c = two_true (nat_lt b n) (ascends_behind n more) k in both (nat_lt a n) (ascends_behind n more) (less_less a b n h c.0) c.1

part_behind : (last : ℕ) (some whole : List ℕ) → IsPart some whole → ascends_behind last whole ≡ true → ascends_behind last some ≡ true
part_behind last some [] h k = ap (ascends_behind last) h
part_behind last some (x ∷ whole) (inl h) k = let c = two_true (nat_lt last x) (ascends_behind x whole) k in part_behind last some whole h (behind_less last x whole c.0 c.1)
part_behind last some (x ∷ whole) (inr h) k =
    let c = two_true (nat_lt last x) (ascends_behind x whole) k in
    ap (ascends_behind last) h.1 ∙ both (nat_lt last x) (ascends_behind x h.0) c.0 (part_behind x h.0 whole h.2 c.1)

behind_ascends : (last : ℕ) (all : List ℕ) → ascends_behind last all ≡ true → ascends all ≡ true
behind_ascends last [] h = refl
behind_ascends last (x ∷ all) h = (two_true (nat_lt last x) (ascends_behind x all) h).1

pub part_ascends : (some whole : List ℕ) → IsPart some whole → ascends whole ≡ true → ascends some ≡ true
part_ascends some [] h k = ap ascends h
part_ascends some (x ∷ whole) (inl h) k = behind_ascends x some (part_behind x some whole h k)
part_ascends some (x ∷ whole) (inr h) k = ap ascends h.1 ∙ part_behind x h.0 whole h.2 k

-- a part of numbers that never fall never falls
no_more_no_more : (a b c : ℕ) → nat_le a b ≡ true → nat_le b c ≡ true → nat_le a c ≡ true
no_more_no_more a b c h k = grind (arith, nat_tests)

falls_later : (a b : ℕ) (more : List ℕ) → nat_le a b ≡ true → never_falls b more ≡ true → never_falls a more ≡ true
falls_later a b [] h k = refl
falls_later a b (n ∷ more) h k = let c = two_true (nat_le b n) (never_falls n more) k in both (nat_le a n) (never_falls n more) (no_more_no_more a b n h c.0) c.1

pub part_falls : (last : ℕ) (some whole : List ℕ) → IsPart some whole → never_falls last whole ≡ true → never_falls last some ≡ true
part_falls last some [] h k = ap (never_falls last) h
part_falls last some (x ∷ whole) (inl h) k = let c = two_true (nat_le last x) (never_falls x whole) k in part_falls last some whole h (falls_later last x whole c.0 c.1)
part_falls last some (x ∷ whole) (inr h) k =
    let c = two_true (nat_le last x) (never_falls x whole) k in
    ap (never_falls last) h.1 ∙ both (nat_le last x) (never_falls x h.0) c.0 (part_falls x h.0 whole h.2 c.1)

-- Spots of which all stand in order do so where some are left out.
pub part_in_order : (some whole : List Spot) → IsPart some whole → AreInOrder whole → AreInOrder some
part_in_order some whole h o =
    record {
      offsets = part_ascends (map (λ (s : Spot). s.at) some) (map (λ (s : Spot). s.at) whole) (part_map (λ (s : Spot). s.at) some whole h) o.offsets;
      lines = part_falls 1 (map (λ (s : Spot). s.line) some) (map (λ (s : Spot). s.line) whole) (part_map (λ (s : Spot). s.line) some whole h) o.lines;
    }

-- Spots that stand in tokens which follow one another.
use Rattle.std.proofs.Common.{◌≡◌, ℕ, ◌≤◌, true, nat_le, List, [], ◌∷◌, ◌++◌, Option, Some, None, Result, Ok, Err, refl, sym, ap, ◌∙◌, subst, append-nil, append_assoc, arith}
use Rattle.std.specs.Prelude.{nat_lt}
use Rattle.std.specs.Option.{option_map_or}
use Rattle.std.proofs.lemmas.Bool.Decides.{nat_tests}
use Rattle.debug_records.specs.declared.source.Spot.{Spot}
use Rattle.c_token.specs.Lexemes.{Lexeme}
use Rattle.c_parse_tokens.specs.declared.fault.Stuck.{Stuck}
use Rattle.c_parse_tokens.specs.Outcome.{◌>>=◌}
use Rattle.c_parse_tokens.specs.Front.{spot_at}
use Rattle.c_type_laws.specs.Orders.{ascends_behind, ascends, never_falls}
use Rattle.c_source.specs.TextOrder.{AreInOrder}
use Rattle.c_source.specs.Tokens.{AreSound, spots_of_tokens}
use Rattle.c_source.specs.Standing.{Stand, none, passed, told, Shape, Found, spots_of_many, AreAllFormed}
use Rattle.c_source.proofs.Ascending.{offsets, lines}
use Rattle.base_laws.proofs.Booleans.{both, two_true as both_true}
use Rattle.base_laws.proofs.Numbers.{at_most as no_more}

pub join : {a b : List Spot} {ts mid rest : List Lexeme} → Stand a ts mid → Stand b mid rest → Stand (a ++ b) ts rest
join none r = r
join (passed t s) r = passed t (join s r)
join (told t s) r = told t (join s r)

-- tokens that are passed behind
pub trail : {a : List Spot} {ts mid rest : List Lexeme} → Stand a ts mid → Stand [] mid rest → Stand a ts rest
trail none r = r
trail (passed t s) r = passed t (trail s r)
trail (told t s) r = told t (trail s r)

-- tokens that are only passed
pub silent : {a : List Spot} {ts rest : List Lexeme} → Stand a ts rest → Stand [] ts rest
silent none = none
silent (passed t s) = passed t (silent s)
silent (told t s) = passed t (silent s)

pub same_spots : {a b : List Spot} {ts rest : List Lexeme} → a ≡ b → Stand a ts rest → Stand b ts rest
same_spots {ts = ts} {rest = rest} e s = subst (λ (l : List Spot). Stand l ts rest) e s

-- ---- order

lower : (low high : ℕ) (l : List ℕ) → low ≤ high → ascends_behind high l ≡ true → ascends_behind low l ≡ true
lower low high [] le h = refl
lower low high (n ∷ l) le h =
    let c = both_true (nat_lt high n) (ascends_behind n l) h in
    let first : nat_lt low n ≡ true = lt low high n le c.0 in
    both (nat_lt low n) (ascends_behind n l) first c.1
  where
    lt : (low high n : ℕ) → low ≤ high → nat_lt high n ≡ true → nat_lt low n ≡ true
    lt low high n le h = grind (arith, nat_tests, le, h)

sink : (low high : ℕ) (l : List ℕ) → low ≤ high → never_falls high l ≡ true → never_falls low l ≡ true
sink low high [] le h = refl
sink low high (n ∷ l) le h =
    let c = both_true (nat_le high n) (never_falls n l) h in
    let first : nat_le low n ≡ true = least low high n le c.0 in
    both (nat_le low n) (never_falls n l) first c.1
  where
    least : (low high n : ℕ) → low ≤ high → nat_le high n ≡ true → nat_le low n ≡ true
    least low high n le h = grind (arith, nat_tests, le, h)

at_most : (a b : ℕ) → nat_lt a b ≡ true → a ≤ b
at_most a b h = grind (arith, nat_tests, h)

some_ascend : {spots : List Spot} {ts rest : List Lexeme} (last : ℕ) → Stand spots ts rest → ascends_behind last (offsets (spots_of_tokens ts)) ≡ true → ascends_behind last (offsets spots) ≡ true
some_ascend last none h = refl
some_ascend last (passed {ts = ts} t s) h =
    let c = both_true (nat_lt last t.spot.at) (ascends_behind t.spot.at (offsets (spots_of_tokens ts))) h in
    some_ascend last s (lower last t.spot.at (offsets (spots_of_tokens ts)) (at_most last t.spot.at c.0) c.1)
some_ascend last (told {spots = spots} {ts = ts} t s) h =
    let c = both_true (nat_lt last t.spot.at) (ascends_behind t.spot.at (offsets (spots_of_tokens ts))) h in
    both (nat_lt last t.spot.at) (ascends_behind t.spot.at (offsets spots)) c.0 (some_ascend t.spot.at s c.1)

forget : (first : ℕ) (l : List ℕ) → ascends_behind first l ≡ true → ascends l ≡ true
forget first [] h = refl
forget first (n ∷ l) h = (both_true (nat_lt first n) (ascends_behind n l) h).1

first_ascend : {spots : List Spot} {ts rest : List Lexeme} → Stand spots ts rest → ascends (offsets (spots_of_tokens ts)) ≡ true → ascends (offsets spots) ≡ true
first_ascend none h = refl
first_ascend (passed {ts = ts} t s) h = first_ascend s (forget t.spot.at (offsets (spots_of_tokens ts)) h)
first_ascend (told t s) h = some_ascend t.spot.at s h

some_fall : {spots : List Spot} {ts rest : List Lexeme} (last : ℕ) → Stand spots ts rest → never_falls last (lines (spots_of_tokens ts)) ≡ true → never_falls last (lines spots) ≡ true
some_fall last none h = refl
some_fall last (passed {ts = ts} t s) h =
    let c = both_true (nat_le last t.spot.line) (never_falls t.spot.line (lines (spots_of_tokens ts))) h in
    some_fall last s (sink last t.spot.line (lines (spots_of_tokens ts)) (no_more last t.spot.line c.0) c.1)
some_fall last (told {spots = spots} {ts = ts} t s) h =
    let c = both_true (nat_le last t.spot.line) (never_falls t.spot.line (lines (spots_of_tokens ts))) h in
    both (nat_le last t.spot.line) (never_falls t.spot.line (lines spots)) c.0 (some_fall t.spot.line s c.1)

-- spots of some tokens stand in order where those of all do
pub in_order : {spots : List Spot} {ts rest : List Lexeme} → Stand spots ts rest → AreInOrder (spots_of_tokens ts) → AreInOrder spots
in_order s h = record { offsets = first_ascend s h.offsets; lines = some_fall 1 s h.lines }

-- ---- what is found, and what is found behind it

pub next : {A B : Type 0} (S : Shape A) (T : Shape B) (ts whole : List Lexeme) (r : Result (A × List Lexeme) Stuck) (f : A × List Lexeme → Result (B × List Lexeme) Stuck)
    → Found S ts r → ((x : A × List Lexeme) → Stand (S.spots x.0) ts x.1 → S.formed x.0 → AreSound x.1 → Found T whole (f x)) → Found T whole (r >>= f)
next S T ts whole (Ok x) f h k = k x h.0 h.1 h.2
next S T ts whole (Err s) f h k = tt

-- the same things, seen otherwise
pub seen : {A : Type 0} (S T : Shape A) (ts : List Lexeme) (r : Result (A × List Lexeme) Stuck) → ((a : A) → S.spots a ≡ T.spots a) → ((a : A) → S.formed a → T.formed a) → Found S ts r → Found T ts r
seen S T ts (Ok x) e f h = (same_spots (e x.0) h.0, f x.0 h.1, h.2)
seen S T ts (Err s) e f h = tt

-- tokens behind the first one
abbrev pub Leads : List Lexeme → Option (List Lexeme) → Type 0
Leads ts None = Unit {0}
Leads ts (Some rest) = Stand (spot_at ts ∷ []) ts rest × AreSound rest

-- something, and the tokens behind it
abbrev pub LeadsTo : {A : Type 0} → List Lexeme → Option (A × List Lexeme) → Type 0
LeadsTo ts None = Unit {0}
LeadsTo ts (Some x) = Stand [] ts x.1 × AreSound x.1

pub option_next : {B : Type 0} (T : Shape B) (ts whole : List Lexeme) (o : Option (List Lexeme)) (f : List Lexeme → Result (B × List Lexeme) Stuck) (d : Result (B × List Lexeme) Stuck)
    → Leads ts o → ((rest : List Lexeme) → Stand (spot_at ts ∷ []) ts rest → AreSound rest → Found T whole (f rest)) → Found T whole d → Found T whole (option_map_or f o d)
option_next T ts whole None f d h k e = e
option_next T ts whole (Some rest) f d h k e = k rest h.0 h.1

pub pair_next : {A B : Type 0} (T : Shape B) (ts whole : List Lexeme) (o : Option (A × List Lexeme)) (f : A × List Lexeme → Result (B × List Lexeme) Stuck) (d : Result (B × List Lexeme) Stuck)
    → LeadsTo ts o → ((x : A × List Lexeme) → Stand [] ts x.1 → AreSound x.1 → Found T whole (f x)) → Found T whole d → Found T whole (option_map_or f o d)
pair_next T ts whole None f d h k e = e
pair_next T ts whole (Some x) f d h k e = k x h.0 h.1

-- ---- several things

pub spots_on : {A : Type 0} (S : Shape A) (done : List A) (a : A) → spots_of_many S (done ++ a ∷ []) ≡ spots_of_many S done ++ S.spots a
spots_on S [] a = append-nil (S.spots a)
spots_on S (x ∷ done) a = ap (λ (l : List Spot). S.spots x ++ l) (spots_on S done a) ∙ sym (append_assoc (S.spots x) (spots_of_many S done) (S.spots a))

pub one_more : {A : Type 0} (S : Shape A) (done : List A) (a : A) (whole mid rest : List Lexeme) → Stand (spots_of_many S done) whole mid → Stand (S.spots a) mid rest → Stand (spots_of_many S (done ++ a ∷ [])) whole rest
one_more S done a whole mid rest s r = same_spots (sym (spots_on S done a)) (join s r)

pub formed_on : {A : Type 0} (S : Shape A) (done : List A) (a : A) → AreAllFormed S done → S.formed a → AreAllFormed S (done ++ a ∷ [])
formed_on S [] a h g = (g, tt)
formed_on S (x ∷ done) a h g = (h.0, formed_on S done a h.1 g)

pub only_one : {A : Type 0} (S : Shape A) (a : A) (ts rest : List Lexeme) → Stand (S.spots a) ts rest → Stand (spots_of_many S (a ∷ [])) ts rest
only_one S a ts rest s = same_spots (sym (append-nil (S.spots a))) s

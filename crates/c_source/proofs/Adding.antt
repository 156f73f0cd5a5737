-- What a check adds to literals, to variables and to places stands within spots of the source, in their order.
use Rattle.std.proofs.Common.{◌≡◌, List, [], ◌++◌, length, map, take, refl, sym, ap, ◌∙◌, subst, append_assoc, append-nil}
use Rattle.std.proofs.lemmas.List.{map-append}
use Rattle.debug_records.specs.declared.source.Spot.{Spot}
use Rattle.c_tree.specs.Programs.{AutomaticTree, LiteralTree}
use Rattle.c_type_declarations.specs.Progress.{ProgressTree}
use Rattle.c_source.proofs.Growing.{take_beginning}
use Rattle.c_source.proofs.Parts.{IsPart, part_none, part_append, part_on}

-- More items stand behind others, and where they stand is a part of these spots.
pub record Adds {A : Type 0} (spot : A → Spot) (xs ys : List A) (whole : List Spot) : Type 0 where
  pub more : List A
  pub is : ys ≡ xs ++ more
  pub part : IsPart (map spot more) whole

pub adds_none : {A : Type 0} (spot : A → Spot) (xs ys : List A) (whole : List Spot) → ys ≡ xs → Adds spot xs ys whole
adds_none spot xs ys whole h = record { more = []; is = h ∙ sym (append-nil xs); part = part_none whole }

pub adds_on : {A : Type 0} (spot : A → Spot) (xs ys zs : List A) (whole others : List Spot) → Adds spot xs ys whole → Adds spot ys zs others → Adds spot xs zs (whole ++ others)
adds_on spot xs ys zs whole others a b =
    record {
      more = a.more ++ b.more;
      is = b.is ∙ ap (λ z. z ++ b.more) a.is ∙ append_assoc xs a.more b.more;
      part = subst (λ z. IsPart z (whole ++ others)) (sym (map-append spot a.more b.more)) (part_append (map spot a.more) whole (map spot b.more) others a.part b.part);
    }

-- so it is of more spots
pub adds_more : {A : Type 0} (spot : A → Spot) (xs ys : List A) (whole all : List Spot) → IsPart whole all → Adds spot xs ys whole → Adds spot xs ys all
adds_more spot xs ys whole all h a = record { more = a.more; is = a.is; part = part_on (map spot a.more) whole all a.part h }

-- what was added is left out again
pub adds_taken : {A : Type 0} (spot : A → Spot) (xs ys : List A) (whole : List Spot) → Adds spot xs ys whole → take (length xs) ys ≡ xs
adds_taken spot xs ys whole a = ap (take (length xs)) a.is ∙ take_beginning xs a.more

-- where a literal and a variable stand
abbrev pub literal_spot : LiteralTree → Spot
literal_spot l = l.spot

abbrev pub variable_spot : AutomaticTree → Spot
variable_spot a = a.spot

-- A check of expressions finds literals within these spots, and declares no variable.
pub record Reads (whole : List Spot) (q t : ProgressTree) : Type 0 where
  pub literals : Adds literal_spot q.found.literals t.found.literals whole
  pub same : t.automatics ≡ q.automatics

-- A check finds literals and declares variables within these spots, and so stand the places that it makes.
pub record Covers (whole : List Spot) (q : ProgressTree) (places : List Spot) (t : ProgressTree) : Type 0 where
  pub literals : Adds literal_spot q.found.literals t.found.literals whole
  pub automatics : Adds variable_spot q.automatics t.automatics whole
  pub stand : IsPart places whole

pub reads_none : (whole : List Spot) (q t : ProgressTree) → t.found.literals ≡ q.found.literals → t.automatics ≡ q.automatics → Reads whole q t
reads_none whole q t h k = record { literals = adds_none literal_spot q.found.literals t.found.literals whole h; same = k }

pub reads_itself : (whole : List Spot) (q : ProgressTree) → Reads whole q q
reads_itself whole q = reads_none whole q q refl refl

pub reads_on : (whole others : List Spot) (q t u : ProgressTree) → Reads whole q t → Reads others t u → Reads (whole ++ others) q u
reads_on whole others q t u a b = record { literals = adds_on literal_spot q.found.literals t.found.literals u.found.literals whole others a.literals b.literals; same = b.same ∙ a.same }

pub reads_more : (whole all : List Spot) (q t : ProgressTree) → IsPart whole all → Reads whole q t → Reads all q t
reads_more whole all q t h a = record { literals = adds_more literal_spot q.found.literals t.found.literals whole all h a.literals; same = a.same }

-- a check that finds no literal, behind another one or before it
pub reads_then : (whole : List Spot) (q t u : ProgressTree) → Reads whole q t → Reads [] t u → Reads whole q u
reads_then whole q t u a b = subst (λ z. Reads z q u) (append-nil whole) (reads_on whole [] q t u a b)

pub reads_behind : (whole : List Spot) (q t u : ProgressTree) → Reads [] q t → Reads whole t u → Reads whole q u
reads_behind whole q t u a b = reads_on [] whole q t u a b

-- a check of expressions makes a place, or none
pub covers_read : (whole places : List Spot) (q t : ProgressTree) → IsPart places whole → Reads whole q t → Covers whole q places t
covers_read whole places q t h a = record { literals = a.literals; automatics = adds_none variable_spot q.automatics t.automatics whole a.same; stand = h }

pub covers_on : (whole others places more : List Spot) (q t u : ProgressTree) → Covers whole q places t → Covers others t more u → Covers (whole ++ others) q (places ++ more) u
covers_on whole others places more q t u a b =
    record {
      literals = adds_on literal_spot q.found.literals t.found.literals u.found.literals whole others a.literals b.literals;
      automatics = adds_on variable_spot q.automatics t.automatics u.automatics whole others a.automatics b.automatics;
      stand = part_append places whole more others a.stand b.stand;
    }

-- so it is of more spots
pub covers_more : (whole all places : List Spot) (q t : ProgressTree) → IsPart whole all → Covers whole q places t → Covers all q places t
covers_more whole all places q t h a =
    record {
      literals = adds_more literal_spot q.found.literals t.found.literals whole all h a.literals;
      automatics = adds_more variable_spot q.automatics t.automatics whole all h a.automatics;
      stand = part_on places whole all a.stand h;
    }

-- where the places are others within the same spots
pub covers_places : (whole places others : List Spot) (q t : ProgressTree) → IsPart others whole → Covers whole q places t → Covers whole q others t
covers_places whole places others q t h a = record { literals = a.literals; automatics = a.automatics; stand = h }

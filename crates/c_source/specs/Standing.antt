-- Spots that stand in the tokens which a part of a source takes, and what reading finds.
use Rattle.std.specs.Prelude.{List, [], ◌∷◌, ◌++◌, Result, Ok, Err}
use Rattle.debug_records.specs.declared.source.Spot.{Spot}
use Rattle.c_token.specs.Lexemes.{Lexeme}
use Rattle.c_parse_tokens.specs.declared.fault.Stuck.{Stuck}
use Rattle.c_source.specs.Tokens.{AreSound}

-- These spots are those of some of the tokens before the rest, in the order of the tokens.
pub data Stand : List Spot → List Lexeme → List Lexeme → Type 0 where
  none : {rest : List Lexeme} → Stand [] rest rest
  passed : {spots : List Spot} {ts rest : List Lexeme} (t : Lexeme) → Stand spots ts rest → Stand spots (t ∷ ts) rest
  told : {spots : List Spot} {ts rest : List Lexeme} (t : Lexeme) → Stand spots ts rest
      → Stand (t.spot ∷ spots) (t ∷ ts) rest

-- What is asked of the trees of one sort: the spots that they tell, and their form.
pub record Shape (A : Type 0) : Type 1 where
  pub spots : A → List Spot
  pub formed : A → Type 0

-- where something is read, its spots stand in the tokens before the rest, it is formed, and the rest is sound
abbrev pub Found : {A : Type 0} → Shape A → List Lexeme → Result (A × List Lexeme) Stuck → Type 0
Found S ts (Ok x) = Stand (S.spots x.0) ts x.1 × S.formed x.0 × AreSound x.1
Found S ts (Err stuck) = Unit {0}

-- things that tell no spot, and of which nothing is asked
abbrev pub plain : {A : Type 0} → Shape A
plain = record { spots = λ a. []; formed = λ a. Unit {0} }

-- the spots of several things
abbrev pub spots_of_many : {A : Type 0} → Shape A → List A → List Spot
spots_of_many S [] = []
spots_of_many S (a ∷ more) = S.spots a ++ spots_of_many S more

-- each of several things is formed
abbrev pub AreAllFormed : {A : Type 0} → Shape A → List A → Type 0
AreAllFormed S [] = Unit {0}
AreAllFormed S (a ∷ more) = S.formed a × AreAllFormed S more

abbrev pub many : {A : Type 0} → Shape A → Shape (List A)
many S = record { spots = spots_of_many S; formed = AreAllFormed S }

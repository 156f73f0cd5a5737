-- Where the places and objects of each accepted program stand: within a text of no more than 1,048,576 bytes.
use Rattle.std.specs.Prelude.{ℕ, ◌&&◌, nat_lt, Bool, true, List, [], ◌∷◌, map, IsTrue}
use Rattle.c_tree.specs.Programs.{AutomaticTree, LiteralTree, StaticTree, ProgramTree}
use Rattle.c_places.specs.Places.{Place, places_of_program}

-- each of these numbers is less than another
abbrev pub are_below : ℕ → List ℕ → Bool
are_below most [] = true
are_below most (n ∷ more) = nat_lt n most && are_below most more

-- A program whose places and objects stand within a text of no more than 1,048,576 bytes, and its places on lines of
-- such a text.
pub record HasSpots (p : ProgramTree) : Type 0 where
  pub places : IsTrue (are_below 1048576 (map (λ (q : Place). q.spot.at) (places_of_program p)))
  pub lines : IsTrue (are_below 1048577 (map (λ (q : Place). q.spot.line) (places_of_program p)))
  pub statics : IsTrue (are_below 1048576 (map (λ (v : StaticTree). v.spot.at) p.statics))
  pub automatics : IsTrue (are_below 1048576 (map (λ (a : AutomaticTree). a.spot.at) p.automatics))
  pub literals : IsTrue (are_below 1048576 (map (λ (l : LiteralTree). l.spot.at) p.literals))

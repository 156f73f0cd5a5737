-- The literals, variables and places of an accepted program stand in its source, in the order of the text.
use Rattle.std.proofs.Common.{◌≡◌, ℕ, zero, suc, ◌+◌, List, [], ◌∷◌, ◌++◌, map, true, Option, Some, None, Result, Ok, Err, refl, sym, ap, ◌∙◌, subst}
use Rattle.debug_records.specs.declared.source.Spot.{Spot}
use Rattle.debug_records.specs.declared.code.Code.{Code}
use Rattle.c_tree.specs.Declarations.{DeclaratorTree}
use Rattle.c_tree.specs.Trees.{ItemTree, Include, Declares, Defines}
use Rattle.c_tree.specs.Programs.{AutomaticTree, LiteralTree, StaticTree, TypedFunctionTree, ProgramTree}
use Rattle.c_places.specs.Places.{Place, places_of_program}
use Rattle.c_places.specs.Memory.{kept_by_all}
use Rattle.c_type_bounds.specs.Bounds.{with_one_in_memory, with_all_in_memory, with_kept, function_breach, or_breach, behind_function, behind_functions}
use Rattle.c_type.specs.Items.{beginning}
use Rattle.c_type_laws.specs.Laws.{places_ascend, objects_ascend}
use Rattle.c_type_laws.specs.Orders.{ascends, never_falls}
use Rattle.c_source.specs.TextOrder.{spots_of_brackets, spots_of_initial, spots_of_declarator, spots_of_declarators, spots_of_item, spots_of_items, IsInTextOrder}
use Rattle.c_source.specs.Progress.{Ensures}
use Rattle.c_source.specs.Files.{AreItemsFormed}
use Rattle.c_source.proofs.Same.{both, all_three}
use Rattle.c_source.proofs.Parts.{IsPart, part_none, part_with, part_append, part_map, part_ascends, part_in_order}
use Rattle.c_source.proofs.Adding.{literal_spot, variable_spot}
use Rattle.c_source.proofs.Stops.{spots_of_places, stops_of_functions, program_there}
use Rattle.c_source.proofs.CoveringItems.{Follows, source_covers}
use Rattle.c_source.proofs.Programs.{Accepted}
use Rattle.c_source.proofs.StaticOrder.{name_spots, static_names_of, static_names, AreStaticsInOrder, statics_ascend}

-- variables that are marked stand where they stood
kept_there : (k : ℕ) (vs : List AutomaticTree) → map variable_spot (with_one_in_memory k vs) ≡ map variable_spot vs
kept_there k [] = refl
kept_there zero (v ∷ vs) = refl
kept_there (suc k) (v ∷ vs) = ap (λ z. v.spot ∷ z) (kept_there k vs)

all_kept_there : (ks : List ℕ) (vs : List AutomaticTree) → map variable_spot (with_all_in_memory ks vs) ≡ map variable_spot vs
all_kept_there [] vs = refl
all_kept_there (k ∷ ks) vs = all_kept_there ks (with_one_in_memory k vs) ∙ kept_there k vs

unbroken : (o : Option Code) (line : ℕ) (vs ws : List AutomaticTree) → or_breach o line vs ≡ Ok ws → vs ≡ ws
unbroken None line vs ws h = cc
unbroken (Some c) line vs ws h = cc

-- the answer of the functions behind one, by its own
abbrev rest_of : ℕ → List TypedFunctionTree → Result (List AutomaticTree) (Code × ℕ) → Result (List AutomaticTree) (Code × ℕ)
rest_of number fs r = elim r [ Ok us ↦ behind_functions (number + 1) fs us | Err e ↦ Err e ]

marked_there : (number : ℕ) (fs : List TypedFunctionTree) (vs ws : List AutomaticTree) → behind_functions number fs vs ≡ Ok ws → map variable_spot ws ≡ map variable_spot vs
marked_there number [] vs ws h = let same : vs ≡ ws = cc in ap (map variable_spot) (sym same)
marked_there number (f ∷ fs) vs ws h = by (behind_function number f vs) refl h (λ us k. marked_there (number + 1) fs us ws k)
  where
    by : (r : Result (List AutomaticTree) (Code × ℕ)) → behind_function number f vs ≡ r → rest_of number fs r ≡ Ok ws
        → ((us : List AutomaticTree) → behind_functions (number + 1) fs us ≡ Ok ws → map variable_spot ws ≡ map variable_spot us) → map variable_spot ws ≡ map variable_spot vs
    by (Ok us) e h later =
        let same = unbroken (function_breach number f (with_kept f vs)) f.spot.line (with_kept f vs) us e in later us h ∙ ap (map variable_spot) (sym same) ∙ all_kept_there (kept_by_all f.body []) vs
    by (Err r) e h later = cc

-- offsets and lines of mapped items
pub offsets_of : {A : Type 0} (spot : A → Spot) (xs : List A) → map (λ (x : A). (spot x).at) xs ≡ map (λ (s : Spot). s.at) (map spot xs)
offsets_of spot [] = refl
offsets_of spot (x ∷ xs) = ap (λ z. (spot x).at ∷ z) (offsets_of spot xs)

pub lines_of : {A : Type 0} (spot : A → Spot) (xs : List A) → map (λ (x : A). (spot x).line) xs ≡ map (λ (s : Spot). s.line) (map spot xs)
lines_of spot [] = refl
lines_of spot (x ∷ xs) = ap (λ z. (spot x).line ∷ z) (lines_of spot xs)

-- where a place stands
abbrev pub place_spot : Place → Spot
place_spot q = q.spot

-- names of static variables are names of declarators
abbrev pub at_of : Spot → ℕ
at_of s = s.at

names_part : (ds : List DeclaratorTree) → (some : List Spot) × (name_spots ds ≡ map at_of some) × IsPart some (spots_of_declarators ds)
names_part [] = ([], refl, refl)
names_part (d ∷ ds) =
    let rest = names_part ds in
    let behind = spots_of_brackets d.brackets ++ spots_of_initial d.initializer in (
      d.name.spot ∷ rest.0,
      ap (λ z. d.name.spot.at ∷ z) rest.1,
      part_append (d.name.spot ∷ []) (spots_of_declarator d) rest.0 (spots_of_declarators ds) (part_with d.name.spot [] behind (part_none behind)) rest.2,
    )

map_on : (xs ys : List Spot) → map at_of xs ++ map at_of ys ≡ map at_of (xs ++ ys)
map_on [] ys = refl
map_on (x ∷ xs) ys = ap (λ z. x.at ∷ z) (map_on xs ys)

item_part : (i : ItemTree) → (some : List Spot) × (static_names_of i ≡ map at_of some) × IsPart some (spots_of_item i)
item_part (Include spot h) = ([], refl, part_none (spot ∷ []))
item_part (Declares d) = names_part d.declarators
item_part (Defines f) = ([], refl, part_none (spots_of_item (Defines f)))

pub items_part : (items : List ItemTree) → (some : List Spot) × (static_names items ≡ map at_of some) × IsPart some (spots_of_items items)
items_part [] = ([], refl, refl)
items_part (i ∷ items) =
    let one = item_part i in
    let rest = items_part items in (
      one.0 ++ rest.0,
      ap (λ z. z ++ static_names items) one.1 ∙ ap (λ z. map at_of one.0 ++ z) rest.1 ∙ map_on one.0 rest.0,
      part_append one.0 (spots_of_item i) rest.0 (spots_of_items items) one.2 rest.2,
    )

-- In a source in the order of the text, the names of static variables stand in that order.
pub statics_in_order : (items : List ItemTree) → IsInTextOrder items → AreStaticsInOrder items
statics_in_order items order =
    let names = items_part items in
    ap ascends names.1 ∙ part_ascends (map at_of names.0) (map at_of (spots_of_items items)) (part_map at_of names.0 (spots_of_items items) names.2) order.offsets

module _ (items : List ItemTree) (p : ProgramTree) (a : Accepted items p) where
  covered : Follows (spots_of_items items) [] beginning a.functions a.progress
  covered = subst (Ensures (Follows (spots_of_items items) [] beginning)) a.is (source_covers items)

  -- Literals stand in the source, in its order.
  pub literals_part : IsPart (map literal_spot p.literals) (spots_of_items items)
  literals_part =
      let l = covered.covers.literals in
      let same : p.literals ≡ l.more = ap (λ z. z.literals) a.program ∙ l.is in
      subst (λ z. IsPart (map literal_spot z) (spots_of_items items)) (sym same) l.part

  -- So do automatic variables.
  pub automatics_part : IsPart (map variable_spot p.automatics) (spots_of_items items)
  automatics_part =
      let v = covered.covers.automatics in
      let same : map variable_spot p.automatics ≡ map variable_spot v.more =
      ap (λ z. map variable_spot z.automatics) a.program ∙ marked_there 0 a.functions a.progress.automatics a.variables a.marked ∙ ap (map variable_spot) v.is in
      subst (λ z. IsPart z (spots_of_items items)) (sym same) v.part

  -- So do places.
  pub places_part : IsPart (spots_of_places (places_of_program p)) (spots_of_items items)
  places_part =
      let same : spots_of_places (places_of_program p) ≡ stops_of_functions covered.more = program_there p ∙ ap (λ z. stops_of_functions z.functions) a.program ∙ ap stops_of_functions covered.is in
      subst (λ z. IsPart z (spots_of_items items)) (sym same) covered.covers.stand

  module _ (order : IsInTextOrder items) where
    -- Literals ascend in the text.
    pub literals_ascend : ascends (map (λ (l : LiteralTree). l.spot.at) p.literals) ≡ true
    literals_ascend = ap ascends (offsets_of literal_spot p.literals) ∙ (part_in_order (map literal_spot p.literals) (spots_of_items items) literals_part order).offsets

    -- Automatic variables ascend.
    pub automatics_ascend : ascends (map (λ (v : AutomaticTree). v.spot.at) p.automatics) ≡ true
    automatics_ascend = ap ascends (offsets_of variable_spot p.automatics) ∙ (part_in_order (map variable_spot p.automatics) (spots_of_items items) automatics_part order).offsets

    -- Places ascend, and their lines do not fall.
    pub places_in_order : places_ascend (places_of_program p) ≡ true
    places_in_order =
        let places = places_of_program p in
        let there = part_in_order (spots_of_places places) (spots_of_items items) places_part order in
        both (ascends (map (λ (q : Place). q.spot.at) places)) (never_falls 1 (map (λ (q : Place). q.spot.line) places)) (ap ascends (offsets_of place_spot places) ∙ there.offsets) (ap (never_falls 1) (lines_of place_spot places) ∙ there.lines)

    -- Objects ascend.
    pub objects_in_order : AreItemsFormed items → objects_ascend p ≡ true
    objects_in_order formed =
        all_three (ascends (map (λ (v : StaticTree). v.spot.at) p.statics)) (ascends (map (λ (v : AutomaticTree). v.spot.at) p.automatics)) (ascends (map (λ (l : LiteralTree). l.spot.at) p.literals))
        (statics_ascend items p a formed (statics_in_order items order)) automatics_ascend literals_ascend

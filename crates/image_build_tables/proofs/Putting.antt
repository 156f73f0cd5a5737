-- Putting storages into a table, one after the other.
use Rattle.std.proofs.Common.{◌≡◌, ◌≤◌, ◌-◌, ℕ, zero, suc, List, [], ◌∷◌, ◌++◌, length, map, take, drop, get_or, slice_set, refl, sym, ap, ◌∙◌, arith}
use Rattle.std.proofs.lemmas.List.{length-set, take_all}
use Rattle.graph_homes.specs.declared.home.Home.{Home}
use Rattle.graph_core.specs.declared.graph.Graph as declared-graph
use Rattle.graph_core.specs.declared.graph.MemoryObject.{MemoryObject}
use Rattle.graph_core.specs.declared.graph.Scalar as declared-scalar
use Rattle.graph_core.specs.Graphs.{graph_view, scalar_view}
use Rattle.graph_homes.specs.declared.homed.FunctionHomes.{FunctionHomes}
use Rattle.rv_emit_tables.specs.declared.emitted.EmittedFunction.{EmittedFunction}
use Rattle.rv_emit_tables.specs.Emitted.{function_view}
use Rattle.image_form.specs.declared.variables.Storage.{Storage}
use Rattle.image_build_tables.specs.Storages.{Keeping, functions_kept, objects_kept, put_all, scalars_kept}

-- those of two lists are put in, the second behind the first
pub put_all_append : (before behind : List Keeping) (table : List Storage) → put_all (before ++ behind) table ≡ put_all behind (put_all before table)
put_all_append [] behind table = refl
put_all_append (k ∷ before) behind table = put_all_append before behind (slice_set table k.variable k.storage)

-- a list without its first element
abbrev pub behind_first : {A : Type 0} → List A → List A
behind_first all = take (length all - 1) (drop 1 all)

-- a list is its first element and what stands behind it
pub whole : {A : Type 0} (all : List A) (first : A) → 1 ≤ length all → first ≡ get_or all 0 first → first ∷ behind_first all ≡ all
whole [] first some is = absurd (omega (arith, some))
whole (a ∷ all) first some is = let rest = take_all (length (a ∷ all) - 1) all (omega arith) in (λ i. is i ∷ rest i)

-- the homes that the code has
abbrev pub homes_seen : List FunctionHomes → List (List Home)
homes_seen all = map (λ (f : FunctionHomes). f.homes.items) all

-- what is left to be put in
abbrev pub kept_of : List declared-graph.Graph → List EmittedFunction → List FunctionHomes → List Keeping
kept_of graphs codes homes = functions_kept (map graph_view graphs) (map function_view codes) (homes_seen homes)

-- the variables of the first function are put in, and those of the others are left
first_put : (g : declared-graph.Graph) (graphs : List declared-graph.Graph) (c : EmittedFunction) (codes : List EmittedFunction) (h : FunctionHomes) (homes : List FunctionHomes) (table : List Storage)
    → put_all (kept_of graphs codes homes) (put_all (objects_kept g.objects.items c.objects.items) (put_all (scalars_kept c.slots (map scalar_view g.scalars.items) h.homes.items) table))
    ≡ put_all (kept_of (g ∷ graphs) (c ∷ codes) (h ∷ homes)) table
first_put g graphs c codes h homes table =
    let scalars = scalars_kept c.slots (map scalar_view g.scalars.items) h.homes.items in
    let objects = objects_kept g.objects.items c.objects.items in
    let rest = kept_of graphs codes homes in
    sym (put_all_append objects rest (put_all scalars table)) ∙ sym (put_all_append scalars (objects ++ rest) table)

-- the same of lists of which these are the first
pub function_put : (graphs : List declared-graph.Graph) (g : declared-graph.Graph) (codes : List EmittedFunction) (c : EmittedFunction) (homes : List FunctionHomes) (h : FunctionHomes)
    → g ∷ behind_first graphs ≡ graphs → c ∷ behind_first codes ≡ codes → h ∷ behind_first homes ≡ homes
    → (scalars : List declared-scalar.Scalar) (of : List Home) (objects : List MemoryObject) (offsets : List ℕ) → scalars ≡ g.scalars.items → of ≡ h.homes.items → objects ≡ g.objects.items → offsets ≡ c.objects.items
    → (table with_scalars with_objects : List Storage) → with_scalars ≡ put_all (scalars_kept c.slots (map scalar_view scalars) of) table → with_objects ≡ put_all (objects_kept objects offsets) with_scalars
    → put_all (kept_of (behind_first graphs) (behind_first codes) (behind_first homes)) with_objects ≡ put_all (kept_of graphs codes homes) table
function_put graphs g codes c homes h gs cs hs scalars of objects offsets a b d e table with_scalars with_objects m n =
    let rest = kept_of (behind_first graphs) (behind_first codes) (behind_first homes) in
    ap (put_all rest) (n ∙ ap (put_all (objects_kept objects offsets)) m ∙ (λ i. put_all (objects_kept (d i) (e i)) (put_all (scalars_kept c.slots (map scalar_view (a i)) (b i)) table)))
    ∙ first_put g (behind_first graphs) c (behind_first codes) h (behind_first homes) table ∙ (λ i. put_all (kept_of (gs i) (cs i) (hs i)) table)

-- putting in keeps how many there are
pub put_all_length : (all : List Keeping) (table : List Storage) → length (put_all all table) ≡ length table
put_all_length [] table = refl
put_all_length (k ∷ all) table = put_all_length all (slice_set table k.variable k.storage) ∙ length-set table k.variable k.storage

-- so many elements at the front of a list are all of its first part
pub take_front : {A : Type 0} (front behind : List A) (n : ℕ) → length front ≡ n → take n (front ++ behind) ≡ front
take_front [] behind zero is = refl
take_front [] behind (suc n) is = absurd (omega (arith, is))
take_front (a ∷ front) behind zero is = absurd (omega (arith, is))
take_front (a ∷ front) behind (suc n) is = ap (λ l. a ∷ l) (take_front front behind n (omega (arith, is)))

-- what a table becomes that is lent twice, and put into each time
pub put_twice : (first second : List Keeping) (items table statics functions : List Storage) (n : ℕ) → length table ≡ n → items ≡ table → (lent : List Storage) → lent ≡ items → statics ≡ put_all first lent
    → (again : List Storage) → again ≡ take n (statics ++ drop (length statics) items) → functions ≡ put_all second again
    → take n (functions ++ drop (length functions) (take n (statics ++ drop (length statics) items))) ≡ put_all (first ++ second) table
put_twice first second items table statics functions n counted are lent l s again a f =
    let of_statics : statics ≡ put_all first table = s ∙ ap (put_all first) (l ∙ are) in
    let of_again : again ≡ put_all first table = a ∙ take_front statics (drop (length statics) items) n (ap length of_statics ∙ put_all_length first table ∙ counted) ∙ of_statics in
    let of_functions : functions ≡ put_all second (put_all first table) = f ∙ ap (put_all second) of_again in
    take_front functions (drop (length functions) (take n (statics ++ drop (length statics) items))) n (ap length of_functions ∙ put_all_length second (put_all first table) ∙ put_all_length first table ∙ counted)
    ∙ of_functions ∙ sym (put_all_append first second table)

-- The literals, variables and places of a source stand within it, in the order of the text.
use Rattle.std.proofs.Common.{◌≡◌, inl, ℕ, List, [], ◌∷◌, ◌++◌, length, take, slice_get, Bool, true, false, ◌&&◌, Option, Some, None, refl, sym, ap, ◌∙◌, subst, append_assoc, append-nil}
use Rattle.std.specs.Prelude.{if◌then◌else◌, is_some, codes}
use Rattle.std.specs.Option.{option_map_or}
use Rattle.debug_records.specs.declared.source.Spot.{Spot}
use Rattle.debug_records.specs.declared.code.TheConstants.Code.{REDECLARED}
use Rattle.c_tree.specs.declared.extent.Extent.{Extent}
use Rattle.c_tree.specs.declared.types.IntegerType.{IntegerType}
use Rattle.c_tree.specs.declared.declaration.Header.{Header}
use Rattle.c_tree.specs.declared.declaration.Header.TheVariants as header
use Rattle.c_tree.specs.declared.object_type.Object.TheVariants as designator
use Rattle.c_tree.specs.declared.object_type.ObjectType.{ObjectType}
use Rattle.c_tree.specs.declared.object_type.ObjectType.TheVariants as object_type
use Rattle.c_tree.specs.declared.typed_expression.Callee.{Callee}
use Rattle.c_tree.specs.declared.typed_expression.Callee.TheVariants as callee
use Rattle.c_tree.specs.Expressions.{NameTree}
use Rattle.c_tree.specs.Declarations.{BracketsTree, Absent, Empty, Sized, ParameterTree, DeclaratorTree}
use Rattle.c_tree.specs.Statements.{BlockTree, chain_of_statements}
use Rattle.c_tree.specs.Trees.{FunctionTree, ItemTree, Include, Declares, Defines}
use Rattle.c_tree.specs.TypedStatements.{TypedStatementTrees}
use Rattle.c_tree.specs.Programs.{AutomaticTree, TypedFunctionTree}
use Rattle.c_places.specs.Flow.{reaches_end}
use Rattle.c_type_expressions.specs.declared.names.Meaning.{Meaning}
use Rattle.c_type_expressions.specs.declared.names.Meaning.TheVariants.{Variable, Function, EndOfFile}
use Rattle.c_type_expressions.specs.Names.{SignatureTree, meaning_of}
use Rattle.c_type_declarations.specs.Scopes.{declared_here}
use Rattle.c_type_declarations.specs.Progress.{ProgressTree, Met, means, reached_by, breaks, declares, opened}
use Rattle.c_type_declarations.specs.Objects.{size_met, type_met}
use Rattle.c_type_declarations.specs.Statics.{Contents, contents_met}
use Rattle.c_type_declarations.specs.Declarations.{with_static_object, static_of_type, static_met, statics_met}
use Rattle.c_type_statements.specs.Statements.{statements_met}
use Rattle.c_type.specs.Headers.{is_library, library, same_type, stands_with, standing_of, placed, library_met, end_beside, at_spot, is_library_name, included}
use Rattle.c_type.specs.Functions.{parameter_type, parameter_size, parameter_sizes, parameter_named, parameter_met, parameters_met, defined, signature_of, agrees_with, known_as, name_met, function_made, setting_of, rest_met, function_met}
use Rattle.c_type.specs.Items.{item_met, behind_item, items_met, beginning, source_met}
use Rattle.c_source.specs.TextOrder.{spots_of, spots_of_brackets, spots_of_initial, spots_of_declarator, spots_of_declarators, spots_of_statements, spots_of_name, spots_of_parameters, spots_of_body, spots_of_item, spots_of_items}
use Rattle.c_source.specs.Progress.{Ensures}
use Rattle.c_source.proofs.Parts.{IsPart, part_none, part_all, part_with, part_append, part_first, part_last}
use Rattle.c_source.proofs.Coming.{next_ensures, ensures_more}
use Rattle.c_source.proofs.Adding.{Adds, adds_none, adds_on, adds_more, adds_taken, literal_spot, variable_spot, Reads, Covers, reads_none, reads_itself, reads_on, reads_more, reads_then, covers_read, covers_on, covers_more}
use Rattle.c_source.proofs.Reading.{ReadsIn, reads_breaks, size_reads, type_reads, contents_read}
use Rattle.c_source.proofs.Covering.{CoversBy, breaks_if_literals, breaks_if_automatics, all_cover}
use Rattle.c_source.proofs.Stops.{stops_of_all, stops_of_close, stops_of_functions, stops_append}

-- what an include declares: no object
beside_reads : (extent : Extent) (name : List ℕ) (g other : SignatureTree) (q : ProgressTree) → Reads [] q (placed (stands_with g (Some other)) extent name g q)
beside_reads extent name g other q = by (is_library other.callee) (same_type other g) refl refl
  where
    by : (b c : Bool) → is_library other.callee ≡ b → same_type other g ≡ c → Reads [] q (placed (stands_with g (Some other)) extent name g q)
    by true c e d = rw e (reads_itself [] q)
    by false true e d = rw (e, d) (reads_none [] q _ refl refl)
    by false false e d = rw (e, d) (reads_breaks [] REDECLARED extent q)

standing_reads : (extent : Extent) (name : List ℕ) (g : SignatureTree) (o : Option SignatureTree) (q : ProgressTree) → Reads [] q (placed (stands_with g o) extent name g q)
standing_reads extent name g (Some other) q = beside_reads extent name g other q
standing_reads extent name g None q = reads_breaks [] REDECLARED extent q

placed_reads : (extent : Extent) (name : List ℕ) (g : SignatureTree) (functions : List SignatureTree) (m : Option Meaning) (q : ProgressTree) → Reads [] q (placed (standing_of g functions m) extent name g q)
placed_reads extent name g functions None q = reads_none [] q _ refl refl
placed_reads extent name g functions (Some (Function k)) q = standing_reads extent name g (slice_get functions k) q
placed_reads extent name g functions (Some (Variable o of)) q = reads_breaks [] REDECLARED extent q
placed_reads extent name g functions (Some EndOfFile) q = reads_breaks [] REDECLARED extent q

library_reads : (extent : Extent) (name : List ℕ) (c : Callee) (q : ProgressTree) → Reads [] q (library_met extent name c q)
library_reads extent name c q = placed_reads extent name (library c) q.names.signatures (meaning_of q.names name) q

end_reads : (extent : Extent) (m : Option Meaning) (q : ProgressTree) → Reads [] q (end_beside extent m q)
end_reads extent None q = reads_none [] q _ refl refl
end_reads extent (Some EndOfFile) q = reads_itself [] q
end_reads extent (Some (Variable o of)) q = reads_breaks [] REDECLARED extent q
end_reads extent (Some (Function k)) q = reads_breaks [] REDECLARED extent q

included_reads : (spot : Spot) (h : Header) (q : ProgressTree) → Reads [] q (included spot h q)
included_reads spot header.Stdio q =
    let r = library_met (at_spot spot) (codes "getchar") callee.Getchar q in
    let s = library_met (at_spot spot) (codes "putchar") callee.Putchar r in
    reads_then [] q r _ (library_reads (at_spot spot) (codes "getchar") callee.Getchar q)
    (reads_then [] r s _ (library_reads (at_spot spot) (codes "putchar") callee.Putchar r) (end_reads (at_spot spot) (meaning_of s.names (codes "EOF")) s))
included_reads spot header.Stdlib q = library_reads (at_spot spot) (codes "exit") callee.Exit q

-- a function's name
known_reads : (k : ℕ) (f : FunctionTree) (g : SignatureTree) (m : Option Meaning) (q : ProgressTree) → Reads [] q (known_as k f g m q)
known_reads k f g None q = reads_none [] q _ refl refl
known_reads k f g (Some m) q = by (agrees_with k f g m q)
  where
    by : (b : Bool) → Reads [] q (if b then q else breaks REDECLARED f.extent q)
    by true = reads_itself [] q
    by false = reads_breaks [] REDECLARED f.extent q

name_reads : (k : ℕ) (f : FunctionTree) (g : SignatureTree) (q : ProgressTree) → Reads [] q (name_met k f g q)
name_reads k f g q = by (is_some f.body && is_library_name f.name.name)
  where
    by : (b : Bool) → Reads [] q (if b then breaks REDECLARED f.extent q else known_as k f g (meaning_of q.names f.name.name) q)
    by true = reads_breaks [] REDECLARED f.extent q
    by false = known_reads k f g (meaning_of q.names f.name.name) q

-- the sizes of parameters
size_read : (extent : Extent) (b : BracketsTree) (q : ProgressTree) → Reads (spots_of_brackets b) q (parameter_size extent b q)
unfolding reached_by
size_read extent (Sized e) q = by (size_met extent e q) (size_reads extent e q)
  where
    by : (m : Met ℕ) → ReadsIn (spots_of e) q m → Reads (spots_of e) q (reached_by m (λ n r. r))
    by (means n t) h = h
size_read extent Absent q = reads_itself [] q
size_read extent Empty q = reads_itself [] q

sizes_read : (ds : List ParameterTree) (q : ProgressTree) → Reads (spots_of_parameters ds) q (parameter_sizes ds q)
sizes_read [] q = reads_itself [] q
sizes_read (d ∷ ds) q =
    let r = parameter_size d.extent d.brackets q in
    let name = spots_of_name d.name in
    let size = spots_of_brackets d.brackets in
    let more = spots_of_parameters ds in
    reads_more (size ++ more) (name ++ size ++ more) q (parameter_sizes ds r) (part_append size (name ++ size) more more (part_last size name size (part_all size)) (part_all more))
    (reads_on size more q r (parameter_sizes ds r) (size_read d.extent d.brackets q) (sizes_read ds r))

-- parameters as variables
abbrev Parameters : List Spot → ProgressTree → ProgressTree → Type 0
Parameters whole q t = Adds variable_spot q.automatics t.automatics whole × (t.found.literals ≡ q.found.literals)

parameter_adds : (d : ParameterTree) (q : ProgressTree) → Parameters (spots_of_name d.name) q (parameter_met d q)
parameter_adds d q = by d.name
  where
    by : (o : Option NameTree) → Parameters (spots_of_name o) q (option_map_or (λ n. parameter_named d.extent (parameter_type d) n q) o q)
    by (Some n) =
        let here = declared_here q.names n.name in
        let of = object_type.Scalar (parameter_type d) in
        let v : AutomaticTree = record { name = n.name; spot = n.spot; of = of; in_memory = false } in (
          record {
            more = v ∷ [];
            is = ap (λ z. z ++ v ∷ []) (breaks_if_automatics here REDECLARED d.extent q);
            part = part_all (n.spot ∷ []);
          },
          breaks_if_literals here REDECLARED d.extent q,
        )
    by None = (adds_none variable_spot q.automatics q.automatics [] refl, refl)

parameters_add : (ds : List ParameterTree) (q : ProgressTree) → Parameters (spots_of_parameters ds) q (parameters_met ds q)
parameters_add [] q = (adds_none variable_spot q.automatics q.automatics [] refl, refl)
parameters_add (d ∷ ds) q =
    let r = parameter_met d q in
    let t = parameters_met ds r in
    let here = spots_of_name d.name in
    let more = spots_of_parameters ds in
    let sizes = spots_of_brackets d.brackets in
    let one = parameter_adds d q in
    let rest = parameters_add ds r in (
      adds_on variable_spot q.automatics r.automatics t.automatics (here ++ sizes) more (adds_more variable_spot q.automatics r.automatics here (here ++ sizes) (part_first here here sizes (part_all here)) one.0) rest.0,
      rest.1 ∙ one.1,
    )

-- a function covers itself
close_part : (b : Bool) (close : Spot) → IsPart (stops_of_close b close) (close ∷ [])
close_part true close = part_all (close ∷ [])
close_part false close = part_none (close ∷ [])

function_part : (first opening closing : Spot) (params S stops close : List Spot) → IsPart stops S → IsPart close (closing ∷ []) → IsPart (first ∷ stops ++ close) (first ∷ params ++ (opening ∷ S ++ closing ∷ []))
function_part first opening closing params S stops close h k =
    part_with first (stops ++ close) (params ++ (opening ∷ S ++ closing ∷ []))
    (part_last (stops ++ close) params (opening ∷ S ++ closing ∷ []) (inl (part_append stops S close (closing ∷ []) h k)))

block_part : (first opening closing : Spot) (params S : List Spot) → IsPart (params ++ S) (first ∷ params ++ (opening ∷ S ++ closing ∷ []))
block_part first opening closing params S =
    inl (part_append params params S (opening ∷ S ++ closing ∷ []) (part_all params) (inl (part_first S S (closing ∷ []) (part_all S))))

-- q is the check before the function's sizes, r behind its name
rest_covers : (f : FunctionTree) (g : SignatureTree) (b : Option BlockTree) (q r : ProgressTree) → Reads (spots_of_parameters f.parameters) q r
    → CoversBy stops_of_functions (f.name.spot ∷ spots_of_parameters f.parameters ++ spots_of_body b) q (rest_met f g b r)
rest_covers f g (Some b) q r sizes =
    next_ensures (λ (ts : TypedStatementTrees) (t : ProgressTree). Covers S begun (stops_of_all ts) t) (λ (fs : List TypedFunctionTree) (t : ProgressTree). Covers W q (stops_of_functions fs) t)
    (statements_met (setting_of g) (chain_of_statements b.statements) begun) (function_made f g b (length r.automatics)) (all_cover (setting_of g) (chain_of_statements b.statements) begun) made
  where
    params : List Spot
    params = spots_of_parameters f.parameters

    S : List Spot
    S = spots_of_statements (chain_of_statements b.statements)

    W : List Spot
    W = f.name.spot ∷ params ++ (b.opening ∷ S ++ b.closing ∷ [])

    begun : ProgressTree
    begun = parameters_met f.parameters (opened r)

    before : Covers params q [] begun
    before =
        let add = parameters_add f.parameters (opened r) in
        record {
          literals = subst (λ z. Adds literal_spot q.found.literals z params) (sym add.1) sizes.literals;
          automatics = subst (λ z. Adds variable_spot z begun.automatics params) sizes.same add.0;
          stand = part_none params;
        }

    made : (ts : TypedStatementTrees) (t : ProgressTree) → Covers S begun (stops_of_all ts) t → CoversBy stops_of_functions W q (function_made f g b (length r.automatics) ts t)
    made ts t c =
        let whole = covers_more (params ++ S) W (stops_of_all ts) q t (block_part f.name.spot b.opening b.closing params S) (covers_on params S [] (stops_of_all ts) q begun t before c) in
        let stops = f.name.spot ∷ stops_of_all ts ++ stops_of_close (reaches_end ts) b.closing in
        record {
          literals = whole.literals;
          automatics = whole.automatics;
          stand = subst (λ z. IsPart z W) (sym (append-nil stops)) (function_part f.name.spot b.opening b.closing params S (stops_of_all ts) (stops_of_close (reaches_end ts) b.closing) c.stand (close_part (reaches_end ts) b.closing));
        }
rest_covers f g None q r sizes =
    let params = spots_of_parameters f.parameters in
    let add = parameters_add f.parameters (opened r) in
    let t = parameters_met f.parameters (opened r) in
    record {
      literals = adds_more literal_spot q.found.literals t.found.literals params (f.name.spot ∷ params ++ []) (inl (part_first params params [] (part_all params))) (subst (λ z. Adds literal_spot q.found.literals z params) (sym add.1) sizes.literals);
      automatics = adds_none variable_spot q.automatics (take (length r.automatics) t.automatics) (f.name.spot ∷ params ++ []) (adds_taken variable_spot r.automatics t.automatics params add.0 ∙ sizes.same);
      stand = part_none (f.name.spot ∷ params ++ []);
    }

function_covers : (names : List (List ℕ)) (k : ℕ) (f : FunctionTree) (q : ProgressTree) → CoversBy stops_of_functions (f.name.spot ∷ spots_of_parameters f.parameters ++ spots_of_body f.body) q (function_met names k f q)
function_covers names k f q =
    let s = parameter_sizes f.parameters q in
    let g = signature_of names f in
    rest_covers f g f.body q (name_met k f g s) (reads_then (spots_of_parameters f.parameters) q s (name_met k f g s) (sizes_read f.parameters q) (name_reads k f g s))

-- static variables
of_type_reads : (d : DeclaratorTree) (of : ObjectType) (q : ProgressTree) → Reads (spots_of_initial d.initializer) q (static_of_type d of q)
unfolding reached_by
of_type_reads d of q = by (contents_met of d.extent d.initializer s) (contents_read of d.extent d.initializer s)
  where
    s : ProgressTree
    s = declares d.extent d.name.name (Variable (designator.Static (length q.statics)) of) q

    by : (m : Met Contents) → ReadsIn (spots_of_initial d.initializer) s m → Reads (spots_of_initial d.initializer) q (reached_by m (with_static_object d.name of))
    by (means c u) h =
        let here = declared_here q.names d.name.name in
        record {
          literals = subst (λ z. Adds literal_spot z u.found.literals (spots_of_initial d.initializer)) (breaks_if_literals here REDECLARED d.extent q) h.literals;
          same = h.same ∙ breaks_if_automatics here REDECLARED d.extent q;
        }

one_reads : (t : IntegerType) (d : DeclaratorTree) (q : ProgressTree) → Reads (spots_of_declarator d) q (static_met t d q)
unfolding reached_by
one_reads t d q = by (type_met (record { base = t; stars = d.stars }) d q) (type_reads (record { base = t; stars = d.stars }) d q)
  where
    by : (m : Met ObjectType) → ReadsIn (spots_of_brackets d.brackets) q m → Reads (spots_of_declarator d) q (reached_by m (static_of_type d))
    by (means of u) h =
        let sizes = spots_of_brackets d.brackets in
        let values = spots_of_initial d.initializer in
        reads_more (sizes ++ values) (d.name.spot ∷ sizes ++ values) q (static_of_type d of u) (inl (part_all (sizes ++ values))) (reads_on sizes values q u (static_of_type d of u) h (of_type_reads d of u))

many_read : (t : IntegerType) (ds : List DeclaratorTree) (q : ProgressTree) → Reads (spots_of_declarators ds) q (statics_met t ds q)
many_read t [] q = reads_itself [] q
many_read t (d ∷ ds) q = reads_on (spots_of_declarator d) (spots_of_declarators ds) q (static_met t d q) (statics_met t ds (static_met t d q)) (one_reads t d q) (many_read t ds (static_met t d q))

-- items
item_covers : (names : List (List ℕ)) (k : ℕ) (i : ItemTree) (q : ProgressTree) → CoversBy stops_of_functions (spots_of_item i) q (item_met names k i q)
item_covers names k (Include spot h) q = covers_read (spot ∷ []) [] q (included spot h q) (part_none (spot ∷ [])) (reads_more [] (spot ∷ []) q (included spot h q) (part_none (spot ∷ [])) (included_reads spot h q))
item_covers names k (Declares d) q = covers_read (spots_of_declarators d.declarators) [] q (statics_met d.type d.declarators q) (part_none (spots_of_declarators d.declarators)) (many_read d.type d.declarators q)
item_covers names k (Defines f) q = function_covers names k f q

-- Functions come behind others, and their places stand within spots.
pub record Follows (whole : List Spot) (fs : List TypedFunctionTree) (q : ProgressTree) (gs : List TypedFunctionTree) (t : ProgressTree) : Type 0 where
  pub more : List TypedFunctionTree
  pub is : gs ≡ fs ++ more
  pub covers : Covers whole q (stops_of_functions more) t

behind_covers : (names : List (List ℕ)) (fs : List TypedFunctionTree) (i : ItemTree) (q : ProgressTree) → Ensures (Follows (spots_of_item i) fs q) (behind_item names fs i q)
behind_covers names fs i q =
    next_ensures (λ (more : List TypedFunctionTree) (t : ProgressTree). Covers (spots_of_item i) q (stops_of_functions more) t) (Follows (spots_of_item i) fs q) (item_met names (length fs) i q) _ (item_covers names (length fs) i q)
    (λ more t c. record { more = more; is = refl; covers = c })

items_cover : (names : List (List ℕ)) (fs : List TypedFunctionTree) (items : List ItemTree) (q : ProgressTree) → Ensures (Follows (spots_of_items items) fs q) (items_met names fs items q)
items_cover names fs [] q = record { more = []; is = sym (append-nil fs); covers = covers_read [] [] q q refl (reads_itself [] q) }
items_cover names fs (i ∷ rest) q =
    let I = spots_of_item i in
    let R = spots_of_items rest in
    next_ensures (Follows I fs q) (Follows (I ++ R) fs q) (behind_item names fs i q) (λ gs. items_met names gs rest) (behind_covers names fs i q)
    (λ gs t one.
    ensures_more (Follows R gs t) (Follows (I ++ R) fs q) (items_met names gs rest t) (items_cover names gs rest t)
    (λ hs u two.
    record {
      more = one.more ++ two.more;
      is = two.is ∙ ap (λ z. z ++ two.more) one.is ∙ append_assoc fs one.more two.more;
      covers = subst (λ z. Covers (I ++ R) q z u) (sym (stops_append one.more two.more)) (covers_on I R (stops_of_functions one.more) (stops_of_functions two.more) q t u one.covers two.covers);
    }))

-- The check of a source covers it.
pub source_covers : (items : List ItemTree) → Ensures (Follows (spots_of_items items) [] beginning) (source_met items)
source_covers items = items_cover (defined items) [] items beginning

use Rattle.std.proofs.Common.{◌≡◌, ◌++◌, List, [], ◌∷◌, ℕ, ap, refl, append_assoc, map, string_bytes, sym, ◌∙◌}
use Rattle.std.specs.List.{flat_map}
use Rattle.std.proofs.lemmas.List.Concat.{flat_map-cons}
use Rattle.c_tree.specs.declared.program.AutomaticVariable.{AutomaticVariable}
use Rattle.c_tree.specs.declared.program.StaticVariable.{StaticVariable}
use Rattle.c_tree.specs.declared.program.TypedFunction.{TypedFunction}
use Rattle.c_tree.specs.Programs.{AutomaticTree, StaticTree, TypedFunctionTree, automatic_view, function_view, program_view, static_view}
use Rattle.debug_records.specs.Change.{letters}
use Rattle.debug_records.specs.declared.change.Change.{Change}
use Rattle.graph_core.specs.Graphs.{Logged, logged}
use Rattle.image_build_tables.specs.Variables.{declared_names}
use Rattle.image_build_tables.proofs.names.names_of.Goals as goal

-- what is made of each view is made of each
of_views : {A B : Type 0} (view : A → B) (of : B → List ℕ) (xs : List A) → flat_map of (map view xs) ≡ flat_map (λ x. of (view x)) xs
of_views view of [] = refl
of_views view of (x ∷ xs) = flat_map-cons of (view x) (map view xs) ∙ ap (λ l. of (view x) ++ l) (of_views view of xs) ∙ sym (flat_map-cons (λ x. of (view x)) x xs)

pub returns : goal.returns
returns c =
    let program = c.args.program.now in
    let named = λ (f : TypedFunction). string_bytes f.name in
    let fixed = λ (v : StaticVariable). string_bytes v.name in
    let local = λ (v : AutomaticVariable). string_bytes v.name in
    let functions = flat_map named program.functions.items in
    let statics = flat_map fixed program.statics.items in
    let automatics = flat_map local program.automatics.items in
    let f : c.push_functions.new.names.items ≡ functions =
    c.in_ok-push_functions.ensures ∙ ap (λ l. l ++ flat_map named c.deref.result.now) c.new-names.ensures.items ∙ ap (flat_map named) c.deref.ensures.value in
    let s : c.push_statics.new.names.items ≡ functions ++ statics =
    c.in_ok-push_statics.ensures ∙ ap (λ l. l ++ flat_map fixed c.deref-2.result.now) f ∙ ap (λ xs. functions ++ flat_map fixed xs) c.deref-2.ensures.value in
    let a : c.push_automatics.new.names.items ≡ (functions ++ statics) ++ automatics =
    c.in_ok-push_automatics.ensures ∙ ap (λ l. l ++ flat_map local c.deref-3.result.now) s ∙ ap (λ xs. (functions ++ statics) ++ flat_map local xs) c.deref-3.ensures.value in
    let views : functions ++ (statics ++ automatics) ≡ declared_names (program_view program) =
    ap (λ l. l ++ (statics ++ automatics)) (sym (of_views function_view (λ (g : TypedFunctionTree). g.name) program.functions.items))
    ∙ ap (λ l. flat_map (λ (g : TypedFunctionTree). g.name) (map function_view program.functions.items) ++ (l ++ automatics)) (sym (of_views static_view (λ (v : StaticTree). v.name) program.statics.items))
    ∙ ap (λ l. flat_map (λ (g : TypedFunctionTree). g.name) (map function_view program.functions.items) ++ (flat_map (λ (v : StaticTree). v.name) (map static_view program.statics.items) ++ l)) (sym (of_views automatic_view (λ (v : AutomaticTree). v.name) program.automatics.items)) in
    let log = c.args.log.now in
    c.in_ok-push_passes.ensures ∙ ap (λ l. l ++ flat_map (λ (x : Change). letters x.pass) log) (a ∙ append_assoc functions statics automatics ∙ views)
    ∙ ap (λ l. declared_names (program_view program) ++ l) (sym (of_views logged (λ (x : Logged). letters x.pass) log))

use Rattle.std.proofs.Common.{◌≡◌, [], ◌∷◌, length, arith, map, ap}
use Rattle.std.proofs.lemmas.List.{length-map, map-append}
use Rattle.std.proofs.lemmas.Result.{on_ok_weaker}
use Rattle.c_tree.specs.Programs.{function_view}
use Rattle.c_tree.specs.Trees.{item_view}
use Rattle.c_type_declarations.specs.Progress.{progress_view, means}
use Rattle.c_type.proofs.Items.{item_adds, item_adds_none}
use Rattle.c_type.proofs.item.item.Goals as goal

pub returns-in-Include : goal.returns-in-Include
returns-in-Include c = on_ok_weaker c.include.result
    (λ e names numbering. item_adds_none names (map function_view c.args.functions.now.items) (item_view c.args.item.now) (progress_view c.args.progress.now) (progress_view c.include.new.progress) (rw c.in-Include.is (ap (λ p. means [] p) e)))
    c.include.ensures

pub returns-in-Declaration : goal.returns-in-Declaration
returns-in-Declaration c = on_ok_weaker c.static_declaration.result
    (λ e names numbering. item_adds_none names (map function_view c.args.functions.now.items) (item_view c.args.item.now) (progress_view c.args.progress.now) (progress_view c.static_declaration.new.progress) (rw c.in-Declaration.is (ap (λ p. means [] p) e)))
    c.static_declaration.ensures

pub returns-in_ok-push-in-Function : goal.returns-in_ok-push-in-Function
returns-in_ok-push-in-Function c = λ names numbering.
    let fs = c.args.functions.now.items in
    let made = c.in-Some.made in
    let long : c.len.result ≡ length fs = omega (arith, c.len.ensures) in
    rw (c.in_ok-push-in-Function.ensures.items, map-append function_view fs (made ∷ []))
    (item_adds names (map function_view fs) (function_view made ∷ []) (item_view c.args.item.now) (progress_view c.args.progress.now) (progress_view c.function.new.progress)
    (rw (c.in-Function.is, length-map fs function_view) (rw (c.in-Some.is, long) at (c.in_ok-made-in-Function.ensures names numbering))))

pub returns-in_default : goal.returns-in_default
returns-in_default c = λ names numbering.
    let fs = c.args.functions.now.items in
    let long : c.len.result ≡ length fs = omega (arith, c.len.ensures) in
    item_adds_none names (map function_view fs) (item_view c.args.item.now) (progress_view c.args.progress.now) (progress_view c.function.new.progress)
    (rw (c.in-Function.is, length-map fs function_view) (rw (c.in_default.is, long) at (c.in_ok-made-in-Function.ensures names numbering)))

use Rattle.std.proofs.Common.{◌-◌, [], ◌∷◌, length, map, ap, refl}
use Rattle.std.proofs.lemmas.List.{map-append, take-map, length-map}
use Rattle.c_type_expressions.specs.Names.{scope_view, signature_view}
use Rattle.c_type_declarations.proofs.scope.declare.Goals as goal

pub returns : goal.returns
returns c =
    let old = c.args.names.now.scopes.items in
    ap (λ s. record { signatures = map signature_view c.args.names.now.signatures.items; scopes = s })
    (rw (c.in_ok-push.ensures.items, map-append scope_view c.take_innermost-scope.new.scopes.items (c.give.new.scope ∷ []), c.in_ok-give.ensures, c.take_innermost-scope.ensures.scope, c.take_innermost-scope.ensures.rest, length-map old scope_view, take-map scope_view (length old - 1) old, c.in_ok-name.ensures.ok) refl)

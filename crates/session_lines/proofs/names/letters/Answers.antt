use Rattle.std.proofs.Common.{◌≡◌, ◌∙◌, ◌-◌, ◌<◌, ◌≤◌, List, ℕ, [], map, length, get_or, ap, arith}
use Rattle.std.specs.Prelude.{string_bytes}
use Rattle.c_tree.specs.Programs.{StaticTree, AutomaticTree, static_view, automatic_view, literal_view}
use Rattle.c_tree.specs.declared.program.StaticVariable.{StaticVariable}
use Rattle.c_tree.specs.declared.program.AutomaticVariable.{AutomaticVariable}
use Rattle.session_lines.proofs.Looking as looking
use Rattle.session_lines.proofs.names.letters.Goals as goal

pub returns-then-variable-statics : goal.returns-then-variable-statics
returns-then-variable-statics c =
    let p = c.args.program.now in
    let counted = c.len-statics.ensures in
    let under = c.if-variable-statics.true in
    let within : c.args.variable < length p.statics.items = omega (arith, counted, under) in
    c.static_letters.ensures ∙ ap (λ (all : List StaticVariable). get_or (map (λ (v : StaticVariable). string_bytes v.name) all) c.args.variable []) c.deref.ensures.value
    ∙ looking.of_static static_view literal_view automatic_view (λ (v : StaticTree). v.name) (λ (v : AutomaticTree). v.name) p.statics.items p.literals.items p.automatics.items c.args.variable within

pub returns-then-behind-literals : goal.returns-then-behind-literals
returns-then-behind-literals c =
    let p = c.args.program.now in
    let many = c.len-statics.ensures in
    let few = c.len-literals.ensures in
    let not_under = c.if-variable-statics.false in
    let under = c.if-behind-literals.true in
    let beyond : length p.statics.items ≤ c.args.variable = omega (arith, many, not_under) in
    let within : c.args.variable - length p.statics.items < length p.literals.items = omega (arith, many, few, not_under, under) in
    looking.of_literal static_view literal_view automatic_view (λ (v : StaticTree). v.name) (λ (v : AutomaticTree). v.name) p.statics.items p.literals.items p.automatics.items c.args.variable beyond within

pub returns : goal.returns
returns c =
    let p = c.args.program.now in
    let many = c.len-statics.ensures in
    let few = c.len-literals.ensures in
    let not_under = c.if-variable-statics.false in
    let nor_there = c.if-behind-literals.false in
    let beyond : length p.statics.items ≤ c.args.variable = omega (arith, many, not_under) in
    let behind : length p.literals.items ≤ c.args.variable - length p.statics.items = omega (arith, many, few, not_under, nor_there) in
    let far : c.args.variable - c.len-statics.result - c.len-literals.result ≡ c.args.variable - length p.statics.items - length p.literals.items = omega (arith, many, few, not_under, nor_there) in
    c.automatic_letters.ensures ∙ ap (λ (all : List AutomaticVariable). get_or (map (λ (v : AutomaticVariable). string_bytes v.name) all) (c.args.variable - c.len-statics.result - c.len-literals.result) []) c.deref-2.ensures.value
    ∙ ap (λ (n : ℕ). get_or (map (λ (v : AutomaticVariable). string_bytes v.name) p.automatics.items) n []) far
    ∙ looking.of_automatic static_view literal_view automatic_view (λ (v : StaticTree). v.name) (λ (v : AutomaticTree). v.name) p.statics.items p.literals.items p.automatics.items c.args.variable beyond behind

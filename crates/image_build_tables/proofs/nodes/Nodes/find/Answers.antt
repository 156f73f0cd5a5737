use Rattle.std.proofs.Common.{◌≡◌, ◌≤◌, Some, length, slice_get, true≢false, sym, ap, ◌∙◌, arith}
use Rattle.std.specs.Option.{option_copied}
use Rattle.std.proofs.lemmas.Option.{none-some, same_Some, slice_get_within}
use Rattle.image_build_tables.proofs.NodesOnce.{read_at, told_at}
use Rattle.image_build_tables.proofs.nodes.Nodes.find.Goals as goal

pub returns-in_err-number-clause-none : goal.returns-in_err-number-clause-none
returns-in_err-number-clause-none c = λ none few k at.
    let old = c.args.self.now in
    none-some k (sym (ap option_copied c.in_err-number.was) ∙ told_at old.numbers old.nodes.items c.args.node c.key_of.result (option_copied c.get.result) old.told c.key_of.ensures c.get.ensures.value few k at)

pub returns-in_err-found-clause-none : goal.returns-in_err-found-clause-none
returns-in_err-found-clause-none c = λ none few k at.
    let old = c.args.self.now in
    let number = c.in_ok-number.field-0.now in
    let same : number ≡ k = same_Some number k (sym (ap option_copied c.in_ok-number.was) ∙ told_at old.numbers old.nodes.items c.args.node c.key_of.result (option_copied c.get.result) old.told c.key_of.ensures c.get.ensures.value few k at) in
    let past : length c.deref.result.now ≤ number = c.in_err-found.ensures.lookup.3 in
    let long : length c.deref.result.now ≡ length old.nodes.items = ap length c.deref.ensures.value in
    let within = slice_get_within old.nodes.items k c.args.node at in
    absurd (omega (arith, same, past, long, within))

pub returns-then-is_same-clause-there : goal.returns-then-is_same-clause-there
returns-then-is_same-clause-there c =
    let old = c.args.self.now in
    let found = c.in_ok-found.found.now in
    read_at c.deref.result.now old.nodes.items c.in_ok-number.field-0.now found c.deref.ensures.value c.in_ok-found.ensures.lookup.3.0 c.in_ok-found.ensures.lookup.1 ∙ ap Some (c.is_same.ensures.tells c.if-is_same.true)

pub returns-else-is_same-clause-none : goal.returns-else-is_same-clause-none
returns-else-is_same-clause-none c = λ none few k at.
    let old = c.args.self.now in
    let number = c.in_ok-number.field-0.now in
    let found = c.in_ok-found.found.now in
    let same : number ≡ k = same_Some number k (sym (ap option_copied c.in_ok-number.was) ∙ told_at old.numbers old.nodes.items c.args.node c.key_of.result (option_copied c.get.result) old.told c.key_of.ensures c.get.ensures.value few k at) in
    let there = read_at c.deref.result.now old.nodes.items number found c.deref.ensures.value c.in_ok-found.ensures.lookup.3.0 c.in_ok-found.ensures.lookup.1 in
    let one : found ≡ c.args.node = same_Some found c.args.node (sym there ∙ ap (slice_get old.nodes.items) same ∙ at) in
    true≢false (sym (c.is_same.ensures.knows one) ∙ c.if-is_same.false)

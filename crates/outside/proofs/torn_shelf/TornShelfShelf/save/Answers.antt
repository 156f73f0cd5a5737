use Rattle.std.proofs.Common.{◌≡◌, ◌∙◌, Some, ap, arith, drop, inr, length, min, refl, sym, take}
use Rattle.std.specs.FinMap.{get}
use Rattle.std.proofs.lemmas.List.{take-append-drop, take_min}
use Rattle.outside.proofs.FilesLemmas.{get-insert_other, get-insert_same}
use Rattle.outside.proofs.torn_shelf.TornShelfShelf.save.Goals as goal

pub returns-then-not-next_fails-clause-others : goal.returns-then-not-next_fails-clause-others
returns-then-not-next_fails-clause-others c = λ n differs.
    ap (λ shelf. get shelf.files n) c.in_ok-place.ensures.ok
    ∙ get-insert_other c.next_fails.new.self.files c.args.name.now c.args.bytes.now n differs
    ∙ ap (λ shelf. get shelf.files n) c.next_fails.ensures.counted
    ∙ ap (λ torn. get torn.shelf.files n) c.self.view_is

pub returns-then-not-next_fails-clause-ok : goal.returns-then-not-next_fails-clause-ok
returns-then-not-next_fails-clause-ok c =
    ap (λ shelf. get shelf.files c.args.name.now) c.in_ok-place.ensures.ok
    ∙ get-insert_same c.next_fails.new.self.files c.args.name.now c.args.bytes.now

pub returns-clause-count : goal.returns-clause-count
returns-clause-count c =
    let same : c.place-2.new.self.save_count ≡ c.args.self.now.shelf.save_count =
    ap (λ shelf. shelf.save_count) c.in_ok-place-2.ensures.ok
    ∙ ap (λ shelf. shelf.save_count) c.next_fails.ensures.counted
    ∙ ap (λ torn. torn.shelf.save_count) c.self.view_is in
    rw (← same) c.count_failed_save.ensures.rises

pub returns-clause-others : goal.returns-clause-others
returns-clause-others c = λ n differs.
    ap (λ shelf. get shelf.files n) c.count_failed_save.ensures.counted
    ∙ ap (λ shelf. get shelf.files n) c.in_ok-place-2.ensures.ok
    ∙ get-insert_other c.next_fails.new.self.files c.args.name.now _ n differs
    ∙ ap (λ shelf. get shelf.files n) c.next_fails.ensures.counted
    ∙ ap (λ torn. get torn.shelf.files n) c.self.view_is

pub returns-clause-torn : goal.returns-clause-torn
returns-clause-torn c = λ _.
    let end : c.min-end.result ≡ min c.self.inside.keep (length c.args.bytes.now) = omega (arith, c.min-end.ensures) in
    ap (λ shelf. get shelf.files c.args.name.now) c.count_failed_save.ensures.counted
    ∙ ap (λ shelf. get shelf.files c.args.name.now) c.in_ok-place-2.ensures.ok
    ∙ get-insert_same c.next_fails.new.self.files c.args.name.now (take c.min-end.result c.args.bytes.now)
    ∙ ap (λ count. Some (take count c.args.bytes.now)) end
    ∙ ap Some (take_min c.self.inside.keep c.args.bytes.now)
    ∙ ap (λ torn. Some (take torn.keep c.args.bytes.now)) c.self.view_is

pub returns-clause-err : goal.returns-clause-err
returns-clause-err c =
    let keep = c.args.self.now.keep in
    let bytes = c.args.bytes.now in
    inr (take keep bytes, (drop keep bytes, sym (take-append-drop keep bytes)), returns-clause-torn c refl)

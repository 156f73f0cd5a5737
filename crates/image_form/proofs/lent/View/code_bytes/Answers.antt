use Rattle.std.proofs.Common.{◌≡◌, ◌+◌, ◌*◌, ◌-◌, ◌∙◌, take, drop, length, arith}
use Rattle.image_form.specs.Views.{viewed}
use Rattle.image_form.proofs.Got.{header_told, code_inside, code_spelled}
use Rattle.image_form.proofs.lent.View.code_bytes.Goals as goal

pub slice_bounds-result-end : goal.slice_bounds-result-end
slice_bounds-result-end c = omega (arith, code_inside c.args.self.now, c.code_count.ensures.count, header_told c.args.self.now _ _ c.level_of.ensures c.header_size-header.ensures)

pub returns : goal.returns
returns c =
    let v = c.args.self.now in
    let header = header_told v _ _ c.level_of.ensures c.header_size-header.ensures in
    let size : c.header_size-header.result + 4 * c.code_count.result - c.header_size-header.result ≡ 4 * length (viewed v).code = omega (arith, c.code_count.ensures.count) in
    (λ i. take (size i) (drop (header i) v.bytes.now)) ∙ code_spelled v

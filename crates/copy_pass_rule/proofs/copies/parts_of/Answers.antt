use Rattle.std.proofs.Common.{◌≡◌, ◌≢◌, ℕ, suc, ◌+◌, ◌<◌, inl, inr, Some, length, sym, ap, subst, arith, ◌∙◌}
use Rattle.std.specs.Prelude.{◌==◌, ◌||◌, slice_get}
use Rattle.std.proofs.lemmas.Bool.{cases_eq}
use Rattle.graph_paths.specs.PathMarksTable.{bits_of}
use Rattle.copy_pass_rule.proofs.Parting.{part_more, put_elsewhere}
use Rattle.std.proofs.lemmas.Option.{slice_get_within}
use Rattle.copy_pass_rule.proofs.copies.parts_of.Goals as goal

pub loop-k-preserved : goal.loop-k-preserved
loop-k-preserved c =
    let inv = c.loop-k.invariant in
    let one = c.put.ensures in
    let two = c.put-in-loop-k.ensures in
    let k = c.loop-k.k in
    let old = bits_of c.loop-k.parts in
    let mid = bits_of c.put.new.self in
    let last = bits_of c.put-in-loop-k.new.self in
    let next : k + 1 ≡ suc k = omega arith in
    let inside : k < length c.args.all.now = c.loop-k-test.true in
    let kept : (row some : ℕ) → some ≢ k + 1 → last row some ≡ old row some = λ row some other. put_elsewhere _ (k + 1) mid last two.rows two.bits row some other ∙ put_elsewhere _ (k + 1) old mid one.rows one.bits row some other in
    record {
      count = two.count ∙ one.count ∙ inv.count;
      width = two.width ∙ one.width ∙ inv.width;
      parts = λ n j d lt at. elim (cases_eq j k) [
        | inl q ↦ subst (λ (i : ℕ). slice_get c.args.all.now i ≡ Some d → last n (suc i) ≡ ((n == d.target) || (n == d.source))) (sym q)
            (λ here. part_more c.args.all.now k _ old mid last inside one.there one.rows one.bits two.there two.rows two.bits (λ m. ap (λ (i : ℕ). old m i) next ∙ inv.later m k (omega arith)) n d here) at
        | inr q ↦ kept n (suc j) (λ e. q (omega (arith, e))) ∙ inv.parts n j d (omega (arith, lt, q)) at
      ];
      later = λ row j le. kept row (suc j) (λ e. omega (arith, e, le)) ∙ inv.later row j (omega (arith, le));
      apart = λ row. kept row 0 (λ e. omega (arith, e)) ∙ inv.apart row;
    }

pub returns : goal.returns
returns c =
    let inv = c.loop-k.invariant in
    let done = c.loop-k-test.false in
    record {
      count = inv.count;
      width = inv.width;
      parts_of = λ n k d lt at. inv.parts n k d (let within = slice_get_within c.args.all.now k d at in omega (arith, within, done)) at;
      apart = λ n lt. inv.apart n;
    }

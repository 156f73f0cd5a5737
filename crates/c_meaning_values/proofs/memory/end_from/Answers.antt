use Rattle.std.proofs.Common.{◌≡◌, ◌<◌, ◌-◌, ◌∙◌, suc, sym, map, set, length, arith}
use Rattle.std.proofs.lemmas.List.{length-map, length-set}
use Rattle.c_meaning_values.specs.Views.{object_view}
use Rattle.c_meaning_values.specs.Memory.{ended_from}
use Rattle.c_meaning_values.proofs.Living.{one_fewer}
use Rattle.c_meaning_values.proofs.ByNumber.{ends_one}
use Rattle.c_meaning_values.proofs.memory.end_from.Goals as goal

pub loop-n-preserved : goal.loop-n-preserved
loop-n-preserved c =
    let m = c.loop-n.memory.items in
    let before = map object_view c.args.memory.now.items in
    let n = c.loop-n.n in
    let o = c.index_mut.result.now in
    let p = c.end_last.new.object in
    let lt : n - 1 < length m = omega (arith, c.loop-n-test.true, c.loop-n.invariant.most) in
    let is : n ≡ suc (n - 1) = omega (arith, c.loop-n-test.true) in
    let same : length m ≡ length before = c.loop-n.invariant.length_is ∙ sym (length-map c.args.memory.now.items object_view) in
    let ends : map object_view (set m (n - 1) p) ≡ ended_from (n - 1) before = ends_one m before n (n - 1) o p is lt same c.index_mut.ensures.value c.end_last.ensures.ended c.loop-n.invariant.so_far in
    record {
      length_is = length-set m (n - 1) p ∙ c.loop-n.invariant.length_is;
      least = omega (arith, c.loop-n-test.true);
      most = omega (arith, lt, length-set m (n - 1) p);
      so_far = ends;
      known = λ h. one_fewer m before (map object_view (set m (n - 1) p)) n (n - 1) o c.loop-n.living.items c.end_last.new.living.items is lt same c.index_mut.ensures.value c.loop-n.invariant.so_far ends c.end_last.ensures.living (c.loop-n.invariant.known h);
    }

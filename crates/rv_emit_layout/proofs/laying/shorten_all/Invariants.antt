use Rattle.std.proofs.Common.{◌≡◌, ◌++◌, length, map, take, drop}
use Rattle.std.specs.List.{AllByRecursion}
use Rattle.rv_emit_sequence.specs.Sequences.{counted}
use Rattle.rv_emit_layout.specs.Laid.{all_shortened, laid_view, IsLongest}
use Rattle.rv_emit_layout.proofs.laying.shorten_all.Given as goal

abbrev pub invariant-loop-number : goal.invariant-loop-number
invariant-loop-number l = record {
  size : length l.all ≡ length l.fn.all;
  done : map laid_view (take l.number l.all) ++ all_shortened l.room l.firsts (counted l.number) (map laid_view (drop l.number l.all)) ≡ all_shortened l.room l.firsts 0 (map laid_view l.fn.all);
  longest : AllByRecursion (IsLongest l.room) (map laid_view (drop l.number l.all));
}

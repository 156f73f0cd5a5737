use Rattle.std.proofs.Common.{◌≡◌, ℕ, ltb, rules, arith}
use Rattle.std.specs.Prelude.{nat_lt}
use Rattle.std.specs.List.{count_by}
use Rattle.std.proofs.lemmas.List.Sorted.{IsPartitionPoint-from_clause, IsPartitionedBy-ltb}
use Rattle.c_flow.proofs.Counting.{count_at_point}
use Rattle.c_flow.proofs.numbering.number_in.Goals as goal

pub returns : goal.returns
returns c =
    let parted = IsPartitionedBy-ltb (λ (y : ℕ). y) c.args.positions.now c.args.at c.requires.sorted in
    let point = IsPartitionPoint-from_clause (λ (y : ℕ). ltb y c.args.at) _ _ c.partition_point-count.ensures.partitioned parted (λ a r q k. search rules) in
    let counted : count_by (λ (y : ℕ). nat_lt y c.args.at) c.args.positions.now ≡ c.partition_point-count.result =
    count_at_point c.args.at c.args.positions.now c.partition_point-count.result c.partition_point-count.ensures.bound (λ j d lt. point.0 j d (omega arith) lt) (λ j d le lt. point.1 j d le lt) in
    omega (arith, counted)

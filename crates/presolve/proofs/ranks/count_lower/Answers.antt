use Rattle.std.proofs.Common.{ℕ, arith, rules, ltb}
use Rattle.std.proofs.lemmas.Bool.Decides.{nat_tests}
use Rattle.std.proofs.lemmas.List.Sorted.{IsPartitionPoint-from_clause, IsPartitionedBy-ltb}
use Rattle.presolve.proofs.ranks.count_lower.Goals as goal

pub returns : goal.returns
returns c =
    let sorted = c.args.sorted.now in
    let number = c.args.number in
    let parted = IsPartitionedBy-ltb (λ (n : ℕ). n) sorted number c.requires in
    let point = IsPartitionPoint-from_clause (λ (n : ℕ). ltb n number) sorted c.partition_point.result c.partition_point.ensures.partitioned
    parted (λ a r q k. search rules) in
    record {
      within = c.partition_point.ensures.bound;
      lower = λ k small. (let passes = point.0 k 0 (omega arith) small in grind (arith, nat_tests));
      others = λ k from inside. (let fails = point.1 k 0 from inside in grind (arith, nat_tests));
    }

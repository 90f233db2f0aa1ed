use Rattle.std.proofs.Common.{◌≡◌, ℕ, ◌<◌, ◌≤◌, List, length, true, false, rules, arith, ltb}
use Rattle.std.specs.Prelude.{slice_index}
use Rattle.std.specs.List.Sorted.{IsPartitionPoint, IsNonDecreasingBy}
use Rattle.std.proofs.lemmas.Bool.{ltb-true, ltb-false}
use Rattle.std.proofs.lemmas.List.Sorted.{IsPartitionPoint-from_clause, IsPartitionedBy-ltb}
use Rattle.mono_problem.specs.Uses.{IsRangeOf}
use Rattle.mono_problem.proofs.uses.range_of.Goals as goal

-- from where x may stand, to where it no longer does
range : (vars : List ℕ) (x start end : ℕ) → IsNonDecreasingBy (λ (v : ℕ). v) vars → IsPartitionPoint (λ (v : ℕ). ltb v x ≡ true) (λ (v : ℕ). ltb v x ≡ false) vars start → start ≤ end → end ≤ length vars
    → ((k : ℕ) → start ≤ k → k < end → slice_index vars k ≡ x) → (end < length vars → slice_index vars end ≡ x → ⊥) → IsRangeOf vars x start end
range vars x start end sorted part rises within at other = record {
  below = λ k low. ltb-true _ _ (part.0 k 0 (omega arith) low);
  at = at;
  above = λ k low high.
      let inside : end < length vars = omega arith in
      let least : x ≤ slice_index vars end = ltb-false _ _ (part.1 end 0 rises inside) in
      let rise : slice_index vars end ≤ slice_index vars k = sorted end k 0 low high in
      let apart = other inside in
      grind (arith, least, rise, apart);
}

pub returns-else-vars-end-clause-range : goal.returns-else-vars-end-clause-range
returns-else-vars-end-clause-range c =
    range c.args.vars.now c.args.var c.partition_point-start.result c.loop-end.end c.requires
    (IsPartitionPoint-from_clause (λ (v : ℕ). ltb v c.args.var) c.args.vars.now c.partition_point-start.result c.partition_point-start.ensures.partitioned (IsPartitionedBy-ltb (λ (v : ℕ). v) c.args.vars.now c.args.var c.requires) (λ a r q k. search rules))
    c.loop-end.invariant.rises c.loop-end.invariant.within c.loop-end.invariant.at
    (λ lt e. c.if-vars-end.false e)

pub returns-after-loop-end-clause-range : goal.returns-after-loop-end-clause-range
returns-after-loop-end-clause-range c =
    range c.args.vars.now c.args.var c.partition_point-start.result c.loop-end.end c.requires
    (IsPartitionPoint-from_clause (λ (v : ℕ). ltb v c.args.var) c.args.vars.now c.partition_point-start.result c.partition_point-start.ensures.partitioned (IsPartitionedBy-ltb (λ (v : ℕ). v) c.args.vars.now c.args.var c.requires) (λ a r q k. search rules))
    c.loop-end.invariant.rises c.loop-end.invariant.within c.loop-end.invariant.at (λ lt e. omega (arith, lt))

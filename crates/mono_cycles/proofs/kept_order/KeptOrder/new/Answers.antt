use Rattle.std.proofs.Common.{◌≡◌, ◌∙◌, ◌+◌, ◌≤◌, ℕ, List, length, sym, ap, subst, arith}
use Rattle.std.specs.Prelude.{IsTrue, vec_capacity}
use Rattle.std.specs.List.{range_with_len}
use Rattle.std.proofs.lemmas.List.FromFn.{length-range_with_len}
use Rattle.mono_graph.specs.Cycles.{is_order}
use Rattle.mono_cycles.proofs.Grown.{ranked_first, ranked_at, order_first}
use Rattle.mono_cycles.proofs.kept_order.KeptOrder.new.Goals as goal

pub invariant_of-result : goal.invariant_of-result
invariant_of-result c =
    let b = c.in_ok-new.field-0 in
    let e = c.in_ok-new.ensures in
    let buffer : c.args.nodes ≤ vec_capacity c.in_ok-with_capacity.field-0 = let x = c.in_ok-with_capacity.ensures.exact in omega arith in
    let cycle : c.args.nodes + 1 ≤ vec_capacity c.in_ok-with_capacity-2.field-0 = let x = c.in_ok-with_capacity-2.ensures.exact in omega arith in
    let len : length c.in_ok-numbers_below.field-0.items ≡ c.args.nodes = ap (λ (ks : List ℕ). length ks) c.in_ok-numbers_below.ensures ∙ length-range_with_len 0 c.args.nodes in
    record {
      ranked = ranked_at (range_with_len 0 c.args.nodes) c.in_ok-numbers_below.field-0.items (range_with_len 0 c.args.nodes) c.in_ok-numbers_below-2.field-0.items c.in_ok-numbers_below.ensures c.in_ok-numbers_below-2.ensures
          (ranked_first c.args.nodes c.requires);
      room = record {
        marks_len = e.marks ∙ sym len;
        onward_len = e.onward ∙ sym len;
        clear = e.clear;
        found = let room = e.room in omega arith;
        buffer = omega arith;
        cycle = omega arith;
      };
    }

pub returns-clause-size : goal.returns-clause-size
returns-clause-size c = ap (λ (ks : List ℕ). length ks) c.in_ok-numbers_below.ensures ∙ length-range_with_len 0 c.args.nodes

pub returns-clause-no_cycle : goal.returns-clause-no_cycle
returns-clause-no_cycle c = c.in_ok-with_capacity-2.ensures.items

pub returns-clause-order : goal.returns-clause-order
returns-clause-order c = λ g P size none. subst (λ (ks : List ℕ). IsTrue (is_order g P ks)) (sym c.in_ok-numbers_below.ensures) (order_first g P c.args.nodes size none)

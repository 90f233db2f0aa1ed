use Rattle.std.proofs.Common.{◌≡◌, ◌&&◌, ℕ, Bool, true, false, List, get_or, sym, ap, ◌∙◌, w64, ℤ, pos, ◌-ℤ◌, int_le}
use Rattle.std.specs.List.{list_all}
use Rattle.std.proofs.lemmas.Int.{to_z-of_z}
use Rattle.mono_flows.specs.Listed.{has_balanced_ends}
use Rattle.mono_flows.proofs.Balances.{not_marked, flow_answer}
use Rattle.mono_flows.proofs.checker.is_flow_in.Goals as goal

pub returns-then-not-mark_edges-clause-passes : goal.returns-then-not-mark_edges-clause-passes
returns-then-not-mark_edges-clause-passes c =
    let n = c.args.network.now in
    not_marked n.graph.now n.part.now n.source n.sink c.args.least c.args.amounts.now c.requires.known (sym c.mark_edges.ensures.passes ∙ c.if-not-mark_edges.true)

pub returns-then-are_balanced-clause-passes : goal.returns-then-are_balanced-clause-passes
returns-then-are_balanced-clause-passes c =
    let n = c.args.network.now in
    let leaving : List ℕ = c.add_amounts.new.self.leaving.items in
    let entering : List ℕ = c.add_amounts.new.self.entering.items in
    let balanced : list_all (has_balanced_ends n.graph.now leaving entering n.source n.sink) c.args.amounts.now ≡ true = sym c.are_balanced.ensures ∙ c.if-are_balanced.true in
    c.is_enough_at.ensures
    ∙ (ap (λ (z : ℤ). int_le z (pos (get_or leaving n.source 0) -ℤ pos (get_or entering n.source 0))) (to_z-of_z w64 c.args.least c.ranges.least)
    ∙ (sym (ap (λ (b : Bool). b && int_le c.args.least (pos (get_or leaving n.source 0) -ℤ pos (get_or entering n.source 0))) balanced)
    ∙ flow_answer n.graph.now n.part.now n.source n.sink c.args.least c.args.amounts.now leaving entering c.known.ensures.graph.ends c.requires.known (sym c.mark_edges.ensures.passes ∙ c.if-not-mark_edges.false)
    (record { leaving = c.add_amounts.ensures.listed.leaving; entering = c.add_amounts.ensures.listed.entering })))

pub returns-else-are_balanced-clause-passes : goal.returns-else-are_balanced-clause-passes
returns-else-are_balanced-clause-passes c =
    let n = c.args.network.now in
    let leaving : List ℕ = c.add_amounts.new.self.leaving.items in
    let entering : List ℕ = c.add_amounts.new.self.entering.items in
    let unbalanced : list_all (has_balanced_ends n.graph.now leaving entering n.source n.sink) c.args.amounts.now ≡ false = sym c.are_balanced.ensures ∙ c.if-are_balanced.false in
    c.if-are_balanced.false
    ∙ (sym (ap (λ (b : Bool). b && int_le c.args.least (pos (get_or leaving n.source 0) -ℤ pos (get_or entering n.source 0))) unbalanced)
    ∙ flow_answer n.graph.now n.part.now n.source n.sink c.args.least c.args.amounts.now leaving entering c.known.ensures.graph.ends c.requires.known (sym c.mark_edges.ensures.passes ∙ c.if-not-mark_edges.false)
    (record { leaving = c.add_amounts.ensures.listed.leaving; entering = c.add_amounts.ensures.listed.entering }))

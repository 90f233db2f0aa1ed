use Rattle.std.proofs.Common.{refl, arith}
use Rattle.mono_theory.specs.Theories.{cut_to}
use Rattle.mono_theory.proofs.PossibleDue.{rows_first, target_first}
use Rattle.mono_theory.proofs.possible_rows.rows_of.Goals as goal

pub add_targets-requires-clause-targets : goal.add_targets-requires-clause-targets
add_targets-requires-clause-targets c =
    let before = rw (c.as_slice.ensures.value, c.nodes.ensures.count, c.graph-graph.ensures.graph) at c.in_ok-rows.ensures in
    rw c.as_slice-2.ensures.value
    (λ a lt. target_first c.args.frame.now.graph.nodes a c.in_ok-rows.rows before c.requires.own c.requires.targets c.requires.ends lt)

pub returns : goal.returns
returns c =
    let f = c.args.frame.now in
    let s = c.args.sources.now in
    let before = rw (c.as_slice.ensures.value, c.nodes.ensures.count, c.graph-graph.ensures.graph) at c.in_ok-rows.ensures in
    let asked = rw c.as_slice-2.ensures.value at c.in_ok-add_targets.ensures.asked in
    rows_first (cut_to 0 f) 0 f.graph.nodes s.rows.items s.row_of.items c.args.targets.now c.in_ok-rows.rows c.add_targets.new.rows
    before refl c.in_ok-add_targets.ensures.nodes c.in_ok-add_targets.ensures.filled c.requires.own c.requires.targets c.requires.ends asked (omega (arith, c.requires.few, c.known.ensures.few_atoms))

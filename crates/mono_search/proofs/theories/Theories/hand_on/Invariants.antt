use Rattle.std.proofs.Common.{◌≡◌, ◌-◌, length}
use Rattle.mono_theory.specs.Owners.{facts_of}
use Rattle.mono_search.specs.Theories.{TheoriesView, AreTheoryTables, HaveSeen, having_seen}
use Rattle.mono_search.proofs.theories.Theories.hand_on.Given as goal

abbrev pub invariant-loop-self : goal.invariant-loop-self
invariant-loop-self g l =
    let t = g.T.Theory in
    let now : TheoriesView = record { problem = l.self-inside.problem.now; facts = facts_of t.graph t.atoms t.seen l.self-inside.theories.items; handed = l.self-inside.handed; given = l.self-inside.given } in
    record {
      kept : AreTheoryTables now.problem now.facts l.self-inside.concerned l.self-inside.owners.items l.self-inside.counts.items l.self-inside.worklist.listed;
      shown : HaveSeen now l.lits;
      from : now ≡ having_seen l.fn.self l.lits l.self-inside.handed;
    }

abbrev pub decreases-loop-self : goal.decreases-loop-self
decreases-loop-self g l = length l.lits - l.self-inside.handed

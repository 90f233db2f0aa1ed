use Rattle.std.proofs.Common.{◌≡◌, length}
use Rattle.mono_theory.specs.Owners.{facts_of}
use Rattle.mono_search.specs.TheoryLists.{OthersAreQuiet, AreOwners}
use Rattle.mono_search.proofs.asking.force_any.Given as goal

abbrev pub invariant-loop-place : goal.invariant-loop-place
invariant-loop-place g l =
    let t = g.T.Theory in
    let facts = facts_of t.graph t.atoms t.seen l.fn.theories.items in
    record {
      others : OthersAreQuiet facts l.worklist.listed;
      known : AreOwners facts l.owners.items;
      same : facts_of t.graph t.atoms t.seen l.theories.items ≡ facts;
    }

abbrev pub decreases-loop-place : goal.decreases-loop-place
decreases-loop-place g l = length l.worklist.places

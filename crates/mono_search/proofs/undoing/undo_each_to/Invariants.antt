use Rattle.std.proofs.Common.{drop}
use Rattle.mono_theory.specs.Owners.{facts_of}
use Rattle.mono_search.proofs.TakenBack.{IsUndoing}
use Rattle.mono_search.proofs.undoing.undo_each_to.Given as goal

abbrev pub invariant-loop-place : goal.invariant-loop-place
invariant-loop-place g l =
    let t = g.T.Theory in
    let facts = facts_of t.graph t.atoms t.seen in
    record { undoing : IsUndoing (facts l.fn.theories.items) l.lits l.kept (facts l.theories.items) l.counts.items (drop l.place-index l.place-items) }

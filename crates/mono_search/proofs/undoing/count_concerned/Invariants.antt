use Rattle.std.proofs.Common.{◌≡◌, take, map, length}
use Rattle.mono_theory.specs.Owners.{facts_of}
use Rattle.mono_search.specs.TheoryLists.{AreListed, concerning}
use Rattle.mono_search.proofs.undoing.count_concerned.Given as goal

abbrev pub invariant-loop-lit : goal.invariant-loop-lit
invariant-loop-lit g l =
    let t = g.T.Theory in
    record {
      counts : l.counts.items ≡ map (λ f. length (concerning f (take l.lit-index l.lits))) (facts_of t.graph t.atoms t.seen l.theories);
      listed : AreListed l.counts.items l.fn.worklist.listed l.worklist.listed;
    }

use Rattle.std.proofs.Common.{◌≡◌, length}
use Rattle.mono_theory.specs.Owners.{facts_of}
use Rattle.mono_search.proofs.asking.any_unit_lemma.Given as goal

abbrev pub invariant-loop-place : goal.invariant-loop-place
invariant-loop-place g l =
    let t = g.T.Theory in
    record {
      count : length l.theories.items ≡ length l.fn.theories.items;
      same : facts_of t.graph t.atoms t.seen l.theories.items ≡ facts_of t.graph t.atoms t.seen l.fn.theories.items;
    }

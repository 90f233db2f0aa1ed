use Rattle.std.proofs.Common.{◌∙◌, ◌<◌, length, sym, arith}
use Rattle.std.proofs.lemmas.List.{length-map, length-set}
use Rattle.mono_theory.specs.Owners.{fact_of, facts_of}
use Rattle.mono_search.proofs.Sweeps.{same_read, same_write}
use Rattle.mono_search.proofs.asking.any_unit_lemma.Goals as goal

pub returns-in_err-unit-clause-same : goal.returns-in_err-unit-clause-same
returns-in_err-unit-clause-same g c =
    let t = g.T.Theory in
    same_write (fact_of t.graph t.atoms t.seen) _ _ c.loop-place.place c.index_mut-theory.result.now c.unit_lemma_of.new.theory c.loop-place.invariant.same c.index_mut-theory.ensures.value c.unit_lemma_of.ensures.same

pub returns-in-Some-clause-same : goal.returns-in-Some-clause-same
returns-in-Some-clause-same g c =
    let t = g.T.Theory in
    same_write (fact_of t.graph t.atoms t.seen) _ _ c.loop-place.place c.index_mut-theory.result.now c.unit_lemma_of.new.theory c.loop-place.invariant.same c.index_mut-theory.ensures.value c.unit_lemma_of.ensures.same

pub returns-in-Some-clause-lemma : goal.returns-in-Some-clause-lemma
returns-in-Some-clause-lemma g c =
    let t = g.T.Theory in
    let fact = fact_of t.graph t.atoms t.seen in
    let its = rw c.in-Some.is at c.in_ok-unit.ensures.lemma in
    let read = same_read fact _ _ c.loop-place.place c.index_mut-theory.result.now c.loop-place.invariant.same c.index_mut-theory.ensures.value in
    let lt : c.loop-place.place < length (facts_of t.graph t.atoms t.seen c.args.theories.now.items) = omega (arith, length-map c.args.theories.now.items fact) in
    (c.loop-place.place, fact c.index_mut-theory.result.now, lt, sym read, its)

pub loop-place-preserved : goal.loop-place-preserved
loop-place-preserved g c =
    let t = g.T.Theory in
    record {
      count = length-set c.loop-place.theories.items c.loop-place.place c.unit_lemma_of.new.theory ∙ c.loop-place.invariant.count;
      same = same_write (fact_of t.graph t.atoms t.seen) _ _ c.loop-place.place c.index_mut-theory.result.now c.unit_lemma_of.new.theory c.loop-place.invariant.same c.index_mut-theory.ensures.value c.unit_lemma_of.ensures.same;
    }

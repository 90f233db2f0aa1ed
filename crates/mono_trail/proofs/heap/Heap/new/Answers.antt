use Rattle.std.proofs.Common.{arith, ◌∙◌, ap, sym}
use Rattle.std.proofs.lemmas.List.FromFn.{length-range_with_len}
use Rattle.mono_base.specs.Ranking.{RankingView}
use Rattle.mono_base.proofs.Rankings.{inverse_new}
use Rattle.mono_trail.specs.Heap.{waits_of}
use Rattle.mono_trail.proofs.Heaps.{all_wait_new}
use Rattle.mono_trail.proofs.heap.Heap.new.Goals as goal

pub invariant_of-result : goal.invariant_of-result
invariant_of-result c =
    let vars = c.args.vars in
    rw (c.in_ok-ranking.ensures, c.in_ok-activities.ensures) (record {
      inverse = inverse_new vars;
      within = omega (arith, length-range_with_len 0 vars);
      scored = sym (length-range_with_len 0 vars);
      few = omega (arith, length-range_with_len 0 vars, c.requires);
    })

pub returns : goal.returns
returns c = ap (λ (r : RankingView). waits_of c.args.vars r.places) c.in_ok-ranking.ensures ∙ all_wait_new c.args.vars

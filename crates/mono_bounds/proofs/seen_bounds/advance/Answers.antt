use Rattle.std.proofs.Common.{arith, sym, ap, ◌∙◌}
use Rattle.mono_bounds.specs.Bound.{Bound}
use Rattle.mono_bounds.proofs.BoundsStay.{one_on}
use Rattle.mono_bounds.proofs.SpansStay.{spans_over}
use Rattle.mono_bounds.proofs.seen_bounds.advance.Goals as goal

pub bounds-spans-at : goal.bounds-spans-at
bounds-spans-at c = omega (arith, c.requires.spans.len, c.loop-at-test.true)

pub assign_at-requires : goal.assign_at-requires
assign_at-requires c =
    let inv = c.loop-at.invariant in
    (spans_over {c = c.loop-at.bounds} inv.bounds.vars inv.places c.requires.spans).each c.loop-at.at c.index-lits-at.result c.loop-at-test.true (sym c.index-lits-at.is)

pub loop-at-preserved : goal.loop-at-preserved
loop-at-preserved c =
    let inv = c.loop-at.invariant in
    record {
      places = ap (λ (b : Bound). b.places) c.assign_at.ensures ∙ inv.places;
      bounds = rw c.assign_at.ensures (one_on c.loop-at.bounds c.args.bounds.now.vars c.args.lits.now c.loop-at.at c.index-lits-at.result c.loop-at-test.true (sym c.index-lits-at.is) c.requires.partial inv.bounds);
    }

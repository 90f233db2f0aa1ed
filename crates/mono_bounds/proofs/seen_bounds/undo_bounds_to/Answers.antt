use Rattle.std.proofs.Common.{◌≡◌, ◌<◌, ◌+◌, ◌-◌, sym, ap, take, arith, subst, ℕ, ◌∙◌}
use Rattle.mono_bounds.specs.Bound.{Bound, IsBoundUnder}
use Rattle.mono_bounds.proofs.BoundsStay.{one_back}
use Rattle.mono_bounds.proofs.SpansStay.{spans_over}
use Rattle.mono_bounds.proofs.seen_bounds.undo_bounds_to.Goals as goal

pub bounds-spans-at : goal.bounds-spans-at
bounds-spans-at c = omega (arith, c.requires.spans.len, c.back.invariant.high, c.back-test.true)

pub undo_at-requires : goal.undo_at-requires
undo_at-requires c =
    let inv = c.back.invariant in
    (spans_over {c = c.back.bounds} inv.bounds.vars inv.places c.requires.spans).each (c.back.at - 1) c.index-lits-at.result (omega (arith, c.back-test.true, inv.high)) (sym c.index-lits-at.is)

pub back-preserved : goal.back-preserved
back-preserved c =
    let inv = c.back.invariant in
    let past : c.args.kept < c.back.at = omega (arith, c.back-test.true) in
    let more : c.back.at ≡ c.back.at - 1 + 1 = omega (arith, past) in
    let held : IsBoundUnder c.back.bounds c.args.bounds.now.vars (take (c.back.at - 1 + 1) c.args.lits.now) = subst (λ (k : ℕ). IsBoundUnder c.back.bounds c.args.bounds.now.vars (take k c.args.lits.now)) more inv.bounds in
    record {
      low = omega (arith, past);
      high = omega (arith, inv.high);
      places = ap (λ (b : Bound). b.places) c.undo_at.ensures ∙ inv.places;
      bounds = rw c.undo_at.ensures (one_back c.back.bounds c.args.bounds.now.vars c.args.lits.now (c.back.at - 1) c.index-lits-at.result (omega (arith, inv.high, past)) (sym c.index-lits-at.is) c.requires.partial held);
    }

use Rattle.std.proofs.Common.{◌≡◌, ◌<◌, ◌+◌, ◌-◌, ℕ, pos, take, get_or, arith, subst, ◌∙◌}
use Rattle.std.proofs.lemmas.List.{get_or_default}
use Rattle.mono_theory.specs.RowSides.{AreSettledBut}
use Rattle.mono_theory.proofs.RowsStay.{settled_back}
use Rattle.mono_theory.proofs.rows_side.undo_due_to.Goals as goal

pub back-preserved : goal.back-preserved
back-preserved c =
    let inv = c.back.invariant in
    let f = c.args.frame.now in
    let past : c.args.kept < c.back.at = omega (arith, c.back-test.true) in
    let more : c.back.at ≡ c.back.at - 1 + 1 = omega (arith, past) in
    record {
      low = omega (arith, past);
      high = omega (arith, inv.high);
      size = c.insert_all.ensures.as_many ∙ inv.size;
      due = λ possible shown h.
          settled_back f.seen (c.back.at - 1) (get_or f.seen (c.back.at - 1) (pos 0)) c.atoms_at.result.now possible f.atoms shown c.back.due.listed c.insert_all.new.self.listed (omega (arith, inv.high, past)) (get_or_default f.seen (c.back.at - 1) _ (pos 0) (omega (arith, inv.high, past))) c.atoms_at.ensures c.insert_all.ensures.as_many c.insert_all.ensures.each
          (subst (λ (k : ℕ). AreSettledBut (take k f.seen) possible f.atoms shown c.back.due.listed) more (inv.due possible shown h));
    }

pub returns : goal.returns
returns c = λ possible shown h.
    let last : c.back.at ≡ c.args.kept = omega (arith, c.back-test.false, c.back.invariant.low) in
    subst (λ (k : ℕ). AreSettledBut (take k c.args.frame.now.seen) possible c.args.frame.now.atoms shown c.back.due.listed) last (c.back.invariant.due possible shown h)

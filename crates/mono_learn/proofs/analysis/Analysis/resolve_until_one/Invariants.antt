use Rattle.std.proofs.Common.{◌≡◌, ◌≤◌, ℕ, length}
use Rattle.mono_trail.specs.TrailView.{IsSoundTrail}
use Rattle.mono_steps.specs.Steps.{clauses_after}
use Rattle.mono_learn.specs.Asked.{AsksFor}
use Rattle.mono_learn.specs.Reasons.{HasReasons}
use Rattle.mono_learn.specs.FirstPoint.{HasResolved}
use Rattle.mono_learn.specs.Resolving.{HasCome}
use Rattle.mono_learn.proofs.analysis.Analysis.resolve_until_one.Given as goal

abbrev pub invariant-loop-place : goal.invariant-loop-place
invariant-loop-place g l = record {
  start : l.self.start ≡ l.fn.self.start;
  by : l.by ≡ l.fn.by;
  asks : AsksFor l.problem l.fn.trail l.fn.journal l.trail l.journal;
  sound : IsSoundTrail l.trail;
  reasons : HasReasons l.problem (clauses_after l.problem l.journal) (g.E.Explainer.shown l.fn.by) l.trail;
  come : HasCome (clauses_after l.problem l.journal) l.trail.lits l.self.start l.place l.self.resolvent l.self.used.items;
  within : l.place ≤ length l.trail.lits;
  some : 1 ≤ l.self.resolvent.count;
  leads : (conflict : ℕ) → HasResolved (clauses_after l.problem l.fn.journal) l.fn.trail conflict l.fn.self.used.items → HasResolved (clauses_after l.problem l.journal) l.trail conflict l.self.used.items;
}

abbrev pub decreases-loop-place : goal.decreases-loop-place
decreases-loop-place g l = l.place

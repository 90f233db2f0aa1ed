use Rattle.std.proofs.Common.{ℕ, Option, sym, subst}
use Rattle.mono_dynamic.specs.Targets.{Targets, step_within, AreTold}
use Rattle.mono_dynamic.proofs.Lacking.{told_undone}
use Rattle.mono_dynamic.proofs.reached_targets.ReachedTargets.undo_to.Goals as goal

pub returns-clause-told : goal.returns-clause-told
returns-clause-told c = λ g parts n le t.
    let r : Targets = record { ways = c.self.inside.tree; targets = c.self.inside.targets.items; since = c.self.inside.since; lost = c.self.inside.lost } in
    subst (λ (o : Option ℕ). AreTold g parts c.args.kept (record { ways = r.ways; targets = r.targets; since = c.step_within-self-inside.result; lost = o })) (sym c.step_within-self-inside-2.ensures)
    (subst (λ (o : Option ℕ). AreTold g parts c.args.kept (record { ways = r.ways; targets = r.targets; since = o; lost = step_within r.lost c.args.kept })) (sym c.step_within-self-inside.ensures)
    (told_undone g parts n c.args.kept r le (subst (λ (s : Targets). AreTold g parts n s) (sym c.self.view_is) t)))

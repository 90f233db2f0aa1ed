use Rattle.std.proofs.Common.{◌∙◌, ap, length, List, ℕ, ◌++◌, ◌∷◌, []}
use Rattle.mono_steps.specs.Steps.{clauses_after}
use Rattle.mono_learn.proofs.PlacesOfLits.{is_number}
use Rattle.mono_learn.proofs.Learning.{fresh_counted, false_but, begins, begins_some}
use Rattle.mono_learn.proofs.Points.{leads_none}
use Rattle.mono_learn.proofs.analysis.Analysis.begin.Goals as goal

pub clause-requires-clause-low : goal.clause-requires-clause-low
clause-requires-clause-low c = (is_number (clauses_after c.args.problem.now c.args.journal.now) c.args.conflict c.requires.conflict.clause c.requires.conflict.is).low

pub clause-requires-clause-high : goal.clause-requires-clause-high
clause-requires-clause-high c = (is_number (clauses_after c.args.problem.now c.args.journal.now) c.args.conflict c.requires.conflict.clause c.requires.conflict.is).high

pub join_all-requires-clause-counted : goal.join_all-requires-clause-counted
join_all-requires-clause-counted c = fresh_counted (length c.args.trail.now.lits) c.args.self.now.start c.args.self.now.resolvent c.requires.fresh

pub join_all-requires-clause-are_false : goal.join_all-requires-clause-are_false
join_all-requires-clause-are_false c = false_but (clauses_after c.args.problem.now c.args.journal.now) c.args.trail.now.lits c.args.conflict c.clause.result.now c.literal-lit.result c.requires.conflict c.clause.ensures

pub returns-clause-come : goal.returns-clause-come
returns-clause-come c = begins (clauses_after c.args.problem.now c.args.journal.now) c.args.trail.now c.args.self.now.start c.args.conflict c.args.self.now.resolvent c.join_all.new.self c.clause.result.now c.literal-lit.result c.push.new.self.items c.requires.sound c.requires.start c.literal-lit.ensures c.requires.conflict c.clause.ensures c.requires.fresh c.in_ok-join_all.ensures (c.in_ok-push.ensures.items ∙ ap (λ (ns : List ℕ). ns ++ c.args.conflict ∷ []) c.requires.unused)

pub returns-clause-some : goal.returns-clause-some
returns-clause-some c = λ w one e. begins_some (clauses_after c.args.problem.now c.args.journal.now) c.args.trail.now c.args.self.now.start c.args.conflict c.args.self.now.resolvent c.join_all.new.self c.clause.result.now c.literal-lit.result c.push.new.self.items c.requires.sound one e c.requires.start c.literal-lit.ensures w c.clause.ensures c.requires.fresh c.in_ok-join_all.ensures (c.in_ok-push.ensures.items ∙ ap (λ (ns : List ℕ). ns ++ c.args.conflict ∷ []) c.requires.unused)

pub returns-clause-leads : goal.returns-clause-leads
returns-clause-leads c = leads_none (clauses_after c.args.problem.now c.args.journal.now) c.args.trail.now c.args.conflict c.push.new.self.items c.requires.conflict (c.in_ok-push.ensures.items ∙ ap (λ (ns : List ℕ). ns ++ c.args.conflict ∷ []) c.requires.unused)

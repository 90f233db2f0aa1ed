use Rattle.std.proofs.Common.{sym, subst, pos}
use Rattle.mono_graph.specs.declared.limit.Limit.TheVariants as limit
use Rattle.mono_rows.proofs.FoundRows.{AreReachedLabels, weighs_5, takes_2, not_1, not_4, not_above_4}
use Rattle.mono_rows.proofs.found.labels_of_reached_nodes.Goals as goal

pub returns-clause-weight : goal.returns-clause-weight
returns-clause-weight c = λ labels is. subst (AreReachedLabels (limit.Weight (pos 5))) (sym is) weighs_5

pub returns-clause-steps : goal.returns-clause-steps
returns-clause-steps c = λ labels is. subst (AreReachedLabels (limit.Steps (pos 5))) (sym is) takes_2

pub returns-clause-too_few : goal.returns-clause-too_few
returns-clause-too_few c = λ labels is r. not_1 (subst (AreReachedLabels (limit.Steps (pos 5))) is r)

pub returns-clause-too_low : goal.returns-clause-too_low
returns-clause-too_low c = λ labels is r. not_4 (subst (AreReachedLabels (limit.Weight (pos 5))) is r)

pub returns-clause-above_the_bound : goal.returns-clause-above_the_bound
returns-clause-above_the_bound c = λ labels is r. not_above_4 (subst (AreReachedLabels (limit.Weight (pos 4))) is r)

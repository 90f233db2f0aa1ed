use Rattle.mono_theory.proofs.StageChanges.{table_new}
use Rattle.mono_theory.proofs.stages.Stages.new.Goals as goal

pub invariant_of-result : goal.invariant_of-result
invariant_of-result c = rw (c.in_ok-ranking.ensures, c.in_ok-stages.ensures.items_if_clones_equal (λ y e. e)) (table_new c.args.atoms)

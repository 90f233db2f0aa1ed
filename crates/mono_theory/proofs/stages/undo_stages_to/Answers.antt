use Rattle.std.proofs.Common.{◌-◌, ℕ, ◌∙◌, arith, set, refl, sym, subst}
use Rattle.std.proofs.lemmas.List.{length-set}
use Rattle.mono_theory.specs.declared.stage.Stage.TheVariants as stage
use Rattle.mono_theory.specs.Stages.{AreRuns}
use Rattle.mono_theory.proofs.StageChanges.{none_later, runs_undone, undone_already}
use Rattle.mono_theory.proofs.stages.undo_stages_to.Goals as goal

pub loop-atom-init : goal.loop-atom-init
loop-atom-init c =
    let first = c.requires.runs.1 in
    record {
      as_many = c.requires.as_many;
      within = omega (arith, first.order, first.within);
      runs = λ border is. is;
      same = refl;
    }

pub loop-atom-preserved : goal.loop-atom-preserved
loop-atom-preserved c =
    let its = c.in-Some.ensures.some in
    let inv = c.loop-atom.invariant in
    let a = c.in-Some.atom in
    let stages = c.loop-atom.stages.items in
    record {
      as_many = length-set stages a stage.Waits ∙ inv.as_many;
      within = omega (arith, inv.within);
      runs = λ border is. subst (λ (b : ℕ). AreRuns c.args.ranking.now.items (set stages b stage.Waits) (c.loop-atom.left - 1) border) (sym its.1)
          (runs_undone c.requires.inverse inv.as_many (inv.runs border is) (let some = its.0 in omega (arith, some)));
      same = undone_already c.args.kept stages a its.2 ∙ inv.same;
    }

pub returns-clause-stages : goal.returns-clause-stages
returns-clause-stages c =
    let inv = c.loop-atom.invariant in
    sym (none_later c.args.kept c.requires.inverse inv.as_many (inv.runs c.requires.runs.0 c.requires.runs.1) c.in_default.ensures.none) ∙ inv.same

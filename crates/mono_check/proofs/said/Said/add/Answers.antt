use Rattle.std.proofs.Common.{◌+◌, ◌∷◌, ℕ, List, Option, length, sym, ap, ◌∙◌}
use Rattle.mono_answer.specs.declared.item.Item.{Item}
use Rattle.mono_check.specs.declared.said.Said.{Said}
use Rattle.mono_check.specs.Judges.{so_far}
use Rattle.mono_check.specs.Seen.{steps_kept}
use Rattle.mono_check.specs.SoFar.{behind_items}
use Rattle.mono_check.specs.Verdicts.{items_outcome}
use Rattle.mono_check.proofs.Versions.{items_one, values_next, steps_next, when_none}
use Rattle.mono_check.proofs.said.Said.add.Goals as goal
use Rattle.mono_check.proofs.said.Said.add.Goals.{in-OfModel, in-OfSteps+in_ok-fault-in-OfSteps}

pub returns-in-Nothing-clause-behind : goal.returns-in-Nothing-clause-behind
returns-in-Nothing-clause-behind c = λ ls.
    let p = c.args.problem.now in
    let next : List (ℕ × Option Item) = (c.args.number, c.args.item) ∷ ls in
    c.in_ok-self-in-Nothing.ensures.behind 1 ls ∙ ap (items_outcome p 1) (items_one (length p.clauses + 1) next) ∙ ap (λ (s : Said). behind_items p (so_far s) next) (sym c.in-Nothing.is)

pub returns-in-OfVersion-clause-behind : goal.returns-in-OfVersion-clause-behind
returns-in-OfVersion-clause-behind c = λ ls.
    let p = c.args.problem.now in
    let next : List (ℕ × Option Item) = (c.args.number, c.args.item) ∷ ls in
    c.in_ok-self-in-OfVersion.ensures.behind c.in-OfVersion.line ls ∙ ap (λ (s : Said). behind_items p (so_far s) next) (sym c.in-OfVersion.is)

pub returns-in_default-clause-behind : goal.returns-in_default-clause-behind
returns-in_default-clause-behind c = λ ls.
    let p = c.args.problem.now in
    let n = c.args.number in
    let i = c.args.item in
    let next : List (ℕ × Option Item) = (n, i) ∷ ls in
    elim c.match-self.branch [
      | in-OfModel w ↦
          let none = sym w.fault-is ∙ c.in_default.is in
          ap (λ (s : Said). behind_items p (so_far s) ls) w.self-is
          ∙ values_next p w.in-OfModel.status n w.in-OfModel.values w.add-fault.new.self i (sym none ∙ w.add-fault.ensures.fault) (when_none w.add-fault.result none w.add-fault.ensures.behind) ls
          ∙ ap (λ (s : Said). behind_items p (so_far s) next) (sym w.in-OfModel.is)
      | in-OfSteps+in_ok-fault-in-OfSteps w ↦
          let s = w.in-OfSteps in
          let none = sym w.fault-is ∙ c.in_default.is in
          ap (λ (t : Said). behind_items p (so_far t) ls) w.self-is
          ∙ steps_next p s.version s.refutes (steps_kept s.status s.steps) (steps_kept s.status w.add.new.self) n i (sym none ∙ w.in_ok-fault-in-OfSteps.ensures.fault) (when_none w.in_ok-fault-in-OfSteps.fault none w.in_ok-fault-in-OfSteps.ensures.more s.status) ls
          ∙ ap (λ (t : Said). behind_items p (so_far t) next) (sym s.is)
    ]

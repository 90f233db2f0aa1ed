use Rattle.std.proofs.Common.{◌∙◌, ℕ, Option, subst}
use Rattle.std.specs.Prelude.{unwrap_or}
use Rattle.mono_base.specs.Literal.{value_in}
use Rattle.mono_check.specs.Atoms.{IsWrongAtom}
use Rattle.mono_check.specs.Values.{model_of}
use Rattle.mono_check.proofs.ModelEnds.{clause_is_false, atom_is_wrong, all_agree}
use Rattle.mono_check.proofs.values.Values.verdict.Goals as goal

pub returns-in-Some-first_false_clause : goal.returns-in-Some-first_false_clause
returns-in-Some-first_false_clause c =
    let p = c.args.problem.now in
    let values = model_of p c.args.self.now.set.members in
    clause_is_false p c.args.self.now.end (unwrap_or c.args.self.now.last c.args.status) c.in-Some.line c.in-Some-first_false_clause.clause values c.as_slice-model.result.now c.in-Some.is
    (c.as_slice-model.ensures.value ∙ c.in_ok-model.ensures.values) c.in-Some-first_false_clause.ensures

pub returns-in-Some-2 : goal.returns-in-Some-2
returns-in-Some-2 c =
    let p = c.args.problem.now in
    let values = model_of p c.args.self.now.set.members in
    atom_is_wrong p c.args.self.now.end (unwrap_or c.args.self.now.last c.args.status) c.in-Some.line c.in-Some-2.atom values c.as_slice-model.result.now c.in-Some.is
    (c.as_slice-model.ensures.value ∙ c.in_ok-model.ensures.values) c.in_default-first_false_clause.ensures
    (subst (λ (o : Option ℕ). IsWrongAtom p (value_in c.as_slice-model.result.now) o) c.in-Some-2.is c.in_ok-atom.ensures)

pub returns : goal.returns
returns c =
    let p = c.args.problem.now in
    let values = model_of p c.args.self.now.set.members in
    all_agree p c.args.self.now.end (unwrap_or c.args.self.now.last c.args.status) c.in-Some.line values c.as_slice-model.result.now c.in-Some.is
    (c.as_slice-model.ensures.value ∙ c.in_ok-model.ensures.values) c.in_default-first_false_clause.ensures
    (subst (λ (o : Option ℕ). IsWrongAtom p (value_in c.as_slice-model.result.now) o) c.in-None.is c.in_ok-atom.ensures)

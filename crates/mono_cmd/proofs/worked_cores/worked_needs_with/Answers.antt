use Rattle.std.proofs.Common.{◌≡◌, ◌≤◌, ℕ, false, true, List, Option, length, codes, refl, subst, arith}
use Rattle.std.specs.Prelude.{IsSomeAnd}
use Rattle.mono_base.specs.declared.limits.TheConstants.{MAX_INPUT_BYTES}
use Rattle.mono_problem.specs.Assuming.{HasRoom}
use Rattle.mono_problem.specs.Instance.{Instance}
use Rattle.mono_gnf.specs.Stands.{Stands}
use Rattle.mono_cmd.specs.Worked.{empty_problem}
use Rattle.mono_cmd.proofs.UnknownWord.{unknown}
use Rattle.mono_forms.proofs.Replies.{same_problem}
use Rattle.mono_cmd.proofs.worked_cores.worked_needs_with.Goals as goal

pub returns-clause-no_answer : goal.returns-clause-no_answer
returns-clause-no_answer c = λ h. let e : false ≡ true = h.1 (omega arith, (empty_problem, (refl, refl), record { clauses = omega arith; literals = omega arith })) in cc

pub returns-clause-no_answer_needed : goal.returns-clause-no_answer_needed
returns-clause-no_answer_needed c = (refl, λ reached. absurd (unknown reached.1.1.0))

pub returns-clause-no_room : goal.returns-clause-no_room
returns-clause-no_room c = λ texts file text p lits told stands none reached.
    let at = subst (λ (o : Option (List ℕ)). IsSomeAnd o (λ t. (length t ≤ MAX_INPUT_BYTES) × ((q : Instance) × Stands t q × HasRoom q lits))) told reached in
    none (subst (λ (q : Instance). HasRoom q lits) (same_problem text at.1.0 p at.1.1 stands) at.1.2)

pub returns-clause-runs : goal.returns-clause-runs
returns-clause-runs c = record { file = codes "f"; is = refl; text = codes ""; told = refl; stands = (refl, refl) }

pub returns-clause-other_literals : goal.returns-clause-other_literals
returns-clause-other_literals c = λ h. let e = h.is in cc

pub returns-clause-wrote : goal.returns-clause-wrote
returns-clause-wrote c = record {
  file = codes "f";
  answer = codes "a";
  is = refl;
  text = codes "";
  told = refl;
  stands = (refl, refl);
  there = codes "x";
  held = refl;
  wrote = refl;
}

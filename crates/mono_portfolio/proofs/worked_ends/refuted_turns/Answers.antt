use Rattle.std.proofs.Common.{◌≡◌, ℕ, ◌<◌, true, false, List, [], ◌∷◌, length, refl, ap, arith, length-append}
use Rattle.std.specs.Prelude.{IsTrue}
use Rattle.std.proofs.lemmas.List.{length-map}
use Rattle.mono_problem.specs.Instance.{Instance}
use Rattle.mono_steps.specs.declared.step.Step.{Step}
use Rattle.mono_steps.specs.Steps.{is_refutation}
use Rattle.mono_steps.specs.WorkedLemmas.{chain}
use Rattle.mono_search.specs.Worked.{both_signs, first_learned}
use Rattle.mono_portfolio.specs.Ends.{IsRefutedTurn}
use Rattle.mono_portfolio.specs.Extended.{extended}
use Rattle.mono_portfolio.specs.Moved.{moved, moved_step}
use Rattle.mono_portfolio.proofs.worked_ends.refuted_turns.Goals as goal

pub returns-clause-alone : goal.returns-clause-alone
returns-clause-alone c = record {
  steps = chain [] (1 ∷ 2 ∷ []) ∷ [];
  trim = record { refutes = refl; named = λ k lt. absurd (omega (arith, lt)); short = omega arith };
  is = refl;
  refutes = refl;
}

pub returns-clause-renumbered : goal.returns-clause-renumbered
returns-clause-renumbered c = record {
  steps = chain [] (3 ∷ 4 ∷ []) ∷ [];
  trim = record { refutes = refl; named = λ k lt. absurd (omega (arith, lt)); short = omega arith };
  is = refl;
  refutes = refl;
}

pub returns-clause-no_refutation : goal.returns-clause-no_refutation
returns-clause-no_refutation c = λ h. let e : false ≡ true = h.refutes in cc

-- what refutes is not nothing
some : (p : Instance) (steps : List Step) → IsTrue (is_refutation p steps) → 0 < length steps
some p [] refutes = absurd cc
some p (s ∷ ss) refutes = omega arith

longer : (p : Instance) (taken : List ℕ) (before board : List Step) → IsRefutedTurn p taken before board → length before < length board
longer p taken before board h =
    omega (
      arith,
      some (extended p before taken) h.steps h.trim.refutes,
      ap (λ (b : List Step). length b) h.is,
      length-append before (moved p h.steps taken before),
      length-map h.steps (moved_step (length p.clauses) taken (length before)),
    )

pub returns-clause-nothing_given : goal.returns-clause-nothing_given
returns-clause-nothing_given c = λ p taken board h. let lt = longer p taken board board h in omega (arith, lt)

pub returns-clause-another_beginning : goal.returns-clause-another_beginning
returns-clause-another_beginning c = λ h. let lt = longer both_signs [] first_learned (chain [] (1 ∷ 2 ∷ []) ∷ []) h in omega (arith, lt)

pub returns-clause-none_idle : goal.returns-clause-none_idle
returns-clause-none_idle c = λ p taken before board h. (h.steps, h.trim, h.is)

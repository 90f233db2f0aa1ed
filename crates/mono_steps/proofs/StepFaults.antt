-- A step is justified exactly where its labels and amounts are small and it has no fault.
use Rattle.std.proofs.Common.{◌≡◌, List, None, refl, ◌↔◌, ℤ}
use Rattle.std.specs.Prelude.{IsTrue}
use Rattle.mono_problem.specs.Instance.{Instance}
use Rattle.mono_steps.specs.declared.step.Step.{Step}
use Rattle.mono_steps.specs.declared.step.Step.TheVariants as step
use Rattle.mono_steps.specs.Steps.{is_justified_step, is_small_step, step_fault}
use Rattle.mono_steps.proofs.ChainFaults.{no_fault_in}
use Rattle.mono_steps.proofs.LemmaFaults.{justified_no_fault}

pub justified_without_fault : (p : Instance) (earlier : List (List ℤ)) (s : Step) → IsTrue (is_justified_step p earlier s) ↔ (IsTrue (is_small_step s) × (step_fault p earlier s ≡ None))
justified_without_fault p earlier (step.Lemma l) = justified_no_fault p l
justified_without_fault p earlier (step.Chain c) = let no_fault = no_fault_in p earlier c in (λ j. (refl, no_fault.1 j), λ h. no_fault.0 h.1)

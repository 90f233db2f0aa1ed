use Rattle.std.proofs.Common.{◌≡◌, ◌≤◌, ◌⊎◌, refl, arith, inl, inr}
use Rattle.mono_base.specs.declared.limits.TheConstants.{MAX_INPUT_BYTES}
use Rattle.mono_forms.specs.declared.status.Status.TheVariants as status
use Rattle.mono_cmd.proofs.worked_counted.worked_completing.Goals as goal

pub returns-clause-printed : goal.returns-clause-printed
returns-clause-printed c = record {
  steady = λ sure held is. let same : status.Printed ≡ status.ReadFault = is in cc;
  complete = λ sure held write memory. inl refl;
}

pub returns-clause-fault_over_what_is_there : goal.returns-clause-fault_over_what_is_there
returns-clause-fault_over_what_is_there c = λ text long h. h.steady refl refl refl

-- what is too long is neither printed nor refused
neither : (status.TooLong ≡ status.Printed) ⊎ (status.TooLong ≡ status.Refused) → ⊥
neither (inl printed) = cc
neither (inr refused) = cc

pub returns-clause-too_long_within_the_limit : goal.returns-clause-too_long_within_the_limit
returns-clause-too_long_within_the_limit c = λ h.
    let within : 0 ≤ MAX_INPUT_BYTES = omega arith in
    neither (h.complete refl within (λ is. let same : status.TooLong ≡ status.WriteFault = is in cc) (λ is. let same : status.TooLong ≡ status.Memory = is in cc))

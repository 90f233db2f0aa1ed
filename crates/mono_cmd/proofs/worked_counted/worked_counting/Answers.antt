use Rattle.std.proofs.Common.{◌≡◌, ◌≤◌, ◌+◌, ℕ, List, [], length, Option, Some, refl, ap, arith, inl, inr}
use Rattle.std.specs.Prelude.{unwrap_or}
use Rattle.std.proofs.lemmas.Option.{same_Some}
use Rattle.mono_base.specs.declared.limits.TheConstants.{MAX_ANSWER_BYTES, MAX_INPUT_BYTES}
use Rattle.mono_words.specs.declared.command.TheConstants.{MAX_MIGRATED_BYTES}
use Rattle.mono_forms.specs.declared.status.Status.TheVariants as status
use Rattle.mono_cmd.proofs.worked_counted.worked_counting.Goals as goal

pub returns-clause-no_command : goal.returns-clause-no_command
returns-clause-no_command c = record {
  read_fault = λ is. absurd (let same : status.Words ≡ status.ReadFault = is in cc);
  no_read_fault = λ read write. refl;
  memory = λ is. absurd (let same : status.Words ≡ status.Memory = is in cc);
  given_up = λ is. absurd (let same : status.Words ≡ status.Memory = is in cc);
  begun = let none : 0 ≤ 0 = omega arith in none;
  too_long = λ is. absurd (let same : status.Words ≡ status.TooLong = is in cc);
}

pub returns-clause-fault_without_a_failed_call : goal.returns-clause-fault_without_a_failed_call
returns-clause-fault_without_a_failed_call c = λ h. let failed : 0 ≡ 1 = h.read_fault refl in omega (arith, failed)

pub returns-clause-failed_call_without_a_fault : goal.returns-clause-failed_call_without_a_fault
returns-clause-failed_call_without_a_fault c = λ h.
    let failed : 1 ≡ 0 = h.no_read_fault (λ is. let same : status.Words ≡ status.ReadFault = is in cc) (λ is. let same : status.Words ≡ status.WriteFault = is in cc) in
    omega (arith, failed)

pub returns-clause-written_without_memory : goal.returns-clause-written_without_memory
returns-clause-written_without_memory c = λ k h.
    let longer : 2 ≡ 1 = ap (λ (o : Option (List ℕ)). length (unwrap_or o [])) (h.memory refl) in
    omega (arith, longer)

pub returns-clause-no_command_without_memory : goal.returns-clause-no_command_without_memory
returns-clause-no_command_without_memory c = λ h. h.given_up refl

pub returns-clause-begun_twice : goal.returns-clause-begun_twice
returns-clause-begun_twice c = λ h. let few : 2 ≤ 1 = h.begun in omega (arith, few)

-- no place behind a limit is 0
behind : (limit : ℕ) → ◌≡◌ {A = Option ℕ} (Some 0) (Some (limit + 1)) → ⊥
behind limit is = let same : 0 ≡ limit + 1 = same_Some {A = ℕ} 0 (limit + 1) is in omega (arith, same)

pub returns-clause-too_long_at_0 : goal.returns-clause-too_long_at_0
returns-clause-too_long_at_0 c = λ h. elim (h.too_long refl) [
  | inl file ↦ behind MAX_INPUT_BYTES file
  | inr rest ↦ elim rest [ inl given ↦ behind MAX_ANSWER_BYTES given | inr migrated ↦ behind MAX_MIGRATED_BYTES migrated ]
]

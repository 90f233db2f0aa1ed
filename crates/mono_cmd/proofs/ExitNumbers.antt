-- Numbers with which no process exits, or not after so many failed writes, for rows that are worked out.
use Rattle.std.proofs.Common.{◌≡◌, ◌⊎◌, ℕ, List, Option, None, ap, arith, refl, subst, sym, ◌∙◌, inl, inr}
use Rattle.mono_io.specs.Faults.{counted}
use Rattle.mono_io.specs.Shelf.{ShelfView}
use Rattle.mono_forms.specs.declared.status.Status.{Status}
use Rattle.mono_forms.specs.declared.status.Status.TheVariants as status
use Rattle.mono_forms.specs.declared.ending.Ending.{Ending}
use Rattle.mono_forms.specs.Endings.{status_of}
use Rattle.mono_cmd.specs.Machines.{HasRun, Machine}
use Rattle.mono_forms.specs.Runs.{ComesTo, Ends, IsOutOfMemory, Writes}
use Rattle.mono_forms.specs.Statuses.{code_of}
use Rattle.mono_words.specs.declared.command.Command.{Command}
use Rattle.mono_forms.proofs.Stages.{ends_cases}

-- the one status of this number
refused_alone : (s : Status) → 3 ≡ code_of s → s ≡ status.Refused
refused_alone status.Satisfiable is = absurd (let number : 3 ≡ 10 = is in omega (arith, number))
refused_alone status.Unsatisfiable is = absurd (let number : 3 ≡ 20 = is in omega (arith, number))
refused_alone status.Unknown is = absurd (let number : 3 ≡ 0 = is in omega (arith, number))
refused_alone status.Accepted is = absurd (let number : 3 ≡ 0 = is in omega (arith, number))
refused_alone status.Printed is = absurd (let number : 3 ≡ 0 = is in omega (arith, number))
refused_alone status.Rejected is = absurd (let number : 3 ≡ 1 = is in omega (arith, number))
refused_alone status.Words is = absurd (let number : 3 ≡ 2 = is in omega (arith, number))
refused_alone status.Refused is = refl
refused_alone status.ReadFault is = absurd (let number : 3 ≡ 4 = is in omega (arith, number))
refused_alone status.WriteFault is = absurd (let number : 3 ≡ 5 = is in omega (arith, number))
refused_alone status.Memory is = absurd (let number : 3 ≡ 6 = is in omega (arith, number))
refused_alone status.TooLong is = absurd (let number : 3 ≡ 7 = is in omega (arith, number))

no_status : (s : Status) → 8 ≡ code_of s → ⊥
no_status status.Satisfiable is = let number : 8 ≡ 10 = is in omega (arith, number)
no_status status.Unsatisfiable is = let number : 8 ≡ 20 = is in omega (arith, number)
no_status status.Unknown is = let number : 8 ≡ 0 = is in omega (arith, number)
no_status status.Accepted is = let number : 8 ≡ 0 = is in omega (arith, number)
no_status status.Printed is = let number : 8 ≡ 0 = is in omega (arith, number)
no_status status.Rejected is = let number : 8 ≡ 1 = is in omega (arith, number)
no_status status.Words is = let number : 8 ≡ 2 = is in omega (arith, number)
no_status status.Refused is = let number : 8 ≡ 3 = is in omega (arith, number)
no_status status.ReadFault is = let number : 8 ≡ 4 = is in omega (arith, number)
no_status status.WriteFault is = let number : 8 ≡ 5 = is in omega (arith, number)
no_status status.Memory is = let number : 8 ≡ 6 = is in omega (arith, number)
no_status status.TooLong is = let number : 8 ≡ 7 = is in omega (arith, number)

-- words that are no command aren't refused
not_refused : (old new : ShelfView) (e : Ending) (before now : Option (List ℕ)) → Ends None old new e → Writes e status.Refused before now → ⊥
not_refused old new e before now ends writes = by_case (ends_cases None old new e ends)
  where
    by_case : IsOutOfMemory None old new ⊎ ComesTo None old new e → ⊥
    by_case (inl out) = out
    by_case (inr comes) = absurd (let same : status.Refused ≡ status.Words = writes.0 ∙ ap status_of comes.0 in cc)

pub not_3 : (old new : Machine) → HasRun None old new 3 → ⊥
not_3 old new h =
    let run = h.run.runs in
    not_refused old.shelf new.shelf run.ending old.written new.written run.ends
    (subst (λ (s : Status). Writes run.ending s old.written new.written) (refused_alone h.status h.number) run.writes)

pub not_8 : (found : Option Command) (old new : Machine) → HasRun found old new 8 → ⊥
not_8 found old new h = no_status h.status h.number

-- ---- how often a write failed

write_fault_alone : (s : Status) → 5 ≡ code_of s → s ≡ status.WriteFault
write_fault_alone status.Satisfiable is = absurd (let number : 5 ≡ 10 = is in omega (arith, number))
write_fault_alone status.Unsatisfiable is = absurd (let number : 5 ≡ 20 = is in omega (arith, number))
write_fault_alone status.Unknown is = absurd (let number : 5 ≡ 0 = is in omega (arith, number))
write_fault_alone status.Accepted is = absurd (let number : 5 ≡ 0 = is in omega (arith, number))
write_fault_alone status.Printed is = absurd (let number : 5 ≡ 0 = is in omega (arith, number))
write_fault_alone status.Rejected is = absurd (let number : 5 ≡ 1 = is in omega (arith, number))
write_fault_alone status.Words is = absurd (let number : 5 ≡ 2 = is in omega (arith, number))
write_fault_alone status.Refused is = absurd (let number : 5 ≡ 3 = is in omega (arith, number))
write_fault_alone status.ReadFault is = absurd (let number : 5 ≡ 4 = is in omega (arith, number))
write_fault_alone status.WriteFault is = refl
write_fault_alone status.Memory is = absurd (let number : 5 ≡ 6 = is in omega (arith, number))
write_fault_alone status.TooLong is = absurd (let number : 5 ≡ 7 = is in omega (arith, number))

not_write_fault : (s : Status) → 2 ≡ code_of s → s ≡ status.WriteFault → ⊥
not_write_fault s is same = let number : 2 ≡ 5 = is ∙ ap code_of same in omega (arith, number)

-- a write fault, though no write failed
pub not_5 : (found : Option Command) (old new : Machine) → old.faults ≡ 0 → new.faults ≡ 0 → HasRun found old new 5 → ⊥
not_5 found old new before now h =
    let raised : new.faults ≡ counted old.faults = h.write_fault (write_fault_alone h.status h.number) in
    let number : 0 ≡ 1 = sym now ∙ (raised ∙ ap counted before) in
    omega (arith, number)

-- no write fault, though a write failed
pub not_2 : (found : Option Command) (old new : Machine) → old.faults ≡ 0 → new.faults ≡ 1 → HasRun found old new 2 → ⊥
not_2 found old new before now h =
    let same : new.faults ≡ old.faults = h.no_write_fault (not_write_fault h.status h.number) in
    omega (arith, same, before, now)

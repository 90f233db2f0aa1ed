-- A text that was written whole is what its ending's status asks for, but where no memory was found.
use Rattle.std.proofs.Common.{◌≡◌, ◌≢◌, ℕ, List, Option, refl, sym, ◌∙◌}
use Rattle.std.specs.Io.KnownBytes.{Appends}
use Rattle.mono_forms.specs.declared.status.Status.{Status}
use Rattle.mono_forms.specs.declared.status.Status.TheVariants as status
use Rattle.mono_forms.specs.declared.ending.Ending.{Ending}
use Rattle.mono_forms.specs.declared.ending.Ending.TheVariants as ending
use Rattle.mono_forms.specs.Endings.{answer_status, best_status, outcome_status, status_of, text_of, verdict_status}
use Rattle.mono_forms.specs.Runs.{Writes}
use Rattle.mono_forms.proofs.Replies.{answer_reply, best_reply, not_both, outcome_reply, verdict_reply}

-- no ending has the status of a write fault
no_write_fault : (e : Ending) → status_of e ≡ status.WriteFault → ⊥
no_write_fault ending.Words is = let same : status.Words ≡ status.WriteFault = is in cc
no_write_fault ending.ReadFault is = let same : status.ReadFault ≡ status.WriteFault = is in cc
no_write_fault ending.Memory is = let same : status.Memory ≡ status.WriteFault = is in cc
no_write_fault ending.TooLong is = let same : status.TooLong ≡ status.WriteFault = is in cc
no_write_fault (ending.Refused line fault) is = let same : status.Refused ≡ status.WriteFault = is in cc
no_write_fault (ending.Solved a) is = not_both (answer_status a) status.WriteFault is (answer_reply a) refl
no_write_fault (ending.Judged v) is = not_both (verdict_status v) status.WriteFault is (verdict_reply v) refl
no_write_fault (ending.Summed s) is = not_both (answer_status s.answer) status.WriteFault is (answer_reply s.answer) refl
no_write_fault (ending.Printed text) is = let same : status.Printed ≡ status.WriteFault = is in cc
no_write_fault (ending.Narrowed o) is = not_both (outcome_status o) status.WriteFault is (outcome_reply o) refl
no_write_fault (ending.Bounded o) is = not_both (best_status o) status.WriteFault is (best_reply o) refl
no_write_fault (ending.Unasked r) is = let same : status.Refused ≡ status.WriteFault = is in cc

-- one alone has that of want of memory
only_memory : (e : Ending) → e ≢ ending.Memory → status_of e ≡ status.Memory → ⊥
only_memory ending.Words other is = let same : status.Words ≡ status.Memory = is in cc
only_memory ending.ReadFault other is = let same : status.ReadFault ≡ status.Memory = is in cc
only_memory ending.Memory other is = other refl
only_memory ending.TooLong other is = let same : status.TooLong ≡ status.Memory = is in cc
only_memory (ending.Refused line fault) other is = let same : status.Refused ≡ status.Memory = is in cc
only_memory (ending.Solved a) other is = not_both (answer_status a) status.Memory is (answer_reply a) refl
only_memory (ending.Judged v) other is = not_both (verdict_status v) status.Memory is (verdict_reply v) refl
only_memory (ending.Summed s) other is = not_both (answer_status s.answer) status.Memory is (answer_reply s.answer) refl
only_memory (ending.Printed text) other is = let same : status.Printed ≡ status.Memory = is in cc
only_memory (ending.Narrowed o) other is = not_both (outcome_status o) status.Memory is (outcome_reply o) refl
only_memory (ending.Bounded o) other is = not_both (best_status o) status.Memory is (best_reply o) refl
only_memory (ending.Unasked r) other is = let same : status.Refused ≡ status.Memory = is in cc

by_status : (e : Ending) (s : Status) (before now : Option (List ℕ)) → (s ≡ status.WriteFault → ⊥) → (s ≡ status.Memory → ⊥) → s ≡ status_of e → Appends before now (text_of e)
    → Writes e s before now
by_status e status.WriteFault before now none other is w = absurd (none refl)
by_status e status.Memory before now none other is w = absurd (other refl)
by_status e s before now none other is w = (is, w)

pub writes_whole : (e : Ending) (s : Status) (before now : Option (List ℕ)) → e ≢ ending.Memory → s ≡ status_of e → Appends before now (text_of e) → Writes e s before now
writes_whole e s before now other is w =
    by_status e s before now (λ same. no_write_fault e (sym is ∙ same)) (λ same. only_memory e other (sym is ∙ same)) is w

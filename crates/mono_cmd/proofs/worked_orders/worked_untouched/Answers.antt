use Rattle.std.proofs.Common.{◌≡◌, ◌⊎◌, true, false, List, ℕ, [], Option, Some, None, codes, refl, ap, sym, subst, ◌∙◌, inl, inr, arith}
use Rattle.mono_words.specs.declared.command.Command.{Command}
use Rattle.mono_forms.specs.declared.status.Status.{Status}
use Rattle.mono_forms.specs.declared.status.Status.TheVariants as status
use Rattle.mono_cmd.specs.Machines.{HasRun, Machine, untouched}
use Rattle.mono_forms.specs.Statuses.{code_of}
use Rattle.mono_cmd.proofs.worked_orders.worked_untouched.Goals as goal

-- the one status of this number
memory_alone : (s : Status) → 6 ≡ code_of s → s ≡ status.Memory
memory_alone status.Satisfiable is = absurd (let number : 6 ≡ 10 = is in omega (arith, number))
memory_alone status.Unsatisfiable is = absurd (let number : 6 ≡ 20 = is in omega (arith, number))
memory_alone status.Unknown is = absurd (let number : 6 ≡ 0 = is in omega (arith, number))
memory_alone status.Accepted is = absurd (let number : 6 ≡ 0 = is in omega (arith, number))
memory_alone status.Printed is = absurd (let number : 6 ≡ 0 = is in omega (arith, number))
memory_alone status.Rejected is = absurd (let number : 6 ≡ 1 = is in omega (arith, number))
memory_alone status.Words is = absurd (let number : 6 ≡ 2 = is in omega (arith, number))
memory_alone status.Refused is = absurd (let number : 6 ≡ 3 = is in omega (arith, number))
memory_alone status.ReadFault is = absurd (let number : 6 ≡ 4 = is in omega (arith, number))
memory_alone status.WriteFault is = absurd (let number : 6 ≡ 5 = is in omega (arith, number))
memory_alone status.Memory is = refl
memory_alone status.TooLong is = absurd (let number : 6 ≡ 7 = is in omega (arith, number))

-- no run of words that are no command comes to want of memory
not_6 : (old new : Machine) → HasRun None old new 6 → ⊥
not_6 old new h = h.run.counts.given_up (memory_alone h.status h.number)

-- so it was wanting for the words
for_the_words : (Text : Type 0) (found : Option Command) (old new : Machine) → (new ≡ old → Text → ⊥) → found ≡ None
    → ((6 ≡ code_of status.Memory) × (new ≡ old) × Text) ⊎ HasRun found old new 6 → ⊥
for_the_words Text found old new refuted is (inl none) = refuted none.1 none.2
for_the_words Text found old new refuted is (inr run) = not_6 old new (subst (λ (c : Option Command). HasRun c old new 6) is run)

pub returns-clause-no_text_is_no_want_of_memory : goal.returns-clause-no_text_is_no_want_of_memory
returns-clause-no_text_is_no_want_of_memory c = λ new h.
    for_the_words (false ≡ true) h.command (untouched None [] 0 (Some [])) new (λ same text. let e : false ≡ true = text in cc) h.given h.exits

pub returns-clause-memory_behind_a_write : goal.returns-clause-memory_behind_a_write
returns-clause-memory_behind_a_write c = λ new written h.
    for_the_words (true ≡ true) h.command (untouched None [] 0 (Some [])) new
    (λ same text. let e : ◌≡◌ {A = Option (List ℕ)} (Some (codes "x")) (Some []) = sym written ∙ ap (λ (m : Machine). m.written) same in cc)
    h.given h.exits

pub returns-clause-shelf : goal.returns-clause-shelf
returns-clause-shelf c = refl

pub returns-clause-output : goal.returns-clause-output
returns-clause-output c = refl

pub returns-clause-no_failed_write : goal.returns-clause-no_failed_write
returns-clause-no_failed_write c = refl

use Rattle.std.proofs.Common.{◌≡◌, ◌⊎◌, Option, arith, refl, inl, inr}
use Rattle.mono_forms.specs.declared.asking.AskRefusal.TheVariants as refusal
use Rattle.mono_words.specs.declared.command.Command.{Command}
use Rattle.mono_forms.specs.declared.status.Status.TheVariants.{Memory}
use Rattle.mono_cmd.specs.Machines.{HasRun, Machine}
use Rattle.mono_forms.specs.Statuses.{code_of}
use Rattle.mono_cmd.proofs.worked_families.worked_shown.Goals as goal

pub returns-clause-no_predicate_to_ask : goal.returns-clause-no_predicate_to_ask
returns-clause-no_predicate_to_ask c = λ text p b stands none.
    inr (record { problem = p; stands = stands; unasked = record { refusal = refusal.BadAtom; right = none; is = refl } })

by_2 : (Text : Type 0) (found : Option Command) (old new : Machine) → ((2 ≡ code_of Memory) × (new ≡ old) × Text) ⊎ HasRun found old new 2
    → (other : Option Command) × HasRun other old new 2
by_2 Text found old new (inl none) = absurd (let number : 2 ≡ 6 = none.0 in omega (arith, number))
by_2 Text found old new (inr run) = (found, run)

pub returns-clause-run_before_the_exit : goal.returns-clause-run_before_the_exit
returns-clause-run_before_the_exit c = λ told old new h. by_2 _ h.command old new h.exits

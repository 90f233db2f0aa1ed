use Rattle.std.proofs.Common.{◌≡◌, ◌⊎◌, Option, None, arith, refl, subst, inl, inr}
use Rattle.mono_words.specs.declared.command.Command.{Command}
use Rattle.mono_forms.specs.declared.status.Status.TheVariants.{Memory}
use Rattle.mono_words.specs.Commands.{command_of}
use Rattle.mono_cmd.specs.Machines.{HasRun, Machine}
use Rattle.mono_forms.specs.Statuses.{code_of}
use Rattle.mono_cmd.proofs.ExitNumbers.{not_3, not_8}
use Rattle.mono_cmd.proofs.worked_judged.worked_machines.Goals as goal

pub returns-clause-no_memory_for_words : goal.returns-clause-no_memory_for_words
returns-clause-no_memory_for_words c = λ told. record { command = command_of told; given = refl; exits = inl (refl, refl, refl) }

by_8 : (Text : Type 0) (found : Option Command) (old new : Machine) → ((8 ≡ code_of Memory) × (new ≡ old) × Text) ⊎ HasRun found old new 8 → ⊥
by_8 Text found old new (inl none) = let number : 8 ≡ 6 = none.0 in omega (arith, number)
by_8 Text found old new (inr run) = not_8 found old new run

by_3 : (Text : Type 0) (found : Option Command) (old new : Machine) → found ≡ None → ((3 ≡ code_of Memory) × (new ≡ old) × Text) ⊎ HasRun found old new 3 → ⊥
by_3 Text found old new is (inl none) = let number : 3 ≡ 6 = none.0 in omega (arith, number)
by_3 Text found old new is (inr run) = not_3 old new (subst (λ (c : Option Command). HasRun c old new 3) is run)

pub returns-clause-other_number : goal.returns-clause-other_number
returns-clause-other_number c = λ told new h. by_8 _ h.command _ new h.exits

pub returns-clause-refused_without_a_command : goal.returns-clause-refused_without_a_command
returns-clause-refused_without_a_command c = λ new h. by_3 _ h.command _ new h.given h.exits

pub returns-clause-refused_without_words : goal.returns-clause-refused_without_words
returns-clause-refused_without_words c = λ new h. by_3 _ h.command _ new h.given h.exits

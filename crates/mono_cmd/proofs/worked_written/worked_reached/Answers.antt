use Rattle.std.proofs.Common.{◌≡◌, ◌≤◌, ℕ, true, false, List, [], length, Some, codes, refl, ap, arith}
use Rattle.std.specs.Prelude.{slice_index}
use Rattle.mono_base.specs.declared.limits.TheConstants.{MAX_INPUT_BYTES}
use Rattle.mono_words.specs.declared.command.Command.{Command}
use Rattle.mono_words.specs.declared.command.Command.TheVariants as command
use Rattle.mono_words.specs.Commands.{files_of}
use Rattle.mono_forms.specs.Runs.{EachReached, IsHeld}
use Rattle.mono_cmd.proofs.worked_written.worked_reached.Goals as goal

pub returns-clause-at_the_limit : goal.returns-clause-at_the_limit
returns-clause-at_the_limit c = λ text long none. let within : length text ≤ MAX_INPUT_BYTES = omega (arith, long) in (within, none)

pub returns-clause-at_the_limit_with : goal.returns-clause-at_the_limit_with
returns-clause-at_the_limit_with c = λ text p lits long stands room. let within : length text ≤ MAX_INPUT_BYTES = omega (arith, long) in (within, (p, stands, room))

no_file : (found : Command) → EachReached (IsHeld (Some [])) (Some []) found → files_of (Some found) ≡ []
no_file (command.Gen k size seed solve) held = refl
no_file (command.Check file answer) held = absurd (let none : false ≡ true = held.0 in cc)
no_file (command.Migrate file answer v) held = absurd (let none : false ≡ true = held.0 in cc)
no_file (command.CheckWith file answer lits) held = absurd (let none : false ≡ true = held.0 in cc)
no_file found held = absurd (let none : false ≡ true = held in cc)

pub returns-clause-nothing_held : goal.returns-clause-nothing_held
returns-clause-nothing_held c = no_file

pub returns-clause-limit_of_an_input : goal.returns-clause-limit_of_an_input
returns-clause-limit_of_an_input c = refl

other_name : codes "f" ≡ codes "b" → ⊥
other_name same = let byte : 102 ≡ 98 = ap (λ (t : List ℕ). slice_index t 0) same in omega (arith, byte)

pub returns-clause-limit_of_an_answer : goal.returns-clause-limit_of_an_answer
returns-clause-limit_of_an_answer c = ((λ same. absurd (other_name same)), (λ none same. refl))

pub returns-clause-limit_of_an_answer_to_migrate : goal.returns-clause-limit_of_an_answer_to_migrate
returns-clause-limit_of_an_answer_to_migrate c = λ v. ((λ same. absurd (other_name same)), (λ none same. refl))

use Rattle.std.proofs.Common.{Some}
use Rattle.mono_words.specs.declared.command.Command.TheVariants as command
use Rattle.mono_forms.proofs.PlaceByEnding.{alone_too_long, first_too_long, second_too_long}
use Rattle.mono_forms.proofs.laws.too_long_by_place.Goals as goal

pub returns-clause-solve : goal.returns-clause-solve
returns-clause-solve c = λ file budget old new e. alone_too_long (Some (command.Solve file budget)) old new e tt (λ none. none)

pub returns-clause-print : goal.returns-clause-print
returns-clause-print c = λ file old new e. alone_too_long (Some (command.Print file)) old new e tt (λ none. none)

pub returns-clause-team : goal.returns-clause-team
returns-clause-team c = λ file workers rounds old new e. alone_too_long (Some (command.Team file workers rounds)) old new e tt (λ none. none)

pub returns-clause-core : goal.returns-clause-core
returns-clause-core c = λ file lits old new e. alone_too_long (Some (command.Core file lits)) old new e tt (λ none. none)

pub returns-clause-best : goal.returns-clause-best
returns-clause-best c = λ file n old new e. alone_too_long (Some (command.Best file n)) old new e tt (λ none. none)

pub returns-clause-ask : goal.returns-clause-ask
returns-clause-ask c = λ file n b old new e. alone_too_long (Some (command.Ask file n b)) old new e tt (λ none. none)

pub returns-clause-file : goal.returns-clause-file
returns-clause-file c = λ file answer old new e. first_too_long (Some (command.Check file answer)) old new e tt

pub returns-clause-answer : goal.returns-clause-answer
returns-clause-answer c = λ file answer old new e. second_too_long (Some (command.Check file answer)) old new e tt

pub returns-clause-migrated_file : goal.returns-clause-migrated_file
returns-clause-migrated_file c = λ file answer v old new e. first_too_long (Some (command.Migrate file answer v)) old new e tt

pub returns-clause-migrated_answer : goal.returns-clause-migrated_answer
returns-clause-migrated_answer c = λ file answer v old new e. second_too_long (Some (command.Migrate file answer v)) old new e tt

pub returns-clause-file_with : goal.returns-clause-file_with
returns-clause-file_with c = λ file answer lits old new e. first_too_long (Some (command.CheckWith file answer lits)) old new e tt

pub returns-clause-answer_with : goal.returns-clause-answer_with
returns-clause-answer_with c = λ file answer lits old new e. second_too_long (Some (command.CheckWith file answer lits)) old new e tt

use Rattle.std.proofs.Common.{ℕ, List, inl, inr}
use Rattle.mono_io.specs.Shelf.{ShelfView}
use Rattle.mono_forms.specs.declared.ending.Ending.TheVariants as ending
use Rattle.mono_forms.specs.Runs.{WithProblem, WithText}
use Rattle.mono_cmd.proofs.worked_orders.worked_files.Goals as goal

pub returns-clause-not_read : goal.returns-clause-not_read
returns-clause-not_read c = λ file limit old new h. h

pub returns-clause-too_long : goal.returns-clause-too_long
returns-clause-too_long c = λ file limit old new h. h

pub returns-clause-given_up : goal.returns-clause-given_up
returns-clause-given_up c = λ file limit old new h. h

pub returns-clause-no_file : goal.returns-clause-no_file
returns-clause-no_file c = λ file old new h. h

pub returns-clause-at_its_fault : goal.returns-clause-at_its_fault
returns-clause-at_its_fault c = λ file old new h. (h.text, h.read, h.first)

pub returns-clause-its_problem : goal.returns-clause-its_problem
returns-clause-its_problem c = λ file old new p h. (h.text, h.read, h.stands)

behind_a_text : (file : List ℕ) (limit : ℕ) (old new : ShelfView) → WithText file limit old new ending.Words (λ text shelf. ⊥) → ⊥
behind_a_text file limit old new (inl ends) = ends
behind_a_text file limit old new (inr (text, shelf, read, next)) = next

pub returns-clause-no_way_behind_a_text : goal.returns-clause-no_way_behind_a_text
returns-clause-no_way_behind_a_text c = behind_a_text

behind_a_problem : (file : List ℕ) (old new : ShelfView) → WithProblem file old new ending.Words (λ p shelf. ⊥) → ⊥
behind_a_problem file old new (inl ends) = ends
behind_a_problem file old new (inr (p, shelf, has, next)) = next

pub returns-clause-no_way_behind_a_problem : goal.returns-clause-no_way_behind_a_problem
returns-clause-no_way_behind_a_problem c = behind_a_problem

use Rattle.std.proofs.Common.{◌≡◌, ◌≤◌, ◌⊎◌, ℕ, ℤ, List, Some, IfSome, codes, refl, ap, ◌∙◌, inl, inr, arith}
use Rattle.mono_base.specs.declared.limits.TheConstants.{MAX_ANSWER_BYTES, MAX_INPUT_BYTES}
use Rattle.mono_io.specs.Faults.{counted}
use Rattle.mono_io.specs.Reading.{IsGivenUp}
use Rattle.mono_io.specs.Shelf.{ShelfView}
use Rattle.mono_problem.specs.Instance.{Instance}
use Rattle.mono_answer.specs.declared.version.Version.{Version}
use Rattle.mono_words.specs.declared.command.Command.{Command}
use Rattle.mono_words.specs.declared.command.Command.TheVariants as command
use Rattle.mono_words.specs.declared.command.TheConstants.{MAX_MIGRATED_BYTES}
use Rattle.mono_forms.specs.declared.ending.Ending.TheVariants as ending
use Rattle.mono_forms.specs.Runs.{HasProblem, IsOutOfMemory}
use Rattle.mono_cmd.specs.Worked.{fresh, read_in}
use Rattle.mono_forms.proofs.Stages.{ends_faults}
use Rattle.mono_cmd.proofs.UnknownWord.{faulty}
use Rattle.mono_cmd.proofs.worked_orders.worked_given_up.Goals as goal

pub returns-clause-no_failed_call : goal.returns-clause-no_failed_call
returns-clause-no_failed_call c = λ found old new out. ends_faults found old new ending.Memory (λ is. let same : ending.Memory ≡ ending.ReadFault = is in cc) out

-- ---- by how many files were begun

none_begun : (new : ShelfView) (count : ℕ) → new ≡ fresh → new.begun ≡ count → count ≡ 0
none_begun new count same is = let none : new.begun ≡ 0 = ap (λ (s : ShelfView). s.begun) same in omega (arith, none, is)

one_begun : (limit : ℕ) (new : ShelfView) (count : ℕ) → IsGivenUp limit fresh new → new.begun ≡ count → count ≡ 1
one_begun limit new count given is = let once : new.begun ≡ 1 = given.once.begun in omega (arith, once, is)

two_begun : (file : List ℕ) (limit : ℕ) (read new : ShelfView) (p : Instance) (count : ℕ) → HasProblem file fresh read p → IsGivenUp limit read new → new.begun ≡ count → count ≡ 2
two_begun file limit read new p count has given is =
    let first : read.begun ≡ 1 = has.read.once.begun in
    let second : new.begun ≡ 2 = given.once.begun ∙ ap counted first in
    omega (arith, second, is)

at_file : (new : ShelfView) → (new ≡ fresh) ⊎ IsGivenUp MAX_INPUT_BYTES fresh new → new.begun ≡ 1 → IfSome new.place (λ place. place ≤ MAX_INPUT_BYTES)
at_file new (inl same) once = absurd (let none : 1 ≡ 0 = none_begun new 1 same once in omega (arith, none))
at_file new (inr given) once = given.place

behind_file : (file : List ℕ) (limit : ℕ) (read new : ShelfView) (p : Instance) → HasProblem file fresh read p → IsGivenUp limit read new → new.begun ≡ 1 → ⊥
behind_file file limit read new p has given once = let two : 1 ≡ 2 = two_begun file limit read new p 1 has given once in omega (arith, two)

within_input : (found : Command) (new : ShelfView) → IsOutOfMemory (Some found) fresh new → new.begun ≡ 1 → IfSome new.place (λ place. place ≤ MAX_INPUT_BYTES)
within_input (command.Gen k size seed solve) new same once = absurd (let none : 1 ≡ 0 = none_begun new 1 same once in omega (arith, none))
within_input (command.Check file answer) new (inl out) once = at_file new out once
within_input (command.Check file answer) new (inr (p, read, has, given)) once = absurd (behind_file file MAX_ANSWER_BYTES read new p has given once)
within_input (command.Migrate file answer v) new (inl out) once = at_file new out once
within_input (command.Migrate file answer v) new (inr (p, read, has, given)) once = absurd (behind_file file MAX_MIGRATED_BYTES read new p has given once)
within_input (command.CheckWith file answer lits) new (inl out) once = at_file new out once
within_input (command.CheckWith file answer lits) new (inr (p, read, has, room, given)) once = absurd (behind_file file MAX_ANSWER_BYTES read new p has given once)
within_input found new out once = at_file new out once

pub returns-clause-at_the_file : goal.returns-clause-at_the_file
returns-clause-at_the_file c = within_input

-- ---- at ANSWER

before_answer : (new : ShelfView) → (new ≡ fresh) ⊎ IsGivenUp MAX_INPUT_BYTES fresh new → new.begun ≡ 2 → ⊥
before_answer new (inl same) twice = let none : 2 ≡ 0 = none_begun new 2 same twice in omega (arith, none)
before_answer new (inr given) twice = let one : 2 ≡ 1 = one_begun MAX_INPUT_BYTES new 2 given twice in omega (arith, one)

checks : (file answer : List ℕ) (new : ShelfView) → IsOutOfMemory (Some (command.Check file answer)) fresh new → new.begun ≡ 2 → IfSome new.place (λ place. place ≤ MAX_ANSWER_BYTES)
checks file answer new (inl out) twice = absurd (before_answer new out twice)
checks file answer new (inr (p, read, has, given)) twice = given.place

pub returns-clause-at_the_answer : goal.returns-clause-at_the_answer
returns-clause-at_the_answer c = checks

migrates : (file answer : List ℕ) (v : Version) (new : ShelfView) → IsOutOfMemory (Some (command.Migrate file answer v)) fresh new → new.begun ≡ 2
    → IfSome new.place (λ place. place ≤ MAX_MIGRATED_BYTES)
migrates file answer v new (inl out) twice = absurd (before_answer new out twice)
migrates file answer v new (inr (p, read, has, given)) twice = given.place

pub returns-clause-at_the_answer_to_migrate : goal.returns-clause-at_the_answer_to_migrate
returns-clause-at_the_answer_to_migrate c = migrates

checks_with : (file answer : List ℕ) (lits : List ℤ) (new : ShelfView) → IsOutOfMemory (Some (command.CheckWith file answer lits)) fresh new → new.begun ≡ 2
    → IfSome new.place (λ place. place ≤ MAX_ANSWER_BYTES)
checks_with file answer lits new (inl out) twice = absurd (before_answer new out twice)
checks_with file answer lits new (inr (p, read, has, room, given)) twice = given.place

pub returns-clause-at_the_answer_with : goal.returns-clause-at_the_answer_with
returns-clause-at_the_answer_with c = checks_with

-- ---- ANSWER isn't begun behind a fault of FILE

abbrev behind_b : ShelfView
behind_b = read_in (codes "f") (Some 0) 2 0

migrates_behind : (v : Version) → IsOutOfMemory (Some (command.Migrate (codes "b") (codes "f") v)) fresh behind_b → ⊥
migrates_behind v (inl out) = before_answer behind_b out refl
migrates_behind v (inr (p, read, has, given)) = faulty p has.text has.read.whole has.stands

pub returns-clause-migrate_behind_a_fault : goal.returns-clause-migrate_behind_a_fault
returns-clause-migrate_behind_a_fault c = migrates_behind

checks_behind : (lits : List ℤ) → IsOutOfMemory (Some (command.CheckWith (codes "b") (codes "f") lits)) fresh behind_b → ⊥
checks_behind lits (inl out) = before_answer behind_b out refl
checks_behind lits (inr (p, read, has, room, given)) = faulty p has.text has.read.whole has.stands

pub returns-clause-check_with_behind_a_fault : goal.returns-clause-check_with_behind_a_fault
returns-clause-check_with_behind_a_fault c = checks_behind

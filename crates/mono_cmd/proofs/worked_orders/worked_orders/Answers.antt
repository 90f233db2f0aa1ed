use Rattle.std.proofs.Common.{◌≡◌, ◌≤◌, ◌⊎◌, ℕ, ℤ, List, Some, None, codes, refl, ap, ◌∙◌, inl, inr, arith}
use Rattle.mono_base.specs.declared.limits.TheConstants.{MAX_ANSWER_BYTES, MAX_INPUT_BYTES}
use Rattle.mono_io.specs.Reading.{IsNotRead}
use Rattle.mono_io.specs.Shelf.{ShelfView}
use Rattle.mono_gnf.specs.Faults.{first_fault}
use Rattle.mono_gnf.specs.Statements.{statement_of}
use Rattle.mono_gnf.specs.declared.fault.GnfFault.TheVariants as fault
use Rattle.mono_answer.specs.declared.version.Version.{Version}
use Rattle.mono_words.specs.declared.command.Command.{Command}
use Rattle.mono_words.specs.declared.command.Command.TheVariants as command
use Rattle.mono_forms.specs.declared.ending.Ending.{Ending}
use Rattle.mono_forms.specs.declared.ending.Ending.TheVariants as ending
use Rattle.mono_forms.specs.declared.status.Status.TheVariants as status
use Rattle.mono_forms.specs.Endings.{status_of}
use Rattle.mono_forms.specs.Runs.{ComesTo, Ends, HasProblem, IsOutOfMemory, Writes}
use Rattle.mono_cmd.specs.Worked.{empty_problem, fresh, missed, missed_behind, read_f, read_in}
use Rattle.mono_forms.proofs.Stages.{IsOwn, Stage, at_answer, at_file, behind_answer, behind_file, ends_cases, stage_of, unread}
use Rattle.mono_cmd.proofs.UnknownWord.{faulty}
use Rattle.mono_cmd.proofs.worked_orders.worked_orders.Goals as goal

-- ---- no command

pub returns-clause-no_command : goal.returns-clause-no_command
returns-clause-no_command c = (refl, refl)

pub returns-clause-long_words : goal.returns-clause-long_words
returns-clause-long_words c = λ h. let same : ending.TooLong ≡ ending.Words = h.0 in cc

pub returns-clause-words_read_nothing : goal.returns-clause-words_read_nothing
returns-clause-words_read_nothing c = λ h. let begun : 1 ≡ 0 = ap (λ (s : ShelfView). s.begun) h.1 in omega (arith, begun)

not_own : (found : Command) → IsOwn ending.Words (Some found) → ⊥
not_own (command.Gen k size seed solve) own = own
not_own found own = own

no_words : (found : Command) (old new : ShelfView) → Stage (Some found) old new ending.Words → ⊥
no_words found old new (unread none own same) = not_own found own
no_words found old new (at_file reads ends) = ends
no_words found old new (behind_file reads own p has) = not_own found own
no_words found old new (at_answer p read behind ends) = ends
no_words found old new (behind_answer p read text behind own given) = not_own found own

pub returns-clause-words_of_a_command : goal.returns-clause-words_of_a_command
returns-clause-words_of_a_command c = λ found old new comes. no_words found old new (stage_of (Some found) old new ending.Words comes)

-- ---- commands

-- `f` is read, and stands for the empty problem
reads_f : HasProblem (codes "f") fresh read_f empty_problem
reads_f = record {
  text = codes "";
  read = record {
    once = record { begun = refl; texts = refl; steady = λ sure. sure };
    whole = refl;
    within = let none : 0 ≤ MAX_INPUT_BYTES = omega arith in none;
    place = refl;
    faults = refl;
  };
  stands = (refl, refl);
}

pub returns-clause-print : goal.returns-clause-print
returns-clause-print c = inr (empty_problem, read_f, reads_f, (refl, refl))

prints_twice : (text : List ℕ) → ComesTo (Some (command.Print (codes "f"))) fresh (read_in (codes "f") (Some 0) 2 0) (ending.Printed text) → ⊥
prints_twice text (inl ends) = ends
prints_twice text (inr (p, shelf, has, end)) =
    let second : 2 ≡ shelf.begun = ap (λ (s : ShelfView). s.begun) end.1 in
    let first : shelf.begun ≡ 1 = has.read.once.begun in
    omega (arith, second, first)

pub returns-clause-print_begins_twice : goal.returns-clause-print_begins_twice
returns-clause-print_begins_twice c = prints_twice

pub returns-clause-generate_reads : goal.returns-clause-generate_reads
returns-clause-generate_reads c = λ k size seed text h. let begun : 1 ≡ 0 = ap (λ (s : ShelfView). s.begun) h.1 in omega (arith, begun)

unknown_word : first_fault (codes "x") ≡ Some (1, fault.UnknownWord)
unfolding statement_of
unknown_word = refl

pub returns-clause-check_refuses : goal.returns-clause-check_refuses
returns-clause-check_refuses c = inl (record {
  text = codes "x";
  read = record {
    once = record { begun = refl; texts = refl; steady = λ sure. sure };
    whole = refl;
    within = let one : 1 ≤ MAX_INPUT_BYTES = omega arith in one;
    place = refl;
    faults = refl;
  };
  first = unknown_word;
})

misses : IsNotRead (codes "h") MAX_ANSWER_BYTES read_f missed_behind
misses = record {
  once = record { begun = refl; texts = refl; steady = λ sure. sure };
  lacking = λ sure. refl;
  nothing = λ sure. refl;
  place = tt;
  faults = refl;
}

pub returns-clause-check_misses : goal.returns-clause-check_misses
returns-clause-check_misses c = inr (empty_problem, read_f, reads_f, inl misses)

-- FILE alone was begun where the run ended there
begun_once : (file : List ℕ) (limit : ℕ) → IsNotRead file limit fresh missed_behind → ⊥
begun_once file limit ends = let once : 2 ≡ 1 = ends.once.begun in omega (arith, once)

checks : ComesTo (Some (command.Check (codes "b") (codes "h"))) fresh missed_behind ending.ReadFault → ⊥
checks (inl ends) = begun_once (codes "b") MAX_INPUT_BYTES ends
checks (inr (p, read, has, rest)) = faulty p has.text has.read.whole has.stands

pub returns-clause-check_misses_behind_a_fault : goal.returns-clause-check_misses_behind_a_fault
returns-clause-check_misses_behind_a_fault c = checks

migrates : (v : Version) → ComesTo (Some (command.Migrate (codes "b") (codes "h") v)) fresh missed_behind ending.ReadFault → ⊥
migrates v (inl ends) = begun_once (codes "b") MAX_INPUT_BYTES ends
migrates v (inr (p, read, has, rest)) = faulty p has.text has.read.whole has.stands

pub returns-clause-migrate_misses_behind_a_fault : goal.returns-clause-migrate_misses_behind_a_fault
returns-clause-migrate_misses_behind_a_fault c = migrates

checks_with : (lits : List ℤ) → ComesTo (Some (command.CheckWith (codes "b") (codes "h") lits)) fresh missed_behind ending.ReadFault → ⊥
checks_with lits (inl ends) = begun_once (codes "b") MAX_INPUT_BYTES ends
checks_with lits (inr (p, read, has, rest)) = faulty p has.text has.read.whole has.stands

pub returns-clause-check_with_misses_behind_a_fault : goal.returns-clause-check_with_misses_behind_a_fault
returns-clause-check_with_misses_behind_a_fault c = checks_with

-- ---- endings, and the whole

pub returns-clause-memory : goal.returns-clause-memory
returns-clause-memory c = inr (record {
  once = record { begun = refl; texts = refl; steady = λ sure. sure };
  place = let none : 0 ≤ MAX_INPUT_BYTES = omega arith in none;
  faults = refl;
})

pub returns-clause-memory_for_no_command : goal.returns-clause-memory_for_no_command
returns-clause-memory_for_no_command c = λ h. h

missing : IsNotRead (codes "h") MAX_INPUT_BYTES fresh missed
missing = record {
  once = record { begun = refl; texts = refl; steady = λ sure. sure };
  lacking = λ sure. refl;
  nothing = λ sure. refl;
  place = tt;
  faults = refl;
}

pub returns-clause-run : goal.returns-clause-run
returns-clause-run c = record { ending = ending.ReadFault; ends = inl missing; writes = (refl, refl) }

no_run : (e : Ending) → Ends None fresh fresh e → Writes e status.ReadFault (Some (codes "a")) (Some (codes "aread fault\n")) → ⊥
no_run e ends writes = by_case (ends_cases None fresh fresh e ends)
  where
    by_case : IsOutOfMemory None fresh fresh ⊎ ComesTo None fresh fresh e → ⊥
    by_case (inl out) = out
    by_case (inr comes) = absurd (let same : status.ReadFault ≡ status.Words = writes.0 ∙ ap status_of comes.0 in cc)

pub returns-clause-run_of_no_command : goal.returns-clause-run_of_no_command
returns-clause-run_of_no_command c = λ h. no_run h.ending h.ends h.writes

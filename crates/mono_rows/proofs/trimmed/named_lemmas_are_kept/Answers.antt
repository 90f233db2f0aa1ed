use Rattle.std.proofs.Common.{true, false, [], ◌∷◌, refl, arith}
use Rattle.mono_steps.proofs.WorkedTrimmed.{all_named}
use Rattle.mono_rows.proofs.TrimmedRows.{closed_of_three, first_is_kept, not_dropped, none_of_the_old, second_not_named}
use Rattle.mono_rows.proofs.trimmed.named_lemmas_are_kept.Goals as goal

pub returns-clause-kept : goal.returns-clause-kept
returns-clause-kept c = record {
  needed = true ∷ false ∷ true ∷ [];
  as_many = refl;
  last = refl;
  closed = λ j k s on is names. closed_of_three _ _ 3 (true ∷ false ∷ true ∷ []) (first_is_kept (true ∷ false ∷ true ∷ []) refl) j k s is names;
  is = refl;
  trim = record { refutes = refl; named = all_named; short = omega arith };
}

pub returns-clause-dropped : goal.returns-clause-dropped
returns-clause-dropped c = not_dropped

pub returns-clause-unnamed_before_the_last : goal.returns-clause-unnamed_before_the_last
returns-clause-unnamed_before_the_last c = λ h. second_not_named (h.trim.named 1 (omega arith))

pub returns-clause-none_of_the_old_steps : goal.returns-clause-none_of_the_old_steps
returns-clause-none_of_the_old_steps c = none_of_the_old

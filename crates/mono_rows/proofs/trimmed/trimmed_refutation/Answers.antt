use Rattle.std.proofs.Common.{true, false, [], ◌∷◌, refl, arith}
use Rattle.mono_steps.proofs.WorkedTrimmed.{all_named, first_not_named}
use Rattle.mono_rows.proofs.TrimmedRows.{closed_of_two, closed_of_three, first_is_kept, second_is_kept}
use Rattle.mono_rows.proofs.trimmed.trimmed_refutation.Goals as goal

pub returns-clause-trimmed : goal.returns-clause-trimmed
returns-clause-trimmed c = record {
  needed = false ∷ true ∷ true ∷ [];
  as_many = refl;
  last = refl;
  closed = λ j k s on is names. closed_of_three _ _ 4 (false ∷ true ∷ true ∷ []) (second_is_kept (false ∷ true ∷ true ∷ []) refl) j k s is names;
  is = refl;
  trim = record { refutes = refl; named = all_named; short = omega arith };
}

pub returns-clause-as_it_was : goal.returns-clause-as_it_was
returns-clause-as_it_was c = record {
  needed = true ∷ true ∷ [];
  as_many = refl;
  last = refl;
  closed = λ j k s on is names. closed_of_two _ 3 (true ∷ true ∷ []) (first_is_kept (true ∷ true ∷ []) refl) j k s is names;
  is = refl;
  trim = record { refutes = refl; named = all_named; short = omega arith };
}

pub returns-clause-not_trimmed : goal.returns-clause-not_trimmed
returns-clause-not_trimmed c = λ h. first_not_named (h.trim.named 0 (omega arith))

pub returns-clause-nothing_left : goal.returns-clause-nothing_left
returns-clause-nothing_left c = λ h. let e = h.trim.refutes in cc

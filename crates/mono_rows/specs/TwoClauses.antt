-- Two clauses and a short trail for the worked rows: {1, 2} has the number 4 and {-1, 3} the number 7, both literals of each
-- are watched, and -1 is decided.
use Rattle.std.specs.Prelude.{ℕ, ℤ, pos, List, [], ◌∷◌, Option, Some}
use Rattle.mono_steps.specs.WorkedLemmas.{minus}
use Rattle.mono_trail.specs.declared.reason.Reason.TheVariants.{Decided, Clause}
use Rattle.mono_trail.specs.TrailView.{TrailView}
use Rattle.mono_clauses.specs.Store.{Held, StoreView}

abbrev pub held : ℕ → List ℤ → Held
held n c = record { number = n; lits = c }

abbrev pub two_clauses : List Held
two_clauses = held 4 (pos 1 ∷ pos 2 ∷ []) ∷ held 7 (minus 1 ∷ pos 3 ∷ []) ∷ []

abbrev pub watching : List (Option ℤ) → StoreView
watching ws = record { vars = 3; clauses = two_clauses; watched = ws }

abbrev pub all_watched : List (Option ℤ)
all_watched = Some (pos 1) ∷ Some (pos 2) ∷ Some (minus 1) ∷ Some (pos 3) ∷ []

-- -1 is decided, and maybe clause 4 has implied 2 since. So many literals were given
abbrev pub decided : ℕ → TrailView
decided given = record { vars = 3; lits = minus 1 ∷ []; marks = record { level = 1; reason = Decided } ∷ []; level = 1; given = given }

abbrev pub implied : ℕ → TrailView
implied given = record {
  vars = 3;
  lits = minus 1 ∷ pos 2 ∷ [];
  marks = record { level = 1; reason = Decided } ∷ record { level = 1; reason = Clause 4 } ∷ [];
  level = 1;
  given = given;
}

-- -1 is decided, and one more literal at the next level. So many literals were given
abbrev pub decided_again : List ℤ → ℕ → TrailView
decided_again ls given = record {
  vars = 3;
  lits = minus 1 ∷ ls;
  marks = record { level = 1; reason = Decided } ∷ record { level = 2; reason = Decided } ∷ [];
  level = 2;
  given = given;
}

-- 2 is true before any decision, and was given
abbrev pub at_first : TrailView
at_first = record { vars = 3; lits = pos 2 ∷ []; marks = record { level = 0; reason = Clause 4 } ∷ []; level = 0; given = 1 }

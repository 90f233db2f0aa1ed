-- Clauses in one flat list of literals, as contracts see them.
use Rattle.std.specs.Prelude.{◌≡◌, ℕ, ℤ, List, [], ◌∷◌, ◌++◌}
use Rattle.mono_clauses.specs.Store.{Held}

pub record ClausesView : Type 0 where
  pub vars : ℕ
  pub list : List Held

abbrev pub empty_list : ℕ → ClausesView
empty_list vars = record { vars = vars; list = [] }

abbrev pub with_clause : ClausesView → ℕ → List ℤ → ClausesView
with_clause s n c = record s { list = s.list ++ record { number = n; lits = c } ∷ [] }

-- all but the last clause
pub record Undone (s r : ClausesView) : Type 0 where
  pub vars : r.vars ≡ s.vars
  pub last : Held
  pub was : s.list ≡ r.list ++ last ∷ []

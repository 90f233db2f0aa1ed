use Rattle.std.proofs.Common.{◌≡◌, ◌≤◌, ◌<◌, ℕ, zero, suc, true, false, [], ◌∷◌, refl, arith, pos}
use Rattle.std.specs.Prelude.{IsTrue, slice_index_or, length}
use Rattle.mono_graph.specs.Worked.{first_alone}
use Rattle.mono_problem.specs.declared.atom.Atom.{Atom}
use Rattle.mono_problem.specs.Read.{no_atom}
use Rattle.mono_base.specs.Worklist.{is_listed}
use Rattle.mono_theory.specs.Asked.{asks_walk}
use Rattle.mono_theory.specs.RowSides.{AreRowsFor}
use Rattle.mono_theory.specs.Supports.{IsSettled, atom_at}
use Rattle.mono_theory.specs.Worked.{reaches, seen_so_far}
use Rattle.mono_search_rows.proofs.worked_keeping.rows_of_one_side.Goals as goal

asks : (a : ℕ) (d : Atom) → a < 1 → IsTrue (asks_walk (slice_index_or reaches a d).predicate)
asks zero d lt = refl
asks (suc a) d lt = absurd (omega (arith, lt))

due : (a : ℕ) → a < 1 → is_listed (true ∷ []) a ≡ false → true ≡ true → IsSettled (pos 1 ∷ []) false (atom_at reaches a)
due zero lt e shown = cc
due (suc a) lt e shown = absurd (omega (arith, lt))

right : AreRowsFor {R = ℕ} asks_walk false (λ row f. row ≡ length f.seen) (λ row a. true) (seen_so_far (pos 1 ∷ [])) (record { part = first_alone; looked = 1; rows = 1; due = true ∷ [] })
right = record { covered = record { each = asks }; part = refl; looked = omega arith; rows = refl; due = record { size = refl; each = due } }

pub returns-clause-all_looked_at : goal.returns-clause-all_looked_at
returns-clause-all_looked_at c = right

pub returns-clause-of_another_kind : goal.returns-clause-of_another_kind
returns-clause-of_another_kind c = λ h. let e : false ≡ true = h.covered.each 0 no_atom (omega arith) in cc

pub returns-clause-another_part : goal.returns-clause-another_part
returns-clause-another_part c = λ h. let e = h.part in cc

pub returns-clause-ahead : goal.returns-clause-ahead
returns-clause-ahead c = λ h. let e : 2 ≤ 1 = h.looked in omega (arith, e)

pub returns-clause-rows_behind : goal.returns-clause-rows_behind
returns-clause-rows_behind c = λ h. let e : 0 ≡ 1 = h.rows in omega (arith, e)

pub returns-clause-neither_due_nor_settled : goal.returns-clause-neither_due_nor_settled
returns-clause-neither_due_nor_settled c = λ h. let e : false ≡ true = h.due.each 0 (omega arith) refl refl in cc

pub returns-clause-rows : goal.returns-clause-rows
returns-clause-rows c = right

pub returns-clause-wrong_rows : goal.returns-clause-wrong_rows
returns-clause-wrong_rows c = λ h. let e : 0 ≡ 1 = h.rows in omega (arith, e)

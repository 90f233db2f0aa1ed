-- Numbers of chains of a board, and their clauses.
use Rattle.std.proofs.Common.{◌≡◌, ℕ, zero, suc, ◌+◌, ◌-◌, ◌<◌, ◌≤◌, List, [], ◌++◌, length, map, get_or, Option, Some, None, refl, ap, ◌∙◌, arith, ℤ}
use Rattle.std.specs.Prelude.{IsTrue, slice_get}
use Rattle.std.proofs.lemmas.Option.{slice_get_within}
use Rattle.std.proofs.lemmas.List.{get_or_append_left}
use Rattle.mono_problem.specs.Instance.{Instance, numbered}
use Rattle.mono_steps.specs.declared.step.Step.{Step}
use Rattle.mono_steps.specs.Steps.{clause_of, clauses_after}
use Rattle.mono_steps.proofs.StepLists.{length_clauses, numbered_is}
use Rattle.mono_steps.proofs.JournalSteps.{after-append}
use Rattle.mono_portfolio.specs.Extended.{board_clause, is_some_chain, has_chain}

-- the number of a chain of the board: it is that of a clause behind the problem's
pub record IsHeld (p : Instance) (board : List Step) (n : ℕ) : Type 0 where
  pub low : length p.clauses < n
  pub high : n ≤ length p.clauses + length board

pub held_number : (p : Instance) (board : List Step) (n : ℕ) → IsTrue (has_chain p board n) → IsHeld p board n
held_number p board n h = by_place (n - length p.clauses) refl h
  where
    within : (k : ℕ) (o : Option Step) → slice_get board k ≡ o → IsTrue (is_some_chain o) → k < length board
    within k None e h = absurd cc
    within k (Some s) e h = slice_get_within board k s e

    by_place : (k : ℕ) → n - length p.clauses ≡ k → IsTrue (is_some_chain (numbered board k)) → IsHeld p board n
    by_place zero e h = absurd cc
    by_place (suc k) e h = let lt = within k (slice_get board k) refl h in record { low = omega arith; high = omega arith }

-- its clause
pub held_clause : (p : Instance) (board : List Step) (n : ℕ) → IsHeld p board n → numbered (clauses_after p board) n ≡ Some (board_clause p board n)
held_clause p board n h = numbered_is (clauses_after p board) n (n - 1) [] (omega (arith, h.low)) (omega (arith, h.low, h.high, length_clauses p board))

-- a board that grows keeps its clauses
pub clause_kept : (p : Instance) (board more : List Step) (n : ℕ) → IsHeld p board n → board_clause p (board ++ more) n ≡ board_clause p board n
clause_kept p board more n h =
    ap (λ (cs : List (List ℤ)). get_or cs (n - 1) []) (after-append p board more) ∙ get_or_append_left (clauses_after p board) (map clause_of more) [] (n - 1) (omega (arith, h.low, h.high, length_clauses p board))

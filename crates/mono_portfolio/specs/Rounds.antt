-- The board of a team whose workers all search and give in turn, and after each round take the short chains given in it.
use Rattle.std.specs.Prelude.{◌≡◌, ℕ, zero, suc, ◌+◌, Bool, false, nat_le, if◌then◌else◌, List, [], ◌∷◌, ◌++◌, length, drop}
use Rattle.mono_problem.specs.Instance.{Instance}
use Rattle.mono_steps.specs.declared.step.Step.{Step}
use Rattle.mono_steps.specs.declared.step.Step.TheVariants as step
use Rattle.mono_portfolio.specs.Extended.{extended, passes_limits}
use Rattle.mono_portfolio.specs.Moved.{moved}
use Rattle.mono_steps.specs.New.{IsProgress}

-- a piece of the board behind what was there before: the steps of a worker that had taken these numbers and learned so many clauses
pub record IsPiece (slice : ℕ) (p : Instance) (before : List Step) (taken : List ℕ) (piece : List Step) : Type 0 where
  pub steps : List Step
  pub learned : IsProgress (extended p before taken) slice steps
  pub is : piece ≡ moved p steps taken before

-- so many pieces, one after another
abbrev pub IsRound : ℕ → Instance → ℕ → List ℕ → List Step → List Step → Type 0
IsRound slice p zero taken before after = after ≡ before
IsRound slice p (suc workers) taken before after =
    (piece : List Step) × IsPiece slice p before taken piece × IsRound slice p workers taken (before ++ piece) after

-- the chain has at most 8 literals
abbrev pub is_short : Step → Bool
is_short (step.Lemma l) = false
is_short (step.Chain c) = nat_le (length c.clause) 8

-- the numbers of the short chains, where the first step has the number n
abbrev pub short_chains : ℕ → List Step → List ℕ
short_chains n [] = []
short_chains n (s ∷ ss) = if is_short s then n ∷ short_chains (n + 1) ss else short_chains (n + 1) ss

-- the taken numbers with these behind them, but for each that is Full at its turn
abbrev pub taking : Instance → List Step → List ℕ → List ℕ → List ℕ
taking p board taken [] = taken
taking p board taken (n ∷ ns) = taking p board (if passes_limits (extended p board (taken ++ n ∷ [])) then taken else taken ++ n ∷ []) ns

-- so many rounds, one after another; after each the short chains given in it are taken. What all workers took and the board, before them
-- and behind them
abbrev pub AreRounds : ℕ → Instance → ℕ → ℕ → List ℕ → List Step → List ℕ → List Step → Type 0
AreRounds slice p workers zero taken before last board = (last ≡ taken) × (board ≡ before)
AreRounds slice p workers (suc rounds) taken before last board =
    (after : List Step) × IsRound slice p workers taken before after
    × AreRounds slice p workers rounds (taking p after taken (short_chains (length p.clauses + length before + 1) (drop (length before) after))) after last board

abbrev pub Rounds : Instance → List Step → ℕ → ℕ → Type 0
Rounds p board workers rounds = (last : List ℕ) × AreRounds 1000 p workers rounds [] [] last board

-- When the search begins anew: restart r comes when 100 times the r-th term of Luby's sequence clauses were learned since
-- the restart before.
use Rattle.std.specs.Prelude.{◌≡◌, ◌↔◌, ℕ, ◌+◌, ◌*◌, ◌^◌, ◌<◌, ◌≤◌, Bool, IsTrue, if◌then◌else◌}
use Rattle.mono_trail.specs.Luby.{Luby}

-- how many clauses were learned since the last restart, and how many restarts there were
pub record Counted : Type 0 where
  pub learned : ℕ
  pub restarts : ℕ

-- one clause more was learned, and whether a restart comes with it
pub record CountsClause (old new : Counted) (restarts : Bool) : Type 0 where
  pub term : ℕ
  pub luby : Luby (old.restarts + 1) term
  pub due : IsTrue restarts ↔ (100 * term ≤ old.learned + 1)
  pub counted : new
      ≡ (if restarts then record { learned = 0; restarts = old.restarts + 1 } else record { learned = old.learned + 1; restarts = old.restarts })

-- a clause is counted while both counts are below the end of their range, where they stand still
abbrev pub Counts : Counted → Counted → Bool → Type 0
Counts old new restarts = old.learned + 2 < 2 ^ 64 → old.restarts + 2 < 2 ^ 64 → CountsClause old new restarts

-- what is counted once so many clauses were learned, from the beginning
pub data CountedAfter : ℕ → Counted → Type 0 where
  at_first : (n : ℕ) (c : Counted) → n ≡ 0 → c ≡ record { learned = 0; restarts = 0 } → CountedAfter n c
  one_more : (m n : ℕ) (old new : Counted) (restarts : Bool) → CountedAfter m old → n ≡ m + 1 → Counts old new restarts → CountedAfter n new

-- where that was counted of so many clauses, it now is of so many
abbrev pub KeepsCount : ℕ → ℕ → Counted → Counted → Type 0
KeepsCount before now old new = CountedAfter before old → CountedAfter now new

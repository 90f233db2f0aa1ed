-- Preferred literals are those of variables.
use Rattle.std.proofs.Common.{ℕ, zero, suc, ◌≤◌, Bool, true, false, cond, [], ◌∷◌, ◌++◌, pos, All, arith}
use Rattle.std.proofs.lemmas.List.Elements.{All-nil, All-push}
use Rattle.mono_base.specs.Literal.{IsLitWithin}
use Rattle.mono_portfolio.specs.Preferred.{prefers, preferred}

pub preferred_within : (w v m : ℕ) → v ≤ m → All (IsLitWithin m) (preferred w v)
preferred_within w zero m le = All-nil (IsLitWithin m)
preferred_within w (suc v) m le = by_test (prefers w (suc v)) (preferred_within w v m (omega (arith, le)))
  where
    by_test : (b : Bool) → All (IsLitWithin m) (preferred w v) → All (IsLitWithin m) (cond b (preferred w v ++ pos (suc v) ∷ []) (preferred w v))
    by_test true h = All-push (IsLitWithin m) (preferred w v) (pos (suc v)) h (omega arith, omega (arith, le))
    by_test false h = h

-- Lines gone through one after the other, with the first at fault deciding.
use Rattle.std.proofs.Common.{◌≡◌, ℕ, List, [], ◌∷◌, ◌++◌, Option, Some, None, refl, sym, ap, append_assoc, append-nil}
use Rattle.mono_answer.specs.declared.item.Item.{Item}
use Rattle.mono_check.specs.declared.reason.Reason.{Reason}
use Rattle.mono_check.specs.declared.verdict.Verdict.TheVariants as verdict
use Rattle.mono_check.specs.Lines.{first_fault}
use Rattle.mono_check.specs.Verdicts.{Outcome, Decided, or_rejected}

-- what the lines come to where the lines before had no fault
abbrev pub walked : (List (ℕ × Option Item) → Option Item → Option Reason) → (List (ℕ × Option Item) → Outcome) → List (ℕ × Option Item) → List (ℕ × Option Item) → Outcome
walked fault end before ls = or_rejected (first_fault fault before ls) (end (before ++ ls))

pub walked_on : (fault : List (ℕ × Option Item) → Option Item → Option Reason) (end : List (ℕ × Option Item) → Outcome) (before ls : List (ℕ × Option Item)) (n : ℕ) (i : Option Item)
    → None ≡ fault before i → walked fault end before ((n, i) ∷ ls) ≡ walked fault end (before ++ (n, i) ∷ []) ls
walked_on fault end before ls n i e = rw (← e) (ap (λ (xs : List (ℕ × Option Item)). or_rejected (first_fault fault (before ++ (n, i) ∷ []) ls) (end xs)) (sym (append_assoc before ((n, i) ∷ []) ls)))

pub walked_to_fault : (fault : List (ℕ × Option Item) → Option Item → Option Reason) (end : List (ℕ × Option Item) → Outcome) (before ls : List (ℕ × Option Item)) (n : ℕ) (i : Option Item) (r : Reason)
    → Some r ≡ fault before i → walked fault end before ((n, i) ∷ ls) ≡ Decided (verdict.Rejected n r)
walked_to_fault fault end before ls n i r e = rw (← e) refl

pub walked_all : (fault : List (ℕ × Option Item) → Option Item → Option Reason) (end : List (ℕ × Option Item) → Outcome) (before : List (ℕ × Option Item)) → walked fault end before [] ≡ end before
walked_all fault end before = ap end (append-nil before)

-- The problem that was built last, while workers change and the board grows.
use Rattle.std.proofs.Common.{◌≡◌, ◌≢◌, ℕ, zero, suc, ◌<◌, Bool, true, false, List, [], ◌∷◌, ◌++◌, length, get_or, set, Option, Some, None, refl, sym, ap, subst, ◌∙◌, arith, All}
use Rattle.std.specs.Prelude.{IfSome, ◌==◌}
use Rattle.std.proofs.lemmas.Bool.{cond-true, cond-false, eqb-false}
use Rattle.std.proofs.lemmas.List.{length-set, get_or_read, get_or-set_other}
use Rattle.mono_problem.specs.Instance.{Instance}
use Rattle.mono_steps.specs.declared.step.Step.{Step}
use Rattle.mono_portfolio.specs.declared.building.Built.{Built}
use Rattle.mono_portfolio.specs.Extended.{extended}
use Rattle.mono_portfolio.specs.Workers.{WorkerState, IsKeptWorker, taken_at, IsBuilt, unless_of}
use Rattle.mono_portfolio.proofs.Changes.{extended_kept}

-- ---- what workers took

abbrev nobody : WorkerState
nobody = record { taken = []; made = []; literals = 0 }

pub taken_is_at : (xs : List WorkerState) (w : ℕ) (x : WorkerState) → w < length xs → x ≡ get_or xs w x → x.taken ≡ taken_at xs w
taken_is_at xs w x lt is = ap (λ (y : WorkerState). y.taken) (get_or_read xs w x lt is nobody)

taken_stays : (xs : List WorkerState) (w k : ℕ) (d y : WorkerState) → y.taken ≡ (get_or xs w d).taken → taken_at (set xs w y) k ≡ taken_at xs k
taken_stays [] w k d y e = refl
taken_stays (x ∷ xs) zero zero d y e = e
taken_stays (x ∷ xs) zero (suc k) d y e = refl
taken_stays (x ∷ xs) (suc w) zero d y e = refl
taken_stays (x ∷ xs) (suc w) (suc k) d y e = taken_stays xs w k d y e

-- ---- a worker changes, and the board grows

-- the worker took the same as before
pub built_stays : (p : Instance) (board : List Step) (xs : List WorkerState) (w : ℕ) (x y : WorkerState) (b : Built) → x ≡ get_or xs w x → y.taken ≡ x.taken → IsBuilt p board xs b → IsBuilt p board (set xs w y) b
built_stays p board xs w x y b is same h = record {
  there = omega (arith, h.there, length-set xs w y);
  is = h.is ∙ ap (extended p board) (sym (taken_stays xs w b.worker x y (same ∙ ap (λ (z : WorkerState). z.taken) is)));
}

-- the problem is of another worker
built_beside : (p : Instance) (board : List Step) (xs : List WorkerState) (w : ℕ) (y : WorkerState) (b : Built) → b.worker ≢ w → IsBuilt p board xs b → IsBuilt p board (set xs w y) b
built_beside p board xs w y b other h = record {
  there = omega (arith, h.there, length-set xs w y);
  is = h.is ∙ ap (λ (z : WorkerState). extended p board z.taken) (sym (get_or-set_other xs w b.worker y nobody other));
}

pub built_takes : (p : Instance) (board : List Step) (xs : List WorkerState) (w : ℕ) (y : WorkerState) (o : Option Built) → IfSome o (IsBuilt p board xs) → IfSome (unless_of w o) (IsBuilt p board (set xs w y))
built_takes p board xs w y None h = tt
built_takes p board xs w y (Some b) h = by_place (b.worker == w) refl
  where
    by_place : (t : Bool) → (b.worker == w) ≡ t → IfSome (unless_of w (Some b)) (IsBuilt p board (set xs w y))
    by_place true e = subst (λ (r : Option Built). IfSome r (IsBuilt p board (set xs w y))) (sym (cond-true (b.worker == w) None (Some b) e)) tt
    by_place false e = subst (λ (r : Option Built). IfSome r (IsBuilt p board (set xs w y))) (sym (cond-false (b.worker == w) None (Some b) e)) (built_beside p board xs w y b (eqb-false b.worker w e) h)

pub built_grows : (p : Instance) (board more : List Step) (xs : List WorkerState) (b : Built) → All (IsKeptWorker p board) xs → IsBuilt p board xs b → IsBuilt p (board ++ more) xs b
built_grows p board more xs b kept h = record {
  there = h.there;
  is = h.is ∙ sym (extended_kept p board more (taken_at xs b.worker) (kept b.worker nobody h.there).worker.held);
}

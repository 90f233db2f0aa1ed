-- What a list of numbers has once it is sorted, and each of them left once.
use Rattle.std.proofs.Common.{◌≡◌, ℕ, List, get_or, eqb, sym, subst}
use Rattle.std.specs.Prelude.{IsTrue}
use Rattle.std.specs.List.{Contains, dedup}
use Rattle.std.specs.List.Sorted.{IsPermutation}
use Rattle.std.proofs.lemmas.Bool.{eqb-true, eq-eqb}
use Rattle.std.proofs.lemmas.List.Folds.{Any-from_list_any, list_any_at}
use Rattle.std.proofs.lemmas.List.Kept.{Contains-dedup_nat, Contains-from_dedup}
use Rattle.std.proofs.lemmas.List.Sorted.{Contains-permutation, IsPermutation-sym}
use Rattle.mono_graph.specs.Digraph.{has}
use Rattle.mono_graph.proofs.Membership.{same_truth}

contained : (xs : List ℕ) (v : ℕ) → IsTrue (has xs v) → Contains xs v
contained xs v h =
    let (k, x, lt, at, is) = Any-from_list_any (λ x. eqb x v) xs h in
    subst (Contains xs) (eqb-true x v is) (k, lt, at)

held : (xs : List ℕ) (v : ℕ) → Contains xs v → IsTrue (has xs v)
held xs v c = let (k, lt, at) = c in list_any_at (λ x. eqb x v) xs k v lt (eq-eqb (get_or xs k v) v at)

-- sorting a list and leaving out what stands twice keeps what it has
pub kept_once : (xs sorted vs : List ℕ) (v : ℕ) → IsPermutation xs sorted → vs ≡ dedup eqb sorted → has vs v ≡ has xs v
kept_once xs sorted vs v moved is =
    same_truth (has vs v) (has xs v)
    (λ h. held xs v (Contains-permutation sorted xs v (IsPermutation-sym xs sorted moved) (Contains-from_dedup eqb sorted v (subst (λ (ws : List ℕ). Contains ws v) is (contained vs v h)))))
    (λ h. held vs v (subst (λ (ws : List ℕ). Contains ws v) (sym is) (Contains-dedup_nat sorted v (Contains-permutation xs sorted v moved (contained xs v h)))))

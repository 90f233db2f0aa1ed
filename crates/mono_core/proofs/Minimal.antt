-- Cores whose needs are models are minimal.
use Rattle.std.proofs.Common.{◌≡◌, ℕ, zero, suc, ◌+◌, ◌<◌, Bool, true, false, List, [], ◌∷◌, length, get_or, All, refl, sym, ap, subst, ◌∙◌, arith, ℤ}
use Rattle.std.specs.Prelude.{slice_set}
use Rattle.std.specs.List.{remove}
use Rattle.mono_base.specs.Literal.{value_in}
use Rattle.mono_problem.specs.Instance.{Instance}
use Rattle.mono_problem.specs.WellFormed.{IsInstance}
use Rattle.mono_problem.specs.Holds.{Satisfies}
use Rattle.mono_steps.specs.declared.step.Step.{Step}
use Rattle.mono_steps.specs.Renumbering.{pick, rank}
use Rattle.mono_steps.specs.Needed.{is_set}
use Rattle.mono_steps.proofs.Ranks.{picked}
use Rattle.mono_steps.proofs.StepTruth.{refutation_excludes}
use Rattle.mono_problem.specs.Assuming.{assuming, HasRoom}
use Rattle.mono_base.specs.declared.limits.TheConstants.{MAX_VARS}
use Rattle.mono_base.specs.Literal.{IsLitWithin}
use Rattle.mono_problem.proofs.Assumed.{assuming-instance}
use Rattle.mono_core.specs.declared.outcome.Need.{Need}
use Rattle.mono_core.specs.declared.outcome.Need.TheVariants as need
use Rattle.mono_core.specs.Cores.{AreNeeds, IsNeed, IsCore, others_of}
use Rattle.mono_core.specs.Minimal.{IsMinimal, IsModelNeed}
use Rattle.mono_core.proofs.Needs.{room_fewer}
use Rattle.std.proofs.lemmas.List.Elements.{All-cons, All-nil}

abbrev nothing : List ℤ
nothing = []

remove_nil : (k : ℕ) → nothing ≡ remove nothing k
remove_nil zero = refl
remove_nil (suc k) = refl

pick_remove : (bs : List Bool) (xs : List ℤ) (i : ℕ) → is_set bs i ≡ true → pick (slice_set bs i false) xs ≡ remove (pick bs xs) (rank bs i)
pick_remove [] xs i s = let e : false ≡ true = s in absurd cc
pick_remove (b ∷ bs) [] zero s = remove_nil (rank (b ∷ bs) zero)
pick_remove (b ∷ bs) [] (suc i) s = remove_nil (rank (b ∷ bs) (suc i))
pick_remove (true ∷ bs) (x ∷ xs) zero s = refl
pick_remove (false ∷ bs) (x ∷ xs) zero s = let e : false ≡ true = s in absurd cc
pick_remove (true ∷ bs) (x ∷ xs) (suc i) s = ap (λ (ys : List ℤ). x ∷ ys) (pick_remove bs xs i s)
pick_remove (false ∷ bs) (x ∷ xs) (suc i) s = pick_remove bs xs i s

needs_at : (N : ℕ → Need → Type 0) (j : ℕ) (kept : List Bool) (ns : List Need) (i : ℕ) (d : Need) → AreNeeds N j kept ns → is_set kept i ≡ true → (rank kept i < length ns) × N (j + i) (get_or ns (rank kept i) d)
needs_at N j [] ns i d h s = let e : false ≡ true = s in absurd cc
needs_at N j (true ∷ kept) [] i d h s = absurd h
needs_at N j (true ∷ kept) (n ∷ ns) zero d h s = (omega arith, subst (λ (k : ℕ). N k n) (let e : j ≡ j + 0 = omega arith in e) h.0)
needs_at N j (true ∷ kept) (n ∷ ns) (suc i) d h s =
    let rest = needs_at N (suc j) kept ns i d h.1 s in
    (omega (arith, rest.0), subst (λ (k : ℕ). N k (get_or ns (rank kept i) d)) (let e : suc j + i ≡ j + suc i = omega arith in e) rest.1)
needs_at N j (false ∷ kept) ns zero d h s = let e : false ≡ true = s in absurd cc
needs_at N j (false ∷ kept) ns (suc i) d h s =
    let rest = needs_at N (suc j) kept ns i d h s in
    (rest.0, subst (λ (k : ℕ). N k (get_or ns (rank kept i) d)) (let e : suc j + i ≡ j + suc i = omega arith in e) rest.1)

has_model : (p : Instance) (budget : ℕ) (assumed : List ℤ) (kept : List Bool) (j : ℕ) (n : Need) → IsNeed p budget assumed kept j n → IsModelNeed n → (a : ℕ → Bool) × Satisfies (assuming p (others_of assumed kept j)) a
has_model p budget assumed kept j (need.Model values) h m = (value_in values, h.satisfies)
has_model p budget assumed kept j (need.Tried tried steps) h m = absurd m

minimal : (p : Instance) (budget : ℕ) (assumed lits : List ℤ) (steps : List Step) (needs : List Need) → IsInstance (assuming p lits) → IsCore p budget assumed lits steps needs → All IsModelNeed needs → IsMinimal p lits
minimal p budget assumed lits steps needs ok c models = record {
  none = refutation_excludes (assuming p lits) steps ok c.refutes.refutes;
  others = λ k lt.
      let at = picked c.kept assumed k (subst (λ (ls : List ℤ). k < length ls) c.is lt) in
      let j = at.place in
      let d : Need = need.Model [] in
      let own = needs_at (IsNeed p budget assumed c.kept) 0 c.kept needs j d c.needed at.set in
      let one = subst (λ (i : ℕ). IsNeed p budget assumed c.kept i (get_or needs (rank c.kept j) d)) (let e : 0 + j ≡ j = omega arith in e) own.1 in
      let found = has_model p budget assumed c.kept j (get_or needs (rank c.kept j) d) one (models (rank c.kept j) d own.0) in
      let same : others_of assumed c.kept j ≡ remove lits k = pick_remove c.kept assumed j at.set ∙ (ap (remove (pick c.kept assumed)) at.rank_is ∙ ap (λ (ls : List ℤ). remove ls k) (sym c.is)) in
      (found.0, subst (λ (ls : List ℤ). Satisfies (assuming p ls) found.0) same found.1);
}

-- ---- the problem under a core is a problem

pub pick_within : (n : ℕ) (bs : List Bool) (xs : List ℤ) → All (IsLitWithin n) xs → All (IsLitWithin n) (pick bs xs)
pick_within n [] xs h = All-nil (IsLitWithin n)
pick_within n (b ∷ bs) [] h = All-nil (IsLitWithin n)
pick_within n (true ∷ bs) (x ∷ xs) h = All-cons (IsLitWithin n) x (pick bs xs) (h 0 x (omega arith)) (pick_within n bs xs (λ k d lt. h (suc k) d (omega (arith, lt))))
pick_within n (false ∷ bs) (x ∷ xs) h = pick_within n bs xs (λ k d lt. h (suc k) d (omega (arith, lt)))

pub minimal_core : (p : Instance) (budget : ℕ) (assumed lits : List ℤ) (steps : List Step) (needs : List Need) → IsInstance p → All (IsLitWithin MAX_VARS) assumed → HasRoom p assumed → IsCore p budget assumed lits steps needs → All IsModelNeed needs → IsMinimal p lits
minimal_core p budget assumed lits steps needs ok within room c models =
    let fewer = pick c.kept assumed in
    let fine : IsInstance (assuming p lits) = subst (λ (ls : List ℤ). IsInstance (assuming p ls)) (sym c.is) (assuming-instance p fewer ok (pick_within MAX_VARS c.kept assumed within) (room_fewer p assumed c.kept c.as_many room)) in
    minimal p budget assumed lits steps needs fine c models

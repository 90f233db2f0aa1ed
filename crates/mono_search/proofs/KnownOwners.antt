-- The theories that are known to own an atom.
use Rattle.std.proofs.Common.{◌≡◌, ◌∙◌, ℕ, ◌+◌, zero, suc, ◌<◌, ◌≤◌, Bool, true, false, List, [], ◌∷◌, get_or, set, length, replicate, refl, sym, ap, subst, inl, inr, ℤ, All, arith}
use Rattle.std.specs.Prelude.{IsTrue, Option, Some, None, MatchOption, count_by, IsSome, is_some}
use Rattle.std.proofs.lemmas.Bool.{cases_eq, false≢true}
use Rattle.std.proofs.lemmas.List.{length-set, length-replicate, get_or-set_same, get_or-set_other, get_or_default}
use Rattle.mono_problem.specs.declared.atom.Atom.{Atom}
use Rattle.mono_problem.specs.Instance.{Instance, graph_at, numbered}
use Rattle.mono_problem.specs.Quiet.{Forces}
use Rattle.mono_theory.specs.Theories.{Facts, owns_of, atom_of}
use Rattle.mono_theory.specs.Owners.{OwnsEach}
use Rattle.mono_learn.specs.Explain.{AtomForces}
use Rattle.mono_search.specs.TheoryLists.{AreOwners, IsOwnedAt, ForcesIt, owner_of, CanExplain, ExplainsIt}
use Rattle.mono_search.specs.declared.theories.Forced.{Forced}
use Rattle.mono_search.proofs.Owners.{atom_owned, some_atom, numbered_in, one_owner, is_count}

-- a theory owns the atom that it forces
forcing_owns : (f : Facts) (r : Forced) → ForcesIt r f → IsTrue (owns_of f.atoms r.atom)
forcing_owns f r its = by (atom_of f.atoms r.atom) refl its.forced.forces
  where
    by : (o : Option Atom) → atom_of f.atoms r.atom ≡ o → MatchOption o ⊥ (λ x. Forces f.graph x f.seen r.lit) → IsTrue (owns_of f.atoms r.atom)
    by None e h = absurd h
    by (Some x) e h = atom_owned f.atoms r.atom x e

pub owner_fits : (fs : List Facts) (owners : List (Option ℕ)) (k : ℕ) (r : Forced) (f : Facts) → AreOwners fs owners → k < length fs → f ≡ get_or fs k f → ForcesIt r f → r.atom < length owners
owner_fits fs owners k r f o lt at its = o.fits k f lt r.atom (subst (λ (g : Facts). IsTrue (owns_of g.atoms r.atom)) at (forcing_owns f r its))

-- the theory that forces the atom is known
pub one_known : (fs : List Facts) (owners : List (Option ℕ)) (k : ℕ) (r : Forced) (f : Facts) → AreOwners fs owners → k < length fs → f ≡ get_or fs k f → ForcesIt r f → AreOwners fs (set owners r.atom (Some k))
one_known fs owners k r f o lt at its = record {
  fits = λ i d within n own. let fits = o.fits i d within n own in omega (arith, fits, length-set owners r.atom (Some k));
  named = λ n j is. elim (cases_eq n r.atom) [
    | inl e ↦ subst (λ (m : ℕ). IsOwnedAt fs m j) (sym e) (subst (IsOwnedAt fs r.atom) (place n j e is) here)
    | inr ne ↦ o.named n j (sym (get_or-set_other owners r.atom n (Some k) None ne) ∙ is)
  ];
}
  where
    here : IsOwnedAt fs r.atom k
    here = record { within = lt; owns = λ d. subst (λ (g : Facts). IsTrue (owns_of g.atoms r.atom)) (at ∙ get_or_default fs k f d lt) (forcing_owns f r its) }

    some_is : (x y : ℕ) → Some x ≡ Some y → x ≡ y
    some_is x y e = cc

    place : (n j : ℕ) → n ≡ r.atom → get_or (set owners r.atom (Some k)) n None ≡ Some j → k ≡ j
    place n j e is = some_is k j (sym (ap (λ (m : ℕ). get_or (set owners r.atom (Some k)) m None) e ∙ get_or-set_same owners r.atom (Some k) None (owner_fits fs owners k r f o lt at its)) ∙ is)

-- at first none is known
pub none_known : (p : Instance) (fs : List Facts) (owners : List (Option ℕ)) → OwnsEach p fs → owners ≡ replicate (length p.atoms + 1) None → AreOwners fs owners
none_known p fs owners own e = record {
  fits = λ i d lt n owned.
      let x = some_atom (get_or fs i d).atoms n owned in
      let held = own.exact i d lt x.at x.atom x.lt in
      let atom : numbered p.atoms n ≡ Some x.atom = subst (λ (m : ℕ). numbered p.atoms m ≡ Some x.atom) x.number (subst (λ (y : Atom). numbered p.atoms y.number ≡ Some y) x.is held) in
      let high = (numbered_in p.atoms n x.atom atom).1 in
      omega (arith, high, ap length e, length-replicate (length p.atoms + 1) (let none : Option ℕ = None in none));
  named = λ n k is. absurd (not_some k (sym (ap (λ (os : List (Option ℕ)). get_or os n None) e ∙ nothing (length p.atoms + 1) n) ∙ is));
}
  where
    nothing : (m n : ℕ) → get_or {A = Option ℕ} (replicate m None) n None ≡ None
    nothing zero n = refl
    nothing (suc m) zero = refl
    nothing (suc m) (suc n) = nothing m n

    not_some : (k : ℕ) → ◌≡◌ {A = Option ℕ} None (Some k) → ⊥
    not_some k e = absurd cc

-- whoever owns the atom, where one does, is its owner
pub owner_is : (fs : List Facts) (n k : ℕ) (d : Facts) → count_by (λ f. owns_of f.atoms n) fs ≡ 1 → IsOwnedAt fs n k → owner_of fs n ≡ Some (get_or fs k d)
owner_is fs n k d once o = (one_owner n fs k d o.within (o.owns d) (is_count n fs ∙ once)).1

-- what can be explained is owned, and has an entry
pub has_owner : (fs : List Facts) (n : ℕ) (l : ℤ) (kept : ℕ) → CanExplain fs n l kept → IsSome (owner_of fs n)
has_owner fs n l kept can = by (owner_of fs n) refl can
  where
    by : (o : Option Facts) → owner_of fs n ≡ o → MatchOption o ⊥ (ExplainsIt n l kept) → IsSome (owner_of fs n)
    by None e h = absurd h
    by (Some f) e h = ap is_some e

pub has_entry : (fs : List Facts) (n m : ℕ) → All (λ f. (k : ℕ) → IsTrue (owns_of f.atoms k) → k < m) fs → IsSome (owner_of fs n) → n < m
has_entry [] n m fits some = absurd (false≢true some)
has_entry (f ∷ fs) n m fits some = by (owns_of f.atoms n) refl (has_entry fs n m (λ i d lt. fits (suc i) d (omega (arith, lt))))
  where
    by : (b : Bool) → owns_of f.atoms n ≡ b → (IsSome (owner_of fs n) → n < m) → n < m
    by true e rest = fits 0 f (omega arith) n e
    by false e rest = rest (rw e at some)

-- an atom that forces something is one of the problem's
pub forcing_is_there : (p : Instance) (n : ℕ) (l : ℤ) (t : List ℤ) → AtomForces p t n l → (0 < n) × (n ≤ length p.atoms)
forcing_is_there p n l t forces = by (numbered p.atoms n) refl forces
  where
    by : (o : Option Atom) → numbered p.atoms n ≡ o → MatchOption o ⊥ (λ x. Forces (graph_at p x.graph) x t l) → (0 < n) × (n ≤ length p.atoms)
    by None e h = absurd h
    by (Some x) e h = numbered_in p.atoms n x e

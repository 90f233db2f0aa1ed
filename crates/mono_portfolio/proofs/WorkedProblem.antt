-- The problem of the worked rows is one, and what is learned over it.
use Rattle.std.proofs.Common.{◌≡◌, ℕ, ◌<◌, ◌≤◌, ◌||◌, Bool, true, false, ℤ, [], ◌∷◌, All, Some, pos, refl, lit<, arith}
use Rattle.std.specs.Ordering.{int_eq}
use Rattle.std.specs.Prelude.{slice_index_or}
use Rattle.std.proofs.lemmas.List.Elements.{All-nil, All-cons}
use Rattle.mono_base.specs.declared.limits.TheConstants.{MAX_NODES, MAX_EDGES, MAX_LITERALS}
use Rattle.mono_base.specs.Literal.{IsLitWithin}
use Rattle.mono_problem.specs.declared.atom.Atom.{Atom}
use Rattle.mono_problem.specs.Instance.{identity_at, place_named}
use Rattle.mono_problem.specs.WellFormed.{IsInstance, IsAtomAt, IsDeclared, count_numbered}
use Rattle.mono_steps.specs.New.{IsExactEnd, IsNewClause, IsProgress}
use Rattle.mono_steps.specs.WorkedLemmas.{minus}
use Rattle.mono_steps.proofs.WorkedNew.{one_is_new}
use Rattle.mono_search.specs.Worked.{two_clauses, first_learned}
use Rattle.mono_portfolio.specs.Worked.{four_clauses, given_first}

two : (l m : ℤ) → IsLitWithin 2 l → IsLitWithin 2 m → All (IsLitWithin 2) (l ∷ m ∷ [])
two l m h k = All-cons (IsLitWithin 2) l (m ∷ []) h (All-cons (IsLitWithin 2) m [] k (All-nil (IsLitWithin 2)))

pub two_clauses_ok : IsInstance two_clauses
two_clauses_ok = record {
  vars = omega arith;
  few_graphs = omega arith;
  few_nodes = let few : 0 ≤ MAX_NODES = omega arith in few;
  few_edges = let few : 0 ≤ MAX_EDGES = omega arith in few;
  few_atoms = omega arith;
  few_clauses = omega arith;
  few_literals = let few : 4 ≤ MAX_LITERALS = omega arith in few;
  identities = identities;
  graphs = All-nil (IsDeclared 2 0);
  numbers = numbers;
  atoms = atoms;
  clauses = All-cons (All (IsLitWithin 2)) (pos 1 ∷ pos 2 ∷ []) ((pos 1 ∷ minus 2 ∷ []) ∷ []) (two (pos 1) (pos 2) (omega arith, omega arith) (omega arith, omega arith))
      (All-cons (All (IsLitWithin 2)) (pos 1 ∷ minus 2 ∷ []) [] (two (pos 1) (minus 2) (omega arith, omega arith) (omega arith, omega arith)) (All-nil (All (IsLitWithin 2))));
}
  where
    identities : (k : ℕ) → k < 0 → place_named two_clauses.graphs (identity_at two_clauses k) ≡ Some k
    identities k lt = absurd (omega (arith, lt))

    numbers : (n : ℕ) → 0 < n → n ≤ 0 → count_numbered n two_clauses.graphs ≡ 1
    numbers n low high = absurd (omega (arith, low, high))

    atoms : (k : ℕ) (d : Atom) → k < 0 → IsAtomAt two_clauses k (slice_index_or two_clauses.atoms k d)
    atoms k d lt = absurd (omega (arith, lt))

-- one clause was learned over it
pub one_learned : IsProgress two_clauses 1 first_learned
one_learned = record { justified = refl; new = one_is_new two_clauses refl refl refl; chains = refl; few = lit< tt; short = lit< tt }

-- ---- {1, 2} is learned over the four clauses

two_twice : (a b : Bool) → (a || (b || false)) ≡ (a || (b || (a || (b || false))))
two_twice true b = refl
two_twice false true = refl
two_twice false false = refl

first_end : IsExactEnd four_clauses.clauses (record { clause = pos 1 ∷ pos 2 ∷ []; used = 1 ∷ 2 ∷ [] })
first_end = record { named = refl; end = pos 1 ∷ pos 2 ∷ pos 1 ∷ pos 2 ∷ []; is_end = refl; same = λ l. two_twice (int_eq l (pos 1)) (int_eq l (pos 2)) }

first_open : IsNewClause four_clauses.clauses (pos 1 ∷ pos 2 ∷ [])
first_open = record { under = minus 2 ∷ []; partial = refl; quiet = refl; lit = pos 1; is_literal = refl; has = refl; is_open = refl; others = refl }

pub first_given : IsProgress four_clauses 1 (given_first ∷ [])
first_given = record { justified = refl; new = record { chains = ((λ full. record { exact = first_end; new = first_open }), tt); none_empty = refl }; chains = refl; few = lit< tt; short = lit< tt }

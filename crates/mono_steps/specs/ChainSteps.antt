-- Chains as steps: what justifies one, and what is wrong with one. `earlier` are all clauses before a chain, those of the
-- problem and then those of the earlier steps; they are numbered from 1.
use Rattle.std.specs.Prelude.{ℕ, Bool, false, not, ◌&&◌, ◌||◌, nat_le, ℤ, List, [], ◌∷◌, length, filter_map, Option, Some, None, is_none}
use Rattle.std.specs.List.{list_all}
use Rattle.mono_base.specs.Literal.{var_of, within}
use Rattle.mono_problem.specs.Instance.{Instance, numbered}
use Rattle.mono_steps.specs.declared.step.Chain.{Chain}
use Rattle.mono_steps.specs.declared.fault.StepFault.{StepFault}
use Rattle.mono_steps.specs.declared.fault.StepFault.TheVariants as fault
use Rattle.mono_steps.specs.Chains.{chain_end}
use Rattle.mono_steps.specs.Faults.{first_failed}

-- each literal is over the problem's variables
abbrev pub names_vars : Instance → List ℤ → Bool
names_vars p c = list_all (λ l. nat_le 1 (var_of l) && nat_le (var_of l) p.vars) c

-- each number is that of an earlier clause
abbrev pub names_clauses : List (List ℤ) → List ℕ → Bool
names_clauses earlier ns = list_all (λ n. nat_le 1 n && nat_le n (length earlier)) ns

-- the clauses of these numbers
abbrev pub clauses_named : List (List ℤ) → List ℕ → List (List ℤ)
clauses_named earlier ns = filter_map (numbered earlier) ns

-- the clause contains the end of the chain, if there is one
abbrev pub covers : List ℤ → Option (List ℤ) → Bool
covers c None = false
covers c (Some e) = within e c

-- the chain's literals are over the problem's variables, it names one or more earlier clauses and no others, it has an end, and
-- its clause contains that end
abbrev pub is_justified_chain : Instance → List (List ℤ) → Chain → Bool
is_justified_chain p earlier c = names_vars p c.clause && names_clauses earlier c.used && covers c.clause (chain_end (clauses_named earlier c.used))

-- the first fault of a chain, in the order of the checks
abbrev pub chain_fault : Instance → List (List ℤ) → Chain → Option StepFault
chain_fault p earlier c =
    let end = chain_end (clauses_named earlier c.used) in
    first_failed (
    (not (names_vars p c.clause) || not (names_clauses earlier c.used), fault.UnknownNumber)
    ∷ (is_none end, fault.ChainStuck)
    ∷ (not (covers c.clause end), fault.NotCovered) ∷ []
    )

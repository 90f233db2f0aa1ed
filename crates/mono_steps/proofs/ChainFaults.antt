-- A chain has no fault exactly where it is justified.
use Rattle.std.proofs.Common.{◌≡◌, Bool, true, false, not, ◌&&◌, ◌||◌, List, [], ◌∷◌, Option, Some, None, is_none, refl, ◌↔◌, ℤ}
use Rattle.std.specs.Prelude.{IsTrue}
use Rattle.mono_problem.specs.Instance.{Instance}
use Rattle.mono_steps.specs.declared.step.Chain.{Chain}
use Rattle.mono_steps.specs.declared.fault.StepFault.TheVariants as fault
use Rattle.mono_steps.specs.Chains.{chain_end}
use Rattle.mono_steps.specs.ChainSteps.{chain_fault, names_vars, names_clauses, clauses_named, covers, is_justified_chain}
use Rattle.mono_steps.specs.Faults.{first_failed}

by_checks : (v n u k : Bool) → (u ≡ true → k ≡ false) → (first_failed ((not v || not n, fault.UnknownNumber) ∷ (u, fault.ChainStuck) ∷ (not k, fault.NotCovered) ∷ []) ≡ None) ↔ IsTrue (v && n && k)
by_checks false n u k h = (λ e. absurd cc, λ e. absurd cc)
by_checks true false u k h = (λ e. absurd cc, λ e. absurd cc)
by_checks true true true false h = (λ e. absurd cc, λ e. absurd cc)
by_checks true true true true h = absurd (let e = h refl in cc)
by_checks true true false false h = (λ e. absurd cc, λ e. absurd cc)
by_checks true true false true h = (λ e. refl, λ e. refl)

not_covered : (c : List ℤ) (o : Option (List ℤ)) → is_none o ≡ true → covers c o ≡ false
not_covered c None h = refl
not_covered c (Some e) h = absurd cc

pub no_fault_in : (p : Instance) (earlier : List (List ℤ)) (c : Chain) → (chain_fault p earlier c ≡ None) ↔ IsTrue (is_justified_chain p earlier c)
no_fault_in p earlier c =
    let end = chain_end (clauses_named earlier c.used) in
    by_checks (names_vars p c.clause) (names_clauses earlier c.used) (is_none end) (covers c.clause end) (not_covered c.clause end)

use Rattle.std.proofs.Common.{◌≡◌, ℕ, zero, suc, ◌≤◌, Bool, true, false, List, [], ◌∷◌, codes, Option, Some, refl, ap, subst, arith, ℤ, pos}
use Rattle.std.specs.Prelude.{IsTrue}
use Rattle.mono_base.specs.Partial.{has_var, is_partial}
use Rattle.mono_steps.specs.ChainSteps.{names_vars}
use Rattle.mono_steps.specs.WorkedLemmas.{minus}
use Rattle.mono_answer.specs.declared.item.Item.{Item}
use Rattle.mono_answer.specs.declared.item.Item.TheVariants as item
use Rattle.mono_answer.specs.declared.kind.Kind.TheVariants as kind
use Rattle.mono_check.specs.Values.{model_of}
use Rattle.mono_check.specs.Worked.{alone}
use Rattle.mono_rows.proofs.ModelRows.{lits_said, lines_are_values}
use Rattle.mono_rows.proofs.verdicts.values_of_a_text.Goals as goal

each : (x : ℕ) → 1 ≤ x → x ≤ 2 → IsTrue (has_var (minus 2 ∷ pos 1 ∷ []) x)
each zero low high = absurd (omega (arith, low))
each (suc zero) low high = refl
each (suc (suc zero)) low high = refl
each (suc (suc (suc x))) low high = absurd (omega (arith, high))

abbrev begins_model : List (ℕ × Option Item) → Bool
begins_model ((n, Some (item.Status kind.Model)) ∷ ls) = true
begins_model ls = false

pub returns-clause-values : goal.returns-clause-values
returns-clause-values c = record {
  lines = _;
  rows = (minus 2 ∷ []) ∷ (pos 1 ∷ pos 0 ∷ []) ∷ [];
  lits = minus 2 ∷ pos 1 ∷ [];
  behind = (1, refl);
  alone = refl;
  numbers = refl;
  one_each = record { known = refl; once = refl; each = each };
  true_where = refl;
}

pub returns-clause-other_values : goal.returns-clause-other_values
returns-clause-other_values c = λ h.
    let lits : h.lits ≡ minus 2 ∷ pos 1 ∷ [] = lits_said (alone 2) (codes "s SATISFIABLE\nv -2\nv 1 0\n") (true ∷ true ∷ []) h in
    let said : model_of (alone 2) h.lits ≡ true ∷ false ∷ [] = ap (λ (ls : List ℤ). model_of (alone 2) ls) lits in
    let values : true ∷ true ∷ [] ≡ model_of (alone 2) h.lits = h.true_where in
    cc

pub returns-clause-variable_missing : goal.returns-clause-variable_missing
returns-clause-variable_missing c = λ h.
    let lits : h.lits ≡ pos 1 ∷ [] = lits_said (alone 2) (codes "s SATISFIABLE\nv 1 0\n") (true ∷ false ∷ []) h in
    let e : false ≡ true = subst (λ (ls : List ℤ). IsTrue (has_var ls 2)) lits (h.one_each.each 2 (omega arith) (omega arith)) in
    cc

pub returns-clause-variable_twice : goal.returns-clause-variable_twice
returns-clause-variable_twice c = λ h.
    let lits : h.lits ≡ pos 1 ∷ minus 1 ∷ [] = lits_said (alone 1) (codes "s SATISFIABLE\nv 1 -1 0\n") (true ∷ []) h in
    let e : false ≡ true = subst (λ (ls : List ℤ). IsTrue (is_partial ls)) lits h.one_each.once in
    cc

pub returns-clause-variable_beyond : goal.returns-clause-variable_beyond
returns-clause-variable_beyond c = λ h.
    let lits : h.lits ≡ pos 1 ∷ pos 2 ∷ [] = lits_said (alone 1) (codes "s SATISFIABLE\nv 1 2 0\n") (true ∷ []) h in
    let e : false ≡ true = subst (λ (ls : List ℤ). IsTrue (names_vars (alone 1) ls)) lits h.one_each.known in
    cc

pub returns-clause-no_end : goal.returns-clause-no_end
returns-clause-no_end c = λ h.
    let lits : h.lits ≡ [] = lits_said (alone 1) (codes "s SATISFIABLE\nv 1\n") (true ∷ []) h in
    let e : false ≡ true = subst (λ (ls : List ℤ). IsTrue (has_var ls 1)) lits (h.one_each.each 1 (omega arith) (omega arith)) in
    cc

pub returns-clause-other_line : goal.returns-clause-other_line
returns-clause-other_line c = λ h. let e : false ≡ true = lines_are_values (alone 1) (codes "s SATISFIABLE\nv 1 0\nchain 1 0 1\n") (true ∷ []) h in cc

pub returns-clause-other_kind : goal.returns-clause-other_kind
returns-clause-other_kind c = λ h. let e : false ≡ true = ap begins_model h.behind.1 in cc

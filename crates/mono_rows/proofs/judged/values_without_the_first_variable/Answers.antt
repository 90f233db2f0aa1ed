use Rattle.std.proofs.Common.{◌≡◌, true, false, List, [], ◌∷◌, codes, subst, arith, ℤ, pos}
use Rattle.std.specs.Prelude.{IsTrue}
use Rattle.mono_base.specs.Partial.{has_var}
use Rattle.mono_check.specs.Worked.{alone}
use Rattle.mono_rows.proofs.ModelRows.{lits_said}
use Rattle.mono_rows.proofs.judged.values_without_the_first_variable.Goals as goal

pub returns-clause-alone : goal.returns-clause-alone
returns-clause-alone c = λ h.
    let lits : h.lits ≡ [] = lits_said (alone 1) (codes "s SATISFIABLE\nv 0\n") (false ∷ []) h in
    let e : false ≡ true = subst (λ (ls : List ℤ). IsTrue (has_var ls 1)) lits (h.one_each.each 1 (omega arith) (omega arith)) in
    cc

pub returns-clause-beside_another : goal.returns-clause-beside_another
returns-clause-beside_another c = λ h.
    let lits : h.lits ≡ pos 2 ∷ [] = lits_said (alone 2) (codes "s SATISFIABLE\nv 2 0\n") (false ∷ true ∷ []) h in
    let e : false ≡ true = subst (λ (ls : List ℤ). IsTrue (has_var ls 1)) lits (h.one_each.each 1 (omega arith) (omega arith)) in
    cc

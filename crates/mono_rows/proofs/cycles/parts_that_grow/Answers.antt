use Rattle.std.proofs.Common.{◌≡◌, ℕ, zero, suc, false, true, ◌||◌, refl, sym, arith}
use Rattle.std.specs.Prelude.{◌==◌}
use Rattle.std.proofs.lemmas.Bool.{ne_eqb}
use Rattle.mono_graph.specs.Digraph.{present}
use Rattle.mono_graph.specs.Worked.{both, first_alone}
use Rattle.mono_rows.proofs.cycles.parts_that_grow.Goals as goal

by_the_last : (k : ℕ) → present both k ≡ (present first_alone k || k == 1)
by_the_last zero = refl
by_the_last (suc zero) = refl
by_the_last (suc (suc k)) = sym (ne_eqb (suc (suc k)) 1 (λ e. omega (arith, e)))

by_none : (k : ℕ) → present first_alone k ≡ (present first_alone k || k == 0)
by_none zero = refl
by_none (suc zero) = refl
by_none (suc (suc k)) = sym (ne_eqb (suc (suc k)) 0 (λ e. omega (arith, e)))

pub returns-clause-grown : goal.returns-clause-grown
returns-clause-grown c = record { each = by_the_last }

pub returns-clause-by_none : goal.returns-clause-by_none
returns-clause-by_none c = record { each = by_none }

pub returns-clause-edge_missing : goal.returns-clause-edge_missing
returns-clause-edge_missing c = λ grown. let e : false ≡ true = grown.each 1 in cc

pub returns-clause-by_another : goal.returns-clause-by_another
returns-clause-by_another c = λ grown. let e : true ≡ false = grown.each 0 in cc

pub returns-clause-edge_lost : goal.returns-clause-edge_lost
returns-clause-edge_lost c = λ grown. let e : false ≡ true = grown.each 0 in cc

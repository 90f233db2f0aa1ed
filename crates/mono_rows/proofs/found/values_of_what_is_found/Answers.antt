use Rattle.std.proofs.Common.{◌≡◌, ℕ, List, refl, sym, subst, pos, arith}
use Rattle.std.proofs.lemmas.Int.{ints}
use Rattle.mono_graph.specs.declared.amount.Amount.{Amount}
use Rattle.mono_graph.specs.Digraph.{leads_out, present_by, weight_of}
use Rattle.mono_graph.specs.Flows.{amount_at, value_of}
use Rattle.mono_graph.specs.Worked.{parallel, first_alone}
use Rattle.mono_rows.proofs.found.values_of_what_is_found.Goals as goal

abbrev Carries : ℕ → List Amount → Type 0
Carries n amounts = value_of (parallel 1 4) 0 (amount_at amounts) ≡ pos n

abbrev Weighs : ℕ → List ℕ → Type 0
Weighs n s = n ≡ weight_of (parallel 1 4) (present_by (leads_out s) (parallel 1 4) first_alone)

pub returns-clause-flow : goal.returns-clause-flow
returns-clause-flow c = λ amounts is. subst (Carries 5) (sym is) refl

pub returns-clause-less : goal.returns-clause-less
returns-clause-less c = λ amounts is v. let e : pos 5 ≡ pos 4 = subst (Carries 4) is v in omega (arith, ints, e)

pub returns-clause-cut : goal.returns-clause-cut
returns-clause-cut c = λ nodes is. subst (Weighs 1) (sym is) refl

pub returns-clause-absent_edge : goal.returns-clause-absent_edge
returns-clause-absent_edge c = λ nodes is v. let e : 5 ≡ 1 = subst (Weighs 5) is v in omega (arith, e)

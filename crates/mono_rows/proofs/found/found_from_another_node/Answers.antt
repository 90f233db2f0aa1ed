use Rattle.std.proofs.Common.{◌≡◌, ℕ, List, [], ◌∷◌, refl, sym, subst, pos, ◌≤ℤ◌, arith}
use Rattle.std.specs.Prelude.{IsTrue, All}
use Rattle.std.proofs.lemmas.Int.{ints}
use Rattle.std.proofs.lemmas.List.Elements.{All-nil, All-cons}
use Rattle.mono_graph.specs.declared.amount.Amount.{Amount}
use Rattle.mono_graph.specs.declared.label.Label.{Label}
use Rattle.mono_graph.specs.declared.limit.Limit.TheVariants as limit
use Rattle.mono_graph.specs.Digraph.{is_distinct}
use Rattle.mono_graph.specs.Flows.{amount_at, value_of}
use Rattle.mono_graph.specs.Walks.{bound_of}
use Rattle.mono_graph.specs.Worked.{label, pipe, round_trip, both, last_alone}
use Rattle.mono_paths.specs.Asked.{HasPath}
use Rattle.mono_paths.specs.Found.{with_bound}
use Rattle.mono_rows.proofs.found.found_from_another_node.Goals as goal

-- ---- walks from node 1

abbrev IsReached : ℕ → Type 0
IsReached v = HasPath (pipe 1 1) last_alone 1 v limit.Free

abbrev AreReached : List ℕ → Type 0
AreReached s = IsTrue (is_distinct s) × All (λ v. HasPath (pipe 1 1) last_alone 1 v limit.Free) s

both_reached : AreReached (2 ∷ 1 ∷ [])
both_reached = (refl, All-cons IsReached 2 (1 ∷ []) (1 ∷ [], refl) (All-cons IsReached 1 [] ([], refl) (All-nil IsReached)))

pub returns-clause-cut : goal.returns-clause-cut
returns-clause-cut c = λ nodes is. subst AreReached (sym is) both_reached

abbrev IsReachedLabel : Label → Type 0
IsReachedLabel x = (pos x.value ≤ℤ bound_of (limit.Weight (pos 5))) × HasPath (pipe 3 2) both 1 x.node (with_bound (limit.Weight (pos 5)) (pos x.value))

abbrev AreReachedLabels : List Label → Type 0
AreReachedLabels ls = All (λ x. (pos x.value ≤ℤ bound_of (limit.Weight (pos 5))) × HasPath (pipe 3 2) both 1 x.node (with_bound (limit.Weight (pos 5)) (pos x.value))) ls

weighs_2 : AreReachedLabels (label 2 2 ∷ [])
weighs_2 = All-cons IsReachedLabel (label 2 2) [] (omega (arith, ints), (1 ∷ [], refl)) (All-nil IsReachedLabel)

pub returns-clause-labels : goal.returns-clause-labels
returns-clause-labels c = λ labels is. subst AreReachedLabels (sym is) weighs_2

-- ---- flows from node 1

abbrev Carries : List Amount → Type 0
Carries amounts = value_of (round_trip 2 3) 1 (amount_at amounts) ≡ pos 2

pub returns-clause-exact : goal.returns-clause-exact
returns-clause-exact c = λ amounts is. subst Carries (sym is) refl

pub returns-clause-value : goal.returns-clause-value
returns-clause-value c = λ amounts is. subst Carries (sym is) refl

pub returns-clause-flow : goal.returns-clause-flow
returns-clause-flow c = record { passes = refl; value = refl }

use Rattle.std.proofs.Common.{◌<◌, List, [], ◌∷◌, sym, subst, arith}
use Rattle.std.specs.Prelude.{All}
use Rattle.std.proofs.lemmas.List.Elements.{All-nil, All-cons, All-head, All-tail}
use Rattle.mono_graph.specs.declared.amount.Amount.{Amount}
use Rattle.mono_graph.specs.Worked.{amount}
use Rattle.mono_rows.proofs.found.flows_that_carry.Goals as goal

abbrev AreCarrying : List Amount → Type 0
AreCarrying xs = All (λ (a : Amount). 0 < a.amount) xs

pub returns-clause-something : goal.returns-clause-something
returns-clause-something c = λ amounts is. subst AreCarrying (sym is) (All-cons (λ (a : Amount). 0 < a.amount) (amount 1 1) [] (omega arith) (All-nil (λ (a : Amount). 0 < a.amount)))

pub returns-clause-nothing_last : goal.returns-clause-nothing_last
returns-clause-nothing_last c = λ amounts is all.
    let low : 0 < 0 = All-head (λ (a : Amount). 0 < a.amount) (amount 1 0) [] (All-tail (λ (a : Amount). 0 < a.amount) (amount 0 1) (amount 1 0 ∷ []) (subst AreCarrying is all)) in
    omega (arith, low)

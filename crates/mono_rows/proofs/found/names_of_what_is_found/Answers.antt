use Rattle.std.proofs.Common.{ℕ, ◌<◌, List, [], sym, subst, arith}
use Rattle.std.specs.Prelude.{All}
use Rattle.std.proofs.lemmas.List.Elements.{All-nil, All-cons, All-head}
use Rattle.mono_graph.specs.declared.amount.Amount.{Amount}
use Rattle.mono_graph.specs.Worked.{amount}
use Rattle.mono_rows.proofs.found.names_of_what_is_found.Goals as goal

abbrev AreEdges : List Amount → Type 0
AreEdges xs = All (λ (a : Amount). a.edge < 2) xs

abbrev AreNodes : List ℕ → Type 0
AreNodes s = All (λ (u : ℕ). u < 3) s

pub returns : goal.returns
returns c = record {
  last_edge = λ amounts is. subst AreEdges (sym is) (All-cons (λ (a : Amount). a.edge < 2) (amount 1 1) [] (omega arith) (All-nil (λ (a : Amount). a.edge < 2)));
  no_edge = λ amounts is known. let low : 2 < 2 = All-head (λ (a : Amount). a.edge < 2) (amount 2 1) [] (subst AreEdges is known) in omega (arith, low);
  last_node = λ nodes is. subst AreNodes (sym is) (All-cons (λ (u : ℕ). u < 3) 2 [] (omega arith) (All-nil (λ (u : ℕ). u < 3)));
  no_node = λ nodes is known. let low : 3 < 3 = All-head (λ (u : ℕ). u < 3) 3 [] (subst AreNodes is known) in omega (arith, low);
}

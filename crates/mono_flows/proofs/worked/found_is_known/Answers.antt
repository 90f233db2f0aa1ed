use Rattle.std.proofs.Common.{ℕ, ◌<◌, List, [], sym, subst, arith}
use Rattle.std.specs.Prelude.{All}
use Rattle.std.proofs.lemmas.List.Elements.{All-nil, All-cons, All-head}
use Rattle.mono_graph.specs.declared.amount.Amount.{Amount}
use Rattle.mono_graph.specs.Worked.{amount}
use Rattle.mono_flows.proofs.worked.found_is_known.Goals as goal

pub returns : goal.returns
returns c = record {
  last_edge = λ amounts is. subst (λ (xs : List Amount). All (λ (a : Amount). a.edge < 2) xs) (sym is) (All-cons (λ (a : Amount). a.edge < 2) (amount 1 1) [] (omega arith) (All-nil (λ (a : Amount). a.edge < 2)));
  no_edge = λ amounts is p.
      let low : 2 < 2 = All-head (λ (a : Amount). a.edge < 2) (amount 2 1) [] (subst (λ (xs : List Amount). All (λ (a : Amount). a.edge < 2) xs) is p) in
      omega (arith, low);
  last_node = λ nodes is. subst (λ (s : List ℕ). All (λ (u : ℕ). u < 2) s) (sym is) (All-cons (λ (u : ℕ). u < 2) 1 [] (omega arith) (All-nil (λ (u : ℕ). u < 2)));
  no_node = λ nodes is p.
      let low : 2 < 2 = All-head (λ (u : ℕ). u < 2) 2 [] (subst (λ (s : List ℕ). All (λ (u : ℕ). u < 2) s) is p) in
      omega (arith, low);
}

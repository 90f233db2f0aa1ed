use Rattle.std.proofs.Common.{◌≡◌, List, map, take, inl, inr, ◌∙◌, arith, subst}
use Rattle.std.proofs.lemmas.List.{take_all}
use Rattle.mono_graph.specs.declared.amount.Amount.{Amount}
use Rattle.mono_graph.specs.Digraph.{edge_at}
use Rattle.mono_graph.proofs.Prefixes.{Cleared, cleared_all}
use Rattle.mono_flows.proofs.ListedSums.{not_ended}
use Rattle.mono_flows.proofs.node_sums.NodeSums.clear.Goals as goal

pub returns : goal.returns
returns c =
    let g = c.args.graph.now in
    let amounts : List Amount = c.args.amounts.now in
    let was = c.args.self.now in
    let now = c.loop-amount.self in
    let whole : take c.loop-amount.amount-index amounts ≡ amounts = take_all c.loop-amount.amount-index amounts (omega arith) in
    let leaving = subst (λ (xs : List Amount). Cleared 0 was.leaving.items now.leaving.items (map (λ (a : Amount). (edge_at g a.edge).from) xs)) whole c.loop-amount.invariant.leaving in
    let entering = subst (λ (xs : List Amount). Cleared 0 was.entering.items now.entering.items (map (λ (a : Amount). (edge_at g a.edge).to) xs)) whole c.loop-amount.invariant.entering in
    record {
      len = record { leaving = leaving.len ∙ c.requires.sums.leaving; entering = entering.len ∙ c.requires.sums.entering };
      leaving = λ u. cleared_all 0 was.leaving.items now.leaving.items (map (λ (a : Amount). (edge_at g a.edge).from) amounts) leaving u
          (λ off. elim (c.requires.listed.leaving u) [ inl z ↦ z | inr s ↦ s ∙ not_ended (λ e. e.from) g amounts u off ]);
      entering = λ u. cleared_all 0 was.entering.items now.entering.items (map (λ (a : Amount). (edge_at g a.edge).to) amounts) entering u
          (λ off. elim (c.requires.listed.entering u) [ inl z ↦ z | inr s ↦ s ∙ not_ended (λ e. e.to) g amounts u off ]);
    }

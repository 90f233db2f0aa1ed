use Rattle.std.proofs.Common.{◌<◌, ℕ, List, length, sym, subst, arith}
use Rattle.std.specs.Prelude.{All}
use Rattle.std.proofs.lemmas.List.Elements.{All-map, All-nil}
use Rattle.mono_graph.specs.declared.amount.Amount.{Amount}
use Rattle.mono_flows.specs.declared.mend.Imbalance.{Imbalance}
use Rattle.mono_flows.proofs.mend.Preflow.of.Goals as goal

pub returns : goal.returns
returns c =
    let n = c.args.network.now in
    record {
      amounts = omega (arith, c.put_amounts.ensures.len, c.in_ok-amounts.ensures, c.edge_count-edges.ensures);
      touched = subst (λ (ks : List ℕ). All (λ (k : ℕ). k < length n.graph.now.edges) ks) (sym c.in_ok-touched.ensures)
          (All-map (λ (k : ℕ). k < length n.graph.now.edges) (λ (a : Amount). a.edge) c.args.listed.now c.requires);
      pending = subst (λ (xs : List Imbalance). All (λ (i : Imbalance). i.node < n.graph.now.nodes) xs) (sym c.new.ensures.items) (All-nil (λ (i : Imbalance). i.node < n.graph.now.nodes));
    }

use Rattle.std.proofs.Common.{◌<◌, ℕ, List, length, sym, subst, arith}
use Rattle.std.specs.Prelude.{All, IsTrue}
use Rattle.std.proofs.lemmas.List.Elements.{All-map}
use Rattle.mono_graph.specs.declared.amount.Amount.{Amount}
use Rattle.mono_graph.specs.Digraph.{has}
use Rattle.mono_flows.proofs.KeptFlows.{carrying_listed, same_flowing}
use Rattle.mono_flows.specs.Residual.{amount_of}
use Rattle.mono_flows.proofs.kept_flow.kept_flow.Goals as goal

pub returns-clause-flow : goal.returns-clause-flow
returns-clause-flow c =
    let n = c.args.network.now in
    let xs : List Amount = c.args.amounts.now in
    let same = c.put_amounts.ensures.amounts c.in-Some.ensures.distinct c.take_amounts-carried.ensures.empty in
    record {
      len = omega (arith, c.put_amounts.ensures.len, c.take_amounts-carried.ensures.len, c.tested_value.ensures.fits.amounts);
      known = subst (λ (ks : List ℕ). All (λ (k : ℕ). k < length n.graph.now.edges) ks) (sym c.in_ok-touched.ensures)
          (All-map (λ (k : ℕ). k < length n.graph.now.edges) (λ (a : Amount). a.edge) xs c.requires.known);
      touched = λ k some. subst (λ (ks : List ℕ). IsTrue (has ks k)) (sym c.in_ok-touched.ensures)
          (carrying_listed xs k (subst (λ (v : ℕ). 0 < v) (same k) some));
      flowing = same_flowing (amount_of c.put_amounts.new.carried.items) same c.in-Some.ensures.flow;
    }

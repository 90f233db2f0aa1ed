use Rattle.std.proofs.Common.{◌≡◌, ◌<◌, ◌≤◌, ℕ, List, length, sym, ap, ◌∙◌, subst, arith, pos}
use Rattle.std.specs.Prelude.{IsTrue, All}
use Rattle.mono_base.specs.declared.limits.TheConstants.{MAX_WITNESS_VALUE}
use Rattle.mono_graph.specs.declared.amount.Amount.{Amount}
use Rattle.mono_graph.specs.Flows.{amount_at, is_flow_of, value_of}
use Rattle.mono_flows.proofs.Results.{flow_passes, flow_value}
use Rattle.mono_flows.proofs.finder.answer_of.Goals as goal

pub returns-in_ok-from_slice-in-None : goal.returns-in_ok-from_slice-in-None
returns-in_ok-from_slice-in-None c =
    let n = c.args.network.now in
    let same = sym c.in_ok-from_slice-in-None.ensures.items in
    let whole : c.args.value ≡ c.args.goal = rw c.in-None.is at c.requires.cut in
    let value = flow_value c.requires.flow in
    record {
      passes = subst (λ (xs : List Amount). IsTrue (is_flow_of n.graph.now n.part.now n.source n.sink (pos c.args.goal) xs)) same
          (flow_passes c.args.carried.now c.args.goal c.requires.flow c.requires.listed.distinct (omega (arith, whole)));
      known = subst (λ (xs : List Amount). All (λ (a : Amount). a.edge < length n.graph.now.edges) xs) same c.requires.listed.known;
      small = subst (λ (xs : List Amount). All (λ (a : Amount). a.amount ≤ MAX_WITNESS_VALUE) xs) same c.requires.listed.small;
      carrying = subst (λ (xs : List Amount). All (λ (a : Amount). 0 < a.amount) xs) same c.requires.listed.carrying;
      distinct = tt;
      exact = subst (λ (xs : List Amount). value_of n.graph.now n.source (amount_at xs) ≡ pos c.args.goal) same (value ∙ ap (λ (v : ℕ). pos v) whole);
      value = subst (λ (xs : List Amount). value_of n.graph.now n.source (amount_at xs) ≡ pos c.args.value) same value;
    }

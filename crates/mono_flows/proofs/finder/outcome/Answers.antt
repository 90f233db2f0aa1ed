use Rattle.std.proofs.Common.{◌<◌, ℕ, List, sym, subst, arith}
use Rattle.std.specs.Prelude.{All}
use Rattle.mono_base.specs.declared.limits.TheConstants.{MAX_WITNESS_VALUE}
use Rattle.mono_graph.specs.declared.amount.Amount.{Amount}
use Rattle.mono_graph.specs.Flows.{amount_at}
use Rattle.mono_flows.specs.Drained.{AreDrained}
use Rattle.mono_flows.specs.Flowing.{IsFlowing, IsFlowTowards, IsListing}
use Rattle.mono_flows.specs.declared.flow.Flow.{Flow}
use Rattle.mono_flows.specs.declared.network.Network.{Network}
use Rattle.mono_flows.proofs.Draining.{drained_empty, drained_same}
use Rattle.mono_flows.proofs.KeptFlows.{same_flowing}
use Rattle.mono_flows.proofs.Results.{flow_is}
use Rattle.mono_flows.proofs.finder.outcome.Goals as goal

listing : {n : Network} {top : ℕ} {flow : Flow} {new edges : List ℕ} {xs : List Amount} → IsFlowTowards n top flow → AreDrained flow.amounts.items new edges xs → IsListing n xs
listing {n = n} {xs = xs} towards drained = record {
  distinct = drained.distinct;
  known = subst (λ (m : ℕ). All (λ (a : Amount). a.edge < m) xs) towards.flow.len drained.known;
  small = drained.small MAX_WITNESS_VALUE (λ k. let at = towards.flow.flowing.small k in omega (arith, at, towards.most, towards.small));
  carrying = drained.carrying;
}

pub answer_of-requires-clause-flow : goal.answer_of-requires-clause-flow
answer_of-requires-clause-flow c =
    let n = c.args.network.now in
    let flow = c.requires.ended.flow.flow in
    let drained = subst (λ (ks : List ℕ). AreDrained c.args.flow.now.amounts.items c.drain.new.amounts.items ks c.in_ok-carried.carried.items) c.deref.ensures.value c.in_ok-carried.ensures.drained in
    subst (λ (xs : List Amount). IsFlowing n.graph.now n.part.now n.source n.sink (amount_at xs) c.args.flow.now.value) (sym c.as_slice.ensures.value)
    (same_flowing (amount_at c.in_ok-carried.carried.items) (drained_same flow.touched drained) flow.flowing)

pub answer_of-requires-clause-listed : goal.answer_of-requires-clause-listed
answer_of-requires-clause-listed c =
    subst (λ (xs : List Amount). IsListing c.args.network.now xs) (sym c.as_slice.ensures.value) (listing c.requires.ended.flow c.in_ok-carried.ensures.drained)

pub returns-clause-flow : goal.returns-clause-flow
returns-clause-flow c =
    let flow = c.requires.ended.flow.flow in
    let drained = subst (λ (ks : List ℕ). AreDrained c.args.flow.now.amounts.items c.drain.new.amounts.items ks c.in_ok-carried.carried.items) c.deref.ensures.value c.in_ok-carried.ensures.drained in
    flow_is c.in_ok-carried.carried.items (same_flowing (amount_at c.in_ok-carried.carried.items) (drained_same flow.touched drained) flow.flowing) drained.distinct

pub returns-clause-clear : goal.returns-clause-clear
returns-clause-clear c =
    let drained = subst (λ (ks : List ℕ). AreDrained c.args.flow.now.amounts.items c.drain.new.amounts.items ks c.in_ok-carried.carried.items) c.deref.ensures.value c.in_ok-carried.ensures.drained in
    drained_empty c.requires.ended.flow.flow.touched drained

use Rattle.std.proofs.Common.{◌≡◌, ℕ, ◌+◌, ◌*◌, ◌<◌, ◌≤◌, ◌∙◌, List, length, get_or, set, take, refl, sym, ap, subst, arith}
use Rattle.std.specs.Prelude.{All}
use Rattle.std.proofs.lemmas.List.{get_or_default, take_all}
use Rattle.mono_base.specs.declared.limits.TheConstants.{MAX_EDGES, MAX_WEIGHT}
use Rattle.mono_graph.specs.declared.amount.Amount.{Amount}
use Rattle.mono_graph.specs.declared.edge.Edge.{Edge}
use Rattle.mono_graph.specs.Digraph.{Digraph, edge_at}
use Rattle.mono_flows.specs.Listed.{listed_in, listed_out}
use Rattle.mono_flows.proofs.ListedSums.{AreAdded, added_none, added_more, no_amount}
use Rattle.mono_flows.proofs.node_sums.NodeSums.add_amounts.Goals as goal

pub loop-amount-init : goal.loop-amount-init
loop-amount-init c =
    let zero = c.requires.zero in
    record { leaving = added_none _ _ _ _ zero.len.leaving zero.leaving; entering = added_none _ _ _ _ zero.len.entering zero.entering }

within : {end : Edge → ℕ} {g : Digraph} {sums : List ℕ} {amounts : List Amount} {i : ℕ} (v old carried : ℕ) → i < length amounts → length amounts ≤ MAX_EDGES → All (λ a. a.amount ≤ MAX_WEIGHT) amounts → v < g.nodes
    → carried ≡ (get_or amounts i no_amount).amount → old ≡ get_or sums v old → AreAdded end g sums amounts i → old + carried ≤ MAX_EDGES * MAX_WEIGHT
within {sums = sums} {amounts = amounts} {i = i} v old carried lt few small inside same was x =
    let room : v < length sums = (let len = x.len in omega (arith, inside, len)) in
    let read : old ≡ get_or sums v 0 = was ∙ get_or_default sums v old 0 room in
    let one = small i no_amount lt in
    let all = x.small v in
    omega (arith, one, all, read, same, few, lt)

next : {end : Edge → ℕ} {g : Digraph} {sums : List ℕ} {amounts : List Amount} {i : ℕ} (v old carried : ℕ) → i < length amounts → All (λ a. a.amount ≤ MAX_WEIGHT) amounts → v ≡ end (edge_at g (get_or amounts i no_amount).edge) → v < g.nodes
    → carried ≡ (get_or amounts i no_amount).amount → old ≡ get_or sums v old → AreAdded end g sums amounts i → AreAdded end g (set sums v (old + carried)) amounts (i + 1)
next {end = end} {g = g} {sums = sums} {amounts = amounts} {i = i} v old carried lt small at inside same was x =
    let room : v < length sums = (let len = x.len in omega (arith, inside, len)) in
    subst (λ (n : ℕ). AreAdded end g (set sums v (old + n)) amounts (i + 1)) (sym same)
    (added_more end g sums amounts i (get_or amounts i no_amount) v old lt refl at inside (small i no_amount lt) (was ∙ get_or_default sums v old 0 room) x)

pub overflow_add-index_mut : goal.overflow_add-index_mut
overflow_add-index_mut c =
    let most = within c.edge-edge.result.from _ _ c.loop-amount-test.true c.requires.few c.requires.small c.edge-edge.ensures.from c.from-carried.ensures c.index_mut.ensures.value c.loop-amount.invariant.leaving in
    omega (arith, most)

pub overflow_add-index_mut-in-loop-amount : goal.overflow_add-index_mut-in-loop-amount
overflow_add-index_mut-in-loop-amount c =
    let most = within c.edge-edge.result.to _ _ c.loop-amount-test.true c.requires.few c.requires.small c.edge-edge.ensures.to c.from-carried.ensures c.index_mut-in-loop-amount.ensures.value c.loop-amount.invariant.entering in
    omega (arith, most)

pub loop-amount-preserved : goal.loop-amount-preserved
loop-amount-preserved c =
    let edge = c.edge-edge.ensures in
    let inv = c.loop-amount.invariant in
    record {
      leaving = next c.edge-edge.result.from _ _ c.loop-amount-test.true c.requires.small (ap (λ (e : Edge). e.from) edge.edge) edge.from c.from-carried.ensures c.index_mut.ensures.value inv.leaving;
      entering = next c.edge-edge.result.to _ _ c.loop-amount-test.true c.requires.small (ap (λ (e : Edge). e.to) edge.edge) edge.to c.from-carried.ensures c.index_mut-in-loop-amount.ensures.value inv.entering;
    }

pub returns-clause-sums : goal.returns-clause-sums
returns-clause-sums c = record { leaving = c.loop-amount.invariant.leaving.len; entering = c.loop-amount.invariant.entering.len }

pub returns-clause-listed : goal.returns-clause-listed
returns-clause-listed c =
    let g = c.args.graph.now in
    let whole : take c.loop-amount.amount-index c.args.amounts.now ≡ c.args.amounts.now = take_all c.loop-amount.amount-index c.args.amounts.now (omega arith) in
    record {
      leaving = λ u. c.loop-amount.invariant.leaving.each u ∙ ap (λ (xs : List Amount). listed_out g xs u) whole;
      entering = λ u. c.loop-amount.invariant.entering.each u ∙ ap (λ (xs : List Amount). listed_in g xs u) whole;
    }

pub returns-clause-small : goal.returns-clause-small
returns-clause-small c = record {
  leaving = λ u. let most = c.loop-amount.invariant.leaving.small u in omega (arith, most, c.requires.few);
  entering = λ u. let most = c.loop-amount.invariant.entering.small u in omega (arith, most, c.requires.few);
}

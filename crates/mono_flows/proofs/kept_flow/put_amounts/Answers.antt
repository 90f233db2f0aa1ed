use Rattle.std.proofs.Common.{◌<◌, length, slice_index_or, refl, ◌∙◌, arith}
use Rattle.std.proofs.lemmas.List.{length-set}
use Rattle.mono_graph.specs.declared.amount.Amount.{Amount}
use Rattle.mono_flows.proofs.KeptFlows.{carried_none, carried_more, carried_all}
use Rattle.mono_flows.proofs.ListedSums.{no_amount}
use Rattle.mono_flows.proofs.kept_flow.put_amounts.Goals as goal

pub loop-amount-init : goal.loop-amount-init
loop-amount-init c = record { len = refl; carried = λ distinct nothing. carried_none c.args.carried.now.items c.args.amounts.now nothing }

pub loop-amount-preserved : goal.loop-amount-preserved
loop-amount-preserved c =
    let a : Amount = slice_index_or c.args.amounts.now c.loop-amount.amount-index no_amount in
    let known : a.edge < length c.args.carried.now.items = c.requires c.loop-amount.amount-index no_amount c.loop-amount-test.true in
    record {
      len = length-set c.loop-amount.carried.items a.edge a.amount ∙ c.loop-amount.invariant.len;
      carried = λ distinct nothing. carried_more a c.loop-amount-test.true refl (let len = c.loop-amount.invariant.len in omega arith) distinct (c.loop-amount.invariant.carried distinct nothing);
    }

pub returns-clause-amounts : goal.returns-clause-amounts
returns-clause-amounts c = λ distinct nothing. carried_all (let past = c.loop-amount-test.false in omega arith) (c.loop-amount.invariant.carried distinct nothing)

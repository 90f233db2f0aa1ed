use Rattle.std.proofs.Common.{◌≤◌, All, List, get_or, take, sym, subst, arith}
use Rattle.std.proofs.lemmas.List.{take_all, take_more}
use Rattle.std.proofs.lemmas.List.Elements.{All-push}
use Rattle.mono_graph.specs.declared.amount.Amount.{Amount}
use Rattle.mono_flows.proofs.ListedSums.{no_amount}
use Rattle.mono_flows.proofs.kept_flow.are_within.Goals as goal

pub loop-amount-preserved : goal.loop-amount-preserved
loop-amount-preserved c =
    let i = c.loop-amount.amount-index in
    let xs : List Amount = c.args.amounts.now in
    let small : (get_or xs i no_amount).amount ≤ c.args.most = let le = c.if-amount-most.false in omega arith in
    subst (λ (ys : List Amount). All (λ (a : Amount). a.amount ≤ c.args.most) ys) (sym (take_more xs i no_amount c.loop-amount-test.true))
    (All-push (λ (a : Amount). a.amount ≤ c.args.most) (take i xs) (get_or xs i no_amount) c.loop-amount.invariant small)

pub returns : goal.returns
returns c = λ _.
    let past = c.loop-amount-test.false in
    subst (λ (ys : List Amount). All (λ (a : Amount). a.amount ≤ c.args.most) ys) (take_all c.loop-amount.amount-index c.args.amounts.now (omega arith)) c.loop-amount.invariant

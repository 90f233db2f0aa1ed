use Rattle.std.proofs.Common.{◌+◌, ◌≤◌, List, [], sym, subst, arith}
use Rattle.std.specs.Prelude.{All}
use Rattle.std.proofs.lemmas.List.Elements.{All-nil, All-cons, All-head}
use Rattle.mono_base.specs.declared.limits.TheConstants.{MAX_WITNESS_VALUE}
use Rattle.mono_graph.specs.declared.amount.Amount.{Amount}
use Rattle.mono_graph.specs.Worked.{amount}
use Rattle.mono_flows.proofs.worked.found_is_small.Goals as goal

pub returns : goal.returns
returns c = record {
  greatest = λ amounts is. subst (λ (xs : List Amount). All (λ (a : Amount). a.amount ≤ MAX_WITNESS_VALUE) xs) (sym is) (All-cons (λ (a : Amount). a.amount ≤ MAX_WITNESS_VALUE) (amount 0 (MAX_WITNESS_VALUE)) [] (omega arith) (All-nil (λ (a : Amount). a.amount ≤ MAX_WITNESS_VALUE)));
  too_great = λ amounts is p.
      let low : MAX_WITNESS_VALUE + 1 ≤ MAX_WITNESS_VALUE = All-head (λ (a : Amount). a.amount ≤ MAX_WITNESS_VALUE) (amount 0 (MAX_WITNESS_VALUE + 1)) [] (subst (λ (xs : List Amount). All (λ (a : Amount). a.amount ≤ MAX_WITNESS_VALUE) xs) is p) in
      omega (arith, low);
  cut = λ nodes. tt;
}

use Rattle.std.proofs.Common.{ℕ, List, ◌∷◌, [], refl, sym, subst, pos}
use Rattle.std.specs.Prelude.{IsTrue}
use Rattle.std.proofs.lemmas.Bool.{both_ways}
use Rattle.mono_graph.specs.declared.amount.Amount.{Amount}
use Rattle.mono_graph.specs.Flows.{is_flow_of, is_flow_cut}
use Rattle.mono_graph.specs.Worked.{amount, parallel, both}
use Rattle.mono_flows.proofs.worked.found_passes.Goals as goal

pub returns : goal.returns
returns c = record {
  flow = λ amounts is. subst (λ (xs : List Amount). IsTrue (is_flow_of (parallel 1 4) both 0 1 (pos 5) xs)) (sym is) refl;
  too_little = λ amounts is p. both_ways (is_flow_of (parallel 1 4) both 0 1 (pos 6) (amount 0 1 ∷ amount 1 4 ∷ [])) refl
      (subst (λ (xs : List Amount). IsTrue (is_flow_of (parallel 1 4) both 0 1 (pos 6) xs)) is p);
  cut = λ nodes is. subst (λ (s : List ℕ). IsTrue (is_flow_cut (parallel 1 4) both 0 1 (pos 6) s)) (sym is) refl;
  no_cut = λ nodes is p. both_ways (is_flow_cut (parallel 1 4) both 0 1 (pos 5) (0 ∷ [])) refl (subst (λ (s : List ℕ). IsTrue (is_flow_cut (parallel 1 4) both 0 1 (pos 5) s)) is p);
}

use Rattle.std.proofs.Common.{◌<◌, ℕ, List, length, subst, sym, ◌∙◌, arith}
use Rattle.std.specs.Prelude.{All}
use Rattle.std.proofs.lemmas.List.Elements.{All-nil}
use Rattle.mono_flows.specs.Residual.{amount_of}
use Rattle.mono_flows.proofs.Results.{nothing}
use Rattle.mono_flows.proofs.flow.Flow.none.Goals as goal

pub returns-clause-flow : goal.returns-clause-flow
returns-clause-flow c =
    let n = c.args.network.now in
    let empty = c.take_amounts-amounts.ensures.empty in
    record {
      len = c.take_amounts-amounts.ensures.len ∙ c.requires.fits.amounts;
      known = subst (λ (ks : List ℕ). All (λ (k : ℕ). k < length n.graph.now.edges) ks) (sym c.new-touched.ensures.items) (All-nil (λ (k : ℕ). k < length n.graph.now.edges));
      touched = λ k some. let none = empty k in absurd (omega (arith, none, some));
      flowing = nothing n.graph.now n.part.now n.source n.sink (amount_of c.take_amounts-amounts.result.items) empty;
    }

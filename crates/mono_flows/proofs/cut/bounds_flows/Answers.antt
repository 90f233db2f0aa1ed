use Rattle.std.proofs.Common.{◌≡◌, true, false, get_or, ap, ◌∙◌, w64, ℤ, pos, int_lt}
use Rattle.std.proofs.lemmas.Int.{to_z-of_z}
use Rattle.mono_flows.proofs.CutWeights.{cut_answer}
use Rattle.mono_flows.proofs.cut.bounds_flows.Goals as goal

pub returns-clause-passes : goal.returns-clause-passes
returns-clause-passes c =
    let from : get_or c.args.inside.now c.args.network.now.source false ≡ true = c.if-not-inside-network.false in
    let to : get_or c.args.inside.now c.args.network.now.sink false ≡ false = c.if-inside-network.false in
    c.is_below.ensures
    ∙ (ap (λ (z : ℤ). int_lt (pos c.weight_out_of.result) z) (to_z-of_z w64 c.args.least c.ranges.least)
    ∙ cut_answer c.args.network.now.graph.now c.args.network.now.part.now c.args.inside.now c.args.nodes.now c.args.network.now.source c.args.network.now.sink c.args.least c.weight_out_of.result c.requires.inside from to c.weight_out_of.ensures.exact)

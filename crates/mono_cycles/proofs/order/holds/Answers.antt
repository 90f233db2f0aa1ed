use Rattle.std.proofs.Common.{◌≡◌, ◌∙◌, ◌<◌, ℕ, length, get_or, sym, arith}
use Rattle.mono_graph.specs.Cycles.{rank_in}
use Rattle.mono_cycles.proofs.Ranked.{not_all, order_decided}
use Rattle.mono_cycles.proofs.order.holds.Goals as goal

pub returns-then-not-all_below : goal.returns-then-not-all_below
returns-then-not-all_below c =
    let same : (u : ℕ) → u < length c.rank.new.ranks → get_or c.rank.new.ranks u 0 ≡ rank_in c.args.nodes.now u = λ u lt. c.rank.ensures.ranks c.if-not-rank.false u (let e = c.rank.auto.ranks in omega arith) in
    sym (not_all c.args.graph.now c.args.part.now c.args.nodes.now c.rank.new.ranks (c.rank.auto.ranks ∙ c.requires.ranks) same (sym c.all_below.ensures ∙ c.if-not-all_below.true))

pub returns : goal.returns
returns c =
    let same : (u : ℕ) → u < length c.rank.new.ranks → get_or c.rank.new.ranks u 0 ≡ rank_in c.args.nodes.now u = λ u lt. c.rank.ensures.ranks c.if-not-rank.false u (let e = c.rank.auto.ranks in omega arith) in
    c.all_rise.ensures
    ∙ order_decided c.args.graph.now c.args.part.now c.args.nodes.now c.rank.new.ranks c.known.ensures.graph.ends (c.rank.auto.ranks ∙ c.requires.ranks) same
    (sym c.rank.ensures.once ∙ c.if-not-rank.false) (sym c.all_below.ensures ∙ c.if-not-all_below.false)

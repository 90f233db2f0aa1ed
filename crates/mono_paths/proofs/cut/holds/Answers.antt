use Rattle.std.proofs.Common.{ℕ, Bool, false, get_or}
use Rattle.mono_paths.proofs.Cuts.{cut_fails_from, cut_fails_to, cut_decides}
use Rattle.mono_paths.proofs.cut.holds.Goals as goal

pub returns-then-not-inside-from-clause-passes : goal.returns-then-not-inside-from-clause-passes
returns-then-not-inside-from-clause-passes c =
    let marked : ℕ → Bool = λ u. get_or c.args.inside.now u false in
    cut_fails_from c.args.graph.now c.args.part.now c.args.from c.args.to c.args.nodes.now marked (record { each = c.requires.inside }) c.requires.from c.if-not-inside-from.true

pub returns-then-inside-to-clause-passes : goal.returns-then-inside-to-clause-passes
returns-then-inside-to-clause-passes c =
    let marked : ℕ → Bool = λ u. get_or c.args.inside.now u false in
    cut_fails_to c.args.graph.now c.args.part.now c.args.from c.args.to c.args.nodes.now marked (record { each = c.requires.inside }) c.requires.to c.if-inside-to.true

pub returns-clause-passes : goal.returns-clause-passes
returns-clause-passes c =
    let marked : ℕ → Bool = λ u. get_or c.args.inside.now u false in
    cut_decides c.args.graph.now c.args.part.now c.args.from c.args.to c.args.nodes.now marked c.all_stay.result c.known.ensures.graph.ends (record { each = c.requires.inside })
    c.requires.from c.requires.to c.if-not-inside-from.false c.if-inside-to.false c.all_stay.ensures.stay

use Rattle.std.proofs.Common.{◌≡◌, ℕ, cond, sym, ap, subst, ◌∙◌}
use Rattle.mono_graph.specs.declared.limit.Limit.{Limit}
use Rattle.mono_graph.specs.Walks.{bound_of}
use Rattle.mono_paths.specs.Found.{HasBound}
use Rattle.mono_problem.specs.Quiet.{over}
use Rattle.mono_problem.specs.Read.{no_atom}
use Rattle.mono_theory.specs.PossibleRows.{PossibleView, is_cut_off}
use Rattle.mono_theory.specs.Supports.{atom_at}
use Rattle.mono_theory.proofs.WalksTold.{lacking_decides}
use Rattle.mono_distance.specs.Readings.{above, IsBelowEachWalk}
use Rattle.mono_distance.specs.SureLabels.{limit_of}
use Rattle.mono_distance.proofs.KnownLabels.{limit_is, over_at_last, over_elsewhere, rows_decided, rows_below, to_is_last}
use Rattle.mono_distance.proofs.WitnessLabels.{none_below}
use Rattle.mono_distance.proofs.node_labels.over_by_rows.Goals as goal

pub returns-then-node-asked-clause-value : goal.returns-then-node-asked-clause-value
returns-then-node-asked-clause-value c =
    let x = c.args.asked in
    over_elsewhere c.args.side.now.rows c.args.place c.args.node x.to x.from x.limit (atom_at c.args.frame.now.atoms c.args.place).predicate c.requires.asked c.if-node-asked.true

pub returns-then-node-asked-clause-below : goal.returns-then-node-asked-clause-below
returns-then-node-asked-clause-below c =
    let f = c.args.frame.now in
    let x = c.args.asked in
    let q = (atom_at f.atoms c.args.place).predicate in
    none_below f.graph (over f.graph f.seen) q c.args.node (subst HasBound (sym (limit_is q x.from x.to x.limit c.requires.asked)) c.requires.limit)

pub returns-then-node-asked-clause-decides : goal.returns-then-node-asked-clause-decides
returns-then-node-asked-clause-decides c = λ stands last.
    let x = c.args.asked in
    absurd (c.if-node-asked.true (last ∙ sym (to_is_last (atom_at c.args.frame.now.atoms c.args.place).predicate x.from x.to x.limit c.requires.asked)))

pub returns-clause-value : goal.returns-clause-value
returns-clause-value c =
    let x = c.args.asked in
    let is = c.shows-cut_off.ensures.shown ∙ ap (λ (s : PossibleView). is_cut_off s c.args.place) c.rows-rows.ensures in
    over_at_last c.args.side.now.rows c.args.place c.args.node x.to x.from x.limit (atom_at c.args.frame.now.atoms c.args.place).predicate c.shows-cut_off.result c.over_where.result c.requires.asked c.if-node-asked.false is c.over_where.ensures

pub returns-clause-below : goal.returns-clause-below
returns-clause-below c =
    let f = c.args.frame.now in
    let x = c.args.asked in
    let a : ℕ = c.args.place in
    let q = (atom_at f.atoms a).predicate in
    let limit = limit_is q x.from x.to x.limit c.requires.asked in
    let fails = rw c.looked-looked.ensures at c.shows-cut_off.ensures.decides in
    let read : c.over_where.result ≡ cond c.shows-cut_off.result (above (bound_of (limit_of q))) 0 = c.over_where.ensures ∙ ap (λ (k : Limit). cond c.shows-cut_off.result (above (bound_of k)) 0) (sym limit) in
    subst (IsBelowEachWalk f.graph (over f.graph f.seen) q c.args.node) (sym read)
    (rows_below f.graph f.seen c.args.side.now.looked q c.args.node c.shows-cut_off.result (c.requires.right.rows.asks.each a no_atom c.requires.place) (subst HasBound (sym limit) c.requires.limit)
    (c.if-node-asked.false ∙ to_is_last q x.from x.to x.limit c.requires.asked) fails)

pub returns-clause-decides : goal.returns-clause-decides
returns-clause-decides c = λ stands last.
    let f = c.args.frame.now in
    let x = c.args.asked in
    let a : ℕ = c.args.place in
    let q = (atom_at f.atoms a).predicate in
    let limit = limit_is q x.from x.to x.limit c.requires.asked in
    let fails = rw c.looked-looked.ensures at c.shows-cut_off.ensures.decides in
    let is = c.shows-cut_off.ensures.shown ∙ ap (λ (s : PossibleView). is_cut_off s a) c.rows-rows.ensures in
    let read : c.over_where.result ≡ cond c.shows-cut_off.result (above (bound_of (limit_of q))) 0 = c.over_where.ensures ∙ ap (λ (k : Limit). cond c.shows-cut_off.result (above (bound_of k)) 0) (sym limit) in
    rows_decided f.graph (over f.graph f.seen) q c.shows-cut_off.result c.over_where.result (c.requires.right.covered.each a no_atom c.requires.place) (subst HasBound (sym limit) c.requires.limit) read
    (lacking_decides a c.shows-cut_off.result c.requires.place c.requires.right stands is fails)

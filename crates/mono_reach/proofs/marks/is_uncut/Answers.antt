use Rattle.std.proofs.Common.{true, refl, sym, subst, ◌∙◌}
use Rattle.mono_problem.specs.Quiet.{over}
use Rattle.mono_problem.specs.Read.{no_atom}
use Rattle.mono_theory.specs.Evidences.{Decides}
use Rattle.mono_theory.specs.Supports.{atom_at}
use Rattle.mono_reach.proofs.ToldNodes.{cut_fails, shown_decides, shown_is_cut, unshown_decides, unshown_is_cut}
use Rattle.mono_reach.proofs.marks.is_uncut.Goals as goal

pub returns-in-None-clause-value : goal.returns-in-None-clause-value
returns-in-None-clause-value c = unshown_is_cut c.args.kept.now c.args.place c.args.node c.requires.thorough (c.in-None.ensures.none c.args.frame.now true c.requires.side c.requires.thorough)

pub returns-in-Some-clause-value : goal.returns-in-Some-clause-value
returns-in-Some-clause-value c =
    c.is_inside.ensures ∙ shown_is_cut c.args.kept.now c.args.place c.args.node c.in-Some.witness.now c.requires.thorough (c.in-Some.ensures.shows refl) c.in-Some.ensures.its

pub returns-in-None-clause-decides : goal.returns-in-None-clause-decides
returns-in-None-clause-decides c none last =
    let atoms = c.known.ensures.atoms in
    unshown_decides true c.args.place c.requires.place c.known.ensures.graph (c.requires.covered.each c.args.place no_atom c.requires.place) (atoms.over c.args.place no_atom c.requires.place).1 c.requires.side none (c.in-None.ensures.none c.args.frame.now true c.requires.side c.requires.thorough)

pub returns-in-Some-clause-fails : goal.returns-in-Some-clause-fails
returns-in-Some-clause-fails c off =
    let f = c.args.frame.now in
    cut_fails f.graph (over f.graph f.seen) (atom_at f.atoms c.args.place).predicate c.in-Some.witness.now c.args.node (c.requires.covered.each c.args.place no_atom c.requires.place) (c.in-Some.ensures.right c.args.frame.now true c.requires.side) (sym c.is_inside.ensures ∙ off)

pub returns-in-Some-clause-decides : goal.returns-in-Some-clause-decides
returns-in-Some-clause-decides c none last =
    let f = c.args.frame.now in
    let q = (atom_at f.atoms c.args.place).predicate in
    subst (Decides f.graph (over f.graph f.seen) q) (sym c.is_inside.ensures)
    (shown_decides f.graph (over f.graph f.seen) q c.in-Some.witness.now c.args.node (c.requires.covered.each c.args.place no_atom c.requires.place) (c.in-Some.ensures.right c.args.frame.now true c.requires.side) last)

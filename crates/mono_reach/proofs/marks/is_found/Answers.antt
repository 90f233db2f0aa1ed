use Rattle.std.proofs.Common.{ℕ, true, false, eqb, refl, ap, sym, subst, ◌∙◌}
use Rattle.std.proofs.lemmas.Bool.{eqb-true}
use Rattle.mono_problem.specs.declared.atom.Atom.{Atom}
use Rattle.mono_problem.specs.Quiet.{under}
use Rattle.mono_problem.specs.Read.{no_atom}
use Rattle.mono_theory.specs.Evidences.{Decides}
use Rattle.mono_theory.specs.Supports.{atom_at}
use Rattle.mono_reach.specs.Marks.{last_node}
use Rattle.mono_reach.proofs.ToldNodes.{by_shown, found_decides, found_walk, unshown_decides}
use Rattle.mono_reach.proofs.marks.is_found.Goals as goal

pub returns-in-None-clause-value : goal.returns-in-None-clause-value
returns-in-None-clause-value c =
    let q = (atom_at c.args.frame.now.atoms c.args.place).predicate in
    by_shown c.args.kept.now c.args.place false (eqb c.args.node (last_node q)) false c.requires.thorough (c.in-None.ensures.none c.args.frame.now false c.requires.side c.requires.thorough)

pub returns-in-None-clause-decides : goal.returns-in-None-clause-decides
returns-in-None-clause-decides c none last =
    let atoms = c.known.ensures.atoms in
    unshown_decides false c.args.place c.requires.place c.known.ensures.graph (c.requires.covered.each c.args.place no_atom c.requires.place) (atoms.over c.args.place no_atom c.requires.place).1 c.requires.side none (c.in-None.ensures.none c.args.frame.now false c.requires.side c.requires.thorough)

pub returns-in-Some-clause-value : goal.returns-in-Some-clause-value
returns-in-Some-clause-value c =
    let q = (atom_at c.args.frame.now.atoms c.args.place).predicate in
    let last = c.ends_of-to.ensures.last ∙ ap (λ (x : Atom). last_node x.predicate) c.atom_at-atom.ensures.atom in
    ap (eqb c.args.node) last ∙ by_shown c.args.kept.now c.args.place true (eqb c.args.node (last_node q)) false c.requires.thorough (c.in-Some.ensures.shows refl)

pub returns-in-Some-clause-reached : goal.returns-in-Some-clause-reached
returns-in-Some-clause-reached c on =
    let f = c.args.frame.now in
    let q = (atom_at f.atoms c.args.place).predicate in
    let last = c.ends_of-to.ensures.last ∙ ap (λ (x : Atom). last_node x.predicate) c.atom_at-atom.ensures.atom in
    found_walk f.graph (under f.graph f.seen) q c.in-Some.field-0.now c.args.node (c.requires.covered.each c.args.place no_atom c.requires.place) (c.in-Some.ensures.right c.args.frame.now false c.requires.side) (eqb-true c.args.node c.ends_of-to.result.1 on ∙ last)

pub returns-in-Some-clause-decides : goal.returns-in-Some-clause-decides
returns-in-Some-clause-decides c none is_last =
    let f = c.args.frame.now in
    let q = (atom_at f.atoms c.args.place).predicate in
    let last = c.ends_of-to.ensures.last ∙ ap (λ (x : Atom). last_node x.predicate) c.atom_at-atom.ensures.atom in
    subst (λ (v : ℕ). Decides f.graph (under f.graph f.seen) q (eqb c.args.node v)) (sym last)
    (found_decides f.graph (under f.graph f.seen) q c.in-Some.field-0.now c.args.node (c.requires.covered.each c.args.place no_atom c.requires.place) (c.in-Some.ensures.right c.args.frame.now false c.requires.side) is_last)

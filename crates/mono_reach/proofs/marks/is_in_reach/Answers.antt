use Rattle.std.proofs.Common.{ap, ◌∙◌}
use Rattle.std.proofs.lemmas.Bool.{not-false}
use Rattle.mono_problem.specs.declared.atom.Atom.{Atom}
use Rattle.mono_problem.specs.Read.{no_atom}
use Rattle.mono_theory.specs.Supports.{atom_at}
use Rattle.mono_reach.specs.Marks.{last_node}
use Rattle.mono_theory.specs.PossibleRows.{PossibleView, is_cut_off}
use Rattle.mono_theory.proofs.WalksTold.{lacking_decides}
use Rattle.mono_reach.proofs.ToldNodes.{lacking_fails}
use Rattle.mono_reach.proofs.marks.is_in_reach.Goals as goal

pub returns-clause-fails : goal.returns-clause-fails
returns-clause-fails c off =
    let f = c.args.frame.now in
    let q = (atom_at f.atoms c.args.place).predicate in
    let last = c.if-node-to.false ∙ c.ends_of-to.ensures.last ∙ ap (λ (x : Atom). last_node x.predicate) c.atom_at-atom.ensures.atom in
    let fails = rw c.looked-looked.ensures at c.shows.ensures.decides in
    lacking_fails f.graph f.seen c.args.side.now.looked q c.args.node (c.requires.right.covered.each c.args.place no_atom c.requires.place) (fails (not-false c.shows.result off)) last

pub returns-clause-decides : goal.returns-clause-decides
returns-clause-decides c stands last =
    let is = c.shows.ensures.shown ∙ ap (λ (s : PossibleView). is_cut_off s c.args.place) c.rows-rows.ensures in
    let fails = rw c.looked-looked.ensures at c.shows.ensures.decides in
    lacking_decides c.args.place c.shows.result c.requires.place c.requires.right stands is fails

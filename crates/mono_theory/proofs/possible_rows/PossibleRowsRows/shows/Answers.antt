use Rattle.std.proofs.Common.{◌<◌, ℕ, sym, subst, ◌∙◌}
use Rattle.mono_dynamic.specs.declared.walk_target.WalkTarget.{WalkTarget}
use Rattle.mono_dynamic.specs.Ways.{no_target}
use Rattle.mono_problem.specs.Read.{no_atom}
use Rattle.mono_problem.specs.declared.atom.Atom.{Atom}
use Rattle.mono_problem.specs.WellFormed.{IsOver}
use Rattle.mono_theory.specs.PossibleRows.{target_at}
use Rattle.mono_theory.specs.Supports.{atom_at}
use Rattle.mono_theory.specs.Theories.{cut_to}
use Rattle.mono_theory.proofs.AskedRows.{target_known}
use Rattle.mono_theory.proofs.PossibleParts.{only_shrinks}
use Rattle.mono_theory.proofs.WalksTold.{cut_off_fails}
use Rattle.mono_theory.proofs.possible_rows.PossibleRowsRows.shows.Goals as goal

pub is_cut_off-requires-clause-node : goal.is_cut_off-requires-clause-node
is_cut_off-requires-clause-node g c =
    let f = c.args.frame.now in
    let a : ℕ = c.args.place in
    let over = subst (λ (x : Atom). IsOver f.graph x.predicate) c.atom_at.ensures.atom c.atom_at.ensures.over in
    let low = target_known f.graph (atom_at f.atoms a).predicate (c.requires.right.asks.each a no_atom c.requires.place) over in
    subst (λ (n : ℕ). (target_at c.args.self.now.targets a).node < n) (sym c.requires.right.nodes)
    (subst (λ (t : WalkTarget). t.node < f.graph.nodes) (sym (c.requires.right.targets.each a no_target c.requires.place).is) low)

pub returns-clause-decides : goal.returns-clause-decides
returns-clause-decides g c = λ on.
    cut_off_fails {f = cut_to c.args.looked c.args.frame.now} c.args.place c.requires.place (only_shrinks (cut_to c.args.looked c.args.frame.now) _) c.requires.right (sym c.is_cut_off.ensures ∙ on)

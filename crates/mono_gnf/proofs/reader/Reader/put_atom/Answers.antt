use Rattle.std.proofs.Common.{Result, subst, sym, ap, ◌∙◌}
use Rattle.mono_problem.specs.Instance.{place_named}
use Rattle.mono_gnf.specs.declared.fault.GnfFault.{GnfFault}
use Rattle.mono_gnf.specs.Reading.{Seen}
use Rattle.mono_gnf.specs.Moves.{Moves}
use Rattle.mono_gnf.proofs.Steps.{put_atom-known}
use Rattle.mono_gnf.proofs.reader.Reader.put_atom.Goals as goal

pub returns-in-Some : goal.returns-in-Some
returns-in-Some c =
    let P : Result Seen GnfFault → Type 0 = λ step. Moves step c.put_atom_at.new.self c.put_atom_at.result in
    subst P (sym (put_atom-known c.args.self.now c.args.graph c.args.var c.args.predicate c.in-Some.place (c.in-Some.ensures.place ∙ ap (λ (s : Seen). place_named s.problem.graphs c.args.graph) c.self.view_is))) c.put_atom_at.ensures

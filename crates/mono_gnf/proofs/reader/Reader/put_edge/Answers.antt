use Rattle.std.proofs.Common.{◌∙◌, ap, subst, sym, Result}
use Rattle.mono_problem.specs.Instance.{place_named}
use Rattle.mono_gnf.specs.declared.fault.GnfFault.{GnfFault}
use Rattle.mono_gnf.specs.Reading.{Seen}
use Rattle.mono_gnf.specs.Moves.{Moves}
use Rattle.mono_gnf.proofs.Steps.{put_edge-known}
use Rattle.mono_gnf.proofs.reader.Reader.put_edge.Goals as goal

pub returns-in-Some : goal.returns-in-Some
returns-in-Some c =
    let P : Result Seen GnfFault → Type 0 = λ step. Moves step c.put_edge_at.new.self c.put_edge_at.result in
    subst P (sym (put_edge-known c.args.self.now c.args.graph c.args.from c.args.to c.args.var c.args.weight c.in-Some.place (c.in-Some.ensures.place ∙ ap (λ (s : Seen). place_named s.problem.graphs c.args.graph) c.self.view_is))) c.put_edge_at.ensures

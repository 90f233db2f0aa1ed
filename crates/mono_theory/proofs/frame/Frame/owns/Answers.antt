use Rattle.std.proofs.Common.{◌∙◌, ap}
use Rattle.mono_graph.specs.Digraph.{has}
use Rattle.mono_theory.proofs.FramesStay.{has-numbers}
use Rattle.mono_theory.proofs.frame.Frame.owns.Goals as goal

pub returns : goal.returns
returns c = rw (← c.self.view_is) (c.has.ensures ∙ ap (λ ns. has ns c.args.number) c.self.invariant.numbered ∙ has-numbers c.self.inside.atoms.items c.args.number)

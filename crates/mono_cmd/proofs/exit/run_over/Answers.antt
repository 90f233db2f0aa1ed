use Rattle.mono_cmd.proofs.Exited.{exited_over}
use Rattle.mono_cmd.proofs.exit.run_over.Goals as goal

pub returns : goal.returns
returns g c = exited_over _ _ _ _ _ _ _ c.new-shelf.ensures c.new-out.ensures c.code_of-code.ensures

use Rattle.mono_paths.proofs.Listed.{unlisted_calm}
use Rattle.mono_paths.proofs.laws.unlisted_is_calm.Goals as goal

pub returns : goal.returns
returns c = unlisted_calm

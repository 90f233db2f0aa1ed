use Rattle.std.proofs.Common.{rules}
use Rattle.mono_answer.proofs.reader.Room.chain.Goals as goal

pub returns : goal.returns
returns c = search rules

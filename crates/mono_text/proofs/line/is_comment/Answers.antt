use Rattle.std.proofs.Common.{rules}
use Rattle.mono_text.proofs.line.is_comment.Goals as goal

pub returns : goal.returns
returns c = search rules

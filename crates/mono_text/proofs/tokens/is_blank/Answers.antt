use Rattle.std.proofs.Common.{rules}
use Rattle.mono_text.proofs.tokens.is_blank.Goals as goal

pub returns-else-byte-eq9 : goal.returns-else-byte-eq9
returns-else-byte-eq9 c = search rules

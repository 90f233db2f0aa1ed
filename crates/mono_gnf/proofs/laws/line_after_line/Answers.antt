use Rattle.mono_gnf.proofs.Meaning.{reading-is}
use Rattle.mono_gnf.proofs.laws.line_after_line.Goals as goal

pub returns : goal.returns
returns c = reading-is

use Rattle.mono_answer.proofs.RoundTrip.{version_is_read}
use Rattle.mono_answer.proofs.laws.printed_version_is_read.Goals as goal

pub returns : goal.returns
returns c = version_is_read

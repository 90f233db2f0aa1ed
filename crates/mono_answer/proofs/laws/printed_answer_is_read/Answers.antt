use Rattle.mono_answer.proofs.RoundTrip.{printed_is_read}
use Rattle.mono_answer.proofs.laws.printed_answer_is_read.Goals as goal

pub returns : goal.returns
returns c = printed_is_read

use Rattle.std.proofs.Common.{rules}
use Rattle.mono_io.proofs.std_sink.StdSinkSink.write.Goals as goal

pub returns-in-Ok-clause-written : goal.returns-in-Ok-clause-written
returns-in-Ok-clause-written g c = search rules

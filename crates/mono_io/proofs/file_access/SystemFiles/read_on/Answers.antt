use Rattle.std.proofs.Common.{rules}
use Rattle.mono_io.proofs.file_access.SystemFiles.read_on.Goals as goal

pub returns-in-None-clause-closed : goal.returns-in-None-clause-closed
returns-in-None-clause-closed g c = search rules

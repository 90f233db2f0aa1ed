use Rattle.std.proofs.Common.{rules}
use Rattle.mono_gnf.proofs.reader.Reader.put_atom_at.Goals as goal

pub returns-then-var-eq0 : goal.returns-then-var-eq0
returns-then-var-eq0 c = search rules

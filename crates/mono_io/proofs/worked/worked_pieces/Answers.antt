use Rattle.std.proofs.Common.{length, length-append, take, codes, ap, arith}
use Rattle.std.proofs.lemmas.List.{length-take}
use Rattle.mono_io.proofs.worked.worked_pieces.Goals as goal

-- no prefix that isn't all of it is that long
pub returns-clause-all : goal.returns-clause-all
returns-clause-all c = λ prefix. absurd (omega (arith, prefix.within, ap length prefix.appended, length-append (codes "x") (take prefix.count (codes "ab")), length-take prefix.count (codes "ab")))

pub returns-clause-more : goal.returns-clause-more
returns-clause-more c = λ prefix. absurd (omega (arith, ap length prefix.appended, length-append (codes "x") (take prefix.count (codes "ab")), length-take prefix.count (codes "ab")))

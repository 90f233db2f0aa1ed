use Rattle.std.proofs.Common.{sym, ap, ◌∙◌}
use Rattle.mono_gnf.specs.Printed.{printed}
use Rattle.mono_gnf.proofs.WellFormedReading.{stands_well_formed}
use Rattle.mono_gnf.proofs.RoundTrip.{printed_stands}
use Rattle.mono_gnf.proofs.laws.printing_again.Goals as goal

pub returns : goal.returns
returns c = λ text p q h s. ap printed (s.1 ∙ sym (printed_stands p (stands_well_formed text p h)).1)

use Rattle.mono_gnf.proofs.RoundTrip.{printed_stands}
use Rattle.mono_gnf.proofs.laws.printed_form_stands.Goals as goal

pub returns : goal.returns
returns c = printed_stands

use Rattle.mono_text.proofs.Decimals.{signed-decimal, nat_abs-below}
use Rattle.mono_text.proofs.laws.signed_of_decimal.Goals as goal

pub returns : goal.returns
returns c = signed-decimal c.args.z (nat_abs-below c.args.z c.ranges.z)

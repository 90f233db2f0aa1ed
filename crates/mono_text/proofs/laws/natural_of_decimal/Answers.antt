use Rattle.mono_text.proofs.Decimals.{natural-decimal}
use Rattle.mono_text.proofs.laws.natural_of_decimal.Goals as goal

pub returns : goal.returns
returns c = natural-decimal c.args.n c.ranges.n.fits

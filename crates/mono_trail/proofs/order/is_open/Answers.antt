use Rattle.std.proofs.Common.{◌∙◌, sym, ap}
use Rattle.std.specs.Option.{is_some}
use Rattle.mono_trail.proofs.Places.{place_tells_open}
use Rattle.mono_trail.proofs.order.is_open.Goals as goal

pub returns : goal.returns
returns c = place_tells_open c.args.trail.now.lits c.args.var c.is_none.result (sym (ap is_some c.place_of.ensures) ∙ c.is_none.ensures)

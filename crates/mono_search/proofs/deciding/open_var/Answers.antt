use Rattle.std.proofs.Common.{◌∙◌, true, sym, ap, arith}
use Rattle.std.specs.Option.{is_some}
use Rattle.mono_trail.proofs.Places.{place_tells_open}
use Rattle.mono_search.proofs.deciding.open_var.Goals as goal

pub returns-in-None : goal.returns-in-None
returns-in-None c = ((omega arith, omega arith), sym (place_tells_open c.args.trail.now.lits c.args.var true (ap is_some (sym c.place_of.ensures ∙ c.in-None.is))))

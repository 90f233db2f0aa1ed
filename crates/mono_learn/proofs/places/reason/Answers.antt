use Rattle.std.proofs.Common.{◌≡◌, sym, ◌∙◌, Some}
use Rattle.std.proofs.lemmas.Option.{same_Some}
use Rattle.mono_trail.specs.Places.{reason_at}
use Rattle.mono_learn.proofs.PlacesOfLits.{is_var_at, reason_read}
use Rattle.mono_learn.proofs.places.reason.Goals as goal
use Rattle.mono_learn.proofs.places.reason.Goals.{After-reason}

why : (c : After-reason) → c.reason.result ≡ Some (reason_at c.args.trail.now.marks c.args.place)
why c = reason_read c.args.trail.now c.args.place c.var.result c.literal-lit.result c.reason.result c.requires.sound c.requires.place c.literal-lit.ensures c.var.ensures.value c.reason.ensures

pub reason-requires : goal.reason-requires
reason-requires c = rw (c.var.ensures.value, c.literal-lit.ensures) (is_var_at c.args.trail.now c.args.place c.requires.sound c.requires.place)

pub unreachable-requires : goal.unreachable-requires
unreachable-requires c = c.in_default.not-Some (reason_at c.args.trail.now.marks c.args.place) (why (goal.at.unreachable-requires c).After-reason)

pub returns : goal.returns
returns c = same_Some c.in-Some.reason (reason_at c.args.trail.now.marks c.args.place) (sym c.in-Some.is ∙ why (goal.at.returns c).After-reason)

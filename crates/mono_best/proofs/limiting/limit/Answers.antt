use Rattle.mono_best.proofs.limiting.limit.Goals as goal

pub returns : goal.returns
returns c = c.in_ok-number.ensures.to

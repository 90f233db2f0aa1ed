use Rattle.std.proofs.Common.{◌∙◌, length}
use Rattle.mono_theory.proofs.MoreWatch.{all_watch_still}
use Rattle.mono_theory.proofs.SidesStay.{side_watched}
use Rattle.mono_theory.proofs.kept_side.KeptSide.watch.Goals as goal

pub returns-clause-side : goal.returns-clause-side
returns-clause-side c = λ f lt h.
    let before = rw (← c.self.view_is) at h in
    let grown = c.watch.ensures.grown in
    side_watched c.watch.new.self (grown.len ∙ before.watchers_len) (c.watch.ensures.below (length f.atoms) lt before.known) (all_watch_still grown before.watched) before

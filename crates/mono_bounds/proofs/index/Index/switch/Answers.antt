use Rattle.std.proofs.Common.{◌∙◌}
use Rattle.mono_bounds.proofs.Switches.{switched_by}
use Rattle.mono_bounds.proofs.index.Index.switch.Goals as goal

pub set_all-requires : goal.set_all-requires
set_all-requires c = rw c.requires.size c.places_at.ensures.held

pub returns-clause-part : goal.returns-clause-part
returns-clause-part c = λ key places.
    switched_by c.args.self.now.keys c.places_at.result.now key c.args.on c.args.part.now c.set_all.new.part (rw c.places_at.ensures.places places) c.requires.size (c.set_all.ensures.size ∙ c.requires.size) c.set_all.ensures.done c.set_all.ensures.others

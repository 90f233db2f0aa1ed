use Rattle.mono_trail.specs.declared.reason.Mark.{Mark}
use Rattle.mono_trail.specs.Places.{place_in}
use Rattle.mono_trail.proofs.Places.{mark_says}
use Rattle.mono_trail.proofs.trail.Trail.level_of.Goals as goal

pub returns-in-Some : goal.returns-in-Some
returns-in-Some c = mark_says (λ (m : Mark). m.level) c.args.self.now.marks (place_in c.args.self.now.lits c.args.var) _ c.in-Some.ensures

pub returns-in-None : goal.returns-in-None
returns-in-None c = mark_says (λ (m : Mark). m.level) c.args.self.now.marks (place_in c.args.self.now.lits c.args.var) _ c.in-None.ensures

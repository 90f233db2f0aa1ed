use Rattle.std.proofs.Common.{◌≡◌, ap, arith}
use Rattle.mono_trail.specs.TrailView.{TrailView}
use Rattle.mono_search.proofs.worked.levels_gone_back_to.Goals as goal

pub returns-clause-restart : goal.returns-clause-restart
returns-clause-restart c = λ v w one h. let e : w.trail.level ≡ 0 = ap (λ (t : TrailView). t.level) h.trail in omega (arith, one, e)

pub returns-clause-no_restart : goal.returns-clause-no_restart
returns-clause-no_restart c = λ v w h. ap (λ (t : TrailView). t.level) h.trail

use Rattle.std.proofs.Common.{◌≡◌, ◌∙◌, Bool, true, false, ap, sym, lit<, arith}
use Rattle.std.specs.Prelude.{if◌then◌else◌}
use Rattle.mono_trail.specs.TrailView.{TrailView}
use Rattle.mono_search.specs.Restarts.{Counted}
use Rattle.mono_search.specs.Runs.{GoesBack}
use Rattle.mono_search.specs.State.{StateView}
use Rattle.mono_search.specs.Worked.{after}
use Rattle.mono_search_rows.proofs.worked_searches.restarts_as_counted.Goals as goal

due : (b : Bool) (v w : StateView) → after 0 1 ≡ (if b then after 0 1 else after 100 0) → GoesBack v w b → w.trail.level ≡ 1 → ⊥
due true v w is back one = let e : w.trail.level ≡ 0 = ap (λ (t : TrailView). t.level) back.trail in omega (arith, one, e)
due false v w is back one = let e : 0 ≡ 100 = ap (λ (c : Counted). c.learned) is in omega (arith, e)

not_due : (b : Bool) (v w : StateView) → after 1 0 ≡ (if b then after 0 1 else after 1 0) → (h : GoesBack v w b) → w.trail.level ≡ h.learnt.back_to
not_due true v w is back = let e : 1 ≡ 0 = ap (λ (c : Counted). c.learned) is in absurd (omega (arith, e))
not_due false v w is back = ap (λ (t : TrailView). t.level) back.trail

pub returns-clause-due : goal.returns-clause-due
returns-clause-due c = λ v w one h.
    let same : w.trail.level ≡ h.gone.trail.level = ap (λ (s : StateView). s.trail.level) h.turned.turned in
    due h.restarts v h.gone (h.counts (lit< tt) (lit< tt)).counted h.back (sym same ∙ one)

pub returns-clause-not_due : goal.returns-clause-not_due
returns-clause-not_due c = λ v w h.
    let same : w.trail.level ≡ h.gone.trail.level = ap (λ (s : StateView). s.trail.level) h.turned.turned in
    same ∙ not_due h.restarts v h.gone (h.counts (lit< tt) (lit< tt)).counted h.back

use Rattle.std.proofs.Common.{ℕ, ◌==◌, List, IsTrue, sym, ap, subst, ◌∙◌, arith}
use Rattle.std.specs.List.{list_any}
use Rattle.mono_io.specs.FaultPlan.{Plan, is_over}
use Rattle.mono_io.proofs.Plans.{none_listed, still_over}
use Rattle.mono_io.proofs.fault_plan.FaultPlan.count_call.Goals as goal

pub returns-in-Some-clause-over : goal.returns-in-Some-clause-over
returns-in-Some-clause-over c over =
    let kept = subst (λ (plan : Plan). IsTrue (is_over plan)) (sym c.self.view_is) over in
    c.contains.ensures.value
    ∙ ap (λ (calls : List ℕ). list_any (λ call. call == c.in-Some.call) calls) c.deref.ensures.value
    ∙ ap (λ (next : ℕ). list_any (λ call. call == next) c.self.inside.listed.items) c.in-Some.ensures.1
    ∙ none_listed c.self.inside.calls c.self.inside.listed.items kept

pub returns-in-Some-clause-steady : goal.returns-in-Some-clause-steady
returns-in-Some-clause-steady c over =
    let kept = subst (λ (plan : Plan). IsTrue (is_over plan)) (sym c.self.view_is) over in
    let next = c.in-Some.ensures.1 in
    still_over c.self.inside.calls c.in-Some.call c.self.inside.listed.items (omega (arith, next)) kept

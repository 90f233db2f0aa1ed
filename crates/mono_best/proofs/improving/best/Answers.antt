use Rattle.std.proofs.Common.{◌≡◌, ◌+◌, ◌-◌, ◌≤◌, ◌∙◌, refl, ap, subst, arith, rules, length, All, List, Bool, ℕ}
use Rattle.mono_base.specs.declared.limits.TheConstants.{MAX_BOUND}
use Rattle.mono_base.specs.Literal.{IsLitWithin}
use Rattle.mono_search.specs.Outcomes.{HasModel}
use Rattle.mono_best.specs.Asking.{asking, predicate_of}
use Rattle.mono_best.specs.Bounds.{bound_at}
use Rattle.mono_best.specs.Best.{IsReply}
use Rattle.mono_best.specs.declared.questions.Reply.{Reply}
use Rattle.mono_best.specs.declared.questions.Reply.TheVariants as reply
use Rattle.mono_best.proofs.Asked.{met_beyond}
use Rattle.mono_best.proofs.improving.best.Goals as goal

pub loop-signs-init : goal.loop-signs-init
loop-signs-init g c = (omega arith, refl, search rules)

pub returns-in-Spent : goal.returns-in-Spent
returns-in-Spent g c =
    c.spent.ensures c.args.budget c.loop-signs.met c.loop-signs.invariant.1 (subst (λ (r : Reply). IsReply c.args.problem.now c.args.atom c.args.budget c.loop-signs.number r) c.in-Spent.is c.in_ok-steps.ensures)

pub returns-in-Refuted : goal.returns-in-Refuted
returns-in-Refuted g c = c.refuted.ensures c.args.budget

pub returns-then-last-eq-LAST : goal.returns-then-last-eq-LAST
returns-then-last-eq-LAST g c =
    let p = c.args.problem.now in
    let n = c.args.atom in
    let h : IsReply p n c.args.budget c.loop-signs.number (reply.Met c.in-Met.model c.in-Met.last) = subst (λ (r : Reply). IsReply p n c.args.budget c.loop-signs.number r) c.in-Met.is c.in_ok-steps.ensures in
    met_beyond p n c.in-Met.last c.in-Met.model c.if-last-eq-LAST.true c.requires.atom.bounded h.2

pub loop-signs-preserved : goal.loop-signs-preserved
loop-signs-preserved g c =
    let p = c.args.problem.now in
    let n = c.args.atom in
    let last = c.in-Met.last in
    let h : IsReply p n c.args.budget c.loop-signs.number (reply.Met c.in-Met.model last) = subst (λ (r : Reply). IsReply p n c.args.budget c.loop-signs.number r) c.in-Met.is c.in_ok-steps.ensures in
    let few : last + 1 ≤ MAX_BOUND + 1 = omega (arith, h.1, c.if-last-eq-LAST.false) in
    let before : last ≡ last + 1 - 1 = omega arith in
    let model : HasModel (asking p n (bound_at (predicate_of p n) (last + 1 - 1))) c.in-Met.model = subst (λ (j : ℕ). HasModel (asking p n (bound_at (predicate_of p n) j)) c.in-Met.model) before h.2 in
    let len : length c.as_slice-in-Met.result.now ≡ p.vars + 1 = ap (λ (xs : List Bool). length xs) c.as_slice-in-Met.ensures ∙ h.2.len in
    let within = subst (λ (v : ℕ). All (IsLitWithin v) c.in_ok-signs-in-Met.signs.items) len c.in_ok-signs-in-Met.ensures.within in
    (few, (omega arith, few, model), within)

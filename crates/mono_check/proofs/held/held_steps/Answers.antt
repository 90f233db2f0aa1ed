use Rattle.std.proofs.Common.{◌≡◌, ◌+◌, ◌++◌, ◌∷◌, [], ℕ, length, List, Some, None, sym, ap, ◌∙◌, arith}
use Rattle.mono_text.specs.Text.{tokens_of}
use Rattle.mono_steps.specs.declared.step.Step.{Step}
use Rattle.mono_answer.specs.Versions.{step_by}
use Rattle.mono_check.specs.Held.{step_said}
use Rattle.mono_check.specs.Migrations.{steps_held}
use Rattle.mono_check.proofs.HeldSteps.{held_first, more_held, no_step_held}
use Rattle.mono_check.proofs.held.held_steps.Goals as goal

pub lines-init : goal.lines-init
lines-init c =
    held_first c.version_of-version.result (length c.args.problem.now.clauses) c.from-clauses.result c.args.text.now c.new-steps.result.items c.new-lines.result
    c.version_of-version.ensures (c.from-clauses.ensures ∙ c.clause_count.ensures) c.new-steps.ensures.items c.new-lines.ensures

pub lines-preserved-in-Continue-branch-3 : goal.lines-preserved-in-Continue-branch-3
lines-preserved-in-Continue-branch-3 c =
    let v = c.version_of-version.result in
    let n = c.from-clauses.result in
    let line = c.in-Some.line in
    let steps = c.lines.steps.items in
    let long : c.len.result ≡ length steps = omega (arith, c.len.ensures) in
    let said : Some c.in-Some-2.step ≡ step_said (tokens_of line.text.now) = sym c.in-Some-2.is ∙ c.in_ok-step.ensures in
    let more : c.push.new.self.items ≡ steps ++ step_by v (n + length steps + 1) c.in-Some-2.step ∷ [] = c.in_ok-push.ensures.items ∙ ap (λ (s : Step). steps ++ s ∷ []) (c.named.ensures ∙ ap (λ (k : ℕ). step_by v (n + k + 1) c.in-Some-2.step) long) in
    more_held v n line.number line.text.now c.next.new.self steps c.push.new.self.items c.in-Some-2.step said more
    ∙ ap (λ (ls : List (ℕ × List ℕ)). steps ++ steps_held v (n + length steps + 1) ls) (sym c.in-Some.ensures.steps)
    ∙ c.lines.invariant

pub lines-preserved : goal.lines-preserved
lines-preserved c =
    let v = c.version_of-version.result in
    let n = c.from-clauses.result in
    let line = c.in-Some.line in
    let steps = c.lines.steps.items in
    let m = n + length steps + 1 in
    let said : None ≡ step_said (tokens_of line.text.now) = sym c.in_default-2.is ∙ c.in_ok-step.ensures in
    ap (λ (ss : List Step). steps ++ ss) (sym (no_step_held v m line.number line.text.now c.next.new.self said))
    ∙ ap (λ (ls : List (ℕ × List ℕ)). steps ++ steps_held v m ls) (sym c.in-Some.ensures.steps)
    ∙ c.lines.invariant

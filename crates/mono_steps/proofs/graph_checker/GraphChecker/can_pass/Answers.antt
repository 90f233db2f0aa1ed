use Rattle.std.proofs.Common.{◌≡◌, ◌∙◌, Bool, sym, subst, ap, IfOk, arith}
use Rattle.mono_steps.specs.Checkers.{GraphSize}
use Rattle.mono_steps.proofs.ClauseParts.{easiest_passes}
use Rattle.mono_steps.proofs.graph_checker.GraphChecker.can_pass.Goals as goal

pub returns-then-rests_on_present-clause-passes : goal.returns-then-rests_on_present-clause-passes
returns-then-rests_on_present-clause-passes c =
    let fits = ap (λ (s : GraphSize). s.edges) (c.self.view_is ∙ c.requires.size) in
    subst (λ (x : Bool). IfOk c.passes.result (λ b. b ≡ x))
    (easiest_passes c.args.graph.now c.self.inside.all c.args.predicate c.args.witness.now (c.self.invariant.size_all ∙ fits) (λ k low. c.self.invariant.there k (omega (arith, fits, low)) ∙ sym c.if-rests_on_present.true ∙ c.rests_on_present.ensures))
    c.passes.ensures.passes

pub returns-else-rests_on_present-clause-passes : goal.returns-else-rests_on_present-clause-passes
returns-else-rests_on_present-clause-passes c =
    let fits = ap (λ (s : GraphSize). s.edges) (c.self.view_is ∙ c.requires.size) in
    subst (λ (x : Bool). IfOk c.passes-else-rests_on_present.result (λ b. b ≡ x))
    (easiest_passes c.args.graph.now c.self.inside.none c.args.predicate c.args.witness.now (c.self.invariant.size_none ∙ fits) (λ k low. c.self.invariant.absent k (omega (arith, fits, low)) ∙ sym c.if-rests_on_present.false ∙ c.rests_on_present.ensures))
    c.passes-else-rests_on_present.ensures.passes

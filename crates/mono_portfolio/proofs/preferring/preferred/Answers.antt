use Rattle.std.proofs.Common.{◌≡◌, ◌∙◌, ap, sym, subst, arith, List, ℤ, All}
use Rattle.mono_base.specs.Literal.{IsLitWithin}
use Rattle.mono_portfolio.specs.Preferred.{preferred as preferred_of}
use Rattle.mono_portfolio.proofs.PreferredLaws.{preferred_within}
use Rattle.mono_portfolio.proofs.preferring.preferred.Goals as goal

pub returns-clause-within : goal.returns-clause-within
returns-clause-within c =
    let e : c.loop-var.var ≡ c.args.vars = omega arith in
    subst (λ (ls : List ℤ). All (IsLitWithin c.args.vars) ls) (sym (c.loop-var.invariant ∙ ap (preferred_of c.args.worker) e)) (preferred_within c.args.worker c.args.vars c.args.vars (omega arith))

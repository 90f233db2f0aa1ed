use Rattle.std.proofs.Common.{[], ◌∷◌, ◌++◌, ℤ, length, arith, sym, ap, subst, ◌∙◌, length-append}
use Rattle.mono_theory.specs.Theories.{Facts, but_last, last_seen}
use Rattle.mono_theory.proofs.BothSidesStay.{kept_with}
use Rattle.mono_theory.proofs.LastSeen.{but_last_seeing, last_seeing}
use Rattle.mono_theory.proofs.graph_theory.GraphTheoryTheory.assign.Goals as goal

pub assign-requires-2-clause-some : goal.assign-requires-2-clause-some
assign-requires-2-clause-some g c = omega (arith, ap (λ (f : Facts). length f.seen) c.assign.ensures, length-append c.self.inside.frame.seen (c.args.lit ∷ []))

pub assign-requires-2-clause-right : goal.assign-requires-2-clause-right
assign-requires-2-clause-right g c =
    subst (g.S.Side.is_right c.self.inside.surely) (sym (ap but_last c.assign.ensures ∙ but_last_seeing c.self.inside.frame c.args.lit)) c.self.invariant.surely.right

pub assign-requires-3-clause-some : goal.assign-requires-3-clause-some
assign-requires-3-clause-some g c = omega (arith, ap (λ (f : Facts). length f.seen) c.assign.ensures, length-append c.self.inside.frame.seen (c.args.lit ∷ []))

pub assign-requires-3-clause-right : goal.assign-requires-3-clause-right
assign-requires-3-clause-right g c =
    subst (g.P.Side.is_right c.self.inside.possibly) (sym (ap but_last c.assign.ensures ∙ but_last_seeing c.self.inside.frame c.args.lit)) c.self.invariant.possibly.right

pub invariant_of-self : goal.invariant_of-self
invariant_of-self g c =
    rw c.assign.ensures
    (kept_with (c.self.inside.frame.seen ++ c.args.lit ∷ []) (rw c.assign.ensures at c.assign-2.ensures.right) c.assign-2.ensures.sign (rw c.assign.ensures at c.assign-3.ensures.right) c.assign-3.ensures.sign c.self.invariant)

pub returns-clause-surely : goal.returns-clause-surely
returns-clause-surely g c =
    let f = c.self.inside.frame in
    let before = ap but_last c.assign.ensures ∙ but_last_seeing f c.args.lit in
    let last = ap last_seen c.assign.ensures ∙ last_seeing f c.args.lit in
    rw (← c.self.view_is)
    (subst (λ (l : ℤ). g.S.Side.keeps f l c.self.inside.surely c.assign-2.new.self) last
    (subst (λ (h : Facts). g.S.Side.keeps h (last_seen c.assign.new.self) c.self.inside.surely c.assign-2.new.self) before c.assign-2.ensures.keeps))

pub returns-clause-possibly : goal.returns-clause-possibly
returns-clause-possibly g c =
    let f = c.self.inside.frame in
    let before = ap but_last c.assign.ensures ∙ but_last_seeing f c.args.lit in
    let last = ap last_seen c.assign.ensures ∙ last_seeing f c.args.lit in
    rw (← c.self.view_is)
    (subst (λ (l : ℤ). g.P.Side.keeps f l c.self.inside.possibly c.assign-3.new.self) last
    (subst (λ (h : Facts). g.P.Side.keeps h (last_seen c.assign.new.self) c.self.inside.possibly c.assign-3.new.self) before c.assign-3.ensures.keeps))

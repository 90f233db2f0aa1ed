use Rattle.std.proofs.Common.{◌≡◌, ap, sym, subst, ◌∙◌}
use Rattle.std.specs.Prelude.{Option, IfSome, MatchOption}
use Rattle.mono_theory.specs.declared.evidence.Evidence.{Evidence}
use Rattle.mono_theory.specs.Sound.{evidence_at}
use Rattle.mono_theory.specs.Supports.{SideView}
use Rattle.mono_theory.proofs.SidesStay.{support_is_there, support_is_witness}
use Rattle.mono_theory.proofs.kept_side.KeptSide.support_witness.Goals as goal

pub returns-in-Stands-clause-right : goal.returns-in-Stands-clause-right
returns-in-Stands-clause-right c =
    let s = c.args.self.now in
    let a = c.args.atom in
    let at : c.at.result.now ≡ evidence_at s.supports a = c.at.ensures ∙ ap (λ (v : SideView). evidence_at v.supports a) c.self.view_is in
    support_is_witness c.witness_of.result (λ w. w.now) s a c.at.result.now c.requires (sym c.stage.ensures ∙ c.in-Stands.is) at c.witness_of.ensures.some

pub returns-in-Stands-clause-its : goal.returns-in-Stands-clause-its
returns-in-Stands-clause-its c =
    let at : c.at.result.now ≡ evidence_at c.args.self.now.supports c.args.atom = c.at.ensures ∙ ap (λ (v : SideView). evidence_at v.supports c.args.atom) c.self.view_is in
    subst (λ (o : Option Evidence). IfSome c.witness_of.result (λ w. MatchOption o ⊥ (λ e. w.now ≡ e.witness))) at c.witness_of.ensures.some

pub returns-in-Stands-clause-none : goal.returns-in-Stands-clause-none
returns-in-Stands-clause-none c =
    let s = c.args.self.now in
    let a = c.args.atom in
    let at : c.at.result.now ≡ evidence_at s.supports a = c.at.ensures ∙ ap (λ (v : SideView). evidence_at v.supports a) c.self.view_is in
    support_is_there c.witness_of.result s a c.at.result.now c.requires (sym c.stage.ensures ∙ c.in-Stands.is) at c.witness_of.ensures.none

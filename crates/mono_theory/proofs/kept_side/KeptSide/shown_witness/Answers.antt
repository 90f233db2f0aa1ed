use Rattle.std.proofs.Common.{◌≡◌, true, ap, sym, subst, ◌∙◌}
use Rattle.std.specs.Prelude.{Option, IfSome, MatchOption}
use Rattle.mono_theory.specs.declared.evidence.Evidence.{Evidence}
use Rattle.mono_theory.specs.Supports.{SideView}
use Rattle.mono_theory.proofs.SidesStay.{shown_is_there, shown_is_witness}
use Rattle.mono_theory.proofs.kept_side.KeptSide.shown_witness.Goals as goal

pub returns-in-Shows-clause-right : goal.returns-in-Shows-clause-right
returns-in-Shows-clause-right c =
    let s = c.args.self.now in
    let a = c.args.atom in
    let thorough : s.thorough ≡ true = sym (ap (λ (v : SideView). v.thorough) c.self.view_is) ∙ c.if-not-self.false in
    shown_is_witness c.witness_of.result (λ w. w.now) s a c.in-Shows.field-0 c.shown_at.result.now c.requires thorough (sym c.stage.ensures ∙ c.in-Shows.is) c.shown_at.ensures c.witness_of.ensures.some

pub returns-in-Shows-clause-its : goal.returns-in-Shows-clause-its
returns-in-Shows-clause-its c =
    subst (λ (o : Option Evidence). IfSome c.witness_of.result (λ w. MatchOption o ⊥ (λ e. w.now ≡ e.witness))) c.shown_at.ensures c.witness_of.ensures.some

pub returns-in-Shows-clause-none : goal.returns-in-Shows-clause-none
returns-in-Shows-clause-none c =
    shown_is_there c.witness_of.result c.args.self.now c.args.atom c.in-Shows.field-0 c.shown_at.result.now c.requires (sym c.stage.ensures ∙ c.in-Shows.is) c.shown_at.ensures c.witness_of.ensures.none

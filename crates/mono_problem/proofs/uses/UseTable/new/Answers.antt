use Rattle.std.proofs.Common.{◌≡◌, ◌∙◌, ℕ, List, length, map, ap, sym, subst}
use Rattle.std.specs.List.Sorted.{IsNonDecreasingBy}
use Rattle.std.proofs.lemmas.List.{length-map}
use Rattle.mono_problem.specs.declared.uses.Use.{Use}
use Rattle.mono_problem.specs.declared.uses.VarUse.{VarUse}
use Rattle.mono_problem.proofs.SortedUses.{chosen-map, rising-map}
use Rattle.mono_problem.proofs.uses.UseTable.new.Goals as goal

vars_are : (c : goal.In_ok-uses) → c.in_ok-vars.vars.items ≡ map (λ (u : VarUse). u.var) c.in_ok-all.all.items
vars_are c = c.in_ok-vars.ensures ∙ ap (map (λ (u : VarUse). u.var)) c.as_slice.ensures.value

uses_are : (c : goal.In_ok-uses) → c.in_ok-uses.uses.items ≡ map (λ (u : VarUse). u.at) c.in_ok-all.all.items
uses_are c = c.in_ok-uses.ensures ∙ ap (map (λ (u : VarUse). u.at)) c.as_slice-2.ensures.value

pub invariant_of-result : goal.invariant_of-result
invariant_of-result c =
    let all = c.in_ok-all.all.items in (
      ap (λ (vs : List ℕ). length vs) (vars_are c) ∙ (length-map all (λ (u : VarUse). u.var) ∙ sym (ap (λ (us : List Use). length us) (uses_are c) ∙ length-map all (λ (u : VarUse). u.at))),
      subst (λ (vs : List ℕ). IsNonDecreasingBy (λ (v : ℕ). v) vs) (sym (vars_are c)) (rising-map c.in_ok-all.all.items c.in_ok-all.ensures.sorted),
    )

pub returns : goal.returns
returns c x =
    let vars = c.in_ok-vars.ensures ∙ ap (map (λ (u : VarUse). u.var)) c.as_slice.ensures.value in
    let uses = c.in_ok-uses.ensures ∙ ap (map (λ (u : VarUse). u.at)) c.as_slice-2.ensures.value in
    rw (vars, uses) (chosen-map x c.in_ok-all.all.items ∙ ap (map (λ (u : VarUse). u.at)) (c.in_ok-all.ensures.stable x))

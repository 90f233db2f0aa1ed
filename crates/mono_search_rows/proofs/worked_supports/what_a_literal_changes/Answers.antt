use Rattle.std.proofs.Common.{◌≡◌, ℕ, true, false, [], ◌∷◌, sym, subst, inl, inr, arith}
use Rattle.std.specs.Prelude.{IsTrue}
use Rattle.mono_graph.specs.Digraph.{edge_at, has}
use Rattle.mono_graph.specs.Worked.{parallel}
use Rattle.mono_graph.proofs.Membership.{has_cons}
use Rattle.mono_theory.specs.declared.stage.Stage.TheVariants as stage
use Rattle.mono_search_rows.proofs.worked_supports.what_a_literal_changes.Goals as goal

only : (u v : ℕ) → IsTrue (has (u ∷ []) v) → u ≡ v
only u v h = elim (has_cons u v [] h) [ inl e ↦ e | inr none ↦ absurd cc ]

pub returns-clause-another_goes : goal.returns-clause-another_goes
returns-clause-another_goes c = λ h. elim (h.each 0) [
  | inl same ↦ let e : stage.Waits ≡ stage.Stands = same in cc
  | inr lost ↦
      let e : 2 ≡ 1 = subst (λ (k : ℕ). (edge_at (parallel 1 1) k).var ≡ 1) (sym (only 1 lost.rests.edge lost.rests.rests)) lost.rests.var in
      omega (arith, e)
]

pub returns-clause-edge_comes : goal.returns-clause-edge_comes
returns-clause-edge_comes c = λ h. elim (h.each 0) [
  | inl same ↦ let e : stage.Waits ≡ stage.Stands = same in cc
  | inr lost ↦ let e : true ≡ false = lost.changes in cc
]

pub returns-clause-stands_again : goal.returns-clause-stands_again
returns-clause-stands_again c = λ h. elim (h.each 0) [
  | inl same ↦ let e : stage.Stands ≡ stage.Waits = same in cc
  | inr lost ↦ let e : stage.Waits ≡ stage.Stands = lost.stood in cc
]

use Rattle.std.proofs.Common.{◌≡◌, ◌+◌, ◌∙◌, ap, subst, sym, refl, length, All, List, Bool, ℤ, ℕ, arith}
use Rattle.std.specs.Prelude.{IsTrue}
use Rattle.std.specs.List.{list_any}
use Rattle.mono_problem.specs.Growth.{greatest_var}
use Rattle.mono_steps.specs.declared.step.Step.{Step}
use Rattle.mono_steps.specs.Needed.{StepNamesHeld}
use Rattle.mono_steps.specs.Renumbering.{pick, names_step}
use Rattle.mono_core.specs.Dropped.{are_over, AreNamed, AreNarrowed, steps_without}
use Rattle.mono_core.proofs.Dropped.{names_behind, narrowed_among, shrunk_refuted}
use Rattle.mono_core.proofs.shrinking.shrunk.Goals as goal

pub named_by-requires-clause-names : goal.named_by-requires-clause-names
named_by-requires-clause-names c =
    let p = c.args.problem.now in
    let fewer = pick c.args.kept.items c.args.assumed.now in
    let count : c.from-count.result ≡ length p.clauses = c.from-count.ensures ∙ c.clause_count.ensures in
    let lits : c.in_ok-lits.lits.items ≡ fewer = c.in_ok-lits.ensures ∙ ap (λ (bs : List Bool). pick bs c.args.assumed.now) c.as_slice.ensures.value in
    let many : length fewer ≡ c.len.result = omega (arith, ap (λ (ls : List ℤ). length ls) lits, c.len.ensures) in
    subst (λ (ss : List Step). All (StepNamesHeld c.from-count.result (c.len.result + length ss)) ss) (sym c.as_slice-2.ensures)
    (subst (λ (m : ℕ). All (StepNamesHeld m (c.len.result + length c.args.steps)) c.args.steps) (sym count)
    (subst (λ (n : ℕ). All (StepNamesHeld (length p.clauses) (n + length c.args.steps)) c.args.steps) many (names_behind p fewer c.args.steps c.requires.refuted.refutes.refutes)))

pub without_unnamed-requires-clause-names : goal.without_unnamed-requires-clause-names
without_unnamed-requires-clause-names c =
    let p = c.args.problem.now in
    let fewer = pick c.args.kept.items c.args.assumed.now in
    let flags = c.as_slice-then-are_over.result.now in
    let count : c.from-count.result ≡ length p.clauses = c.from-count.ensures ∙ c.clause_count.ensures in
    let lits : c.in_ok-lits.lits.items ≡ fewer = c.in_ok-lits.ensures ∙ ap (λ (bs : List Bool). pick bs c.args.assumed.now) c.as_slice.ensures.value in
    let many : length fewer ≡ length flags = omega (arith, ap (λ (ls : List ℤ). length ls) lits, c.len.ensures, c.in_ok-named.ensures.len, ap (λ (bs : List Bool). length bs) c.as_slice-then-are_over.ensures.value) in
    subst (λ (ss : List Step). All (StepNamesHeld c.from-count.result (length flags + length ss)) ss) (sym c.as_slice-then-are_over-2.ensures)
    (subst (λ (m : ℕ). All (StepNamesHeld m (length flags + length c.args.steps)) c.args.steps) (sym count)
    (subst (λ (n : ℕ). All (StepNamesHeld (length p.clauses) (n + length c.args.steps)) c.args.steps) many (names_behind p fewer c.args.steps c.requires.refuted.refutes.refutes)))

pub returns-then-are_over-clause-refuted : goal.returns-then-are_over-clause-refuted
returns-then-are_over-clause-refuted c =
    let p = c.args.problem.now in
    let assumed = c.args.assumed.now in
    let kept = c.args.kept.items in
    let named = c.in_ok-named.named.items in
    let new = c.in_ok-new.new.items in
    let steps = c.args.steps in
    let whole = pick kept assumed in
    let most = greatest_var p.vars (pick new assumed) in
    let count : c.from-count.result ≡ length p.clauses = c.from-count.ensures ∙ c.clause_count.ensures in
    let lits : c.in_ok-lits.lits.items ≡ whole = c.in_ok-lits.ensures ∙ ap (λ (bs : List Bool). pick bs assumed) c.as_slice.ensures.value in
    let many : c.len.result ≡ length whole = omega (arith, ap (λ (ls : List ℤ). length ls) lits, c.len.ensures) in
    let flags : AreNamed (length p.clauses) (length whole) steps named = record {
      as_many = c.in_ok-named.ensures.len ∙ many;
      each = λ k lt. c.in_ok-named.ensures.each k (omega (arith, lt, many)) ∙ ap (λ (ss : List Step). list_any (λ s. names_step c.from-count.result s k) ss) c.as_slice-2.ensures ∙ ap (λ (n : ℕ). list_any (λ s. names_step n s k) steps) count;
    } in
    let narrow : AreNarrowed kept named new = subst (λ (bs : List Bool). AreNarrowed bs named new) c.as_slice-3.ensures.value (subst (λ (bs : List Bool). AreNarrowed c.as_slice-3.result.now bs new) c.as_slice-4.ensures.value c.in_ok-new.ensures) in
    let some : c.as_slice-6.result.now ≡ pick new assumed = c.as_slice-6.ensures.value ∙ (c.in_ok-fewer.ensures ∙ ap (λ (bs : List Bool). pick bs assumed) c.as_slice-5.ensures.value) in
    let vars : c.greatest_var-vars.result ≡ most = c.greatest_var-vars.ensures ∙ (ap (λ (v : ℕ). greatest_var v c.as_slice-6.result.now) c.vars.ensures.vars ∙ ap (λ (ls : List ℤ). greatest_var p.vars ls) some) in
    let over : c.are_over.result ≡ are_over most steps = c.are_over.ensures ∙ (ap (λ (v : ℕ). are_over v c.as_slice-7.result.now) vars ∙ ap (λ (ss : List Step). are_over most ss) c.as_slice-7.ensures) in
    let yes : IsTrue (are_over most steps) = subst (λ (b : Bool). IsTrue b) (sym c.if-are_over.true ∙ over) refl in
    let is : c.from_vec-steps.result ≡ steps_without (length p.clauses) named steps =
    c.from_vec-steps.ensures ∙ (c.in_ok-renumbered.ensures ∙ (ap (λ (n : ℕ). steps_without n c.as_slice-then-are_over.result.now c.as_slice-then-are_over-2.result.now) count
    ∙ (ap (λ (bs : List Bool). steps_without (length p.clauses) bs c.as_slice-then-are_over-2.result.now) c.as_slice-then-are_over.ensures.value ∙ ap (λ (ss : List Step). steps_without (length p.clauses) named ss) c.as_slice-then-are_over-2.ensures))) in
    shrunk_refuted p assumed kept named new steps c.from_vec-steps.result c.requires.refuted flags narrow yes is

pub returns-then-are_over-clause-fewer : goal.returns-then-are_over-clause-fewer
returns-then-are_over-clause-fewer c =
    let kept = c.args.kept.items in
    let named = c.in_ok-named.named.items in
    let new = c.in_ok-new.new.items in
    narrowed_among kept named new (subst (λ (bs : List Bool). AreNarrowed bs named new) c.as_slice-3.ensures.value (subst (λ (bs : List Bool). AreNarrowed c.as_slice-3.result.now bs new) c.as_slice-4.ensures.value c.in_ok-new.ensures))

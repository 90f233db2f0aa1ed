use Rattle.std.proofs.Common.{◌≡◌, ◌+◌, ◌++◌, ◌∙◌, sym, ap, subst, arith, ℕ, length, length-append, All, List, Bool, true}
use Rattle.std.specs.Prelude.{replicate}
use Rattle.std.proofs.lemmas.List.{length-replicate}
use Rattle.std.proofs.lemmas.Result.{IfOk-weaker}
use Rattle.mono_steps.specs.Needed.{StepNamesHeld, AreNumbers}
use Rattle.mono_steps.specs.Renumbering.{steps_with_numbers}
use Rattle.mono_steps.specs.Trimmed.{renumbered}
use Rattle.mono_steps.proofs.TrimmedSteps.{is_table}
use Rattle.mono_core.proofs.dropping.without_unnamed.Goals as goal

pub renumber_steps-requires-clause-names : goal.renumber_steps-requires-clause-names
renumber_steps-requires-clause-names c =
    let all : c.in_ok-all.all.items ≡ replicate (length c.args.steps.now) true = c.in_ok-all.ensures.items_if_clones_equal (λ y e. e) in
    let flags : c.in_ok-flags.flags.items ≡ c.args.named.now ++ replicate (length c.args.steps.now) true = c.in_ok-flags.ensures ∙ ap (λ (bs : List Bool). c.args.named.now ++ bs) (c.as_slice.ensures.value ∙ all) in
    let many : length c.as_slice-3.result.now ≡ length c.args.named.now + length c.args.steps.now = omega (arith, ap (λ (ns : List ℕ). length ns) c.as_slice-3.ensures.value, c.in_ok-numbers.ensures.as_many, ap (λ (bs : List Bool). length bs) (c.as_slice-2.ensures.value ∙ flags), length-append c.args.named.now (replicate (length c.args.steps.now) true), length-replicate (length c.args.steps.now) true) in
    subst (λ (n : ℕ). All (StepNamesHeld c.args.count n) c.args.steps.now) (sym many) c.requires.names

pub returns : goal.returns
returns c =
    let n = length c.args.steps.now in
    let all : c.in_ok-all.all.items ≡ replicate n true = c.in_ok-all.ensures.items_if_clones_equal (λ y e. e) in
    let both : List Bool = c.args.named.now ++ replicate n true in
    let flags : c.as_slice-2.result.now ≡ both = c.as_slice-2.ensures.value ∙ (c.in_ok-flags.ensures ∙ ap (λ (bs : List Bool). c.args.named.now ++ bs) (c.as_slice.ensures.value ∙ all)) in
    let numbers : AreNumbers c.args.count both c.as_slice-3.result.now = subst (λ (ns : List ℕ). AreNumbers c.args.count both ns) (sym c.as_slice-3.ensures.value) (subst (λ (bs : List Bool). AreNumbers c.args.count bs c.in_ok-numbers.numbers.items) flags c.in_ok-numbers.ensures) in
    IfOk-weaker c.renumber_steps.result _ _
    (λ new e. e (renumbered c.args.count both) (is_table c.args.count both c.as_slice-3.result.now numbers) ∙ ap (λ (bs : List Bool). steps_with_numbers (renumbered c.args.count both) bs c.args.steps.now) (c.as_slice-4.ensures.value ∙ all))
    c.renumber_steps.ensures

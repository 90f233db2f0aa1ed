use Rattle.std.proofs.Common.{◌≡◌, ◌≤◌, ◌∙◌, sym, ap, subst, arith, ℕ, length, List, Bool}
use Rattle.std.proofs.lemmas.Bool.{and_parts}
use Rattle.std.proofs.lemmas.Result.{IfOk-weaker}
use Rattle.mono_steps.specs.Steps.{are_justified, ends_empty}
use Rattle.mono_steps.specs.Needed.{NamesHeld, IsNeeded, AreNumbers}
use Rattle.mono_steps.specs.Renumbering.{steps_with_numbers}
use Rattle.mono_steps.specs.Trimmed.{renumbered, trimmed_steps}
use Rattle.mono_steps.proofs.NeededSteps.{names_held, all_named}
use Rattle.mono_steps.proofs.TrimmedSteps.{trimmed_is, is_table}
use Rattle.mono_steps.proofs.trimming.trimmed.Goals as goal
use Rattle.mono_steps.proofs.trimming.trimmed.Goals.{After-from-count}

names : (c : After-from-count) → NamesHeld c.from-count.result c.args.steps.now
names c = subst (λ (n : ℕ). NamesHeld n c.args.steps.now) (sym (c.from-count.ensures ∙ c.clause_count.ensures)) (names_held c.args.problem.now c.args.steps.now (and_parts (are_justified c.args.problem.now c.args.steps.now) (ends_empty c.args.steps.now) c.requires).0)

pub mark_needed-requires-clause-names : goal.mark_needed-requires-clause-names
mark_needed-requires-clause-names c = names (goal.at.mark_needed-requires-clause-names c).After-from-count

pub renumber_steps-requires-clause-names : goal.renumber_steps-requires-clause-names
renumber_steps-requires-clause-names c =
    let held = names (goal.at.renumber_steps-requires-clause-names c).After-from-count in
    let len : length c.args.steps.now ≤ length c.as_slice-2.result.now = omega (arith, ap (λ (ns : List ℕ). length ns) c.as_slice-2.ensures.value, c.in_ok-numbers.ensures.as_many, ap (λ (bs : List Bool). length bs) c.as_slice.ensures.value, c.mark_needed.ensures.as_many) in
    all_named c.from-count.result (length c.as_slice-2.result.now) c.args.steps.now len held

pub returns : goal.returns
returns c =
    let flags = c.mark_needed.new.needed.items in
    let count : c.from-count.result ≡ length c.args.problem.now.clauses = c.from-count.ensures ∙ c.clause_count.ensures in
    let needed : IsNeeded (length c.args.problem.now.clauses) c.args.steps.now 0 flags = subst (λ (n : ℕ). IsNeeded n c.args.steps.now 0 flags) count c.mark_needed.ensures in
    let numbers : AreNumbers c.from-count.result flags c.as_slice-2.result.now = subst (λ (ns : List ℕ). AreNumbers c.from-count.result flags ns) (sym c.as_slice-2.ensures.value) (subst (λ (bs : List Bool). AreNumbers c.from-count.result bs c.in_ok-numbers.numbers.items) c.as_slice.ensures.value c.in_ok-numbers.ensures) in
    let table = is_table c.from-count.result flags c.as_slice-2.result.now numbers in
    IfOk-weaker c.renumber_steps.result _ _
    (λ new e. trimmed_is c.args.problem.now flags c.args.steps.now new.items c.requires needed (e (renumbered c.from-count.result flags) table ∙ ap (λ (bs : List Bool). steps_with_numbers (renumbered c.from-count.result flags) bs c.args.steps.now) c.as_slice-3.ensures.value ∙ ap (λ (n : ℕ). trimmed_steps n flags c.args.steps.now) count) (omega (arith, new.small)))
    c.renumber_steps.ensures

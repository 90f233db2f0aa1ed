use Rattle.std.proofs.Common.{◌≡◌, ◌+◌, ◌∙◌, ap, subst, sym, arith, ℕ, length, replicate, List, Bool, true}
use Rattle.std.proofs.lemmas.List.{length-replicate}
use Rattle.std.proofs.lemmas.Result.{IfOk-weaker}
use Rattle.mono_steps.specs.Renumbering.{IsTable, steps_with_numbers}
use Rattle.mono_steps.proofs.NeededSteps.{all_named}
use Rattle.mono_portfolio.specs.Moved.{moved_number}
use Rattle.mono_portfolio.proofs.Carried.{all_carried}
use Rattle.mono_portfolio.proofs.Tables.{all_shift}
use Rattle.mono_portfolio.proofs.moving.moved_steps.Goals as goal

pub renumber_steps-requires-clause-len : goal.renumber_steps-requires-clause-len
renumber_steps-requires-clause-len c =
    let n = length c.args.steps.now in
    let all : c.in_ok-all.all.items ≡ replicate n true = c.in_ok-all.ensures.items_if_clones_equal (λ y e. e) in
    let flags : c.as_slice-2.result.now ≡ replicate n true = c.as_slice-2.ensures.value ∙ all in
    ap (λ (bs : List Bool). length bs) flags ∙ length-replicate n true

pub renumber_steps-requires-clause-names : goal.renumber_steps-requires-clause-names
renumber_steps-requires-clause-names c =
    let taken = length c.args.taken.now in
    let steps = length c.args.steps.now in
    let len : length c.as_slice.result.now ≡ taken + steps = ap (λ (ns : List ℕ). length ns) c.as_slice.ensures.value ∙ c.in_ok-numbers.ensures.len in
    all_shift c.args.count taken steps (length c.as_slice.result.now) c.args.steps.now len (all_named (c.args.count + taken) steps c.args.steps.now (omega arith) c.requires.names)

pub returns : goal.returns
returns c =
    let f : ℕ → ℕ = moved_number c.args.count c.args.taken.now c.args.board in
    let n = length c.args.steps.now in
    let all : c.in_ok-all.all.items ≡ replicate n true = c.in_ok-all.ensures.items_if_clones_equal (λ y e. e) in
    let flags : c.as_slice-2.result.now ≡ replicate n true = c.as_slice-2.ensures.value ∙ all in
    let table : IsTable c.args.count c.as_slice.result.now f = subst (λ (ns : List ℕ). IsTable c.args.count ns f) (sym c.as_slice.ensures.value) c.in_ok-numbers.ensures.table in
    IfOk-weaker c.renumber_steps.result _ _ (λ new e. e f table ∙ ap (λ (bs : List Bool). steps_with_numbers f bs c.args.steps.now) flags ∙ all_carried f c.args.steps.now) c.renumber_steps.ensures

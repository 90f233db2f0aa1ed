use Rattle.std.proofs.Common.{◌≡◌, ◌∙◌, ap, subst, sym, length, List, Bool, ℤ, false}
use Rattle.std.specs.Prelude.{slice_set}
use Rattle.mono_steps.specs.Renumbering.{pick}
use Rattle.mono_search.specs.declared.solving.Solved.{Solved}
use Rattle.mono_search.specs.Outcomes.{HasModel}
use Rattle.mono_search.specs.Solving.{IsSolved}
use Rattle.mono_steps.specs.New.{IsProgress}
use Rattle.mono_steps.specs.Trimmed.{IsTrimRefutation}
use Rattle.mono_problem.specs.Assuming.{assuming, HasRoom}
use Rattle.mono_core.specs.Cores.{others_of, AreAmong}
use Rattle.mono_core.proofs.Needs.{wide_of, tried_of, room_fewer, length-others, cleared_among, among_trans, still_unset, clear_one}
use Rattle.mono_core.proofs.deleting.try_without.Goals as goal

pub solve_under-requires-clause-room : goal.solve_under-requires-clause-room
solve_under-requires-clause-room g c =
    let p = c.args.problem.now in
    let assumed = c.args.assumed.now in
    let kept = c.args.deletion.now.refuted.kept.items in
    let j = c.args.place in
    let flags : c.as_slice.result.now ≡ slice_set kept j false = c.as_slice.ensures.value ∙ c.in_ok-others.ensures in
    let lits : c.as_slice-2.result.now ≡ others_of assumed kept j = c.as_slice-2.ensures.value ∙ (c.in_ok-tried.ensures ∙ ap (λ (bs : List Bool). pick bs assumed) flags) in
    subst (λ (ls : List ℤ). HasRoom p ls) (sym lits) (room_fewer p assumed (slice_set kept j false) (length-others assumed kept j c.requires.refuted.as_many) c.requires.room)

pub returns-in_ok-deletion-in-Model-clause-need : goal.returns-in_ok-deletion-in-Model-clause-need
returns-in_ok-deletion-in-Model-clause-need g c =
    let p = c.args.problem.now in
    let assumed = c.args.assumed.now in
    let kept = c.args.deletion.now.refuted.kept.items in
    let j = c.args.place in
    let flags : c.as_slice.result.now ≡ slice_set kept j false = c.as_slice.ensures.value ∙ c.in_ok-others.ensures in
    let lits : c.as_slice-2.result.now ≡ others_of assumed kept j = c.as_slice-2.ensures.value ∙ (c.in_ok-tried.ensures ∙ ap (λ (bs : List Bool). pick bs assumed) flags) in
    let model : HasModel (assuming p c.as_slice-2.result.now) c.in-Model.values = subst (λ (s : Solved). IsSolved (assuming p c.as_slice-2.result.now) c.args.budget s) c.in-Model.is c.in_ok-values.ensures in
    wide_of (assuming p (others_of assumed kept j)) c.in-Model.values (subst (λ (ls : List ℤ). HasModel (assuming p ls) c.in-Model.values) lits model)

pub shrunk-requires : goal.shrunk-requires
shrunk-requires g c =
    let p = c.args.problem.now in
    let assumed = c.args.assumed.now in
    let kept = c.args.deletion.now.refuted.kept.items in
    let j = c.args.place in
    let steps = c.in-Refutation.steps in
    let lits : c.as_slice-2.result.now ≡ pick c.in_ok-others.others.items assumed = c.as_slice-2.ensures.value ∙ (c.in_ok-tried.ensures ∙ ap (λ (bs : List Bool). pick bs assumed) c.as_slice.ensures.value) in
    let refuted : IsTrimRefutation (assuming p c.as_slice-2.result.now) steps = subst (λ (s : Solved). IsSolved (assuming p c.as_slice-2.result.now) c.args.budget s) c.in-Refutation.is c.in_ok-values.ensures in
    record {
      refuted = record {
        as_many = ap length c.in_ok-others.ensures ∙ length-others assumed kept j c.requires.refuted.as_many;
        refutes = subst (λ (ls : List ℤ). IsTrimRefutation (assuming p ls) steps) lits refuted;
      };
    }

pub returns-in-Progress-clause-need : goal.returns-in-Progress-clause-need
returns-in-Progress-clause-need g c =
    let p = c.args.problem.now in
    let assumed = c.args.assumed.now in
    let kept = c.args.deletion.now.refuted.kept.items in
    let j = c.args.place in
    let flags : c.as_slice.result.now ≡ slice_set kept j false = c.as_slice.ensures.value ∙ c.in_ok-others.ensures in
    let tried = c.in_ok-tried.ensures ∙ ap (λ (bs : List Bool). pick bs assumed) flags in
    let lits : c.as_slice-2.result.now ≡ others_of assumed kept j = c.as_slice-2.ensures.value ∙ tried in
    let spent : IsProgress (assuming p c.as_slice-2.result.now) c.args.budget c.in-Progress.steps = subst (λ (s : Solved). IsSolved (assuming p c.as_slice-2.result.now) c.args.budget s) c.in-Progress.is c.in_ok-values.ensures in
    tried_of p c.args.budget assumed kept j c.from_vec-tried.result c.in-Progress.steps c.requires.refuted.as_many (c.from_vec-tried.ensures ∙ tried) (subst (λ (ls : List ℤ). IsProgress (assuming p ls) c.args.budget c.in-Progress.steps) lits spent)

pub returns-in_ok-deletion-in-Refutation-clause-fewer : goal.returns-in_ok-deletion-in-Refutation-clause-fewer
returns-in_ok-deletion-in-Refutation-clause-fewer g c =
    let kept = c.args.deletion.now.refuted.kept.items in
    let new = c.in_ok-deletion-in-Refutation.field-0.kept.items in
    let among : AreAmong new (slice_set kept c.args.place false) = subst (λ (bs : List Bool). AreAmong new bs) c.in_ok-others.ensures c.in_ok-deletion-in-Refutation.ensures.fewer in
    among_trans new (slice_set kept c.args.place false) kept among (cleared_among kept c.args.place)

pub returns-in_ok-deletion-in-Refutation-clause-need : goal.returns-in_ok-deletion-in-Refutation-clause-need
returns-in_ok-deletion-in-Refutation-clause-need g c =
    let kept = c.args.deletion.now.refuted.kept.items in
    let new = c.in_ok-deletion-in-Refutation.field-0.kept.items in
    let among : AreAmong new (slice_set kept c.args.place false) = subst (λ (bs : List Bool). AreAmong new bs) c.in_ok-others.ensures c.in_ok-deletion-in-Refutation.ensures.fewer in
    still_unset new (slice_set kept c.args.place false) c.args.place among (clear_one kept c.args.place)

use Rattle.std.proofs.Common.{◌≡◌, ◌+◌, ◌<◌, ◌++◌, ◌∷◌, [], List, Option, None, true, false, Vec, Global, take, sym, ap, ◌∙◌, subst, length, arith, length-append}
use Rattle.std.specs.Prelude.{MatchOption}
use Rattle.std.specs.Option.{option_to_list}
use Rattle.mono_core.specs.declared.outcome.Need.{Need}
use Rattle.mono_steps.specs.Needed.{is_set}
use Rattle.mono_core.specs.Cores.{AreNeeds, AreFound, IsNeed}
use Rattle.mono_core.proofs.Needs.{need_more, need_none, found_before, found_last}
use Rattle.mono_core.proofs.needing.needs_of.Goals as goal
use Rattle.mono_core.proofs.needing.needs_of.Goals.{in-Some-2+in_ok-push, in_default-2}

pub loop-place-preserved : goal.loop-place-preserved
loop-place-preserved c =
    let p = c.args.problem.now in
    let assumed = c.args.assumed.now in
    let kept = c.args.kept.now.items in
    let place = c.loop-place.place in
    let rest = c.pop.new.self.items in
    let items : c.loop-place.found.items ≡ rest ++ c.in-Some.one ∷ [] = c.pop.ensures.items ∙ ap (λ (o : Option (Option Need)). rest ++ option_to_list o) c.in-Some.is in
    let len : length rest + (place + 1) ≡ length assumed = omega (arith, ap length items, length-append rest (c.in-Some.one ∷ []), c.loop-place.invariant.0) in
    let within : place < length kept = omega (arith, c.requires.kept, c.loop-place-test.true) in (
      len,
      λ budget found.
          let Its = λ (o : Option Need). MatchOption o (is_set kept place ≡ false) (λ (n : Need). (is_set kept place ≡ true) × IsNeed p budget assumed kept place n) in
          let before = c.loop-place.invariant.1 budget found in
          let all = subst (λ (os : List (Option Need)). AreFound p budget assumed kept os) items before.0 in
          let one = c.in_ok-need.ensures budget (found_last p budget assumed kept rest place c.in-Some.one len all) in (
            found_before p budget assumed kept rest place c.in-Some.one len all,
            elim c.match-branch-2.branch [
              | in-Some-2+in_ok-push w ↦ (
                  let items : c.match-branch-2.needs.items ≡ c.loop-place.needs.items ++ w.in-Some-2.need ∷ [] = ap (λ (v : Vec Need Global). v.items) w.needs-is ∙ w.in_ok-push.ensures.items in
                  let its : (is_set kept place ≡ true) × IsNeed p budget assumed kept place w.in-Some-2.need = subst Its w.in-Some-2.is one in
                  subst (λ (ns : List Need). AreNeeds (IsNeed p budget assumed kept) 0 (take (place + 1) kept) ns) (sym items) (need_more (IsNeed p budget assumed kept) kept place c.loop-place.needs.items w.in-Some-2.need within before.1 its.0 its.1))
              | in_default-2 w ↦ (
                  let none : c.in_ok-need.field-0 ≡ None = w.in_default-2.is in
                  let is_off : is_set kept place ≡ false = subst Its none one in
                  subst (λ (ns : List Need). AreNeeds (IsNeed p budget assumed kept) 0 (take (place + 1) kept) ns) (sym (ap (λ (v : Vec Need Global). v.items) w.needs-is)) (need_none (IsNeed p budget assumed kept) kept place c.loop-place.needs.items within before.1 is_off))
            ],
          ),
    )

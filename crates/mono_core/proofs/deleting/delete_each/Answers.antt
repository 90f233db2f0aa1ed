use Rattle.std.proofs.Common.{◌≡◌, ◌∙◌, ap, subst, sym, length, reverse, List, Bool, Option, ℕ, ℤ, true}
use Rattle.std.specs.Prelude.{replicate}
use Rattle.std.proofs.lemmas.List.{length-reverse}
use Rattle.mono_problem.specs.Instance.{Instance}
use Rattle.mono_core.specs.declared.outcome.Need.{Need}
use Rattle.mono_core.specs.Cores.{AreFound, AreLeft, IsRefuted}
use Rattle.mono_core.proofs.Needs.{refuted_whole}
use Rattle.mono_core.proofs.Left.{left_of_found}
use Rattle.mono_core.proofs.deleting.delete_each.Goals as goal

pub shrunk-requires : goal.shrunk-requires
shrunk-requires g c =
    let p = c.args.problem.now in
    let assumed = c.args.assumed.now in
    let all : c.in_ok-all.all.items ≡ replicate (length assumed) true = c.in_ok-all.ensures.items_if_clones_equal (λ y e. e) in
    record { refuted = subst (λ (bs : List Bool). IsRefuted p assumed bs c.args.steps) (sym all) (refuted_whole p assumed c.args.steps c.requires.refutes) }

-- what the short searches found, in the order in which it is taken up
turned : (p : Instance) (budget : ℕ) (assumed : List ℤ) (kept : List Bool) (found soon : List (Option Need)) → soon ≡ reverse found → length found ≡ length assumed → AreFound p budget assumed kept found → AreLeft p assumed kept soon
turned p budget assumed kept found soon is len all = subst (λ (os : List (Option Need)). AreLeft p assumed kept os) (sym is) (left_of_found p budget assumed kept found len all)

pub tried_again-requires-clause-soon : goal.tried_again-requires-clause-soon
tried_again-requires-clause-soon g c = turned _ _ _ _ _ _ c.reverse.ensures.items c.in_ok-soon.ensures.all c.in_ok-soon.ensures.found

pub tried_again-requires-clause-all : goal.tried_again-requires-clause-all
tried_again-requires-clause-all g c =
    ap (λ (os : List (Option Need)). length os) c.reverse.ensures.items ∙ length-reverse c.in_ok-soon.soon.items ∙ c.in_ok-soon.ensures.all

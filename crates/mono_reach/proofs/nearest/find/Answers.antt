use Rattle.std.proofs.Common.{◌<◌, ℕ, List, All, sym, subst}
use Rattle.std.proofs.lemmas.List.Elements.{All-push}
use Rattle.mono_reach.proofs.nearest.find.Goals as goal

pub returns-in_err-push-clause-waiting : goal.returns-in_err-push-clause-waiting
returns-in_err-push-clause-waiting c = λ n lt old. subst (λ (us : List ℕ). All (λ u. u < n) us) (sym c.in_err-push.ensures.items) old

pub returns-clause-waiting : goal.returns-clause-waiting
returns-clause-waiting c = λ n lt old.
    subst (λ (us : List ℕ). All (λ u. u < n) us) (sym c.in_ok-push.ensures.items) (All-push (λ (u : ℕ). u < n) c.args.waiting.now.items c.args.node old lt)

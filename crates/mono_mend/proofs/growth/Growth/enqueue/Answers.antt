use Rattle.std.proofs.Common.{List, ℕ, sym, subst}
use Rattle.mono_mend.specs.Growing.{AreGrown}
use Rattle.mono_mend.proofs.Grown.{grown_front, grown_behind}
use Rattle.mono_mend.proofs.growth.Growth.enqueue.Goals as goal

pub returns-in_err-push : goal.returns-in_err-push
returns-in_err-push c =
    let s = c.args.self.now in
    λ g lt old. subst (λ (us : List ℕ). AreGrown g s.marks.items s.reached.items us s.behind.items) (sym c.in_err-push.ensures.items) old

pub returns-then-onward : goal.returns-then-onward
returns-then-onward c =
    let s = c.args.self.now in
    λ g lt old. subst (λ (us : List ℕ). AreGrown g s.marks.items s.reached.items us s.behind.items) (sym c.in_ok-push.ensures.items)
    (grown_front g s.marks.items s.reached.items s.front.items s.behind.items c.args.node lt old)

pub returns-in_err-push-2 : goal.returns-in_err-push-2
returns-in_err-push-2 c =
    let s = c.args.self.now in
    λ g lt old. subst (λ (us : List ℕ). AreGrown g s.marks.items s.reached.items s.front.items us) (sym c.in_err-push-2.ensures.items) old

pub returns : goal.returns
returns c =
    let s = c.args.self.now in
    λ g lt old. subst (λ (us : List ℕ). AreGrown g s.marks.items s.reached.items s.front.items us) (sym c.in_ok-push-2.ensures.items)
    (grown_behind g s.marks.items s.reached.items s.front.items s.behind.items c.args.node lt old)

use Rattle.std.proofs.Common.{List, ℕ, set, sym, subst}
use Rattle.mono_mend.specs.Growing.{AreGrown}
use Rattle.mono_mend.proofs.Grown.{grown_mark}
use Rattle.mono_mend.proofs.growth.Growth.put.Goals as goal

pub returns-in_err-push : goal.returns-in_err-push
returns-in_err-push c =
    let s = c.args.self.now in
    λ g way old. subst (λ (us : List ℕ). AreGrown g s.marks.items us s.front.items s.behind.items) (sym c.in_err-push.ensures.items) old

pub returns : goal.returns
returns c =
    let s = c.args.self.now in
    λ g way old. subst (λ (us : List ℕ). AreGrown g (set s.marks.items c.args.node c.args.mark) us s.front.items s.behind.items) (sym c.in_ok-push.ensures.items)
    (grown_mark g s.marks.items s.reached.items s.front.items s.behind.items c.args.node c.args.mark c.requires way old)

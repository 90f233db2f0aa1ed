use Rattle.std.proofs.Common.{◌∙◌, ◌++◌, List, ap, refl, arith}
use Rattle.mono_base.specs.Buckets.{lists_in}
use Rattle.mono_base.proofs.ListsByKey.{pushed_lists}
use Rattle.mono_base.proofs.buckets.push_list.Goals as goal

pub returns-clause-added : goal.returns-clause-added
returns-clause-added g c =
    ap (λ (ys : List _). lists_in ys c.push.new.self.items) c.in_ok-extend_from_slice.ensures.items
    ∙ ap (lists_in (c.args.items.now.items ++ c.args.list.now)) c.in_ok-push.ensures.items
    ∙ pushed_lists c.args.items.now.items c.args.list.now c.args.stretches.now.items _ c.requires.apart (let n = c.len-start.ensures in omega arith) refl

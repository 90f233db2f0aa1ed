use Rattle.std.proofs.Common.{◌<◌, List, sym, subst}
use Rattle.std.specs.Prelude.{All}
use Rattle.std.specs.BinaryHeap.{heap_items}
use Rattle.mono_mend.specs.declared.frontier.Open.{Open}
use Rattle.mono_mend.proofs.Guided.{within_pushed}
use Rattle.mono_mend.proofs.frontier.Frontier.push.Goals as goal

pub returns-in_err-push : goal.returns-in_err-push
returns-in_err-push c = λ n lt old. subst (λ (os : List Open). All (λ (o : Open). o.node < n) os) (sym c.in_err-push.ensures.unchanged.0) old

pub returns : goal.returns
returns c = λ n lt old. within_pushed n (heap_items c.args.self.now.waiting) (heap_items c.push.new.self) _ c.in_ok-push.ensures.permutation lt old

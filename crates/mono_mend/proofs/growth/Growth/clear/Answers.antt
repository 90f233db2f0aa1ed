use Rattle.std.proofs.Common.{◌≡◌, ℕ, false, List, length, subst, arith}
use Rattle.mono_graph.specs.Digraph.{has}
use Rattle.mono_mend.proofs.Grown.{grown_none}
use Rattle.mono_mend.proofs.growth.Growth.clear.Goals as goal

pub returns : goal.returns
returns c = λ g count.
    let none = c.unmark.ensures.clear (λ u off. c.requires.unlisted u (subst (λ (us : List ℕ). has us u ≡ false) c.deref.ensures.value off)) in
    let len : length c.unmark.new.marks.items ≡ g.nodes = omega (arith, c.unmark.ensures.len, count) in
    rw (c.clear.ensures.items, c.clear-2.ensures.items, c.clear-3.ensures.items) (grown_none g c.unmark.new.marks.items len none)

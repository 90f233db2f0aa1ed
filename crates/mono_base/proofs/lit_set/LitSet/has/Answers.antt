use Rattle.std.proofs.Common.{ℕ, eqb, ap, ◌∙◌}
use Rattle.std.specs.Prelude.{not}
use Rattle.mono_base.specs.Literal.{has_lit}
use Rattle.mono_base.specs.LitSet.{LiteralSet}
use Rattle.mono_base.proofs.Sparse.{mark_read, mark_tells}
use Rattle.mono_base.proofs.lit_set.LitSet.has.Goals as goal

pub returns : goal.returns
returns c =
    let within = rw (← c.self.view_is) at c.requires in
    let mark = mark_read c.args.lit c.slot.result c.index.result.now c.self.invariant within c.slot.ensures.value c.index.ensures in
    ap (λ (n : ℕ). not (eqb n 0)) mark
    ∙ mark_tells c.self.inside.places.items c.self.inside.members.items c.args.lit c.self.invariant.indexed
    ∙ ap (λ (s : LiteralSet). has_lit s.members c.args.lit) c.self.view_is

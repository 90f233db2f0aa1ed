use Rattle.std.proofs.Common.{◌≡◌, ◌≤◌, true, get_or, length, arith, sym, ◌∙◌, subst}
use Rattle.std.specs.Prelude.{nat_abs}
use Rattle.mono_base.specs.Literal.{has_lit, slot}
use Rattle.mono_base.specs.LitSet.{LiteralSet}
use Rattle.mono_base.proofs.Members.{has_lit_again}
use Rattle.mono_base.proofs.Sparse.{has_from_mark, mark_read, has_room, sparse_push}
use Rattle.mono_base.proofs.lit_set.LitSet.insert.Goals as goal
use Rattle.mono_base.proofs.lit_set.LitSet.insert.Goals.{Then-index-ne0, After-len}

present : (c : Then-index-ne0) → has_lit c.args.self.now.members c.args.lit ≡ true
present c =
    let within = rw (← c.self.view_is) at c.requires in
    let mark = mark_read c.args.lit c.slot-slot.result c.index.result.now c.self.invariant within c.slot-slot.ensures.value c.index.ensures in
    subst (λ (s : LiteralSet). has_lit s.members c.args.lit ≡ true) c.self.view_is
    (has_from_mark c.self.inside.places.items c.self.inside.members.items c.args.lit c.self.invariant.indexed (λ e. c.if-index-ne0.true (mark ∙ e)))

pub returns-then-index-ne0-clause-has : goal.returns-then-index-ne0-clause-has
returns-then-index-ne0-clause-has c = λ m. has_lit_again c.args.self.now.members c.args.lit m (present c)

within : (c : After-len) → nat_abs c.args.lit ≤ c.self.inside.vars
within c = rw (← c.self.view_is) at c.requires

unmarked : (c : After-len) → get_or c.self.inside.places.items (slot c.args.lit) 0 ≡ 0
unmarked c = sym (mark_read c.args.lit c.slot-slot.result c.index.result.now c.self.invariant (within c) c.slot-slot.ensures.value c.index.ensures) ∙ c.if-index-ne0.false

pub overflow_cast-len : goal.overflow_cast-len
overflow_cast-len c = omega (arith, (has_room c.args.lit c.self.invariant (within c) (unmarked c)).1, c.self.invariant.few)

pub overflow_add-len : goal.overflow_add-len
overflow_add-len c = omega (arith, (has_room c.args.lit c.self.invariant (within c) (unmarked c)).1, c.self.invariant.few)

pub push_within-requires : goal.push_within-requires
push_within-requires c =
    let at : After-len = (goal.at.push_within-requires c).After-len in
    omega (arith, (has_room c.args.lit c.self.invariant (within at) (unmarked at)).0)

pub invariant_of-self : goal.invariant_of-self
invariant_of-self c =
    let at : After-len = (goal.at.invariant_of-self c).After-len in
    let here : c.len.result ≡ length c.self.inside.members.items = omega (arith, c.len.ensures) in
    rw (c.push_within.ensures.items, here) (sparse_push c.args.lit c.slot-slot.result _ c.self.invariant (c.slot-slot.ensures.literal, within at) (unmarked at) c.slot-slot.ensures.value c.push_within.ensures.room)

use Rattle.std.proofs.Common.{◌≡◌, ◌∷◌, ◌&&◌, not, int_eq, ◌≤◌, ◌<◌, ◌+◌, ◌-◌, ℕ, false, get_or, set, length, arith, sym, ◌∙◌, ap, subst}
use Rattle.std.specs.Prelude.{ℤ, pos, nat_abs, vec_capacity}
use Rattle.std.specs.List.Sorted.{IsPermutation}
use Rattle.std.proofs.lemmas.List.{get_or_read}
use Rattle.std.proofs.lemmas.List.Sorted.{IsPermutation-swap_remove}
use Rattle.mono_base.specs.Literal.{has_lit, slot}
use Rattle.mono_base.specs.LitSet.{LiteralSet, IsSparse}
use Rattle.mono_base.proofs.Members.{has_lit_none, has_lit_rest}
use Rattle.mono_base.proofs.Sparse.{no_mark, mark_read, sparse_swap_remove, IsSwapped, stands_at, has_slot, unmarked}
use Rattle.mono_base.proofs.lit_set.LitSet.remove.Goals as goal
use Rattle.mono_base.proofs.lit_set.LitSet.remove.Goals.{Then-place-eq0, After-swap_remove}

absent : (c : Then-place-eq0) → has_lit c.args.self.now.members c.args.lit ≡ false
absent c =
    let within = rw (← c.self.view_is) at c.requires in
    let mark = mark_read c.args.lit c.slot-slot.result c.index-place.result.now c.self.invariant within c.slot-slot.ensures.value c.index-place.ensures in
    let none = no_mark c.self.inside.places.items c.self.inside.members.items c.args.lit c.self.invariant.indexed (sym mark ∙ c.if-place-eq0.true) in
    subst (λ (s : LiteralSet). has_lit s.members c.args.lit ≡ false) c.self.view_is none

pub returns-then-place-eq0-clause-has : goal.returns-then-place-eq0-clause-has
returns-then-place-eq0-clause-has c = λ m. has_lit_none c.args.self.now.members c.args.lit m (absent c)

within : (c : After-swap_remove) → nat_abs c.args.lit ≤ c.self.inside.vars
within c = rw (← c.self.view_is) at c.requires

marked : (c : After-swap_remove) → get_or c.self.inside.places.items (slot c.args.lit) 0 ≡ c.index-place.result.now
marked c = sym (mark_read c.args.lit c.slot-slot.result c.index-place.result.now c.self.invariant (within c) c.slot-slot.ensures.value c.index-place.ensures)

swapped : (c : After-swap_remove) → IsSwapped c.self.inside.members.items c.swap_remove.new.self.items (c.index-place.result.now - 1)
swapped c = record {
  shorter = omega (arith, c.swap_remove.ensures.len);
  moved = λ less. c.swap_remove.ensures.by_index.0 (pos 0) (omega (arith, less)) ∙ ap (λ (n : ℕ). get_or c.self.inside.members.items (n - 1) (pos 0)) (omega arith);
  kept = λ k apart less. c.swap_remove.ensures.by_index.1 k (pos 0) apart (omega (arith, less));
}

last_slot : (c : After-swap_remove) → c.slot.result ≡ slot (get_or c.self.inside.members.items (length c.self.inside.members.items - 1) (pos 0))
last_slot c =
    let at : c.len.result - 1 ≡ length c.self.inside.members.items - 1 = omega (arith, c.len.ensures) in
    let below : c.len.result - 1 < length c.self.inside.members.items = omega (arith, c.len.ensures, c.swap_remove.ensures.len) in
    let last = get_or_read c.self.inside.members.items (c.len.result - 1) c.index-last.result.now below c.index-last.ensures (pos 0) in
    c.slot.ensures.value ∙ ap slot (last ∙ ap (λ (n : ℕ). get_or c.self.inside.members.items n (pos 0)) at)

place_above : (c : After-swap_remove) → c.index-place.result.now ≡ c.index-place.result.now - 1 + 1
place_above c = let some = c.if-place-eq0.false in omega (arith, some)

sparse : (c : After-swap_remove) → IsSparse c.self.inside.vars (set (set c.self.inside.places.items c.slot.result (c.index-place.result.now - 1 + 1)) c.slot-slot.result 0) c.swap_remove.new.self.items (vec_capacity c.self.inside.members)
sparse c = sparse_swap_remove c.swap_remove.new.self.items c.args.lit c.slot-slot.result c.slot.result (c.index-place.result.now - 1) c.self.invariant (within c) (marked c ∙ place_above c) (swapped c) c.slot-slot.ensures.value (last_slot c)

pub invariant_of-self : goal.invariant_of-self
invariant_of-self c = rw (c.swap_remove.ensures.capacity, place_above c) (sparse c)

stands : (c : After-swap_remove) → (c.index-place.result.now - 1 < length c.self.inside.members.items) × (get_or c.self.inside.members.items (c.index-place.result.now - 1) (pos 0) ≡ c.args.lit)
stands c = stands_at c.self.inside.places.items c.self.inside.members.items c.args.lit (c.index-place.result.now - 1) c.self.invariant.indexed (marked c ∙ place_above c)

gone : (c : After-swap_remove) → c.swap_remove.result ≡ c.args.lit
gone c = get_or_read c.self.inside.members.items (c.index-place.result.now - 1) c.swap_remove.result (stands c).0 c.swap_remove.ensures.value (pos 0) ∙ (stands c).1

pub returns-clause-has : goal.returns-clause-has
returns-clause-has c = λ m.
    let members = c.self.inside.members.items in
    let rest = c.swap_remove.new.self.items in
    let moved : IsPermutation members (c.swap_remove.result ∷ rest) = rw c.swap_remove.ensures.items (IsPermutation-swap_remove members (c.index-place.result.now - 1) c.swap_remove.result (stands c).0 c.swap_remove.ensures.value) in
    let erased = unmarked c.self.inside.places.items c.args.lit c.slot-slot.result c.slot.result (c.index-place.result.now - 1 + 1) (has_slot c.args.lit c.self.invariant (within c)) c.slot-slot.ensures.value in
    let none : has_lit rest c.args.lit ≡ false = no_mark _ rest c.args.lit (sparse c).indexed erased in
    subst (λ (s : LiteralSet). has_lit rest m ≡ (has_lit s.members m && not (int_eq m c.args.lit))) c.self.view_is
    (has_lit_rest members rest c.args.lit m (subst (λ (l : ℤ). IsPermutation members (l ∷ rest)) (gone c) moved) none)

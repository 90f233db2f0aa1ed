use Rattle.std.proofs.Common.{◌≡◌, ◌∙◌, ◌<◌, false, true, get_or, set, length, sym, subst, arith}
use Rattle.mono_base.specs.Worklist.{IsWorklist}
use Rattle.std.proofs.lemmas.List.{get_or_default}
use Rattle.mono_base.proofs.Worklists.{has_room, inserted}
use Rattle.mono_base.proofs.worklist.Worklist.insert.Goals as goal

pub push_reserved-requires : goal.push_reserved-requires
push_reserved-requires c =
    let lt : c.args.place < length c.self.inside.listed.items = rw (← c.self.view_is) at c.requires in
    let off : get_or c.self.inside.listed.items c.args.place false ≡ false = sym (get_or_default c.self.inside.listed.items c.args.place c.index.result.now false lt) ∙ sym c.index.ensures ∙ c.if-index.false in
    let room = has_room c.self.inside.listed.items c.self.inside.places.items _ c.args.place c.self.invariant lt off in
    omega (arith, room)

pub invariant_of-self : goal.invariant_of-self
invariant_of-self c =
    let lt : c.args.place < length c.self.inside.listed.items = rw (← c.self.view_is) at c.requires in
    let off : get_or c.self.inside.listed.items c.args.place false ≡ false = sym (get_or_default c.self.inside.listed.items c.args.place c.index.result.now false lt) ∙ sym c.index.ensures ∙ c.if-index.false in
    subst (λ room. IsWorklist (set c.self.inside.listed.items c.args.place true) c.push_reserved.new.self.items room) (sym c.push_reserved.ensures.capacity)
    (inserted c.self.inside.listed.items c.self.inside.places.items c.push_reserved.new.self.items _ c.args.place c.self.invariant lt off c.push_reserved.ensures.items)

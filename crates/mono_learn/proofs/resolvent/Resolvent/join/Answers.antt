use Rattle.std.proofs.Common.{◌<◌, arith, sym, ◌∙◌, false, length, refl}
use Rattle.std.proofs.lemmas.List.{get_or_read}
use Rattle.mono_learn.proofs.Joining.{joins_again, joins_low, joins_high, room_for}
use Rattle.mono_learn.proofs.resolvent.Resolvent.join.Goals as goal

pub index-requires : goal.index-requires
index-requires c = omega (arith, c.place_of_false-place.ensures.within, c.requires.slots, c.args.self.now.seen.ok.0)

pub index_mut-requires : goal.index_mut-requires
index_mut-requires c = omega (arith, c.place_of_false-place.ensures.within, c.requires.slots, c.args.self.now.seen.ok.0)

pub index_mut-requires-2 : goal.index_mut-requires-2
index_mut-requires-2 c = omega (arith, c.place_of_false-place.ensures.within, c.requires.slots, c.args.self.now.seen.ok.0)

pub overflow_add-self : goal.overflow_add-self
overflow_add-self c = omega (arith, room_for c.args.start c.place_of_false-place.result c.args.self.now.seen.items c.args.self.now.count c.args.self.now.seen.len c.requires.counted (sym c.args.self.now.seen.ok.0) (omega (arith, c.args.self.now.seen.ok, c.args.self.now.seen.small)))

pub returns-then-index : goal.returns-then-index
returns-then-index c =
    let lt : c.place_of_false-place.result < length c.args.self.now.seen.items = omega (arith, c.place_of_false-place.ensures.within, c.requires.slots) in
    joins_again c.args.trail.now.lits c.args.start c.args.self.now c.place_of_false-place.result c.args.lit c.requires.sound.partial c.place_of_false-place.ensures c.requires.counted (sym (get_or_read c.args.self.now.seen.items c.place_of_false-place.result c.index.result.now lt c.index.ensures false) ∙ c.if-index.true)

pub returns-then-place-start : goal.returns-then-place-start
returns-then-place-start c = joins_low c.args.trail.now.lits c.args.start c.args.self.now _ c.place_of_false-place.result c.args.lit c.requires.sound.partial c.place_of_false-place.ensures c.requires.counted c.if-place-start.true refl c.in_ok-push.ensures.items refl

pub returns : goal.returns
returns c =
    let lt : c.place_of_false-place.result < length c.args.self.now.seen.items = omega (arith, c.place_of_false-place.ensures.within, c.requires.slots) in
    joins_high c.args.trail.now.lits c.args.start c.args.self.now _ c.place_of_false-place.result c.args.lit c.requires.sound.partial c.place_of_false-place.ensures c.requires.counted c.if-place-start.false lt (sym (get_or_read c.args.self.now.seen.items c.place_of_false-place.result c.index.result.now lt c.index.ensures false) ∙ c.if-index.false) refl refl refl

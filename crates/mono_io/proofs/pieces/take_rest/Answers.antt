use Rattle.std.proofs.Common.{◌≡◌, ◌∙◌, ◌+◌, ◌≤◌, Option, drop, length, ap, arith, length-append, rules}
use Rattle.std.proofs.lemmas.List.{length-take-le}
use Rattle.mono_io.specs.Shelf.{Texts, ShelfView, chosen_text, told_text}
use Rattle.mono_io.proofs.TakenPieces.{place_before, place_within, taken_more}
use Rattle.mono_io.proofs.pieces.take_rest.Goals as goal

pub pieces-preserved : goal.pieces-preserved
pieces-preserved g c =
    let old : ShelfView = g.S.Shelf.seen c.pieces.shelf in
    let new : ShelfView = g.S.Shelf.seen c.read.new.self in
    let read = c.in_ok-count.ensures in
    let kept = c.pieces.invariant.choice in
    let chosen : chosen_text new ≡ chosen_text old = ap (λ (t : Option Texts). told_text t new.chosen) read.texts ∙ ap (told_text old.texts) read.chosen in
    let most : c.min-most.result ≤ length c.pieces.buffer = omega arith in
    let asked = length-take-le c.min-most.result c.pieces.buffer most in
    let room : c.pieces.taken + c.in_ok-count.count ≤ c.args.limit = omega (arith, c.pieces.invariant.taken.within, c.if-count-room.false, asked, read.bound) in
    record {
      room = omega (arith, length-append c.read.new.buf (drop c.min-most.result c.pieces.buffer), read.bound, c.if-count-eq0.false);
      taken = taken_more old new c.args.limit c.pieces.taken _ _ c.read.new.buf _ c.in_ok-count.count c.pieces.invariant.taken chosen read.bytes read.bound room read.place (λ bytes before. c.in_ok-consume.ensures _ bytes before);
      choice = record { texts = read.texts ∙ kept.texts; chosen = read.chosen ∙ kept.chosen; begun = read.begun ∙ kept.begun; steady = λ h. read.steady (kept.steady h) };
      faults = read.cause.succeeded ∙ c.pieces.invariant.faults;
    }

pub overflow_add-room : goal.overflow_add-room
overflow_add-room g c = omega (arith, c.requires.small)

pub overflow_sub-room : goal.overflow_sub-room
overflow_sub-room g c = omega (arith, c.pieces.invariant.taken.within)

pub slice_bounds-consume-end : goal.slice_bounds-consume-end
slice_bounds-consume-end g c = omega (arith, length-append c.read.new.buf (drop c.min-most.result c.pieces.buffer), c.in_ok-count.ensures.bound)

pub returns-in_err-count-clause-too_long : goal.returns-in_err-count-clause-too_long
returns-in_err-count-clause-too_long g c =
    (search rules, λ past. absurd (place_before _ _ c.pieces.taken 0 c.args.limit c.pieces.invariant.taken.place c.in_err-count.ensures.place (omega (arith, c.pieces.invariant.taken.within)) past))

pub returns-in_err-count-clause-no_further : goal.returns-in_err-count-clause-no_further
returns-in_err-count-clause-no_further g c = place_within _ _ c.pieces.taken 0 (c.args.limit + 1) c.pieces.invariant.taken.place c.in_err-count.ensures.place (omega (arith, c.pieces.invariant.taken.within))

pub returns-then-count-eq0-clause-too_long : goal.returns-then-count-eq0-clause-too_long
returns-then-count-eq0-clause-too_long g c =
    (λ e. absurd (cc), λ past. absurd (place_before _ _ c.pieces.taken c.in_ok-count.count c.args.limit c.pieces.invariant.taken.place c.in_ok-count.ensures.place (omega (arith, c.pieces.invariant.taken.within, c.if-count-eq0.true)) past))

pub returns-then-count-eq0-clause-no_further : goal.returns-then-count-eq0-clause-no_further
returns-then-count-eq0-clause-no_further g c =
    place_within _ _ c.pieces.taken c.in_ok-count.count (c.args.limit + 1) c.pieces.invariant.taken.place c.in_ok-count.ensures.place (omega (arith, c.pieces.invariant.taken.within, c.if-count-eq0.true))

pub returns-then-count-room-clause-no_further : goal.returns-then-count-room-clause-no_further
returns-then-count-room-clause-no_further g c =
    place_within _ _ c.pieces.taken c.in_ok-count.count (c.args.limit + 1) c.pieces.invariant.taken.place c.in_ok-count.ensures.place (omega (arith, c.pieces.invariant.taken.within, c.if-count-room.true))

pub returns-in_err-consume-clause-too_long : goal.returns-in_err-consume-clause-too_long
returns-in_err-consume-clause-too_long g c =
    let asked = length-take-le c.min-most.result c.pieces.buffer (omega arith) in
    let room : c.pieces.taken + c.in_ok-count.count ≤ c.args.limit = omega (arith, c.pieces.invariant.taken.within, c.if-count-room.false, asked, c.in_ok-count.ensures.bound) in
    (search rules, λ past. absurd (place_before _ _ c.pieces.taken c.in_ok-count.count c.args.limit c.pieces.invariant.taken.place c.in_ok-count.ensures.place room past))

pub returns-in_err-consume-clause-no_further : goal.returns-in_err-consume-clause-no_further
returns-in_err-consume-clause-no_further g c =
    let asked = length-take-le c.min-most.result c.pieces.buffer (omega arith) in
    place_within _ _ c.pieces.taken c.in_ok-count.count (c.args.limit + 1) c.pieces.invariant.taken.place c.in_ok-count.ensures.place (omega (arith, c.pieces.invariant.taken.within, asked, c.in_ok-count.ensures.bound))

pub overflow_add-taken : goal.overflow_add-taken
overflow_add-taken g c =
    let asked = length-take-le c.min-most.result c.pieces.buffer (omega arith) in
    omega (arith, c.requires.small, c.pieces.invariant.taken.within, asked, c.in_ok-count.ensures.bound)

pub pieces-smaller : goal.pieces-smaller
pieces-smaller g c =
    let asked = length-take-le c.min-most.result c.pieces.buffer (omega arith) in
    omega (arith, c.pieces.invariant.taken.within, c.if-count-room.false, c.if-count-eq0.false, asked, c.in_ok-count.ensures.bound)

pub returns-then-count-room-clause-too_long : goal.returns-then-count-room-clause-too_long
returns-then-count-room-clause-too_long g c = search rules

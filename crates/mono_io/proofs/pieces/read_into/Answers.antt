use Rattle.mono_io.proofs.TakenPieces.{read_all}
use Rattle.mono_io.proofs.pieces.read_into.Goals as goal

pub returns-clause-ok : goal.returns-clause-ok
returns-clause-ok g c =
    let begun = c.in_ok-begin.ensures in
    let rest = c.in_ok-take_rest.ensures in
    read_all c.args.name.now c.args.limit (g.S.Shelf.seen c.args.shelf.now) (g.S.Shelf.seen c.begin.new.self) (g.S.Shelf.seen c.take_rest.new.shelf) (λ text. g.C.Consumer.takes c.args.consumer.now text c.take_rest.new.consumer) rest.whole
    begun.begun begun.texts begun.steady begun.chosen begun.lacking begun.cause.succeeded rest.choice (rest.others (λ e. cc))

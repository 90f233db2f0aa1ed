use Rattle.mono_bounds.proofs.DueNodes.{puts_places}
use Rattle.mono_bounds.proofs.index.Index.insert_places.Goals as goal

pub returns : goal.returns
returns c = puts_places c.args.self.now.keys c.args.key c.places_of.result.now c.args.due.now.listed c.insert_all.new.self.listed c.places_of.ensures c.insert_all.ensures.as_many c.insert_all.ensures.each

use Rattle.std.proofs.Common.{length, sym, ◌∙◌, eqb-true}
use Rattle.mono_bounds.proofs.Switches.{none_is}
use Rattle.mono_bounds.proofs.index.Index.place.Goals as goal

pub returns-then-is_empty : goal.returns-then-is_empty
returns-then-is_empty c =
    let places = c.places_of-places.result.now in
    none_is c.args.self.now.keys places c.args.key c.places_of-places.ensures (eqb-true (length places) 0 (sym c.is_empty.ensures ∙ c.if-is_empty.true))

use Rattle.std.proofs.Common.{length, ap, arith}
use Rattle.std.proofs.lemmas.List.{length-map}
use Rattle.mono_base.specs.Buckets.{listed_in}
use Rattle.mono_base.proofs.buckets.Buckets.push.Goals as goal

pub put-requires-clause-key : goal.put-requires-clause-key
put-requires-clause-key g c =
    omega (arith, c.requires, ap length c.self.view_is, ap length c.make_room.ensures.same, length-map c.self.inside.stretches.items (listed_in c.self.inside.items.items), length-map c.make_room.new.stretches.items (listed_in c.make_room.new.items.items))

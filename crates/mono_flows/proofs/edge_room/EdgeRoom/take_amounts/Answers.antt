use Rattle.std.proofs.Common.{ℕ, Vec, ap, length, ◌∙◌}
use Rattle.std.specs.declared.alloc.Global.{Global}
use Rattle.mono_flows.specs.Residual.{amount_of}
use Rattle.mono_flows.proofs.edge_room.EdgeRoom.take_amounts.Goals as goal

pub returns-clause-len : goal.returns-clause-len
returns-clause-len c = ap (λ (v : Vec ℕ Global). length v.items) c.replace.ensures.value

pub returns-clause-empty : goal.returns-clause-empty
returns-clause-empty c = λ k. ap (λ (v : Vec ℕ Global). amount_of v.items k) c.replace.ensures.value ∙ c.requires.amounts k

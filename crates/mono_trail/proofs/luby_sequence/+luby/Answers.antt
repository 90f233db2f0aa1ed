use Rattle.mono_trail.proofs.Terms.{ends_there, goes_back}
use Rattle.mono_trail.proofs.luby_sequence.+luby.Goals as goal

pub returns-then-k-power : goal.returns-then-k-power
returns-then-k-power t c =
    let h = c.highest_power-power.ensures in
    ends_there c.args.k c.highest_power-power.result (record { digits = h.0; is = h.1; low = h.2; high = h.3 }) c.if-k-power.true

pub returns : goal.returns
returns t c =
    let h = c.highest_power-power.ensures in
    goes_back c.args.k c.highest_power-power.result c.luby.result (record { digits = h.0; is = h.1; low = h.2; high = h.3 }) c.if-k-power.false c.luby.ensures

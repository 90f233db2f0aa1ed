use Rattle.std.proofs.Common.{◌≡◌, ◌-◌, ◌≤◌, length, take, drop}
use Rattle.std.specs.Io.KnownBytes.{Appends}
use Rattle.mono_io.proofs.writing.write_whole.Given as goal

-- what was written is the text's front, up to the rest
abbrev pub invariant-loop-rest : goal.invariant-loop-rest
invariant-loop-rest g l =
    let done = length l.bytes - length l.rest in
    record {
      shorter : length l.rest ≤ length l.bytes;
      rest : l.rest ≡ drop done l.bytes;
      written : Appends (g.K.Sink.written l.initial.sink) (g.K.Sink.written l.sink) (take done l.bytes);
      faults : g.K.Sink.faults l.sink ≡ g.K.Sink.faults l.initial.sink;
    }

abbrev pub decreases-loop-rest : goal.decreases-loop-rest
decreases-loop-rest g l = length l.rest

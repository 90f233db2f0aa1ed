use Rattle.std.proofs.Common.{arith, ℕ, ◌-◌, ◌≤◌, length, take, subst, sym, ◌∙◌, rules}
use Rattle.std.specs.Io.KnownBytes.{Appends}
use Rattle.mono_io.proofs.Fronts.{length-next, done-next, next_is_rest}
use Rattle.mono_io.proofs.KnownBytes.{Appends-more}
use Rattle.mono_io.proofs.writing.write_whole.Goals as goal

pub loop-rest-preserved : goal.loop-rest-preserved
loop-rest-preserved g c =
    let kept = c.loop-rest.invariant in
    let text = c.args.bytes.now in
    let rest = c.loop-rest.rest.now in
    let count = c.in_ok-count.count in
    let within : count ≤ length rest = c.in_ok-count.ensures.bound in
    let written = Appends-more _ _ _ text rest (length text - length rest) count kept.rest kept.written c.in_ok-count.ensures.written in
    record {
      shorter = omega (arith, length-next rest count, kept.shorter);
      rest = next_is_rest text rest count kept.shorter within kept.rest;
      written = subst (λ (n : ℕ). Appends (g.K.Sink.written c.args.sink.now) (g.K.Sink.written c.write.new.self) (take n text)) (sym (done-next text rest count kept.shorter within)) written;
      faults = c.in_ok-count.ensures.cause.succeeded ∙ kept.faults;
    }

pub returns-clause-prefix : goal.returns-clause-prefix
returns-clause-prefix g c = search rules

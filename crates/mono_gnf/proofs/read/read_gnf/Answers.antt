use Rattle.std.proofs.Common.{◌∙◌, sym, ap, refl}
use Rattle.mono_gnf.specs.Reading.{read_lines}
use Rattle.mono_gnf.proofs.Meaning.{first_fault_from}
use Rattle.mono_gnf.proofs.Steps.{lines_step, lines_stop, reads_finished}
use Rattle.mono_gnf.proofs.read.read_gnf.Goals as goal

pub loop-line-init : goal.loop-line-init
loop-line-init c = rw (c.new-reader.ensures, c.new-lines.ensures) refl

pub loop-line-preserved : goal.loop-line-preserved
loop-line-preserved c =
    lines_step c.loop-line.reader c.read_line.new.self c.in-Some.line.number c.in-Some.line.text.now c.loop-line.lines c.next.new.self c.in-Some.ensures.steps c.in-Ok.ensures ∙ c.loop-line.invariant

pub returns-in-Err-Fault : goal.returns-in-Err-Fault
returns-in-Err-Fault c =
    let stopped = rw c.in-Err-Fault.field-0-is at c.in-Err-Fault.ensures in
    rw c.in-Err-Fault.fault-is
    (first_fault_from c.args.text.now c.in-Some.line.number c.in-Err-Fault.fault
    (sym c.loop-line.invariant ∙ lines_stop c.loop-line.reader c.in-Some.line.number c.in-Some.line.text.now c.loop-line.lines c.next.new.self c.in-Err-Fault.fault c.in-Some.ensures.steps stopped))

pub returns : goal.returns
returns c = reads_finished c.args.text.now c.loop-line.reader c.finish.result (ap (read_lines c.loop-line.reader) (sym c.in_default.ensures.steps.0) ∙ c.loop-line.invariant) c.finish.ensures

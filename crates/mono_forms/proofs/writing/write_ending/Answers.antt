use Rattle.std.proofs.Common.{ℕ, List, refl, subst, ◌∙◌}
use Rattle.std.specs.Io.KnownBytes.{Appends}
use Rattle.mono_io.specs.Sink.{AppendsPrefix}
use Rattle.mono_forms.proofs.Writings.{writes_whole}
use Rattle.mono_forms.proofs.writing.write_ending.Goals as goal

-- the text was written whole
pub returns-in-Ok-write_whole-clause-writes : goal.returns-in-Ok-write_whole-clause-writes
returns-in-Ok-write_whole-clause-writes g c =
    let before = g.K.Sink.written c.args.out.now in
    let now = g.K.Sink.written c.write_whole.new.sink in
    writes_whole c.args.ending c.status-status.result before now c.in-Ok.ensures.found c.status-status.ensures
    (subst (λ (text : List ℕ). Appends before now text) (c.as_slice.ensures ∙ c.in-Ok.ensures.ok) c.in-Ok-write_whole.ensures.whole)

-- a prefix of it was
pub returns-clause-writes : goal.returns-clause-writes
returns-clause-writes g c =
    let before = g.K.Sink.written c.args.out.now in
    let now = g.K.Sink.written c.write_whole.new.sink in
    subst (λ (text : List ℕ). AppendsPrefix before now text) (c.as_slice.ensures ∙ c.in-Ok.ensures.ok) c.in-Err-write_whole.ensures.prefix

pub returns-clause-no_write_fault : goal.returns-clause-no_write_fault
returns-clause-no_write_fault g c = λ other. absurd (other refl)

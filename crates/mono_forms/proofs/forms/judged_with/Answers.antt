use Rattle.std.proofs.Common.{ap, Err, Some, rules}
use Rattle.mono_words.specs.declared.command.Command.TheVariants as command
use Rattle.mono_forms.specs.Endings.{unjudged_ending}
use Rattle.mono_forms.proofs.OutOfMemory.{unjudged_with, ends_in_error}
use Rattle.mono_forms.proofs.forms.judged_with.Goals as goal

pub returns-in_err-verdict : goal.returns-in_err-verdict
returns-in_err-verdict g c = λ file old has.
    let answer = c.args.answer.now in
    let lits = c.args.lits.now in
    let new = g.S.Shelf.seen c.verdict_from.new.shelf in
    let refusal = c.in_err-verdict.field-0.0 in
    let judged = c.in_err-verdict.ensures in
    ends_in_error (Some (command.CheckWith file answer lits)) old new c.from_residual-in_err-verdict.result (unjudged_ending refusal)
    (unjudged_with file answer lits old (g.S.Shelf.seen c.args.shelf.now) new c.args.input.now refusal
    has c.requires (c.has_room.ensures.0 c.if-not-has_room.false) (λ same. judged.too_long (ap Err same)) (λ same. judged.fault (ap Err same)) (λ same. judged.memory (ap Err same)))
    c.from_residual-in_err-verdict.ensures.1

pub returns : goal.returns
returns g c = search rules

use Rattle.std.proofs.Common.{map, string_bytes}
use Rattle.mono_words.specs.Commands.{command_of}
use Rattle.mono_forms.proofs.OutOfMemory.{ends_at_words}
use Rattle.mono_forms.proofs.forms.carry_out.Goals as goal

pub returns-in_err-command : goal.returns-in_err-command
returns-in_err-command g c =
    ends_at_words (command_of (map string_bytes c.args.words.now)) (g.S.Shelf.seen c.args.shelf.now) c.from_residual.result c.in_err-command.ensures.memory c.from_residual.ensures.1

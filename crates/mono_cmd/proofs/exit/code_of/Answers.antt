use Rattle.std.proofs.Common.{rules, string_bytes}
use Rattle.mono_cmd.proofs.Exited.{exited_by_run, exited_without_words, same_command}
use Rattle.mono_cmd.proofs.exit.code_of.Goals as goal

pub returns-in-Ok : goal.returns-in-Ok
returns-in-Ok g c =
    exited_by_run _ _ _ _ c.run.result c.code.result (same_command string_bytes _ c.in-Ok.list.items c.as_slice.result.now (search rules) c.in-Ok.ensures.ok) c.code.ensures
    c.run.ensures.promises c.run.ensures.write_fault c.run.ensures.no_write_fault

pub returns-in-Err : goal.returns-in-Err
returns-in-Err g c = exited_without_words _ _ c.code-in-Err.result c.code-in-Err.ensures c.in-Err.ensures.err

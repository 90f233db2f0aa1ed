use Rattle.mono_cmd.proofs.Promised.{is_run}
use Rattle.mono_forms.proofs.Replies.{runs_by}
use Rattle.mono_cmd.proofs.run.run.Goals as goal

-- The run comes to its ending, and writes its text; all that is promised follows from this.
pub returns : goal.returns
returns g c = record {
  promises = is_run _ (runs_by _ _ _ c.ending_of-ending.result c.write_ending.result _ _ c.ending_of-ending.ensures c.write_ending.ensures.writes);
  write_fault = c.write_ending.ensures.write_fault;
  no_write_fault = c.write_ending.ensures.no_write_fault;
}

use Rattle.mono_cmd.proofs.worked_stages.worked_bytes.Goals as goal

pub returns-clause-fixed : goal.returns-clause-fixed
returns-clause-fixed c = λ bytes is. is

pub returns-clause-owned : goal.returns-clause-owned
returns-clause-owned c = λ bytes is. is

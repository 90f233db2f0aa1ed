use Rattle.std.proofs.Common.{inl, inr}
use Rattle.mono_cmd.proofs.worked_stages.worked_wanting.Goals as goal

pub returns-clause-solve : goal.returns-clause-solve
returns-clause-solve c = λ file budget old new given. inr given

pub returns-clause-check : goal.returns-clause-check
returns-clause-check c = λ file answer old new given. inl (inr given)

pub returns-clause-migrate : goal.returns-clause-migrate
returns-clause-migrate c = λ file answer v old new given. inl (inr given)

pub returns-clause-core : goal.returns-clause-core
returns-clause-core c = λ file lits old new given. inr given

pub returns-clause-best : goal.returns-clause-best
returns-clause-best c = λ file n old new given. inr given

pub returns-clause-ask : goal.returns-clause-ask
returns-clause-ask c = λ file n b old new given. inr given

pub returns-clause-check_with : goal.returns-clause-check_with
returns-clause-check_with c = λ file answer lits old new given. inl (inr given)

pub returns-clause-team : goal.returns-clause-team
returns-clause-team c = λ file workers rounds old new given. inr given

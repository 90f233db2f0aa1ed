use Rattle.std.proofs.Common.{rules}
use Rattle.mono_forms.proofs.ending.owned.Goals as goal

pub returns-in_err-text : goal.returns-in_err-text
returns-in_err-text c = λ e takes real same. record { ok = search rules; err = search rules; found = search rules }

pub returns : goal.returns
returns c = λ e takes real same. record { ok = rw c.in_ok-text.was at same; err = tt; found = real }

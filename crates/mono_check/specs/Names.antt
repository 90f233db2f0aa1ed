-- The names of the reasons, as they are printed.
use Rattle.std.specs.Prelude.{ℕ, List, codes}
use Rattle.mono_check.specs.declared.reason.Reason.{Reason}
use Rattle.mono_check.specs.declared.reason.Reason.TheVariants as reason

abbrev pub reason_name : Reason → List ℕ
reason_name reason.NotAnswer = codes "NotAnswer"
reason_name reason.BadLine = codes "BadLine"
reason_name reason.UnknownAtom = codes "UnknownAtom"
reason_name reason.WrongKind = codes "WrongKind"
reason_name reason.UnknownNumber = codes "UnknownNumber"
reason_name reason.MissingLiteral = codes "MissingLiteral"
reason_name reason.WitnessFails = codes "WitnessFails"
reason_name reason.ChainStuck = codes "ChainStuck"
reason_name reason.NotCovered = codes "NotCovered"
reason_name reason.NoEmptyClause = codes "NoEmptyClause"
reason_name reason.ModelVariables = codes "ModelVariables"
reason_name (reason.ClauseFalse n) = codes "ClauseFalse"
reason_name (reason.AtomWrong n) = codes "AtomWrong"

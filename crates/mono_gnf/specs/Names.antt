-- The names of faults.
use Rattle.std.specs.Prelude.{ℕ, List, codes}
use Rattle.mono_gnf.specs.declared.fault.GnfFault.{GnfFault}
use Rattle.mono_gnf.specs.declared.fault.GnfFault.TheVariants as fault

abbrev pub fault_name : GnfFault → List ℕ
fault_name fault.UnknownWord = codes "UnknownWord"
fault_name fault.NotNumber = codes "NotNumber"
fault_name fault.TooLarge = codes "TooLarge"
fault_name fault.FieldCount = codes "FieldCount"
fault_name fault.UnknownGraph = codes "UnknownGraph"
fault_name fault.DuplicateGraph = codes "DuplicateGraph"
fault_name fault.NodeOutOfRange = codes "NodeOutOfRange"
fault_name fault.BadVariable = codes "BadVariable"
fault_name fault.WeightWord = codes "WeightWord"
fault_name fault.SecondHeader = codes "SecondHeader"
fault_name fault.OpenClause = codes "OpenClause"
fault_name fault.UnfinishedClause = codes "UnfinishedClause"
fault_name fault.SameEnds = codes "SameEnds"
fault_name fault.TooMany = codes "TooMany"

-- The list that a witness consists of.
use Rattle.mono_steps.specs.declared.lemma.Witness.{Witness}
use Rattle.mono_steps.specs.declared.lemma.Witness.TheVariants as by
use Rattle.mono_steps.specs.declared.lemma.WitnessList.{WitnessList}
use Rattle.mono_steps.specs.declared.lemma.WitnessList.TheVariants as list

abbrev pub list_of : Witness → WitnessList
list_of (by.Path edges) = list.Numbers edges
list_of (by.Cut nodes) = list.Numbers nodes
list_of (by.Label labels) = list.Labels labels
list_of (by.Flow amounts) = list.Amounts amounts
list_of (by.FlowCut nodes) = list.Numbers nodes
list_of (by.Tree edges) = list.Numbers edges
list_of (by.Split nodes) = list.Numbers nodes
list_of (by.Least edges) = list.Numbers edges
list_of (by.Cycle edges) = list.Numbers edges
list_of (by.Order nodes) = list.Numbers nodes

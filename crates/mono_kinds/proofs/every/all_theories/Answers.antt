use Rattle.std.proofs.lemmas.Result.{IfOk-weaker}
use Rattle.mono_theory.specs.Owners.{facts_of}
use Rattle.mono_any.specs.Kinds.{graph_of, atoms_of, seen_of}
use Rattle.mono_kinds.proofs.SlotNumbers.{made_all}
use Rattle.mono_kinds.proofs.every.all_theories.Goals as goal

pub returns-clause-owned : goal.returns-clause-owned
returns-clause-owned c = IfOk-weaker c.theories_of.result _ _ (λ ts made. made_all c.args.problem.now (facts_of graph_of atoms_of seen_of ts.items) c.known.ensures.problem made) c.theories_of.ensures

pub returns-clause-shared : goal.returns-clause-shared
returns-clause-shared c = IfOk-weaker c.theories_of.result _ _ (λ ts made. made.grouped) c.theories_of.ensures

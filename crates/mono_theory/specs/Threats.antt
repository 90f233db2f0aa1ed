-- Open edges that would break an atom.
use Rattle.std.specs.Prelude.{◌≡◌, ◌<◌, Bool, not, pos, length, slice_set, IsTrue}
use Rattle.mono_base.specs.Partial.{is_open_in, is_false_in}
use Rattle.mono_graph.specs.Digraph.{edge_at, has}
use Rattle.mono_steps.specs.Switching.{literal_of}
use Rattle.mono_steps.specs.Witnesses.{is_positive, rests_on_present}
use Rattle.mono_theory.specs.Evidences.{IsEvidence}
use Rattle.mono_theory.specs.Supports.{atom_at, part_of}
use Rattle.mono_theory.specs.Theories.{Facts}
use Rattle.mono_theory.specs.declared.threat.Threat.{Threat}

-- The edge is open. Once it is as the edges on which the evidence rests, and all others are as they are on this side, the evidence
-- rests on it and is right, and shows of the atom's predicate what the atom's variable denies.
pub record IsThreat (f : Facts) (possible : Bool) (r : Threat) : Type 0 where
  pub atom : r.atom < length f.atoms
  pub edge : r.edge < length f.graph.edges
  pub is_open : IsTrue (is_open_in f.seen (pos (edge_at f.graph r.edge).var))
  pub rests : rests_on_present r.evidence.witness ≡ not possible
  pub used : IsTrue (has r.evidence.edges r.edge)
  pub right : IsEvidence f.graph (slice_set (part_of f.graph f.seen possible) r.edge (not possible)) (atom_at f.atoms r.atom).predicate r.evidence
  pub denied : IsTrue (is_false_in f.seen (literal_of (is_positive r.evidence.witness) (atom_at f.atoms r.atom).var))

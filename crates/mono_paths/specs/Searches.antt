-- A search: labels, the visits that lowered them, and which of these wait.
use Rattle.std.specs.Prelude.{ℕ, Bool, List, length}
use Rattle.mono_graph.specs.declared.limit.Limit.{Limit}
use Rattle.mono_graph.specs.Digraph.{Digraph}
use Rattle.mono_paths.specs.declared.search.LabelSearch.{LabelSearch}
use Rattle.mono_paths.specs.Trails.{visit_at, IsTrail}
use Rattle.mono_paths.specs.Spread.{AreLabels, IsSpread}
use Rattle.mono_paths.specs.Queues.{is_waiting, IsWithin}

-- the node from which it goes out
abbrev pub source_of : LabelSearch → ℕ
source_of s = (visit_at s.visits.items 0).node

-- it is one of walks in the part, at any of its moments
pub record IsLabelSearch (g : Digraph) (P : List Bool) (limit : Limit) (s : LabelSearch) : Type 0 where
  pub trail : IsTrail g P limit s.visits.items
  pub labelled : AreLabels g s.labels.cap s.labels.each s.visits.items
  pub spread : IsSpread g P limit s.labels.each s.visits.items (is_waiting s.waiting)
  pub within : IsWithin s.waiting (length s.visits.items)

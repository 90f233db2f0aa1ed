use Rattle.std.proofs.Common.{◌≡◌, ℕ, zero, suc, ◌<◌, arith}
use Rattle.mono_graph.specs.Digraph.{edge_at}
use Rattle.mono_graph.specs.Worked.{edge, single}
use Rattle.mono_search_rows.proofs.worked_spending.flows_beyond_the_edges.Goals as goal

-- the only edge has the variable 1
none : (k : ℕ) → k < 1 → (edge_at (single (edge 1 0 1 5)) k).var ≡ 0 → ⊥
none zero lt is = let e : 1 ≡ 0 = is in omega (arith, e)
none (suc k) lt is = omega (arith, lt)

pub returns : goal.returns
returns c = λ h. none h.edge h.held h.var

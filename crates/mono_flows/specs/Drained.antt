-- A table of amounts whose entries were listed and set to 0.
use Rattle.std.specs.Prelude.{◌≡◌, ℕ, ◌+◌, ◌<◌, ◌≤◌, List, All, IsTrue, length}
use Rattle.mono_graph.specs.Digraph.{has, is_distinct}
use Rattle.mono_graph.specs.declared.amount.Amount.{Amount}
use Rattle.mono_graph.specs.Flows.{amount_at}
use Rattle.mono_flows.specs.Listed.{edges_of}
use Rattle.mono_flows.specs.Residual.{amount_of}

-- the entries of these edges were
pub record AreDrained (old new edges : List ℕ) (listed : List Amount) : Type 0 where
  pub each : (k : ℕ) → amount_of new k + amount_at listed k ≡ amount_of old k
  pub empty : (k : ℕ) → IsTrue (has edges k) → amount_of new k ≡ 0
  pub taken : (k : ℕ) → IsTrue (has (edges_of listed) k) → amount_of new k ≡ 0
  pub distinct : IsTrue (is_distinct (edges_of listed))
  pub known : All (λ a. a.edge < length old) listed
  pub small : (v : ℕ) → ((k : ℕ) → amount_of old k ≤ v) → All (λ a. a.amount ≤ v) listed
  pub carrying : All (λ a. 0 < a.amount) listed

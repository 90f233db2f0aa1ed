-- What walks from a source cost at least, in a part that grows.
use Rattle.std.specs.Prelude.{◌≡◌, ℕ, zero, suc, ◌+◌, ◌-◌, ◌<◌, ◌≤◌, ◌==◌, ◌&&◌, ◌⊎◌, not, Bool, List, [], ◌∷◌, ◌++◌, length, filter, sum, slice_index_or, slice_set, nat_le, IsTrue, All}
use Rattle.std.specs.List.{list_any}
use Rattle.mono_base.specs.declared.limits.TheConstants.{MAX_BOUND}
use Rattle.mono_graph.specs.declared.limit.Limit.{Limit}
use Rattle.mono_graph.specs.Digraph.{Digraph, edge_at, present, has}
use Rattle.mono_graph.specs.Walks.{is_walk, cost_of, cost_along}
use Rattle.mono_dynamic.specs.declared.change.Change.{Change}
use Rattle.mono_dynamic.specs.declared.waiting.Waiting.{Waiting}

-- what walks cost, up to which cap, the label of each node, and how labels were lowered, in order
pub record Costs : Type 0 where
  pub limit : Limit
  pub cap : ℕ
  pub labels : List ℕ
  pub changes : List Change

abbrev pub no_change : Change
no_change = record { node = 0; place = 0; before = 0; previous = 0; old = 0; label = 0; stamp = 0 }

abbrev pub change_at : List Change → ℕ → Change
change_at cs i = slice_index_or cs i no_change

abbrev pub label_of : List ℕ → ℕ → ℕ
label_of labels v = slice_index_or labels v 0

-- the labels once the changes are taken back, the last of them first
abbrev pub unwound : List ℕ → List Change → List ℕ
unwound labels [] = labels
unwound labels (c ∷ cs) = slice_set (unwound labels cs) c.node c.old

-- the changes of the first n steps, and those of later ones
abbrev pub made_by : ℕ → List Change → List Change
made_by n cs = filter (λ c. nat_le c.stamp n) cs

abbrev pub made_after : ℕ → List Change → List Change
made_after n cs = filter (λ c. not (nat_le c.stamp n)) cs

-- the labels as they were after n steps
abbrev pub labels_after : ℕ → Costs → List ℕ
labels_after n t = unwound t.labels (made_after n t.changes)

-- a label below the cap is what some walk in the part costs
pub record AreAttained (g : Digraph) (P : List Bool) (limit : Limit) (u cap : ℕ) (labels : List ℕ) : Type 0 where
  pub walk : (v : ℕ) → v < g.nodes → label_of labels v < cap → (ks : List ℕ) × IsTrue (is_walk g P u v ks) × (cost_along limit g ks ≡ label_of labels v)

-- each label is the least that a walk in the part costs, or the cap where none costs less
pub record AreLeast (g : Digraph) (P : List Bool) (limit : Limit) (u cap : ℕ) (labels : List ℕ) : Type 0 where
  pub len : length labels ≡ g.nodes
  pub most : (v : ℕ) → label_of labels v ≤ cap
  pub least : (v : ℕ) (ks : List ℕ) → IsTrue (is_walk g P u v ks) → label_of labels v ≤ cost_along limit g ks
  pub attained : AreAttained g P limit u cap labels

-- the node of the last of the first n changes, and the label that this change gave it; the source and 0 before any
abbrev pub node_by : ℕ → List Change → ℕ → ℕ
node_by u cs zero = u
node_by u cs (suc n) = (change_at cs n).node

abbrev pub label_by : List Change → ℕ → ℕ
label_by cs zero = 0
label_by cs (suc n) = (change_at cs n).label

-- a present edge leads from the node of an earlier change, or from the source, to that of this one, at what it costs
pub record IsLed (g : Digraph) (P : List Bool) (limit : Limit) (u : ℕ) (cs : List Change) (i : ℕ) : Type 0 where
  pub before : (change_at cs i).before ≤ i
  pub known : (change_at cs i).place < length g.edges
  pub present : IsTrue (present P (change_at cs i).place)
  pub from : (edge_at g (change_at cs i).place).from ≡ node_by u cs (change_at cs i).before
  pub to : (edge_at g (change_at cs i).place).to ≡ (change_at cs i).node
  pub label : (change_at cs i).label ≡ label_by cs (change_at cs i).before + cost_of limit (edge_at g (change_at cs i).place)

-- before any change no other node than the source has a label below the cap
pub record HasSource (u nodes : ℕ) (t : Costs) : Type 0 where
  pub alone : (v : ℕ) → v < nodes → label_of (unwound t.labels t.changes) v < t.cap → v ≡ u

-- So it is after each number of steps up to n, when the part was that of this number, and no change is later. The edge of
-- each change is present from its step on.
pub record AreLeastAlong (g : Digraph) (parts : ℕ → List Bool) (n u : ℕ) (t : Costs) : Type 0 where
  pub each : (m : ℕ) → m ≤ n → AreLeast g (parts m) t.limit u t.cap (labels_after m t)
  pub latest : All (λ c. c.stamp ≤ n) t.changes
  pub source : HasSource u g.nodes t
  pub led : (m i : ℕ) → m ≤ n → i < length t.changes → (change_at t.changes i).stamp ≤ m → IsLed g (parts m) t.limit u t.changes i

-- ---- what is kept

-- of the first n changes this one, counted from 1, is the node's last and gave it the label; 0 if none is the node's
pub record IsLast (cs : List Change) (n v l last : ℕ) : Type 0 where
  pub held : last ≤ n
  pub is : 0 < last → ((change_at cs (last - 1)).node ≡ v) × ((change_at cs (last - 1)).label ≡ l)
  pub none : (j : ℕ) → last ≤ j → j < n → (change_at cs j).node ≡ v → ⊥

-- by node the last of its changes, and by change the one before of the same node
pub record AreLinked (labels : List ℕ) (cs : List Change) (latest : List ℕ) : Type 0 where
  pub len : length latest ≡ length labels
  pub last : (v : ℕ) → v < length labels → IsLast cs (length cs) v (label_of labels v) (slice_index_or latest v 0)
  pub previous : (i : ℕ) → i < length cs → IsLast cs i (change_at cs i).node (change_at cs i).old (change_at cs i).previous
  pub before : (i : ℕ) → i < length cs → (change_at cs i).before ≤ i

-- each change comes by an earlier one, and their stamps never fall
pub record AreInOrder (cs : List Change) : Type 0 where
  pub before : (i : ℕ) → i < length cs → (change_at cs i).before ≤ i
  pub rising : (i j : ℕ) → i ≤ j → j < length cs → (change_at cs i).stamp ≤ (change_at cs j).stamp

-- no label is above the cap, the changes are of nodes, and their stamps never fall
pub record AreKept (cap : ℕ) (labels : List ℕ) (cs : List Change) (latest : List ℕ) : Type 0 where
  pub bounded : cap ≤ MAX_BOUND + 1
  pub most : (v : ℕ) → label_of labels v ≤ cap
  pub known : (i : ℕ) → i < length cs → ((change_at cs i).node < length labels) × ((change_at cs i).old ≤ cap)
  pub rising : (i j : ℕ) → i ≤ j → j < length cs → (change_at cs i).stamp ≤ (change_at cs j).stamp
  pub linked : AreLinked labels cs latest

-- a node's label after n steps, and which change gave it, counted from 1; 0 if none did by then
pub record IsGiven (t : Costs) (n v l last : ℕ) : Type 0 where
  pub is : l ≡ label_of (labels_after n t) v
  pub held : last ≤ length t.changes
  pub none : last ≡ 0 → l ≡ label_of (unwound t.labels t.changes) v
  pub some : 0 < last
      → ((change_at t.changes (last - 1)).node ≡ v) × ((change_at t.changes (last - 1)).label ≡ l) × ((change_at t.changes (last - 1)).stamp ≤ n)

-- some changes with the stamp were added; without them the labels are those of before
pub record IsLater (stamp : ℕ) (old new : Costs) : Type 0 where
  pub limit : new.limit ≡ old.limit
  pub cap : new.cap ≡ old.cap
  pub len : length new.labels ≡ length old.labels
  pub added : List Change
  pub changes : new.changes ≡ old.changes ++ added
  pub stamps : All (λ c. c.stamp ≡ stamp) added
  pub back : unwound new.labels added ≡ old.labels

-- a present edge leads to each change
pub record AreLed (g : Digraph) (P : List Bool) (u : ℕ) (t : Costs) : Type 0 where
  pub source : HasSource u g.nodes t
  pub each : (i : ℕ) → i < length t.changes → IsLed g P t.limit u t.changes i

-- the node waits with what its label leaves of the cap
abbrev pub is_waiting : List Waiting → ℕ → ℕ → Bool
is_waiting es v left = list_any (λ e. e.node == v && e.left == left) es

-- the label rises along the edge by at most what it costs
abbrev pub IsTight : Digraph → Limit → List ℕ → ℕ → Type 0
IsTight g limit labels k = label_of labels (edge_at g k).to ≤ label_of labels (edge_at g k).from + cost_of limit (edge_at g k)

-- each present edge is tight, leaves a node that waits, or is one of these
pub record AreTight (g : Digraph) (P : List Bool) (limit : Limit) (cap : ℕ) (labels : List ℕ) (es : List Waiting) (ks : List ℕ) : Type 0 where
  pub each : (k : ℕ) → k < length g.edges → IsTrue (present P k)
      → (IsTight g limit labels k ⊎ IsTrue (is_waiting es (edge_at g k).from (cap - label_of labels (edge_at g k).from))) ⊎ IsTrue (has ks k)

-- Labels were lowered along edges of the part. Of the first edges those that remain are still to be looked at, and in
-- place of the nodes that waited others do.
pub record AreRelaxed (g : Digraph) (P : List Bool) (places remaining : List ℕ) (old new : Costs) (waited es fs : List Waiting) : Type 0 where
  pub inside : All (λ e. e.node < g.nodes) es → All (λ e. e.node < g.nodes) fs
  pub lower : (v : ℕ) → label_of new.labels v ≤ label_of old.labels v
  pub work : sum new.labels + length fs ≤ sum old.labels + length es
  pub attained : (u : ℕ) → AreAttained g P old.limit u old.cap old.labels → AreAttained g P old.limit u old.cap new.labels
  pub led : (u : ℕ) → label_of old.labels u ≡ 0 → AreLed g P u old → AreLed g P u new
  pub tight : AreTight g P old.limit old.cap old.labels waited places → AreTight g P old.limit old.cap new.labels fs remaining

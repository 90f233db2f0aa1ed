-- Lemmas: what a witness shows over a part of its predicate's graph, what justifies a lemma, and what is wrong with one.
use Rattle.std.specs.Prelude.{ℕ, Bool, true, false, not, ◌&&◌, ◌||◌, nat_le, nat_lt, ℤ, pos, neg_ℤ, if◌then◌else◌, List, [], ◌∷◌, map, Option, Some, None, unwrap_or, is_some, length}
use Rattle.std.specs.List.{list_all}
use Rattle.mono_base.specs.declared.limits.TheConstants.{MAX_WITNESS_VALUE}
use Rattle.mono_base.specs.Literal.{has_lit}
use Rattle.mono_graph.specs.Digraph.{Digraph, part_by, place_of}
use Rattle.mono_graph.specs.declared.amount.Amount.{Amount}
use Rattle.mono_graph.specs.declared.limit.Limit.TheVariants as limit
use Rattle.mono_graph.specs.Walks.{is_path, is_cut, is_labelling}
use Rattle.mono_graph.specs.Flows.{is_flow_of, is_flow_cut}
use Rattle.mono_graph.specs.Trees.{is_tree, is_split, is_least}
use Rattle.mono_graph.specs.Cycles.{is_cycle, is_order}
use Rattle.mono_problem.specs.declared.atom.Atom.{Atom}
use Rattle.mono_problem.specs.declared.atom.Predicate.{Predicate}
use Rattle.mono_problem.specs.declared.atom.Predicate.TheVariants as kind
use Rattle.mono_problem.specs.Instance.{Instance, graph_at, numbered}
use Rattle.mono_steps.specs.declared.lemma.Lemma.{Lemma}
use Rattle.mono_steps.specs.declared.lemma.Witness.{Witness}
use Rattle.mono_steps.specs.declared.lemma.Witness.TheVariants as by
use Rattle.mono_steps.specs.declared.fault.StepFault.{StepFault}
use Rattle.mono_steps.specs.declared.fault.StepFault.TheVariants as fault
use Rattle.mono_steps.specs.ChainSteps.{names_vars}
use Rattle.mono_steps.specs.Faults.{first_failed}

-- whether the word serves the predicate
abbrev pub serves : Witness → Predicate → Bool
serves (by.Path es) (kind.Reach u v) = true
serves (by.Path es) (kind.Steps u v most) = true
serves (by.Path es) (kind.Distance u v most) = true
serves (by.Cut us) (kind.Reach u v) = true
serves (by.Label ls) (kind.Steps u v most) = true
serves (by.Label ls) (kind.Distance u v most) = true
serves (by.Flow ms) (kind.Flow s t least) = true
serves (by.FlowCut us) (kind.Flow s t least) = true
serves (by.Tree es) (kind.Tree most) = true
serves (by.Split us) (kind.Tree most) = true
serves (by.Least es) (kind.Tree most) = true
serves (by.Cycle es) kind.Acyclic = true
serves (by.Order us) kind.Acyclic = true
serves w q = false

-- the words that show that a predicate holds. The others show that one fails
abbrev pub is_positive : Witness → Bool
is_positive (by.Path es) = true
is_positive (by.Flow ms) = true
is_positive (by.Tree es) = true
is_positive (by.Order us) = true
is_positive w = false

-- the words that rest on edges that are present. The others rest on edges that are absent
abbrev pub rests_on_present : Witness → Bool
rests_on_present (by.Path es) = true
rests_on_present (by.Flow ms) = true
rests_on_present (by.Tree es) = true
rests_on_present (by.Cycle es) = true
rests_on_present w = false

-- ---- what a witness names

-- the nodes and the numbers of edges that the witness names are those of the graph
abbrev pub names_nodes : Digraph → List ℕ → Bool
names_nodes g us = list_all (λ u. nat_lt u g.nodes) us

abbrev pub names_edges : Digraph → List ℕ → Bool
names_edges g es = list_all (λ n. is_some (place_of g n)) es

abbrev pub names_known : Digraph → Witness → Bool
names_known g (by.Path es) = names_edges g es
names_known g (by.Cut us) = names_nodes g us
names_known g (by.Label ls) = list_all (λ l. nat_lt l.node g.nodes) ls
names_known g (by.Flow ms) = list_all (λ m. is_some (place_of g m.edge)) ms
names_known g (by.FlowCut us) = names_nodes g us
names_known g (by.Tree es) = names_edges g es
names_known g (by.Split us) = names_nodes g us
names_known g (by.Least es) = names_edges g es
names_known g (by.Cycle es) = names_edges g es
names_known g (by.Order us) = names_nodes g us

-- labels and amounts are at most 2^60
abbrev pub is_small : Witness → Bool
is_small (by.Label ls) = list_all (λ l. nat_le l.value MAX_WITNESS_VALUE) ls
is_small (by.Flow ms) = list_all (λ m. nat_le m.amount MAX_WITNESS_VALUE) ms
is_small w = true

-- the place of the edge with this number. A number that no edge has becomes a place that no edge has
abbrev pub place_or_end : Digraph → ℕ → ℕ
place_or_end g n = unwrap_or (place_of g n) (length g.edges)

abbrev pub placed : Digraph → List ℕ → List ℕ
placed g es = map (place_or_end g) es

abbrev pub placed_amounts : Digraph → List Amount → List Amount
placed_amounts g ms = map (λ m. record { edge = place_or_end g m.edge; amount = m.amount }) ms

-- ---- what passes

-- the witness passes over a part of the graph. One whose word doesn't serve the predicate never does
abbrev pub passes : Digraph → List Bool → Predicate → Witness → Bool
passes g P (kind.Reach u v) (by.Path es) = is_path g P u v limit.Free (placed g es)
passes g P (kind.Steps u v most) (by.Path es) = is_path g P u v (limit.Steps most) (placed g es)
passes g P (kind.Distance u v most) (by.Path es) = is_path g P u v (limit.Weight most) (placed g es)
passes g P (kind.Reach u v) (by.Cut us) = is_cut g P u v us
passes g P (kind.Steps u v most) (by.Label ls) = is_labelling g P u v (limit.Steps most) ls
passes g P (kind.Distance u v most) (by.Label ls) = is_labelling g P u v (limit.Weight most) ls
passes g P (kind.Flow s t least) (by.Flow ms) = is_flow_of g P s t least (placed_amounts g ms)
passes g P (kind.Flow s t least) (by.FlowCut us) = is_flow_cut g P s t least us
passes g P (kind.Tree most) (by.Tree es) = is_tree g P most (placed g es)
passes g P (kind.Tree most) (by.Split us) = is_split g P us
passes g P (kind.Tree most) (by.Least es) = is_least g P most (placed g es)
passes g P kind.Acyclic (by.Cycle es) = is_cycle g P (placed g es)
passes g P kind.Acyclic (by.Order us) = is_order g P us
passes g P q w = false

-- ---- justified lemmas

-- the two parts of a clause: the edges whose negated variable is in it, and those whose variable isn't in it as a positive literal
abbrev pub part_not : List ℤ → Digraph → List Bool
part_not c g = part_by (λ e. has_lit c (neg_ℤ (pos e.var))) g

abbrev pub part_free : List ℤ → Digraph → List Bool
part_free c g = part_by (λ e. not (has_lit c (pos e.var))) g

-- the literal of the predicate's variable that the clause needs, and the part over which the witness has to pass
abbrev pub predicate_literal : Atom → Witness → ℤ
predicate_literal x w = if is_positive w then pos x.var else neg_ℤ (pos x.var)

abbrev pub part_for : List ℤ → Digraph → Witness → List Bool
part_for c g w = if rests_on_present w then part_not c g else part_free c g

-- the clause has the literal of the predicate's variable, and the witness passes over its part
abbrev pub shows_clause : Digraph → Atom → List ℤ → Witness → Bool
shows_clause g x c w = has_lit c (predicate_literal x w) && passes g (part_for c g w) x.predicate w

-- the graph and the predicate alone show the lemma: the word serves, what the witness names is there, labels and amounts are
-- small, and the clause has what it needs
abbrev pub is_shown : Digraph → Atom → Lemma → Bool
is_shown g x l = serves l.witness x.predicate && names_known g l.witness && is_small l.witness && shows_clause g x l.clause l.witness

-- the predicate x of the problem justifies the lemma: the clause is over the problem's variables, and the predicate's graph shows it
abbrev pub justifies_by : Instance → Atom → Lemma → Bool
justifies_by p x l = names_vars p l.clause && is_shown (graph_at p x.graph) x l

-- the lemma is justified: its predicate is there, and justifies it
abbrev pub justifies : Instance → Lemma → Bool
justifies p l = elim (numbered p.atoms l.atom) [ None ↦ false | Some x ↦ justifies_by p x l ]

-- ---- the first fault of a lemma

-- the part over which the witness passes if it passes over any: all edges where its word rests on present edges, and else none
abbrev pub easiest_part : Digraph → Witness → List Bool
easiest_part g w = part_by (λ e. rests_on_present w) g

-- the first fault of a lemma of the predicate x, in the order of the checks
abbrev pub lemma_fault_by : Instance → Atom → Lemma → Option StepFault
lemma_fault_by p x l =
    let g = graph_at p x.graph in
    first_failed (
    (not (serves l.witness x.predicate), fault.WrongKind)
    ∷ (not (names_vars p l.clause) || not (names_known g l.witness), fault.UnknownNumber)
    ∷ (not (passes g (easiest_part g l.witness) x.predicate l.witness), fault.WitnessFails)
    ∷ (not (shows_clause g x l.clause l.witness), fault.MissingLiteral) ∷ []
    )

abbrev pub lemma_fault : Instance → Lemma → Option StepFault
lemma_fault p l = elim (numbered p.atoms l.atom) [ None ↦ Some fault.UnknownAtom | Some x ↦ lemma_fault_by p x l ]

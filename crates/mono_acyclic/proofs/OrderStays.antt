-- What is kept of the surely present edges stays right while literals come and go, and decides whether there is a cycle.
use Rattle.std.proofs.Common.{◌≡◌, ℕ, ◌+◌, ◌<◌, ◌≤◌, Bool, true, false, not, ◌&&◌, ◌||◌, List, [], ◌∷◌, ◌++◌, length, take, get_or, refl, sym, ap, subst, ◌∙◌, inl, inr, arith, ℤ, pos, int_lt, take-take}
use Rattle.std.specs.Prelude.{IsTrue, Result, Ok, Err, OnErr, Option, Some, None, All, replicate, ◌==◌}
use Rattle.std.specs.Option.{is_some}
use Rattle.std.proofs.lemmas.Bool.{both_ways, cases_lt, or_left, eq-eqb, false_from_ne_true}
use Rattle.std.proofs.lemmas.List.{get_or-map, get_or_past, get_or-replicate, length-map, length-replicate, length-take-le, take_more}
use Rattle.mono_base.specs.Literal.{var_of}
use Rattle.mono_base.specs.Partial.{is_true_in, is_partial}
use Rattle.mono_base.specs.Worklist.{is_listed}
use Rattle.mono_base.proofs.Partials.{has_var_of, later_is_new, is_partial-take}
use Rattle.mono_graph.specs.declared.edge.Edge.{Edge}
use Rattle.mono_graph.specs.Digraph.{Digraph, IsGraph, edge_at, no_edge, present, has}
use Rattle.mono_graph.specs.Cycles.{is_cycle, is_order, IsAcyclic}
use Rattle.mono_graph.proofs.RisingRanks.{acyclic-smaller, cycle_cyclic, is_cycle-larger, order_acyclic}
use Rattle.mono_graph.proofs.Parts.{in_part_by}
use Rattle.mono_graph.proofs.Prefixes.{take_has}
use Rattle.mono_cycles.specs.Kept.{PartWithOrder}
use Rattle.mono_dynamic.specs.Arrivals.{IsGrown}
use Rattle.mono_problem.specs.declared.atom.Predicate.{Predicate}
use Rattle.mono_problem.specs.declared.atom.Predicate.TheVariants as kind
use Rattle.mono_problem.specs.Quiet.{under}
use Rattle.mono_problem.specs.Read.{no_atom}
use Rattle.mono_bounds.specs.Bound.{edge_vars}
use Rattle.mono_theory.specs.DueAtoms.{PutsDue}
use Rattle.mono_theory.specs.Evidences.{Decides, IsEvidence, shown_by}
use Rattle.mono_bounds.specs.Index.{ArePlacesOf}
use Rattle.mono_theory.specs.RowSides.{DecidesRest}
use Rattle.mono_theory.specs.Supports.{AreCovered, atom_at}
use Rattle.mono_theory.specs.Theories.{Facts, cut_to}
use Rattle.mono_theory.specs.SureParts.{sure_parts}
use Rattle.mono_theory.proofs.SureEdges.{sure_all, sure_gains, sure_larger, walk_places, none_sure}
use Rattle.mono_theory.proofs.PartsFollow.{IsNextOf, next_of}
use Rattle.mono_acyclic.specs.declared.ordered_edges.Closing.{Closing}
use Rattle.mono_acyclic.specs.Cyclic.{cycle_evidence, is_cycle_predicate}
use Rattle.mono_acyclic.specs.Orders.{OrderedView, IsOrderedTo, IsClosed, IsKeptTo, AreEdgesOf, AreEdgesTo, ordered_count, shows_cycle}
use Rattle.mono_acyclic.specs.Together.{IsPutIn}
use Rattle.mono_acyclic.proofs.CycleEvidence.{cycle_shows}
use Rattle.mono_acyclic.proofs.Together.{out_again}

-- ---- other literals after the first ones

ordered_like : (f : Facts) (t : List ℤ) (m : ℕ) (o : PartWithOrder) → take m t ≡ take m f.seen → IsOrderedTo f m o → IsOrderedTo (record { graph = f.graph; atoms = f.atoms; seen = t }) m o
ordered_like f t m o same h = record {
  size = h.size;
  part_size = h.part_size;
  part = λ k. h.part k ∙ sym (ap (λ (u : List ℤ). present (under f.graph u) k) same);
  order = h.order;
}

kept_like : (f : Facts) (t : List ℤ) (n : ℕ) (o : PartWithOrder) (c : Option Closing) → ((m : ℕ) → m ≤ n → take m t ≡ take m f.seen) → IsKeptTo f n o c → IsKeptTo (record { graph = f.graph; atoms = f.atoms; seen = t }) n o c
kept_like f t n o None same h = ordered_like f t n o (same n (omega arith)) h
kept_like f t n o (Some c) same h =
    let within = h.within in
    record {
      within = within;
      cycle = subst (λ (u : List ℤ). IsTrue (is_cycle f.graph (under f.graph u) c.cycle.items)) (sym (same (c.at + 1) (omega (arith, within)))) h.cycle;
      ordered = ordered_like f t c.at o (same c.at (omega (arith, within))) h.ordered;
    }

edges_like : (f : Facts) {s : OrderedView} (n : ℕ) (t : List ℤ) → ((m : ℕ) → m ≤ n → take m t ≡ take m f.seen) → AreEdgesTo f n s → AreEdgesTo (record { graph = f.graph; atoms = f.atoms; seen = t }) n s
edges_like f {s = s} n t same h = record { kept = kept_like f t n s.ordered s.closing same h.kept }

-- what is right for the list that was cut is right for its first literals, and the other way about
pub edges_in : (f : Facts) {s : OrderedView} (n : ℕ) → n ≤ length f.seen → AreEdgesTo (cut_to n f) (length (take n f.seen)) s → AreEdgesTo f n s
edges_in f {s = s} n le h =
    edges_like (cut_to n f) n f.seen (λ m low. sym (take-take m n f.seen low)) (subst (λ (k : ℕ). AreEdgesTo (cut_to n f) k s) (length-take-le n f.seen le) h)

pub edges_cut : (f : Facts) {s : OrderedView} (n : ℕ) → n ≤ length f.seen → AreEdgesTo f n s → AreEdgesTo (cut_to n f) (length (take n f.seen)) s
edges_cut f {s = s} n le h =
    subst (λ (k : ℕ). AreEdgesTo (cut_to n f) k s) (sym (length-take-le n f.seen le)) (edges_like f n (take n f.seen) (λ m low. take-take m n f.seen low) h)

-- ---- the edges of one literal

-- the literal at the place is positive, and these are the edges of its variable
pub record AreItsEdges (f : Facts) (n : ℕ) (l : ℤ) (ks : List ℕ) : Type 0 where
  pub its : IsNextOf f n l ks
  pub positive : int_lt (pos 0) l ≡ true

-- as a frame tells it
pub edges_told : (f : Facts) (n : ℕ) (l : ℤ) (ks : List ℕ) → n < length f.seen → get_or f.seen n l ≡ l → IsTrue (is_partial f.seen) → int_lt (pos 0) l ≡ true → ArePlacesOf (edge_vars f.graph) (var_of (get_or f.seen n (pos 0))) ks → AreItsEdges f n l ks
edges_told f n l ks more next partial up places = record { its = next_of f n l ks more next partial places; positive = up }

-- they come
gains : (f : Facts) (n : ℕ) (l : ℤ) (ks : List ℕ) → AreItsEdges f n l ks → IsGrown (sure_parts f n) (sure_parts f (n + 1)) ks
gains f n l ks h = sure_gains f n l ks h.its h.positive

-- and weren't there before
pub sure_apart : (f : Facts) (n : ℕ) (l : ℤ) (ks : List ℕ) → AreItsEdges f n l ks → (k : ℕ) → IsTrue (has ks k) → present (sure_parts f n) k ≡ false
sure_apart f n l ks h k there = false_from_ne_true (present (sure_parts f n) k) (λ on.
    let t = take n f.seen in
    let place = h.its.places.each k there in
    let held : k < length f.graph.edges = let lt = place.held in omega (arith, lt, length-map f.graph.edges (λ (e : Edge). e.var)) in
    let var : (edge_at f.graph k).var ≡ var_of l = sym (get_or-map (λ (e : Edge). e.var) f.graph.edges k no_edge 0 held) ∙ place.is in
    let more : take (n + 1) f.seen ≡ t ++ l ∷ [] = take_more f.seen n l h.its.more ∙ ap (λ (m : ℤ). t ++ m ∷ []) h.its.at in
    let front : IsTrue (is_partial (t ++ l ∷ [])) = subst (λ (u : List ℤ). IsTrue (is_partial u)) more (is_partial-take (n + 1) f.seen h.its.partial) in
    let new = later_is_new t (l ∷ []) (var_of l) front (or_left (var_of l == var_of l) false (eq-eqb (var_of l) (var_of l) refl)) in
    both_ways _ new (has_var_of t (pos (edge_at f.graph k).var) (var_of l) (in_part_by (λ e. is_true_in t (pos e.var)) f.graph k on) var))

-- ---- on and back by one literal

-- what holds anyway holds after an error
pub on_err : {T E : Type 0} (r : Result T E) (P : Type 0) → P → OnErr r P
on_err (Ok x) P p = tt
on_err (Err e) P p = p

grown_from : (P Q R : List Bool) (ks : List ℕ) → ((k : ℕ) → present P k ≡ present Q k) → IsGrown Q R ks → IsGrown P R ks
grown_from P Q R ks same h = record { each = λ k. h.each k ∙ ap (λ (b : Bool). b || has ks k) (sym (same k)) }

-- all of its edges have come
pub ordered_on : (f : Facts) (n : ℕ) (l : ℤ) (ks : List ℕ) (o r : PartWithOrder) → AreItsEdges f n l ks → IsOrderedTo f n o → IsPutIn f.graph o r ks → IsOrderedTo f (n + 1) r
ordered_on f n l ks o r its h put = record {
  size = put.size ∙ h.size;
  part_size = put.part_size ∙ h.part_size;
  part = λ k. put.grown.each k ∙ ap (λ (b : Bool). b || has ks k) (h.part k) ∙ sym ((gains f n l ks its).each k);
  order = put.order h.order;
}

-- a cycle of the edges before it and some of its own is one of the edges after it
pub closed_by : (f : Facts) (n : ℕ) (l : ℤ) (ks : List ℕ) (o : PartWithOrder) → AreItsEdges f n l ks → IsOrderedTo f n o → IsGrown o.part (sure_parts f (n + 1)) ks
closed_by f n l ks o its h = grown_from o.part (sure_parts f n) (sure_parts f (n + 1)) ks h.part (gains f n l ks its)

-- some of its edges have come, and all are out again
pub ordered_again : (f : Facts) (n i : ℕ) (l : ℤ) (ks : List ℕ) (o m r : PartWithOrder) → AreItsEdges f n l ks → IsOrderedTo f n o → IsPutIn f.graph o m (take i ks) → length r.order ≡ length m.order → length r.part ≡ length m.part
    → ((k : ℕ) → present r.part k ≡ (not (has ks k) && present m.part k)) → (IsTrue (is_order f.graph m.part m.order) → IsTrue (is_order f.graph r.part r.order)) → IsOrderedTo f n r
ordered_again f n i l ks o m r its h put size part_size out order = record {
  size = size ∙ put.size ∙ h.size;
  part_size = part_size ∙ put.part_size ∙ h.part_size;
  part = λ k. out_again o.part m.part r.part ks (take i ks) put.grown (λ j t. take_has ks i j t) (λ j t. h.part j ∙ sure_apart f n l ks its j t) out k ∙ h.part k;
  order = order (put.order h.order);
}

-- its edges go
pub ordered_back : (f : Facts) (n : ℕ) (l : ℤ) (ks : List ℕ) (o r : PartWithOrder) → AreItsEdges f n l ks → IsOrderedTo f (n + 1) o → length r.order ≡ length o.order → length r.part ≡ length o.part
    → ((k : ℕ) → present r.part k ≡ (not (has ks k) && present o.part k)) → (IsTrue (is_order f.graph o.part o.order) → IsTrue (is_order f.graph r.part r.order)) → IsOrderedTo f n r
ordered_back f n l ks o r its h size part_size out order = record {
  size = size ∙ h.size;
  part_size = part_size ∙ h.part_size;
  part = out_again (sure_parts f n) (sure_parts f (n + 1)) r.part ks ks (gains f n l ks its) (λ j t. t) (sure_apart f n l ks its) (λ k. out k ∙ ap (λ (b : Bool). not (has ks k) && b) (h.part k));
  order = order h.order;
}

-- a literal that brings no edge comes and goes
ordered_same : (f : Facts) (n m : ℕ) (o : PartWithOrder) → sure_parts f m ≡ sure_parts f n → IsOrderedTo f n o → IsOrderedTo f m o
ordered_same f n m o same h = record { size = h.size; part_size = h.part_size; part = λ k. h.part k ∙ sym (ap (λ (P : List Bool). present P k) same); order = h.order }

pub ordered_still : (f : Facts) (n : ℕ) (o : PartWithOrder) → sure_parts f (n + 1) ≡ sure_parts f n → IsOrderedTo f n o → IsOrderedTo f (n + 1) o
ordered_still f n o same h = ordered_same f n (n + 1) o same h

pub ordered_still_back : (f : Facts) (n : ℕ) (o : PartWithOrder) → sure_parts f (n + 1) ≡ sure_parts f n → IsOrderedTo f (n + 1) o → IsOrderedTo f n o
ordered_still_back f n o same h = ordered_same f (n + 1) n o (sym same) h

-- ---- what is kept

-- behind a cycle nothing is put in
pub kept_closed : (f : Facts) (n : ℕ) (o : PartWithOrder) (c : Option Closing) → IsTrue (is_some c) → IsKeptTo f n o c → IsKeptTo f (n + 1) o c
kept_closed f n o None some h = absurd cc
kept_closed f n o (Some c) some h = let within = h.within in record { within = omega (arith, within); cycle = h.cycle; ordered = h.ordered }

pub kept_open : (f : Facts) (n : ℕ) (o : PartWithOrder) (c : Option Closing) → is_some c ≡ false → IsKeptTo f n o c → IsOrderedTo f n o
kept_open f n o None none h = h
kept_open f n o (Some c) none h = absurd cc

pub kept_still : (f : Facts) (n : ℕ) (o : PartWithOrder) (c : Option Closing) → is_some c ≡ false → sure_parts f (n + 1) ≡ sure_parts f n → IsKeptTo f n o c → IsKeptTo f (n + 1) o c
kept_still f n o None none same h = ordered_still f n o same h
kept_still f n o (Some c) none same h = absurd cc

-- the edges of so many literals are there
pub kept_ordered : (f : Facts) (n : ℕ) (o : PartWithOrder) (c : Option Closing) → IsKeptTo f n o c → IsOrderedTo f (ordered_count n c) o × (ordered_count n c ≤ n)
kept_ordered f n o None h = (h, omega arith)
kept_ordered f n o (Some c) h = (h.ordered, let within = h.within in omega (arith, within))

-- a literal that stays closed the cycle
pub kept_back : (f : Facts) (n kept : ℕ) (o : PartWithOrder) (c : Option Closing) → kept ≤ n → ordered_count n c < kept → IsKeptTo f n o c → IsKeptTo f kept o c
kept_back f n kept o None le lt h = absurd (omega (arith, le, lt))
kept_back f n kept o (Some c) le lt h = record { within = lt; cycle = h.cycle; ordered = h.ordered }

-- a literal closed no cycle
kept_none : (f : Facts) (n : ℕ) (o : PartWithOrder) (c : Option Closing) → is_some c ≡ false → IsOrderedTo f n o → IsKeptTo f n o c
kept_none f n o None none h = h
kept_none f n o (Some c) none h = absurd cc

pub edges_on : (f : Facts) (m : ℕ) (s : OrderedView) (o : PartWithOrder) → is_some s.closing ≡ false → IsOrderedTo f m o → AreEdgesTo f m (record { ordered = o; closing = s.closing })
edges_on f m s o none ordered = record { kept = kept_none f m o s.closing none ordered }

-- the next literal brings no edge, or comes behind a cycle
pub edges_still : (f : Facts) (n : ℕ) (s : OrderedView) → is_some s.closing ≡ false → sure_parts f (n + 1) ≡ sure_parts f n → AreEdgesTo f n s → AreEdgesTo f (n + 1) s
edges_still f n s none same h = record { kept = kept_still f n s.ordered s.closing none same h.kept }

pub edges_closed : (f : Facts) (n : ℕ) (s : OrderedView) → IsTrue (is_some s.closing) → AreEdgesTo f n s → AreEdgesTo f (n + 1) s
edges_closed f n s some h = record { kept = kept_closed f n s.ordered s.closing some h.kept }

pub edges_back : (f : Facts) (n kept : ℕ) (s : OrderedView) → kept ≤ n → ordered_count n s.closing < kept → AreEdgesTo f n s → AreEdgesTo f kept s
edges_back f n kept s le lt h = record { kept = kept_back f n kept s.ordered s.closing le lt h.kept }

-- ---- what it shows

order_shown : (f : Facts) (n : ℕ) (o : PartWithOrder) → IsOrderedTo f n o → IsAcyclic f.graph (sure_parts f n)
order_shown f n o h = acyclic-smaller f.graph (sure_parts f n) o.part (record { keeps = λ k here. h.part k ∙ here }) (order_acyclic f.graph o.part o.order h.order)

-- the cycle is one under so many literals as there are with the one that closed it, and under more
pub cycle_within : (f : Facts) (n m : ℕ) (o : PartWithOrder) (c : Closing) → c.at < m → IsClosed f n o c → IsTrue (is_cycle f.graph (sure_parts f m) c.cycle.items)
cycle_within f n m o c lt h = is_cycle-larger f.graph (sure_parts f (c.at + 1)) (sure_parts f m) (sure_larger f.graph f.seen (c.at + 1) m (omega (arith, lt))) c.cycle.items h.cycle

kept_decides : (f : Facts) (n : ℕ) (o : PartWithOrder) (c : Option Closing) → IsKeptTo f n o c → Decides f.graph (sure_parts f n) kind.Acyclic (shown_by kind.Acyclic (is_some c))
kept_decides f n o None h = order_shown f n o h
kept_decides f n o (Some c) h = cycle_cyclic f.graph (sure_parts f n) c.cycle.items (cycle_within f n n o c h.within h)

pub edges_decide : (f : Facts) (n : ℕ) (s : OrderedView) (q : Predicate) → IsTrue (is_cycle_predicate q) → AreEdgesTo f n s → Decides f.graph (sure_parts f n) q (shown_by q (is_some s.closing))
edges_decide f n s kind.Acyclic ok h = kept_decides f n s.ordered s.closing h.kept
edges_decide f n s (kind.Reach u v) ok h = absurd cc
edges_decide f n s (kind.Steps u v most) ok h = absurd cc
edges_decide f n s (kind.Distance u v most) ok h = absurd cc
edges_decide f n s (kind.Flow u v least) ok h = absurd cc
edges_decide f n s (kind.Tree most) ok h = absurd cc

-- without a cycle each atom is decided
pub edges_rest : {f : Facts} {s : OrderedView} → AreCovered is_cycle_predicate f.atoms → AreEdgesOf s f → DecidesRest f false (shows_cycle s)
edges_rest {f = f} {s = s} covered h = record {
  each = λ a lt none.
      let n = length f.seen in
      let q = (atom_at f.atoms a).predicate in
      subst (λ (P : List Bool). Decides f.graph P q (shown_by q false)) (sure_all f n refl)
      (subst (λ (b : Bool). Decides f.graph (sure_parts f n) q (shown_by q b)) none (edges_decide f n s q (covered.each a no_atom lt) h));
}

-- a cycle goes over the graph's edges
pub cycle_places : (g : Digraph) (P : List Bool) (ks : List ℕ) → IsTrue (is_cycle g P ks) → All (λ k. k < length g.edges) ks
cycle_places g P [] h = absurd cc
cycle_places g P (k ∷ ks) h = walk_places g P (edge_at g k).from (edge_at g k).from (k ∷ ks) h

-- the cycle is evidence under each number of literals that has the one that closed it
pub edges_show : (f : Facts) (n m : ℕ) (s : OrderedView) (c : Closing) (q : Predicate) → IsGraph f.graph → s.closing ≡ Some c → c.at < m → IsTrue (is_cycle_predicate q) → AreEdgesTo f n s → IsEvidence f.graph (sure_parts f m) q (cycle_evidence f.graph c.cycle.items)
edges_show f n m s c q ok is lt covered h = by q covered (subst (λ (o : Option Closing). IsKeptTo f n s.ordered o) is h.kept)
  where
    by : (q : Predicate) → IsTrue (is_cycle_predicate q) → IsClosed f n s.ordered c → IsEvidence f.graph (sure_parts f m) q (cycle_evidence f.graph c.cycle.items)
    by kind.Acyclic ok-q closed =
        let passes = cycle_within f n m s.ordered c lt closed in
        cycle_shows f.graph (sure_parts f m) c.cycle.items ok (cycle_places f.graph (sure_parts f m) c.cycle.items passes) passes
    by (kind.Reach u v) ok-q closed = absurd cc
    by (kind.Steps u v most) ok-q closed = absurd cc
    by (kind.Distance u v most) ok-q closed = absurd cc
    by (kind.Flow u v least) ok-q closed = absurd cc
    by (kind.Tree most) ok-q closed = absurd cc

-- ---- the beginning

pub edges_none : (f : Facts) (o : PartWithOrder) → length o.order ≡ f.graph.nodes → length o.part ≡ length f.graph.edges → ((k : ℕ) → present o.part k ≡ false) → IsTrue (is_order f.graph o.part o.order)
    → AreEdgesTo (cut_to 0 f) 0 (record { ordered = o; closing = None })
edges_none f o size part_size none order = record { kept = record { size = size; part_size = part_size; part = λ k. none k ∙ sym (none_sure (cut_to 0 f) k); order = order } }

-- ---- which atoms are due

-- all of them
pub due_all : {n : ℕ} {before after : List Bool} (first second : ℕ → Bool) → length before ≡ n → after ≡ replicate (length before) true → PutsDue n first second before after
due_all {before = before} {after = after} first second size all = record {
  size = ap length all ∙ length-replicate (length before) true;
  stay = λ a off. elim (cases_lt a (length before)) [
    | inl lt ↦ absurd (both_ways (is_listed after a) off (listed a lt))
    | inr past ↦ get_or_past before a false past
  ];
  newly = λ a lt off on. absurd (both_ways (is_listed after a) off (listed a (omega (arith, lt, size))));
}
  where
    listed : (a : ℕ) → a < length before → is_listed after a ≡ true
    listed a lt = ap (λ (marks : List Bool). get_or marks a false) all ∙ get_or-replicate (length before) a true false lt

-- One more literal, and fewer.
use Rattle.std.proofs.Common.{◌≡◌, ℕ, zero, suc, ◌+◌, ◌^◌, ◌<◌, ◌≤◌, Bool, true, false, not, ◌||◌, cond, List, [], ◌∷◌, ◌++◌, map, length, take, get_or, eqb, le-leb, refl, sym, ap, subst, ◌∙◌, inl, inr, arith, ℤ, pos, nat_abs, All, length-append}
use Rattle.std.specs.Prelude.{IsTrue, IsSome, Some}
use Rattle.std.specs.List.{list_any}
use Rattle.std.proofs.lemmas.Bool.{or_cases, or_left, or_right, and_from, both_ways, eqb-true}
use Rattle.std.proofs.lemmas.List.{length-map, get_or-map}
use Rattle.std.proofs.lemmas.List.Folds.{list_any-append}
use Rattle.mono_base.specs.declared.limits.TheConstants.{MAX_ATOMS}
use Rattle.mono_base.specs.Literal.{var_of, is_lit}
use Rattle.mono_base.specs.Partial.{is_true_in, is_false_in, is_open_in, has_var, is_partial}
use Rattle.mono_base.proofs.Partials.{open_is_new, has_var-append, is_partial-push, is_partial-take, joined}
use Rattle.mono_graph.specs.declared.edge.Edge.{Edge}
use Rattle.mono_graph.specs.Digraph.{Digraph, IsGraph, has, is_distinct}
use Rattle.mono_problem.specs.declared.atom.Atom.{Atom}
use Rattle.mono_problem.specs.Quiet.{under, over}
use Rattle.mono_problem.specs.Read.{no_atom}
use Rattle.std.specs.Prelude.{int_lt}
use Rattle.mono_theory.specs.Evidences.{side, shown_by}
use Rattle.mono_problem.specs.declared.atom.Predicate.{Predicate}
use Rattle.mono_problem.specs.WellFormed.{IsOver}
use Rattle.mono_bounds.specs.Index.{IsPlaceOf}
use Rattle.mono_theory.specs.Theories.{concerns_of, owns_of, atom_of}
use Rattle.mono_theory.specs.Variables.{AreVarsOf}
use Rattle.mono_bounds.specs.Bound.{Bound, edge_vars, IsBoundUnder}
use Rattle.mono_bounds.specs.SeenBounds.{SeenBound, IsSeenBound}
use Rattle.mono_theory.specs.Frames.{AreAtomsOf, IsVar, atom_vars, atom_numbers, IsFrame}
use Rattle.mono_graph.proofs.Pigeons.{pigeon}

-- ---- what concerns a theory

has-map : {X : Type 0} (f : X → ℕ) (xs : List X) (v : ℕ) → has (map f xs) v ≡ list_any (λ x. eqb (f x) v) xs
has-map f [] v = refl
has-map f (x ∷ xs) v = ap (λ b. eqb (f x) v || b) (has-map f xs v)

any_var : {X : Type 0} (f : X → ℕ) (xs : List X) (v : ℕ) → All (λ x. 1 ≤ f x) xs → IsTrue (list_any (λ x. eqb (f x) v) xs) → 0 < v
any_var f [] v h e = absurd cc
any_var f (x ∷ xs) v h e =
    elim (or_cases (eqb (f x) v) (list_any (λ y. eqb (f y) v) xs) e) [
      | inl s ↦ (let k = h 0 x (omega arith) in let q = eqb-true (f x) v s in omega (arith, k, q))
      | inr r ↦ any_var f xs v (λ k d lt. h (suc k) d (omega arith)) r
    ]

pub concerned_is_var : (g : Digraph) (atoms : List Atom) (v : ℕ) → IsGraph g → AreAtomsOf g atoms → IsTrue (concerns_of g atoms v) → 0 < v
concerned_is_var g atoms v graph k h =
    elim (or_cases (list_any (λ e. eqb e.var v) g.edges) (list_any (λ x. eqb x.var v) atoms) h) [
      | inl e ↦ any_var (λ (e : Edge). e.var) g.edges v (λ j d lt. (graph.vars j d lt).0) e
      | inr e ↦ any_var (λ (x : Atom). x.var) atoms v (λ j d lt. (k.over j d lt).0.0) e
    ]

pub lit_by : (l : ℤ) → 0 < nat_abs l → IsTrue (is_lit l)
lit_by l h = le-leb 1 (nat_abs l) h

has_var-take : (k : ℕ) (t : List ℤ) (v : ℕ) → IsTrue (has_var (take k t) v) → IsTrue (has_var t v)
has_var-take zero t v h = absurd cc
has_var-take (suc k) [] v h = h
has_var-take (suc k) (l ∷ t) v h =
    elim (or_cases (eqb (var_of l) v) (has_var (take k t) v) h) [
      | inl e ↦ or_left (eqb (var_of l) v) (has_var t v) e
      | inr e ↦ or_right (eqb (var_of l) v) (has_var t v) (has_var-take k t v e)
    ]

-- ---- room

abbrev vars_of : Digraph → List Atom → List ℕ
vars_of g atoms = edge_vars g ++ atom_vars atoms

pub has-both : (g : Digraph) (atoms : List Atom) (v : ℕ) → (has (edge_vars g) v || has (atom_vars atoms) v) ≡ concerns_of g atoms v
has-both g atoms v =
    ap (λ b. b || has (atom_vars atoms) v) (has-map (λ (e : Edge). e.var) g.edges v)
    ∙ ap (λ b. list_any (λ e. eqb e.var v) g.edges || b) (has-map (λ (x : Atom). x.var) atoms v)

vars_has : (t : List ℤ) (v : ℕ) → has (map var_of t) v ≡ has_var t v
vars_has t v = has-map var_of t v

vars_distinct : (t : List ℤ) → IsTrue (is_partial t) → IsTrue (is_distinct (map var_of t))
vars_distinct [] d = refl
vars_distinct (l ∷ t) d = let j = joined l t d in and_from (not (has (map var_of t) (var_of l))) (is_distinct (map var_of t)) (ap not (vars_has t (var_of l) ∙ j.new)) (vars_distinct t j.rest)

few_vars : (t : List ℤ) (es : List ℕ) → IsTrue (is_partial t) → ((v : ℕ) → IsTrue (has_var t v) → IsTrue (has es v)) → length t ≤ length es
few_vars t es d h = let few = pigeon (map var_of t) es (vars_distinct t d) (λ v m. h v (sym (vars_has t v) ∙ m)) in omega (arith, few, length-map t var_of)

concerned-push : (g : Digraph) (atoms : List Atom) (t : List ℤ) (l : ℤ) → ((v : ℕ) → IsTrue (has_var t v) → IsTrue (concerns_of g atoms v)) → IsTrue (concerns_of g atoms (nat_abs l))
    → (v : ℕ) → IsTrue (has_var (t ++ l ∷ []) v) → IsTrue (concerns_of g atoms v)
concerned-push g atoms t l h c v m =
    elim (or_cases (has_var t v) (eqb (var_of l) v || false) (sym (has_var-append t (l ∷ []) v) ∙ m)) [
      | inl e ↦ h v e
      | inr e ↦ elim (or_cases (eqb (var_of l) v) false e) [ inl s ↦ subst (λ (w : ℕ). IsTrue (concerns_of g atoms w)) (eqb-true (var_of l) v s) c | inr f ↦ absurd cc ]
    ]

-- nothing was seen yet
pub IsFrame-new : {g : Digraph} {atoms : List Atom} {b o : SeenBound} {ns vs : List ℕ} {cells : ℕ} → IsGraph g → AreAtomsOf g atoms → length atoms ≤ MAX_ATOMS → IsSeenBound b (edge_vars g) [] → IsSeenBound o (atom_vars atoms) []
    → ns ≡ atom_numbers atoms → AreVarsOf g atoms vs → length g.edges + length atoms ≤ cells → length g.edges + length atoms ≤ b.cells → length g.edges + length atoms ≤ o.cells → IsFrame g atoms [] b o ns vs cells
IsFrame-new graph known few edges own numbered vars room edge_room own_room = record {
  graph = graph;
  known = known;
  partial = refl;
  concerned = λ v m. absurd cc;
  edges = edges;
  own = own;
  numbered = numbered;
  vars = vars;
  room = room;
  edge_room = edge_room;
  own_room = own_room;
  few = few;
}

pub seen_few : {g : Digraph} {atoms : List Atom} {t : List ℤ} {b o : SeenBound} {ns vs : List ℕ} {cells : ℕ} → IsFrame g atoms t b o ns vs cells → length t < 2 ^ 31
seen_few {g = g} {atoms = atoms} {t = t} s =
    let few : length t ≤ length (vars_of g atoms) = few_vars t (vars_of g atoms) s.partial
    (λ v m. list_any-append (λ e. eqb e v) (edge_vars g) (atom_vars atoms) ∙ has-both g atoms v ∙ s.concerned v m) in
    let edges = s.graph.few_edges in
    let atoms_few = s.few in
    omega (arith, few, length-append (edge_vars g) (atom_vars atoms), length-map g.edges (λ e. e.var), length-map atoms (λ x. x.var), edges, atoms_few)

-- the variable of a literal that concerns the frame isn't 0
pub concerned_lit : {g : Digraph} {atoms : List Atom} {t : List ℤ} {b o : SeenBound} {ns vs : List ℕ} {cells : ℕ} (l : ℤ) → IsFrame g atoms t b o ns vs cells → IsTrue (concerns_of g atoms (var_of l)) → IsTrue (is_lit l)
concerned_lit {g = g} {atoms = atoms} l s c = lit_by l (concerned_is_var g atoms (nat_abs l) s.graph s.known c)

pub room_for_one : {g : Digraph} {atoms : List Atom} {t : List ℤ} {b o : SeenBound} {ns vs : List ℕ} {cells : ℕ} (l : ℤ) → IsFrame g atoms t b o ns vs cells → IsTrue (concerns_of g atoms (var_of l)) → IsTrue (is_open_in t l) → length t + 1 ≤ length g.edges + length atoms
room_for_one {g = g} {atoms = atoms} {t = t} l s c f =
    let few : length (t ++ l ∷ []) ≤ length (vars_of g atoms) = few_vars (t ++ l ∷ []) (vars_of g atoms) (is_partial-push t l s.partial (concerned_lit l s c) (open_is_new t l f))
    (λ v m. list_any-append (λ e. eqb e v) (edge_vars g) (atom_vars atoms) ∙ has-both g atoms v ∙ concerned-push g atoms t l s.concerned c v m) in
    omega (arith, few, length-append (edge_vars g) (atom_vars atoms), length-map g.edges (λ e. e.var), length-map atoms (λ x. x.var), length-append t (l ∷ []))

pub IsFrame-push : {g : Digraph} {atoms : List Atom} {t : List ℤ} {b o : SeenBound} {ns vs : List ℕ} {cells : ℕ} (b' o' : SeenBound) (l : ℤ) (more : ℕ) → IsFrame g atoms t b o ns vs cells → IsTrue (concerns_of g atoms (var_of l)) → IsTrue (is_open_in t l)
    → IsSeenBound b' (edge_vars g) (t ++ l ∷ []) → IsSeenBound o' (atom_vars atoms) (t ++ l ∷ []) → b.cells ≤ b'.cells → o.cells ≤ o'.cells → cells ≤ more → IsFrame g atoms (t ++ l ∷ []) b' o' ns vs more
IsFrame-push {g = g} {atoms = atoms} {t = t} b' o' l more s c f edges own edge_cells own_cells wider = record {
  graph = s.graph;
  known = s.known;
  partial = is_partial-push t l s.partial (concerned_lit l s c) (open_is_new t l f);
  concerned = concerned-push g atoms t l s.concerned c;
  edges = edges;
  own = own;
  numbered = s.numbered;
  vars = s.vars;
  room = omega (arith, s.room, wider);
  edge_room = omega (arith, s.edge_room, edge_cells);
  own_room = omega (arith, s.own_room, own_cells);
  few = s.few;
}

pub IsFrame-take : {g : Digraph} {atoms : List Atom} {t : List ℤ} {b o : SeenBound} {ns vs : List ℕ} {cells : ℕ} (b' o' : SeenBound) (k : ℕ) → IsFrame g atoms t b o ns vs cells
    → IsSeenBound b' (edge_vars g) (take k t) → IsSeenBound o' (atom_vars atoms) (take k t) → b'.cells ≡ b.cells → o'.cells ≡ o.cells → IsFrame g atoms (take k t) b' o' ns vs cells
IsFrame-take {t = t} b' o' k s h i edge_cells own_cells = record {
  graph = s.graph;
  known = s.known;
  partial = is_partial-take k t s.partial;
  concerned = λ v m. s.concerned v (has_var-take k t v m);
  edges = h;
  own = i;
  numbered = s.numbered;
  vars = s.vars;
  room = s.room;
  edge_room = omega (arith, s.edge_room, edge_cells);
  own_room = omega (arith, s.own_room, own_cells);
  few = s.few;
}

-- ---- the bounds of the graph

map-map : {X : Type 0} (f : X → ℕ) (h : ℕ → Bool) (xs : List X) → map h (map f xs) ≡ map (λ x. h (f x)) xs
map-map f h [] = refl
map-map f h (x ∷ xs) = ap (λ bs. h (f x) ∷ bs) (map-map f h xs)

pub under_is : (b : Bound) (g : Digraph) (t : List ℤ) → IsBoundUnder b (edge_vars g) t → b.under ≡ under g t
under_is b g t h = h.surely ∙ map-map (λ (e : Edge). e.var) (λ v. is_true_in t (pos v)) g.edges

pub over_is : (b : Bound) (g : Digraph) (t : List ℤ) → IsBoundUnder b (edge_vars g) t → b.over ≡ over g t
over_is b g t h = h.possibly ∙ map-map (λ (e : Edge). e.var) (λ v. not (is_false_in t (pos v))) g.edges

-- ---- the atoms' own values

pub own_true : (o : Bound) (atoms : List Atom) (t : List ℤ) (k : ℕ) → IsBoundUnder o (atom_vars atoms) t → k < length atoms → get_or o.under k false ≡ is_true_in t (pos (get_or atoms k no_atom).var)
own_true o atoms t k h lt =
    ap (λ P. get_or P k false) (h.surely ∙ map-map (λ (x : Atom). x.var) (λ v. is_true_in t (pos v)) atoms) ∙ get_or-map (λ (x : Atom). is_true_in t (pos x.var)) atoms k no_atom false lt

not-not : (b : Bool) → not (not b) ≡ b
not-not true = refl
not-not false = refl

pub own_false : (o : Bound) (atoms : List Atom) (t : List ℤ) (k : ℕ) → IsBoundUnder o (atom_vars atoms) t → k < length atoms → not (get_or o.over k false) ≡ is_false_in t (pos (get_or atoms k no_atom).var)
own_false o atoms t k h lt =
    ap (λ P. not (get_or P k false)) (h.possibly ∙ map-map (λ (x : Atom). x.var) (λ v. not (is_false_in t (pos v))) atoms)
    ∙ ap not (get_or-map (λ (x : Atom). not (is_false_in t (pos x.var))) atoms k no_atom false lt) ∙ not-not (is_false_in t (pos (get_or atoms k no_atom).var))

-- ---- the atoms by their numbers

pub has-numbers : (atoms : List Atom) (n : ℕ) → has (atom_numbers atoms) n ≡ owns_of atoms n
has-numbers atoms n = has-map (λ (x : Atom). x.number) atoms n

found_owns : (atoms : List Atom) (n : ℕ) → IsSome (atom_of atoms n) → IsTrue (owns_of atoms n)
found_owns [] n h = absurd cc
found_owns (x ∷ xs) n h = by (eqb x.number n) h (found_owns xs n)
  where
    by : (b : Bool) → IsSome (cond b (Some x) (atom_of xs n)) → (IsSome (atom_of xs n) → IsTrue (owns_of xs n)) → IsTrue (b || owns_of xs n)
    by true h rest = refl
    by false h rest = rest h

pub number_is_held : (atoms : List Atom) (ns : List ℕ) (n : ℕ) → ns ≡ atom_numbers atoms → IsSome (atom_of atoms n) → has ns n ≡ false → ⊥
number_is_held atoms ns n e h none = both_ways (owns_of atoms n) (sym (has-numbers atoms n) ∙ ap (λ ms. has ms n) (sym e) ∙ none) (found_owns atoms n h)

-- the atom at the place of its number
pub atom_place : (atoms : List Atom) (ns : List ℕ) (n k : ℕ) → ns ≡ atom_numbers atoms → IsPlaceOf ns n k → k < length atoms
atom_place atoms ns n k e h = let lt = h.held in omega (arith, lt, ap length e, length-map atoms (λ (x : Atom). x.number))

pub place_number : (atoms : List Atom) (ns : List ℕ) (n k : ℕ) → ns ≡ atom_numbers atoms → IsPlaceOf ns n k → (get_or atoms k no_atom).number ≡ n
place_number atoms ns n k e h = sym (get_or-map (λ (y : Atom). y.number) atoms k no_atom 0 (atom_place atoms ns n k e h)) ∙ (ap (λ ms. get_or ms k 0) (sym e) ∙ h.is)

pub found_by_place : (g : Digraph) (atoms : List Atom) (ns : List ℕ) (n k : ℕ) (x : Atom) → AreAtomsOf g atoms → ns ≡ atom_numbers atoms → IsPlaceOf ns n k → x ≡ get_or atoms k no_atom
    → (atom_of atoms n ≡ Some x) × IsVar x.var × IsOver g x.predicate
found_by_place g atoms ns n k x ok e h is =
    let lt : k < length atoms = atom_place atoms ns n k e h in
    let number : x.number ≡ n = ap (λ (y : Atom). y.number) is ∙ sym (get_or-map (λ (y : Atom). y.number) atoms k no_atom 0 lt) ∙ ap (λ ms. get_or ms k 0) (sym e) ∙ h.is in
    let own : atom_of atoms x.number ≡ Some x = subst (λ (y : Atom). atom_of atoms y.number ≡ Some y) (sym is) (ok.numbers k no_atom lt) in
    let over : IsVar x.var × IsOver g x.predicate = subst (λ (y : Atom). IsVar y.var × IsOver g y.predicate) (sym is) (ok.over k no_atom lt) in
    (ap (atom_of atoms) (sym number) ∙ own, over.0, over.1)

-- the side of a literal, by the bounds
pub side_is : (b : Bound) (g : Digraph) (q : Predicate) (t : List ℤ) (l : ℤ) → IsBoundUnder b (edge_vars g) t → cond (shown_by q (int_lt (pos 0) l)) b.under b.over ≡ side g q t l
side_is b g q t l h = ap (λ P. cond (shown_by q (int_lt (pos 0) l)) P b.over) (under_is b g t h) ∙ ap (λ P. cond (shown_by q (int_lt (pos 0) l)) (under g t) P) (over_is b g t h)

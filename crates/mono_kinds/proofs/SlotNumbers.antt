-- The numbers of a slot, and the theories that the slots make one after the other.
use Rattle.std.proofs.Common.{◌≡◌, ℕ, zero, suc, ◌+◌, ◌-◌, ◌/◌, ◌%◌, ◌<◌, ◌≤◌, Bool, true, false, not, ◌||◌, ◌==◌, cond, List, [], ◌∷◌, ◌++◌, length, map, get_or, set, append-nil, eqb, eq-eqb, ltb, refl, sym, ap, subst, ◌∙◌, ◌⊎◌, inl, inr, arith, All}
use Rattle.std.specs.Prelude.{IsTrue, Some, filter, replicate}
use Rattle.mono_reach.specs.Reaches.{is_reach}
use Rattle.mono_distance.specs.Distances.{is_distance}
use Rattle.mono_flow.specs.Flowing.{is_flow_predicate}
use Rattle.mono_tree.specs.Spanning.{is_tree_predicate}
use Rattle.mono_acyclic.specs.Cyclic.{is_cycle_predicate}
use Rattle.mono_problem.specs.declared.atom.Predicate.TheVariants as kind
use Rattle.std.specs.List.{range_with_len}
use Rattle.std.proofs.lemmas.Bool.{and_from, and_parts, not_from_false, cases_eq, false_from_ne_true, eqb-true, ne_eqb, lt-ltb, le-ltb}
use Rattle.std.proofs.lemmas.List.{length-set, length-replicate, get_or-replicate, get_or-set_same, get_or-set_other, get_or_default, length-map}
use Rattle.std.proofs.lemmas.List.Elements.{All-map, All-nil, All-push, All-tail, filter-append}
use Rattle.std.proofs.lemmas.Grind.{common_steps}
use Rattle.std.proofs.lemmas.List.Sums.{sum_by_push}
use Rattle.mono_graph.proofs.Ranges.{range_push}
use Rattle.mono_graph.specs.Digraph.{has, is_distinct}
use Rattle.mono_graph.proofs.Membership.{has_range, range_has, has_filter, filter_has, same_truth}
use Rattle.mono_problem.specs.declared.atom.Atom.{Atom}
use Rattle.mono_problem.specs.declared.atom.Predicate.{Predicate}
use Rattle.mono_problem.specs.Instance.{Instance, graph_at, numbered}
use Rattle.mono_problem.specs.Read.{atom_numbered, no_atom}
use Rattle.mono_problem.specs.WellFormed.{IsInstance}
use Rattle.mono_theory.specs.Frames.{AreNumbersOf}
use Rattle.mono_theory.specs.Owners.{OwnsEach}
use Rattle.mono_theory.specs.Theories.{Facts, owns_of}
use Rattle.mono_theory.proofs.AtomsByNumber.{own_number, IsHeld}
use Rattle.mono_theory.proofs.LemmasAreJustified.{numbered_is}
use Rattle.mono_theory.proofs.WalksAsEvidence.{all_by}
use Rattle.mono_kinds.specs.Sharing.{are_alike, kind_count, kind_index}
use Rattle.mono_kinds.specs.Slots.{slot_of, slot_count, numbers_in, AreSlots, AreMade, made_of}

-- ---- the numbers of a slot

in_range : (p : Instance) (m j n : ℕ) → IsTrue (has (numbers_in p m j) n) → (0 < n) × (n ≤ m) × (slot_of (atom_numbered p n) ≡ j)
in_range p m j n h =
    let f = filter_has (λ k. slot_of (atom_numbered p k) == j) (range_with_len 1 m) n h in
    let r = range_has 1 m n f.0 in
    ((let low = r.0 in omega (arith, low)), (let high = r.1 in omega (arith, high)), eqb-true (slot_of (atom_numbered p n)) j f.1)

pub has_numbers : (p : Instance) (m j n : ℕ) → 0 < n → n ≤ m → has (numbers_in p m j) n ≡ (slot_of (atom_numbered p n) == j)
has_numbers p m j n low high =
    same_truth (has (numbers_in p m j) n) (slot_of (atom_numbered p n) == j) (λ h. eq-eqb (slot_of (atom_numbered p n)) j (in_range p m j n h).2)
    (λ h. has_filter (λ k. slot_of (atom_numbered p k) == j) (range_with_len 1 m) n (has_range 1 m n (omega (arith, low)) (omega (arith, high))) h)

distinct_filtered : (p : ℕ → Bool) (a n : ℕ) → IsTrue (is_distinct (filter p (range_with_len a n)))
distinct_filtered p a zero = refl
distinct_filtered p a (suc n) = by (p a) (distinct_filtered p (a + 1) n)
  where
    by : (b : Bool) → IsTrue (is_distinct (filter p (range_with_len (a + 1) n))) → IsTrue (is_distinct (cond b (a ∷ filter p (range_with_len (a + 1) n)) (filter p (range_with_len (a + 1) n))))
    by true d = and_from (not (has (filter p (range_with_len (a + 1) n)) a)) (is_distinct (filter p (range_with_len (a + 1) n)))
        (not_from_false (has (filter p (range_with_len (a + 1) n)) a) (false_from_ne_true (has (filter p (range_with_len (a + 1) n)) a) (λ h.
        let r = range_has (a + 1) n a (filter_has p (range_with_len (a + 1) n) a h).0 in let low = r.0 in omega (arith, low)))) d
    by false d = d

-- one atom more
numbers_more : (p : Instance) (m j : ℕ) → numbers_in p (m + 1) j ≡ numbers_in p m j ++ cond (slot_of (atom_numbered p (m + 1)) == j) ((m + 1) ∷ []) []
numbers_more p m j =
    let test : ℕ → Bool = λ n. slot_of (atom_numbered p n) == j in
    ap (λ (k : ℕ). filter test (range_with_len 1 k)) (let e : m + 1 ≡ suc m = omega arith in e)
    ∙ ap (λ (ks : List ℕ). filter test ks) (range_push 1 m)
    ∙ filter-append test (range_with_len 1 m) ((1 + m) ∷ [])
    ∙ ap (λ (k : ℕ). filter test (range_with_len 1 m) ++ cond (test k) (k ∷ []) []) (let e : 1 + m ≡ m + 1 = omega arith in e)

pub slots_none : (p : Instance) (n : ℕ) → n ≡ slot_count p → AreSlots p 0 (replicate n [])
slots_none p n e = record {
  len = length-replicate n [] ∙ e;
  each = λ j lt. get_or-replicate n j [] [] (omega (arith, lt, e));
}

pub slots_more : (p : Instance) (m : ℕ) (lists : List (List ℕ)) → slot_of (atom_numbered p (m + 1)) < slot_count p → AreSlots p m lists
    → AreSlots p (m + 1) (set lists (slot_of (atom_numbered p (m + 1))) (get_or lists (slot_of (atom_numbered p (m + 1))) [] ++ (m + 1) ∷ []))
slots_more p m lists lt h = record {
  len = length-set lists (slot_of (atom_numbered p (m + 1))) (get_or lists (slot_of (atom_numbered p (m + 1))) [] ++ (m + 1) ∷ []) ∙ h.len;
  each = λ j held. by j held (cases_eq (slot_of (atom_numbered p (m + 1))) j);
}
  where
    by : (j : ℕ) → j < slot_count p → (slot_of (atom_numbered p (m + 1)) ≡ j) ⊎ (slot_of (atom_numbered p (m + 1)) ≡ j → ⊥)
        → get_or (set lists (slot_of (atom_numbered p (m + 1))) (get_or lists (slot_of (atom_numbered p (m + 1))) [] ++ (m + 1) ∷ [])) j [] ≡ numbers_in p (m + 1) j
    by j held (inl e) =
        let k : ℕ = slot_of (atom_numbered p (m + 1)) in
        ap (λ (i : ℕ). get_or (set lists k (get_or lists k [] ++ (m + 1) ∷ [])) i []) (sym e)
        ∙ get_or-set_same lists k (get_or lists k [] ++ (m + 1) ∷ []) [] (let len = h.len in omega (arith, lt, len))
        ∙ ap (λ (i : ℕ). get_or lists i [] ++ (m + 1) ∷ []) e ∙ ap (λ (ns : List ℕ). ns ++ (m + 1) ∷ []) (h.each j held)
        ∙ sym (numbers_more p m j ∙ ap (λ (b : Bool). numbers_in p m j ++ cond b ((m + 1) ∷ []) []) (eq-eqb k j e))
    by j held (inr ne) =
        let k : ℕ = slot_of (atom_numbered p (m + 1)) in
        get_or-set_other lists k j (get_or lists k [] ++ (m + 1) ∷ []) [] (λ e. ne (sym e))
        ∙ h.each j held ∙ sym (numbers_more p m j ∙ ap (λ (b : Bool). numbers_in p m j ++ cond b ((m + 1) ∷ []) []) (ne_eqb k j ne) ∙ append-nil (numbers_in p m j))

-- ---- the theory of a slot

-- the numbers of kinds are below their count
pub kind_few : (q : Predicate) → kind_index q < kind_count
kind_few (kind.Reach u v) = omega arith
kind_few (kind.Steps u v most) = omega arith
kind_few (kind.Distance u v most) = omega arith
kind_few (kind.Flow s t least) = omega arith
kind_few (kind.Tree most) = omega arith
kind_few kind.Acyclic = omega arith

-- the kinds by their numbers
pub reach_kind : (q : Predicate) → kind_index q ≡ 0 → IsTrue (is_reach q)
reach_kind (kind.Reach u v) e = refl
reach_kind (kind.Steps u v most) e = absurd (omega (arith, e))
reach_kind (kind.Distance u v most) e = absurd (omega (arith, e))
reach_kind (kind.Flow s t least) e = absurd (omega (arith, e))
reach_kind (kind.Tree most) e = absurd (omega (arith, e))
reach_kind kind.Acyclic e = absurd (omega (arith, e))

pub distance_kind : (q : Predicate) → kind_index q ≡ 1 → IsTrue (is_distance q)
distance_kind (kind.Reach u v) e = absurd (omega (arith, e))
distance_kind (kind.Steps u v most) e = refl
distance_kind (kind.Distance u v most) e = refl
distance_kind (kind.Flow s t least) e = absurd (omega (arith, e))
distance_kind (kind.Tree most) e = absurd (omega (arith, e))
distance_kind kind.Acyclic e = absurd (omega (arith, e))

pub flow_kind : (q : Predicate) → kind_index q ≡ 2 → IsTrue (is_flow_predicate q)
flow_kind (kind.Reach u v) e = absurd (omega (arith, e))
flow_kind (kind.Steps u v most) e = absurd (omega (arith, e))
flow_kind (kind.Distance u v most) e = absurd (omega (arith, e))
flow_kind (kind.Flow s t least) e = refl
flow_kind (kind.Tree most) e = absurd (omega (arith, e))
flow_kind kind.Acyclic e = absurd (omega (arith, e))

pub tree_kind : (q : Predicate) → kind_index q ≡ 3 → IsTrue (is_tree_predicate q)
tree_kind (kind.Reach u v) e = absurd (omega (arith, e))
tree_kind (kind.Steps u v most) e = absurd (omega (arith, e))
tree_kind (kind.Distance u v most) e = absurd (omega (arith, e))
tree_kind (kind.Flow s t least) e = absurd (omega (arith, e))
tree_kind (kind.Tree most) e = refl
tree_kind kind.Acyclic e = absurd (omega (arith, e))

pub acyclic_kind : (q : Predicate) → kind_index q ≡ 4 → IsTrue (is_cycle_predicate q)
acyclic_kind (kind.Reach u v) e = absurd (omega (arith, e))
acyclic_kind (kind.Steps u v most) e = absurd (omega (arith, e))
acyclic_kind (kind.Distance u v most) e = absurd (omega (arith, e))
acyclic_kind (kind.Flow s t least) e = absurd (omega (arith, e))
acyclic_kind (kind.Tree most) e = absurd (omega (arith, e))
acyclic_kind kind.Acyclic e = refl

-- a slot's graph and kind
slot_parts : (x : Atom) (j : ℕ) → slot_of x ≡ j → (x.graph ≡ j / kind_count) × (kind_index x.predicate ≡ j % kind_count)
slot_parts x j e = let few = kind_few x.predicate in (omega (arith, e, few), omega (arith, e, few))

held_in : (p : Instance) (j : ℕ) → All (IsHeld p) (numbers_in p (length p.atoms) j)
held_in p j = all_by (IsHeld p) (numbers_in p (length p.atoms) j) (λ n h. let r = in_range p (length p.atoms) j n h in (r.0, r.1))

graph_in : (p : Instance) (j : ℕ) → All (λ n. (atom_numbered p n).graph ≡ j / kind_count) (numbers_in p (length p.atoms) j)
graph_in p j = all_by (λ n. (atom_numbered p n).graph ≡ j / kind_count) (numbers_in p (length p.atoms) j) (λ n h. (slot_parts (atom_numbered p n) j (in_range p (length p.atoms) j n h).2).0)

pub numbers_are : (covers : Predicate → Bool) (p : Instance) (j k : ℕ) → j % kind_count ≡ k → ((q : Predicate) → kind_index q ≡ k → IsTrue (covers q)) → AreNumbersOf covers p (j / kind_count) (numbers_in p (length p.atoms) j)
numbers_are covers p j k is of_kind = record {
  held = held_in p j;
  graph = graph_in p j;
  kind = all_by (λ n. IsTrue (covers (atom_numbered p n).predicate)) (numbers_in p (length p.atoms) j) (λ n h. of_kind (atom_numbered p n).predicate ((slot_parts (atom_numbered p n) j (in_range p (length p.atoms) j n h).2).1 ∙ is));
  different = distinct_filtered (λ n. slot_of (atom_numbered p n) == j) 1 (length p.atoms);
}

owns_has : (p : Instance) (ns : List ℕ) (n : ℕ) → IsInstance p → All (IsHeld p) ns → owns_of (map (atom_numbered p) ns) n ≡ has ns n
owns_has p [] n ok h = refl
owns_has p (k ∷ ns) n ok h =
    ap (λ (i : ℕ). eqb i n || owns_of (map (atom_numbered p) ns) n) (own_number p k ok (h 0 k (omega arith)))
    ∙ ap (λ (b : Bool). eqb k n || b) (owns_has p ns n ok (All-tail (IsHeld p) k ns h))

-- which atoms it owns
owns_made : (p : Instance) (j n : ℕ) → IsInstance p → 0 < n → n ≤ length p.atoms → owns_of (made_of p j (numbers_in p (length p.atoms) j)).atoms n ≡ (slot_of (atom_numbered p n) == j)
owns_made p j n ok low high = owns_has p (numbers_in p (length p.atoms) j) n ok (held_in p j) ∙ has_numbers p (length p.atoms) j n low high

exact_made : (p : Instance) (j : ℕ) → IsInstance p → All (λ x. numbered p.atoms x.number ≡ Some x) (made_of p j (numbers_in p (length p.atoms) j)).atoms
exact_made p j ok =
    let ns : List ℕ = numbers_in p (length p.atoms) j in
    All-map (λ (x : Atom). numbered p.atoms x.number ≡ Some x) (atom_numbered p) ns (λ i d lt.
    let n : ℕ = get_or ns i d in
    let held = held_in p j i d lt in
    ap (numbered p.atoms) (own_number p n ok held) ∙ numbered_is p n held.0 held.1)

graphs_made : (p : Instance) (j : ℕ) → All (λ x. graph_at p (j / kind_count) ≡ graph_at p x.graph) (made_of p j (numbers_in p (length p.atoms) j)).atoms
graphs_made p j =
    let ns : List ℕ = numbers_in p (length p.atoms) j in
    All-map (λ (x : Atom). graph_at p (j / kind_count) ≡ graph_at p x.graph) (atom_numbered p) ns (λ i d lt. ap (graph_at p) (sym (graph_in p j i d lt)))

-- two atoms are of one slot exactly where they are alike
one_slot : (x y : Atom) → (slot_of y == slot_of x) ≡ are_alike x y
one_slot x y = same_truth (slot_of y == slot_of x) (are_alike x y)
    (λ h.
    let e : slot_of y ≡ slot_of x = eqb-true (slot_of y) (slot_of x) h in
    let few = kind_few x.predicate in
    let few_too = kind_few y.predicate in
    and_from (x.graph == y.graph) (kind_index x.predicate == kind_index y.predicate) (eq-eqb x.graph y.graph (omega (arith, e, few, few_too)))
    (eq-eqb (kind_index x.predicate) (kind_index y.predicate) (omega (arith, e, few, few_too))))
    (λ h.
    let both = and_parts (x.graph == y.graph) (kind_index x.predicate == kind_index y.predicate) h in
    let graph : x.graph ≡ y.graph = eqb-true x.graph y.graph both.0 in
    let index : kind_index x.predicate ≡ kind_index y.predicate = eqb-true (kind_index x.predicate) (kind_index y.predicate) both.1 in
    eq-eqb (slot_of y) (slot_of x) (omega (arith, graph, index)))

slot_in : (p : Instance) (j : ℕ) → All (λ n. slot_of (atom_numbered p n) ≡ j) (numbers_in p (length p.atoms) j)
slot_in p j = all_by (λ n. slot_of (atom_numbered p n) ≡ j) (numbers_in p (length p.atoms) j) (λ n h. (in_range p (length p.atoms) j n h).2)

-- the theory of a slot owns the atoms that are like one of its own
shared_made : (p : Instance) (j : ℕ) → IsInstance p
    → All (λ x. All (λ y. owns_of (made_of p j (numbers_in p (length p.atoms) j)).atoms y.number ≡ are_alike x y) p.atoms) (made_of p j (numbers_in p (length p.atoms) j)).atoms
shared_made p j ok =
    let ns : List ℕ = numbers_in p (length p.atoms) j in
    let own : List Atom = map (atom_numbered p) ns in
    All-map (λ (x : Atom). All (λ y. owns_of own y.number ≡ are_alike x y) p.atoms) (atom_numbered p) ns (λ i d lt. λ k e held.
    let x : Atom = atom_numbered p (get_or ns i d) in
    let y : Atom = atom_numbered p (k + 1) in
    let same : y ≡ get_or p.atoms k e = ap (λ (m : ℕ). get_or p.atoms m no_atom) (let back : k + 1 - 1 ≡ k = omega arith in back) ∙ get_or_default p.atoms k no_atom e held in
    subst (λ (z : Atom). owns_of own z.number ≡ are_alike x z) same
    (ap (owns_of own) (own_number p (k + 1) ok (omega arith, omega (arith, held)))
    ∙ owns_made p j (k + 1) ok (omega arith) (omega (arith, held))
    ∙ ap (λ (s : ℕ). slot_of y == s) (sym (slot_in p j i d lt))
    ∙ one_slot x y))

-- ---- one slot after the other

pub made_none : (p : Instance) → AreMade p 0 []
made_none p = record {
  once = λ n low high. sym (ap (λ (b : Bool). cond b 1 0) (le-ltb (slot_of (atom_numbered p n)) 0 (omega arith)));
  exact = All-nil _;
  graphs = All-nil _;
  grouped = record { none_empty = All-nil _; shared = All-nil _ };
  unseen = All-nil _;
}

-- below the next number are those below this one, and this one
below_next : (s j : ℕ) → cond (ltb s j) 1 0 + cond (eqb s j) 1 0 ≡ cond (ltb s (j + 1)) 1 0
below_next s j = grind (arith, common_steps)

pub made_push : (p : Instance) (j : ℕ) (fs : List Facts) (f : Facts) → IsInstance p → AreMade p j fs → f ≡ made_of p j (numbers_in p (length p.atoms) j) → 0 < length (numbers_in p (length p.atoms) j) → AreMade p (j + 1) (fs ++ f ∷ [])
made_push p j fs f ok h is some =
    let ns : List ℕ = numbers_in p (length p.atoms) j in
    record {
      once = λ n low high.
          sum_by_push (λ (g : Facts). cond (owns_of g.atoms n) 1 0) fs f
          ∙ ap (λ (k : ℕ). k + cond (owns_of f.atoms n) 1 0) (h.once n low high)
          ∙ ap (λ (b : Bool). cond (ltb (slot_of (atom_numbered p n)) j) 1 0 + cond b 1 0) (ap (λ (g : Facts). owns_of g.atoms n) is ∙ owns_made p j n ok low high)
          ∙ below_next (slot_of (atom_numbered p n)) j;
      exact = All-push (λ (g : Facts). All (λ x. numbered p.atoms x.number ≡ Some x) g.atoms) fs f h.exact (subst (λ (g : Facts). All (λ x. numbered p.atoms x.number ≡ Some x) g.atoms) (sym is) (exact_made p j ok));
      graphs = All-push (λ (g : Facts). All (λ x. g.graph ≡ graph_at p x.graph) g.atoms) fs f h.graphs (subst (λ (g : Facts). All (λ x. g.graph ≡ graph_at p x.graph) g.atoms) (sym is) (graphs_made p j));
      grouped = record {
        none_empty = All-push (λ (g : Facts). 0 < length g.atoms) fs f h.grouped.none_empty (let as_many = ap (λ (g : Facts). length g.atoms) is ∙ length-map ns (atom_numbered p) in omega (arith, as_many, some));
        shared = All-push (λ (g : Facts). All (λ x. All (λ y. owns_of g.atoms y.number ≡ are_alike x y) p.atoms) g.atoms) fs f h.grouped.shared
            (subst (λ (g : Facts). All (λ x. All (λ y. owns_of g.atoms y.number ≡ are_alike x y) p.atoms) g.atoms) (sym is) (shared_made p j ok));
      };
      unseen = All-push (λ (g : Facts). g.seen ≡ []) fs f h.unseen (ap (λ (g : Facts). g.seen) is);
    }

-- a slot without an atom
pub made_skip : (p : Instance) (j : ℕ) (fs : List Facts) → AreMade p j fs → numbers_in p (length p.atoms) j ≡ [] → AreMade p (j + 1) fs
made_skip p j fs h empty = record {
  once = λ n low high.
      let s : ℕ = slot_of (atom_numbered p n) in
      let other : eqb s j ≡ false = sym (has_numbers p (length p.atoms) j n low high) ∙ ap (λ (ns : List ℕ). has ns n) empty in
      h.once n low high ∙ (let e : cond (ltb s j) 1 0 ≡ cond (ltb s j) 1 0 + 0 = omega arith in e)
      ∙ ap (λ (b : Bool). cond (ltb s j) 1 0 + cond b 1 0) (sym other) ∙ below_next s j;
  exact = h.exact;
  graphs = h.graphs;
  grouped = h.grouped;
  unseen = h.unseen;
}

pub slot_held : (p : Instance) (n : ℕ) → IsInstance p → 0 < n → n ≤ length p.atoms → slot_of (atom_numbered p n) < slot_count p
slot_held p n ok low high =
    let held = (ok.atoms (n - 1) no_atom (omega (arith, low, high))).graph in
    let few = kind_few (atom_numbered p n).predicate in
    omega (arith, held, few)

pub made_all : (p : Instance) (fs : List Facts) → IsInstance p → AreMade p (slot_count p) fs → OwnsEach p fs
made_all p fs ok h = record {
  once = λ n low high. h.once n low high ∙ ap (λ (b : Bool). cond b 1 0) (lt-ltb (slot_of (atom_numbered p n)) (slot_count p) (slot_held p n ok low high));
  exact = h.exact;
  graphs = h.graphs;
}

-- Changes that are taken back, and lists of them by stamp.
use Rattle.std.proofs.Common.{◌≡◌, ℕ, zero, suc, ◌+◌, ◌-◌, ◌<◌, ◌≤◌, ◌⊎◌, true, false, not, List, [], ◌∷◌, ◌++◌, length, map, set, take, drop, refl, sym, ap, subst, ◌∙◌, inl, inr, arith}
use Rattle.std.specs.Prelude.{All, IsTrue, nat_le}
use Rattle.std.proofs.lemmas.Bool.{le-leb, lt-leb, cases_lt, cases_eq, both_ways, false_from_ne_true}
use Rattle.std.proofs.lemmas.List.{length-set, take-append-drop, append_assoc, get_or-set_same, get_or-set_other, get_or_past, set-set, set-get_or, append-nil, take_at, drop_at, get_or-take, get_or-drop, length-take, length-drop, length-append, get_or_append_left}
use Rattle.std.proofs.Math.Seq.{get_or-append_seam}
use Rattle.std.proofs.lemmas.List.Elements.{filter-append, All-append, All-cons, All-nil}
use Rattle.mono_graph.specs.Digraph.{has}
use Rattle.mono_graph.proofs.Membership.{has_here, has_there}
use Rattle.mono_graph.specs.declared.limit.Limit.{Limit}
use Rattle.mono_dynamic.specs.declared.change.Change.{Change}
use Rattle.mono_dynamic.specs.Costs.{Costs, no_change, change_at, label_of, unwound, made_by, made_after, labels_after, IsLater, AreKept, AreLinked}
use Rattle.mono_dynamic.specs.LeastRows.{IsCostRow}

pub unwound-append : (labels : List ℕ) (cs ds : List Change) → unwound labels (cs ++ ds) ≡ unwound (unwound labels ds) cs
unwound-append labels [] ds = refl
unwound-append labels (c ∷ cs) ds = ap (λ (ls : List ℕ). set ls c.node c.old) (unwound-append labels cs ds)

pub length-unwound : (labels : List ℕ) (cs : List Change) → length (unwound labels cs) ≡ length labels
length-unwound labels [] = refl
length-unwound labels (c ∷ cs) = length-set (unwound labels cs) c.node c.old ∙ length-unwound labels cs

-- a lowered label is raised again by its change
-- a node without a change keeps its label
pub unwound_other : (labels : List ℕ) (cs : List Change) (v : ℕ) → has (map (λ c. c.node) cs) v ≡ false → label_of (unwound labels cs) v ≡ label_of labels v
unwound_other labels [] v none = refl
unwound_other labels (c ∷ cs) v none =
    get_or-set_other (unwound labels cs) c.node v c.old 0 (λ same. both_ways (has (map (λ (d : Change). d.node) (c ∷ cs)) v) none (subst (λ (w : ℕ). IsTrue (has (c.node ∷ map (λ (d : Change). d.node) cs) w)) (sym same) (has_here c.node (map (λ (d : Change). d.node) cs))))
    ∙ unwound_other labels cs v (false_from_ne_true (has (map (λ (d : Change). d.node) cs) v) (λ later. both_ways (has (map (λ (d : Change). d.node) (c ∷ cs)) v) none (has_there c.node v (map (λ (d : Change). d.node) cs) later)))

pub unwound_one : (labels : List ℕ) (c : Change) → c.old ≡ label_of labels c.node → unwound (set labels c.node c.label) (c ∷ []) ≡ labels
unwound_one labels c old = set-set labels c.node c.label c.old ∙ (ap (λ (l : ℕ). set labels c.node l) old ∙ set-get_or labels c.node 0)

set_most : (labels : List ℕ) (v l cap w : ℕ) → l ≤ cap → label_of labels w ≤ cap → label_of (set labels v l) w ≤ cap
set_most labels v l cap w le most = elim (cases_eq w v) [
  | inl e ↦ elim (cases_lt v (length labels)) [
    | inl lt ↦ subst (λ (x : ℕ). label_of (set labels v l) x ≤ cap) (sym e) (omega (arith, get_or-set_same labels v l 0 lt, le))
    | inr past ↦ subst (λ (x : ℕ). label_of (set labels v l) x ≤ cap) (sym e) (omega (arith, get_or_past (set labels v l) v 0 (omega (arith, past, length-set labels v l))))
  ]
  | inr ne ↦ omega (arith, get_or-set_other labels v w l 0 ne, most)
]

pub unwound_most : (labels : List ℕ) (cs : List Change) (cap w : ℕ) → ((i : ℕ) → i < length cs → (change_at cs i).old ≤ cap) → label_of labels w ≤ cap → label_of (unwound labels cs) w ≤ cap
unwound_most labels [] cap w old most = most
unwound_most labels (c ∷ cs) cap w old most = set_most (unwound labels cs) c.node c.old cap w (old 0 (omega arith)) (unwound_most labels cs cap w (λ i lt. old (suc i) (omega arith)) most)

-- ---- by stamp

by_here : (m : ℕ) (c : Change) (cs : List Change) → c.stamp ≤ m → made_by m (c ∷ cs) ≡ c ∷ made_by m cs
by_here m c cs le = let on : nat_le c.stamp m ≡ true = le-leb c.stamp m le in rw on refl

by_past : (m : ℕ) (c : Change) (cs : List Change) → m < c.stamp → made_by m (c ∷ cs) ≡ made_by m cs
by_past m c cs lt = let off : nat_le c.stamp m ≡ false = lt-leb c.stamp m lt in rw off refl

after_here : (m : ℕ) (c : Change) (cs : List Change) → c.stamp ≤ m → made_after m (c ∷ cs) ≡ made_after m cs
after_here m c cs le = let on : nat_le c.stamp m ≡ true = le-leb c.stamp m le in rw on refl

after_past : (m : ℕ) (c : Change) (cs : List Change) → m < c.stamp → made_after m (c ∷ cs) ≡ c ∷ made_after m cs
after_past m c cs lt = let off : nat_le c.stamp m ≡ false = lt-leb c.stamp m lt in rw off refl

pub after_none : (m : ℕ) (cs : List Change) → All (λ (c : Change). c.stamp ≤ m) cs → made_after m cs ≡ []
after_none m [] h = refl
after_none m (c ∷ cs) h = after_here m c cs (h 0 no_change (omega arith)) ∙ after_none m cs (λ i d lt. h (suc i) d (omega arith))

pub after_all : (m : ℕ) (cs : List Change) → ((i : ℕ) → i < length cs → m < (change_at cs i).stamp) → made_after m cs ≡ cs
after_all m [] h = refl
after_all m (c ∷ cs) h = after_past m c cs (h 0 (omega arith)) ∙ ap (λ (ds : List Change). c ∷ ds) (after_all m cs (λ i lt. h (suc i) (omega arith)))

by_none : (m : ℕ) (cs : List Change) → ((i : ℕ) → i < length cs → m < (change_at cs i).stamp) → made_by m cs ≡ []
by_none m [] h = refl
by_none m (c ∷ cs) h = by_past m c cs (h 0 (omega arith)) ∙ by_none m cs (λ i lt. h (suc i) (omega arith))

-- the first n changes have stamps up to m, and the others later ones
pub split_at : (m n : ℕ) (cs : List Change) → ((i : ℕ) → i < n → i < length cs → (change_at cs i).stamp ≤ m) → ((i : ℕ) → n ≤ i → i < length cs → m < (change_at cs i).stamp)
    → (take n cs ≡ made_by m cs) × (drop n cs ≡ made_after m cs)
split_at m zero cs low high = (sym (by_none m cs (λ i lt. high i (omega arith) lt)), sym (after_all m cs (λ i lt. high i (omega arith) lt)))
split_at m (suc n) [] low high = (refl, refl)
split_at m (suc n) (c ∷ cs) low high =
    let r = split_at m n cs (λ i lt here. low (suc i) (omega arith) (omega arith)) (λ i le here. high (suc i) (omega arith) (omega arith)) in
    let here = low 0 (omega arith) (omega arith) in
    (ap (λ (ds : List Change). c ∷ ds) r.0 ∙ sym (by_here m c cs here), r.1 ∙ sym (after_here m c cs here))

pub split_by : (m n : ℕ) (cs : List Change) → ((i j : ℕ) → i ≤ j → j < length cs → (change_at cs i).stamp ≤ (change_at cs j).stamp) → n ≤ length cs
    → (n ≡ 0) ⊎ ((change_at cs (n - 1)).stamp ≤ m) → ((i : ℕ) → n ≤ i → i < length cs → m < (change_at cs i).stamp) → (take n cs ≡ made_by m cs) × (drop n cs ≡ made_after m cs)
split_by m n cs rising le last high = split_at m n cs
    (λ i low lt. elim last [
      | inl none ↦ absurd (omega arith)
      | inr top ↦ let r = rising i (n - 1) (omega arith) (omega arith) in omega (arith, r, top)
    ])
    high

after_after : (m n : ℕ) (cs : List Change) → m ≤ n → made_after m (made_after n cs) ≡ made_after n cs
after_after m n [] le = refl
after_after m n (c ∷ cs) le = elim (cases_lt n c.stamp) [
  | inl past ↦ ap (λ (ds : List Change). made_after m ds) (after_past n c cs past) ∙ (after_past m c (made_after n cs) (omega arith) ∙ (ap (λ (ds : List Change). c ∷ ds) (after_after m n cs le) ∙ sym (after_past n c cs past)))
  | inr here ↦ ap (λ (ds : List Change). made_after m ds) (after_here n c cs here) ∙ (after_after m n cs le ∙ sym (after_here n c cs here))
]

-- where the list parts at a stamp, so do the changes after an earlier one
pub after_parts : (m n k : ℕ) (cs : List Change) → m ≤ n → take k cs ≡ made_by n cs → drop k cs ≡ made_after n cs → made_after m cs ≡ made_after m (made_by n cs) ++ made_after n cs
after_parts m n k cs le front back =
    ap (λ (ds : List Change). made_after m ds) (sym (take-append-drop k cs))
    ∙ (filter-append (λ (c : Change). not (nat_le c.stamp m)) (take k cs) (drop k cs)
    ∙ (ap (λ (ds : List Change). made_after m ds ++ made_after m (drop k cs)) front
    ∙ ap (λ (ds : List Change). made_after m (made_by n cs) ++ ds) (ap (λ (ds : List Change). made_after m ds) back ∙ after_after m n cs le)))

pub by_latest : (m : ℕ) (cs : List Change) → All (λ (c : Change). c.stamp ≤ m) (made_by m cs)
by_latest m [] = λ i d lt. absurd (omega arith)
by_latest m (c ∷ cs) = elim (cases_lt m c.stamp) [
  | inl past ↦ subst (λ (ds : List Change). All (λ (x : Change). x.stamp ≤ m) ds) (sym (by_past m c cs past)) (by_latest m cs)
  | inr here ↦ subst (λ (ds : List Change). All (λ (x : Change). x.stamp ≤ m) ds) (sym (by_here m c cs here)) (All-cons (λ (x : Change). x.stamp ≤ m) c (made_by m cs) here (by_latest m cs))
]

-- ---- later labels

pub later_none : (stamp : ℕ) (t : Costs) → IsLater stamp t t
later_none stamp t = record { limit = refl; cap = refl; len = refl; added = []; changes = sym (append-nil t.changes); stamps = λ i d lt. absurd (omega arith); back = refl }

pub later_one : (stamp : ℕ) (c : Change) (t new : Costs) → c.stamp ≡ stamp → c.old ≡ label_of t.labels c.node → new ≡ record t { labels = set t.labels c.node c.label; changes = t.changes ++ c ∷ [] } → IsLater stamp t new
later_one stamp c t new at old is = subst (λ (r : Costs). IsLater stamp t r) (sym is) (record {
  limit = refl;
  cap = refl;
  len = length-set t.labels c.node c.label;
  added = c ∷ [];
  changes = refl;
  stamps = All-cons (λ (d : Change). d.stamp ≡ stamp) c [] at (All-nil (λ (d : Change). d.stamp ≡ stamp));
  back = unwound_one t.labels c old;
})

pub later_same : (stamp : ℕ) (t new : Costs) → new ≡ t → IsLater stamp t new
later_same stamp t new is = subst (λ (r : Costs). IsLater stamp t r) (sym is) (later_none stamp t)

pub later_trans : (stamp : ℕ) (a b c : Costs) → IsLater stamp a b → IsLater stamp b c → IsLater stamp a c
later_trans stamp a b c x y = record {
  limit = y.limit ∙ x.limit;
  cap = y.cap ∙ x.cap;
  len = y.len ∙ x.len;
  added = x.added ++ y.added;
  changes = y.changes ∙ (ap (λ (ds : List Change). ds ++ y.added) x.changes ∙ append_assoc a.changes x.added y.added);
  stamps = All-append (λ (d : Change). d.stamp ≡ stamp) x.added y.added x.stamps y.stamps;
  back = unwound-append c.labels x.added y.added ∙ (ap (λ (ls : List ℕ). unwound ls x.added) y.back ∙ x.back);
}

pub later_stamps : (stamp : ℕ) (a b : Costs) → IsLater stamp a b → All (λ (c : Change). c.stamp ≤ stamp) a.changes → All (λ (c : Change). c.stamp ≤ stamp) b.changes
later_stamps stamp a b x h = subst (λ (ds : List Change). All (λ (c : Change). c.stamp ≤ stamp) ds) (sym x.changes)
    (All-append (λ (c : Change). c.stamp ≤ stamp) a.changes x.added h (λ i d lt. (let e = x.stamps i d lt in omega arith)))

-- a row stays one
pub later_row : (n stamp : ℕ) (a b : Costs) → IsLater stamp a b → IsCostRow n stamp a → IsCostRow n stamp b
later_row n stamp a b x row = record { sized = x.len ∙ row.sized; stamps = later_stamps stamp a b x row.stamps }

-- what the labels were after fewer steps stays
pub later_earlier : (stamp m : ℕ) (a b : Costs) → IsLater stamp a b → m < stamp → labels_after m b ≡ labels_after m a
later_earlier stamp m a b x less =
    ap (λ (ds : List Change). unwound b.labels (made_after m ds)) x.changes
    ∙ (ap (λ (ds : List Change). unwound b.labels ds) (filter-append (λ (c : Change). not (nat_le c.stamp m)) a.changes x.added)
    ∙ (ap (λ (ds : List Change). unwound b.labels (made_after m a.changes ++ ds)) (after_all m x.added (λ i lt. (let e = x.stamps i no_change lt in omega arith)))
    ∙ (unwound-append b.labels (made_after m a.changes) x.added ∙ ap (λ (ls : List ℕ). unwound ls (made_after m a.changes)) x.back)))

-- taking back what was added gives what was before
pub later_undone : (stamp n : ℕ) (a b new : Costs) → n ≡ length a.changes → IsLater stamp a b → new ≡ record b { labels = unwound b.labels (drop n b.changes); changes = take n b.changes } → new ≡ a
later_undone stamp n a b new at x is =
    let front : take n b.changes ≡ a.changes = ap (λ (ds : List Change). take n ds) x.changes ∙ take_at a.changes x.added n (sym at) in
    let rest : drop n b.changes ≡ x.added = ap (λ (ds : List Change). drop n ds) x.changes ∙ drop_at a.changes x.added n (sym at) in
    let labels : unwound b.labels (drop n b.changes) ≡ a.labels = ap (λ (ds : List Change). unwound b.labels ds) rest ∙ x.back in
    is ∙ same b.limit b.cap (unwound b.labels (drop n b.changes)) (take n b.changes) x.limit x.cap labels front
  where
    same : (limit : Limit) (most : ℕ) (labels : List ℕ) (changes : List Change) → limit ≡ a.limit → most ≡ a.cap → labels ≡ a.labels → changes ≡ a.changes
        → record { limit = limit; cap = most; labels = labels; changes = changes } ≡ a
    same limit most labels changes p q r s =
        ap (λ (x : Limit). let t : Costs = record { limit = x; cap = most; labels = labels; changes = changes } in t) p
        ∙ (ap (λ (x : ℕ). let t : Costs = record { limit = a.limit; cap = x; labels = labels; changes = changes } in t) q
        ∙ (ap (λ (x : List ℕ). let t : Costs = record { limit = a.limit; cap = a.cap; labels = x; changes = changes } in t) r
        ∙ ap (λ (x : List Change). let t : Costs = record { limit = a.limit; cap = a.cap; labels = a.labels; changes = x } in t) s))

-- ---- what is kept

pub kept_unwound : (most : ℕ) (labels : List ℕ) (cs : List Change) (latest now : List ℕ) (n : ℕ) → AreKept most labels cs latest → AreLinked (unwound labels (drop n cs)) (take n cs) now → AreKept most (unwound labels (drop n cs)) (take n cs) now
kept_unwound most labels cs latest now n k linked =
    let at : (i : ℕ) → i < length (take n cs) → (i < length cs) × (change_at (take n cs) i ≡ change_at cs i) = λ i lt.
    (omega (arith, length-take n cs, lt), get_or-take n cs i no_change (omega (arith, length-take n cs, lt))) in
    record {
      bounded = k.bounded;
      most = λ v. unwound_most labels (drop n cs) most v
          (λ i lt. subst (λ (c : Change). c.old ≤ most) (sym (get_or-drop n cs i no_change)) (k.known (n + i) (omega (arith, length-drop n cs, lt))).1)
          (k.most v);
      known = λ i lt.
          let r = at i lt in
          let was = k.known i r.0 in
          subst (λ (c : Change). (c.node < length (unwound labels (drop n cs))) × (c.old ≤ most)) (sym r.1) (let low = was.0 in omega (arith, low, length-unwound labels (drop n cs)), was.1);
      rising = λ i j le lt.
          let r = at j lt in
          let q = at i (omega arith) in
          subst (λ (c : Change). (change_at (take n cs) i).stamp ≤ c.stamp) (sym r.1) (subst (λ (c : Change). c.stamp ≤ (change_at cs j).stamp) (sym q.1) (k.rising i j le r.0));
      linked = linked;
    }

pub kept_pushed : (most : ℕ) (labels : List ℕ) (cs : List Change) (latest now : List ℕ) (c : Change) → AreKept most labels cs latest → c.node < length labels → c.old ≡ label_of labels c.node → c.label < c.old → All (λ (d : Change). d.stamp ≤ c.stamp) cs
    → AreLinked (set labels c.node c.label) (cs ++ c ∷ []) now → AreKept most (set labels c.node c.label) (cs ++ c ∷ []) now
kept_pushed most labels cs latest now c k room old below stamps linked =
    let n : ℕ = length cs in
    let ds : List Change = cs ++ c ∷ [] in
    let size : length ds ≡ suc n = omega (arith, length-append cs (c ∷ [])) in
    let same : (i : ℕ) → i < n → change_at ds i ≡ change_at cs i = λ i lt. get_or_append_left cs (c ∷ []) no_change i lt in
    let top : (i : ℕ) → n ≤ i → i < length ds → change_at ds i ≡ c = λ i le lt. (let e : i ≡ n = omega arith in ap (λ (j : ℕ). change_at ds j) e ∙ get_or-append_seam cs c [] no_change) in
    let high : c.old ≤ most = (let top = k.most c.node in omega arith) in
    record {
      bounded = k.bounded;
      most = λ v. set_most labels c.node c.label most v (omega arith) (k.most v);
      known = λ i lt. elim (cases_lt i n) [
        | inl low ↦
            let was = k.known i low in
            subst (λ (d : Change). (d.node < length (set labels c.node c.label)) × (d.old ≤ most)) (sym (same i low)) (let inside = was.0 in omega (arith, inside, length-set labels c.node c.label), was.1)
        | inr last ↦ subst (λ (d : Change). (d.node < length (set labels c.node c.label)) × (d.old ≤ most)) (sym (top i last lt)) (omega (arith, room, length-set labels c.node c.label), high)
      ];
      rising = λ i j le lt. elim (cases_lt j n) [
        | inl low ↦ subst (λ (d : Change). d.stamp ≤ (change_at ds j).stamp) (sym (same i (omega arith))) (subst (λ (d : Change). (change_at cs i).stamp ≤ d.stamp) (sym (same j low)) (k.rising i j le low))
        | inr last ↦ subst (λ (d : Change). (change_at ds i).stamp ≤ d.stamp) (sym (top j last lt)) (elim (cases_lt i n) [
          | inl low ↦ subst (λ (d : Change). d.stamp ≤ c.stamp) (sym (same i low)) (stamps i no_change low)
          | inr here ↦ subst (λ (d : Change). d.stamp ≤ c.stamp) (sym (top i here (omega arith))) (omega arith)
        ])
      ];
      linked = linked;
    }

-- a node that the last step doesn't change keeps its label
pub label_same : (looked stamp v : ℕ) (old new : Costs) → looked < stamp → All (λ (c : Change). c.stamp ≤ looked) old.changes → IsLater stamp old new → has (map (λ c. c.node) (made_after looked new.changes)) v ≡ false → label_of new.labels v ≡ label_of old.labels v
label_same looked stamp v old new less early later none =
    sym (unwound_other new.labels (made_after looked new.changes) v none)
    ∙ (ap (λ (ls : List ℕ). label_of ls v) (later_earlier stamp looked old new later less) ∙ ap (λ (cs : List Change). label_of (unwound old.labels cs) v) (after_none looked old.changes early))

-- Which change gave a label, and labels of earlier steps that are read by going back from change to change.
use Rattle.std.proofs.Common.{◌≡◌, ℕ, zero, suc, ◌+◌, ◌-◌, ◌<◌, ◌≤◌, ◌⊎◌, List, [], ◌∷◌, ◌++◌, length, get_or, set, take, drop, sym, ap, subst, ◌∙◌, inl, inr, arith}
use Rattle.std.proofs.lemmas.Bool.{cases_lt, cases_eq}
use Rattle.std.proofs.lemmas.List.{length-set, length-append, length-take, get_or-set_same, get_or-set_other, get_or-take, get_or_append_left, drop_more, drop_all}
use Rattle.std.proofs.Math.Seq.{get_or-append_seam}
use Rattle.mono_dynamic.specs.declared.change.Change.{Change}
use Rattle.mono_dynamic.specs.Costs.{Costs, no_change, change_at, label_of, unwound, made_after, IsLast, AreLinked, IsGiven}
use Rattle.mono_dynamic.proofs.CostLists.{length-unwound, split_by}

-- ---- changes that aren't a node's leave its label

skipped : (labels : List ℕ) (cs : List Change) (v m k : ℕ) → m + k ≤ length cs → ((j : ℕ) → m ≤ j → j < m + k → (change_at cs j).node ≡ v → ⊥) → label_of (unwound labels (drop m cs)) v ≡ label_of (unwound labels (drop (m + k) cs)) v
skipped labels cs v m zero le none = let at : m ≡ m + 0 = omega arith in ap (λ (i : ℕ). label_of (unwound labels (drop i cs)) v) at
skipped labels cs v m (suc k) le none =
    let other : label_of (unwound labels (change_at cs m ∷ drop (m + 1) cs)) v ≡ label_of (unwound labels (drop (m + 1) cs)) v =
    get_or-set_other (unwound labels (drop (m + 1) cs)) (change_at cs m).node v (change_at cs m).old 0 (λ e. none m (omega arith) (omega arith) (sym e)) in
    let rest : label_of (unwound labels (drop (m + 1) cs)) v ≡ label_of (unwound labels (drop (m + 1 + k) cs)) v = skipped labels cs v (m + 1) k (omega arith) (λ j le lt. none j (omega arith) (omega arith)) in
    let at : m + 1 + k ≡ m + suc k = omega arith in
    ap (λ (ds : List Change). label_of (unwound labels ds) v) (drop_more cs m no_change (omega arith)) ∙ (other ∙ (rest ∙ ap (λ (i : ℕ). label_of (unwound labels (drop i cs)) v) at))

pub unwound_between : (labels : List ℕ) (cs : List Change) (v m n : ℕ) → m ≤ n → n ≤ length cs → ((j : ℕ) → m ≤ j → j < n → (change_at cs j).node ≡ v → ⊥) → label_of (unwound labels (drop m cs)) v ≡ label_of (unwound labels (drop n cs)) v
unwound_between labels cs v m n le held none =
    let at : m + (n - m) ≡ n = omega arith in
    skipped labels cs v m (n - m) (omega arith) (λ j low lt. none j low (omega arith)) ∙ ap (λ (i : ℕ). label_of (unwound labels (drop i cs)) v) at

pub unwound_untouched : (labels : List ℕ) (cs : List Change) (v : ℕ) → ((j : ℕ) → j < length cs → (change_at cs j).node ≡ v → ⊥) → label_of (unwound labels cs) v ≡ label_of labels v
unwound_untouched labels cs v none =
    unwound_between labels cs v 0 (length cs) (omega arith) (omega arith) (λ j low lt. none j lt) ∙ ap (λ (ds : List Change). label_of (unwound labels ds) v) (drop_all (length cs) cs (omega arith))

-- one more change is taken back
pub unwound_next : (olds labels : List ℕ) (whole cs : List Change) (m : ℕ) → suc m ≤ length whole → labels ≡ unwound olds (drop (suc m) whole) → cs ≡ take (suc m) whole
    → set labels (change_at cs m).node (change_at cs m).old ≡ unwound olds (drop m whole)
unwound_next olds labels whole cs m le is first =
    let same : change_at cs m ≡ change_at whole m = ap (λ (ds : List Change). change_at ds m) first ∙ get_or-take (suc m) whole m no_change (omega arith) in
    let at : m + 1 ≡ suc m = omega arith in
    ap (λ (ls : List ℕ). set ls (change_at cs m).node (change_at cs m).old) is
    ∙ (ap (λ (c : Change). set (unwound olds (drop (suc m) whole)) c.node c.old) same
    ∙ sym (ap (λ (ds : List Change). unwound olds ds) (drop_more whole m no_change (omega arith)) ∙ ap (λ (i : ℕ). set (unwound olds (drop i whole)) (change_at whole m).node (change_at whole m).old) at))

-- ---- a node's last change

last_same : (cs ds : List Change) (n v l last : ℕ) → ((i : ℕ) → i < n → change_at ds i ≡ change_at cs i) → IsLast cs n v l last → IsLast ds n v l last
last_same cs ds n v l last same x = record {
  held = x.held;
  is = λ some. (let held = x.held in subst (λ (c : Change). (c.node ≡ v) × (c.label ≡ l)) (sym (same (last - 1) (omega arith))) (x.is some));
  none = λ j le lt at. x.none j le lt (ap (λ (c : Change). c.node) (sym (same j lt)) ∙ at);
}

last_here : (cs : List Change) (n v l : ℕ) → (change_at cs n).node ≡ v → (change_at cs n).label ≡ l → IsLast cs (suc n) v l (suc n)
last_here cs n v l node label = record {
  held = omega arith;
  is = λ some. (let at : suc n - 1 ≡ n = omega arith in subst (λ (i : ℕ). ((change_at cs i).node ≡ v) × ((change_at cs i).label ≡ l)) (sym at) (node, label));
  none = λ j le lt at. absurd (omega arith);
}

last_more : (cs : List Change) (n v l last : ℕ) → ((change_at cs n).node ≡ v → ⊥) → IsLast cs n v l last → IsLast cs (suc n) v l last
last_more cs n v l last other x = record {
  held = let held = x.held in omega arith;
  is = x.is;
  none = λ j le lt at. elim (cases_lt j n) [
    | inl low ↦ x.none j le low at
    | inr high ↦ (let e : j ≡ n = omega arith in other (subst (λ (i : ℕ). (change_at cs i).node ≡ v) e at))
  ];
}

last_less : (cs : List Change) (n v l last : ℕ) → ((change_at cs n).node ≡ v → ⊥) → IsLast cs (suc n) v l last → IsLast cs n v l last
last_less cs n v l last other x = record {
  held = elim (cases_lt n last) [
    | inl top ↦
        let held = x.held in
        let e : last - 1 ≡ n = omega arith in
        absurd (other (subst (λ (i : ℕ). (change_at cs i).node ≡ v) e (x.is (omega arith)).0))
    | inr low ↦ low
  ];
  is = x.is;
  none = λ j le lt at. x.none j le (omega arith) at;
}

-- ---- by node and by change

pub linked_pushed : (labels : List ℕ) (cs : List Change) (latest : List ℕ) (c : Change) → AreLinked labels cs latest → c.node < length labels → IsLast cs (length cs) c.node c.old c.previous → c.before ≤ length cs
    → AreLinked (set labels c.node c.label) (cs ++ c ∷ []) (set latest c.node (suc (length cs)))
linked_pushed labels cs latest c a room own before =
    let n : ℕ = length cs in
    let ds : List Change = cs ++ c ∷ [] in
    let size : length ds ≡ suc n = omega (arith, length-append cs (c ∷ [])) in
    let same : (i : ℕ) → i < n → change_at ds i ≡ change_at cs i = λ i lt. get_or_append_left cs (c ∷ []) no_change i lt in
    let top : change_at ds n ≡ c = get_or-append_seam cs c [] no_change in
    let len : c.node < length latest = (let e = a.len in omega arith) in
    record {
      len = length-set latest c.node (suc n) ∙ (a.len ∙ sym (length-set labels c.node c.label));
      last = λ v lt.
          subst (λ (m : ℕ). IsLast ds m v (label_of (set labels c.node c.label) v) (get_or (set latest c.node (suc n)) v 0)) (sym size) (elim (cases_eq v c.node) [
            | inl e ↦
                subst (λ (w : ℕ). IsLast ds (suc n) w (label_of (set labels c.node c.label) w) (get_or (set latest c.node (suc n)) w 0)) (sym e)
                (subst (λ (i : ℕ). IsLast ds (suc n) c.node (label_of (set labels c.node c.label) c.node) i) (sym (get_or-set_same latest c.node (suc n) 0 len))
                (last_here ds n c.node (label_of (set labels c.node c.label) c.node) (ap (λ (d : Change). d.node) top) (ap (λ (d : Change). d.label) top ∙ sym (get_or-set_same labels c.node c.label 0 room))))
            | inr ne ↦
                let inside : v < length labels = omega (arith, lt, length-set labels c.node c.label) in
                subst (λ (l : ℕ). IsLast ds (suc n) v l (get_or (set latest c.node (suc n)) v 0)) (sym (get_or-set_other labels c.node v c.label 0 ne))
                (subst (λ (i : ℕ). IsLast ds (suc n) v (label_of labels v) i) (sym (get_or-set_other latest c.node v (suc n) 0 ne))
                (last_more ds n v (label_of labels v) (get_or latest v 0) (λ is. ne (sym is ∙ ap (λ (d : Change). d.node) top)) (last_same cs ds n v (label_of labels v) (get_or latest v 0) same (a.last v inside))))
          ]);
      previous = λ i lt. elim (cases_lt i n) [
        | inl low ↦
            subst (λ (d : Change). IsLast ds i d.node d.old d.previous) (sym (same i low))
            (last_same cs ds i (change_at cs i).node (change_at cs i).old (change_at cs i).previous (λ j less. same j (omega arith)) (a.previous i low))
        | inr high ↦
            let e : n ≡ i = omega arith in
            subst (λ (j : ℕ). IsLast ds j (change_at ds j).node (change_at ds j).old (change_at ds j).previous) e
            (subst (λ (d : Change). IsLast ds n d.node d.old d.previous) (sym top) (last_same cs ds n c.node c.old c.previous same own))
      ];
      before = λ i lt. elim (cases_lt i n) [
        | inl low ↦ subst (λ (d : Change). d.before ≤ i) (sym (same i low)) (a.before i low)
        | inr high ↦
            let e : n ≡ i = omega arith in
            subst (λ (j : ℕ). (change_at ds j).before ≤ j) e (subst (λ (d : Change). d.before ≤ n) (sym top) before)
      ];
    }

pub linked_popped : (labels : List ℕ) (cs : List Change) (latest : List ℕ) (n : ℕ) → AreLinked labels cs latest → length cs ≡ suc n
    → AreLinked (set labels (change_at cs n).node (change_at cs n).old) (take n cs) (set latest (change_at cs n).node (change_at cs n).previous)
linked_popped labels cs latest n a size =
    let c : Change = change_at cs n in
    let ds : List Change = take n cs in
    let fewer : length ds ≡ n = omega (arith, length-take n cs, size) in
    let same : (i : ℕ) → i < n → change_at ds i ≡ change_at cs i = λ i lt. get_or-take n cs i no_change lt in
    record {
      len = length-set latest c.node c.previous ∙ (a.len ∙ sym (length-set labels c.node c.old));
      last = λ v lt.
          let inside : v < length labels = omega (arith, lt, length-set labels c.node c.old) in
          subst (λ (m : ℕ). IsLast ds m v (label_of (set labels c.node c.old) v) (get_or (set latest c.node c.previous) v 0)) (sym fewer) (elim (cases_eq v c.node) [
            | inl e ↦
                let room : c.node < length labels = subst (λ (w : ℕ). w < length labels) e inside in
                subst (λ (w : ℕ). IsLast ds n w (label_of (set labels c.node c.old) w) (get_or (set latest c.node c.previous) w 0)) (sym e)
                (subst (λ (l : ℕ). IsLast ds n c.node l (get_or (set latest c.node c.previous) c.node 0)) (sym (get_or-set_same labels c.node c.old 0 room))
                (subst (λ (i : ℕ). IsLast ds n c.node c.old i) (sym (get_or-set_same latest c.node c.previous 0 (let e = a.len in omega arith)))
                (last_same cs ds n c.node c.old c.previous same (a.previous n (omega arith)))))
            | inr ne ↦
                subst (λ (l : ℕ). IsLast ds n v l (get_or (set latest c.node c.previous) v 0)) (sym (get_or-set_other labels c.node v c.old 0 ne))
                (subst (λ (i : ℕ). IsLast ds n v (label_of labels v) i) (sym (get_or-set_other latest c.node v c.previous 0 ne))
                (last_same cs ds n v (label_of labels v) (get_or latest v 0) same
                (last_less cs n v (label_of labels v) (get_or latest v 0) (λ is. ne (sym is)) (subst (λ (m : ℕ). IsLast cs m v (label_of labels v) (get_or latest v 0)) size (a.last v inside)))))
          ]);
      previous = λ i lt.
          let low : i < n = omega arith in
          subst (λ (d : Change). IsLast ds i d.node d.old d.previous) (sym (same i low))
          (last_same cs ds i (change_at cs i).node (change_at cs i).old (change_at cs i).previous (λ j less. same j (omega arith)) (a.previous i (omega arith)));
      before = λ i lt. (let low : i < n = omega arith in subst (λ (d : Change). d.before ≤ i) (sym (same i low)) (a.before i (omega arith)));
    }

-- ---- going back over a node's changes

-- the changes from some place on are later; without them the node has this label, and this is its last change
pub record IsBackAt (labels : List ℕ) (cs : List Change) (kept v l last : ℕ) : Type 0 where
  pub count : ℕ
  pub low : count ≤ length cs
  pub own : IsLast cs count v l last
  pub later : (i : ℕ) → count ≤ i → i < length cs → kept < (change_at cs i).stamp
  pub is : l ≡ label_of (unwound labels (drop count cs)) v

pub back_start : (labels : List ℕ) (cs : List Change) (latest : List ℕ) (kept v : ℕ) → AreLinked labels cs latest → v < length labels → IsBackAt labels cs kept v (label_of labels v) (get_or latest v 0)
back_start labels cs latest kept v a lt = record {
  count = length cs;
  low = omega arith;
  own = a.last v lt;
  later = λ i le past. absurd (omega arith);
  is = ap (λ (ds : List Change). label_of (unwound labels ds) v) (sym (drop_all (length cs) cs (omega arith)));
}

pub back_more : (labels : List ℕ) (cs : List Change) (latest : List ℕ) (kept v l last : ℕ) → AreLinked labels cs latest → ((i j : ℕ) → i ≤ j → j < length cs → (change_at cs i).stamp ≤ (change_at cs j).stamp) → v < length labels
    → 0 < last → kept < (change_at cs (last - 1)).stamp → IsBackAt labels cs kept v l last → IsBackAt labels cs kept v (change_at cs (last - 1)).old (change_at cs (last - 1)).previous
back_more labels cs latest kept v l last a rising lt some past b =
    let held : last ≤ b.count = b.own.held in
    let low : b.count ≤ length cs = b.low in
    let inside : last - 1 < length cs = omega arith in
    let node : (change_at cs (last - 1)).node ≡ v = (b.own.is some).0 in
    record {
      count = last - 1;
      low = omega arith;
      own = subst (λ (w : ℕ). IsLast cs (last - 1) w (change_at cs (last - 1)).old (change_at cs (last - 1)).previous) node (a.previous (last - 1) inside);
      later = λ i le here. (let r = rising (last - 1) i le here in omega arith);
      is =
          subst (λ (w : ℕ). (change_at cs (last - 1)).old ≡ label_of (unwound labels (change_at cs (last - 1) ∷ drop (last - 1 + 1) cs)) w) node
          (sym (get_or-set_same (unwound labels (drop (last - 1 + 1) cs)) (change_at cs (last - 1)).node (change_at cs (last - 1)).old 0
          (subst (λ (w : ℕ). w < length (unwound labels (drop (last - 1 + 1) cs))) (sym node) (omega (arith, lt, length-unwound labels (drop (last - 1 + 1) cs))))))
          ∙ ap (λ (ds : List Change). label_of (unwound labels ds) v) (sym (drop_more cs (last - 1) no_change inside));
    }

-- where the list parts at a stamp
record Parts (cs : List Change) (kept : ℕ) : Type 0 where
  pub count : ℕ
  pub held : count ≤ length cs
  pub early : (i : ℕ) → i < count → (change_at cs i).stamp ≤ kept
  pub late : (i : ℕ) → count ≤ i → i < length cs → kept < (change_at cs i).stamp

parts_from : (cs : List Change) (kept n : ℕ) → ((i j : ℕ) → i ≤ j → j < length cs → (change_at cs i).stamp ≤ (change_at cs j).stamp) → n ≤ length cs → ((i : ℕ) → n ≤ i → i < length cs → kept < (change_at cs i).stamp) → Parts cs kept
parts_from cs kept zero rising le late = record { count = 0; held = omega arith; early = λ i lt. absurd (omega arith); late = late }
parts_from cs kept (suc n) rising le late = elim (cases_lt kept (change_at cs n).stamp) [
  | inl past ↦ parts_from cs kept n rising (omega arith) (λ i low lt. (let r = rising n i low lt in omega arith))
  | inr here ↦ record { count = suc n; held = le; early = λ i lt. (let r = rising i n (omega arith) (omega arith) in omega arith); late = late }
]

pub given_back : (t : Costs) (kept v l last : ℕ) → ((i j : ℕ) → i ≤ j → j < length t.changes → (change_at t.changes i).stamp ≤ (change_at t.changes j).stamp)
    → (last ≡ 0) ⊎ ((change_at t.changes (last - 1)).stamp ≤ kept) → IsBackAt t.labels t.changes kept v l last → IsGiven t kept v l last
given_back t kept v l last rising stop b =
    let cs : List Change = t.changes in
    let p : Parts cs kept = parts_from cs kept (length cs) rising (omega arith) (λ i low lt. absurd (omega arith)) in
    let m : ℕ = p.count in
    let n : ℕ = b.count in
    let held : last ≤ n = b.own.held in
    let low : n ≤ length cs = b.low in
    let inside : m ≤ length cs = p.held in
    let ends : drop m cs ≡ made_after kept cs = (split_by kept m cs rising inside (elim (cases_eq m 0) [
      | inl none ↦ inl none
      | inr some ↦ inr (p.early (m - 1) (omega arith))
    ]) p.late).1 in
    let first : last ≤ m = elim (cases_lt m last) [
      | inl less ↦ elim stop [
        | inl none ↦ absurd (omega arith)
        | inr early ↦ (let late = p.late (last - 1) (omega arith) (omega arith) in absurd (omega arith))
      ]
      | inr le ↦ le
    ] in
    let last_part : m ≤ n = elim (cases_lt n m) [
      | inl less ↦ (let late = b.later n (omega arith) (omega arith) in let early = p.early n less in absurd (omega arith))
      | inr le ↦ le
    ] in
    record {
      is = b.is ∙ (sym (unwound_between t.labels cs v m n last_part low (λ j le lt at. b.own.none j (omega arith) lt at)) ∙ ap (λ (ds : List Change). label_of (unwound t.labels ds) v) ends);
      held = omega arith;
      none = λ e. b.is ∙ sym (unwound_between t.labels cs v 0 n (omega arith) low (λ j le lt at. b.own.none j (omega arith) lt at));
      some = λ pos.
          let own = b.own.is pos in (
            own.0,
            own.1,
            elim stop [
              | inl none ↦ absurd (omega arith)
              | inr early ↦ early
            ],
          );
    }

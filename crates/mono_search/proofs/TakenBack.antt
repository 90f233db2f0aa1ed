-- Taking literals back from the theories that saw them.
use Rattle.std.proofs.Common.{◌≡◌, ◌∙◌, ℕ, ◌-◌, ◌<◌, Bool, true, false, ◌||◌, List, [], ◌∷◌, get_or, set, length, map, take, drop, replicate, refl, sym, ap, subst, inl, inr, ℤ, All, arith}
use Rattle.std.proofs.lemmas.Bool.{cases_eq, both_ways, ne_eqb}
use Rattle.std.proofs.lemmas.List.{ext_get_or, length-set, length-map, length-replicate, get_or-map, get_or-replicate, get_or-set_same, get_or-set_other, get_or_default, take_all}
use Rattle.mono_graph.specs.Digraph.{has}
use Rattle.mono_theory.specs.Theories.{Facts}
use Rattle.mono_search.specs.TheoryLists.{AreListed, concerning, with_seen, without_last, IsCurrent, IsQuietTheory, OthersAreQuiet}
use Rattle.mono_search.proofs.ConcernTables.{taken, IsTaken}
use Rattle.mono_search.proofs.Sweeps.{tail_is}

-- so many literals are still to be taken back from each theory. Theories from which some are, are left
pub record IsUndoing (fs : List Facts) (t : List ℤ) (k : ℕ) (now : List Facts) (counts left : List ℕ) : Type 0 where
  pub as_many : length now ≡ length fs
  pub counts_for : length counts ≡ length fs
  pub due : (i : ℕ) (d : Facts) → i < length fs → IsTaken (get_or now i d) t k (get_or counts i 0)
  pub same : (i : ℕ) (d : Facts) → i < length fs → with_seen (take k t) (get_or now i d) ≡ with_seen (take k t) (get_or fs i d)
  pub some : (i : ℕ) → 0 < get_or counts i 0 → has left i ≡ true

no_facts : Facts
no_facts = record { graph = record { nodes = 0; edges = [] }; atoms = []; seen = [] }

-- where none is to be taken back
nothing_back : (f : Facts) → without_last 0 f ≡ f
nothing_back f = ap (λ (s : List ℤ). record { graph = f.graph; atoms = f.atoms; seen = s }) (take_all (length f.seen - 0) f.seen (omega arith))

pub undoing_from : (fs : List Facts) (t : List ℤ) (k : ℕ) (counts places : List ℕ) (old listed : List Bool) → All (IsCurrent t) fs
    → counts ≡ map (λ f. length (concerning f (take (length t - k) (drop k t)))) fs → AreListed counts old listed → ((p : ℕ) → has places p ≡ get_or listed p false) → IsUndoing fs t k fs counts places
undoing_from fs t k counts places old listed now is listing exact = record {
  as_many = refl;
  counts_for = ap length is ∙ length-map fs (λ f. length (concerning f (take (length t - k) (drop k t))));
  due = λ i d lt. taken (get_or fs i d) t k (get_or counts i 0) (now i d lt)
      (ap (λ (ns : List ℕ). get_or ns i 0) is ∙ get_or-map (λ (f : Facts). length (concerning f (take (length t - k) (drop k t)))) fs i d 0 lt ∙ ap (λ (u : List ℤ). length (concerning (get_or fs i d) u)) (tail_is k t));
  same = λ i d lt. refl;
  some = λ i more. exact i ∙ listing.counted i more;
}

pub undoing_more : (fs : List Facts) (t : List ℤ) (k : ℕ) (now : List Facts) (counts left : List ℕ) (p count : ℕ) (f new : Facts) → IsUndoing fs t k now counts (p ∷ left)
    → p < length fs → f ≡ get_or now p f → count ≡ get_or counts p 0 → new ≡ without_last count f → IsUndoing fs t k (set now p new) (set counts p 0) left
undoing_more fs t k now counts left p count f new u lt at is e = record {
  as_many = length-set now p new ∙ u.as_many;
  counts_for = length-set counts p 0 ∙ u.counts_for;
  due = λ i d within. elim (cases_eq i p) [
    | inl same ↦ subst (λ (g : Facts). IsTaken g t k (get_or (set counts p 0) i 0)) (sym (here i d same)) (subst (IsTaken new t k) (sym (zero_at i same)) done)
    | inr ne ↦ subst (λ (g : Facts). IsTaken g t k (get_or (set counts p 0) i 0)) (sym (get_or-set_other now p i new d ne)) (subst (IsTaken (get_or now i d) t k) (sym (get_or-set_other counts p i 0 0 ne)) (u.due i d within))
  ];
  same = λ i d within. elim (cases_eq i p) [
    | inl same ↦ ap (with_seen (take k t)) (here i d same ∙ back ∙ ap (with_seen (take k t)) (at ∙ get_or_default now p f d (omega (arith, lt, u.as_many)))) ∙ u.same p d lt ∙ ap (λ (j : ℕ). with_seen (take k t) (get_or fs j d)) (sym same)
    | inr ne ↦ ap (with_seen (take k t)) (get_or-set_other now p i new d ne) ∙ u.same i d within
  ];
  some = λ i more. elim (cases_eq i p) [
    | inl same ↦ absurd (omega (arith, more, zero_at i same))
    | inr ne ↦ other i (λ e. ne (sym e)) (u.some i (subst (λ (n : ℕ). 0 < n) (get_or-set_other counts p i 0 0 ne) more))
  ];
}
  where
    here : (i : ℕ) (d : Facts) → i ≡ p → get_or (set now p new) i d ≡ new
    here i d same = ap (λ (j : ℕ). get_or (set now p new) j d) same ∙ get_or-set_same now p new d (omega (arith, lt, u.as_many))

    zero_at : (i : ℕ) → i ≡ p → get_or (set counts p 0) i 0 ≡ 0
    zero_at i same = ap (λ (j : ℕ). get_or (set counts p 0) j 0) same ∙ get_or-set_same counts p 0 0 (omega (arith, lt, u.counts_for))

    -- it has seen what concerns it of the first literals
    back : new ≡ with_seen (take k t) f
    back = e ∙ ap (λ (n : ℕ). without_last n f) is ∙ (subst (λ (g : Facts). IsTaken g t k (get_or counts p 0)) (sym at) (u.due p f lt)).is

    done : IsTaken new t k 0
    done = record { few = omega arith; is = nothing_back new ∙ back ∙ ap (with_seen (take k t)) (sym back) }

    other : (i : ℕ) → (p ≡ i → ⊥) → has (p ∷ left) i ≡ true → has left i ≡ true
    other i ne h = sym (ap (λ (b : Bool). b || has left i) (ne_eqb p i ne)) ∙ h

-- in the end all are taken back
none_counted : (fs : List Facts) (t : List ℤ) (k : ℕ) (now : List Facts) (counts : List ℕ) → IsUndoing fs t k now counts [] → (i : ℕ) → get_or counts i 0 ≡ 0
none_counted fs t k now counts u i = by (get_or counts i 0) refl
  where
    by : (n : ℕ) → get_or counts i 0 ≡ n → get_or counts i 0 ≡ 0
    by n e = elim (cases_eq n 0) [
      | inl zero ↦ e ∙ zero
      | inr ne ↦ absurd (both_ways false refl (u.some i (omega (arith, e, ne))))
    ]

pub undone : (fs : List Facts) (t : List ℤ) (k : ℕ) (now : List Facts) (counts : List ℕ) → IsUndoing fs t k now counts [] → now ≡ map (with_seen (take k t)) fs
undone fs t k now counts u = ext_get_or no_facts now (map (with_seen (take k t)) fs) (u.as_many ∙ sym (length-map fs (with_seen (take k t)))) (λ i lt.
    let within : i < length fs = omega (arith, lt, u.as_many) in
    let here = u.due i no_facts within in
    sym (nothing_back (get_or now i no_facts)) ∙ ap (λ (n : ℕ). without_last n (get_or now i no_facts)) (sym (none_counted fs t k now counts u i)) ∙ here.is ∙ u.same i no_facts within
    ∙ sym (get_or-map (with_seen (take k t)) fs i no_facts no_facts within))

pub zero_again : (fs : List Facts) (t : List ℤ) (k : ℕ) (now : List Facts) (counts : List ℕ) → IsUndoing fs t k now counts [] → counts ≡ replicate (length fs) 0
zero_again fs t k now counts u = ext_get_or 0 counts (replicate (length fs) 0) (u.counts_for ∙ sym (length-replicate (length fs) 0)) (λ i lt.
    none_counted fs t k now counts u i ∙ sym (get_or-replicate (length fs) i 0 0 (omega (arith, lt, u.counts_for))))

-- a theory that isn't listed is where it was
pub others_stay : (fs : List Facts) (t : List ℤ) (k : ℕ) (counts : List ℕ) (old listed : List Bool) → All (IsCurrent t) fs → counts ≡ map (λ f. length (concerning f (take (length t - k) (drop k t)))) fs
    → AreListed counts old listed → OthersAreQuiet fs old → (new : List Facts) → new ≡ map (with_seen (take k t)) fs → OthersAreQuiet new listed
others_stay fs t k counts old listed now is listing o new e = subst (λ (gs : List Facts). OthersAreQuiet gs listed) (sym e) (record {
  count = listing.as_many ∙ o.count ∙ sym (length-map fs (with_seen (take k t)));
  quiet = λ i f within off.
      let lt : i < length fs = omega (arith, within, length-map fs (with_seen (take k t))) in
      let none : get_or counts i 0 ≡ 0 = unlisted i off in
      let count : get_or counts i 0 ≡ length (concerning (get_or fs i f) (drop k t)) = ap (λ (ns : List ℕ). get_or ns i 0) is ∙ get_or-map (λ (h : Facts). length (concerning h (take (length t - k) (drop k t)))) fs i f 0 lt ∙ ap (λ (u : List ℤ). length (concerning (get_or fs i f) u)) (tail_is k t) in
      let here = taken (get_or fs i f) t k 0 (now i f lt) (sym none ∙ count) in
      let stays : get_or (map (with_seen (take k t)) fs) i f ≡ get_or fs i f = get_or-map (with_seen (take k t)) fs i f f lt ∙ sym here.is ∙ nothing_back (get_or fs i f) in
      subst IsQuietTheory (sym stays) (o.quiet i f lt (unlisted_before i off));
})
  where
    unlisted : (i : ℕ) → get_or listed i false ≡ false → get_or counts i 0 ≡ 0
    unlisted i off = elim (cases_eq (get_or counts i 0) 0) [
      | inl zero ↦ zero
      | inr ne ↦ absurd (both_ways (get_or listed i false) off (listing.counted i (omega (arith, ne))))
    ]

    unlisted_before : (i : ℕ) → get_or listed i false ≡ false → get_or old i false ≡ false
    unlisted_before i off = by (get_or old i false) refl
      where
        by : (b : Bool) → get_or old i false ≡ b → get_or old i false ≡ false
        by true e = absurd (both_ways (get_or listed i false) off (listing.stay i e))
        by false e = e

-- Rows that are added one after another.
use Rattle.std.proofs.Common.{◌≡◌, ℕ, ◌+◌, ◌<◌, ◌≤◌, List, [], ◌∷◌, ◌++◌, length, get_or, set, refl, sym, ap, subst, ◌∙◌, inl, inr, arith}
use Rattle.std.specs.Prelude.{IfSome, Option, Some, None}
use Rattle.std.proofs.lemmas.Bool.{cases_lt, cases_eq}
use Rattle.std.proofs.lemmas.List.{length-append, length-set, get_or_append_left, get_or_default, get_or-set_same, get_or-set_other}
use Rattle.std.proofs.Math.Seq.{get_or-append_seam}
use Rattle.mono_dynamic.specs.Sources.{AreApart, AreMore, HaveRows, IsRowTable, IsServed}

-- a table has one row for each slot
pub rows_apart : {X : Type 0} {slot : X → ℕ} {table : List (Option ℕ)} {rows : List X} → IsRowTable slot table rows → AreApart slot rows
rows_apart {slot = slot} {table = table} {rows = rows} h = record {
  same = λ i j d e low high at. number i j (sym (h.listed i d low) ∙ (ap (λ (t : ℕ). get_or table t None) at ∙ h.listed j e high));
}
  where
    number : (a b : ℕ) → Some a ≡ Some b → a ≡ b
    number a b e = cc

-- the row of a slot that has one
pub row_known : {X : Type 0} {slot : X → ℕ} {table : List (Option ℕ)} {rows : List X} (t r : ℕ) (o : Option ℕ) → t < length table → o ≡ get_or table t o → o ≡ Some r → IsRowTable slot table rows → (r < length rows) × ((d : X) → slot (get_or rows r d) ≡ t)
row_known {X = X} {slot = slot} {table = table} {rows = rows} t r o lt is some h =
    subst (λ (q : Option ℕ). IfSome q (λ k. (k < length rows) × ((d : X) → slot (get_or rows k d) ≡ t))) (sym (get_or_default table t o None lt) ∙ sym is ∙ some) (h.each t lt)

-- ---- a row is joined

pub more_joined : {X : Type 0} {slot amount : X → ℕ} (rows : List X) (r : ℕ) (x y : X) → r < length rows → x ≡ get_or rows r x → slot y ≡ slot x → amount x ≤ amount y → AreMore slot amount rows (set rows r y)
more_joined {X = X} {slot = slot} {amount = amount} rows r x y lt is same more = record {
  len = (let len = length-set rows r y in omega (arith, len));
  slot_is = λ i d low. elim (cases_eq i r) [
    | inl here ↦ subst (λ (k : ℕ). slot (get_or (set rows r y) k d) ≡ slot (get_or rows k d)) (sym here) (ap slot (get_or-set_same rows r y d lt) ∙ (same ∙ ap slot (old d)))
    | inr other ↦ ap slot (get_or-set_other rows r i y d other)
  ];
  enough = λ i d low. elim (cases_eq i r) [
    | inl here ↦
        subst (λ (k : ℕ). amount (get_or rows k d) ≤ amount (get_or (set rows r y) k d)) (sym here)
        (subst (λ (z : X). amount (get_or rows r d) ≤ amount z) (sym (get_or-set_same rows r y d lt)) (subst (λ (z : X). amount z ≤ amount y) (old d) more))
    | inr other ↦ subst (λ (z : X). amount (get_or rows i d) ≤ amount z) (sym (get_or-set_other rows r i y d other)) (omega arith)
  ];
}
  where
    old : (d : X) → x ≡ get_or rows r d
    old d = is ∙ get_or_default rows r x d lt

some_like : {X : Type 0} (slot : X → ℕ) (olds news : List X) (t : ℕ) (o : Option ℕ) → length news ≡ length olds → ((i : ℕ) (d : X) → i < length olds → slot (get_or news i d) ≡ slot (get_or olds i d))
    → IfSome o (λ r. (r < length olds) × ((d : X) → slot (get_or olds r d) ≡ t)) → IfSome o (λ r. (r < length news) × ((d : X) → slot (get_or news r d) ≡ t))
some_like slot olds news t None len same h = h
some_like slot olds news t (Some r) len same h = (let held = h.0 in omega (arith, held, len), λ d. same r d h.0 ∙ h.1 d)

pub table_joined : {X : Type 0} {slot amount : X → ℕ} {table : List (Option ℕ)} {olds news : List X} → length news ≡ length olds → AreMore slot amount olds news → IsRowTable slot table olds → IsRowTable slot table news
table_joined {slot = slot} {table = table} {olds = olds} {news = news} len m h = record {
  each = λ t low. some_like slot olds news t (get_or table t None) len m.slot_is (h.each t low);
  listed = λ r d low. (let inside : r < length olds = omega (arith, low, len) in ap (λ (t : ℕ). get_or table t None) (m.slot_is r d inside) ∙ h.listed r d inside);
}

pub served_joined : {X : Type 0} {slot amount : X → ℕ} (rows : List X) (r : ℕ) (x y : X) → r < length rows → slot y ≡ slot x → amount x ≤ amount y → IsServed slot amount x (set rows r y) r
served_joined {X = X} {slot = slot} {amount = amount} rows r x y lt same more = record {
  held = (let len = length-set rows r y in omega (arith, lt, len));
  slot_is = λ d. ap slot (get_or-set_same rows r y d lt) ∙ same;
  enough = λ d. subst (λ (z : X). amount x ≤ amount z) (sym (get_or-set_same rows r y d lt)) more;
}

-- ---- a row is added

pub more_added : {X : Type 0} {slot amount : X → ℕ} (rows : List X) (x : X) → AreMore slot amount rows (rows ++ x ∷ [])
more_added {X = X} {slot = slot} {amount = amount} rows x = record {
  len = (let len = length-append rows (x ∷ []) in omega (arith, len));
  slot_is = λ i d low. ap slot (get_or_append_left rows (x ∷ []) d i low);
  enough = λ i d low. subst (λ (z : X). amount (get_or rows i d) ≤ amount z) (sym (get_or_append_left rows (x ∷ []) d i low)) (omega arith);
}

some_added : {X : Type 0} (slot : X → ℕ) (rows : List X) (x : X) (t : ℕ) (o : Option ℕ) → IfSome o (λ r. (r < length rows) × ((d : X) → slot (get_or rows r d) ≡ t)) → IfSome o (λ r. (r < length (rows ++ x ∷ [])) × ((d : X) → slot (get_or (rows ++ x ∷ []) r d) ≡ t))
some_added slot rows x t None h = h
some_added slot rows x t (Some r) h = (let held = h.0 in let len = length-append rows (x ∷ []) in omega (arith, held, len), λ d. ap slot (get_or_append_left rows (x ∷ []) d r h.0) ∙ h.1 d)

pub table_added : {X : Type 0} {slot : X → ℕ} {table : List (Option ℕ)} {rows : List X} (x : X) → slot x < length table → get_or table (slot x) None ≡ None → IsRowTable slot table rows → IsRowTable slot (set table (slot x) (Some (length rows))) (rows ++ x ∷ [])
table_added {X = X} {slot = slot} {table = table} {rows = rows} x lt none h = record {
  each = λ t low. elim (cases_eq t (slot x)) [
    | inl here ↦
        subst (λ (o : Option ℕ). IfSome o (λ r. (r < length (rows ++ x ∷ [])) × ((d : X) → slot (get_or (rows ++ x ∷ []) r d) ≡ t))) (sym (ap (λ (k : ℕ). get_or (set table (slot x) (Some (length rows))) k None) here ∙ get_or-set_same table (slot x) (Some (length rows)) None lt))
        (let len = length-append rows (x ∷ []) in omega (arith, len), λ d. ap slot (get_or-append_seam rows x [] d) ∙ sym here)
    | inr other ↦
        let inside : t < length table = (let len = length-set table (slot x) (Some (length rows)) in omega (arith, low, len)) in
        subst (λ (o : Option ℕ). IfSome o (λ r. (r < length (rows ++ x ∷ [])) × ((d : X) → slot (get_or (rows ++ x ∷ []) r d) ≡ t))) (sym (get_or-set_other table (slot x) t (Some (length rows)) None other))
        (some_added slot rows x t (get_or table t None) (h.each t inside))
  ];
  listed = λ r d low. elim (cases_lt r (length rows)) [
    | inl before ↦
        let s = slot (get_or rows r d) in
        let old : get_or table s None ≡ Some r = h.listed r d before in
        ap (λ (y : X). get_or (set table (slot x) (Some (length rows))) (slot y) None) (get_or_append_left rows (x ∷ []) d r before)
        ∙ (get_or-set_other table (slot x) s (Some (length rows)) None (λ same. differ r (sym old ∙ (ap (λ (t : ℕ). get_or table t None) same ∙ none))) ∙ old)
    | inr past ↦
        let last : r ≡ length rows = (let len = length-append rows (x ∷ []) in omega (arith, low, past, len)) in
        subst (λ (k : ℕ). get_or (set table (slot x) (Some (length rows))) (slot (get_or (rows ++ x ∷ []) k d)) None ≡ Some k) (sym last)
        (ap (λ (y : X). get_or (set table (slot x) (Some (length rows))) (slot y) None) (get_or-append_seam rows x [] d) ∙ get_or-set_same table (slot x) (Some (length rows)) None lt)
  ];
}
  where
    differ : (a : ℕ) → Some a ≡ None → ⊥
    differ a e = cc

pub served_added : {X : Type 0} {slot amount : X → ℕ} (rows : List X) (x : X) → IsServed slot amount x (rows ++ x ∷ []) (length rows)
served_added {slot = slot} {amount = amount} rows x = record {
  held = (let len = length-append rows (x ∷ []) in omega (arith, len));
  slot_is = λ d. ap slot (get_or-append_seam rows x [] d);
  enough = λ d. (let e = ap amount (get_or-append_seam rows x [] d) in omega (arith, e));
}

-- ---- who asks

served_more : {X : Type 0} {slot amount : X → ℕ} {x : X} {olds news : List X} {r : ℕ} → AreMore slot amount olds news → IsServed slot amount x olds r → IsServed slot amount x news r
served_more {r = r} m h = record {
  held = (let held = h.held in let len = m.len in omega (arith, held, len));
  slot_is = λ d. m.slot_is r d h.held ∙ h.slot_is d;
  enough = λ d. (let old = h.enough d in let now = m.enough r d h.held in omega (arith, old, now));
}

pub have_none : {X : Type 0} (slot amount : X → ℕ) (asked : List X) → HaveRows slot amount asked 0 [] []
have_none slot amount asked = record { len = refl; each = λ i d low. absurd (omega (arith, low)) }

pub have_more : {X : Type 0} {slot amount : X → ℕ} {asked : List X} {n : ℕ} {row_of : List ℕ} {olds news : List X} (x : X) (r : ℕ) → n < length asked → x ≡ get_or asked n x → AreMore slot amount olds news → IsServed slot amount x news r
    → HaveRows slot amount asked n row_of olds → HaveRows slot amount asked (n + 1) (row_of ++ r ∷ []) news
have_more {X = X} {slot = slot} {amount = amount} {asked = asked} {n = n} {row_of = row_of} {news = news} x r lt is m now h = record {
  len = (let len = h.len in omega (arith, len, length-append row_of (r ∷ [])));
  each = λ i d low. elim (cases_lt i n) [
    | inl before ↦
        let len = h.len in
        subst (λ (k : ℕ). IsServed slot amount (get_or asked i d) news k) (sym (get_or_append_left row_of (r ∷ []) 0 i (omega (arith, before, len)))) (served_more m (h.each i d before))
    | inr past ↦
        let len = h.len in
        let last : i ≡ n = omega (arith, low, past) in
        subst (λ (k : ℕ). IsServed slot amount (get_or asked k d) news (get_or (row_of ++ r ∷ []) k 0)) (sym last)
        (subst (λ (k : ℕ). IsServed slot amount (get_or asked n d) news (get_or (row_of ++ r ∷ []) k 0)) len
        (subst (λ (k : ℕ). IsServed slot amount (get_or asked n d) news k) (sym (get_or-append_seam row_of r [] 0))
        (subst (λ (y : X). IsServed slot amount y news r) (is ∙ get_or_default asked n x d lt) now)))
  ];
}

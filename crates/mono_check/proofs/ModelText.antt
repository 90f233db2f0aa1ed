-- Lines without a fault are `v` lines with a literal over each variable and the ending 0, and those are without a fault.
use Rattle.std.proofs.Common.{◌≡◌, ℕ, ◌≤◌, Bool, true, false, not, ◌&&◌, ◌||◌, ◌==◌, List, [], ◌∷◌, ◌++◌, map, length, Option, Some, None, option_map, refl, sym, ap, subst, ◌∙◌, inl, inr, ℤ, pos, append_assoc, append-nil, arith}
use Rattle.std.specs.Prelude.{IsTrue, nat_lt, flat_map, if◌then◌else◌}
use Rattle.std.specs.Option.{option_or}
use Rattle.std.proofs.lemmas.Bool.{eqb-true, ltb-false, le-ltb, or_left, or_right, or_parts}
use Rattle.std.proofs.lemmas.List.Folds.{list_any-append}
use Rattle.mono_problem.specs.Instance.{Instance}
use Rattle.mono_answer.specs.declared.item.Item.{Item}
use Rattle.mono_answer.specs.declared.item.Item.TheVariants as says
use Rattle.mono_check.specs.declared.reason.Reason.{Reason}
use Rattle.mono_check.specs.declared.reason.Reason.TheVariants as reason
use Rattle.mono_check.specs.Lines.{first_fault}
use Rattle.mono_check.specs.Values.{are_values, is_end, literals_among, has_end, goes_on, passes_end, value_fault, model_line_fault, lits_in, ends_in, literals_in, has_ended}
use Rattle.mono_check.specs.Answers.{values_item}
use Rattle.mono_check.proofs.SeenMore.{literals_more, unmapped, both_none}
use Rattle.mono_check.proofs.ValueFaults.{no_fault}
use Rattle.mono_check.proofs.ValueRows.{IsOpenRow, IsLastRow, IsFront, IsWhole, row_shape, open_stops, last_ends, last_among, last_stops, split_row, none_among, values-front}

-- ---- lines after lines, by what was said before

-- no line has a fault behind these literals, and maybe behind the ending 0
abbrev pub AreFaultless : Instance → List ℤ → Bool → List (ℕ × Option Item) → Type 0
AreFaultless p lits ended [] = Unit {0}
AreFaultless p lits ended (l ∷ ls) = (value_fault p lits ended l.1 ≡ None) × AreFaultless p (lits ++ lits_in l.1) (ended || ends_in l.1) ls

ended_more : (before : List (ℕ × Option Item)) (n : ℕ) (i : Option Item) → (has_ended before || ends_in i) ≡ has_ended (before ++ (n, i) ∷ [])
ended_more before n i = ap (λ (b : Bool). has_ended before || b) (or_none (ends_in i)) ∙ sym (list_any-append (λ (l : ℕ × Option Item). ends_in l.1) before ((n, i) ∷ []))
  where
    or_none : (b : Bool) → b ≡ (b || false)
    or_none true = refl
    or_none false = refl

pub to_faultless : (p : Instance) (before ls : List (ℕ × Option Item)) → first_fault (model_line_fault p) before ls ≡ None → AreFaultless p (literals_in before) (has_ended before) ls
to_faultless p before [] h = tt
to_faultless p before ((n, i) ∷ ls) h =
    let a = both_none (option_map (λ (r : Reason). (n, r)) (model_line_fault p before i)) (first_fault (model_line_fault p) (before ++ (n, i) ∷ []) ls) h in
    let rest = to_faultless p (before ++ (n, i) ∷ []) ls a.1 in (
      unmapped (λ (r : Reason). (n, r)) (model_line_fault p before i) a.0,
      subst (λ (xs : List ℤ). AreFaultless p xs (has_ended before || ends_in i) ls) (sym (literals_more before n i))
          (subst (λ (b : Bool). AreFaultless p (literals_in (before ++ (n, i) ∷ [])) b ls) (sym (ended_more before n i)) rest),
    )

pub from_faultless : (p : Instance) (before ls : List (ℕ × Option Item)) → AreFaultless p (literals_in before) (has_ended before) ls → first_fault (model_line_fault p) before ls ≡ None
from_faultless p before [] h = refl
from_faultless p before ((n, i) ∷ ls) h =
    ap (λ (o : Option Reason). option_or (option_map (λ (r : Reason). (n, r)) o) (first_fault (model_line_fault p) (before ++ (n, i) ∷ []) ls)) h.0
    ∙ from_faultless p (before ++ (n, i) ∷ []) ls
    (subst (λ (b : Bool). AreFaultless p (literals_in (before ++ (n, i) ∷ [])) b ls) (ended_more before n i)
    (subst (λ (xs : List ℤ). AreFaultless p xs (has_ended before || ends_in i) ls) (literals_more before n i) h.1))

-- ---- one line

record IsRight (p : Instance) (lits : List ℤ) (ended : Bool) (zs : List ℤ) : Type 0 where
  stops : passes_end ended zs ≡ false
  values : IsTrue (are_values p (lits ++ literals_among zs))
  full : (has_end zs && nat_lt (length (lits ++ literals_among zs)) p.vars) ≡ false

right_line : (p : Instance) (lits : List ℤ) (ended : Bool) (zs : List ℤ) → value_fault p lits ended (Some (says.Values zs)) ≡ None → IsRight p lits ended zs
right_line p lits ended zs h = by_tests (passes_end ended zs) (are_values p (lits ++ literals_among zs)) (has_end zs && nat_lt (length (lits ++ literals_among zs)) p.vars) refl refl refl h
  where
    by_tests : (a b c : Bool) → passes_end ended zs ≡ a → are_values p (lits ++ literals_among zs) ≡ b → (has_end zs && nat_lt (length (lits ++ literals_among zs)) p.vars) ≡ c
        → ◌≡◌ {A = Option Reason} (if a then Some reason.BadLine else if not b || c then Some reason.ModelVariables else None) None → IsRight p lits ended zs
    by_tests true b c e f g k = absurd cc
    by_tests false true true e f g k = absurd cc
    by_tests false true false e f g k = record { stops = e; values = f; full = g }
    by_tests false false c e f g k = absurd cc

-- ---- from lines without a fault

-- empty `v` lines
record AreEmpty (ls : List (ℕ × Option Item)) : Type 0 where
  rows : List (List ℤ)
  alone : map (λ (l : ℕ × Option Item). l.1) ls ≡ map values_item rows
  numbers : flat_map (λ (zs : List ℤ). zs) rows ≡ []
  lits : literals_in ls ≡ []

empty_after : (p : Instance) (lits : List ℤ) (ls : List (ℕ × Option Item)) → AreFaultless p lits true ls → AreEmpty ls
empty_after p lits [] h = record { rows = []; alone = refl; numbers = refl; lits = refl }
empty_after p lits ((n, None) ∷ ls) h = absurd (let e : ◌≡◌ {A = Option Reason} (Some reason.BadLine) None = h.0 in cc)
empty_after p lits ((n, Some (says.Status k)) ∷ ls) h = absurd (let e : ◌≡◌ {A = Option Reason} (Some reason.BadLine) None = h.0 in cc)
empty_after p lits ((n, Some (says.Step s)) ∷ ls) h = absurd (let e : ◌≡◌ {A = Option Reason} (Some reason.BadLine) None = h.0 in cc)
empty_after p lits ((n, Some (says.Values [])) ∷ ls) h =
    let rest = empty_after p (lits ++ []) ls h.1 in
    record { rows = [] ∷ rest.rows; alone = ap (λ (is : List (Option Item)). Some (says.Values []) ∷ is) rest.alone; numbers = rest.numbers; lits = rest.lits }
empty_after p lits ((n, Some (says.Values (z ∷ zs))) ∷ ls) h = absurd (some (length (z ∷ zs) == 0) refl (or_parts (not (length (z ∷ zs) == 0)) (goes_on (z ∷ zs)) (right_line p lits true (z ∷ zs) h.0).stops).0)
  where
    some : (b : Bool) → (length (z ∷ zs) == 0) ≡ b → not b ≡ false → ⊥
    some true e k = absurd (let none : length (z ∷ zs) ≡ 0 = eqb-true (length (z ∷ zs)) 0 e in omega (arith, none))
    some false e k = cc

-- behind these literals come these, and then the ending 0
pub record AreEnded (p : Instance) (before : List ℤ) (ls : List (ℕ × Option Item)) : Type 0 where
  pub rows : List (List ℤ)
  pub lits : List ℤ
  pub alone : map (λ (l : ℕ × Option Item). l.1) ls ≡ map values_item rows
  pub numbers : flat_map (λ (zs : List ℤ). zs) rows ≡ lits ++ pos 0 ∷ []
  pub all : literals_in ls ≡ lits
  pub values : IsTrue (are_values p (before ++ lits))
  pub full : p.vars ≤ length (before ++ lits)

pub to_rows : (p : Instance) (before : List ℤ) (ls : List (ℕ × Option Item)) → AreFaultless p before false ls → IsTrue (has_ended ls) → AreEnded p before ls
to_rows p before [] h e = absurd cc
to_rows p before ((n, None) ∷ ls) h e = absurd (let f : ◌≡◌ {A = Option Reason} (Some reason.BadLine) None = h.0 in cc)
to_rows p before ((n, Some (says.Status k)) ∷ ls) h e = absurd (let f : ◌≡◌ {A = Option Reason} (Some reason.BadLine) None = h.0 in cc)
to_rows p before ((n, Some (says.Step s)) ∷ ls) h e = absurd (let f : ◌≡◌ {A = Option Reason} (Some reason.BadLine) None = h.0 in cc)
to_rows p before ((n, Some (says.Values zs)) ∷ ls) h e =
    let right = right_line p before false zs h.0 in
    elim (row_shape zs right.stops) [
      | inl o ↦ further o (to_rows p (before ++ literals_among zs) ls (subst (λ (b : Bool). AreFaultless p (before ++ literals_among zs) b ls) o.none h.1) (sym (ap (λ (b : Bool). b || has_ended ls) o.none) ∙ e))
      | inr l ↦ last right l (empty_after p (before ++ literals_among zs) ls (subst (λ (b : Bool). AreFaultless p (before ++ literals_among zs) b ls) l.end h.1))
    ]
  where
    further : IsOpenRow zs → AreEnded p (before ++ literals_among zs) ls → AreEnded p before ((n, Some (says.Values zs)) ∷ ls)
    further o r =
        let same : (before ++ literals_among zs) ++ r.lits ≡ before ++ (zs ++ r.lits) = ap (λ (xs : List ℤ). (before ++ xs) ++ r.lits) o.same ∙ append_assoc before zs r.lits in
        record {
          rows = zs ∷ r.rows;
          lits = zs ++ r.lits;
          alone = ap (λ (is : List (Option Item)). Some (says.Values zs) ∷ is) r.alone;
          numbers = ap (λ (ys : List ℤ). zs ++ ys) r.numbers ∙ sym (append_assoc zs r.lits (pos 0 ∷ []));
          all = ap (λ (xs : List ℤ). xs ++ literals_in ls) o.same ∙ ap (λ (ys : List ℤ). zs ++ ys) r.all;
          values = subst (λ (xs : List ℤ). IsTrue (are_values p xs)) same r.values;
          full = subst (λ (xs : List ℤ). p.vars ≤ length xs) same r.full;
        }

    last : IsRight p before false zs → IsLastRow zs → AreEmpty ls → AreEnded p before ((n, Some (says.Values zs)) ∷ ls)
    last right l r =
        let off : nat_lt (length (before ++ literals_among zs)) p.vars ≡ false = sym (ap (λ (b : Bool). b && nat_lt (length (before ++ literals_among zs)) p.vars) l.end) ∙ right.full in
        record {
          rows = zs ∷ r.rows;
          lits = l.lits;
          alone = ap (λ (is : List (Option Item)). Some (says.Values zs) ∷ is) r.alone;
          numbers = ap (λ (ys : List ℤ). zs ++ ys) r.numbers ∙ (append-nil zs ∙ l.is);
          all = ap (λ (xs : List ℤ). xs ++ literals_in ls) l.same ∙ (ap (λ (ys : List ℤ). l.lits ++ ys) r.lits ∙ append-nil l.lits);
          values = subst (λ (xs : List ℤ). IsTrue (are_values p (before ++ xs))) l.same right.values;
          full = subst (λ (xs : List ℤ). p.vars ≤ length (before ++ xs)) l.same (ltb-false (length (before ++ literals_among zs)) p.vars off);
        }

-- ---- to lines without a fault

pub record AreFine (p : Instance) (before lits : List ℤ) (ended : Bool) (ls : List (ℕ × Option Item)) : Type 0 where
  pub faultless : AreFaultless p before ended ls
  pub end : (ended || has_ended ls) ≡ true
  pub all : literals_in ls ≡ lits

fine_after : (p : Instance) (before : List ℤ) (rows : List (List ℤ)) (ls : List (ℕ × Option Item)) → map (λ (l : ℕ × Option Item). l.1) ls ≡ map values_item rows → flat_map (λ (zs : List ℤ). zs) rows ≡ []
    → IsTrue (are_values p before) → AreFine p before [] true ls
fine_after p before [] [] a e v = record { faultless = tt; end = refl; all = refl }
fine_after p before [] (l ∷ ls) a e v = absurd cc
fine_after p before (zs ∷ rows) [] a e v = absurd cc
fine_after p before ((z ∷ zs) ∷ rows) (l ∷ ls) a e v = absurd cc
fine_after p before ([] ∷ rows) ((n, i) ∷ ls) a e v =
    let head : i ≡ Some (says.Values []) = cc in
    let tail : map (λ (l : ℕ × Option Item). l.1) ls ≡ map values_item rows = cc in
    let same : IsTrue (are_values p (before ++ [])) = subst (λ (xs : List ℤ). IsTrue (are_values p xs)) (sym (append-nil before)) v in
    let rest = fine_after p (before ++ []) rows ls tail e same in
    subst (λ (k : Option Item). AreFine p before [] true ((n, k) ∷ ls)) (sym head)
    (record { faultless = (sym (no_fault p before true [] refl same refl), rest.faultless); end = refl; all = rest.all })

pub from_rows : (p : Instance) (before lits : List ℤ) (rows : List (List ℤ)) (ls : List (ℕ × Option Item)) → map (λ (l : ℕ × Option Item). l.1) ls ≡ map values_item rows → flat_map (λ (zs : List ℤ). zs) rows ≡ lits ++ pos 0 ∷ []
    → has_end lits ≡ false → IsTrue (are_values p (before ++ lits)) → p.vars ≤ length (before ++ lits) → AreFine p before lits false ls
from_rows p before [] [] ls a e none v full = absurd cc
from_rows p before (l ∷ lits) [] ls a e none v full = absurd cc
from_rows p before lits (zs ∷ rows) [] a e none v full = absurd cc
from_rows p before lits (zs ∷ rows) ((n, i) ∷ ls) a e none v full =
    let head : i ≡ Some (says.Values zs) = cc in
    let tail : map (λ (l : ℕ × Option Item). l.1) ls ≡ map values_item rows = cc in
    subst (λ (k : Option Item). AreFine p before lits false ((n, k) ∷ ls)) (sym head)
    (elim (split_row zs (flat_map (λ (ys : List ℤ). ys) rows) lits e) [
      | inl f ↦
          let parts = or_parts (has_end zs) (has_end f.more) (sym (list_any-append is_end zs f.more) ∙ (ap has_end (sym f.lits_are) ∙ none)) in
          let among = none_among zs parts.0 in
          let same : before ++ lits ≡ (before ++ literals_among zs) ++ f.more = ap (λ (xs : List ℤ). before ++ xs) f.lits_are ∙ (sym (append_assoc before zs f.more) ∙ ap (λ (xs : List ℤ). (before ++ xs) ++ f.more) (sym among)) in
          further parts.0 f (from_rows p (before ++ literals_among zs) f.more rows ls tail f.rest_is parts.1 (subst (λ (xs : List ℤ). IsTrue (are_values p xs)) same v) (subst (λ (xs : List ℤ). p.vars ≤ length xs) same full))
          (values-front p (before ++ literals_among zs) f.more (subst (λ (xs : List ℤ). IsTrue (are_values p xs)) same v))
      | inr w ↦
          let among : literals_among zs ≡ lits = ap literals_among w.row ∙ last_among lits none in
          let there : IsTrue (are_values p (before ++ literals_among zs)) = subst (λ (xs : List ℤ). IsTrue (are_values p (before ++ xs))) (sym among) v in
          last w among (ap has_end w.row ∙ last_ends lits) there (fine_after p (before ++ literals_among zs) rows ls tail w.rest_is there)
    ])
  where
    further : has_end zs ≡ false → (f : IsFront zs (flat_map (λ (ys : List ℤ). ys) rows) lits) → AreFine p (before ++ literals_among zs) f.more false ls → IsTrue (are_values p (before ++ literals_among zs)) → AreFine p before lits false ((n, Some (says.Values zs)) ∷ ls)
    further off f r front = record {
      faultless = (sym (no_fault p before false zs (open_stops zs off) front (ap (λ (b : Bool). b && nat_lt (length (before ++ literals_among zs)) p.vars) off)), subst (λ (b : Bool). AreFaultless p (before ++ literals_among zs) b ls) (sym off) r.faultless);
      end = or_right (has_end zs) (has_ended ls) r.end;
      all = ap (λ (xs : List ℤ). xs ++ literals_in ls) (none_among zs off) ∙ (ap (λ (ys : List ℤ). zs ++ ys) r.all ∙ sym f.lits_are);
    }

    last : IsWhole zs (flat_map (λ (ys : List ℤ). ys) rows) lits → literals_among zs ≡ lits → has_end zs ≡ true → IsTrue (are_values p (before ++ literals_among zs)) → AreFine p (before ++ literals_among zs) [] true ls → AreFine p before lits false ((n, Some (says.Values zs)) ∷ ls)
    last w among on there r =
        let stops : passes_end false zs ≡ false = subst (λ (ys : List ℤ). passes_end false ys ≡ false) (sym w.row) (last_stops lits none) in
        let enough : nat_lt (length (before ++ literals_among zs)) p.vars ≡ false = le-ltb (length (before ++ literals_among zs)) p.vars (subst (λ (xs : List ℤ). p.vars ≤ length (before ++ xs)) (sym among) full) in
        record {
          faultless = (sym (no_fault p before false zs stops there (ap (λ (b : Bool). b && nat_lt (length (before ++ literals_among zs)) p.vars) on ∙ enough)), subst (λ (b : Bool). AreFaultless p (before ++ literals_among zs) b ls) (sym on) r.faultless);
          end = or_left (has_end zs) (has_ended ls) on;
          all = ap (λ (xs : List ℤ). xs ++ literals_in ls) among ∙ (ap (λ (ys : List ℤ). lits ++ ys) r.all ∙ append-nil lits);
        }

-- Where the places of each literal stand, as literals come and go.
use Rattle.std.proofs.Common.{◌≡◌, ℕ, ◌<◌, ◌≤◌, List, [], ◌∷◌, ◌++◌, length, take, get_or, refl, sym, ap, subst, ◌∙◌, inl, inr, arith, ℤ, pos, length-append}
use Rattle.std.specs.Prelude.{IsTrue}
use Rattle.std.proofs.lemmas.Bool.{cases_lt}
use Rattle.std.proofs.lemmas.List.{get_or_append_left, get_or_default, get_or-take, length-take-le}
use Rattle.std.proofs.Math.Seq.{get_or-append_seam}
use Rattle.mono_base.specs.Literal.{is_lit, var_of}
use Rattle.mono_bounds.specs.declared.span.Span.{Span}
use Rattle.mono_bounds.specs.Bound.{Bound, assigned, IsBoundUnder}
use Rattle.mono_bounds.specs.Index.{ArePlacesOf, IsSpanOf, within}
use Rattle.mono_bounds.specs.SeenBounds.{SeenBound, AreSpansOf, IsSeenBound, no_span, span_at}
use Rattle.mono_bounds.proofs.BoundsStay.{assigned_is_bound, bound_is_one, by_same_vars}

-- ---- where the places stand

-- no literal
pub spans_of_none : (b : Bound) → AreSpansOf b [] []
spans_of_none b = record { len = refl; each = λ i l lt at. absurd (omega (arith, lt)) }

-- one more literal
pub spans-push : {b : Bound} {t : List ℤ} {spans : List Span} (l : ℤ) (s : Span) → IsSpanOf b.vars b.places (var_of l) s → AreSpansOf b t spans → AreSpansOf b (t ++ l ∷ []) (spans ++ s ∷ [])
spans-push {b = b} {t = t} {spans = spans} l s its h = record {
  len = omega (arith, length-append spans (s ∷ []), length-append t (l ∷ []), h.len);
  each = λ i m lt at. elim (cases_lt i (length t)) [
    | inl low ↦
        subst (λ (x : Span). IsSpanOf b.vars b.places (var_of m) x) (sym (get_or_append_left spans (s ∷ []) no_span i (omega (arith, low, h.len))))
        (h.each i m low (sym (get_or_append_left t (l ∷ []) m i low) ∙ at))
    | inr ge ↦ (
        let last : i ≡ length t = omega (arith, ge, lt, length-append t (l ∷ [])) in
        let mine : m ≡ l = sym at ∙ ap (λ j. get_or (t ++ l ∷ []) j m) last ∙ get_or-append_seam t l [] m in
        let there : span_at (spans ++ s ∷ []) i ≡ s = ap (λ j. get_or (spans ++ s ∷ []) j no_span) (last ∙ sym h.len) ∙ get_or-append_seam spans s [] no_span in
        subst (λ (x : Span). IsSpanOf b.vars b.places (var_of m) x) (sym there) (subst (λ (n : ℤ). IsSpanOf b.vars b.places (var_of n) s) (sym mine) its))
  ];
}

-- the first literals
pub spans-take : {b : Bound} {t : List ℤ} {spans : List Span} (k : ℕ) → k ≤ length t → AreSpansOf b t spans → AreSpansOf b (take k t) (take k spans)
spans-take {b = b} {t = t} {spans = spans} k le h = record {
  len = length-take-le k spans (omega (arith, le, h.len)) ∙ sym (length-take-le k t le);
  each = λ i m lt at.
      let low : i < k = omega (arith, lt, length-take-le k t le) in
      subst (λ (x : Span). IsSpanOf b.vars b.places (var_of m) x) (sym (get_or-take k spans i no_span low))
      (h.each i m (omega (arith, low, le)) (sym (get_or-take k t i m low) ∙ at));
}

-- the bounds have others parts over the same places
pub spans_over : {b c : Bound} {t : List ℤ} {spans : List Span} → c.vars ≡ b.vars → c.places ≡ b.places → AreSpansOf b t spans → AreSpansOf c t spans
spans_over {b = b} {c = c} {spans = spans} vars places h = record {
  len = h.len;
  each = λ i l lt at.
      subst (λ (vs : List ℕ). IsSpanOf vs c.places (var_of l) (span_at spans i)) (sym vars) (subst (λ (ks : List ℕ). IsSpanOf b.vars ks (var_of l) (span_at spans i)) (sym places) (h.each i l lt at));
}

-- ---- the bounds with them

pub seen_pushed : (s s' : SeenBound) (vs : List ℕ) (t : List ℤ) (l : ℤ) (x : Span) → IsTrue (is_lit l) → IsSpanOf s.bound.vars s.bound.places (var_of l) x → s'.bound ≡ assigned s.bound l → s'.spans ≡ s.spans ++ x ∷ []
    → IsSeenBound s vs t → IsSeenBound s' vs (t ++ l ∷ [])
seen_pushed s s' vs t l x lit its bound spans h = record {
  bound = subst (λ (b : Bound). IsBoundUnder b vs (t ++ l ∷ [])) (sym bound) (assigned_is_bound s.bound vs t l lit h.bound);
  spans =
      subst (λ (xs : List Span). AreSpansOf s'.bound (t ++ l ∷ []) xs) (sym spans)
      (spans_over {c = s'.bound} (ap (λ (b : Bound). b.vars) bound) (ap (λ (b : Bound). b.places) bound) (spans-push l x its h.spans));
}

pub seen_cut : (s s' : SeenBound) (vs : List ℕ) (t : List ℤ) (k : ℕ) → k ≤ length t → IsBoundUnder s'.bound s.bound.vars (take k t) → s'.bound.places ≡ s.bound.places → s'.spans ≡ take k s.spans
    → IsSeenBound s vs t → IsSeenBound s' vs (take k t)
seen_cut s s' vs t k le bound places spans h = record {
  bound = by_same_vars h.bound bound;
  spans = subst (λ (xs : List Span). AreSpansOf s'.bound (take k t) xs) (sym spans) (spans_over {c = s'.bound} bound.vars places (spans-take k le h.spans));
}

-- the places of a literal of the list
pub seen_places : {s : SeenBound} {vs : List ℕ} {t : List ℤ} (i : ℕ) → i < length t → IsSeenBound s vs t → ArePlacesOf vs (var_of (get_or t i (pos 0))) (within s.bound.places (span_at s.spans i))
seen_places {s = s} {t = t} i lt h = subst (λ (ws : List ℕ). ArePlacesOf ws (var_of (get_or t i (pos 0))) (within s.bound.places (span_at s.spans i))) h.bound.vars (h.spans.each i (get_or t i (pos 0)) lt (get_or_default t i (get_or t i (pos 0)) (pos 0) lt)).places

pub seen_fits : {s : SeenBound} {vs : List ℕ} {t : List ℤ} (i : ℕ) → i < length t → IsSeenBound s vs t → (span_at s.spans i).end ≤ length s.bound.places
seen_fits {t = t} i lt h = (h.spans.each i (get_or t i (pos 0)) lt (get_or_default t i (get_or t i (pos 0)) (pos 0) lt)).fits

-- bounds that went back and came again are what they were
abbrev made : Bound → List Span → ℕ → SeenBound
made b xs n = record { bound = b; spans = xs; cells = n }

pub seen_is_one : (s s' : SeenBound) (vs : List ℕ) (t : List ℤ) → s'.bound.places ≡ s.bound.places → s'.spans ≡ s.spans → s'.cells ≡ s.cells → IsBoundUnder s.bound vs t → IsBoundUnder s'.bound vs t → s' ≡ s
seen_is_one s s' vs t places spans cells h k =
    ap (λ b. made b s'.spans s'.cells) (bound_is_one s.bound s'.bound vs t places h k) ∙ ap (λ xs. made s.bound xs s'.cells) spans ∙ ap (made s.bound s.spans) cells

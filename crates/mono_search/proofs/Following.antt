-- How the store goes on following the trail where a search settles late reasons.
use Rattle.std.proofs.Common.{◌≡◌, ℕ, ◌<◌, List, length, sym, ap, subst, ◌∙◌, inl, inr, arith}
use Rattle.std.specs.Prelude.{ℤ}
use Rattle.mono_base.specs.Literal.{lit_at}
use Rattle.mono_trail.specs.Places.{level_at}
use Rattle.mono_trail.specs.TrailView.{TrailView}
use Rattle.mono_clauses.specs.Store.{StoreView, no_clauses, IsTrueBy, Follows, FollowsBelow}
use Rattle.mono_learn.specs.Settled.{Settles}
use Rattle.mono_clauses.proofs.FollowsKept.{follows_new}

-- what follows, follows below
pub following_goes_below : (s : StoreView) (t : TrailView) → Follows s t → FollowsBelow s t
following_goes_below s t f = record {
  vars = f.vars;
  at = λ w a b x y p lt is low. elim ((f.at w a b x y).at p lt is) [
    | inl by ↦ by
    | inr late ↦ absurd (omega (arith, late.1, low))
  ];
  alone = f.alone;
}

by-settled : (cs : List (List ℤ)) (t u : TrailView) (b : ℤ) (n : ℕ) → Settles cs t u → IsTrueBy t b n → IsTrueBy u b n
by-settled cs t u b n s i = record {
  place = i.place;
  within = subst (λ (ls : List ℤ). i.place < length ls) (sym s.lits) i.within;
  there = ap (λ (ls : List ℤ). lit_at ls i.place) s.lits ∙ i.there;
  low = omega (arith, i.low, s.levels i.place);
}

pub settling_keeps_below : (cs : List (List ℤ)) (v : StoreView) (t u : TrailView) → Settles cs t u → FollowsBelow v t → FollowsBelow v u
settling_keeps_below cs v t u s f = record {
  vars = f.vars ∙ sym s.vars;
  at = λ w a b x y p lt is low.
      let by = f.at w a b x y p (subst (λ (ls : List ℤ). p < length ls) s.lits lt) (ap (λ (ls : List ℤ). lit_at ls p) (sym s.lits) ∙ is) (omega (arith, s.levels p, s.level, low)) in
      subst (λ (n : ℕ). IsTrueBy u b n) (sym (s.levels p)) (by-settled cs t u b (level_at t.marks p) s by);
  alone = λ w a x y. by-settled cs t u a 0 s (f.alone w a x y);
}

pub new_follows : (s : StoreView) (t : TrailView) (n : ℕ) → s ≡ no_clauses n → n ≡ t.vars → Follows s t
new_follows s t n e v = subst (λ (r : StoreView). Follows r t) (sym e) (subst (λ (m : ℕ). Follows (no_clauses m) t) (sym v) (follows_new t))

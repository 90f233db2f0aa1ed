-- The theories for which something is counted are listed.
use Rattle.std.proofs.Common.{◌≡◌, ◌∙◌, ℕ, zero, suc, ◌<◌, Bool, true, false, List, get_or, set, length, refl, ap, subst, inl, inr, arith}
use Rattle.std.specs.Prelude.{replicate}
use Rattle.std.proofs.lemmas.Bool.{cases_eq}
use Rattle.std.proofs.lemmas.List.{length-set, get_or-set_same, get_or-set_other}
use Rattle.mono_search.specs.TheoryLists.{AreListed}

pub listed_more : (counts : List ℕ) (before listed : List Bool) (p n : ℕ) → p < length counts → length counts ≡ length listed → AreListed counts before listed → AreListed (set counts p n) before (set listed p true)
listed_more counts before listed p n lt same a = record {
  as_many = length-set listed p true ∙ a.as_many;
  stay = λ q on. elim (cases_eq q p) [
    | inl e ↦ marked q e
    | inr ne ↦ get_or-set_other listed p q true false ne ∙ a.stay q on
  ];
  counted = λ q some. elim (cases_eq q p) [
    | inl e ↦ marked q e
    | inr ne ↦ get_or-set_other listed p q true false ne ∙ a.counted q (subst (λ m. 0 < m) (get_or-set_other counts p q n 0 ne) some)
  ];
}
  where
    marked : (q : ℕ) → q ≡ p → get_or (set listed p true) q false ≡ true
    marked q e = ap (λ r. get_or (set listed p true) r false) e ∙ get_or-set_same listed p true false (omega (arith, lt, same))

pub none_counted : (counts : List ℕ) (listed : List Bool) → ((p : ℕ) → get_or counts p 0 ≡ 0) → AreListed counts listed listed
none_counted counts listed none = record {
  as_many = refl;
  stay = λ p on. on;
  counted = λ p some. absurd (omega (arith, some, none p));
}

pub zero_at : (n p : ℕ) → (let x : ℕ = get_or (replicate n 0) p 0 in x ≡ 0)
zero_at zero p = refl
zero_at (suc n) zero = refl
zero_at (suc n) (suc p) = zero_at n p

-- One list more, and words more.
use Rattle.std.proofs.Common.{◌≡◌, ℕ, suc, ◌+◌, ◌*◌, ℤ, pos, List, [], ◌∷◌, ◌++◌, get_or, codes, refl, ap, sym, ◌∙◌, append_assoc, arith}
use Rattle.std.proofs.lemmas.List.{append-nil}
use Rattle.rand_pcg.specs.Lcg.{Lcg}
use Rattle.mono_gen.specs.Joined.{joined}
use Rattle.mono_gen.specs.Draws.{after, draw}
use Rattle.mono_gen.specs.Lines.{line, clause}
use Rattle.mono_gen.specs.Generated.{edge_text, drawn_literal, drawn_clause, drawn_clauses}

-- what is appended behind the first k lists
-- nothing yet
pub joined_none : {A : Type 0} (out : List A) (f : ℕ → List A) → out ≡ out ++ joined f 0
unfolding joined
joined_none out f = sym (append-nil out)

pub joined_more : {A : Type 0} (out : List A) (f : ℕ → List A) (k : ℕ) → (out ++ joined f k) ++ f k ≡ out ++ joined f (k + 1)
unfolding joined
joined_more out f k = append_assoc out (joined f k) (f k) ∙ (let e : suc k ≡ k + 1 = omega arith in ap (λ n. out ++ joined f n) e)

-- the next word behind k words
pub after_next : (k : ℕ) (g : Lcg) → after 1 (after k g) ≡ after (k + 1) g
unfolding after
after_next k g = let e : suc k ≡ k + 1 = omega arith in ap (λ n. after n g) e

pub after_second : (g : Lcg) → after 1 (after 1 g) ≡ after 2 g
unfolding after
after_second g = refl

pub after_fifth : (g : Lcg) → after 2 (after 2 (after 1 g)) ≡ after 5 g
unfolding after
after_fifth g = refl

pub after_third : (g : Lcg) → after 2 (after 1 g) ≡ after 3 g
unfolding after
after_third g = refl

-- five words behind k fives
pub after_five : (k : ℕ) (g : Lcg) → after 5 (after (5 * k) g) ≡ after (5 * (k + 1)) g
unfolding after
after_five k g = let e : suc (suc (suc (suc (suc (5 * k))))) ≡ 5 * (k + 1) = omega arith in ap (λ n. after n g) e

-- one edge line more
pub edge_more : (out here : List ℕ) (edges : List (ℕ × ℕ)) (g : Lcg) (k from to weight : ℕ) → from ≡ (get_or edges k (0, 0)).0 → to ≡ (get_or edges k (0, 0)).1 → weight ≡ 1 + draw 9 (after k g)
    → here ≡ out ++ joined (edge_text edges g) k → here ++ line (codes "edge") (0 ∷ from ∷ to ∷ (k + 1) ∷ weight ∷ []) ≡ out ++ joined (edge_text edges g) (k + 1)
edge_more out here edges g k from to weight f t w h =
    ap (λ (x : ℕ). here ++ line (codes "edge") (0 ∷ x ∷ to ∷ (k + 1) ∷ weight ∷ [])) f
    ∙ (ap (λ (x : ℕ). here ++ line (codes "edge") (0 ∷ (get_or edges k (0, 0)).0 ∷ x ∷ (k + 1) ∷ weight ∷ [])) t
    ∙ (ap (λ (x : ℕ). here ++ line (codes "edge") (0 ∷ (get_or edges k (0, 0)).0 ∷ (get_or edges k (0, 0)).1 ∷ (k + 1) ∷ x ∷ [])) w
    ∙ (ap (λ (x : List ℕ). x ++ edge_text edges g k) h
    ∙ joined_more out (edge_text edges g) k)))

-- three draws of literals are a drawn clause
pub three_draws : (edges : ℕ) (g g1 g2 : Lcg) (a b d : ℤ) → a ≡ pos (1 + draw edges g) → g1 ≡ after 1 g → b ≡ drawn_literal edges g1 → g2 ≡ after 2 g1 → d ≡ drawn_literal edges g2
    → ◌≡◌ {A = List ℤ} (a ∷ b ∷ d ∷ []) (drawn_clause edges g)
three_draws edges g g1 g2 a b d ha h1 hb h2 hd =
    ap (λ (x : ℤ). x ∷ b ∷ d ∷ []) ha
    ∙ (ap (λ (x : ℤ). pos (1 + draw edges g) ∷ x ∷ d ∷ []) (hb ∙ ap (λ (x : Lcg). drawn_literal edges x) h1)
    ∙ ap (λ (x : ℤ). pos (1 + draw edges g) ∷ drawn_literal edges (after 1 g) ∷ x ∷ []) (hd ∙ ap (λ (x : Lcg). drawn_literal edges x) (h2 ∙ (ap (λ (x : Lcg). after 2 x) h1 ∙ after_third g))))

-- one drawn clause more
pub clause_more : (out here : List ℕ) (edges : ℕ) (g g1 : Lcg) (k : ℕ) (lits : List ℤ) → lits ≡ drawn_clause edges g1 → g1 ≡ after (5 * k) g
    → here ≡ out ++ drawn_clauses edges g k → here ++ clause lits ≡ out ++ drawn_clauses edges g (k + 1)
clause_more out here edges g g1 k lits l h e =
    ap (λ (x : List ℤ). here ++ clause x) (l ∙ ap (λ (x : Lcg). drawn_clause edges x) h)
    ∙ (ap (λ (x : List ℕ). x ++ clause (drawn_clause edges (after (5 * k) g))) e
    ∙ joined_more out (λ j. clause (drawn_clause edges (after (5 * j) g))) k)

-- Lines put together: what is appended piece by piece is the line.
use Rattle.std.proofs.Common.{◌≡◌, ℕ, zero, suc, ◌+◌, ◌<◌, Bool, List, [], ◌∷◌, ◌++◌, length, get_or, take, map, flat_map, codes, decimal, ℤ, pos, true, false, refl, sym, ap, ◌∙◌, append_assoc, append-nil, arith}
use Rattle.std.specs.Fmt.{signed_decimal, digits}
use Rattle.std.proofs.lemmas.List.{flat_map_more, map-append, take_more}
use Rattle.mono_text.specs.Text.{spaced}
use Rattle.mono_graph.specs.declared.label.Label.{Label}
use Rattle.mono_graph.specs.declared.amount.Amount.{Amount}
use Rattle.mono_steps.specs.declared.step.Step.{Step}
use Rattle.mono_answer.specs.Behind.{behind}
use Rattle.mono_answer.specs.Versions.{turned, turned_steps}
use Rattle.mono_answer.specs.Printed.{numbers_text, with_zero, literals_from, literal_of, labels_text, amounts_text, step_line}

pub behind-append : (ts us : List (List ℕ)) → behind (ts ++ us) ≡ behind ts ++ behind us
behind-append [] us = refl
behind-append (t ∷ ts) us = ap (λ (s : List ℕ). (32 ∷ t) ++ s) (behind-append ts us) ∙ sym (append_assoc (32 ∷ t) (behind ts) (behind us))

spaced-behind : (t : List ℕ) (ts : List (List ℕ)) → t ++ (behind ts ++ 10 ∷ []) ≡ spaced (t ∷ ts)
spaced-behind t [] = refl
spaced-behind t (u ∷ us) = ap (λ (s : List ℕ). t ++ 32 ∷ s) (append_assoc u (behind us) (10 ∷ []) ∙ spaced-behind u us)

-- a token, tokens behind it, and a line feed
pub end_line : (out t : List ℕ) (ts : List (List ℕ)) → ((out ++ t) ++ behind ts) ++ 10 ∷ [] ≡ out ++ spaced (t ∷ ts)
end_line out t ts = append_assoc (out ++ t) (behind ts) (10 ∷ []) ∙ (append_assoc out t (behind ts ++ 10 ∷ []) ∙ ap (λ (s : List ℕ). out ++ s) (spaced-behind t ts))

pub line_of_two : (out t : List ℕ) (a b : List (List ℕ)) → (((out ++ t) ++ behind a) ++ behind b) ++ 10 ∷ [] ≡ out ++ spaced (t ∷ (a ++ b))
line_of_two out t a b =
    ap (λ (s : List ℕ). s ++ 10 ∷ []) (append_assoc (out ++ t) (behind a) (behind b) ∙ ap (λ (s : List ℕ). (out ++ t) ++ s) (sym (behind-append a b)))
    ∙ end_line out t (a ++ b)

pub line_of_three : (out t : List ℕ) (a b c : List (List ℕ)) → ((((out ++ t) ++ behind a) ++ behind b) ++ behind c) ++ 10 ∷ [] ≡ out ++ spaced (t ∷ (a ++ (b ++ c)))
line_of_three out t a b c =
    ap (λ (s : List ℕ). s ++ 10 ∷ []) (append_assoc ((out ++ t) ++ behind a) (behind b) (behind c) ∙ ap (λ (s : List ℕ). ((out ++ t) ++ behind a) ++ s) (sym (behind-append b c)))
    ∙ line_of_two out t a (b ++ c)

-- ---- lists behind a line's first tokens

zero_text : signed_decimal (pos 0) ≡ codes "0"
unfolding digits
zero_text = refl

-- the ending 0
pub behind_zero : (out : List ℕ) (c : List ℤ) → (out ++ behind (numbers_text c)) ++ codes " 0" ≡ out ++ behind (numbers_text (with_zero c))
behind_zero out c =
    append_assoc out (behind (numbers_text c)) (codes " 0")
    ∙ ap (λ (s : List ℕ). out ++ s) (sym (ap behind (map-append signed_decimal c (pos 0 ∷ [])) ∙ (ap (λ (t : List ℕ). behind (numbers_text c ++ t ∷ [])) zero_text ∙ behind-append (numbers_text c) (codes "0" ∷ []))))

pub line_of_values : (out : List ℕ) (c : List ℤ) → ((out ++ codes "v") ++ behind (numbers_text c)) ++ codes " 0\n" ≡ out ++ spaced (codes "v" ∷ numbers_text (with_zero c))
line_of_values out c =
    sym (append_assoc ((out ++ codes "v") ++ behind (numbers_text c)) (codes " 0") (10 ∷ []))
    ∙ (ap (λ (s : List ℕ). s ++ 10 ∷ []) (behind_zero (out ++ codes "v") c) ∙ end_line out (codes "v") (numbers_text (with_zero c)))

-- ---- values

literals_suc : (n k : ℕ) (bs : List Bool) → k < length bs → literals_from n (take (suc k) bs) ≡ literals_from n (take k bs) ++ literal_of (n + k) (get_or bs k false) ∷ []
literals_suc n k [] lt = absurd (omega arith)
literals_suc n zero (b ∷ bs) lt = let same : n + 0 ≡ n = omega arith in sym (ap (λ (m : ℕ). literal_of m b ∷ []) same)
literals_suc n (suc k) (b ∷ bs) lt =
    let next : (n + 1) + k ≡ n + suc k = omega arith in
    ap (λ (zs : List ℤ). literal_of n b ∷ zs) (literals_suc (n + 1) k bs (omega arith) ∙ ap (λ (m : ℕ). literals_from (n + 1) (take k bs) ++ literal_of m (get_or bs k false) ∷ []) next)

literals_more : (k : ℕ) (bs : List Bool) → k < length bs → literals_from 1 (take (k + 1) bs) ≡ literals_from 1 (take k bs) ++ literal_of (k + 1) (get_or bs k false) ∷ []
literals_more k bs lt =
    let more : k + 1 ≡ suc k = omega arith in
    let var : 1 + k ≡ k + 1 = omega arith in
    ap (λ (m : ℕ). literals_from 1 (take m bs)) more ∙ (literals_suc 1 k bs lt ∙ ap (λ (m : ℕ). literals_from 1 (take k bs) ++ literal_of m (get_or bs k false) ∷ []) var)

pub values_more : (out : List ℕ) (bs : List Bool) (k : ℕ) → k < length bs
    → (out ++ behind (numbers_text (literals_from 1 (take k bs)))) ++ behind (signed_decimal (literal_of (k + 1) (get_or bs k false)) ∷ []) ≡ out ++ behind (numbers_text (literals_from 1 (take (k + 1) bs)))
values_more out bs k lt =
    append_assoc out (behind (numbers_text (literals_from 1 (take k bs)))) (behind (signed_decimal (literal_of (k + 1) (get_or bs k false)) ∷ []))
    ∙ ap (λ (t : List ℕ). out ++ t) (sym (behind-append (numbers_text (literals_from 1 (take k bs))) (signed_decimal (literal_of (k + 1) (get_or bs k false)) ∷ []))
    ∙ ap behind (sym (ap numbers_text (literals_more k bs lt) ∙ map-append signed_decimal (literals_from 1 (take k bs)) (literal_of (k + 1) (get_or bs k false) ∷ []))))

-- a literal behind a space
pub positive_text : (n : ℕ) → behind (decimal (n + 1) ∷ []) ≡ behind (signed_decimal (literal_of (n + 1) true) ∷ [])
positive_text n = refl

pub negative_text : (out : List ℕ) (n : ℕ) → (out ++ codes " -") ++ decimal (n + 1) ≡ out ++ behind (signed_decimal (literal_of (n + 1) false) ∷ [])
negative_text out n =
    let next : n + 1 ≡ suc n = omega arith in
    rw next (append_assoc out (codes " -") (decimal (suc n)) ∙ ap (λ (t : List ℕ). out ++ 32 ∷ 45 ∷ t) (sym (append-nil (decimal (suc n)))))

-- ---- lines

pub lines_more : (out : List ℕ) (steps : List Step) (i : ℕ) (d : Step) → i < length steps
    → (out ++ flat_map spaced (map step_line (take i steps))) ++ spaced (step_line (get_or steps i d)) ≡ out ++ flat_map spaced (map step_line (take (i + 1) steps))
lines_more out steps i d lt =
    flat_map_more spaced out (map step_line (take i steps)) (step_line (get_or steps i d))
    ∙ ap (λ (ls : List (List (List ℕ))). out ++ flat_map spaced ls) (sym (ap (map step_line) (take_more steps i d lt) ∙ map-append step_line (take i steps) (get_or steps i d ∷ [])))

turned_suc : (m k : ℕ) (ss : List Step) (d : Step) → k < length ss → turned_steps m (take (suc k) ss) ≡ turned_steps m (take k ss) ++ turned (m + k) (get_or ss k d) ∷ []
turned_suc m k [] d lt = absurd (omega arith)
turned_suc m zero (s ∷ ss) d lt = let same : m + 0 ≡ m = omega arith in sym (ap (λ (n : ℕ). turned n s ∷ []) same)
turned_suc m (suc k) (s ∷ ss) d lt =
    let next : (m + 1) + k ≡ m + suc k = omega arith in
    ap (λ (ts : List Step). turned m s ∷ ts) (turned_suc (m + 1) k ss d (omega arith) ∙ ap (λ (n : ℕ). turned_steps (m + 1) (take k ss) ++ turned n (get_or ss k d) ∷ []) next)

-- behind the steps before place k, whose first step has the number m
pub turned_more : (out : List ℕ) (m k : ℕ) (ss : List Step) (d : Step) → k < length ss
    → (out ++ flat_map spaced (map step_line (turned_steps m (take k ss)))) ++ spaced (step_line (turned (m + k) (get_or ss k d))) ≡ out ++ flat_map spaced (map step_line (turned_steps m (take (k + 1) ss)))
turned_more out m k ss d lt =
    let more : k + 1 ≡ suc k = omega arith in
    flat_map_more spaced out (map step_line (turned_steps m (take k ss))) (step_line (turned (m + k) (get_or ss k d)))
    ∙ ap (λ (ls : List (List (List ℕ))). out ++ flat_map spaced ls)
    (sym (ap (λ (j : ℕ). map step_line (turned_steps m (take j ss))) more ∙ ap (map step_line) (turned_suc m k ss d lt) ∙ map-append step_line (turned_steps m (take k ss)) (turned (m + k) (get_or ss k d) ∷ [])))

-- one line more: what a step of the loop over places appends, of what it knows of its place, its step and the number of that
pub turned_pushed : (out before after : List ℕ) (m n k : ℕ) (ss : List Step) (s d : Step) → k < length ss → n ≡ m + k → s ≡ get_or ss k d → before ≡ out ++ flat_map spaced (map step_line (turned_steps m (take k ss)))
    → after ≡ before ++ spaced (step_line (turned n s)) → after ≡ out ++ flat_map spaced (map step_line (turned_steps m (take (k + 1) ss)))
turned_pushed out before after m n k ss s d lt number is there pushed =
    pushed
    ∙ ap (λ (t : List ℕ). t ++ spaced (step_line (turned n s))) there
    ∙ ap (λ (j : ℕ). (out ++ flat_map spaced (map step_line (turned_steps m (take k ss)))) ++ spaced (step_line (turned j s))) number
    ∙ ap (λ (x : Step). (out ++ flat_map spaced (map step_line (turned_steps m (take k ss)))) ++ spaced (step_line (turned (m + k) x))) is
    ∙ turned_more out m k ss d lt

pub two_lines : (out : List ℕ) (a b : List (List ℕ)) → (out ++ spaced a) ++ spaced b ≡ out ++ flat_map spaced (a ∷ b ∷ [])
two_lines out a b = append_assoc out (spaced a) (spaced b) ∙ ap (λ (s : List ℕ). out ++ (spaced a ++ s)) (sym (append-nil (spaced b)))

pub first_line : (out : List ℕ) (a : List (List ℕ)) (ls : List (List (List ℕ))) → (out ++ spaced a) ++ flat_map spaced ls ≡ out ++ flat_map spaced (a ∷ ls)
first_line out a ls = append_assoc out (spaced a) (flat_map spaced ls)

-- ---- pairs

labels_push : (ls : List Label) (l : Label) → labels_text (ls ++ l ∷ []) ≡ labels_text ls ++ decimal l.node ∷ decimal l.value ∷ []
labels_push [] l = refl
labels_push (k ∷ ls) l = ap (λ (ts : List (List ℕ)). decimal k.node ∷ decimal k.value ∷ ts) (labels_push ls l)

amounts_push : (fs : List Amount) (f : Amount) → amounts_text (fs ++ f ∷ []) ≡ amounts_text fs ++ decimal f.edge ∷ decimal f.amount ∷ []
amounts_push [] f = refl
amounts_push (g ∷ fs) f = ap (λ (ts : List (List ℕ)). decimal g.edge ∷ decimal g.amount ∷ ts) (amounts_push fs f)

pub behind_pair : (out t u : List ℕ) → (out ++ behind (t ∷ [])) ++ behind (u ∷ []) ≡ out ++ behind (t ∷ u ∷ [])
behind_pair out t u = append_assoc out (behind (t ∷ [])) (behind (u ∷ [])) ∙ ap (λ (s : List ℕ). out ++ s) (sym (behind-append (t ∷ []) (u ∷ [])))

tokens_more : (out : List ℕ) (ts us vs : List (List ℕ)) → vs ≡ ts ++ us → (out ++ behind ts) ++ behind us ≡ out ++ behind vs
tokens_more out ts us vs is = append_assoc out (behind ts) (behind us) ∙ ap (λ (s : List ℕ). out ++ s) (sym (ap behind is ∙ behind-append ts us))

pub labels_more : (out : List ℕ) (ls : List Label) (i : ℕ) (d : Label) → i < length ls
    → (out ++ behind (labels_text (take i ls))) ++ behind (decimal (get_or ls i d).node ∷ decimal (get_or ls i d).value ∷ []) ≡ out ++ behind (labels_text (take (i + 1) ls))
labels_more out ls i d lt =
    tokens_more out (labels_text (take i ls)) (decimal (get_or ls i d).node ∷ decimal (get_or ls i d).value ∷ []) (labels_text (take (i + 1) ls))
    (ap labels_text (take_more ls i d lt) ∙ labels_push (take i ls) (get_or ls i d))

pub amounts_more : (out : List ℕ) (fs : List Amount) (i : ℕ) (d : Amount) → i < length fs
    → (out ++ behind (amounts_text (take i fs))) ++ behind (decimal (get_or fs i d).edge ∷ decimal (get_or fs i d).amount ∷ []) ≡ out ++ behind (amounts_text (take (i + 1) fs))
amounts_more out fs i d lt =
    tokens_more out (amounts_text (take i fs)) (decimal (get_or fs i d).edge ∷ decimal (get_or fs i d).amount ∷ []) (amounts_text (take (i + 1) fs))
    (ap amounts_text (take_more fs i d lt) ∙ amounts_push (take i fs) (get_or fs i d))

-- Lines read one after the other.
use Rattle.std.proofs.Common.{◌≡◌, ℕ, ◌+◌, List, [], ◌∷◌, ◌++◌, map, Result, Ok, Err, refl, sym, ap, ◌∙◌, flat_map, subst}
use Rattle.mono_text.specs.Text.{tokens_of, lines_of, numbered_from, spaced}
use Rattle.mono_text.proofs.Spaced.{AreTokenLines, token_lines-spaced}
use Rattle.mono_problem.specs.Instance.{Instance}
use Rattle.mono_gnf.specs.declared.fault.GnfFault.{GnfFault}
use Rattle.mono_gnf.specs.Reading.{Seen, nothing_seen, read_tokens, read_lines, at_line, reading}

-- reading the lines, from number n on, leads from one state to another
abbrev pub Leads : ℕ → Seen → List (List (List ℕ)) → Seen → Type 0
Leads n s [] t = s ≡ t
Leads n s (l ∷ ls) t = (m : Seen) × (read_tokens n s l ≡ Ok m) × Leads (n + 1) m ls t

-- one run after the other. Where the second one ends depends on the number of its first line, and Q holds there
pub Leads-on : (Q : Seen → Type 0) (n : ℕ) (s m : Seen) (xs ys : List (List (List ℕ))) → Leads n s xs m → ((k : ℕ) → (t : Seen) × Leads k m ys t × Q t) → (t : Seen) × Leads n s (xs ++ ys) t × Q t
Leads-on Q n s m [] ys h k =
    let P : Seen → Type 0 = λ s. (t : Seen) × Leads n s ys t × Q t in
    subst P (sym h) (k n)
Leads-on Q n s m (x ∷ xs) ys h k =
    let rest = Leads-on Q (n + 1) h.0 m xs ys h.2 k in
    (rest.0, (h.0, h.1, rest.1), rest.2)

-- the lines as lists of tokens
abbrev pub read_all : ℕ → Seen → List (List (List ℕ)) → Result Instance (ℕ × GnfFault)
read_all n s [] = read_lines s []
read_all n s (l ∷ ls) = at_line n (read_tokens n s l) (λ next. read_all (n + 1) next ls)

at_line-same : (n : ℕ) (r : Result Seen GnfFault) (f g : Seen → Result Instance (ℕ × GnfFault)) → ((s : Seen) → f s ≡ g s) → at_line n r f ≡ at_line n r g
at_line-same n (Ok s) f g h = h s
at_line-same n (Err e) f g h = refl

pub read_lines-all : (n : ℕ) (s : Seen) (lines : List (List ℕ)) → read_lines s (numbered_from n lines) ≡ read_all n s (map tokens_of lines)
read_lines-all n s [] = refl
read_lines-all n s (l ∷ ls) = at_line-same n (read_tokens n s (tokens_of l)) _ _ (λ next. read_lines-all (n + 1) next ls)

read_all-Leads : (n : ℕ) (s t : Seen) (ls : List (List (List ℕ))) → Leads n s ls t → t.row ≡ [] → read_all n s ls ≡ Ok t.problem
read_all-Leads n s t [] h closed = rw h (rw closed refl)
read_all-Leads n s t (l ∷ ls) h closed = rw (h.1) (read_all-Leads (n + 1) h.0 t ls h.2 closed)

-- a text of lines that lead to a state without an open clause stands for its problem
pub reading-Leads : (ls : List (List (List ℕ))) (t : Seen) → AreTokenLines ls → Leads 1 nothing_seen ls t → t.row ≡ [] → reading (flat_map spaced ls) ≡ Ok t.problem
reading-Leads ls t tokens h closed =
    read_lines-all 1 nothing_seen (lines_of (flat_map spaced ls))
    ∙ (ap (read_all 1 nothing_seen) (token_lines-spaced ls tokens) ∙ read_all-Leads 1 nothing_seen t ls h closed)

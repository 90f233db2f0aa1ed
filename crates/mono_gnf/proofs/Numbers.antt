-- What the numbers of a line add to what was seen, or their fault, read off the numbers before.
use Rattle.std.proofs.Common.{◌≡◌, ℕ, ◌||◌, max, Bool, true, false, not, cond, nat_le, nat_lt, ℤ, nat_abs, List, [], ◌∷◌, ◌++◌, length, map, filter_map, Option, Some, None, Ok, Err, refl, sym, ap, ◌∙◌, subst, append_assoc, append-nil}
use Rattle.std.specs.List.{enumerate_from, list_any, cons_option}
use Rattle.mono_text.specs.Numbers.{signed, signed_within}
use Rattle.mono_text.specs.declared.number.NumberRefusal.TheVariants as refusal
use Rattle.mono_problem.specs.Growth.{greatest_var}
use Rattle.mono_gnf.specs.declared.fault.GnfFault.{GnfFault}
use Rattle.mono_gnf.specs.declared.fault.GnfFault.TheVariants as fault
use Rattle.mono_gnf.specs.Lines.{is_zero, is_literal, clauses_of, open_clause, literal_count}
use Rattle.mono_gnf.specs.Declarations.{EdgeLine, AtomLine}
use Rattle.mono_gnf.specs.Faults.{first_failed, is_too_many, number_fault, or_refused}
use Rattle.mono_gnf.specs.Stands.{numbered_atom, declared_graph, greatest}
use Rattle.mono_gnf.specs.Reading.{Seen, put_number, read_number, read_numbers, number_of, ◌>>=◌}
use Rattle.std.specs.Option.{option_or}
use Rattle.mono_gnf.proofs.ClauseSplits.{clauses-zero, open-zero, clauses-literal, open-literal, literals_in}
use Rattle.mono_gnf.proofs.Problems.{greatest-clause}
use Rattle.mono_gnf.proofs.Agreement.{SameOutcome, SameOutcome-along, SameOutcome-weaker, SameOutcome-then, SameOutcome-checks, run}
use Rattle.mono_gnf.proofs.Statements.{seen, vars_of, vars-split}
use Rattle.mono_base.specs.declared.limits.TheConstants.{MAX_VARS, MAX_CLAUSES, MAX_LITERALS}

module _ (hs : List ℕ) (gs : List (ℕ × ℕ)) (es : List EdgeLine) (xs : List AtomLine) (n : ℕ) where
  abbrev state : ℕ → List (List ℤ) → List ℤ → ℕ → Seen
  state v cs row last = record {
    problem = record { vars = v; graphs = map (declared_graph es) gs; atoms = map (numbered_atom gs) (enumerate_from 1 xs); clauses = cs };
    row = row;
    last = last;
    header = nat_lt 0 (length hs);
  }

  abbrev Counted : List ℤ → ℕ → Seen → Type 0
  Counted zs last s = s ≡ seen hs gs es xs zs last

  vars-clause : (cs : List (List ℤ)) (c : List ℤ) → greatest_var (vars_of hs es xs cs) c ≡ vars_of hs es xs (cs ++ c ∷ [])
  vars-clause cs c =
      let others = max (max (greatest hs) (greatest (map (λ (e : EdgeLine). e.var) es))) (greatest (map (λ (x : AtomLine). x.var) xs)) in
      ap (λ (v : ℕ). greatest_var v c) (vars-split hs es xs cs) ∙ (greatest-clause cs c others ∙ sym (vars-split hs es xs (cs ++ c ∷ [])))

  ended : (zs : List ℤ) (last : ℕ) (z : ℤ) → is_zero z ≡ true
      → state (greatest_var (vars_of hs es xs (clauses_of zs)) (open_clause zs)) (clauses_of zs ++ open_clause zs ∷ []) [] last ≡ seen hs gs es xs (zs ++ z ∷ []) last
  ended zs last z h =
      ap (λ (v : ℕ). state v (clauses_of zs ++ open_clause zs ∷ []) [] last) (vars-clause (clauses_of zs) (open_clause zs))
      ∙ (ap (λ (cs : List (List ℤ)). state (vars_of hs es xs cs) cs [] last) (sym (clauses-zero zs z h))
      ∙ ap (λ (row : List ℤ). state (vars_of hs es xs (clauses_of (zs ++ z ∷ []))) (clauses_of (zs ++ z ∷ [])) row last) (sym (open-zero zs z h)))

  longer : (zs : List ℤ) (z : ℤ) → is_zero z ≡ false
      → state (vars_of hs es xs (clauses_of zs)) (clauses_of zs) (open_clause zs ++ z ∷ []) n ≡ seen hs gs es xs (zs ++ z ∷ []) n
  longer zs z h =
      ap (λ (cs : List (List ℤ)). state (vars_of hs es xs cs) cs (open_clause zs ++ z ∷ []) n) (sym (clauses-literal zs z h))
      ∙ ap (λ (row : List ℤ). state (vars_of hs es xs (clauses_of (zs ++ z ∷ []))) (clauses_of (zs ++ z ∷ [])) row n) (sym (open-literal zs z h))

  number-zero : (zs : List ℤ) (last : ℕ) (z : ℤ) → is_zero z ≡ true
      → SameOutcome (Counted (zs ++ z ∷ []) last) (first_failed ((is_too_many zs z, fault.TooMany) ∷ [])) (put_number n (seen hs gs es xs zs last) z)
  number-zero zs last z h =
      let checks : List (Bool × GnfFault) = (nat_le MAX_CLAUSES (length (clauses_of zs)), fault.TooMany) ∷ [] in
      let next = state (greatest_var (vars_of hs es xs (clauses_of zs)) (open_clause zs)) (clauses_of zs ++ open_clause zs ∷ []) [] last in
      SameOutcome-along (Counted (zs ++ z ∷ []) last) (first_failed ((is_too_many zs z, fault.TooMany) ∷ [])) (first_failed checks) (put_number n (seen hs gs es xs zs last) z) (run checks next)
      (rw h refl) (rw h refl)
      (SameOutcome-checks (Counted (zs ++ z ∷ []) last) checks next (λ passed. ended zs last z h))

  number-literal : (zs : List ℤ) (last : ℕ) (z : ℤ) → is_zero z ≡ false
      → SameOutcome (Counted (zs ++ z ∷ []) n) (first_failed ((is_too_many zs z, fault.TooMany) ∷ [])) (put_number n (seen hs gs es xs zs last) z)
  number-literal zs last z h =
      let checks : List (Bool × GnfFault) = (nat_le MAX_LITERALS (literal_count zs), fault.TooMany) ∷ [] in
      let next = state (vars_of hs es xs (clauses_of zs)) (clauses_of zs) (open_clause zs ++ z ∷ []) n in
      SameOutcome-along (Counted (zs ++ z ∷ []) n) (first_failed ((is_too_many zs z, fault.TooMany) ∷ [])) (first_failed checks) (put_number n (seen hs gs es xs zs last) z) (run checks next)
      (rw h refl) (rw (h, literals_in zs) refl)
      (SameOutcome-checks (Counted (zs ++ z ∷ []) n) checks next (λ passed. longer zs z h))

  abbrev last_of_two : Bool → ℕ → ℕ
  last_of_two has last = cond has n last

  one_number : (zs : List ℤ) (last : ℕ) (z : ℤ)
      → SameOutcome (Counted (zs ++ z ∷ []) (last_of_two (is_literal z) last)) (first_failed ((is_too_many zs z, fault.TooMany) ∷ [])) (put_number n (seen hs gs es xs zs last) z)
  one_number zs last z =
      (elim (is_zero z) as (λ b. is_zero z ≡ b → SameOutcome (Counted (zs ++ z ∷ []) (last_of_two (not b) last)) (first_failed ((is_too_many zs z, fault.TooMany) ∷ [])) (put_number n (seen hs gs es xs zs last) z)) [
        | true ↦ λ h. number-zero zs last z h
        | false ↦ λ h. number-literal zs last z h
      ]) refl

  later_last : (a b : Bool) (last : ℕ) → last_of_two b (last_of_two a last) ≡ last_of_two (a || b) last
  later_last true true last = refl
  later_last true false last = refl
  later_last false b last = refl

  numbers_after : (zs : List ℤ) (last : ℕ) (z : ℤ) (rest : List ℤ) (s : Seen)
      → Counted ((zs ++ z ∷ []) ++ rest) (last_of_two (list_any is_literal rest) (last_of_two (is_literal z) last)) s → Counted (zs ++ z ∷ rest) (last_of_two (list_any is_literal (z ∷ rest)) last) s
  numbers_after zs last z rest s h =
      h ∙ (ap (λ (all : List ℤ). seen hs gs es xs all (last_of_two (list_any is_literal rest) (last_of_two (is_literal z) last))) (append_assoc zs (z ∷ []) rest)
      ∙ ap (λ (k : ℕ). seen hs gs es xs (zs ++ z ∷ rest) k) (later_last (is_literal z) (list_any is_literal rest) last))

  abbrev Through : List ℤ → ℕ → List (List ℕ) → Seen → Type 0
  Through zs last ts s = Counted (zs ++ filter_map signed ts) (last_of_two (list_any is_literal (filter_map signed ts)) last) s

  -- what holds of every start behind a number holds of the start at it
  read_on : (zs : List ℤ) (last : ℕ) (ts : List (List ℕ)) (z : ℤ)
      → ((zs' : List ℤ) (last' : ℕ) → SameOutcome (Through zs' last' ts) (number_fault zs' ts) (read_numbers n (seen hs gs es xs zs' last') ts))
      → SameOutcome (Counted (zs ++ z ∷ filter_map signed ts) (last_of_two (list_any is_literal (z ∷ filter_map signed ts)) last))
      (option_or (first_failed ((is_too_many zs z, fault.TooMany) ∷ [])) (number_fault (zs ++ z ∷ []) ts))
      (put_number n (seen hs gs es xs zs last) z >>= (λ next. read_numbers n next ts))
  read_on zs last ts z more =
      let here = last_of_two (is_literal z) last in
      let Q : Seen → Type 0 = Counted (zs ++ z ∷ filter_map signed ts) (last_of_two (list_any is_literal (z ∷ filter_map signed ts)) last) in
      SameOutcome-then (Counted (zs ++ z ∷ []) here) Q (first_failed ((is_too_many zs z, fault.TooMany) ∷ [])) (number_fault (zs ++ z ∷ []) ts) (put_number n (seen hs gs es xs zs last) z) (λ next. read_numbers n next ts)
      (one_number zs last z)
      (λ s h.
      let P : Seen → Type 0 = λ s. SameOutcome Q (number_fault (zs ++ z ∷ []) ts) (read_numbers n s ts) in
      subst P (sym h)
      (SameOutcome-weaker (Through (zs ++ z ∷ []) here ts) Q (number_fault (zs ++ z ∷ []) ts) (read_numbers n (seen hs gs es xs (zs ++ z ∷ []) here) ts) (numbers_after zs last z (filter_map signed ts)) (more (zs ++ z ∷ []) here)))

  token_read : (zs : List ℤ) (last : ℕ) (ts : List (List ℕ)) (o : Option ℤ)
      → ((zs' : List ℤ) (last' : ℕ) → SameOutcome (Through zs' last' ts) (number_fault zs' ts) (read_numbers n (seen hs gs es xs zs' last') ts))
      → SameOutcome (Counted (zs ++ cons_option o (filter_map signed ts)) (last_of_two (list_any is_literal (cons_option o (filter_map signed ts))) last))
      (or_refused (signed_within MAX_VARS o) (λ z. option_or (first_failed ((is_too_many zs z, fault.TooMany) ∷ [])) (number_fault (zs ++ z ∷ []) ts)))
      (number_of (signed_within MAX_VARS o) >>= put_number n (seen hs gs es xs zs last) >>= (λ next. read_numbers n next ts))
  token_read zs last ts None more = refl
  token_read zs last ts (Some z) more =
      elim (nat_lt MAX_VARS (nat_abs z)) as (λ b. SameOutcome (Counted (zs ++ z ∷ filter_map signed ts) (last_of_two (list_any is_literal (z ∷ filter_map signed ts)) last))
      (or_refused (cond b (Err refusal.TooLarge) (Ok z)) (λ z. option_or (first_failed ((is_too_many zs z, fault.TooMany) ∷ [])) (number_fault (zs ++ z ∷ []) ts)))
      (number_of (cond b (Err refusal.TooLarge) (Ok z)) >>= put_number n (seen hs gs es xs zs last) >>= (λ next. read_numbers n next ts))) [
        | true ↦ refl
        | false ↦ read_on zs last ts z more
      ]

  pub numbers-read : (zs : List ℤ) (last : ℕ) (ts : List (List ℕ)) → SameOutcome (Through zs last ts) (number_fault zs ts) (read_numbers n (seen hs gs es xs zs last) ts)
  unfolding read_number
  numbers-read zs last [] = ap (λ (all : List ℤ). seen hs gs es xs all last) (sym (append-nil zs))
  numbers-read zs last (t ∷ ts) = token_read zs last ts (signed t) (λ zs' last'. numbers-read zs' last' ts)

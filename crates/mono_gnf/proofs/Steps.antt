-- The reader's steps, one after the other.
use Rattle.std.proofs.Common.{◌≡◌, ℕ, ℤ, List, [], ◌∷◌, Some, None, Result, Ok, Err, ◌||◌, ◌==◌, true, false, eqb, arith, refl, sym, ◌∙◌}
use Rattle.std.specs.Char.{is_ascii_digit}
use Rattle.std.proofs.lemmas.Bool.Decides.{nat_tests}
use Rattle.mono_text.specs.Text.{tokens_of, first_byte}
use Rattle.mono_text.specs.Numbers.{signed, signed_within}
use Rattle.mono_text.specs.declared.number.NumberRefusal.{NumberRefusal}
use Rattle.mono_gnf.specs.Lines.{begins_number, is_number_token}
use Rattle.mono_problem.specs.Instance.{Instance, place_named}
use Rattle.mono_problem.specs.declared.atom.Predicate.{Predicate}
use Rattle.mono_gnf.specs.declared.fault.GnfFault.{GnfFault}
use Rattle.mono_gnf.specs.declared.refusal.Stop.{Stop}
use Rattle.mono_gnf.specs.declared.refusal.Stop.TheVariants as stop
use Rattle.mono_gnf.specs.declared.refusal.GnfRefusal.{GnfRefusal}
use Rattle.mono_gnf.specs.declared.refusal.GnfRefusal.TheVariants as refusal
use Rattle.mono_gnf.specs.Stands.{Reads}
use Rattle.mono_gnf.specs.Reading.{Seen, put_edge, put_edge_at, put_atom, put_atom_at, put_read, read_number, read_numbers, read_tokens, read_lines, reading}
use Rattle.mono_gnf.specs.Moves.{Moves, Finishes}
pub use Rattle.mono_gnf.proofs.Meaning.{stands_from, first_fault_from}
use Rattle.mono_base.specs.declared.limits.TheConstants.{MAX_VARS}

pub put_edge-known : (s : Seen) (id from to var weight k : ℕ) → Some k ≡ place_named s.problem.graphs id → put_edge s id from to var weight ≡ put_edge_at s k from to var weight
put_edge-known s id from to var weight k h = rw (← h) refl

pub put_atom-known : (s : Seen) (id var : ℕ) (p : Predicate) (k : ℕ) → Some k ≡ place_named s.problem.graphs id → put_atom s id var p ≡ put_atom_at s k var p
put_atom-known s id var p k h = rw (← h) refl

-- a token as it is read
pub read_number-is : (n : ℕ) (s : Seen) (t : List ℕ) (r : Result ℤ NumberRefusal) → r ≡ signed_within MAX_VARS (signed t) → read_number n s t ≡ put_read n s r
unfolding read_number
read_number-is n s t r e = rw e refl

-- a number line by its first byte
pub number_line : (n : ℕ) (s : Seen) (ts : List (List ℕ)) (b : ℕ) → Some b ≡ first_byte ts → (is_ascii_digit b || b == 45) ≡ true → read_tokens n s ts ≡ read_numbers n s ts
number_line n s [] b e h = refl
number_line n s ([] ∷ ts) b e h = absurd cc
number_line n s ((c ∷ cs) ∷ ts) b e h =
    let same : c ≡ b = cc in
    let test : is_number_token (c ∷ cs) ≡ true = rw same h in
    let other : eqb c 99 ≡ false = rw same (no_comment b h) in
    rw (other, test) refl
  where
    no_comment : (b : ℕ) → (is_ascii_digit b || b == 45) ≡ true → eqb b 99 ≡ false
    no_comment b h = grind (arith, nat_tests)

-- another line by its first byte
pub word_line-none : (ts : List (List ℕ)) → None ≡ first_byte ts → begins_number ts ≡ false
word_line-none [] e = refl
word_line-none ([] ∷ ts) e = refl
word_line-none ((c ∷ cs) ∷ ts) e = absurd cc

pub word_line-other : (ts : List (List ℕ)) (b : ℕ) → Some b ≡ first_byte ts → (is_ascii_digit b || b == 45) ≡ false → begins_number ts ≡ false
word_line-other [] b e h = refl
word_line-other ([] ∷ ts) b e h = refl
word_line-other ((c ∷ cs) ∷ ts) b e h = let same : c ≡ b = cc in rw same h

pub numbers_step : (n : ℕ) (s next : Seen) (t : List ℕ) (ts rest : List (List ℕ)) → ts ≡ t ∷ rest → read_number n s t ≡ Ok next → read_numbers n next rest ≡ read_numbers n s ts
numbers_step n s next t ts rest e h = rw (e, h) refl

pub numbers_stop : (n : ℕ) (s new : Seen) (t : List ℕ) (ts rest : List (List ℕ)) (all : Result Seen GnfFault) (e : Stop) → ts ≡ t ∷ rest → read_numbers n s ts ≡ all → Moves (read_number n s t) new (Err e) → Moves all new (Err e)
numbers_stop n s new t ts rest all stop.Memory e h m = tt
numbers_stop n s new t ts rest all (stop.Fault f) e h m = sym h ∙ rw (e, m) refl

pub lines_step : (s next : Seen) (n : ℕ) (text : List ℕ) (lines rest : List (ℕ × List ℕ)) → lines ≡ (n, text) ∷ rest → read_tokens n s (tokens_of text) ≡ Ok next → read_lines next rest ≡ read_lines s lines
lines_step s next n text lines rest e h = rw (e, h) refl

pub lines_stop : (s : Seen) (n : ℕ) (text : List ℕ) (lines rest : List (ℕ × List ℕ)) (f : GnfFault) → lines ≡ (n, text) ∷ rest → read_tokens n s (tokens_of text) ≡ Err f → read_lines s lines ≡ Err (n, f)
lines_stop s n text lines rest f e h = rw (e, h) refl

pub reads_finished : (text : List ℕ) (s : Seen) (r : Result Instance GnfRefusal) → read_lines s [] ≡ reading text → Finishes s r → Reads text r
reads_finished text s (Ok p) e h = stands_from text p (sym e ∙ h)
reads_finished text s (Err refusal.Memory) e h = tt
reads_finished text s (Err (refusal.At line f)) e h = first_fault_from text line f (sym e ∙ h)

-- What stood in a text before something was appended is what the text begins with, also where memory ends on the way.
use Rattle.std.proofs.Common.{◌≡◌, ℕ, List, ◌++◌, take, drop, length, Result, Ok, Err, sym, ap, ◌∙◌, append_assoc}
use Rattle.std.specs.Prelude.{OnErr}
use Rattle.std.proofs.Math.Seq.{take-append_seam, take-length}
use Rattle.std.proofs.lemmas.List.{take-append-drop}
use Rattle.std.specs.Io.{StartsWith}

pub starts_same : {old new : List ℕ} → new ≡ old → StartsWith new old
starts_same {old} {new} same = ap (λ (t : List ℕ). take (length old) t) same ∙ take-length old

pub starts_behind : {old new : List ℕ} (text : List ℕ) → new ≡ old ++ text → StartsWith new old
starts_behind {old} {new} text appended = ap (λ (t : List ℕ). take (length old) t) appended ∙ take-append_seam old text

-- a text is its beginning and the rest
beginning_and_rest : (old new : List ℕ) → StartsWith new old → new ≡ old ++ drop (length old) new
beginning_and_rest old new starts = sym (take-append-drop (length old) new) ∙ ap (λ (t : List ℕ). t ++ drop (length old) new) starts

-- a text begins with what its beginning begins with
pub starts_further : (old between new : List ℕ) → StartsWith between old → StartsWith new between → StartsWith new old
starts_further old between new first then =
    let more = drop (length old) between in
    let rest = drop (length between) new in
    starts_behind (more ++ rest)
    (beginning_and_rest between new then ∙ (ap (λ (t : List ℕ). t ++ rest) (beginning_and_rest old between first) ∙ append_assoc old more rest))

-- ---- what stays where a call fails

-- the first call fails
pub stays : {T E : Type 0} (r : Result T E) (old new : List ℕ) → new ≡ old → OnErr r (StartsWith new old)
stays (Ok x) old new same = tt
stays (Err e) old new same = starts_same same

-- a call fails behind those that appended
pub stays_behind : {T E : Type 0} (r : Result T E) (old between new : List ℕ) → StartsWith between old → StartsWith new between → OnErr r (StartsWith new old)
stays_behind (Ok x) old between new first then = tt
stays_behind (Err e) old between new first then = starts_further old between new first then

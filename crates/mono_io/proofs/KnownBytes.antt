-- Bytes appended to what is known, in two steps.
use Rattle.std.proofs.Common.{◌≡◌, ℕ, ◌+◌, List, ◌++◌, take, drop, Option, subst, ap, sym, ◌∙◌}
use Rattle.std.proofs.Math.Seq.{take-add}
use Rattle.std.proofs.KnownBytes.{Appends-trans}
use Rattle.std.specs.Io.KnownBytes.{Appends}

-- the first `done` bytes of the text were written before, and now `count` more
pub Appends-more : (before known now : Option (List ℕ)) (text rest : List ℕ) (done count : ℕ)
    → rest ≡ drop done text → Appends before known (take done text) → Appends known now (take count rest)
    → Appends before now (take (done + count) text)
Appends-more before known now text rest done count is_rest was is_now =
    let joined : take done text ++ take count rest ≡ take (done + count) text =
    ap (λ (l : List ℕ). take done text ++ take count l) is_rest ∙ sym (take-add done count text) in
    subst (Appends before now) joined (Appends-trans before known now _ _ was is_now)

-- Entries in buckets of keys: where a bucket begins, and what stands around a key.
use Rattle.std.proofs.Common.{◌≡◌, ℕ, ◌+◌, ◌<◌, ◌≤◌, List, length, get_or, ap, ◌∙◌, inl, inr, arith}
use Rattle.std.specs.List.{AllWithin}
use Rattle.std.specs.List.Sorted.{IsNonDecreasingBy}
use Rattle.std.proofs.Math.Pow.{shr_mono}
use Rattle.std.proofs.lemmas.Bool.{cases_lt}
use Rattle.std.proofs.lemmas.List.{get_or_default}
use Rattle.mono_bounds.specs.declared.entries.Entry.{Entry}
use Rattle.mono_bounds.specs.Entries.{AreAround, AreBucketed, IsStart, bucket, entry_at, no_entry}

bucket_mono : (least shift a b : ℕ) → a ≤ b → bucket least shift a ≤ bucket least shift b
bucket_mono least shift a b le = shr_mono shift (omega arith)

bucket_less : (least shift a b : ℕ) → bucket least shift a < bucket least shift b → a < b
bucket_less least shift a b h = elim (cases_lt a b) [
  | inl lt ↦ lt
  | inr ge ↦ (let m = bucket_mono least shift b a ge in absurd (omega (arith, m, h)))
]

-- ---- where a bucket begins

pub start_here : (es : List Entry) (least shift number at : ℕ) → IsNonDecreasingBy (λ (e : Entry). e.key) es → at < length es
    → AllWithin (λ (e : Entry). bucket least shift e.key < number) es 0 at → number ≤ bucket least shift (entry_at es at).key → IsStart es least shift number at
start_here es least shift number at sorted lt below here = record {
  fits = omega arith;
  below = below;
  from = λ k d lo hi.
      let later = bucket_mono least shift (get_or es at d).key (get_or es k d).key (sorted at k d lo hi) in
      let same = ap (λ (e : Entry). bucket least shift e.key) (get_or_default es at d no_entry lt) in
      omega (arith, here, later, same);
}

pub start_end : (es : List Entry) (least shift number : ℕ) → AllWithin (λ (e : Entry). bucket least shift e.key < number) es 0 (length es) → IsStart es least shift number (length es)
start_end es least shift number below = record { fits = omega arith; below = below; from = λ k d lo hi. absurd (omega arith) }

pub below_one_more : (es : List Entry) (least shift number at : ℕ) → at < length es → AllWithin (λ (e : Entry). bucket least shift e.key < number) es 0 at
    → bucket least shift (entry_at es at).key < number → AllWithin (λ (e : Entry). bucket least shift e.key < number) es 0 (at + 1)
below_one_more es least shift number at lt below here = λ k d lo hi. elim (cases_lt k at) [
  | inl less ↦ below k d lo less
  | inr ge ↦ (
      let is : k ≡ at = omega arith in
      let same = ap (λ (e : Entry). bucket least shift e.key) (ap (λ j. get_or es j d) is ∙ get_or_default es at d no_entry lt) in
      omega (arith, here, same))
]

-- ---- what stands around a key

pub around_bucket : (es : List Entry) (starts : List ℕ) (least shift key number : ℕ) → AreBucketed es starts least shift → number ≡ bucket least shift key → number + 1 < length starts
    → AreAround es key (get_or starts number 0) (get_or starts (number + 1) 0)
around_bucket es starts least shift key number h is lt =
    let this : IsStart es least shift number (get_or starts number 0) = h.each number (omega arith) in
    let next : IsStart es least shift (number + 1) (get_or starts (number + 1) 0) = h.each (number + 1) lt in
    record {
      order = elim (cases_lt (get_or starts (number + 1) 0) (get_or starts number 0)) [
        | inl less ↦ (
            let fits = this.fits in
            let low = this.below (get_or starts (number + 1) 0) no_entry (omega arith) less in
            let high = next.from (get_or starts (number + 1) 0) no_entry (omega arith) (omega (arith, fits, less)) in
            absurd (omega (arith, low, high)))
        | inr le ↦ le
      ];
      fits = next.fits;
      below = λ k d lo hi. bucket_less least shift (get_or es k d).key key (let low = this.below k d lo hi in omega (arith, low, is));
      above = λ k d lo hi. bucket_less least shift key (get_or es k d).key (let high = next.from k d lo hi in omega (arith, high, is));
    }

pub around_rest : (es : List Entry) (starts : List ℕ) (least shift key last : ℕ) → AreBucketed es starts least shift → last < length starts → last ≤ bucket least shift key
    → AreAround es key (get_or starts last 0) (length es)
around_rest es starts least shift key last h lt le =
    let this : IsStart es least shift last (get_or starts last 0) = h.each last lt in
    record {
      order = this.fits;
      fits = omega arith;
      below = λ k d lo hi. bucket_less least shift (get_or es k d).key key (let low = this.below k d lo hi in omega (arith, low, le));
      above = λ k d lo hi. absurd (omega arith);
    }

-- ---- halving

pub smaller_up_to : (es : List Entry) (key at : ℕ) → IsNonDecreasingBy (λ (e : Entry). e.key) es → at < length es → (entry_at es at).key < key → AllWithin (λ (e : Entry). e.key < key) es 0 (at + 1)
smaller_up_to es key at sorted lt here = λ k d lo hi.
    let before = sorted k at d (omega arith) lt in
    let same = ap (λ (e : Entry). e.key) (get_or_default es at d no_entry lt) in
    omega (arith, here, before, same)

pub greater_from : (es : List Entry) (key at : ℕ) → IsNonDecreasingBy (λ (e : Entry). e.key) es → at < length es → key ≤ (entry_at es at).key → AllWithin (λ (e : Entry). key ≤ e.key) es at (length es)
greater_from es key at sorted lt here = λ k d lo hi.
    let after = sorted at k d lo hi in
    let same = ap (λ (e : Entry). e.key) (get_or_default es at d no_entry lt) in
    omega (arith, here, after, same)

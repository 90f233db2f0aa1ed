-- The index of a list of keys: how it is made.
use Rattle.std.proofs.Common.{◌≡◌, ℕ, ◌<◌, ◌^◌, List, length, get_or, refl, sym, ap, subst, ◌∙◌, arith}
use Rattle.std.specs.List.Sorted.{IsPermutation, IsNonDecreasingBy}
use Rattle.std.proofs.lemmas.List.{get_or_default}
use Rattle.std.proofs.lemmas.List.Sorted.{All-permutation, Contains-permutation, length_permutation}
use Rattle.mono_bounds.specs.declared.entries.Entry.{Entry}
use Rattle.mono_bounds.specs.Entries.{no_entry, entry_at}
use Rattle.mono_bounds.specs.Index.{IsIndex}

pub index_from : (keys : List ℕ) (xs ys : List Entry) → length xs ≡ length keys → length keys < 2 ^ 32
    → ((k : ℕ) → k < length keys → entry_at xs k ≡ record { key = get_or keys k 0; place = k })
    → IsPermutation xs ys → IsNonDecreasingBy (λ (e : Entry). e.key) ys → IsIndex keys ys
index_from keys xs ys len most each perm sorted = record {
  known = All-permutation (λ (e : Entry). (e.place < length keys) × (e.key ≡ get_or keys e.place 0)) xs ys perm (λ k d lt.
      let lt' : k < length keys = omega arith in
      let is : get_or xs k d ≡ record { key = get_or keys k 0; place = k } = get_or_default xs k d no_entry lt ∙ each k lt' in
      (subst (λ (e : Entry). e.place < length keys) (sym is) lt', subst (λ (e : Entry). e.key ≡ get_or keys e.place 0) (sym is) refl));
  each = λ k lt.
      let e : Entry = entry_at xs k in
      let lt' : k < length xs = omega arith in
      let (i, fits, at) = Contains-permutation xs ys e perm (k, lt', get_or_default xs k e no_entry lt') in
      (i, fits, ap (λ (x : Entry). x.place) (get_or_default ys i no_entry e fits ∙ at ∙ each k lt));
  sorted = sorted;
  few = omega (arith, length_permutation xs ys perm, len, most);
}

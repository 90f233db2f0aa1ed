-- Entries sorted by key, and where those of each bucket of keys begin.
use Rattle.std.specs.Prelude.{ℕ, ◌+◌, ◌-◌, ◌/◌, ◌^◌, ◌<◌, ◌≤◌, List, length, slice_index_or}
use Rattle.std.specs.List.{AllWithin}
use Rattle.std.specs.List.Sorted.{IsNonDecreasingBy}
use Rattle.mono_bounds.specs.declared.entries.Entry.{Entry}

abbrev pub no_entry : Entry
no_entry = record { key = 0; place = 0 }

abbrev pub entry_at : List Entry → ℕ → Entry
entry_at es i = slice_index_or es i no_entry

-- the bucket of a key: each takes 2 ^ shift keys, the first those from the least key on
abbrev pub bucket : ℕ → ℕ → ℕ → ℕ
bucket least shift key = (key - least) / 2 ^ shift

-- the entries of the buckets from b on stand from here on
pub record IsStart (es : List Entry) (least shift b at : ℕ) : Type 0 where
  pub fits : at ≤ length es
  pub below : AllWithin (λ e. bucket least shift e.key < b) es 0 at
  pub from : AllWithin (λ e. b ≤ bucket least shift e.key) es at (length es)

-- the entries are sorted by key, and these are the starts of the first buckets, of which there are few more than entries
pub record AreBucketed (es : List Entry) (starts : List ℕ) (least shift : ℕ) : Type 0 where
  pub sorted : IsNonDecreasingBy (λ e. e.key) es
  pub shift_fits : shift < 32
  pub some : 0 < length starts
  pub few : length starts ≤ length es + 3
  pub each : (b : ℕ) → b < length starts → IsStart es least shift b (slice_index_or starts b 0)

-- all entries of the key stand between two places, those in front have smaller keys, and those behind greater ones
pub record AreAround (es : List Entry) (key low high : ℕ) : Type 0 where
  pub order : low ≤ high
  pub fits : high ≤ length es
  pub below : AllWithin (λ e. e.key < key) es 0 low
  pub above : AllWithin (λ e. key < e.key) es high (length es)

-- the entries from start to end are those of the key
pub record IsRange (es : List Entry) (key start end : ℕ) : Type 0 where
  pub order : start ≤ end
  pub below : AllWithin (λ e. e.key < key) es 0 start
  pub from : AllWithin (λ e. key ≤ e.key) es start (length es)
  pub up_to : AllWithin (λ e. e.key ≤ key) es 0 end
  pub above : AllWithin (λ e. key < e.key) es end (length es)
  pub end_fits : end ≤ length es

-- Where the text of a name stands, and what putting one changes.
use Rattle.std.proofs.Common.{◌≡◌, ◌<◌, ◌≤◌, ℕ, zero, suc, Bool, true, false, not, cond, List, [], ◌∷◌, ◌++◌, length, set, get_or, position, string_bytes, bytes_eq, Option, Some, None, MatchOption, String, refl, sym, ◌∙◌, ap, subst, arith}
use Rattle.std.proofs.lemmas.Bool.{both_ways, false_from_ne_true}
use Rattle.std.proofs.lemmas.List.{length-map, get_or-map, map-set, map-append}
use Rattle.std.proofs.lemmas.List.Quantifiers.{position-Some}
use Rattle.std.proofs.lemmas.List.Sums.{prefix_len_passes}
use Rattle.std.specs.List.{position_or_len}
use Rattle.std.proofs.lemmas.Bool.Decides.{nat_tests}
use Rattle.std.proofs.lemmas.Slice.Eq.{bytes_eq-Decides}
use Rattle.mono_io.specs.Entries.{texts_of}
use Rattle.mono_io.specs.Shelf.{Texts, text_named}
use Rattle.mono_io.specs.Texts.{entry_at, StandsAt, Puts}
use Rattle.std.specs.declared.alloc.Global.{Global}
use Rattle.mono_io.specs.declared.text_table.Entry.{Entry}

-- no text has that name
abbrev IsAbsent : Texts → List ℕ → Type 0
IsAbsent texts name = (k : ℕ) → k < length texts → (entry_at texts k).0 ≡ name → ⊥

-- at this place stands the first text of that name
record IsFirst (texts : Texts) (name : List ℕ) (at : ℕ) : Type 0 where
  within : at < length texts
  named : (entry_at texts at).0 ≡ name
  before : (k : ℕ) → k < at → (entry_at texts k).0 ≡ name → ⊥

bytes_eq-same : (xs ys : List ℕ) → xs ≡ ys → bytes_eq xs ys ≡ true
bytes_eq-same xs ys same = (bytes_eq-Decides xs ys).1 same

bytes_eq-other : (xs ys : List ℕ) → (xs ≡ ys → ⊥) → bytes_eq xs ys ≡ false
bytes_eq-other xs ys other = false_from_ne_true (bytes_eq xs ys) (λ same. other ((bytes_eq-Decides xs ys).0 same))

text_named-here : (name : List ℕ) (entry : List ℕ × List ℕ) (texts : Texts) → entry.0 ≡ name → text_named name (entry ∷ texts) ≡ Some entry.1
text_named-here name entry texts same = ap (λ b. cond b (Some entry.1) (text_named name texts)) (bytes_eq-same name entry.0 (sym same))

text_named-behind : (name : List ℕ) (entry : List ℕ × List ℕ) (texts : Texts) → (entry.0 ≡ name → ⊥) → text_named name (entry ∷ texts) ≡ text_named name texts
text_named-behind name entry texts other = ap (λ b. cond b (Some entry.1) (text_named name texts)) (bytes_eq-other name entry.0 (λ same. other (sym same)))

text_named-first : (name : List ℕ) (texts : Texts) (at : ℕ) → at < length texts → (entry_at texts at).0 ≡ name
    → ((k : ℕ) → k < at → (entry_at texts k).0 ≡ name → ⊥) → text_named name texts ≡ Some (entry_at texts at).1
text_named-first name [] at within named before = absurd (omega arith)
text_named-first name (entry ∷ texts) zero within named before = text_named-here name entry texts named
text_named-first name (entry ∷ texts) (suc at) within named before =
    text_named-behind name entry texts (before 0 (omega arith))
    ∙ text_named-first name texts at (omega arith) named (λ k lt. before (suc k) (omega arith))

text_named-none : (name : List ℕ) (texts : Texts) → IsAbsent texts name → text_named name texts ≡ None
text_named-none name [] none = refl
text_named-none name (entry ∷ texts) none =
    text_named-behind name entry texts (none 0 (omega arith)) ∙ text_named-none name texts (λ k lt. none (suc k) (omega arith))

text_named-set : (name text : List ℕ) (texts : Texts) (at : ℕ) → at < length texts
    → ((k : ℕ) → k < at → (entry_at texts k).0 ≡ name → ⊥) → text_named name (set texts at (name, text)) ≡ Some text
text_named-set name text [] at within before = absurd (omega arith)
text_named-set name text (entry ∷ texts) zero within before = text_named-here name (name, text) texts refl
text_named-set name text (entry ∷ texts) (suc at) within before =
    text_named-behind name entry (set texts at (name, text)) (before 0 (omega arith))
    ∙ text_named-set name text texts at (omega arith) (λ k lt. before (suc k) (omega arith))

-- one more entry in front changes no equation between two lists of texts
text_named-cons : (name : List ℕ) (entry : List ℕ × List ℕ) (texts others : Texts) → text_named name texts ≡ text_named name others
    → text_named name (entry ∷ texts) ≡ text_named name (entry ∷ others)
text_named-cons name entry texts others same = ap (λ (rest : Option (List ℕ)). cond (bytes_eq name entry.0) (Some entry.1) rest) same

text_named-set_other : (name other text : List ℕ) (texts : Texts) (at : ℕ) → (entry_at texts at).0 ≡ name → at < length texts
    → (other ≡ name → ⊥) → text_named other (set texts at (name, text)) ≡ text_named other texts
text_named-set_other name other text [] at named within differs = absurd (omega arith)
text_named-set_other name other text (entry ∷ texts) zero named within differs =
    text_named-behind other (name, text) texts (λ same. differs (sym same))
    ∙ sym (text_named-behind other entry texts (λ same. differs (sym same ∙ named)))
text_named-set_other name other text (entry ∷ texts) (suc at) named within differs =
    text_named-cons other entry (set texts at (name, text)) texts (text_named-set_other name other text texts at named (omega arith) differs)

text_named-push : (name text : List ℕ) (texts : Texts) → IsAbsent texts name → text_named name (texts ++ (name, text) ∷ []) ≡ Some text
text_named-push name text [] none = text_named-here name (name, text) [] refl
text_named-push name text (entry ∷ texts) none =
    text_named-behind name entry (texts ++ (name, text) ∷ []) (none 0 (omega arith))
    ∙ text_named-push name text texts (λ k lt. none (suc k) (omega arith))

text_named-push_other : (name other text : List ℕ) (texts : Texts) → (other ≡ name → ⊥) → text_named other (texts ++ (name, text) ∷ []) ≡ text_named other texts
text_named-push_other name other text [] differs = text_named-behind other (name, text) [] (λ same. differs (sym same))
text_named-push_other name other text (entry ∷ texts) differs =
    text_named-cons other entry (texts ++ (name, text) ∷ []) texts (text_named-push_other name other text texts differs)

StandsAt-first : (texts : Texts) (name : List ℕ) (at : ℕ) → IsFirst texts name at → StandsAt texts name at
StandsAt-first texts name at first = record {
  within = first.within;
  named = first.named;
  text = text_named-first name texts at first.within first.named first.before;
}

Puts-set : (texts : Texts) (name text : List ℕ) (at : ℕ) → IsFirst texts name at → Puts texts (set texts at (name, text)) name text
Puts-set texts name text at first = record {
  put = text_named-set name text texts at first.within first.before;
  others = λ other differs. text_named-set_other name other text texts at first.named first.within differs;
}

Puts-push : (texts : Texts) (name text : List ℕ) → IsAbsent texts name → Puts texts (texts ++ (name, text) ∷ []) name text
Puts-push texts name text none = record {
  put = text_named-push name text texts none;
  others = λ other differs. text_named-push_other name other text texts differs;
}

-- the name at a place of the texts is that of the entry
name_of-entry : (entries : List Entry) (k : ℕ) (other : Entry) → k < length entries → (entry_at (texts_of entries) k).0 ≡ string_bytes (get_or entries k other).name
name_of-entry entries k other within =
    ap (λ (pair : List ℕ × List ℕ). pair.0) (get_or-map (λ (entry : Entry). (string_bytes entry.name, entry.text.items)) entries k other ([], []) within)

pair_eq : {xs ys zs ws : List ℕ} → xs ≡ ys → zs ≡ ws → let pair : List ℕ × List ℕ = (xs, zs) in let other : List ℕ × List ℕ = (ys, ws) in pair ≡ other
pair_eq first second = cc

within-texts_of : (entries : List Entry) (at : ℕ) → at < length entries → at < length (texts_of entries)
within-texts_of entries at within = simp length-map within

IsFirst-position : (entries : List Entry) (name : List ℕ) (at : ℕ) → position (λ entry. bytes_eq (string_bytes entry.name) name) entries ≡ Some at
    → IsFirst (texts_of entries) name at
IsFirst-position [] name at found = cc
IsFirst-position (entry ∷ entries) name at found =
    let p : Entry → Bool = λ e. bytes_eq (string_bytes e.name) name in
    let all : List Entry = entry ∷ entries in
    let facts = position-Some p all at entry found in
    let differs : (k : ℕ) → k < at → string_bytes (get_or all k entry).name ≡ name → ⊥ =
    λ k lt same. both_ways _ (facts.2 k lt) ((bytes_eq-Decides (string_bytes (get_or all k entry).name) name).1 same) in
    record {
      within = within-texts_of all at facts.0;
      named = name_of-entry all at entry facts.0 ∙ (bytes_eq-Decides (string_bytes (get_or all at entry).name) name).0 facts.1;
      before = λ k lt same. differs k lt (sym (name_of-entry all k entry (omega (arith, facts.0, lt))) ∙ same);
    }

all_passed : (p : Entry → Bool) (entries : List Entry) → position p entries ≡ None → length entries ≤ position_or_len p entries
all_passed p entries none = grind (arith, nat_tests)

IsAbsent-position : (entries : List Entry) (name : List ℕ) → position (λ entry. bytes_eq (string_bytes entry.name) name) entries ≡ None
    → IsAbsent (texts_of entries) name
IsAbsent-position [] name none = λ k lt same. absurd (omega arith)
IsAbsent-position (entry ∷ entries) name none =
    let p : Entry → Bool = λ e. bytes_eq (string_bytes e.name) name in
    let all : List Entry = entry ∷ entries in
    λ k lt same.
    let within : k < length all = simp length-map at lt in
    let passes = prefix_len_passes (λ e. not (p e)) all k entry (omega (arith, all_passed p all none, within)) in
    let named : p (get_or all k entry) ≡ true = (bytes_eq-Decides (string_bytes (get_or all k entry).name) name).1 (sym (name_of-entry all k entry within) ∙ same) in
    let not_named : false ≡ true = sym (ap not named) ∙ passes in
    cc

-- what the place of the first entry of that name says of the texts
pub found_place : (place : Option ℕ) (entries : List Entry) (name : List ℕ) → place ≡ position (λ entry. bytes_eq (string_bytes entry.name) name) entries
    → MatchOption place (text_named name (texts_of entries) ≡ None) (StandsAt (texts_of entries) name)
found_place None entries name found = text_named-none name (texts_of entries) (IsAbsent-position entries name (sym found))
found_place (Some at) entries name found = StandsAt-first (texts_of entries) name at (IsFirst-position entries name at (sym found))

-- the entry there gets another text
pub Puts-replaced : (entries : List Entry) (name text : List ℕ) (at : ℕ) (old entry : Entry)
    → Some at ≡ position (λ e. bytes_eq (string_bytes e.name) name) entries → old ≡ get_or entries at old
    → entry.name ≡ old.name → entry.text.items ≡ text → Puts (texts_of entries) (texts_of (set entries at entry)) name text
Puts-replaced entries name text at old entry found stood same_name is_text =
    let first = IsFirst-position entries name at (sym found) in
    let within = (position-Some (λ (e : Entry). bytes_eq (string_bytes e.name) name) entries at old (sym found)).0 in
    let is_name : string_bytes entry.name ≡ name =
    ap (λ (s : String Global). string_bytes s) same_name ∙ ap (λ (e : Entry). string_bytes e.name) stood
    ∙ sym (name_of-entry entries at old within) ∙ first.named in
    let is_set : texts_of (set entries at entry) ≡ set (texts_of entries) at (name, text) =
    map-set (λ (e : Entry). (string_bytes e.name, e.text.items)) entries at entry
    ∙ ap (λ (pair : List ℕ × List ℕ). set (texts_of entries) at pair) (pair_eq is_name is_text) in
    subst (λ (now : Texts). Puts (texts_of entries) now name text) (sym is_set) (Puts-set (texts_of entries) name text at first)

-- an entry is added
pub Puts-added : (entries now : List Entry) (name text : List ℕ) (entry : Entry)
    → None ≡ position (λ e. bytes_eq (string_bytes e.name) name) entries → now ≡ entries ++ entry ∷ []
    → string_bytes entry.name ≡ name → entry.text.items ≡ text → Puts (texts_of entries) (texts_of now) name text
Puts-added entries now name text entry found is_now is_name is_text =
    let none = IsAbsent-position entries name (sym found) in
    let is_push : texts_of now ≡ texts_of entries ++ (name, text) ∷ [] =
    ap texts_of is_now ∙ map-append (λ (e : Entry). (string_bytes e.name, e.text.items)) entries (entry ∷ [])
    ∙ ap (λ (pair : List ℕ × List ℕ). texts_of entries ++ pair ∷ []) (pair_eq is_name is_text) in
    subst (λ (texts : Texts). Puts (texts_of entries) texts name text) (sym is_push) (Puts-push (texts_of entries) name text none)

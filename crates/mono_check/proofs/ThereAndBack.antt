-- What an accepted answer is migrated to says what it says, so that one that is migrated to version 2 and back is the same bytes again.
use Rattle.std.proofs.Common.{◌≡◌, ◌≤◌, ◌<◌, ℕ, suc, ◌+◌, ◌-◌, ◌^◌, Bool, true, false, not, ◌&&◌, List, [], ◌∷◌, length, map, Option, Some, None, refl, sym, ap, subst, ◌∙◌, arith, pos}
use Rattle.std.specs.Prelude.{IsTrue, nat_le, ◌==◌, if◌then◌else◌}
use Rattle.std.specs.List.{list_all, slice_split}
use Rattle.std.proofs.lemmas.Bool.{and_parts, and_from, le-leb}
use Rattle.std.proofs.lemmas.List.{length-map}
use Rattle.std.proofs.lemmas.List.FromFn.{length-map-range_with_len, length-enumerate_from}
use Rattle.std.proofs.lemmas.List.Splits.{length-slice_split}
use Rattle.std.proofs.lemmas.List.Sums.{count_by-le-length, length-filter}
use Rattle.mono_base.specs.declared.limits.TheConstants.{MAX_VARS}
use Rattle.mono_base.specs.Literal.{has_lit}
use Rattle.mono_text.specs.Text.{is_empty, is_line_feed, is_skipped, tokens_of, lines_of, without_empty_end, numbered_from}
use Rattle.mono_problem.specs.Instance.{Instance}
use Rattle.mono_problem.specs.WellFormed.{IsInstance}
use Rattle.mono_steps.specs.declared.step.Step.{Step}
use Rattle.mono_steps.specs.declared.step.Step.TheVariants as step
use Rattle.mono_answer.specs.declared.kind.Kind.{Kind}
use Rattle.mono_answer.specs.declared.kind.Kind.TheVariants as kind
use Rattle.mono_answer.specs.declared.item.Item.{Item}
use Rattle.mono_answer.specs.declared.item.Item.TheVariants as says
use Rattle.mono_answer.specs.declared.answer.Answer.{Answer}
use Rattle.mono_answer.specs.declared.answer.Answer.TheVariants as answer
use Rattle.mono_answer.specs.declared.version.Version.{Version}
use Rattle.mono_answer.specs.declared.version.Version.TheVariants as version
use Rattle.mono_answer.specs.Versions.{is_version_two, turned_numbers, turned, turned_steps, step_by, item_by, items_by, number_behind, all_name_earlier}
use Rattle.mono_answer.specs.Items.{item_of, spoken_of, said_in, answer_said_in, items_of}
use Rattle.mono_answer.specs.Printed.{answer_text_as, answer_items, in_lines_as, is_literal, is_clause_number, is_step_within, is_within_format, is_within_format_as}
use Rattle.mono_answer.proofs.RoundTrip.{version_is_read}
use Rattle.mono_answer.proofs.Within.{IsWithinItem, item_within}
use Rattle.mono_check.specs.declared.verdict.Verdict.{Verdict}
use Rattle.mono_check.specs.declared.verdict.Verdict.TheVariants as verdict
use Rattle.mono_check.specs.Answers.{HasSteps, SaysModel}
use Rattle.mono_check.specs.StepLines.{steps_in}
use Rattle.mono_check.specs.Verdicts.{IsVerdict}
use Rattle.mono_check.specs.Migrations.{is_accepted, StandsFor, MigratesTo}
use Rattle.mono_check.proofs.Accepted.{refutation_iff, progress_iff, model_iff, steps_are_held, steps_justified}
use Rattle.mono_check.proofs.HeldSteps.{justified_earlier}
use Rattle.mono_check.proofs.PrintedValues.{model_stands}
use Rattle.mono_check.proofs.Stands.{has_steps, stands_once, migrates_once, never_both}

-- ---- how many steps a text has

lines_no_more : (xs : List (List ℕ)) → length (without_empty_end xs) ≤ length xs
lines_no_more [] = omega arith
lines_no_more (x ∷ []) = by_test (is_empty x)
  where
    by_test : (b : Bool) → length (if b then [] else x ∷ []) ≤ 1
    by_test true = omega arith
    by_test false = omega arith
lines_no_more (x ∷ y ∷ more) = let rest = lines_no_more (y ∷ more) in omega (arith, rest)

few_spoken : (text : List ℕ) → length (spoken_of text) ≤ length text + 1
few_spoken text =
    let kept = length-filter (λ (l : ℕ × List ℕ). not (is_skipped (tokens_of l.1))) (numbered_from 1 (lines_of text)) in
    let some = count_by-le-length (λ (l : ℕ × List ℕ). not (is_skipped (tokens_of l.1))) (numbered_from 1 (lines_of text)) in
    let numbered = length-enumerate_from 1 (lines_of text) in
    let cut = lines_no_more (slice_split is_line_feed text) in
    let pieces = length-slice_split is_line_feed text in
    let feeds = count_by-le-length is_line_feed text in
    omega (arith, kept, some, numbered, cut, pieces, feeds)

-- ---- steps that are read are within the format, in either version

abbrev AreWithinLines : List (ℕ × Option Item) → Type 0
AreWithinLines [] = Unit {0}
AreWithinLines (l ∷ ls) = IsWithinItem l.1 × AreWithinLines ls

said_within : (lines : List (ℕ × List ℕ)) → AreWithinLines (said_in lines)
said_within [] = tt
said_within (l ∷ ls) = (item_within (tokens_of l.1), said_within ls)

numbers_within : (m : ℕ) (ds : List ℕ) → m < 2 ^ 64 → IsTrue (list_all is_clause_number (turned_numbers m ds))
numbers_within m [] h = refl
numbers_within m (d ∷ ds) h =
    let low : m - d ≤ 2 ^ 64 - 1 = omega (arith, h) in
    and_from (is_clause_number (m - d)) (list_all is_clause_number (turned_numbers m ds)) (le-leb (m - d) (2 ^ 64 - 1) low) (numbers_within m ds h)

turned_within : (m : ℕ) (s : Step) → m < 2 ^ 64 → IsTrue (is_step_within s) → IsTrue (is_step_within (turned m s))
turned_within m (step.Lemma l) h k = k
turned_within m (step.Chain c) h k =
    let p = and_parts (list_all is_literal c.clause && list_all is_clause_number c.used) (not (length c.used == 0)) k in
    let q = and_parts (list_all is_literal c.clause) (list_all is_clause_number c.used) p.0 in
    let some : IsTrue (not (length (turned_numbers m c.used) == 0)) = subst (λ (n : ℕ). IsTrue (not (n == 0))) (sym (length-map c.used (λ (d : ℕ). m - d))) p.1 in
    and_from (list_all is_literal c.clause && list_all is_clause_number (turned_numbers m c.used)) (not (length (turned_numbers m c.used) == 0))
    (and_from (list_all is_literal c.clause) (list_all is_clause_number (turned_numbers m c.used)) q.0 (numbers_within m c.used h)) some

step_by_within : (v : Version) (m : ℕ) (s : Step) → m < 2 ^ 64 → IsTrue (is_step_within s) → IsTrue (is_step_within (step_by v m s))
step_by_within version.One m s h k = k
step_by_within version.Two m s h k = turned_within m s h k

item_by_within : (v : Version) (m : ℕ) (i : Option Item) → m < 2 ^ 64 → IsWithinItem i → IsWithinItem (item_by v m i)
item_by_within v m None h k = tt
item_by_within v m (Some (says.Status q)) h k = tt
item_by_within v m (Some (says.Values zs)) h k = tt
item_by_within v m (Some (says.Step s)) h k = step_by_within v m s h k

next_below : (m n : ℕ) (i : Option Item) → m + suc n < 2 ^ 64 → number_behind m i + n < 2 ^ 64
next_below m n None h = omega (arith, h)
next_below m n (Some (says.Status q)) h = omega (arith, h)
next_below m n (Some (says.Values zs)) h = omega (arith, h)
next_below m n (Some (says.Step s)) h = omega (arith, h)

items_within : (v : Version) (m : ℕ) (ls : List (ℕ × Option Item)) → m + length ls < 2 ^ 64 → AreWithinLines ls → AreWithinLines (items_by v m ls)
items_within v m [] h k = tt
items_within v m ((n, i) ∷ ls) h k = (item_by_within v m i (omega (arith, h)) k.0, items_within v (number_behind m i) ls (next_below m (length ls) i h) k.1)

answer_within : (c : ℕ) (lines : List (ℕ × List ℕ)) → c + 1 + length lines < 2 ^ 64 → AreWithinLines (answer_said_in c lines)
answer_within c [] h = tt
answer_within c (l ∷ ls) h = by_test (is_version_two (tokens_of l.1))
  where
    said : length (said_in ls) ≡ length ls
    said = length-map ls (λ (l : ℕ × List ℕ). (l.0, item_of (tokens_of l.1)))

    below : c + 1 + length (said_in ls) < 2 ^ 64
    below = omega (arith, h, said)

    by_test : (b : Bool) → AreWithinLines (if b then items_by version.Two (c + 1) (said_in ls) else said_in (l ∷ ls))
    by_test true = items_within version.Two (c + 1) (said_in ls) below (said_within ls)
    by_test false = said_within (l ∷ ls)

steps_within : (ls : List (ℕ × Option Item)) → AreWithinLines ls → IsTrue (list_all is_step_within (steps_in ls))
steps_within [] h = refl
steps_within ((n, None) ∷ ls) h = steps_within ls h.1
steps_within ((n, Some (says.Status k)) ∷ ls) h = steps_within ls h.1
steps_within ((n, Some (says.Values zs)) ∷ ls) h = steps_within ls h.1
steps_within ((n, Some (says.Step s)) ∷ ls) h = and_from (is_step_within s) (list_all is_step_within (steps_in ls)) h.0 (steps_within ls h.1)

few_steps : (ls : List (ℕ × Option Item)) → length (steps_in ls) ≤ length ls
few_steps [] = omega arith
few_steps ((n, None) ∷ ls) = let rest = few_steps ls in omega (arith, rest)
few_steps ((n, Some (says.Status k)) ∷ ls) = let rest = few_steps ls in omega (arith, rest)
few_steps ((n, Some (says.Values zs)) ∷ ls) = let rest = few_steps ls in omega (arith, rest)
few_steps ((n, Some (says.Step s)) ∷ ls) = let rest = few_steps ls in omega (arith, rest)

items_as_many : (v : Version) (m : ℕ) (ls : List (ℕ × Option Item)) → length (items_by v m ls) ≡ length ls
items_as_many v m [] = refl
items_as_many v m ((n, i) ∷ ls) = ap suc (items_as_many v (number_behind m i) ls)

few_items : (c : ℕ) (lines : List (ℕ × List ℕ)) → length (answer_said_in c lines) ≤ length lines
few_items c [] = omega arith
few_items c (l ∷ ls) = by_test (is_version_two (tokens_of l.1))
  where
    said : length (said_in ls) ≡ length ls
    said = length-map ls (λ (l : ℕ × List ℕ). (l.0, item_of (tokens_of l.1)))

    by_test : (b : Bool) → length (if b then items_by version.Two (c + 1) (said_in ls) else said_in (l ∷ ls)) ≤ suc (length ls)
    by_test true = let many = items_as_many version.Two (c + 1) (said_in ls) in omega (arith, many, said)
    by_test false = omega (arith, said)

all_turned_within : (m : ℕ) (ss : List Step) → m + length ss < 2 ^ 64 → IsTrue (list_all is_step_within ss) → IsTrue (list_all is_step_within (turned_steps m ss))
all_turned_within m [] h k = refl
all_turned_within m (s ∷ ss) h k =
    let p = and_parts (is_step_within s) (list_all is_step_within ss) k in
    and_from (is_step_within (turned m s)) (list_all is_step_within (turned_steps (m + 1) ss)) (turned_within m s (omega (arith, h)) p.0) (all_turned_within (m + 1) ss (omega (arith, h)) p.1)

-- ---- the answer that a text stands for can be written in both versions

record IsWritable (c : ℕ) (a : Answer) : Type 0 where
  pub one : IsTrue (is_within_format a)
  pub two : IsTrue (is_within_format_as version.Two c a)

-- a model gives a value to each variable
as_many_values : (p : Instance) (text : List ℕ) (values : List Bool) → SaysModel p text values → length values ≡ p.vars
as_many_values p text values has = ap length has.true_where ∙ length-map-range_with_len (λ (x : ℕ). has_lit has.lits (pos x)) 1 p.vars

model_writable : (p : Instance) (text : List ℕ) (values : List Bool) → IsInstance p → SaysModel p text values → IsWritable (length p.clauses) (answer.Model values)
model_writable p text values ok has =
    let len = as_many_values p text values has in
    let few : length values ≤ MAX_VARS = omega (arith, len, ok.vars) in
    let within : IsTrue (nat_le (length values) MAX_VARS) = le-leb (length values) MAX_VARS few in
    record { one = within; two = and_from (nat_le (length values) MAX_VARS) true within refl }

record AreWritable (c : ℕ) (ss : List Step) : Type 0 where
  pub one : IsTrue (list_all is_step_within ss)
  pub two : IsTrue (list_all is_step_within (turned_steps (c + 1) ss))

steps_writable : (p : Instance) (text : List ℕ) (k : Kind) (ss : List Step) → IsInstance p → length text < 2 ^ 63 → HasSteps (length p.clauses) k text ss → AreWritable (length p.clauses) ss
steps_writable p text k ss ok small has =
    let c = length p.clauses in
    let held : steps_in (items_of c text) ≡ ss = steps_are_held c k text ss has in
    let lines = few_spoken text in
    let items = few_items c (spoken_of text) in
    let steps = few_steps (items_of c text) in
    let many = ap length held in
    let within : IsTrue (list_all is_step_within ss) =
    subst (λ (xs : List Step). IsTrue (list_all is_step_within xs)) held (steps_within (items_of c text) (answer_within c (spoken_of text) (omega (arith, lines, small, ok.few_clauses)))) in
    record { one = within; two = all_turned_within (c + 1) ss (omega (arith, lines, items, steps, many, small, ok.few_clauses)) within }

accepted_writable : (p : Instance) (text : List ℕ) (w : Verdict) (a : Answer) → IsInstance p → length text < 2 ^ 63 → IsTrue (is_accepted w) → IsVerdict p text w → StandsFor p text a → IsWritable (length p.clauses) a
accepted_writable p text w (answer.Model values) ok small accepted judged h = model_writable p text values ok h
accepted_writable p text w (answer.Refutation ss) ok small accepted judged h =
    let r = steps_writable p text kind.Refutation ss ok small h in
    let early = justified_earlier p p.clauses ss (steps_justified p text w true ss accepted judged h) in
    record { one = r.one; two = and_from (list_all is_step_within (turned_steps (length p.clauses + 1) ss)) (all_name_earlier (length p.clauses + 1) ss) r.two early }
accepted_writable p text w (answer.Progress ss) ok small accepted judged h =
    let r = steps_writable p text kind.Progress ss ok small h in
    let early = justified_earlier p p.clauses ss (steps_justified p text w false ss accepted judged h) in
    record { one = r.one; two = and_from (list_all is_step_within (turned_steps (length p.clauses + 1) ss)) (all_name_earlier (length p.clauses + 1) ss) r.two early }

-- ---- the printed text, in either version, stands for the same answer

steps_stand : (c : ℕ) (k : Kind) (a : Answer) (ss : List Step) (v : Version) → answer_items a ≡ says.Status k ∷ map says.Step ss → IsWritable c a → HasSteps c k (answer_text_as a v c) ss
steps_stand c k a ss version.One is w =
    has_steps c 1 k (answer_text_as a version.One c) ss (version_is_read c a version.One w.one ∙ ap (in_lines_as version.One) is)
steps_stand c k a ss version.Two is w =
    has_steps c 2 k (answer_text_as a version.Two c) ss (version_is_read c a version.Two w.two ∙ ap (in_lines_as version.Two) is)

printed_stands : (p : Instance) (text : List ℕ) (a : Answer) (v : Version) → IsInstance p → IsWritable (length p.clauses) a → StandsFor p text a → StandsFor p (answer_text_as a v (length p.clauses)) a
printed_stands p text (answer.Model values) v ok w h = model_stands p values v ok (as_many_values p text values h)
printed_stands p text (answer.Refutation ss) v ok w h = steps_stand (length p.clauses) kind.Refutation (answer.Refutation ss) ss v refl w
printed_stands p text (answer.Progress ss) v ok w h = steps_stand (length p.clauses) kind.Progress (answer.Progress ss) ss v refl w

-- ---- what an accepted answer is migrated to

pub migrated_answer : (p : Instance) (text other : List ℕ) (v : Version) (a : Answer) → IsInstance p → length text < 2 ^ 63 → MigratesTo p text v other → StandsFor p text a → StandsFor p other a
migrated_answer p text other v a ok small m h =
    let w = accepted_writable p text m.verdict a ok small m.accepted m.judged h in
    let is : other ≡ answer_text_as a v (length p.clauses) = m.is ∙ ap (λ (x : Answer). answer_text_as x v (length p.clauses)) (stands_once p text m.answer a m.stands h) in
    subst (λ (t : List ℕ). StandsFor p t a) (sym is) (printed_stands p text a v ok w h)

pub migrated_verdict : (p : Instance) (text other : List ℕ) (v : Version) (w : Verdict) → IsInstance p → length text < 2 ^ 63 → MigratesTo p text v other → IsVerdict p text w → IsVerdict p other w
migrated_verdict p text other v verdict.Model ok small m h =
    let (values, has, right) = (model_iff p text).0 h in
    (model_iff p other).1 (values, migrated_answer p text other v (answer.Model values) ok small m has, right)
migrated_verdict p text other v verdict.Refutation ok small m h =
    let (ss, has, right) = (refutation_iff p text).0 h in
    (refutation_iff p other).1 (ss, migrated_answer p text other v (answer.Refutation ss) ok small m has, right)
migrated_verdict p text other v (verdict.Progress n) ok small m h =
    let (ss, has, right, count) = (progress_iff p text n).0 h in
    (progress_iff p other n).1 (ss, migrated_answer p text other v (answer.Progress ss) ok small m has, right, count)
migrated_verdict p text other v (verdict.Rejected n r) ok small m h = absurd (never_both p text v other n r m h)

pub migrated_again : (p : Instance) (text other third : List ℕ) (v w : Version) → IsInstance p → length text < 2 ^ 63 → MigratesTo p text v other → MigratesTo p text w third → MigratesTo p other w third
migrated_again p text other third v w ok small m n = record {
  verdict = n.verdict;
  judged = migrated_verdict p text other v n.verdict ok small m n.judged;
  accepted = n.accepted;
  answer = n.answer;
  stands = migrated_answer p text other v n.answer ok small m n.stands;
  is = n.is;
}

-- ---- there and back

pub there_and_back : (p : Instance) (text there back : List ℕ) → IsInstance p → length text < 2 ^ 63 → MigratesTo p text version.One text → MigratesTo p text version.Two there → MigratesTo p there version.One back → back ≡ text
there_and_back p text there back ok small m n o = migrates_once p there version.One back text o (migrated_again p text there text version.Two version.One ok small n m)

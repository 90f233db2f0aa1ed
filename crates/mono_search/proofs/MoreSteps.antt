-- Steps that join the journal, from call to call, and how many of them are chains.
use Rattle.std.proofs.Common.{◌≡◌, ℕ, ◌+◌, ◌∙◌, List, [], ◌∷◌, ◌++◌, length, sym, ap, append_assoc}
use Rattle.std.specs.Prelude.{Result, Ok, Err, OnOk, OnErr}
use Rattle.std.proofs.lemmas.List.{append-nil}
use Rattle.mono_problem.specs.Instance.{Instance}
use Rattle.mono_steps.specs.declared.lemma.Lemma.{Lemma}
use Rattle.mono_steps.specs.declared.step.Step.{Step}
use Rattle.mono_steps.specs.declared.step.Step.TheVariants as step
use Rattle.mono_steps.specs.Journals.{chain_count, lemma_steps, AddsLemmas}
use Rattle.mono_steps.proofs.JournalSteps.{chains-lemmas, count-chain}
use Rattle.mono_trail.specs.TrailView.{TrailView}
use Rattle.mono_learn.specs.declared.learn.Learnt.{Learnt}
use Rattle.mono_learn.specs.Learned.{Learns, Refutes}
use Rattle.mono_search.specs.Outcomes.{HasMoreSteps}

-- ---- the steps

pub more_none : (old new : List Step) → new ≡ old → HasMoreSteps old new
more_none old new same = record { more = []; joined = same ∙ sym (append-nil old) }

pub more_pushed : {E : Type 0} (x : Result ℕ E) (old new : List Step) (m : Lemma) → OnOk x (new ≡ old ++ step.Lemma m ∷ []) → OnErr x (new ≡ old) → HasMoreSteps old new
more_pushed (Ok n) old new m ok err = record { more = step.Lemma m ∷ []; joined = ok }
more_pushed (Err e) old new m ok err = more_none old new err

pub more_lemmas : (old new : List Step) → AddsLemmas old new → HasMoreSteps old new
more_lemmas old new a = record { more = lemma_steps a.lemmas; joined = a.pushed }

more_chain : (old new between : List Step) (s : Step) → new ≡ (old ++ between) ++ s ∷ [] → HasMoreSteps old new
more_chain old new between s e = record { more = between ++ s ∷ []; joined = e ∙ append_assoc old between (s ∷ []) }

pub more_learned : (p : Instance) (t : TrailView) (old new : List Step) (r : Learnt) → Learns p t old new r → HasMoreSteps old new
more_learned p t old new r l = more_chain old new (lemma_steps l.lemmas) (step.Chain (record { clause = r.clause; used = l.used })) l.pushed

pub more_refuted : (p : Instance) (old new : List Step) (n : ℕ) → Refutes p old new n → HasMoreSteps old new
more_refuted p old new n r = more_chain old new (lemma_steps r.lemmas) (step.Chain (record { clause = []; used = r.used })) r.pushed

-- more joined, and then more again
pub more_after : {u v w : List Step} → HasMoreSteps u v → HasMoreSteps v w → HasMoreSteps u w
more_after {u = u} first second =
    record { more = first.more ++ second.more; joined = second.joined ∙ ap (λ (steps : List Step). steps ++ second.more) first.joined ∙ append_assoc u first.more second.more }

pub more_same : {u v w : List Step} → w ≡ v → HasMoreSteps u v → HasMoreSteps u w
more_same same h = record { more = h.more; joined = same ∙ h.joined }

-- ---- the chains among them

pub count_lemmas : (old new : List Step) → AddsLemmas old new → chain_count new ≡ chain_count old
count_lemmas old new a = ap chain_count a.pushed ∙ ap length (chains-lemmas old a.lemmas)

pub count_refuted : (p : Instance) (old new : List Step) (n : ℕ) → Refutes p old new n → chain_count new ≡ chain_count old + 1
count_refuted p old new n r = ap chain_count r.pushed
    ∙ count-chain (old ++ lemma_steps r.lemmas) (record { clause = []; used = r.used }) ∙ ap (λ (k : ℕ). k + 1) (ap length (chains-lemmas old r.lemmas))

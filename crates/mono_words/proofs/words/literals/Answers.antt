use Rattle.std.proofs.Common.{◌∙◌, map, string_bytes, sym, ap, arith}
use Rattle.mono_words.specs.Commands.{lit_of, lits_of}
use Rattle.mono_words.proofs.Literals.{literal_begin, literal_more, no_literal, literal_end, lits_within}
use Rattle.mono_words.proofs.words.literals.Goals as goal

pub loop-place-init : goal.loop-place-init
loop-place-init c = literal_begin c.in_ok-lits.lits.items (lits_of (map string_bytes c.args.words.now)) c.in_ok-lits.ensures.items

pub returns-in-None-clause-value : goal.returns-in-None-clause-value
returns-in-None-clause-value c =
    no_literal string_bytes c.args.words.now c.loop-place.place c.index-words-place.result c.loop-place.lits.items c.loop-place-test.true c.index-words-place.is
    (sym c.in-None.is ∙ (c.lit.ensures ∙ ap lit_of c.as_str.ensures.value)) c.loop-place.invariant

pub loop-place-preserved : goal.loop-place-preserved
loop-place-preserved c =
    literal_more string_bytes c.args.words.now c.loop-place.place c.index-words-place.result c.in-Some.lit c.loop-place.lits.items c.push.new.self.items c.loop-place-test.true c.index-words-place.is
    (sym c.in-Some.is ∙ (c.lit.ensures ∙ ap lit_of c.as_str.ensures.value)) c.in_ok-push-in-Some.ensures.items c.loop-place.invariant

pub returns-clause-value : goal.returns-clause-value
returns-clause-value c = literal_end string_bytes c.args.words.now c.loop-place.place c.loop-place.lits.items (omega (arith, c.loop-place-test.false)) c.loop-place.invariant

pub returns-clause-within : goal.returns-clause-within
returns-clause-within c =
    lits_within (map string_bytes c.args.words.now) c.loop-place.lits.items
    (sym (literal_end string_bytes c.args.words.now c.loop-place.place c.loop-place.lits.items (omega (arith, c.loop-place-test.false)) c.loop-place.invariant))

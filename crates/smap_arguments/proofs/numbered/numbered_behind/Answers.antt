use Rattle.std.proofs.Common.{◌≤◌, ◌∙◌, ap, length, sym}
use Rattle.std.proofs.lemmas.List.{length-map}
use Rattle.smap_arguments.specs.Arguments.{texts}
use Rattle.smap_arguments.specs.Numbered.{numbered}
use Rattle.smap_arguments.proofs.NumberedLaws.{numbered_all, word_numbered}
use Rattle.smap_arguments.proofs.numbered.numbered_behind.Goals as goal

pub loop-word-preserved : goal.loop-word-preserved
loop-word-preserved c =
    let at = c.loop-word in
    let may = c.still_options-may_be_options.result in
    word_numbered at.all.items c.push-in-loop-word.new.self.items at.may_be_options may at.word-index c.args.program.now c.args.words.now c.word-item.result
    c.in_ok-numbered.field-0 c.deref.result.now c.loop-word-test.true c.word-item.is c.deref.ensures at.invariant c.still_options-may_be_options.ensures
    (c.in_ok-numbered.ensures ∙ ap (numbered may) (c.deref-in-loop-word.ensures ∙ sym c.deref.ensures)) c.in_ok-push-2.ensures.items

pub returns : goal.returns
returns c =
    let at = c.loop-word in
    let past : length (texts c.args.words.now) ≤ at.word-index = rw length-map c.loop-word-test.false in
    numbered_all (texts at.all.items) at.may_be_options at.word-index c.args.program.now (texts c.args.words.now) past at.invariant

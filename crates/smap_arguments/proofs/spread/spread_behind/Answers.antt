use Rattle.std.proofs.Common.{◌≤◌, length}
use Rattle.std.proofs.lemmas.List.{length-map}
use Rattle.smap_arguments.specs.Arguments.{texts}
use Rattle.smap_arguments.proofs.SpreadLaws.{passed_all, word_passed}
use Rattle.smap_arguments.proofs.spread.spread_behind.Goals as goal

pub loop-word-preserved : goal.loop-word-preserved
loop-word-preserved c =
    let at = c.loop-word in
    word_passed c.args.is_generated (texts at.all.items) (texts c.push_word.new.all.items) at.is_spread c.in_ok-is_spread.is_spread at.word-index c.args.program.now
    c.args.words.now c.word-item.result c.deref.result.now c.loop-word-test.true c.word-item.is c.deref.ensures at.invariant c.in_ok-is_spread.ensures

pub returns : goal.returns
returns c =
    let at = c.loop-word in
    let past : length (texts c.args.words.now) ≤ at.word-index = rw length-map c.loop-word-test.false in
    passed_all c.args.is_generated (texts at.all.items) at.is_spread at.word-index c.args.program.now (texts c.args.words.now) past at.invariant

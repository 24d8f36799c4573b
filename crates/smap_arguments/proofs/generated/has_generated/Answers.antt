use Rattle.std.proofs.Common.{◌∙◌, sym}
use Rattle.smap_arguments.proofs.Lines.{ended_at, generated_at, none_generated, still_behind}
use Rattle.smap_arguments.proofs.generated.has_generated.Goals as goal

pub returns-then-ends_options : goal.returns-then-ends_options
returns-then-ends_options c =
    let at = c.loop-word in
    ended_at c.args.words.now at.word-index c.word-item.result c.as_str-text.result.now c.loop-word-test.true c.word-item.is
    c.as_str-text.ensures.value at.invariant (sym c.ends_options.ensures ∙ c.if-ends_options.true)

pub returns-then-is_generated : goal.returns-then-is_generated
returns-then-is_generated c =
    let at = c.loop-word in
    generated_at c.args.words.now at.word-index c.word-item.result c.as_str-text.result.now c.loop-word-test.true c.word-item.is
    c.as_str-text.ensures.value at.invariant (sym c.ends_options.ensures ∙ c.if-ends_options.false)
    (sym c.is_generated.ensures ∙ c.if-is_generated.true)

pub loop-word-preserved : goal.loop-word-preserved
loop-word-preserved c =
    let at = c.loop-word in
    still_behind c.args.words.now at.word-index c.word-item.result c.as_str-text.result.now c.loop-word-test.true c.word-item.is
    c.as_str-text.ensures.value at.invariant (sym c.ends_options.ensures ∙ c.if-ends_options.false)
    (sym c.is_generated.ensures ∙ c.if-is_generated.false)

pub returns : goal.returns
returns c =
    let at = c.loop-word in
    none_generated c.args.words.now at.word-index c.loop-word-test.false at.invariant

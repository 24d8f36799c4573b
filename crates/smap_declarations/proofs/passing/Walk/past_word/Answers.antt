use Rattle.std.proofs.Common.{ap, arith, sym, ◌∙◌, length}
use Rattle.std.specs.List.{list_all}
use Rattle.smap_declarations.specs.Private.Passing.{is_ascii}
use Rattle.smap_declarations.specs.Walk.{keyword_of}
use Rattle.smap_declarations.proofs.PassingLaws.{byte_passed, word_fits, word_passed}
use Rattle.smap_declarations.proofs.passing.Walk.past_word.Goals as goal

pub returns-then-is_ascii : goal.returns-then-is_ascii
returns-then-is_ascii c =
    word_passed c.args.self.before c.args.self.place c.args.byte c.args.behind.now c.args.self.rest.now c.keyword_of.result _ c.args.after.now
    c.requires.rest c.requires.begins
    (ap (list_all is_ascii) (sym c.requires.word) ∙ sym c.is_ascii.ensures ∙ c.if-is_ascii.true)
    (c.keyword_of.ensures ∙ ap keyword_of c.requires.word) (ap length c.requires.word) c.requires.after

pub returns-else-is_ascii : goal.returns-else-is_ascii
returns-else-is_ascii c =
    byte_passed c.args.self.before c.past_byte.result.before c.args.self.place c.past_byte.result.place c.args.byte c.args.behind.now
    c.args.self.rest.now c.past_byte.result.rest.now c.requires.rest c.requires.begins
    c.past_byte.ensures.before c.past_byte.ensures.place c.past_byte.ensures.rest

pub overflow_cast-result : goal.overflow_cast-result
overflow_cast-result c = omega (arith, word_fits c.args.self.rest.now, ap length c.requires.word, c.requires.column)

pub overflow_add-result : goal.overflow_add-result
overflow_add-result c = omega (arith, word_fits c.args.self.rest.now, ap length c.requires.word, c.requires.column)

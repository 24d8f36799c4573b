use Rattle.std.proofs.Common.{arith, ap, drop, take, ◌∙◌}
use Rattle.std.proofs.lemmas.List.Sums.{prefix_len-le-length}
use Rattle.smap_declarations.specs.Bytes.{behind_word, is_word_byte, word_in}
use Rattle.smap_declarations.proofs.bytes.split_word.Goals as goal

pub split_at-requires : goal.split_at-requires
split_at-requires c = omega (arith, prefix_len-le-length is_word_byte c.args.text.now)

pub returns-clause-word : goal.returns-clause-word
unfolding word_in
returns-clause-word c = c.split_at.ensures.front ∙ ap (λ n. take n c.args.text.now) c.word_length.ensures

pub returns-clause-behind : goal.returns-clause-behind
unfolding behind_word
returns-clause-behind c = c.split_at.ensures.back ∙ ap (λ n. drop n c.args.text.now) c.word_length.ensures

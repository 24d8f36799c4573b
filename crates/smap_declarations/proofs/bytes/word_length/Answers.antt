use Rattle.std.proofs.Common.{arith, sym, rules}
use Rattle.std.proofs.lemmas.List.Sums.{prefix_len_is}
use Rattle.smap_declarations.specs.Bytes.{is_word_byte}
use Rattle.smap_declarations.proofs.bytes.word_length.Goals as goal

pub returns-then-not-is_word_byte : goal.returns-then-not-is_word_byte
returns-then-not-is_word_byte c = sym (prefix_len_is is_word_byte c.args.text.now c.loop-n.n 0 (omega arith) c.loop-n.invariant (λ less. search rules))

pub returns : goal.returns
returns c = sym (prefix_len_is is_word_byte c.args.text.now _ 0 (omega arith) (λ k less. c.loop-n.invariant k (omega arith)) (λ less. absurd (omega arith)))

use Rattle.std.proofs.Common.{arith}
use Rattle.smap_pairs.proofs.WordLaws.{word_plain}
use Rattle.smap_pairs.proofs.word.begin_by_word.Goals as goal

pub returns-else-is_longer-clause-words : goal.returns-else-is_longer-clause-words
returns-else-is_longer-clause-words c = λ at least most.
    word_plain c.args.line.now c.max-low.result c.args.pair.now.start at c.requires.within
    (omega (arith, c.word_start-start.ensures.start, c.begin_of_path.ensures.least, least)) most

pub returns-in-Some-scheme_start-clause-words : goal.returns-in-Some-scheme_start-clause-words
returns-in-Some-scheme_start-clause-words c = λ at least most.
    word_plain c.args.line.now c.max-low.result c.args.pair.now.start at c.requires.within
    (omega (arith, c.word_start-start.ensures.start, least)) most

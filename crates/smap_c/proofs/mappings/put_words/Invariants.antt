use Rattle.std.proofs.Common.{◌≡◌, ◌++◌, take}
use Rattle.smap_c.specs.Mappings.{word_bytes}
use Rattle.smap_c.proofs.mappings.put_words.Given as goal

-- the first words were put
abbrev pub invariant-loop-word : goal.invariant-loop-word
invariant-loop-word l = l.bytes.items ≡ l.initial.bytes.items ++ word_bytes (take l.word-index l.words)

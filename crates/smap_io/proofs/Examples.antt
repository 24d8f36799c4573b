-- Worked examples of the definitions: each holds by computing both sides.
use Rattle.std.proofs.Common.{◌≡◌, ◌++◌, ◌∷◌, refl, codes}
use Rattle.smap_io.specs.Sequences.{ending_length, kept, without_sequences}

-- in grey and not: the sequences go, and the text stays
grey : without_sequences (codes "at " ++ 27 ∷ codes "[90m/a.js" ++ 27 ∷ codes "[39m:1") ≡ codes "at /a.js:1"
unfolding kept ending_length
grey = refl

-- with parameters, with an intermediate byte, with neither, and two of them
several : without_sequences (27 ∷ codes "[38;5;9m" ++ 27 ∷ codes "[0 q" ++ codes "a" ++ 27 ∷ codes "[K" ++ codes "b") ≡ codes "ab"
unfolding kept ending_length
several = refl

-- one that the end cuts off stays
cut_off : without_sequences (codes "a" ++ 27 ∷ codes "[9") ≡ codes "a" ++ 27 ∷ codes "[9"
unfolding kept ending_length
cut_off = refl

-- what only begins as one stays: another byte than `[`, a byte that fits none, a parameter byte behind an intermediate one
no_sequences : without_sequences (27 ∷ codes "(B" ++ 27 ∷ codes "[9" ++ 7 ∷ codes "m" ++ 27 ∷ codes "[ 1m") ≡
    27 ∷ codes "(B" ++ 27 ∷ codes "[9" ++ 7 ∷ codes "m" ++ 27 ∷ codes "[ 1m"
unfolding kept ending_length
no_sequences = refl

-- and a sequence within it goes
within : without_sequences (27 ∷ codes "[9" ++ 27 ∷ codes "[90mx") ≡ 27 ∷ codes "[9x"
unfolding kept ending_length
within = refl

-- What stands at the front of bytes behind which more may come.
use Rattle.std.specs.Prelude.{◌≡◌, ◌<◌, ◌≤◌, ℕ, ◌-◌, Bool, true, List, ◌∷◌, ◌++◌, length, drop}
use Rattle.smap_io.specs.Sequences.{ending_length, kept, may_become, may_end, most_sequence_bytes, sequence_length}
use Rattle.smap_io.specs.declared.front.Ending.{Ending}
use Rattle.smap_io.specs.declared.front.Ending.TheVariants as ending
use Rattle.smap_io.specs.declared.front.Front.{Front}
use Rattle.smap_io.specs.declared.front.Front.TheVariants as front

-- how a sequence goes on in these bytes, of which at most `most` are its own
abbrev pub IsEnding : List ℕ → (most : ℕ) → (is_intermediate : Bool) → Ending → Type 0
IsEnding bytes most is_intermediate ending.Open =
    (length bytes < most) × (ending_length bytes most is_intermediate ≡ 0) × (may_end bytes is_intermediate ≡ true)
IsEnding bytes most is_intermediate ending.Never = (more : List ℕ) → ending_length (bytes ++ more) most is_intermediate ≡ 0
IsEnding bytes most is_intermediate (ending.Behind count) =
    (0 < count) × (count ≤ length bytes) × ((more : List ℕ) → ending_length (bytes ++ more) most is_intermediate ≡ count)

-- what stands at their front: what follows decides, or it is a byte that stays, or a sequence
abbrev pub IsFront : List ℕ → (most : ℕ) → Front → Type 0
IsFront bytes most front.Open = (length bytes < most_sequence_bytes) × (sequence_length bytes ≡ 0) × (may_become bytes ≡ true)
IsFront bytes most (front.Byte byte) =
    (rest : List ℕ) × (bytes ≡ byte ∷ rest) × ((more : List ℕ) → kept (bytes ++ more) 0 most ≡ byte ∷ kept (rest ++ more) 0 most)
IsFront bytes most (front.Sequence count) = (0 < most) × (0 < count) × (count ≤ length bytes)
    × ((more : List ℕ) → kept (bytes ++ more) 0 most ≡ kept (drop count bytes ++ more) 0 (most - 1))

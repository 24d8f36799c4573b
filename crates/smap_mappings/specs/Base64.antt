-- The digits of Base64 (ECMA-426, Base64 VLQ).
use Rattle.std.specs.Prelude.{ℕ, List, Option, ◌==◌, position, codes}

-- the alphabet, in the order of the values 0 to 63
abbrev pub alphabet : List ℕ
alphabet = codes "ABCDEFGHIJKLMNOPQRSTUVWXYZabcdefghijklmnopqrstuvwxyz0123456789+/"

-- the value of a byte as a digit: its place in the alphabet, if it has one
unfoldable pub digit_of : ℕ → Option ℕ
digit_of byte = position (λ letter. letter == byte) alphabet

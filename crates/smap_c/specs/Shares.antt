-- Which generated files are refused.
use Rattle.std.specs.Prelude.{◌≡◌, ◌⊎◌, ◌<◌, ◌≤◌, ℕ, List, length, IsUtf8}
use Rattle.smap_codes.specs.declared.code.Code.TheVariants.{M1, NotUtf8}
use Rattle.smap_record.specs.Limits.{most_file_bytes}
use Rattle.smap_c.specs.Codes.{code_number}

-- why this text is, as the number of a code: it has more bytes than a map file may have; or no more of them, and is not UTF-8
abbrev pub IsTextRefused : List ℕ → (number : ℕ) → Type 0
IsTextRefused text number =
    ((number ≡ code_number M1) × (most_file_bytes < length text))
    ⊎ ((number ≡ code_number NotUtf8) × (length text ≤ most_file_bytes) × (IsUtf8 text → ⊥))

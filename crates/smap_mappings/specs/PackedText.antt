-- What every checked text meets, which stays packed (ECMA-426, Mappings structure).
use Rattle.std.specs.Prelude.{◌≡◌, ℕ, ◌≤◌, List, length}
use Rattle.smap_mappings.specs.Limits.{most_indices, most_text_bytes}
use Rattle.smap_mappings.specs.Accepted.{IsAccepted}
use Rattle.smap_mappings.specs.Counts.{segment_count, used_lines_of}

-- it is no longer than a text may be, and accepted for as many sources and names as indices can name
pub record IsPacked (text : List ℕ) : Type 0 where
  pub short : length text ≤ most_text_bytes
  pub accepted : IsAccepted text most_indices most_indices

-- and these are its counts
pub record IsPackedWith (text : List ℕ) (segments used_lines : ℕ) : Type 0 where
  pub packed : IsPacked text
  pub segments_are : segments ≡ segment_count text
  pub used_lines_are : used_lines ≡ used_lines_of text

-- The code's limits are those of the definitions.
use Rattle.std.proofs.Common.{◌≡◌, refl}
use Rattle.smap_mappings.specs.Limits.{limit, most_indices, most_digits, most_text_bytes}
use Rattle.smap_mappings.specs.Private.Straight.{most_segment_digits}
use Rattle.smap_mappings.specs.declared.limits.TheConstants.{LIMIT, MOST_INDICES, MOST_DIGITS, MOST_SEGMENT_DIGITS, MOST_MAPPINGS_BYTES}

limit_is : LIMIT ≡ limit
limit_is = refl

most_indices_is : MOST_INDICES ≡ most_indices
most_indices_is = refl

most_digits_is : MOST_DIGITS ≡ most_digits
most_digits_is = refl

most_segment_digits_is : MOST_SEGMENT_DIGITS ≡ most_segment_digits
most_segment_digits_is = refl

most_text_bytes_is : MOST_MAPPINGS_BYTES ≡ most_text_bytes
most_text_bytes_is = refl

-- Of private contracts only: the URLs of frames that are told by their bytes alone to be one and no more.
use Rattle.std.specs.Prelude.{ℕ, ◌==◌, ◌&&◌, ◌||◌, ◌≤◌, Bool, not, nat_le, nat_lt, List, codes}
use Rattle.std.specs.Bool.{nat_eq}
use Rattle.std.specs.List.{list_all, list_any, prefix_len, slice_range, starts_with}
use Rattle.smap_pairs.specs.Seen.{is_by_itself}
use Rattle.smap_pairs.specs.declared.pairs.Pair.{Pair}

abbrev pub is_quote_or_bracket : ℕ → Bool
is_quote_or_bracket byte = list_any (λ sign. byte == sign) (codes "\"'`<>()[]{}")

-- visible ASCII, and neither a quotation mark nor a bracket
abbrev pub is_bare_byte : ℕ → Bool
is_bare_byte byte = nat_lt 32 byte && nat_lt byte 127 && not (is_quote_or_bracket byte)

-- a `/`, or a scheme that many have
abbrev pub begins_bare : List ℕ → Bool
begins_bare url =
    starts_with nat_eq url (codes "https://") || starts_with nat_eq url (codes "/") || starts_with nat_eq url (codes "http://")
    || starts_with nat_eq url (codes "file:///")

abbrev pub is_bare : List ℕ → Bool
is_bare url = begins_bare url && list_all is_bare_byte url

-- the line up to a pair has no escape, and what stands from a byte to the pair is bare and holds no pair
abbrev pub is_bare_before : (text : List ℕ) → (start : ℕ) → Pair → Bool
is_bare_before text start pair =
    nat_le pair.piece start && is_bare (slice_range text start pair.start) && nat_le pair.start (prefix_len is_by_itself text)

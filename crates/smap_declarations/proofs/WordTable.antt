-- The table in `src/bytes.rt` holds, at each byte, whether it is of a word.
use Rattle.std.proofs.Common.{◌≡◌, ℕ, ◌<◌, false, get_or, map, refl, sym, zero-add, ◌∙◌, ap}
use Rattle.std.specs.List.{range_with_len}
use Rattle.std.proofs.lemmas.List.FromFn.{get_or-map-range_with_len}
use Rattle.smap_declarations.specs.Bytes.{is_word_byte}
use Rattle.smap_declarations.specs.declared.bytes.TheConstants.{WORD_BYTES}

all_word_bytes : map (λ byte. get_or WORD_BYTES byte false) (range_with_len 0 256) ≡ map is_word_byte (range_with_len 0 256)
all_word_bytes = refl

pub word_byte_is : (byte : ℕ) → byte < 256 → get_or WORD_BYTES byte false ≡ is_word_byte byte
word_byte_is byte below =
    sym (get_or-map-range_with_len (λ byte. get_or WORD_BYTES byte false) 0 256 byte byte false below (zero-add byte))
    ∙ ap (λ values. get_or values byte false) all_word_bytes ∙ get_or-map-range_with_len is_word_byte 0 256 byte byte false below (zero-add byte)

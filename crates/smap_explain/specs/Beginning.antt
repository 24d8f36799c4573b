-- What the bytes of a file begin as, by the marks of the kinds of files that are taken for source maps by mistake. The
-- kinds are asked in one order, and the first that holds is reported.
use Rattle.std.specs.Prelude.{ℕ, ◌+◌, ◌-◌, List, [], ◌∷◌, Bool, ◌==◌, ◌&&◌, ◌||◌, not, nat_lt, nat_le, nat_eq, is_some, if◌then◌else◌, length, drop, position, unwrap_or, slice_index, codes}
use Rattle.std.specs.List.{starts_with}
use Rattle.memchr.specs.Find.{matches, first_of}
use Rattle.smap_record.specs.FileText.{json_text, without_mark}
use Rattle.smap_explain.specs.declared.explanation.Beginning.{Beginning}
use Rattle.smap_explain.specs.declared.explanation.Beginning.TheVariants.{Nothing, Gzip, Xz, Zstd, Zip, Utf16, Html, DataUrl, Script, Json, Other}

-- ---- files that are no text of UTF-8

-- the first bytes of a file that is packed with gzip (RFC 1952)
abbrev pub is_gzip : List ℕ → Bool
is_gzip bytes = starts_with nat_eq bytes (0x1F ∷ 0x8B ∷ [])

-- those of one that is packed with xz
abbrev pub is_xz : List ℕ → Bool
is_xz bytes = starts_with nat_eq bytes (0xFD ∷ 0x37 ∷ 0x7A ∷ 0x58 ∷ 0x5A ∷ 0 ∷ [])

-- those of one that is packed with zstd (RFC 8878)
abbrev pub is_zstd : List ℕ → Bool
is_zstd bytes = starts_with nat_eq bytes (0x28 ∷ 0xB5 ∷ 0x2F ∷ 0xFD ∷ [])

-- those of a zip archive, or of one with no files
abbrev pub is_zip : List ℕ → Bool
is_zip bytes = starts_with nat_eq bytes (0x50 ∷ 0x4B ∷ 3 ∷ 4 ∷ []) || starts_with nat_eq bytes (0x50 ∷ 0x4B ∷ 5 ∷ 6 ∷ [])

-- the byte order mark of UTF-16, of either order
abbrev pub has_wide_mark : List ℕ → Bool
has_wide_mark bytes = starts_with nat_eq bytes (0xFF ∷ 0xFE ∷ []) || starts_with nat_eq bytes (0xFE ∷ 0xFF ∷ [])

-- a character of ASCII as two bytes, the lower one first, stands at this place
abbrev pub is_low_first : List ℕ → ℕ → Bool
is_low_first bytes at = not (slice_index bytes at == 0) && slice_index bytes (at + 1) == 0

-- or the higher one first
abbrev pub is_high_first : List ℕ → ℕ → Bool
is_high_first bytes at = slice_index bytes at == 0 && not (slice_index bytes (at + 1) == 0)

-- the first two characters are such ones, or the only one is, as in ASCII text of UTF-16
abbrev pub has_wide_characters : List ℕ → Bool
has_wide_characters bytes =
    if length bytes == 2 then is_low_first bytes 0 || is_high_first bytes 0
    else nat_le 4 (length bytes)
    && (is_low_first bytes 0 && is_low_first bytes 2 || is_high_first bytes 0 && is_high_first bytes 2)

-- ---- texts

-- a space, a tab, LF or CR
abbrev pub is_blank : ℕ → Bool
is_blank byte = byte == 32 || byte == 9 || byte == 10 || byte == 13

abbrev pub is_no_blank : ℕ → Bool
is_no_blank byte = not (is_blank byte)

-- the text from its first byte on that is no blank
abbrev pub without_blanks : List ℕ → List ℕ
without_blanks text = drop (unwrap_or (position is_no_blank text) (length text)) text

-- the byte is this small letter, or the same capital one
abbrev pub is_letter : ℕ → ℕ → Bool
is_letter small byte = byte == small || byte == small - 32

-- `data:`, in any case
abbrev pub is_data_url : List ℕ → Bool
is_data_url text =
    nat_lt 4 (length text) && is_letter 100 (slice_index text 0) && is_letter 97 (slice_index text 1)
    && is_letter 116 (slice_index text 2) && is_letter 97 (slice_index text 3) && slice_index text 4 == 58

-- `<`
abbrev pub is_html : List ℕ → Bool
is_html text = starts_with nat_eq text (60 ∷ [])

-- `{` or `[`
abbrev pub is_json : List ℕ → Bool
is_json text = starts_with nat_eq text (123 ∷ []) || starts_with nat_eq text (91 ∷ [])

-- these bytes stand somewhere
abbrev pub has_bytes : List ℕ → List ℕ → Bool
has_bytes text bytes = is_some (first_of (matches text bytes 0))

-- a comment that names a source map, in today's form or the older one
abbrev pub names_a_map : List ℕ → Bool
names_a_map text = has_bytes text (codes "//# sourceMappingURL=") || has_bytes text (codes "//@ sourceMappingURL=")

-- ---- the kinds

-- what a text of UTF-8 begins as
abbrev pub text_begins_as : List ℕ → Beginning
text_begins_as bytes =
    if is_html (without_blanks (without_mark bytes)) then Html
    else (if is_data_url (without_blanks (without_mark bytes)) then DataUrl
    else (if is_json (without_blanks (json_text bytes)) then Json
    else (if names_a_map bytes then Script
    else Other)))

-- what the bytes of a file begin as
unfoldable pub begins_as : List ℕ → Beginning
begins_as bytes =
    if length (without_blanks (without_mark bytes)) == 0 then Nothing
    else (if is_gzip bytes then Gzip
    else (if is_xz bytes then Xz
    else (if is_zstd bytes then Zstd
    else (if is_zip bytes then Zip
    else (if has_wide_mark bytes || has_wide_characters bytes then Utf16
    else text_begins_as bytes)))))

-- Which URL of a frame a pattern may have, and which a folder, or a list without its query: one that is a URL and no more. A frame
-- alone does not say so, since it ends where a line ends that has numbers, and begins behind `at` or `@`.
use Rattle.std.specs.Prelude.{ℕ, ◌==◌, ◌&&◌, ◌||◌, Bool, true, false, not, nat_le, List, [], ◌∷◌, codes, map, reverse, slice_range, if◌then◌else◌}
use Rattle.std.specs.Bool.{nat_eq}
use Rattle.std.specs.Char.{is_ascii_alphabetic}
use Rattle.std.specs.List.{list_any, starts_with}
use Rattle.smap_pairs.specs.Absolute.{is_scheme_byte}
use Rattle.smap_pairs.specs.Before.{has_separator, is_separator}
use Rattle.smap_pairs.specs.Behind.{begins_query, is_barred}
use Rattle.smap_pairs.specs.Brackets.{has_paired_brackets}
use Rattle.smap_pairs.specs.Bytes.{is_control, is_edge_byte}
use Rattle.smap_pairs.specs.Path.{is_path}
use Rattle.smap_pairs.specs.Signs.{is_nothing, signs, text_of}
use Rattle.smap_pairs.specs.declared.pairs.Pair.{Pair}
use Rattle.smap_pairs.specs.declared.seen.SeenByte.{SeenByte}

-- ---- as what a URL begins

-- what stands behind the first byte of a scheme: others of it, and `:/`, or `://` where a `.` is among them
abbrev pub scheme_end : (has_dot : Bool) → List ℕ
scheme_end has_dot = if has_dot then codes "//" else codes "/"

unfoldable pub is_in_scheme : (has_dot : Bool) → List ℕ → Bool
is_in_scheme has_dot [] = false
is_in_scheme has_dot (byte ∷ text) =
    if byte == 58 then starts_with nat_eq text (scheme_end has_dot) else is_scheme_byte byte && is_in_scheme (has_dot || byte == 46) text

-- behind a letter: that, or what stands behind the letter of a drive
abbrev pub is_behind_letter : List ℕ → Bool
is_behind_letter text = starts_with nat_eq text (codes ":\\") || is_in_scheme false text

-- a `/`, a `\`, a scheme or a drive
abbrev pub begins_as_url : List ℕ → Bool
begins_as_url [] = false
begins_as_url (byte ∷ text) = is_separator byte || is_ascii_alphabetic byte && is_behind_letter text

-- ---- a sentence

abbrev pub is_blank_or_quote : ℕ → Bool
is_blank_or_quote byte = is_control byte || byte == 34 || byte == 39

abbrev pub has_blank_or_quote : List ℕ → Bool
has_blank_or_quote text = list_any is_blank_or_quote text

-- a URL begins behind a blank, and behind signs that follow on it; where one may begin with the first byte
unfoldable pub begins_again : (is_behind_blank : Bool) → List ℕ → Bool
begins_again is_behind_blank [] = false
begins_again is_behind_blank (byte ∷ text) =
    is_behind_blank && begins_as_url (byte ∷ text) || begins_again (is_control byte || is_behind_blank && is_edge_byte byte) text

abbrev pub is_bracket : ℕ → Bool
is_bracket byte = list_any (λ bracket. byte == bracket) (codes "()[]{}")

-- a `/` stands behind a sign that is no bracket; where one may stand before the first byte
unfoldable pub has_slash_behind_sign : (is_behind_sign : Bool) → List ℕ → Bool
has_slash_behind_sign is_behind_sign [] = false
has_slash_behind_sign is_behind_sign (byte ∷ text) =
    is_behind_sign && byte == 47 || has_slash_behind_sign (is_edge_byte byte && not (is_bracket byte)) text

-- `://` stands behind a sign; where one may stand before the first byte
unfoldable pub has_scheme_behind_sign : (is_behind_sign : Bool) → List ℕ → Bool
has_scheme_behind_sign is_behind_sign [] = false
has_scheme_behind_sign is_behind_sign (byte ∷ text) =
    is_behind_sign && starts_with nat_eq (byte ∷ text) (codes "://") || has_scheme_behind_sign (is_behind_sign || is_edge_byte byte) text

-- a blank stands behind a `?`; where one may stand before the first byte
unfoldable pub has_blank_in_query : (is_in_query : Bool) → List ℕ → Bool
has_blank_in_query is_in_query [] = false
has_blank_in_query is_in_query (byte ∷ text) = is_in_query && is_control byte || has_blank_in_query (is_in_query || byte == 63) text

-- `<@` stands in it, with which Firefox ends a function; where a `<` may stand before the first byte
unfoldable pub has_function : (is_behind_angle : Bool) → List ℕ → Bool
has_function is_behind_angle [] = false
has_function is_behind_angle (byte ∷ text) = is_behind_angle && byte == 64 || has_function (byte == 60) text

-- a URL begins behind a blank or a sign, or a path goes on there, or a blank stands in a query
abbrev pub has_more_behind : List ℕ → Bool
has_more_behind text =
    begins_again false text || has_slash_behind_sign false text || has_scheme_behind_sign false text || has_blank_in_query false text

-- it has a blank or a quotation mark, and goes on behind its URL; or it has a function
abbrev pub is_sentence : List ℕ → Bool
is_sentence text = has_blank_or_quote text && has_more_behind text || has_function false text

-- ---- a relative path

-- What stands before a URL, the last byte first, does not end with `@`; or it is a function, and not the beginning of a URL in
-- which the `@` stands, as in `https://h/npm/a@1/app.js`.
abbrev pub is_function : List ℕ → Bool
is_function [] = true
is_function (byte ∷ before) = not (byte == 64 && has_separator false before)

-- a `\` stands between pieces, too, and brackets may stand in them
abbrev pub as_in_path : ℕ → ℕ
as_in_path byte = if is_bracket byte then 120 else (if byte == 92 then 47 else byte)

-- it has neither an escape nor a colour, neither blanks nor quotation marks, stands behind a function, and is a path
abbrev pub is_relative : (before url : List SeenByte) → Bool
is_relative before url =
    not (list_any is_nothing url) && not (has_blank_or_quote (signs url)) && is_function (reverse (text_of before))
    && is_path is_edge_byte (map as_in_path (text_of url))

-- ---- for a pattern

-- its first byte counts
abbrev pub begins_with_sign : List SeenByte → Bool
begins_with_sign [] = false
begins_with_sign (seen ∷ url) = not (is_nothing seen)

abbrev pub is_one_url : (before url : List SeenByte) → Bool
is_one_url before url =
    begins_with_sign url && has_paired_brackets (text_of url)
    && (if begins_as_url (text_of url) then not (is_sentence (signs url)) else is_relative before url)

-- what stands from a byte to the pair, in a virtual line that begins at another, is one URL, and holds no pair
abbrev pub is_for_pattern : (line : List SeenByte) → (virtual_start start : ℕ) → Pair → Bool
is_for_pattern line virtual_start start pair =
    nat_le pair.piece start && is_one_url (slice_range line virtual_start start) (slice_range line start pair.start)

-- ---- for a folder, or for a list without its query

-- the query, which begins with the first `?` or `#`, has a byte that does not stand behind a name
unfoldable pub has_barred_query : List SeenByte → Bool
has_barred_query [] = false
has_barred_query (seen ∷ url) = if begins_query seen.byte then list_any is_barred (seen ∷ url) else has_barred_query url

abbrev pub is_no_sentence : (url : List SeenByte) → Bool
is_no_sentence url = not (is_sentence (signs url)) && not (has_barred_query url)

-- what stands from a byte to the pair is no sentence, and holds no pair
abbrev pub is_for_folder : (line : List SeenByte) → (start : ℕ) → Pair → Bool
is_for_folder line start pair = nat_le pair.piece start && is_no_sentence (slice_range line start pair.start)

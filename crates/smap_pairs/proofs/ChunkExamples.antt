-- Worked examples of how a text is cut: each holds by computing both sides.
use Rattle.std.proofs.Common.{◌≡◌, false, true, [], ◌∷◌, map, refl, codes}
use Rattle.smap_pairs.specs.Chunks.{chunk_of_long, cuts_from, cuts_of, first_chunk, last_line_end, staying_bytes, stays_broken}
use Rattle.smap_pairs.specs.Chunks.Cut.{chunk, stays}
use Rattle.smap_pairs.specs.Escapes.{ending_of, escape_from, escape_of}

-- ---- the first chunk of a long line, whose first bytes are these

-- up to the last `"`
quote : chunk_of_long (codes "[\"a\",\"b") ≡ record { bytes = 5; is_broken = false }
quote = refl

-- with the backslashes right before it, so that the next chunk begins as a string does
escaped_quote : chunk_of_long (codes "\"f\\\\\\\"b") ≡ record { bytes = 2; is_broken = false }
escaped_quote = refl

-- or else up to the last escape of a line's end, with its backslashes
line_end : chunk_of_long (codes "at f\\na\\\\nb c") ≡ record { bytes = 7; is_broken = false }
unfolding ending_of escape_from escape_of last_line_end
line_end = refl

first_line_end : chunk_of_long (codes "\\nat f") ≡ record { bytes = 4; is_broken = false }
unfolding ending_of escape_from escape_of last_line_end
first_line_end = refl

line_ends : map last_line_end (
    codes "a\\rb" ∷ codes "a\\u000ab" ∷ codes "a\\x0Db" ∷ codes "a#015b" ∷ codes "a\\x5Cnb" ∷ codes "\\na\\r\\n" ∷ [])
    ≡ 1 ∷ 1 ∷ 1 ∷ 1 ∷ 1 ∷ 5 ∷ []
unfolding ending_of escape_from escape_of last_line_end
line_ends = refl

-- what is none
no_line_ends : map last_line_end (
    codes "a\\tb" ∷ codes "a#011b" ∷ codes "a\\x22b" ∷ codes "a\\\\b" ∷ codes "a\\u000" ∷ codes "a\nb" ∷ [])
    ≡ 0 ∷ 0 ∷ 0 ∷ 0 ∷ 0 ∷ 0 ∷ []
unfolding ending_of escape_from escape_of last_line_end
no_line_ends = refl

-- but a quotation mark comes first
quote_before_line_end : chunk_of_long (codes "a\"b\\nc") ≡ record { bytes = 1; is_broken = false }
quote_before_line_end = refl

-- or else up to the last blank
blank : chunk_of_long (codes "at f (a.js:1:2") ≡ record { bytes = 4; is_broken = false }
unfolding ending_of escape_from escape_of last_line_end
blank = refl

-- the numbers at its end may go on
numbers : chunk_of_long (codes "at-a.js:10:2") ≡ record { bytes = 7; is_broken = true }
unfolding ending_of escape_from escape_of last_line_end
numbers = refl

-- so may those with a sign
sign : chunk_of_long (codes "mid-2-") ≡ record { bytes = 3; is_broken = true }
unfolding ending_of escape_from escape_of last_line_end
sign = refl

-- but not all are left to the next
only_numbers : chunk_of_long (codes "12:34") ≡ record { bytes = 1; is_broken = true }
unfolding ending_of escape_from escape_of last_line_end
only_numbers = refl

-- a `"` as its first byte is none that it ends before
first_quote : chunk_of_long (codes "\"ab") ≡ record { bytes = 3; is_broken = true }
unfolding ending_of escape_from escape_of last_line_end
first_quote = refl

-- nor is one behind backslashes alone
first_escaped : chunk_of_long (codes "\\\"ab") ≡ record { bytes = 4; is_broken = true }
unfolding ending_of escape_from escape_of last_line_end
first_escaped = refl

-- ---- short lines

lines : cuts_of (codes "a\n\nb") ≡ chunk (codes "a\n") ∷ chunk (codes "\n") ∷ chunk (codes "b") ∷ []
unfolding cuts_from first_chunk
lines = refl

-- behind a chunk that is broken off, its line stays up to its end
broken_line : cuts_from 0 true (codes "c\nd") ≡ stays 99 ∷ stays 10 ∷ chunk (codes "d") ∷ []
unfolding cuts_from first_chunk
broken_line = refl

-- or up to a `"` or a blank
broken_string : cuts_from 0 true (codes "c\"d") ≡ stays 99 ∷ chunk (codes "\"d") ∷ []
unfolding cuts_from first_chunk
broken_string = refl

broken_word : cuts_from 0 true (codes "c d") ≡ stays 99 ∷ chunk (codes " d") ∷ []
unfolding cuts_from first_chunk
broken_word = refl

staying : map staying_bytes (codes "ab\"c" ∷ codes "ab\n\"" ∷ codes "ab" ∷ codes "\"ab" ∷ codes "\nab" ∷ []) ≡ 2 ∷ 3 ∷ 2 ∷ 0 ∷ 1 ∷ []
staying = refl

staying_broken : map (stays_broken (codes "a\nb")) (0 ∷ 1 ∷ 2 ∷ []) ≡ true ∷ true ∷ false ∷ []
staying_broken = refl

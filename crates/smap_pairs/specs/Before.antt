-- What stands before a URL without a scheme, in its piece and its virtual line: whether the URL may be the end of a longer
-- one. It is read back, the last byte first.
use Rattle.std.specs.Prelude.{ℕ, ◌+◌, ◌-◌, ◌==◌, ◌&&◌, ◌||◌, Bool, true, false, not, List, [], ◌∷◌, codes, map, reverse, if◌then◌else◌}
use Rattle.std.specs.Bool.{nat_eq}
use Rattle.std.specs.Char.{is_ascii_digit}
use Rattle.std.specs.List.{starts_with}
use Rattle.smap_pairs.specs.Bytes.{is_control, is_edge_byte, is_letter_or_digit}
use Rattle.smap_pairs.specs.Absolute.{is_absolute}
use Rattle.smap_pairs.specs.Signs.{is_nothing, signs}
use Rattle.smap_pairs.specs.declared.seen.SeenByte.{SeenByte}

-- ---- how far it reaches

abbrev pub ends_stretch : ℕ → Bool
ends_stretch byte = is_control byte || byte == 34 || byte == 39

-- the stretch: what is said up to a blank, a control byte or a quotation mark
abbrev pub stretch : List SeenByte → List ℕ
stretch [] = []
stretch (seen ∷ before) = if is_nothing seen then stretch before else (if ends_stretch seen.counts then [] else seen.counts ∷ stretch before)

-- that, or all of it
abbrev pub before_in : (is_stretch : Bool) → List SeenByte → List ℕ
before_in is_stretch before = if is_stretch then stretch before else map (λ seen. seen.counts) before

-- ---- a scheme

-- `://`, where these bytes stand behind
unfoldable pub has_scheme : (next after : ℕ) → List ℕ → Bool
has_scheme next after [] = false
has_scheme next after (byte ∷ before) = byte == 58 && next == 47 && after == 47 || has_scheme byte next before

-- ---- a path

abbrev pub is_separator : ℕ → Bool
is_separator byte = byte == 47 || byte == 92

abbrev pub is_behind_digit : List ℕ → Bool
is_behind_digit [] = false
is_behind_digit (byte ∷ before) = is_ascii_digit byte

-- what stands between the pieces of a path, and not between digits, as in a date
unfoldable pub has_separator : (is_before_digit : Bool) → List ℕ → Bool
has_separator is_before_digit [] = false
has_separator is_before_digit (byte ∷ before) =
    is_separator byte && not (is_before_digit && is_behind_digit before) || has_separator (is_ascii_digit byte) before

abbrev pub has_path : (is_stretch : Bool) → List SeenByte → Bool
has_path is_stretch before = has_separator false (before_in is_stretch before)

-- ---- a call

abbrev pub is_blank : ℕ → Bool
is_blank byte = byte == 32 || byte == 9

-- how many `(` further before are closed, where so many are before this byte
abbrev pub closed_before : (byte closed : ℕ) → ℕ
closed_before byte closed = if byte == 40 then closed - 1 else (if byte == 41 then closed + 1 else closed)

-- a `(` is open, and a blank stands behind it; so many that stand behind are closed
unfoldable pub is_in_call : (closed : ℕ) → (has_blank : Bool) → List ℕ → Bool
is_in_call closed has_blank [] = false
is_in_call closed has_blank (byte ∷ before) =
    byte == 40 && closed == 0 && has_blank || is_in_call (closed_before byte closed) (has_blank || is_blank byte) before

-- ---- the word `at`

abbrev pub is_in_word : List ℕ → Bool
is_in_word [] = false
is_in_word (byte ∷ before) = is_letter_or_digit byte

abbrev pub ends_in_a : List ℕ → Bool
ends_in_a [] = false
ends_in_a (byte ∷ before) = byte == 97 && not (is_in_word before)

-- blanks stand behind it
unfoldable pub is_behind_at : (has_blank : Bool) → List ℕ → Bool
is_behind_at has_blank [] = false
is_behind_at has_blank (byte ∷ before) = if is_blank byte then is_behind_at true before else has_blank && byte == 116 && ends_in_a before

-- ---- the places of V8 in an evaluated text: `(eval at f (dist/app.js:1:2), <anonymous>:1:1)`

-- behind `(eval at ` a function stands, and no bracket
abbrev pub is_in_eval : List ℕ → Bool
is_in_eval [] = false
is_in_eval (byte ∷ before) =
    starts_with nat_eq (byte ∷ before) (reverse (codes "(eval at ")) || not (byte == 40 || byte == 41) && is_in_eval before

-- and a `(` behind it
abbrev pub is_behind_eval : List ℕ → Bool
is_behind_eval [] = false
is_behind_eval (byte ∷ before) = byte == 40 && is_in_eval before

-- ---- a function of Firefox without a name, and the `@` behind each: `N/<@app.js`

abbrev pub is_behind_function : List ℕ → Bool
is_behind_function (byte ∷ other ∷ before) = byte == 64 && other == 60
is_behind_function _ = false

-- ---- its last byte

abbrev pub ends_in : (test : ℕ → Bool) → List ℕ → Bool
ends_in test [] = false
ends_in test (byte ∷ before) = test byte

abbrev pub is_closing : ℕ → Bool
is_closing byte = byte == 41 || byte == 93 || byte == 125

abbrev pub ends_in_nothing : List SeenByte → Bool
ends_in_nothing [] = false
ends_in_nothing (seen ∷ before) = is_nothing seen

-- a colour ends it, which does not begin at an edge
abbrev pub is_behind_colour : List SeenByte → Bool
is_behind_colour before = ends_in_nothing before && ends_in (λ byte. not (is_edge_byte byte)) (signs before)

-- ---- whether the URL may be the end of a longer one

abbrev pub counts_of : List SeenByte → List ℕ
counts_of before = map (λ seen. seen.counts) before

-- one that begins at a root: behind a bracket or a colour within a path
abbrev pub is_cut : List SeenByte → Bool
is_cut before = (ends_in is_closing (signs before) || is_behind_colour before) && has_path false before

-- in a call behind a blank, `(in app.js`, but right behind `at`, and in an evaluated text
abbrev pub is_in_text_of_call : List ℕ → Bool
is_in_text_of_call before = is_in_call 0 false before && not (is_behind_at false before || is_behind_eval before)

-- another: behind a path, with blanks between or without, but behind a function of Firefox; and in a call
abbrev pub is_end_of_path : List SeenByte → Bool
is_end_of_path before =
    has_path true before && not (is_behind_function (stretch before)) || ends_in is_blank (signs before) && has_path false before
    || is_in_text_of_call (counts_of before)

abbrev pub may_go_on : List SeenByte → (url : List ℕ) → Bool
may_go_on before url = if is_absolute url then is_cut before else is_end_of_path before

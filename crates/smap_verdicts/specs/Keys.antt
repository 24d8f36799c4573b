-- What is said of what stands at a key of a map file, in a sentence.
use Rattle.std.specs.Prelude.{ℕ, Bool, true, false, ◌&&◌, if◌then◌else◌, Option, None, Some, is_none, is_some, List, [], ◌∷◌, codes}
use Rattle.std.specs.Fmt.{decimal}
use Rattle.smap_explain.specs.declared.explanation.Explanation.{Explanation}
use Rattle.smap_explain.specs.declared.explanation.Explanation.TheVariants as explained
use Rattle.smap_explain.specs.declared.explanation.Key.{Key}
use Rattle.smap_explain.specs.declared.explanation.Key.TheVariants as keys
use Rattle.smap_explain.specs.declared.explanation.KeyFacts.{KeyFacts}
use Rattle.smap_verdicts.specs.Explanation.{build_text, found_text, not_json_text}
use Rattle.smap_verdicts.specs.Segment.{segment_text}
use Rattle.smap_verdicts.specs.Texts.{text_from}

-- a key as it is written in the file
abbrev pub key_name : Key → List ℕ
key_name keys.Version = codes "version"
key_name keys.Sections = codes "sections"
key_name keys.Map = codes "map"
key_name keys.Offset = codes "offset"
key_name keys.OffsetLine = codes "line"
key_name keys.OffsetColumn = codes "column"
key_name keys.NestedSections = codes "sections"
key_name keys.Sources = codes "sources"
key_name keys.Names = codes "names"
key_name keys.SourcesContent = codes "sourcesContent"
key_name keys.IgnoreList = codes "ignoreList"
key_name keys.OldIgnoreList = codes "x_google_ignoreList"
key_name keys.File = codes "file"
key_name keys.SourceRoot = codes "sourceRoot"
key_name keys.Mappings = codes "mappings"

-- what may stand at it
abbrev pub asked_of : Key → List ℕ
asked_of keys.Version = codes "the key must hold the number 3"
asked_of keys.Sections = codes "the key may hold a list of at most 65,536 objects"
asked_of keys.Map = codes "the key must hold an object"
asked_of keys.Offset = codes "the key must hold an object with a line and a column"
asked_of keys.OffsetLine = codes "the key must hold a whole number from 0 on"
asked_of keys.OffsetColumn = codes "the key must hold a whole number from 0 on"
asked_of keys.NestedSections = codes "the map of a section has none"
asked_of keys.Sources = codes "the key must hold a list of texts and nulls, at most 33,554,432 in the file"
asked_of keys.Names = codes "the key may hold a list of texts, at most 33,554,432 in the file"
asked_of keys.SourcesContent = codes "the key may hold a list of texts and nulls"
asked_of keys.IgnoreList = codes "the key may hold a list of indices of sources"
asked_of keys.OldIgnoreList = codes "the key may hold a list of indices of sources"
asked_of keys.File = codes "the key may hold a text"
asked_of keys.SourceRoot = codes "the key may hold a text"
asked_of keys.Mappings = codes "the key must hold a text of at most 67,108,864 bytes"

-- after these words, a number that there may be
unfoldable pub number_after : (words : List ℕ) → Option ℕ → List ℕ
number_after words None = []
number_after words (Some n) = text_from (words ∷ decimal n ∷ [])

-- the key, its section and its item
unfoldable pub key_place_text : KeyFacts → List ℕ
key_place_text facts = text_from (
    codes "  `" ∷ key_name facts.key ∷ codes "`" ∷ number_after (codes " of section ") facts.section
    ∷ number_after (codes ", item ") facts.index ∷ [])

-- an index of sources that are to be named
abbrev pub is_index : Key → Bool
is_index keys.IgnoreList = true
is_index keys.OldIgnoreList = true
is_index other = false

-- the item is an index of a source, and there is none
abbrev pub has_no_source : KeyFacts → Bool
has_no_source facts = is_index facts.key && is_some facts.index && is_none facts.most

-- the greatest number that may stand there, or that none may
unfoldable pub most_text : KeyFacts → List ℕ
most_text facts =
    if has_no_source facts then codes "; the map has no sources" else number_after (codes "; the greatest is ") facts.most

unfoldable pub key_text : KeyFacts → List ℕ
key_text facts = text_from (
    key_place_text facts ∷ codes " is " ∷ found_text facts.found ∷ codes ", and " ∷ asked_of facts.key
    ∷ most_text facts ∷ codes "\n" ∷ [])

-- all that is known of why a file is refused
unfoldable pub explanation_text : Explanation → List ℕ
explanation_text explained.Nothing = []
explanation_text explained.TooLarge = codes "  the file has more than 67,108,864 bytes, which is the most that a map may have\n"
explanation_text (explained.NotJson facts) = not_json_text facts
explanation_text (explained.NotObject found) = text_from (
    codes "  the JSON value is " ∷ found_text found ∷ codes ", and must be an object\n" ∷ [])
explanation_text (explained.Key facts) = key_text facts
explanation_text (explained.Segment facts) = segment_text facts
explanation_text (explained.Build facts) = build_text facts

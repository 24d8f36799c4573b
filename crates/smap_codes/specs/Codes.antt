-- All codes, and how each is called.
use Rattle.std.specs.Prelude.{◌++◌, ◌∷◌, List, [], codes, ℕ}
use Rattle.smap_codes.specs.declared.code.Code.{Code}
use Rattle.smap_codes.specs.declared.code.Code.TheVariants.{M1, M2, M3, M4, M5, M6, M7, M8, M9, M10, M11, M12, M13, M14, M15, M16, M17, M18}
use Rattle.smap_codes.specs.declared.code.Code.TheVariants.{F1, F2, F3, F4, F5, F6, F7, F8, F9, F10, F11}
use Rattle.smap_codes.specs.declared.code.Code.TheVariants.{B1, B2, B3, B4, B5}
use Rattle.smap_codes.specs.declared.code.Code.TheVariants.{O1, O2, C1, C2, C3, C4, E1, E2, E3, E4, U1, U2}
use Rattle.smap_codes.specs.declared.code.Code.TheVariants.{A1, A2, A3, A4, P1, P2, X1, X2, X3, X4, X5, X6}
use Rattle.smap_codes.specs.declared.code.Code.TheVariants.{TextTooLong, NotUtf8, Device, Memory, Usage, Refused}

-- a label, as `M14`, of which this is the number, and a name, as `Text`, and both as they are printed
pub record Called : Type 0 where
  pub label : List ℕ
  pub number : ℕ
  pub name : List ℕ
  pub text : List ℕ

abbrev pub called_by : (label : List ℕ) (number : ℕ) (name text : List ℕ) → Called
called_by label number name text = record { label = label; number = number; name = name; text = text }

-- a letter and a number, and a name
abbrev pub coded : (label : List ℕ) (number : ℕ) (name : List ℕ) → Called
coded label number name = called_by label number name (label ++ (codes " " ++ name))

-- a word that stands alone is all of it
abbrev pub alone : (word : List ℕ) → Called
alone word = called_by word 0 word word

-- how each code is called
unfoldable pub called : Code → Called
called M1 = coded (codes "M1") 1 (codes "TooLarge")
called M2 = coded (codes "M2") 2 (codes "NotJson")
called M3 = coded (codes "M3") 3 (codes "NotObject")
called M4 = coded (codes "M4") 4 (codes "Version")
called M5 = coded (codes "M5") 5 (codes "Sections")
called M6 = coded (codes "M6") 6 (codes "SectionOffset")
called M7 = coded (codes "M7") 7 (codes "Nested")
called M8 = coded (codes "M8") 8 (codes "Sources")
called M9 = coded (codes "M9") 9 (codes "Names")
called M10 = coded (codes "M10") 10 (codes "SourcesContent")
called M11 = coded (codes "M11") 11 (codes "IgnoreList")
called M12 = coded (codes "M12") 12 (codes "FileOrRoot")
called M13 = coded (codes "M13") 13 (codes "Mappings")
called M14 = coded (codes "M14") 14 (codes "Text")
called M15 = coded (codes "M15") 15 (codes "Build")
called M16 = coded (codes "M16") 16 (codes "Url")
called M17 = coded (codes "M17") 17 (codes "Memory")
called M18 = coded (codes "M18") 18 (codes "LongNames")
called F1 = coded (codes "F1") 1 (codes "BadDigit")
called F2 = coded (codes "F2") 2 (codes "Unended")
called F3 = coded (codes "F3") 3 (codes "TooLong")
called F4 = coded (codes "F4") 4 (codes "TooLarge")
called F5 = coded (codes "F5") 5 (codes "NegativeZero")
called F6 = coded (codes "F6") 6 (codes "FieldCount")
called F7 = coded (codes "F7") 7 (codes "Negative")
called F8 = coded (codes "F8") 8 (codes "PastLimit")
called F9 = coded (codes "F9") 9 (codes "ColumnFalls")
called F10 = coded (codes "F10") 10 (codes "SourceIndex")
called F11 = coded (codes "F11") 11 (codes "NameIndex")
called B1 = coded (codes "B1") 1 (codes "Interval")
called B2 = coded (codes "B2") 2 (codes "SectionOrder")
called B3 = coded (codes "B3") 3 (codes "SectionOverlap")
called B4 = coded (codes "B4") 4 (codes "PositionRange")
called B5 = coded (codes "B5") 5 (codes "Memory")
called O1 = coded (codes "O1") 1 (codes "TextTooLong")
called O2 = coded (codes "O2") 2 (codes "Memory")
called C1 = coded (codes "C1") 1 (codes "SourceIndex")
called C2 = coded (codes "C2") 2 (codes "TooLarge")
called C3 = coded (codes "C3") 3 (codes "Memory")
called C4 = coded (codes "C4") 4 (codes "NoSource")
called E1 = coded (codes "E1") 1 (codes "NotSorted")
called E2 = coded (codes "E2") 2 (codes "OutOfRange")
called E3 = coded (codes "E3") 3 (codes "TooLong")
called E4 = coded (codes "E4") 4 (codes "Memory")
called U1 = coded (codes "U1") 1 (codes "UrlTooLong")
called U2 = coded (codes "U2") 2 (codes "Memory")
called A1 = coded (codes "A1") 1 (codes "BadUrl")
called A2 = coded (codes "A2") 2 (codes "Twice")
called A3 = coded (codes "A3") 3 (codes "Memory")
called A4 = coded (codes "A4") 4 (codes "Misfit")
called P1 = coded (codes "P1") 1 (codes "BadPosition")
called P2 = coded (codes "P2") 2 (codes "LongLine")
called X1 = coded (codes "X1") 1 (codes "Read")
called X2 = coded (codes "X2") 2 (codes "Write")
called X3 = coded (codes "X3") 3 (codes "TooMuch")
called X4 = coded (codes "X4") 4 (codes "Memory")
called X5 = coded (codes "X5") 5 (codes "LongOutput")
called X6 = coded (codes "X6") 6 (codes "FewMapped")
called TextTooLong = alone (codes "TextTooLong")
called NotUtf8 = alone (codes "NotUtf8")
called Device = alone (codes "device")
called Memory = alone (codes "memory")
called Usage = alone (codes "usage")
called Refused = alone (codes "refused")

-- its letter and number, or the word
abbrev pub label_of : Code → List ℕ
label_of code = (called code).label

-- its number; a word has 0
abbrev pub number_of : Code → ℕ
number_of code = (called code).number

-- its name, or the word
abbrev pub name_of : Code → List ℕ
name_of code = (called code).name

-- what is printed
abbrev pub text_of : Code → List ℕ
text_of code = (called code).text

-- why a map file is refused
abbrev pub map_codes : List Code
map_codes = M1 ∷ M2 ∷ M3 ∷ M4 ∷ M5 ∷ M6 ∷ M7 ∷ M8 ∷ M9 ∷ M10 ∷ M11 ∷ M12 ∷ M13 ∷ M14 ∷ M15 ∷ M16 ∷ M17 ∷ M18 ∷ []

-- the faults of a `mappings` text
abbrev pub mappings_codes : List Code
mappings_codes = F1 ∷ F2 ∷ F3 ∷ F4 ∷ F5 ∷ F6 ∷ F7 ∷ F8 ∷ F9 ∷ F10 ∷ F11 ∷ []

-- why the index of a map is not built
abbrev pub index_codes : List Code
index_codes = B1 ∷ B2 ∷ B3 ∷ B4 ∷ B5 ∷ []

-- why a map is not written or composed
abbrev pub writing_codes : List Code
writing_codes = O1 ∷ O2 ∷ C1 ∷ C2 ∷ C3 ∷ C4 ∷ E1 ∷ E2 ∷ E3 ∷ E4 ∷ U1 ∷ U2 ∷ []

-- why a trace or positions are not answered to their end, and why a word of `rewrite` gives no map
abbrev pub trace_codes : List Code
trace_codes = A1 ∷ A2 ∷ A3 ∷ A4 ∷ P1 ∷ P2 ∷ X1 ∷ X2 ∷ X3 ∷ X4 ∷ X5 ∷ X6 ∷ []

-- what is reported by a word alone
abbrev pub word_codes : List Code
word_codes = TextTooLong ∷ NotUtf8 ∷ Device ∷ Memory ∷ Usage ∷ Refused ∷ []

-- all of them, in their order
unfoldable pub all_codes : List Code
all_codes = map_codes ++ (mappings_codes ++ (index_codes ++ (writing_codes ++ (trace_codes ++ (word_codes)))))

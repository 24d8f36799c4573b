-- The fields of a segment (ECMA-426, Mappings structure).
use Rattle.std.specs.Prelude.{◌≡◌, Bool, ◌||◌, ◌==◌, length, ℕ, List, [], ◌∷◌, Option, Some, None, if◌then◌else◌, ℤ}
use Rattle.std.specs.List.{onto_first, concat}
use Rattle.smap_mappings.specs.Vlq.{is_ending, number_of, Spells}

-- the bytes of a segment, cut after each digit that ends a number
abbrev pub cuts_of : List ℕ → List (List ℕ)
cuts_of [] = []
cuts_of (byte ∷ bytes) = if is_ending byte then (byte ∷ []) ∷ cuts_of bytes else onto_first byte (cuts_of bytes)

-- a list with a number in front, where both are there
abbrev pub list_with_front : Option ℤ → Option (List ℤ) → Option (List ℤ)
list_with_front None fields = None
list_with_front (Some n) None = None
list_with_front (Some n) (Some fields) = Some (n ∷ fields)

-- the numbers that these byte lists spell, if each spells one
abbrev pub numbers_of : List (List ℕ) → Option (List ℤ)
numbers_of [] = Some []
numbers_of (cut ∷ cuts) = list_with_front (number_of cut) (numbers_of cuts)

-- the fields of a segment: the numbers whose spellings, joined, are its bytes (`IsJoinOfSpellings`)
unfoldable pub fields_of : List ℕ → Option (List ℤ)
fields_of bytes = numbers_of (cuts_of bytes)

-- there are as many byte lists as numbers, and each spells its number, in order
abbrev pub AreSpellingsOf : List (List ℕ) → List ℤ → Type 0
AreSpellingsOf [] [] = Unit {0}
AreSpellingsOf [] (n ∷ numbers) = ⊥
AreSpellingsOf (bytes ∷ spellings) [] = ⊥
AreSpellingsOf (bytes ∷ spellings) (n ∷ numbers) = Spells bytes n × AreSpellingsOf spellings numbers

-- the bytes are spellings of these numbers, joined in order
abbrev pub IsJoinOfSpellings : List ℕ → List ℤ → Type 0
IsJoinOfSpellings bytes numbers = (spellings : List (List ℕ)) × AreSpellingsOf spellings numbers × (concat spellings ≡ bytes)

-- one, four or five
abbrev pub has_known_length : {X : Type 0} → List X → Bool
has_known_length xs = length xs == 1 || length xs == 4 || length xs == 5

-- fields of this number give an origin
abbrev pub has_origin : List ℤ → Bool
has_origin fields = length fields == 4 || length fields == 5

-- and of this a name too
abbrev pub has_name : List ℤ → Bool
has_name fields = length fields == 5

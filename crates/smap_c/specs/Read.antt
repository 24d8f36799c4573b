-- What reading a map comes to.
use Rattle.std.specs.Prelude.{◌≡◌, ◌⊎◌, ℕ, List, [], ◌∷◌, Option, None, Some, Ok, Err, IsUtf8}
use Rattle.std.specs.Result.{IsOkAnd}
use Rattle.url.specs.Parser.{parse_url, IsOutOfRoom}
use Rattle.url.specs.Parts.{Parts}
use Rattle.url.specs.declared.error.ParseError.{ParseError}
use Rattle.smap_codes.specs.declared.code.Code.TheVariants as codes
use Rattle.smap_record.specs.MapFile.{Map}
use Rattle.smap_record.specs.Record.{record_of_within}
use Rattle.smap_record.specs.Sources.{NamesASource}
use Rattle.smap_record.specs.declared.refusal.MapRefusal.{MapRefusal}
use Rattle.smap_record.specs.declared.refusal.MapRefusal.TheVariants.{Url}
use Rattle.smap_c.specs.Refusal.{coded, numbers_of}
use Rattle.smap_c.specs.declared.refusal.Refusal.{Refusal}

-- this base is named: none by no bytes, and otherwise the URL that the bytes are
abbrev pub NamesBase : List ℕ → Option Parts → Type 0
NamesBase [] base = base ≡ None
NamesBase (byte ∷ bytes) base = (url : Parts) × (parse_url None (byte ∷ bytes) ≡ Ok url) × (base ≡ Some url)

-- a base is asked for, by some bytes that are UTF-8
abbrev pub AsksForBase : List ℕ → Type 0
AsksForBase [] = ⊥
AsksForBase (byte ∷ bytes) = IsUtf8 (byte ∷ bytes)

-- a base is asked for by bytes that are not UTF-8, or that the parser of URLs refuses for what they are
abbrev pub NamesNoBase : List ℕ → Type 0
NamesNoBase [] = ⊥
NamesNoBase (byte ∷ bytes) =
    (IsUtf8 (byte ∷ bytes) → ⊥)
    ⊎ ((error : ParseError) × (parse_url None (byte ∷ bytes) ≡ Err error) × (IsOutOfRoom error → ⊥))

-- the map that a file of these bytes states at the base that is named, with checkpoints at this interval, where the names of
-- its sources are made of at most so many bytes, if there is a bound
abbrev pub IsReadWithin : (most : Option ℕ) → (bytes base : List ℕ) → (interval : ℕ) → Map → Type 0
IsReadWithin most bytes base interval map =
    ((used : Option Parts) × NamesBase base used × (record_of_within most bytes used interval ≡ Ok map.stated)) × (map.k ≡ interval)

-- the same without a bound
abbrev pub IsReadAs : (bytes base : List ℕ) → (interval : ℕ) → Map → Type 0
IsReadAs = IsReadWithin None

-- why the file is refused at this base and within this bound: its record is; or one of its sources has a name, of which the
-- parser of URLs says that its URL is too long
abbrev pub IsRefusedAtWithin : (most : Option ℕ) → (bytes : List ℕ) → Option Parts → (interval : ℕ) → MapRefusal → Type 0
IsRefusedAtWithin most bytes base interval why =
    (record_of_within most bytes base interval ≡ Err why)
    ⊎ ((why ≡ Url) × IsOkAnd (record_of_within most bytes base interval) (λ stated. NamesASource stated.sources))

-- why nothing is read, as numbers: the base is no URL, or the parser of URLs says that it is too long, or the file is
-- refused
abbrev pub IsRefusedWithin : (most : Option ℕ) → (bytes base : List ℕ) → (interval : ℕ) → Refusal → Type 0
IsRefusedWithin most bytes base interval refusal =
    ((refusal ≡ coded codes.Usage) × NamesNoBase base)
    ⊎ ((refusal ≡ coded codes.U1) × AsksForBase base)
    ⊎ ((used : Option Parts) × NamesBase base used × (why : MapRefusal) × (refusal ≡ numbers_of why)
    × IsRefusedAtWithin most bytes used interval why)

abbrev pub IsRefusedAs : (bytes base : List ℕ) → (interval : ℕ) → Refusal → Type 0
IsRefusedAs = IsRefusedWithin None

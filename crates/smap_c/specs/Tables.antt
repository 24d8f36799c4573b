-- What adding a map to a table comes to.
use Rattle.std.specs.Prelude.{◌≡◌, ◌⊎◌, ℕ, List, None, Option, IsUtf8, IsSomeAnd}
use Rattle.smap_record.specs.MapFile.{Map}
use Rattle.smap_codes.specs.declared.code.Code.TheVariants.{NotUtf8}
use Rattle.smap_trace.specs.Codes.{table_code}
use Rattle.smap_store.specs.UrlTable.{IsAdded as HasAdded, UrlTableSeen, url_refusal}
use Rattle.smap_trace.specs.declared.refusal.TableRefusal.{TableRefusal}
use Rattle.smap_c.specs.Codes.{code_number}

-- the table has one more map, under this URL or this pattern
abbrev pub IsAdded : (old : Option UrlTableSeen) → (url : List ℕ) → Option Map → (new : Option UrlTableSeen) → Type 0
IsAdded old url map new = IsSomeAnd old (λ before. IsSomeAnd map (λ put. IsSomeAnd new (λ after. HasAdded before url put.stated after)))

-- the number of the code of a refusal
abbrev pub table_number : TableRefusal → ℕ
table_number refusal = code_number (table_code refusal)

-- why the table takes no map under this URL: it is not UTF-8, or it is refused
abbrev pub IsNotAdded : Option UrlTableSeen → (url : List ℕ) → ℕ → Type 0
IsNotAdded table url number =
    ((number ≡ code_number NotUtf8) × (IsUtf8 url → ⊥))
    ⊎ IsSomeAnd table (λ maps. IsSomeAnd (url_refusal maps url) (λ refusal. number ≡ table_number refusal))

-- the table takes a map under this URL
abbrev pub IsFree : Option UrlTableSeen → (url : List ℕ) → Type 0
IsFree table url = IsUtf8 url × IsSomeAnd table (λ maps. url_refusal maps url ≡ None)

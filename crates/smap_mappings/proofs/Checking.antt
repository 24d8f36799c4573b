-- How far a decoding has come.
use Rattle.std.specs.Prelude.{◌≡◌, ℕ, List, take}
use Rattle.smap_mappings.specs.Mappings.{mappings_of}
use Rattle.smap_mappings.specs.State.{IsAfter}
use Rattle.smap_mappings.specs.declared.cursor.Cursor.{Cursor}
use Rattle.smap_mappings.specs.declared.mapping.Mapping.{Mapping}

-- the state is after some segments, whose mappings these are
pub record DecodesUpTo (text : List ℕ) (cursor : Cursor) (list : List Mapping) : Type 0 where
  pub j : ℕ
  pub after : IsAfter text j cursor
  pub list_is : list ≡ take j (mappings_of text)

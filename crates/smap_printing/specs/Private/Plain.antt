-- Texts that print as they are.
use Rattle.std.specs.Prelude.{◌≡◌, ℕ, false, List, Some, IfSome, option_and_then, slice_get}
use Rattle.std.specs.Char.{is_ascii_control}
use Rattle.std.specs.List.{list_any}
use Rattle.smap_record.specs.Record.{MapRecord}
use Rattle.smap_record.specs.Written.{text_of_source}
use Rattle.smap_printing.specs.declared.kept_source.KeptSource.{KeptSource}

-- no control character of ASCII stands in the text
abbrev pub IsPlain : List ℕ → Type 0
IsPlain text = list_any is_ascii_control text ≡ false

-- nor in the name of this source of a map, where it has one
abbrev pub IsPlainSource : MapRecord → ℕ → Type 0
IsPlainSource stated source = IfSome (option_and_then text_of_source (slice_get stated.sources source)) IsPlain

-- of a source that is kept its name prints as it is; and that is the name that is kept, where one is
pub record IsKept (stated : MapRecord) (kept : KeptSource) : Type 0 where
  pub plain : IsPlainSource stated kept.index
  pub name : IfSome kept.name (λ name. option_and_then text_of_source (slice_get stated.sources kept.index) ≡ Some name)

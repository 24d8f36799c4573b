-- Of private contracts only: what is put for the function before a place.
use Rattle.std.specs.Prelude.{ℕ, List, Option, unwrap_or}
use Rattle.smap_pairs.specs.declared.line_places.Span.{Span}
use Rattle.smap_trace.specs.FunctionNames.{FunctionNames, written_name}

-- the name that was written for it, or its own
abbrev pub name_put : Option FunctionNames → (name : List ℕ) → Span → List ℕ
name_put names name span = unwrap_or (written_name names name span.line span.column) name

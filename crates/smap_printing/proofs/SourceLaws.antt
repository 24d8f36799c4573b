-- The object of a source, by its beginning and the rest.
use Rattle.std.proofs.Common.{◌≡◌, ◌++◌, ℕ, List, false, Option, Some, None, refl, append_assoc, ap, sym}
use Rattle.std.specs.Prelude.{codes, option_map}
use Rattle.std.specs.Fmt.{decimal}
use Rattle.json.specs.Print.{escape_byte}
use Rattle.serde_json.specs.Data.{Data, Members, member, object}
use Rattle.serde_json.specs.Written.{compact_text, members_text}
use Rattle.smap_record.specs.Sources.{StatedSource}
use Rattle.smap_record.specs.Written.{member_where}
use Rattle.smap_fit.specs.declared.rows.SourceRow.{SourceRow}
use Rattle.smap_printing.specs.Json.{count}
use Rattle.smap_printing.specs.Private.Members.{row_front}
use Rattle.smap_printing.specs.Sources.{row_members, row_value}

front_and_rest : (bytes : Option ℕ) (key : List ℕ) (value : Data) (more : Members)
    → compact_text (object (member_where (codes "bytes") (option_map count bytes) (member key value more)))
    ≡ row_front bytes ++ members_text false (member key value more)
unfolding escape_byte
front_and_rest None key value more = refl
front_and_rest (Some bytes) key value more =
    ap (λ l. codes "{\"bytes\":" ++ l) (sym (append_assoc (decimal bytes) (codes ",") (members_text false (member key value more))))

pub row_text : (row : SourceRow) (source : Option StatedSource) → compact_text (row_value row source) ≡ row_front row.bytes ++ members_text false (row_members row source)
row_text row source = front_and_rest row.bytes _ _ _

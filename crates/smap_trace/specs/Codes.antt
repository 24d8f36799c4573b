-- By which codes refusals are called.
use Rattle.smap_codes.specs.declared.code.Code.{Code}
use Rattle.smap_codes.specs.declared.code.Code.TheVariants as codes
use Rattle.smap_trace.specs.declared.refusal.TableRefusal.{TableRefusal}
use Rattle.smap_trace.specs.declared.refusal.TableRefusal.TheVariants as tables

-- why a map is not put into a table
abbrev pub table_code : TableRefusal → Code
table_code tables.BadUrl = codes.A1
table_code tables.Twice = codes.A2
table_code tables.Memory = codes.A3

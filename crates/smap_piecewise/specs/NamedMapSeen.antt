-- What contracts see of a map and the declarations of its program, where there is one.
use Rattle.std.specs.Prelude.{List, None, Option, Some, option_map}
use Rattle.smap_declarations.specs.Declarations.{Named}
use Rattle.smap_record.specs.Record.{MapRecord}
use Rattle.smap_trace.specs.FunctionNames.{FunctionNames, names_beside}
use Rattle.smap_piecewise.specs.declared.known.NamedMap.{NamedMap}

abbrev pub stated_in : Option NamedMap → Option MapRecord
stated_in found = option_map (λ named. named.map.now.stated) found

abbrev pub declared_in : Option NamedMap → Option (List Named)
declared_in None = None
declared_in (Some named) = option_map (λ declared. declared.now) named.declared

-- what names the functions of the program
abbrev pub names_in : Option NamedMap → Option FunctionNames
names_in found = names_beside (stated_in found) (declared_in found)

-- both
abbrev pub found_in : Option NamedMap → Option MapRecord × Option FunctionNames
found_in found = (stated_in found, names_in found)

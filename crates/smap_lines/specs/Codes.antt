-- By which codes faults are called.
use Rattle.smap_codes.specs.declared.code.Code.{Code}
use Rattle.smap_codes.specs.declared.code.Code.TheVariants as codes
use Rattle.smap_lines.specs.declared.fault.LineFault.{LineFault}
use Rattle.smap_lines.specs.declared.fault.LineFault.TheVariants as lines

-- why the editing of a text ends
abbrev pub line_code : LineFault → Code
line_code lines.Read = codes.X1
line_code lines.Write = codes.X2
line_code lines.TooMuch = codes.X3
line_code lines.Memory = codes.X4

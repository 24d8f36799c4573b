-- By which codes faults and refusals are called.
use Rattle.smap_codes.specs.declared.code.Code.{Code}
use Rattle.smap_codes.specs.declared.code.Code.TheVariants as codes
use Rattle.smap_mappings.specs.declared.fault.FaultKind.{FaultKind}
use Rattle.smap_mappings.specs.declared.fault.FaultKind.TheVariants as kinds
use Rattle.smap_mappings.specs.declared.canonical.EncodeRefusal.{EncodeRefusal}
use Rattle.smap_mappings.specs.declared.canonical.EncodeRefusal.TheVariants as encodes

-- a kind of fault
abbrev pub kind_code : FaultKind → Code
kind_code kinds.BadDigit = codes.F1
kind_code kinds.Unended = codes.F2
kind_code kinds.TooLong = codes.F3
kind_code kinds.TooLarge = codes.F4
kind_code kinds.NegativeZero = codes.F5
kind_code kinds.FieldCount = codes.F6
kind_code kinds.Negative = codes.F7
kind_code kinds.PastLimit = codes.F8
kind_code kinds.ColumnFalls = codes.F9
kind_code kinds.SourceIndex = codes.F10
kind_code kinds.NameIndex = codes.F11

-- why a list is not encoded
abbrev pub encode_code : EncodeRefusal → Code
encode_code (encodes.NotSorted number) = codes.E1
encode_code (encodes.OutOfRange number) = codes.E2
encode_code encodes.TooLong = codes.E3
encode_code encodes.Memory = codes.E4

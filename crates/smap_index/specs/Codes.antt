-- By which codes refusals are called.
use Rattle.smap_codes.specs.declared.code.Code.{Code}
use Rattle.smap_codes.specs.declared.code.Code.TheVariants as codes
use Rattle.smap_index.specs.declared.refusal.BuildRefusal.{BuildRefusal}
use Rattle.smap_index.specs.declared.refusal.BuildRefusal.TheVariants as builds

-- why an index is not built
abbrev pub build_code : BuildRefusal → Code
build_code builds.Interval = codes.B1
build_code (builds.SectionOrder section) = codes.B2
build_code (builds.SectionOverlap section) = codes.B3
build_code (builds.PositionRange section) = codes.B4
build_code builds.Memory = codes.B5

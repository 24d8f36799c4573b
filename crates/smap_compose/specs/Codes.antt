-- By which codes refusals are called.
use Rattle.smap_codes.specs.declared.code.Code.{Code}
use Rattle.smap_codes.specs.declared.code.Code.TheVariants as codes
use Rattle.smap_compose.specs.declared.refusal.ComposeRefusal.{ComposeRefusal}
use Rattle.smap_compose.specs.declared.refusal.ComposeRefusal.TheVariants as composes

-- why two maps are not composed
abbrev pub compose_code : ComposeRefusal → Code
compose_code composes.SourceIndex = codes.C1
compose_code composes.TooLarge = codes.C2
compose_code composes.Memory = codes.C3

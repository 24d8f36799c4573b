-- By which codes refusals are called.
use Rattle.smap_codes.specs.declared.code.Code.{Code}
use Rattle.smap_codes.specs.declared.code.Code.TheVariants as codes
use Rattle.smap_resolve.specs.declared.refusal.ResolveRefusal.{ResolveRefusal}
use Rattle.smap_resolve.specs.declared.refusal.ResolveRefusal.TheVariants as resolves

-- why a source gets no name
abbrev pub resolve_code : ResolveRefusal → Code
resolve_code resolves.UrlTooLong = codes.U1
resolve_code resolves.Memory = codes.U2

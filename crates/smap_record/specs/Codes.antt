-- By which codes refusals are called.
use Rattle.smap_codes.specs.declared.code.Code.{Code}
use Rattle.smap_codes.specs.declared.code.Code.TheVariants as codes
use Rattle.smap_record.specs.declared.refusal.MapRefusal.{MapRefusal}
use Rattle.smap_record.specs.declared.refusal.MapRefusal.TheVariants as maps
use Rattle.smap_record.specs.declared.write.WriteRefusal.{WriteRefusal}
use Rattle.smap_record.specs.declared.write.WriteRefusal.TheVariants as writes

-- why a map file is refused
abbrev pub map_code : MapRefusal → Code
map_code maps.TooLarge = codes.M1
map_code maps.NotJson = codes.M2
map_code maps.NotObject = codes.M3
map_code maps.Version = codes.M4
map_code maps.Sections = codes.M5
map_code (maps.SectionOffset section) = codes.M6
map_code (maps.Nested section) = codes.M7
map_code maps.Sources = codes.M8
map_code maps.Names = codes.M9
map_code maps.SourcesContent = codes.M10
map_code maps.IgnoreList = codes.M11
map_code maps.FileOrRoot = codes.M12
map_code maps.Mappings = codes.M13
map_code (maps.Text section fault) = codes.M14
map_code (maps.Build refusal) = codes.M15
map_code maps.Url = codes.M16
map_code maps.Memory = codes.M17
map_code maps.LongNames = codes.M18

-- why a map is not written
abbrev pub write_code : WriteRefusal → Code
write_code writes.TextTooLong = codes.O1
write_code writes.Memory = codes.O2

-- What `url`'s answer reports a text.
use Rattle.std.specs.Prelude.{Option, None, Some, Result, Ok, Err}
use Rattle.url.specs.declared.error.ParseError.TheVariants.{Overflow, OutOfMemory}
use Rattle.url.specs.Parser.{Parsed}
use Rattle.url.specs.Parts.{Parts}
use Rattle.smap_resolve.specs.declared.refusal.ResolveRefusal.{ResolveRefusal}
use Rattle.smap_resolve.specs.declared.refusal.ResolveRefusal.TheVariants.{UrlTooLong, Memory}

-- its URL, or none where it does not parse; where there was no room for the URL, nothing is reported
abbrev pub parsed_url : Parsed Parts → Result (Option Parts) ResolveRefusal
parsed_url (Ok url) = Ok (Some url)
parsed_url (Err Overflow) = Err UrlTooLong
parsed_url (Err OutOfMemory) = Err Memory
parsed_url (Err _) = Ok None

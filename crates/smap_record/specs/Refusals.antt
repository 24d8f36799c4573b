-- Reading up to the first refusal, and the refusals of other crates.
use Rattle.std.specs.Prelude.{Option, Some, None, Result, Ok, Err}
use Rattle.smap_index.specs.declared.refusal.EncodeAllRefusal.{EncodeAllRefusal}
use Rattle.smap_index.specs.declared.refusal.EncodeAllRefusal.TheVariants as texts
use Rattle.smap_resolve.specs.declared.refusal.ResolveRefusal.{ResolveRefusal}
use Rattle.smap_resolve.specs.declared.refusal.ResolveRefusal.TheVariants as names
use Rattle.smap_record.specs.declared.refusal.MapRefusal.{MapRefusal}
use Rattle.smap_record.specs.declared.refusal.MapRefusal.TheVariants.{Url, Memory}
use Rattle.smap_record.specs.declared.write.WriteRefusal.{WriteRefusal}
use Rattle.smap_record.specs.declared.write.WriteRefusal.TheVariants as writes

-- what is read next, by what was read, where nothing was refused
infixl 10 ◌>>=◌
abbrev pub ◌>>=◌ : {A B : Type 0} → Result A MapRefusal → (A → Result B MapRefusal) → Result B MapRefusal
(Ok value) >>= next = next value
(Err refusal) >>= next = Err refusal

-- a value, unless there is a refusal
abbrev pub unless : {A E : Type 0} → Option E → A → Result A E
unless None value = Ok value
unless (Some refusal) value = Err refusal

-- the refusal of a map of which a source gets no name
abbrev pub name_refusal : ResolveRefusal → MapRefusal
name_refusal names.UrlTooLong = Url
name_refusal names.Memory = Memory

-- the refusal of a map whose mappings are not encoded
abbrev pub encode_refusal : EncodeAllRefusal → WriteRefusal
encode_refusal texts.TooLong = writes.TextTooLong
encode_refusal texts.Memory = writes.Memory

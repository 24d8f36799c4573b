-- What is said of a source.
use Rattle.std.specs.Prelude.{◌≡◌, ℕ, Bool, true, false, List, [], Option, None, Some, is_some}
use Rattle.smap_resolve.specs.SourceName.{Name, name_text}
use Rattle.smap_record.specs.Sources.{StatedSource}
use Rattle.smap_c.specs.declared.texts.Source.{Source}

-- 1 for yes, and 0 for no
abbrev pub flag : Bool → ℕ
flag true = 1
flag false = 0

abbrev pub name_or_none : Option Name → List ℕ
name_or_none None = []
name_or_none (Some name) = name_text name

abbrev pub text_or_none : Option (List ℕ) → List ℕ
text_or_none None = []
text_or_none (Some text) = text

-- its name and its content, where it has them, and whether it is ignored
pub record IsReported (stated : StatedSource) (reported : Source) : Type 0 where
  pub name : reported.name.now ≡ name_or_none stated.name
  pub content : reported.content.now ≡ text_or_none stated.content
  pub named : reported.named ≡ flag (is_some stated.name)
  pub held : reported.held ≡ flag (is_some stated.content)
  pub ignored : reported.ignored ≡ flag stated.ignored

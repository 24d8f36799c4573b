-- What a table answers for a URL and a position.
use Rattle.std.specs.Prelude.{◌≡◌, ℕ, Bool, List, [], Option, None, MatchOption, if◌then◌else◌, option_and_then, slice_get}
use Rattle.smap_index.specs.declared.answer.Answer.{Answer}
use Rattle.smap_index.specs.declared.answer.Answer.TheVariants.{Nothing, Unmapped, Found}
use Rattle.smap_record.specs.Record.{MapRecord, answer_of_map, answer_of_map_from}
use Rattle.smap_record.specs.Sources.{StatedSource}
use Rattle.smap_c.specs.Look.{answer_numbers}
use Rattle.smap_c.specs.Texts.{IsReported, text_or_none}
use Rattle.smap_c.specs.declared.look_up.FoundNumbers.{FoundNumbers}
use Rattle.smap_c.specs.declared.texts.Source.{Source}
use Rattle.smap_c.specs.declared.texts.Text.{Text}

-- ---- the answer

abbrev pub answer_in : (after : Bool) → MapRecord → (line column : ℕ) → Answer
answer_in after stated line column = if after then answer_of_map_from stated line column else answer_of_map stated line column

-- the source of an answer, where it has one
abbrev pub source_found : MapRecord → Answer → Option StatedSource
source_found stated Nothing = None
source_found stated (Unmapped column) = None
source_found stated (Found column origin) = slice_get stated.sources origin.source

-- the name of what answers, where it has one
abbrev pub name_found : MapRecord → Answer → Option (List ℕ)
name_found stated Nothing = None
name_found stated (Unmapped column) = None
name_found stated (Found column origin) = option_and_then (slice_get stated.names) origin.name

-- ---- what is said of it

-- nothing is said of a source
pub record IsNoSource (reported : Source) : Type 0 where
  pub name : reported.name.now ≡ []
  pub content : reported.content.now ≡ []
  pub named : reported.named ≡ 0
  pub held : reported.held ≡ 0
  pub ignored : reported.ignored ≡ 0

abbrev pub IsSourceOf : MapRecord → Answer → Source → Type 0
IsSourceOf stated answer reported = MatchOption (source_found stated answer) (IsNoSource reported) (λ source. IsReported source reported)

pub record IsLookedUp (stated : MapRecord) (answer : Answer) (found : FoundNumbers) (source : Source) (name : Text) : Type 0 where
  pub numbers : found ≡ answer_numbers answer
  pub source_is : IsSourceOf stated answer source
  pub name_is : name.text.now ≡ text_or_none (name_found stated answer)

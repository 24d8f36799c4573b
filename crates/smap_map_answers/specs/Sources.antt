-- What `sources` prints of the sources of a map, and of the content of one.
use Rattle.std.specs.Prelude.{◌≡◌, ℕ, List, [], ◌∷◌, Option, Some, None, codes, slice_get}
use Rattle.smap_codes.specs.declared.code.Code.TheVariants.{C1}
use Rattle.smap_record.specs.Record.{MapRecord}
use Rattle.smap_record.specs.Sources.{StatedSource}
use Rattle.smap_command.specs.Lines.{line_from}
use Rattle.smap_printing.specs.Sources.{IsSourcesText}
use Rattle.smap_command.specs.declared.options.SourceOptions.{SourceOptions}
use Rattle.smap_replies.specs.Files.{MayRead}
use Rattle.smap_replies.specs.Map.{OfText}
use Rattle.smap_replies.specs.Outcome.{Report, answer, refusal, refused_by}

-- ---- the sources

-- they are reported, with this generated text, where there is one
pub record IsSourcesReported (options : SourceOptions) (generated : Option (List ℕ)) (stated : MapRecord) (report : Report) : Type 0 where
  pub text : List ℕ
  pub printed : IsSourcesText options stated generated text
  pub reported : report ≡ answer text

-- with the generated file at this path, where one is given, which is the second that is read
abbrev pub ReportsSources : MayRead → SourceOptions → (generated : Option (List ℕ)) → MapRecord → Report → Type 0
ReportsSources Reads options None stated report = IsSourcesReported options None stated report
ReportsSources Reads options (Some path) stated report =
    OfText Reads 1 path (λ text. IsSourcesReported options (Some text) stated) report

-- ---- a content

abbrev pub no_content_line : List ℕ
no_content_line = line_from (codes "refused: no content" ∷ [])

-- that of a source, where the map holds it
abbrev pub content_report : Option (List ℕ) → Report
content_report None = refusal None no_content_line
content_report (Some content) = answer content

-- that of a source, where there is one
abbrev pub source_report : Option StatedSource → Report
source_report None = refused_by C1
source_report (Some source) = content_report source.content

-- that of the source of this index, from 0
abbrev pub content_result : (source : ℕ) → MapRecord → Report
content_result source stated = source_report (slice_get stated.sources source)

-- What is told at the end of a text (this project's own), of maps and of programs: lines, each once.
use Rattle.std.specs.Prelude.{◌≡◌, ◌⊎◌, ℕ, ◌++◌, ◌||◌, Bool, true, false, List, [], Option, Some, None, MatchBool, Result, Ok, Err, String}
use Rattle.std.specs.Prelude.{codes, if◌then◌else◌, length, nat_le, nat_lt, string_bytes}
use Rattle.std.specs.List.{list_any}
use Rattle.std.specs.Str.{bytes_eq}
use Rattle.std.specs.Str.Lines.{lines}
use Rattle.smap_io.specs.Device.{SinkSeen}
use Rattle.smap_lines.specs.declared.fault.LineFault.{LineFault}
use Rattle.smap_replies.specs.Lines.{memory_line}
use Rattle.smap_replies.specs.Streams.{IsReportedTo}
use Rattle.smap_text_answers.specs.declared.told.ToldLines.{ToldLines}

-- ---- what is told

-- lines of text, each once, and whether memory ran out
pub record ToldSeen : Type 0 where
  pub text : List ℕ
  pub short : Bool

abbrev pub told_seen : ToldLines → ToldSeen
told_seen told = record { text = string_bytes told.text; short = told.is_short }

abbrev pub nothing_told : ToldSeen
nothing_told = record { text = []; short = false }

-- what there is to tell of a map: nothing, a line without its LF, or that memory ran out
pub data Said : Type 0 where
  nothing : Said
  line : List ℕ → Said
  shortage : Said

-- a line that there may be
abbrev pub said_by : {A : Type 0} → Option (String A) → Said
said_by None = nothing
said_by (Some text) = line (string_bytes text)

-- a line is told that was not told before, as long as less than 65,536 bytes were
abbrev pub is_told : ToldSeen → (text : List ℕ) → Bool
is_told told text = nat_le 65536 (length told.text) || list_any (λ other. bytes_eq other text) (lines told.text)

abbrev pub tells : ToldSeen → Said → ToldSeen
tells told nothing = told
tells told (line text) = if is_told told text then told else record told { text = told.text ++ text ++ codes "\n" }
tells told shortage = record told { short = true }

-- it is told, or there was not enough memory for that
abbrev pub Tells : (old : ToldSeen) → Said → (new : ToldSeen) → Type 0
Tells old said new = (new ≡ tells old said) ⊎ (new ≡ tells old shortage)

-- ---- at the end

-- behind the lines that memory ran out
abbrev pub told_text : ToldSeen → List ℕ
told_text told = told.text ++ (if told.short then memory_line else [])

abbrev pub has_told : ToldSeen → Bool
has_told told = told.short || nat_lt 0 (length told.text)

abbrev pub told_status : ToldSeen → ℕ
told_status told = if told.short then 3 else 0

-- what was told is reported, or that memory ran out for it, and this is the status of that
abbrev pub ReportsLines : ToldSeen → (status : ℕ) → (before after : SinkSeen) → Type 0
ReportsLines told status before after =
    MatchBool (has_told told)
    (((status ≡ told_status told) × IsReportedTo before after (told_text told)) ⊎ ((status ≡ 3) × IsReportedTo before after memory_line))
    ((status ≡ 0) × (after ≡ before))

-- of a text that was rewritten to its end
abbrev pub TellsLines : {C : Type 0} → ToldSeen → Result C LineFault → (status : ℕ) → (before after : SinkSeen) → Type 0
TellsLines told (Ok counts) status before after = ReportsLines told status before after
TellsLines told (Err fault) status before after = (status ≡ 0) × (after ≡ before)

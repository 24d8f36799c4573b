-- Whether enough of the frames of a text got their places, where that is asked for (this project's own).
use Rattle.std.specs.Prelude.{◌≡◌, ◌⊎◌, ℕ, ◌*◌, ◌==◌, ◌&&◌, Bool, List, [], ◌∷◌, Option, Some, None, Result, Ok, Err, MatchBool, codes, nat_lt}
use Rattle.std.specs.Fmt.{decimal}
use Rattle.smap_codes.specs.Codes.{text_of}
use Rattle.smap_codes.specs.declared.code.Code.TheVariants.{X6}
use Rattle.smap_command.specs.Lines.{line_from}
use Rattle.smap_command.specs.declared.options.Required.{Required}
use Rattle.smap_command.specs.declared.options.Required.TheVariants.{One, Percent}
use Rattle.smap_lines.specs.declared.fault.LineFault.{LineFault}
use Rattle.smap_replies.specs.Outcome.{Report, out_of_memory, refusal}
use Rattle.smap_replies.specs.Streams.{Ends, Sinks}
use Rattle.smap_trace.specs.declared.outcome.RewriteCounts.{RewriteCounts}
use Rattle.smap_trace.specs.declared.outcome.Summary.{Summary}
use Rattle.smap_text_answers.specs.Request.{RequestSeen}
use Rattle.smap_text_answers.specs.Lines.{counted_text}
use Rattle.smap_text_answers.specs.StoreRun.{both_counted}

-- how many frames, or places anywhere, got their places: those whose lines were dropped for them too
abbrev pub placed : Summary → ℕ
placed summary = both_counted summary.mapped summary.hidden

-- there were frames, and none of them got its place
abbrev pub lacks_any : Summary → Bool
lacks_any summary = nat_lt 0 summary.frames && (placed summary == 0)

-- fewer than so many of a hundred did
abbrev pub is_share_missed : (share : ℕ) → Summary → Bool
is_share_missed share summary = nat_lt (placed summary * 100) (share * summary.frames)

-- fewer did than are asked for
abbrev pub is_few : Required → Summary → Bool
is_few One summary = lacks_any summary
is_few (Percent share) summary = is_share_missed share summary

-- of how many how many did
abbrev pub few_line : (anywhere : Bool) → Summary → List ℕ
few_line anywhere summary = line_from (
    codes "refused: " ∷ text_of X6
    ∷ codes " " ∷ decimal (placed summary)
    ∷ codes " of " ∷ decimal summary.frames
    ∷ counted_text anywhere
    ∷ [])

-- this is refused then, or memory ran out for it; and the status of that
abbrev pub IsFewReport : (anywhere : Bool) → Summary → Report → Type 0
IsFewReport anywhere summary report = (report ≡ refusal (Some X6) (few_line anywhere summary)) ⊎ (report ≡ out_of_memory)

abbrev pub RequiresOf : Required → (anywhere : Bool) → Summary → (status : ℕ) → (before after : Sinks) → Type 0
RequiresOf required anywhere summary status before after = MatchBool (is_few required summary)
    ((report : Report) × IsFewReport anywhere summary report × Ends report status before after)
    ((status ≡ 0) × (after ≡ before))

-- where so many are asked for
abbrev pub RequiresWhere : Option Required → (anywhere : Bool) → Summary → (status : ℕ) → (before after : Sinks) → Type 0
RequiresWhere None anywhere summary status before after = (status ≡ 0) × (after ≡ before)
RequiresWhere (Some required) anywhere summary status before after = RequiresOf required anywhere summary status before after

-- of a text that was rewritten to its end
abbrev pub Requires : RequestSeen → Result RewriteCounts LineFault → (status : ℕ) → (before after : Sinks) → Type 0
Requires request (Err fault) status before after = (status ≡ 0) × (after ≡ before)
Requires request (Ok counts) status before after = RequiresWhere request.required request.anywhere counts.summary status before after

-- What `rewrite` does: over files alone, whose maps are read first, or over what it reads when the text names it.
use Rattle.std.specs.Prelude.{ℕ, Bool, List, MatchBool, Option, String, map}
use Rattle.smap_command.specs.declared.options.FurtherOptions.{FurtherOptions}
use Rattle.smap_replies.specs.Arguments.{argument_of}
use Rattle.smap_replies.specs.Files.{MayCause, MayRead}
use Rattle.smap_replies.specs.Runs.{RunsOne}
use Rattle.smap_replies.specs.Streams.{Streams}
use Rattle.smap_text_answers.specs.Request.{asks_for_more, request_of}
use Rattle.smap_text_answers.specs.RewriteFrom.{RewritesFrom}
use Rattle.smap_text_answers.specs.Trace.{IsTraceRewritten, RewriteReports}
use Rattle.url.specs.Parts.{Parts}

-- what `rewrite` does to the streams, and the status with which it ends
abbrev pub RunsRewrite : {A : Type 0} → MayRead → MayCause → Option Parts → (k : ℕ) → List (String A × String A) → (hide : Bool)
    → FurtherOptions → (hint : Bool) → (status : ℕ) → (before after : Streams) → Type 0
RunsRewrite Reads Causes base k maps hide options hint status before after =
    MatchBool (asks_for_more maps options hint)
    (RewritesFrom Reads Causes base k (request_of maps hide options hint) status before after)
    (RunsOne (RewriteReports Reads base k (IsTraceRewritten hide) (map argument_of maps)) status before after)

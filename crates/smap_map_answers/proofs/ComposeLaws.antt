-- What `compose` prints of an inner map that is refused.
use Rattle.std.proofs.Common.{◌≡◌, ℕ, List, Option, Result, Ok, Err, ap, sym, ◌∙◌, inl, inr}
use Rattle.std.specs.Prelude.{MatchResult}
use Rattle.smap_compose.specs.declared.refusal.ComposeRefusal.{ComposeRefusal}
use Rattle.smap_compose.specs.declared.refusal.ComposeRefusal.TheVariants.{Memory}
use Rattle.smap_mappings.specs.Exact.{GivesOr}
use Rattle.smap_record.specs.Record.{MapRecord, record_of}
use Rattle.smap_map_answers.specs.Compose.{RefusesTwo, compose_refusal_result}
use Rattle.smap_replies.specs.Files.{MayRead, IsUnread}
use Rattle.smap_map_answers.proofs.WithIdLaws.{refused_so}
use Rattle.smap_replies.specs.Map.{Never, ReportsFound, refusal_result}
use Rattle.smap_replies.specs.Outcome.{OrMemory, Report, reply_report}
use Rattle.smap_map_answers.specs.Written.{report_or}
use Rattle.smap_replies.specs.declared.outcome.Reply.{Reply}
use Rattle.smap_command.specs.Limits.{usual_interval}
use Rattle.url.specs.Parts.{Parts}

-- the inner file can't be read, where the outer one is
pub inner_unread : (Reads : MayRead) (outer inner : List ℕ) (base : Option Parts) (first : List ℕ) (report : Report)
    → Reads 0 outer (Ok first) → OrMemory (IsUnread Reads 1 inner) report → OrMemory (RefusesTwo Reads outer inner base) report
inner_unread Reads outer inner base first report one (inl no_memory) = inl no_memory
inner_unread Reads outer inner base first report one (inr unread) = inr (inr (first, one, inl unread))

-- both are read, and the outer map is refused
pub outer_refused : (Reads : MayRead) (outer inner : List ℕ) (base : Option Parts) (first second : List ℕ) (report : Report)
    → Reads 0 outer (Ok first) → Reads 1 inner (Ok second)
    → OrMemory (ReportsFound (refusal_result outer) (record_of first base usual_interval) Never) report
    → OrMemory (RefusesTwo Reads outer inner base) report
outer_refused Reads outer inner base first second report one other (inl no_memory) = inl no_memory
outer_refused Reads outer inner base first second report one other (inr reported) =
    inr (inr (
      first,
      one,
      inr (
        second,
        other,
        refused_so (refusal_result outer) (record_of first base usual_interval)
            (λ stated. ReportsFound (refusal_result inner) (record_of second base usual_interval) Never) report reported,
      ),
    ))

-- or the inner one
pub inner_refused : (Reads : MayRead) (outer inner : List ℕ) (base : Option Parts) (first second : List ℕ) (stated : MapRecord) (report : Report)
    → Reads 0 outer (Ok first) → record_of first base usual_interval ≡ Ok stated → Reads 1 inner (Ok second)
    → OrMemory (ReportsFound (refusal_result inner) (record_of second base usual_interval) Never) report
    → OrMemory (RefusesTwo Reads outer inner base) report
inner_refused Reads outer inner base first second stated report one is other (inl no_memory) = inl no_memory
inner_refused Reads outer inner base first second stated report one is other (inr reported) =
    inr (inr (first, one, inr (second, other, rw is (inr reported))))

-- what maps come to is reported, or why they don't
pub reported_or : (made : Result Reply ComposeRefusal) (stated : Result Report ComposeRefusal) (report : Report)
    → MatchResult made (λ reply. report ≡ reply_report reply) (λ refusal. OrMemory (λ reported. reported ≡ compose_refusal_result refusal) report)
    → GivesOr Memory reply_report made stated → OrMemory (λ reported. reported ≡ report_or compose_refusal_result stated) report
reported_or (Ok reply) stated report reported gives = inr (reported ∙ ap (report_or compose_refusal_result) (sym gives))
reported_or (Err refusal) stated report (inl no_memory) gives = inl no_memory
reported_or (Err refusal) stated report (inr reported) (inl memory) = inl (reported ∙ ap compose_refusal_result memory)
reported_or (Err refusal) stated report (inr reported) (inr is) = inr (reported ∙ ap (report_or compose_refusal_result) (sym is))

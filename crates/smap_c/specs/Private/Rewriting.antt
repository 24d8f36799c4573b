-- What a rewriting comes to.
use Rattle.std.specs.Prelude.{◌≡◌, ◌<◌, ◌≤◌, ◌++◌, ℕ, List, Result, Ok, Err, length}
use Rattle.smap_lines.specs.Limits.{most_text_bytes}
use Rattle.smap_lines.specs.declared.fault.LineFault.{LineFault}
use Rattle.smap_lines.specs.declared.fault.LineFault.TheVariants.{TooMuch}
use Rattle.smap_store.specs.UrlTable.{UrlTableSeen}
use Rattle.smap_trace.specs.Rewriting.{counts_seen as summary_seen}
use Rattle.smap_trace.specs.declared.outcome.Summary.{Summary}
use Rattle.smap_c.specs.Trace.{counts_of, text_of}
use Rattle.smap_c.specs.declared.trace.RewriteOptions.{RewriteOptions}

-- what was read was rewritten to these bytes, and counted
pub record IsRewritten (options : RewriteOptions) (table : UrlTableSeen) (read written : List ℕ) (summary : Summary) : Type 0 where
  pub text_is : written ≡ text_of options table read
  pub counted : summary_seen summary ≡ counts_of options table read
  pub fits : length read ≤ most_text_bytes

-- where that is the fault, it has too many bytes
abbrev pub IsTooMuch : (read : List ℕ) → LineFault → Type 0
IsTooMuch read fault = fault ≡ TooMuch → most_text_bytes < length read

-- a front of it was rewritten, and a front of what that comes to was written
pub record HasFront (options : RewriteOptions) (table : UrlTableSeen) (read written : List ℕ) : Type 0 where
  pub front : List ℕ
  pub rest : List ℕ
  pub later : List ℕ
  pub is_front : read ≡ front ++ rest
  pub made : text_of options table front ≡ written ++ later

-- so it ends: what was read is rewritten, or too much, and a front of it is
abbrev pub EndsRewriting : RewriteOptions → UrlTableSeen → (read written : List ℕ) → Result Summary LineFault → Type 0
EndsRewriting options table read written (Ok summary) = IsRewritten options table read written summary
EndsRewriting options table read written (Err fault) = IsTooMuch read fault × HasFront options table read written

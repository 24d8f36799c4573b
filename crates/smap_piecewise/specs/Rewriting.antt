-- A rewriting that is given bytes (this project's own).
use Rattle.std.specs.Prelude.{◌≡◌, ℕ, ◌+◌, ◌-◌, ◌^◌, Bool, true, false, List, [], ◌++◌, Option, None, Some, if◌then◌else◌, length, min}
use Rattle.smap_pairs.specs.Known.{UrlsKnown}
use Rattle.smap_io.specs.Sequences.{most_sequences, without_sequences}
use Rattle.smap_trace.specs.MapsOf.{NamedByUrl}
use Rattle.smap_piecewise.specs.Known.{AgreesNamed, NamedKnown}
use Rattle.smap_piecewise.specs.Outcome.{Outcome}
use Rattle.smap_piecewise.specs.Stripping.{held_of, text_behind}
use Rattle.smap_piecewise.specs.Work.{WorkNow, WorkStopsAt, is_over, output_of, with_left, without_output, work_outcome}
use Rattle.smap_piecewise.specs.declared.rewriting.TextOptions.{TextOptions}
use Rattle.smap_piecewise.specs.declared.stop.Stop.{Stop}
use Rattle.smap_piecewise.specs.declared.stripping.Stripping.{Stripping}

-- how far its frames or places are, and how many bytes their output may have; what was given and may stand in control sequences, where
-- these are left out; whether the text ends with what was given, how many bytes it has at most, and how many were given
pub record RewritingNow : Type 0 where
  pub work : WorkNow
  pub limit : ℕ
  pub stripping : Option Stripping
  pub asks : Bool
  pub is_ended : Bool
  pub most_bytes : ℕ
  pub taken : ℕ

-- ---- what is done to it

abbrev pub stripping_at_first : (is_stripped : Bool) → Option Stripping
stripping_at_first is_stripped = if is_stripped then Some (record { held = []; most = most_sequences }) else None

-- nothing was given
abbrev pub begun_with : WorkNow → TextOptions → RewritingNow
begun_with work options = record {
  work = work;
  limit = options.most_output;
  stripping = stripping_at_first options.strip;
  asks = options.asks;
  is_ended = false;
  most_bytes = options.most_bytes;
  taken = 0;
}

abbrev pub given_to : Option Stripping → (bytes : List ℕ) → Option Stripping
given_to None bytes = None
given_to (Some now) bytes = Some (record now { held = now.held ++ bytes })

abbrev pub given_on : Option Stripping → (bytes : List ℕ) → WorkNow → WorkNow
given_on None bytes work = with_left bytes work
given_on (Some now) bytes work = work

-- it was given these bytes more
abbrev pub with_bytes : (bytes : List ℕ) → RewritingNow → RewritingNow
with_bytes bytes now = record now {
  work = given_on now.stripping bytes now.work;
  stripping = given_to now.stripping bytes;
  taken = now.taken + length bytes;
}

abbrev pub text_ended : RewritingNow → RewritingNow
text_ended now = record now { is_ended = true }

-- its output is let go of
abbrev pub output_cleared : RewritingNow → RewritingNow
output_cleared now = record now { work = without_output now.work; limit = now.limit - length (output_of now.work) }

-- so many bytes may be written behind it
abbrev pub with_allowance : (most_output : ℕ) → RewritingNow → RewritingNow
with_allowance most_output now = record now { limit = min (most_output + length (output_of now.work)) (2 ^ 64 - 1) }

-- ---- what it comes to

-- what is read of a text
abbrev pub text_read : (is_stripped : Bool) → (text : List ℕ) → List ℕ
text_read is_stripped text = if is_stripped then without_sequences text else text

-- what it comes to over these maps, if these bytes come behind those that were given
abbrev pub outcome_of : UrlsKnown → NamedByUrl → RewritingNow → (later : List ℕ) → Outcome
outcome_of urls maps now later = work_outcome urls maps now.work (text_behind now.stripping later)

-- over all maps that agree with what is known, and whatever bytes come, it comes to what it did, and the output is longer
pub record HasRun (urls : UrlsKnown) (known : NamedKnown) (old new : RewritingNow) : Type 0 where
  pub same : (maps : NamedByUrl) (later : List ℕ) → AgreesNamed known maps → (old.is_ended ≡ true → later ≡ [])
      → outcome_of urls maps new later ≡ outcome_of urls maps old later
  pub more : List ℕ
  pub written : output_of new.work ≡ output_of old.work ++ more
  pub limit : new.limit ≡ old.limit
  pub asks : new.asks ≡ old.asks
  pub is_ended : new.is_ended ≡ old.is_ended
  pub most_bytes : new.most_bytes ≡ old.most_bytes
  pub taken : new.taken ≡ old.taken

-- nothing is held of a text that has ended
abbrev pub IsTold : RewritingNow → Type 0
IsTold now = now.is_ended ≡ true → held_of now.stripping ≡ []

-- all that was given was handed on, where the text ends with it
abbrev pub IsHandedOn : RewritingNow → Type 0
IsHandedOn now = now.is_ended ≡ true → (is_over now.work ≡ true) × (held_of now.stripping ≡ [])

-- and where it stops
pub record HasStopped (known : NamedKnown) (now : RewritingNow) (stop : Stop) : Type 0 where
  pub work : WorkStopsAt now.limit known now.work stop
  pub over : IsHandedOn now

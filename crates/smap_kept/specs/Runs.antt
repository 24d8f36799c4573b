-- Runs of calls (this project's own): what they make of what is kept, and what they said of each URL, as if nothing were
-- ever dropped.
use Rattle.std.specs.Prelude.{ℕ, Bool, true, false, List, [], ◌∷◌, None, Some, if◌then◌else◌}
use Rattle.std.specs.Str.{bytes_eq}
use Rattle.smap_locations.specs.Paths.{without_query}
use Rattle.smap_kept.specs.Kept.{KeptSeen, answer_of, asked_for, forgotten, kept_at_first, why_none, with_none, with_value}
use Rattle.smap_kept.specs.declared.answer.KeptAnswer.{KeptAnswer}
use Rattle.smap_kept.specs.declared.answer.KeptAnswer.TheVariants.{Known, Wanted}
use Rattle.smap_kept.specs.declared.bounded.Counted.{Counted}
use Rattle.smap_kept.specs.declared.kept.Absence.{Absence}

-- a call that changes what is kept, by its arguments
pub data Call (T : Type 0) : Type 0 where
  Put : (url : List ℕ) → Counted T → Call T
  PutNone : (url : List ℕ) → Absence → Call T
  Forget : (url : List ℕ) → Call T
  ForgetNone : Call T
  Ask : (now : ℕ) → (url : List ℕ) → Call T

-- ---- what is kept after them

module _ {T : Type 0} where
  abbrev pub kept_by : Call T → KeptSeen T → KeptSeen T
  kept_by (Put url one) kept = with_value url one kept
  kept_by (PutNone url none) kept = with_none url (record { value = none; bytes = 0 }) kept
  kept_by (Forget url) kept = forgotten url kept
  kept_by ForgetNone kept = record kept { nones = [] }
  kept_by (Ask now url) kept = asked_for now kept url

  -- after calls, of which the last stands first
  abbrev pub kept_after : (most : ℕ) → List (Call T) → KeptSeen T
  kept_after most [] = kept_at_first most
  kept_after most (call ∷ before) = kept_by call (kept_after most before)

-- ---- what they said

-- what was put last under a URL, and not forgotten since
pub data Said (T : Type 0) : Type 0 where
  NothingSaid : Said T
  ValueSaid : T → Said T
  NoneSaid : Absence → Said T

module _ {T : Type 0} where
  abbrev pub without_none : Said T → Said T
  without_none NothingSaid = NothingSaid
  without_none (ValueSaid value) = ValueSaid value
  without_none (NoneSaid none) = NothingSaid

  abbrev pub said_of : List (Call T) → (url : List ℕ) → Said T
  said_of [] url = NothingSaid
  said_of (Put there one ∷ before) url = if bytes_eq url there then ValueSaid one.value else said_of before url
  said_of (PutNone there none ∷ before) url = if bytes_eq url there then NoneSaid none else said_of before url
  said_of (Forget there ∷ before) url = if bytes_eq url there then NothingSaid else said_of before url
  said_of (ForgetNone ∷ before) url = without_none (said_of before url)
  said_of (Ask now there ∷ before) url = said_of before url

  -- something was put under this very URL
  abbrev pub was_put : List (Call T) → (url : List ℕ) → Bool
  was_put [] url = false
  was_put (Put there one ∷ before) url = if bytes_eq url there then true else was_put before url
  was_put (PutNone there none ∷ before) url = if bytes_eq url there then true else was_put before url
  was_put (Forget there ∷ before) url = was_put before url
  was_put (ForgetNone ∷ before) url = was_put before url
  was_put (Ask now there ∷ before) url = was_put before url

  abbrev pub answer_by : (now : ℕ) → Said T → KeptAnswer T
  answer_by now NothingSaid = Wanted
  answer_by now (ValueSaid value) = Known value
  answer_by now (NoneSaid none) = answer_of None (why_none now (Some none))

  -- the answer for a URL as if all that was put were at hand: what was put last under the URL, where something was, or else
  -- under it without its query and its fragment
  abbrev pub answer_said : (now : ℕ) → List (Call T) → (url : List ℕ) → KeptAnswer T
  answer_said now calls url = answer_by now (said_of calls (if was_put calls url then url else without_query url))

-- What is known of URLs, within a bound (this project's own): the value of each, or why it has none.
use Rattle.std.specs.Prelude.{◌≡◌, ℕ, ◌+◌, ◌-◌, ◌/◌, ◌^◌, Bool, true, false, List, [], ◌∷◌, Option, Some, None, if◌then◌else◌, length, min, nat_lt}
use Rattle.smap_kept.specs.Bounded.{kept_within, known_under}
use Rattle.smap_kept.specs.InOrder.{used, without}
use Rattle.smap_kept.specs.OwnUrls.{OwnSeen, key_of, own_with}
use Rattle.smap_kept.specs.declared.answer.KeptAnswer.{KeptAnswer}
use Rattle.smap_kept.specs.declared.answer.KeptAnswer.TheVariants.{Known, NoneKnown, Wanted}
use Rattle.smap_kept.specs.declared.answer.NoValue.{NoValue}
use Rattle.smap_kept.specs.declared.bounded.Counted.{Counted}
use Rattle.smap_kept.specs.declared.kept.Absence.{Absence}
use Rattle.smap_kept.specs.declared.kept.Kept.TheInside.{Inside}

-- the values, and why others have none, each under its URL; what was used last stands first. Both are within a bound of
-- bytes. With the URLs that stand for themselves, how many look-ups were asked, how many of them were answered, and how much
-- was dropped for room
pub record KeptSeen (T : Type 0) : Type 0 where
  pub values : List (List ℕ × Counted T)
  pub nones : List (List ℕ × Counted Absence)
  pub most : ℕ
  pub own : OwnSeen
  pub asked : ℕ
  pub hits : ℕ
  pub dropped : ℕ

-- ---- the answer

-- that there is none holds for ever, or until a time
abbrev pub still_holds : (now : ℕ) → (until : Option ℕ) → Bool
still_holds now None = true
still_holds now (Some until) = nat_lt now until

-- why there is none, where that still holds
abbrev pub why_none : (now : ℕ) → Option Absence → Option NoValue
why_none now None = None
why_none now (Some none) = if still_holds now none.until then Some none.why else None

module _ {T : Type 0} where
  abbrev pub answer_of : Option T → (why : Option NoValue) → KeptAnswer T
  answer_of (Some value) why = Known value
  answer_of None (Some why) = NoneKnown why
  answer_of None None = Wanted

  -- what is known under this very URL
  abbrev pub own_answer : (now : ℕ) → KeptSeen T → (url : List ℕ) → KeptAnswer T
  own_answer now kept url = answer_of (known_under url kept.values) (why_none now (known_under url kept.nones))

  -- what is known of a URL is what is known under its key
  abbrev pub answer : (now : ℕ) → KeptSeen T → (url : List ℕ) → KeptAnswer T
  answer now kept url = own_answer now kept (key_of kept.own url)

  abbrev pub is_wanted : KeptAnswer T → Bool
  is_wanted Wanted = true
  is_wanted (Known value) = false
  is_wanted (NoneKnown why) = false

module _ {T U : Type 0} (see : T → U) where
  abbrev pub answer_seen : KeptAnswer T → KeptAnswer U
  answer_seen Wanted = Wanted
  answer_seen (Known value) = Known (see value)
  answer_seen (NoneKnown why) = NoneKnown why

-- ---- what changes

-- some more, as far as 64 bits can count
abbrev pub more : (count some : ℕ) → ℕ
more count some = min (count + some) (2 ^ 64 - 1)

module _ {T : Type 0} where
  abbrev pub kept_at_first : (most : ℕ) → KeptSeen T
  kept_at_first most = record {
    values = [];
    nones = [];
    most = most;
    own = record { urls = []; most = most / 16; are_all = false };
    asked = 0;
    hits = 0;
    dropped = 0;
  }

  -- what gave an answer under this URL is now the last used
  abbrev pub used_by : KeptAnswer T → (url : List ℕ) → KeptSeen T → KeptSeen T
  used_by (Known value) url kept = record kept { values = used url kept.values }
  used_by (NoneKnown why) url kept = record kept { nones = used url kept.nones }
  used_by Wanted url kept = kept

  abbrev pub own_used : (now : ℕ) → KeptSeen T → (url : List ℕ) → KeptSeen T
  own_used now kept url = used_by (own_answer now kept url) url kept

  -- a look-up is counted, and what gave the answer is now the last used
  abbrev pub asked_for : (now : ℕ) → KeptSeen T → (url : List ℕ) → KeptSeen T
  asked_for now kept url = record (own_used now kept (key_of kept.own url)) {
    asked = more kept.asked 1;
    hits = if is_wanted (answer now kept url) then kept.hits else more kept.hits 1;
  }

  -- a value is put under a URL, in the place of what was there, and what there is no room for is dropped
  abbrev pub with_value : (url : List ℕ) → Counted T → KeptSeen T → KeptSeen T
  with_value url one kept =
      let all = (url, one) ∷ without url kept.values in
      record kept {
        values = kept_within kept.most all;
        nones = without url kept.nones;
        own = own_with url kept.own;
        dropped = more kept.dropped (length all - length (kept_within kept.most all));
      }

  -- the same of why there is none, which has a sixteenth of the bound for itself
  abbrev pub with_none : (url : List ℕ) → Counted Absence → KeptSeen T → KeptSeen T
  with_none url one kept =
      let all = (url, one) ∷ without url kept.nones in
      record kept {
        values = without url kept.values;
        nones = kept_within (kept.most / 16) all;
        own = own_with url kept.own;
        dropped = more kept.dropped (length all - length (kept_within (kept.most / 16) all));
      }

  abbrev pub forgotten : (url : List ℕ) → KeptSeen T → KeptSeen T
  forgotten url kept = record kept { values = without url kept.values; nones = without url kept.nones }

  -- ---- what the fields stand for

  abbrev pub kept_seen : Inside T → KeptSeen T
  kept_seen inside = record {
    values = inside.values.entries;
    nones = inside.nones.entries;
    most = inside.values.most;
    own = inside.own;
    asked = inside.asked;
    hits = inside.hits;
    dropped = inside.dropped;
  }

  -- each bound is part of that of the values
  pub record IsKept (inside : Inside T) : Type 0 where
    pub nones : inside.nones.most ≡ inside.values.most / 16
    pub own : inside.own.most ≡ inside.values.most / 16

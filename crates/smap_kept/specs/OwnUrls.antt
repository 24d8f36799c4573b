-- The URLs with a query or a fragment under which something was put (this project's own). Such a URL stands for itself from
-- then on, also after what was put is dropped or forgotten: what is known of it without these is never its answer.
use Rattle.std.specs.Prelude.{ℕ, ◌+◌, ◌||◌, ◌&&◌, Bool, true, false, not, List, ◌∷◌, if◌then◌else◌, is_some, length, nat_le, nat_lt}
use Rattle.smap_locations.specs.ByText.{value_under}
use Rattle.smap_locations.specs.Paths.{without_query}
use Rattle.smap_kept.specs.Bounded.{bytes_of, entry_bytes}
use Rattle.smap_kept.specs.InOrder.{without}
use Rattle.smap_kept.specs.declared.bounded.Counted.{Counted}
use Rattle.smap_kept.specs.declared.own_urls.Added.{Added}
use Rattle.smap_kept.specs.declared.own_urls.Added.TheVariants.{All, Before, Here}
use Rattle.smap_kept.specs.declared.own_urls.OwnUrls.TheInside.{Inside}

-- these, the last put first, and how many bytes they may count for; or all that have a query or a fragment
pub record OwnSeen : Type 0 where
  pub urls : List (List ℕ × Counted (Unit {0}))
  pub most : ℕ
  pub are_all : Bool

abbrev pub mark : Counted (Unit {0})
mark = record { value = tt; bytes = 0 }

abbrev pub has_query : (url : List ℕ) → Bool
has_query url = nat_lt (length (without_query url)) (length url)

abbrev pub is_own : OwnSeen → (url : List ℕ) → Bool
is_own own url = own.are_all || is_some (value_under url own.urls)

-- under which URL is what is known of a URL
abbrev pub key_of : OwnSeen → (url : List ℕ) → List ℕ
key_of own url = if has_query url && is_own own url then url else without_query url

-- ---- one more

abbrev pub has_room_beside : OwnSeen → (url : List ℕ) → Bool
has_room_beside own url = nat_le (entry_bytes (url, mark) + bytes_of own.urls) own.most

-- where there is no room for it, all are
abbrev pub added_by : OwnSeen → (url : List ℕ) → Added
added_by own url = if not (has_query url) || is_own own url then Before else if has_room_beside own url then Here else All

abbrev pub own_after : Added → (url : List ℕ) → OwnSeen → OwnSeen
own_after Before url own = own
own_after Here url own = record own { urls = (url, mark) ∷ own.urls }
own_after All url own = record own { are_all = true }

abbrev pub own_with : (url : List ℕ) → OwnSeen → OwnSeen
own_with url own = own_after (added_by own url) url own

-- what it changed is taken back
abbrev pub own_before : Added → (url : List ℕ) → OwnSeen → OwnSeen
own_before Before url own = own
own_before Here url own = record own { urls = without url own.urls }
own_before All url own = record own { are_all = false }

-- ---- what the fields stand for

abbrev pub own_seen : Inside → OwnSeen
own_seen inside = record { urls = inside.urls.entries; most = inside.urls.most; are_all = inside.are_all }

-- The URLs that stand for themselves, after one was added.
use Rattle.std.proofs.Common.{◌≡◌, ℕ, ◌+◌, ◌-◌, ◌<◌, ◌≤◌, ◌||◌, ◌&&◌, Bool, true, false, cond, not, List, ◌∷◌, Option, Some, None, get_or, get_or-take, is_some, length, refl, sym, ap, arith, leb-true, length-take, take, take_all, ◌∙◌}
use Rattle.std.proofs.lemmas.Bool.{false≢true, ltb-false, ltb-true, or_parts}
use Rattle.std.proofs.lemmas.List.Folds.{length-prefix_len}
use Rattle.std.proofs.lemmas.List.Sums.{prefix_len_passes, prefix_len_stops}
use Rattle.std.specs.List.{prefix_len}
use Rattle.std.specs.Str.{bytes_eq}
use Rattle.smap_locations.specs.ByText.{value_under}
use Rattle.smap_locations.specs.Laws.ByText.{same_text}
use Rattle.smap_locations.specs.Paths.{is_before_query, without_query}
use Rattle.smap_kept.specs.Bounded.{bytes_of, entry_bytes, fitting, kept_within}
use Rattle.smap_kept.specs.InOrder.{without}
use Rattle.smap_kept.specs.OwnUrls.{OwnSeen, added_by, has_query, has_room_beside, is_own, key_of, mark, own_after, own_before, own_with}
use Rattle.smap_kept.specs.declared.bounded.Counted.{Counted}
use Rattle.smap_kept.specs.declared.own_urls.Added.{Added}
use Rattle.smap_kept.specs.declared.own_urls.Added.TheVariants.{All, Before, Here}
use Rattle.smap_kept.proofs.Fitting.{all_fit}
use Rattle.smap_kept.proofs.Numbers.{all_stay}

-- a URL with neither query nor fragment is the URL without them
pub whole_is : (url : List ℕ) → has_query url ≡ false → without_query url ≡ url
whole_is url is =
    let some = prefix_len is_before_query url in
    let all : length url ≤ length (take some url) = ltb-false (length (take some url)) (length url) is in
    take_all some url (omega (arith, all, length-take some url))

-- and the latter has neither
pub cut_is_whole : (url : List ℕ) → has_query (without_query url) ≡ false
cut_is_whole url = go (has_query cut) refl
  where
    cut : List ℕ
    cut = without_query url

    go : (b : Bool) → has_query cut ≡ b → b ≡ false
    go false is = refl
    go true is =
        let some = prefix_len is_before_query url in
        let stop = prefix_len is_before_query cut in
        let less : stop < length cut = omega (arith, ltb-true (length (take stop cut)) (length cut) is, length-prefix_len is_before_query cut) in
        let within : stop < some = omega (arith, less, length-take some url) in
        let here : is_before_query (get_or cut stop 0) ≡ false = prefix_len_stops is_before_query cut 0 less in
        let there : is_before_query (get_or url stop 0) ≡ true = prefix_len_passes is_before_query url stop 0 within in
        let same : get_or cut stop 0 ≡ get_or url stop 0 = get_or-take some url stop 0 within in
        absurd (false≢true (sym here ∙ ap is_before_query same ∙ there))

none_is : {T : Type 0} (found : Option T) → is_some found ≡ false → found ≡ None
none_is None is = refl
none_is (Some value) is = cc

also_here : (all : Bool) (found : Option (Counted (Unit {0}))) (b : Bool) → (all || is_some found) ≡ true → (all || is_some (cond b (Some mark) found)) ≡ true
also_here true found b is = refl
also_here false found true is = refl
also_here false found false is = is

here_now : (all b : Bool) (found : Option (Counted (Unit {0}))) → b ≡ true → (all || is_some (cond b (Some mark) found)) ≡ true
here_now true b found is = refl
here_now false true found is = refl
here_now false false found is = cc

module _ (url : List ℕ) (own : OwnSeen) where
  abbrev by_tests : (query here room : Bool) → Added
  by_tests query here room = cond (not query || here) Before (cond room Here All)

  pub own_of_put : has_query url ≡ true → is_own (own_with url own) url ≡ true
  own_of_put query = go (has_query url) (is_own own url) refl (has_room_beside own url) query
    where
      go : (query here : Bool) → is_own own url ≡ here → (room : Bool) → query ≡ true → is_own (own_after (by_tests query here room) url own) url ≡ true
      go false here is room none = cc
      go true true is room some = is
      go true false is true some = here_now own.are_all (bytes_eq url url) (value_under url own.urls) (same_text url)
      go true false is false some = refl

  pub key_of_put : key_of (own_with url own) url ≡ url
  key_of_put = go (has_query url) refl
    where
      go : (query : Bool) → has_query url ≡ query → cond (query && is_own (own_with url own) url) url (without_query url) ≡ url
      go false is = whole_is url is
      go true is = ap (λ b. cond b url (without_query url)) (own_of_put is)

  -- a URL keeps its key when something is put under that
  pub key_stays : key_of (own_with (key_of own url) own) url ≡ key_of own url
  key_stays = go (has_query url && is_own own url) refl
    where
      cut_own : own_with (without_query url) own ≡ own
      cut_own =
          ap (λ b. own_after (cond (not b || is_own own (without_query url)) Before (cond (has_room_beside own (without_query url)) Here All)) (without_query url) own)
          (cut_is_whole url)

      go : (b : Bool) → (has_query url && is_own own url) ≡ b → key_of (own_with (cond b url (without_query url)) own) url ≡ cond b url (without_query url)
      go true is = key_of_put
      go false is = ap (λ it. key_of it url) cut_own ∙ ap (λ b. cond b url (without_query url)) is

  pub own_stays : (other : List ℕ) → is_own own other ≡ true → is_own (own_with url own) other ≡ true
  own_stays other is = go (added_by own url)
    where
      go : (added : Added) → is_own (own_after added url own) other ≡ true
      go Before = is
      go Here = also_here own.are_all (value_under other own.urls) (bytes_eq other url) is
      go All = refl

  pub taken_back : own_before (added_by own url) url (own_with url own) ≡ own
  taken_back = go (has_query url) (is_own own url) refl (has_room_beside own url)
    where
      go : (query here : Bool) → is_own own url ≡ here → (room : Bool)
          → own_before (by_tests query here room) url (own_after (by_tests query here room) url own) ≡ own
      go false here is room = refl
      go true true is room = refl
      go true false is true = ap (λ b. record own { urls = cond b own.urls ((url, mark) ∷ without url own.urls) }) (same_text url)
      go true false is false = ap (λ b. record own { are_all = b }) (sym (or_parts own.are_all _ is).0)

  -- where there is room for one more, nothing is dropped for it
  pub put_beside : is_own own url ≡ false → has_room_beside own url ≡ true → kept_within own.most ((url, mark) ∷ without url own.urls) ≡ (url, mark) ∷ own.urls
  put_beside is room =
      let left = own.most - entry_bytes (url, mark) in
      let none = none_is (value_under url own.urls) (or_parts own.are_all (is_some (value_under url own.urls)) is).1 in
      let within = leb-true (entry_bytes (url, mark) + bytes_of own.urls) own.most room in
      ap (λ l. (url, mark) ∷ fitting left l) (all_stay url own.urls none)
      ∙ ap (λ l. (url, mark) ∷ l) (all_fit left own.urls (omega (arith, within)))

  here_by_tests : (query here room : Bool) → query ≡ true → here ≡ false → room ≡ true → by_tests query here room ≡ Here
  here_by_tests false here room query apart fits = cc
  here_by_tests true true room query apart fits = cc
  here_by_tests true false false query apart fits = cc
  here_by_tests true false true query apart fits = refl

  -- so it is one more
  pub put_is : has_query url ≡ true → is_own own url ≡ false → has_room_beside own url ≡ true
      → own_with url own ≡ record own { urls = kept_within own.most ((url, mark) ∷ without url own.urls) }
  put_is query apart room =
      ap (λ added. own_after added url own) (here_by_tests (has_query url) (is_own own url) (has_room_beside own url) query apart room)
      ∙ sym (ap (λ l. record own { urls = l }) (put_beside apart room))

-- What is kept after a run of calls is what they said.
use Rattle.std.proofs.Common.{◌≡◌, ◌⊎◌, ℕ, ◌/◌, ◌&&◌, Bool, true, false, cond, List, [], ◌∷◌, Option, Some, None, option_map, refl, sym, ap, subst, inl, inr, ◌∙◌}
use Rattle.std.proofs.lemmas.Slice.Eq.{bytes_eq-Decides}
use Rattle.std.specs.Str.{bytes_eq}
use Rattle.smap_locations.specs.ByText.{value_under}
use Rattle.smap_locations.specs.Paths.{without_query}
use Rattle.smap_kept.specs.Bounded.{known_under}
use Rattle.smap_kept.specs.InOrder.{without}
use Rattle.smap_kept.specs.Kept.{KeptSeen, answer, answer_of, asked_for, forgotten, own_answer, still_holds, used_by, why_none, with_none, with_value}
use Rattle.smap_kept.specs.OwnUrls.{OwnSeen, has_query, is_own, key_of, own_with}
use Rattle.smap_kept.specs.Runs.{Call, Put, PutNone, Forget, ForgetNone, Ask, NothingSaid, NoneSaid, Said, ValueSaid, answer_by, answer_said, kept_after, said_of, was_put, without_none}
use Rattle.smap_kept.specs.declared.answer.KeptAnswer.{KeptAnswer}
use Rattle.smap_kept.specs.declared.answer.KeptAnswer.TheVariants.{Known, NoneKnown, Wanted}
use Rattle.smap_kept.specs.declared.bounded.Counted.{Counted}
use Rattle.smap_kept.specs.declared.kept.Absence.{Absence}
use Rattle.smap_kept.proofs.OwnLaws.{key_of_put, key_stays, own_of_put, own_stays, whole_is}
use Rattle.smap_kept.proofs.UnderLaws.{IsOnceUnder, found_without, none_there, once_put, once_used, once_without}
use Rattle.smap_kept.specs.Laws.Under.{found_first, found_put, other_without, same_used}

own_or : (own : OwnSeen) (url there : List ℕ) (before : Bool) → (before ≡ true → has_query url ≡ true → is_own own url ≡ true)
    → (b : Bool) → bytes_eq url there ≡ b → cond b true before ≡ true → has_query url ≡ true → is_own (own_with there own) url ≡ true
own_or own url there before below true same put query =
    subst (λ t. is_own (own_with t own) url ≡ true) ((bytes_eq-Decides url there).0 same) (own_of_put url own query)
own_or own url there before below false apart put query = own_stays there own url (below put query)

module _ {T : Type 0} where
  -- what is kept was said, each URL is kept once, and one that something was put under stands for itself
  pub record IsAsSaid (calls : List (Call T)) (kept : KeptSeen T) : Type 0 where
    pub values_once : IsOnceUnder kept.values
    pub nones_once : IsOnceUnder kept.nones
    pub values : (url : List ℕ) (one : Counted T) → value_under url kept.values ≡ Some one → said_of calls url ≡ ValueSaid one.value
    pub nones : (url : List ℕ) (one : Counted Absence) → value_under url kept.nones ≡ Some one → said_of calls url ≡ NoneSaid one.value
    pub own : (url : List ℕ) → was_put calls url ≡ true → has_query url ≡ true → is_own kept.own url ≡ true

  -- ---- one call more

  put_or : (b : Bool) (one there : Counted T) (rest : Option (Counted T)) (said : Said T) → cond b (Some one) rest ≡ Some there
      → (rest ≡ Some there → said ≡ ValueSaid there.value) → cond b (ValueSaid one.value) said ≡ ValueSaid there.value
  put_or true one there rest said is below = let same : one ≡ there = cc in ap (λ o. ValueSaid o.value) same
  put_or false one there rest said is below = below is

  none_or : (b : Bool) (one there : Counted Absence) (rest : Option (Counted Absence)) (said : Said T) → cond b (Some one) rest ≡ Some there
      → (rest ≡ Some there → said ≡ NoneSaid there.value) → cond b (NoneSaid one.value) said ≡ NoneSaid there.value
  none_or true one there rest said is below = let same : one ≡ there = cc in ap (λ o. NoneSaid o.value) same
  none_or false one there rest said is below = below is

  module _ (calls : List (Call T)) (kept : KeptSeen T) (was : IsAsSaid calls kept) where
    put_said : (there : List ℕ) (one : Counted T) → IsAsSaid (Put there one ∷ calls) (with_value there one kept)
    put_said there one = record {
      values_once = once_put kept.most there one kept.values was.values_once;
      nones_once = once_without there kept.nones was.nones_once;
      values = λ url found is.
          put_or (bytes_eq url there) one found (value_under url kept.values) (said_of calls url)
          (found_put kept.most there one kept.values url found is) (was.values url found);
      nones = λ url found is.
          let parts = found_without url there kept.nones found was.nones_once is in
          ap (λ b. cond b (ValueSaid one.value) (said_of calls url)) parts.0 ∙ was.nones url found parts.1;
      own = λ url. own_or kept.own url there (was_put calls url) (was.own url) (bytes_eq url there) refl;
    }

    none_said : (there : List ℕ) (none : Absence) → IsAsSaid (PutNone there none ∷ calls) (with_none there (record { value = none; bytes = 0 }) kept)
    none_said there none =
        let one : Counted Absence = record { value = none; bytes = 0 } in
        record {
          values_once = once_without there kept.values was.values_once;
          nones_once = once_put (kept.most / 16) there one kept.nones was.nones_once;
          values = λ url found is.
              let parts = found_without url there kept.values found was.values_once is in
              ap (λ b. cond b (NoneSaid none) (said_of calls url)) parts.0 ∙ was.values url found parts.1;
          nones = λ url found is.
              none_or (bytes_eq url there) one found (value_under url kept.nones) (said_of calls url)
              (found_put (kept.most / 16) there one kept.nones url found is) (was.nones url found);
          own = λ url. own_or kept.own url there (was_put calls url) (was.own url) (bytes_eq url there) refl;
        }

    forgotten_said : (there : List ℕ) → IsAsSaid (Forget there ∷ calls) (forgotten there kept)
    forgotten_said there = record {
      values_once = once_without there kept.values was.values_once;
      nones_once = once_without there kept.nones was.nones_once;
      values = λ url found is.
          let parts = found_without url there kept.values found was.values_once is in
          ap (λ b. cond b NothingSaid (said_of calls url)) parts.0 ∙ was.values url found parts.1;
      nones = λ url found is.
          let parts = found_without url there kept.nones found was.nones_once is in
          ap (λ b. cond b NothingSaid (said_of calls url)) parts.0 ∙ was.nones url found parts.1;
      own = was.own;
    }

    without_nones : IsAsSaid (ForgetNone ∷ calls) (record kept { nones = [] })
    without_nones = record {
      values_once = was.values_once;
      nones_once = tt;
      values = λ url found is. ap without_none (was.values url found is);
      nones = λ url found is. cc;
      own = was.own;
    }

    asked_said : (now : ℕ) (there : List ℕ) → IsAsSaid (Ask now there ∷ calls) (asked_for now kept there)
    asked_said now there = go (own_answer now kept key)
      where
        key : List ℕ
        key = key_of kept.own there

        go : (found : KeptAnswer T) → IsAsSaid (Ask now there ∷ calls) (record (used_by found key kept) {
          asked = (asked_for now kept there).asked;
          hits = (asked_for now kept there).hits;
        })
        go (Known value) = record {
          values_once = once_used key kept.values was.values_once;
          nones_once = was.nones_once;
          values = λ url found is. was.values url found (sym (same_used url key kept.values) ∙ is);
          nones = was.nones;
          own = was.own;
        }
        go (NoneKnown why) = record {
          values_once = was.values_once;
          nones_once = once_used key kept.nones was.nones_once;
          values = was.values;
          nones = λ url found is. was.nones url found (sym (same_used url key kept.nones) ∙ is);
          own = was.own;
        }
        go Wanted = record {
          values_once = was.values_once;
          nones_once = was.nones_once;
          values = was.values;
          nones = was.nones;
          own = was.own;
        }

  pub as_said : (most : ℕ) (calls : List (Call T)) → IsAsSaid calls (kept_after most calls)
  as_said most [] = record {
    values_once = tt;
    nones_once = tt;
    values = λ url found is. cc;
    nones = λ url found is. cc;
    own = λ url put query. cc;
  }
  as_said most (Put there one ∷ calls) = put_said calls (kept_after most calls) (as_said most calls) there one
  as_said most (PutNone there none ∷ calls) = none_said calls (kept_after most calls) (as_said most calls) there none
  as_said most (Forget there ∷ calls) = forgotten_said calls (kept_after most calls) (as_said most calls) there
  as_said most (ForgetNone ∷ calls) = without_nones calls (kept_after most calls) (as_said most calls)
  as_said most (Ask now there ∷ calls) = asked_said calls (kept_after most calls) (as_said most calls) now there

  -- ---- so the answers are those that were said, or wanted

  abbrev pub IsSaidOrWanted : KeptAnswer T → KeptAnswer T → Type 0
  IsSaidOrWanted found said = (found ≡ said) ⊎ (found ≡ Wanted)

  unput_or : (b put : Bool) (one said : Said T) → cond b true put ≡ false → (put ≡ false → said ≡ NothingSaid) → cond b one said ≡ NothingSaid
  unput_or true put one said unput below = cc
  unput_or false put one said unput below = below unput

  nothing_or : (b : Bool) (said : Said T) → said ≡ NothingSaid → cond b NothingSaid said ≡ NothingSaid
  nothing_or true said is = refl
  nothing_or false said is = is

  -- what nobody put has no answer
  pub none_of_unput : (calls : List (Call T)) (url : List ℕ) → was_put calls url ≡ false → said_of calls url ≡ NothingSaid
  none_of_unput [] url unput = refl
  none_of_unput (Put there one ∷ calls) url unput =
      unput_or (bytes_eq url there) (was_put calls url) (ValueSaid one.value) (said_of calls url) unput (none_of_unput calls url)
  none_of_unput (PutNone there none ∷ calls) url unput =
      unput_or (bytes_eq url there) (was_put calls url) (NoneSaid none) (said_of calls url) unput (none_of_unput calls url)
  none_of_unput (Forget there ∷ calls) url unput = nothing_or (bytes_eq url there) (said_of calls url) (none_of_unput calls url unput)
  none_of_unput (ForgetNone ∷ calls) url unput = ap without_none (none_of_unput calls url unput)
  none_of_unput (Ask now there ∷ calls) url unput = none_of_unput calls url unput

  module _ (now : ℕ) (calls : List (Call T)) (kept : KeptSeen T) (was : IsAsSaid calls kept) where
    abbrev why_of : Option (Counted Absence) → Option Absence
    why_of found = option_map (λ one. one.value) found

    own_said : (url : List ℕ) → IsSaidOrWanted (own_answer now kept url) (answer_by now (said_of calls url))
    own_said url = go (value_under url kept.values) refl (value_under url kept.nones) refl
      where
        go : (value : Option (Counted T)) → value_under url kept.values ≡ value → (why : Option (Counted Absence)) → value_under url kept.nones ≡ why
            → IsSaidOrWanted (answer_of (option_map (λ one. one.value) value) (why_none now (why_of why))) (answer_by now (said_of calls url))
        go (Some one) is found _ = inl (sym (ap (answer_by now) (was.values url one is)))
        go None _ (Some one) is = inl (sym (ap (answer_by now) (was.nones url one is)))
        go None _ None _ = inr refl

    abbrev said_key : (url : List ℕ) → List ℕ
    said_key url = cond (was_put calls url) url (without_query url)

    wanted_of_unput : (url : List ℕ) → was_put calls url ≡ false → (said : KeptAnswer T) → IsSaidOrWanted (own_answer now kept url) said
    wanted_of_unput url unput said = elim (own_said url) [
      | inl is ↦ inr (is ∙ ap (answer_by now) (none_of_unput calls url unput))
      | inr is ↦ inr is
    ]

    pub is_as_if : (url : List ℕ) → IsSaidOrWanted (answer now kept url) (answer_said now calls url)
    is_as_if url = go (has_query url) refl (was_put calls url) refl (is_own kept.own url) refl
      where
        go : (query : Bool) → has_query url ≡ query → (put : Bool) → was_put calls url ≡ put → (own : Bool) → is_own kept.own url ≡ own
            → IsSaidOrWanted (own_answer now kept (cond (query && own) url (without_query url))) (answer_by now (said_of calls (cond put url (without_query url))))
        go false none true put own _ =
            subst (λ t. IsSaidOrWanted (own_answer now kept t) (answer_by now (said_of calls url))) (sym (whole_is url none)) (own_said url)
        go false none false put own _ = own_said (without_query url)
        go true query true put true own = own_said url
        go true query true put false off = let own = was.own url put query in cc
        go true query false unput true own = wanted_of_unput url unput _
        go true query false unput false own = own_said (without_query url)

  -- ---- the last call

  -- where a URL has this key, once something was put under it
  value_of_key : (now : ℕ) (kept : KeptSeen T) (url key : List ℕ) (one : Counted T) → key_of (own_with key kept.own) url ≡ key
      → answer now (with_value key one kept) url ≡ Known one.value
  value_of_key now kept url key one is =
      ap (own_answer now (with_value key one kept)) is
      ∙ ap (λ found. answer_of (option_map (λ it. it.value) found) (why_none now (known_under key (without key kept.nones)))) (found_first kept.most key one kept.values)

  none_of_key : (most now : ℕ) (calls : List (Call T)) (url key : List ℕ) (none : Absence) → key_of (own_with key (kept_after most calls).own) url ≡ key
      → still_holds now none.until ≡ true → answer now (kept_after most (PutNone key none ∷ calls)) url ≡ NoneKnown none.why
  none_of_key most now calls url key none is holds =
      let kept = kept_after most calls in
      let one : Counted Absence = record { value = none; bytes = 0 } in
      ap (own_answer now (with_none key one kept)) is
      ∙ ap (λ found. answer_of (option_map (λ it. it.value) found) (why_none now (known_under key (with_none key one kept).nones)))
      (none_there key kept.values (as_said most calls).values_once)
      ∙ ap (λ found. answer_of None (why_none now (option_map (λ it. it.value) found))) (found_first (kept.most / 16) key one kept.nones)
      ∙ ap (λ b. answer_of None (cond b (Some none.why) None)) holds

  pub value_answers : (most now : ℕ) (calls : List (Call T)) (url : List ℕ) (one : Counted T)
      → answer now (kept_after most (Put url one ∷ calls)) url ≡ Known one.value
  value_answers most now calls url one =
      let kept = kept_after most calls in
      value_of_key now kept url url one (key_of_put url kept.own)

  pub none_answers : (most now : ℕ) (calls : List (Call T)) (url : List ℕ) (none : Absence) → still_holds now none.until ≡ true
      → answer now (kept_after most (PutNone url none ∷ calls)) url ≡ NoneKnown none.why
  none_answers most now calls url none = none_of_key most now calls url url none (key_of_put url (kept_after most calls).own)

  pub value_answers_by_key : (most now : ℕ) (calls : List (Call T)) (url : List ℕ) (one : Counted T)
      → answer now (kept_after most (Put (key_of (kept_after most calls).own url) one ∷ calls)) url ≡ Known one.value
  value_answers_by_key most now calls url one =
      let kept = kept_after most calls in
      value_of_key now kept url (key_of kept.own url) one (key_stays url kept.own)

  pub none_answers_by_key : (most now : ℕ) (calls : List (Call T)) (url : List ℕ) (none : Absence) → still_holds now none.until ≡ true
      → answer now (kept_after most (PutNone (key_of (kept_after most calls).own url) none ∷ calls)) url ≡ NoneKnown none.why
  none_answers_by_key most now calls url none =
      let kept = kept_after most calls in
      none_of_key most now calls url (key_of kept.own url) none (key_stays url kept.own)

  pub asked_stays : (now then : ℕ) (kept : KeptSeen T) (url other : List ℕ) → answer now (asked_for then kept other) url ≡ answer now kept url
  asked_stays now then kept url other = go (own_answer then kept key)
    where
      key : List ℕ
      key = key_of kept.own other

      mine : List ℕ
      mine = key_of kept.own url

      go : (found : KeptAnswer T) → own_answer now (used_by found key kept) (key_of (used_by found key kept).own url) ≡ own_answer now kept mine
      go (Known value) =
          ap (λ found. answer_of (option_map (λ it. it.value) found) (why_none now (known_under mine kept.nones))) (same_used mine key kept.values)
      go (NoneKnown why) =
          ap (λ found. answer_of (known_under mine kept.values) (why_none now (option_map (λ it. it.value) found))) (same_used mine key kept.nones)
      go Wanted = refl

  abbrev answer_from : (now : ℕ) → Option (Counted T) → Option (Counted Absence) → KeptAnswer T
  answer_from now value none = answer_of (option_map (λ it. it.value) value) (why_none now (option_map (λ it. it.value) none))

  pub forgotten_is_wanted : (most now : ℕ) (calls : List (Call T)) (url there : List ℕ) → bytes_eq (key_of (kept_after most calls).own url) there ≡ true
      → answer now (kept_after most (Forget there ∷ calls)) url ≡ Wanted
  forgotten_is_wanted most now calls url there same =
      let kept = kept_after most calls in
      let was = as_said most calls in
      ap (own_answer now (forgotten there kept)) ((bytes_eq-Decides (key_of kept.own url) there).0 same)
      ∙ ap (λ value. answer_from now value (value_under there (without there kept.nones))) (none_there there kept.values was.values_once)
      ∙ ap (λ none. answer_from now None none) (none_there there kept.nones was.nones_once)

  pub others_stay : (now : ℕ) (kept : KeptSeen T) (url there : List ℕ) → bytes_eq (key_of kept.own url) there ≡ false
      → answer now (forgotten there kept) url ≡ answer now kept url
  others_stay now kept url there apart =
      let key = key_of kept.own url in
      ap (λ value. answer_from now value (value_under key (without there kept.nones))) (other_without key there kept.values apart)
      ∙ ap (λ none. answer_from now (value_under key kept.values) none) (other_without key there kept.nones apart)

  -- ---- what is put changes no other answer, but for what is dropped

  -- a URL has no more than it had
  pub record IsNoMore (url : List ℕ) (kept after : KeptSeen T) : Type 0 where
    pub values : (one : Counted T) → value_under url after.values ≡ Some one → value_under url kept.values ≡ Some one
    pub nones : (one : Counted Absence) → value_under url after.nones ≡ Some one → value_under url kept.nones ≡ Some one

  no_more_answer : (now : ℕ) (calls : List (Call T)) (kept after : KeptSeen T) (url : List ℕ) → IsAsSaid calls kept → IsNoMore url kept after
      → IsSaidOrWanted (own_answer now after url) (own_answer now kept url)
  no_more_answer now calls kept after url was less = go (value_under url after.values) refl (value_under url after.nones) refl
    where
      same : (why : Counted Absence) → value_under url kept.nones ≡ Some why → (value : Option (Counted T)) → value_under url kept.values ≡ value
          → answer_from now None (Some why) ≡ own_answer now kept url
      same why none (Some one) is =
          let value_said = was.values url one is in
          let none_said = was.nones url why none in
          cc
      same why none None is =
          sym (ap (λ value. answer_from now value (value_under url kept.nones)) is ∙ ap (answer_from now None) none)

      go : (value : Option (Counted T)) → value_under url after.values ≡ value → (why : Option (Counted Absence)) → value_under url after.nones ≡ why
          → IsSaidOrWanted (answer_from now value why) (own_answer now kept url)
      go (Some one) is why _ = inl (sym (ap (λ value. answer_from now value (value_under url kept.nones)) (less.values one is)))
      go None _ (Some why) is = inl (same why (less.nones why is) (value_under url kept.values) refl)
      go None _ None _ = inr refl

  module _ (now : ℕ) (calls : List (Call T)) (kept after : KeptSeen T) (there : List ℕ) (was : IsAsSaid calls kept)
      (own_is : after.own ≡ own_with there kept.own) (less : (url : List ℕ) → bytes_eq url there ≡ false → IsNoMore url kept after) where
    no_more : (url : List ℕ) → bytes_eq url there ≡ false → IsSaidOrWanted (own_answer now after url) (own_answer now kept url)
    no_more url apart = no_more_answer now calls kept after url was (less url apart)

    -- a URL that comes to stand for itself had nothing
    none_before : (url : List ℕ) → has_query url ≡ true → is_own kept.own url ≡ false → (put : Bool) → was_put calls url ≡ put → own_answer now kept url ≡ Wanted
    none_before url query off true put = let own = was.own url put query in cc
    none_before url query off false unput = elim (wanted_of_unput now calls kept was url unput Wanted) [ inl is ↦ is | inr is ↦ is ]

    others_at_most_wanted : (url : List ℕ) → bytes_eq url there ≡ false → bytes_eq (without_query url) there ≡ false
        → IsSaidOrWanted (answer now after url) (answer now kept url)
    others_at_most_wanted url apart cut_apart = go (has_query url) refl (is_own kept.own url) refl (is_own after.own url) refl
      where
        go : (query : Bool) → has_query url ≡ query → (own : Bool) → is_own kept.own url ≡ own → (own_after : Bool) → is_own after.own url ≡ own_after
            → IsSaidOrWanted (own_answer now after (cond (query && own_after) url (without_query url))) (own_answer now kept (cond (query && own) url (without_query url)))
        go false none own _ own_after _ = no_more (without_query url) cut_apart
        go true query true on true still = no_more url apart
        go true query true on false off =
            let stays = own_stays there kept.own url on in
            let same : is_own after.own url ≡ is_own (own_with there kept.own) url = ap (λ it. is_own it url) own_is in
            cc
        go true query false off false still = no_more (without_query url) cut_apart
        go true query false off true on = elim (no_more url apart) [
          | inl is ↦ inr (is ∙ none_before url query off (was_put calls url) refl)
          | inr is ↦ inr is
        ]

  pub put_leaves_others : (most now : ℕ) (calls : List (Call T)) (url there : List ℕ) (one : Counted T) → bytes_eq url there ≡ false
      → bytes_eq (without_query url) there ≡ false
      → IsSaidOrWanted (answer now (kept_after most (Put there one ∷ calls)) url) (answer now (kept_after most calls) url)
  put_leaves_others most now calls url there one apart cut_apart =
      let kept = kept_after most calls in
      let was = as_said most calls in
      others_at_most_wanted now calls kept (with_value there one kept) there was refl
      (λ other off. record {
        values = λ found is. sym (ap (λ b. cond b (Some one) (value_under other kept.values)) off)
            ∙ found_put kept.most there one kept.values other found is;
        nones = λ found is. (found_without other there kept.nones found was.nones_once is).1;
      })
      url apart cut_apart

  pub none_leaves_others : (most now : ℕ) (calls : List (Call T)) (url there : List ℕ) (none : Absence) → bytes_eq url there ≡ false
      → bytes_eq (without_query url) there ≡ false
      → IsSaidOrWanted (answer now (kept_after most (PutNone there none ∷ calls)) url) (answer now (kept_after most calls) url)
  none_leaves_others most now calls url there none apart cut_apart =
      let kept = kept_after most calls in
      let was = as_said most calls in
      let one : Counted Absence = record { value = none; bytes = 0 } in
      others_at_most_wanted now calls kept (with_none there one kept) there was refl
      (λ other off. record {
        values = λ found is. (found_without other there kept.values found was.values_once is).1;
        nones = λ found is. sym (ap (λ b. cond b (Some one) (value_under other kept.nones)) off)
            ∙ found_put (kept.most / 16) there one kept.nones other found is;
      })
      url apart cut_apart

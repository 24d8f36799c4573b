-- Laws of what is noted of URLs: with one naming more, the notes are those after it.
use Rattle.std.specs.Prelude.{◌≡◌, ◌+◌, ◌||◌, ℕ, Bool, true, false, List, [], ◌∷◌, ◌++◌, MatchBool, Some, cond, filter, fold, length, map, nat_le, ⊤}
use Rattle.std.specs.List.{list_any}
use Rattle.std.specs.Option.{option_or}
use Rattle.std.specs.Str.{bytes_eq}
use Rattle.std.proofs.Common.{ap, arith, length-append, refl, subst, sym, ◌∙◌}
use Rattle.std.proofs.lemmas.List.{append-nil, length-map, map-append}
use Rattle.std.proofs.lemmas.List.Elements.{filter-append}
use Rattle.std.proofs.lemmas.List.Folds.{list_any-append}
use Rattle.std.proofs.lemmas.List.Sums.{fold-append}
use Rattle.std.proofs.lemmas.Slice.Eq.{bytes_eq-Decides}
use Rattle.std.proofs.lemmas.Bool.{or_parts}
use Rattle.smap_trace.specs.Noted.{AreNotesOf}
use Rattle.smap_trace.specs.UrlNotes.{NamingSeen, NotesSeen, UrlNoteSeen, as_counted, first_unmapped, first_urls, names, note_of, note_with, noted, with_url}
use Rattle.smap_trace.specs.Private.Noting.{IsNoted, first_note, is_of, noting, place_where, with_naming, with_one}

-- ---- texts

same_bytes : (xs ys : List ℕ) → bytes_eq xs ys ≡ true → xs ≡ ys
same_bytes xs ys is = (bytes_eq-Decides xs ys).0 is

equal_bytes : (xs : List ℕ) → bytes_eq xs xs ≡ true
equal_bytes xs = (bytes_eq-Decides xs xs).1 refl

not_both : (b : Bool) → (b ≡ true → ⊥) → b ≡ false
not_both true never = absurd (never refl)
not_both false never = refl

other_bytes : (xs ys : List ℕ) → bytes_eq xs ys ≡ false → bytes_eq ys xs ≡ false
other_bytes xs ys is =
    not_both (bytes_eq ys xs) (λ same. let e = sym (same_bytes ys xs same) in let t = (bytes_eq-Decides xs ys).1 e in cc)

-- ---- one URL, with one naming more

module _ (naming : NamingSeen) (url : List ℕ) where
  unmapped_head : (one : NamingSeen) (own : List NamingSeen) (unmapped : Bool)
      → first_unmapped (own ++ naming ∷ []) ≡ option_or (first_unmapped own) (place_where naming.unmapped naming.line naming.column)
      → cond unmapped (Some (one.line, one.column)) (first_unmapped (own ++ naming ∷ []))
      ≡ option_or (cond unmapped (Some (one.line, one.column)) (first_unmapped own)) (place_where naming.unmapped naming.line naming.column)
  unmapped_head one own true more = refl
  unmapped_head one own false more = more

  unmapped_more : (own : List NamingSeen) → first_unmapped (own ++ naming ∷ []) ≡ option_or (first_unmapped own) (place_where naming.unmapped naming.line naming.column)
  unmapped_more [] = refl
  unmapped_more (one ∷ own) = unmapped_head one own one.unmapped (unmapped_more own)

  counted_more : (n one : ℕ) → as_counted (n + one) ≡ as_counted (as_counted n + one)
  counted_more n one = grind arith

  one_mapped : (mapped : Bool) → length (cond mapped (naming ∷ []) []) ≡ cond mapped 1 0
  one_mapped true = refl
  one_mapped false = refl

  mapped_more : (own : List NamingSeen) → length (filter (λ n. n.mapped) (own ++ naming ∷ [])) ≡ length (filter (λ n. n.mapped) own) + cond naming.mapped 1 0
  mapped_more own = ap length (filter-append (λ n. n.mapped) own (naming ∷ [])) ∙ length-append (filter (λ n. n.mapped) own) _
      ∙ ap (λ k. length (filter (λ n. n.mapped) own) + k) (one_mapped naming.mapped)

  or_false : (b : Bool) → (b || false) ≡ b
  or_false true = refl
  or_false false = refl

  found_more : (own : List NamingSeen) → list_any (λ n. n.found) (own ++ naming ∷ []) ≡ (list_any (λ n. n.found) own || naming.found)
  found_more own = list_any-append (λ n. n.found) own (naming ∷ []) ∙ ap (λ b. list_any (λ n. n.found) own || b) (or_false naming.found)

  note_more : (own : List NamingSeen) → note_with url (own ++ naming ∷ []) ≡ with_naming naming (note_with url own)
  note_more own = λ i. record {
    url = url;
    frames = (ap as_counted (length-append own (naming ∷ [])) ∙ counted_more (length own) 1) i;
    mapped = (ap as_counted (mapped_more own) ∙ counted_more (length (filter (λ n. n.mapped) own)) (cond naming.mapped 1 0)) i;
    found = found_more own i;
    unmapped = unmapped_more own i;
  }

  own_more : (namings : List NamingSeen) (is : Bool) → bytes_eq naming.url url ≡ is
      → filter (names url) (namings ++ naming ∷ []) ≡ filter (names url) namings ++ cond is (naming ∷ []) []
  own_more namings is e = filter-append (names url) namings (naming ∷ []) ∙ ap (λ b. filter (names url) namings ++ cond b (naming ∷ []) []) e

  note_own : (namings : List NamingSeen) → bytes_eq naming.url url ≡ true → note_of (namings ++ naming ∷ []) url ≡ with_naming naming (note_of namings url)
  note_own namings is = ap (note_with url) (own_more namings true is) ∙ note_more (filter (names url) namings)

  note_other : (namings : List NamingSeen) → bytes_eq naming.url url ≡ false → note_of (namings ++ naming ∷ []) url ≡ note_of namings url
  note_other namings is = ap (note_with url) (own_more namings false is ∙ append-nil (filter (names url) namings))

-- ---- the notes of several, with one naming more

-- none stands twice
abbrev pub AllDiffer : List (List ℕ) → Type 0
AllDiffer [] = ⊤
AllDiffer (url ∷ urls) = (list_any (bytes_eq url) urls ≡ false) × AllDiffer urls

module _ (naming : NamingSeen) (namings : List NamingSeen) where
  abbrev Now : List (List ℕ) → List UrlNoteSeen
  Now urls = map (note_of namings) urls

  abbrev More : List (List ℕ) → List UrlNoteSeen
  More urls = map (note_of (namings ++ naming ∷ [])) urls

  there : (urls : List (List ℕ)) → list_any (is_of naming.url) (Now urls) ≡ list_any (bytes_eq naming.url) urls
  there [] = refl
  there (url ∷ urls) = ap (λ b. bytes_eq naming.url url || b) (there urls)

  same_others : (urls : List (List ℕ)) → list_any (bytes_eq naming.url) urls ≡ false → Now urls ≡ More urls
  same_others [] none = refl
  same_others (url ∷ urls) none = let p = or_parts (bytes_eq naming.url url) _ none in
      λ i. sym (note_other naming url namings p.0) i ∷ same_others urls p.1 i

  one_at : (url : List ℕ) (urls : List (List ℕ)) (is : Bool) → bytes_eq naming.url url ≡ is → AllDiffer (url ∷ urls)
      → (is || list_any (bytes_eq naming.url) urls) ≡ true → (list_any (bytes_eq naming.url) urls ≡ true → with_one naming (Now urls) ≡ More urls)
      → cond is (with_naming naming (note_of namings url) ∷ Now urls) (note_of namings url ∷ with_one naming (Now urls)) ≡ More (url ∷ urls)
  one_at url urls true e differ any more =
      let others : list_any (bytes_eq naming.url) urls ≡ false = subst (λ u. list_any (bytes_eq u) urls ≡ false) (sym (same_bytes naming.url url e)) differ.0 in
      λ i. sym (note_own naming url namings e) i ∷ same_others urls others i
  one_at url urls false e differ any more = λ i. sym (note_other naming url namings e) i ∷ more any i

  one_more : (urls : List (List ℕ)) → AllDiffer urls → list_any (bytes_eq naming.url) urls ≡ true → with_one naming (Now urls) ≡ More urls
  one_more [] differ any = absurd (cc)
  one_more (url ∷ urls) differ any = one_at url urls (bytes_eq naming.url url) refl differ any (one_more urls differ.1)

-- ---- the URLs that are named first

module _ (url : List ℕ) where
  any_more : (other : List ℕ) (urls : List (List ℕ)) → list_any (bytes_eq other) (urls ++ url ∷ []) ≡ (list_any (bytes_eq other) urls || (bytes_eq other url || false))
  any_more other urls = list_any-append (bytes_eq other) urls (url ∷ [])

  differ_more : (urls : List (List ℕ)) → AllDiffer urls → list_any (bytes_eq url) urls ≡ false → AllDiffer (urls ++ url ∷ [])
  differ_more [] differ none = (refl, tt)
  differ_more (first ∷ urls) differ none =
      let p = or_parts (bytes_eq url first) _ none in
      (any_more first urls ∙ (λ i. differ.0 i || (other_bytes url first p.0 i || false)), differ_more urls differ.1 p.1)

  with_differ_at : (urls : List (List ℕ)) (any full : Bool) → list_any (bytes_eq url) urls ≡ any → AllDiffer urls → AllDiffer (cond (any || full) urls (urls ++ url ∷ []))
  with_differ_at urls true full e differ = differ
  with_differ_at urls false true e differ = differ
  with_differ_at urls false false e differ = differ_more urls differ e

  with_differ : (urls : List (List ℕ)) → AllDiffer urls → AllDiffer (with_url urls url)
  with_differ urls differ = with_differ_at urls (list_any (bytes_eq url) urls) (nat_le 100 (length urls)) refl differ

  or_true : (b : Bool) → (b || true) ≡ true
  or_true true = refl
  or_true false = refl

  -- it is among them then, if there is room
  has_at : (urls : List (List ℕ)) (any full : Bool) → list_any (bytes_eq url) urls ≡ any → full ≡ false
      → list_any (bytes_eq url) (cond (any || full) urls (urls ++ url ∷ [])) ≡ true
  has_at urls true full e room = e
  has_at urls false true e room = absurd (cc)
  has_at urls false false e room =
      any_more url urls ∙ ap (λ b. list_any (bytes_eq url) urls || (b || false)) (equal_bytes url) ∙ or_true (list_any (bytes_eq url) urls)

  has_after : (urls : List (List ℕ)) → nat_le 100 (length urls) ≡ false → list_any (bytes_eq url) (with_url urls url) ≡ true
  has_after urls room = has_at urls (list_any (bytes_eq url) urls) (nat_le 100 (length urls)) refl room

  -- what is among them stays so
  keeps_at : (other : List ℕ) (urls : List (List ℕ)) (stays : Bool) → list_any (bytes_eq other) urls ≡ true
      → list_any (bytes_eq other) (cond stays urls (urls ++ url ∷ [])) ≡ true
  keeps_at other urls true has = has
  keeps_at other urls false has = any_more other urls ∙ ap (λ b. b || (bytes_eq other url || false)) has

  keeps : (other : List ℕ) (urls : List (List ℕ)) → list_any (bytes_eq other) urls ≡ true → list_any (bytes_eq other) (with_url urls url) ≡ true
  keeps other urls has = keeps_at other urls (list_any (bytes_eq url) urls || nat_le 100 (length urls)) has

  full_at : (urls : List (List ℕ)) (any : Bool) → cond (any || true) urls (urls ++ url ∷ []) ≡ urls
  full_at urls true = refl
  full_at urls false = refl

  full_stays : (urls : List (List ℕ)) → nat_le 100 (length urls) ≡ true → with_url urls url ≡ urls
  full_stays urls full =
      ap (λ b. cond (list_any (bytes_eq url) urls || b) urls (urls ++ url ∷ [])) full ∙ full_at urls (list_any (bytes_eq url) urls)

abbrev urls_from : List (List ℕ) → List NamingSeen → List (List ℕ)
urls_from urls namings = fold (λ urls naming. with_url urls naming.url) urls namings

all_differ : (namings : List NamingSeen) (urls : List (List ℕ)) → AllDiffer urls → AllDiffer (urls_from urls namings)
all_differ [] urls differ = differ
all_differ (naming ∷ namings) urls differ = all_differ namings (with_url urls naming.url) (with_differ naming.url urls differ)

all_kept : (other : List ℕ) (namings : List NamingSeen) (urls : List (List ℕ)) → list_any (bytes_eq other) urls ≡ true
    → list_any (bytes_eq other) (urls_from urls namings) ≡ true
all_kept other [] urls has = has
all_kept other (naming ∷ namings) urls has = all_kept other namings (with_url urls naming.url) (keeps naming.url other urls has)

all_full : (namings : List NamingSeen) (urls : List (List ℕ)) → nat_le 100 (length urls) ≡ true → urls_from urls namings ≡ urls
all_full [] urls full = refl
all_full (naming ∷ namings) urls full =
    let one = full_stays naming.url urls full in
    ap (λ u. urls_from u namings) one ∙ all_full namings urls full

-- a URL that is not among them, where there is room, was not named
none_named : (url : List ℕ) (namings : List NamingSeen) (urls : List (List ℕ)) → list_any (bytes_eq url) (urls_from urls namings) ≡ false
    → nat_le 100 (length (urls_from urls namings)) ≡ false → filter (names url) namings ≡ []
none_named url [] urls none room = refl
none_named url (naming ∷ namings) urls none room =
    let there_was_room : nat_le 100 (length urls) ≡ false = not_both (nat_le 100 (length urls)) (λ full.
    let same = all_full (naming ∷ namings) urls full in
    let now = ap (λ u. nat_le 100 (length u)) same ∙ full in cc) in
    let other : bytes_eq naming.url url ≡ false = not_both (bytes_eq naming.url url) (λ same.
    let has = all_kept naming.url namings (with_url urls naming.url) (has_after naming.url urls there_was_room) in
    let now = subst (λ u. list_any (bytes_eq u) (urls_from urls (naming ∷ namings)) ≡ true) (same_bytes naming.url url same) has in cc) in
    ap (λ b. cond b (naming ∷ filter (names url) namings) (filter (names url) namings)) other
    ∙ none_named url namings (with_url urls naming.url) none room

-- ---- all of them

module _ (naming : NamingSeen) (namings : List NamingSeen) where
  counted_one : (mapped : Bool) → as_counted (0 + cond mapped 1 0) ≡ cond mapped 1 0
  counted_one true = refl
  counted_one false = refl

  first_is : filter (names naming.url) namings ≡ [] → note_of (namings ++ naming ∷ []) naming.url ≡ first_note naming
  first_is none =
      note_own naming naming.url namings (equal_bytes naming.url) ∙ ap (λ own. with_naming naming (note_with naming.url own)) none
      ∙ (λ i. record {
        url = naming.url;
        frames = 1;
        mapped = counted_one naming.mapped i;
        found = naming.found;
        unmapped = place_where naming.unmapped naming.line naming.column;
      })

  noted_in : (urls : List (List ℕ)) (any full : Bool) → list_any (bytes_eq naming.url) urls ≡ any → AllDiffer urls
      → (any ≡ false → full ≡ false → filter (names naming.url) namings ≡ [])
      → cond any (with_one naming (Now naming namings urls)) (cond full (Now naming namings urls) (Now naming namings urls ++ first_note naming ∷ []))
      ≡ More naming namings (cond (any || full) urls (urls ++ naming.url ∷ []))
  noted_in urls true full e differ none = one_more naming namings urls differ e
  noted_in urls false true e differ none = same_others naming namings urls e
  noted_in urls false false e differ none =
      (λ i. same_others naming namings urls e i ++ sym (first_is (none refl refl)) i ∷ [])
      ∙ sym (map-append (note_of (namings ++ naming ∷ [])) urls (naming.url ∷ []))

  urls_more : first_urls (namings ++ naming ∷ []) ≡ with_url (first_urls namings) naming.url
  urls_more = fold-append (λ urls n. with_url urls n.url) [] namings (naming ∷ [])

  -- the notes of all are those of the others after the last naming
  pub noted_more : noting (noted namings) naming ≡ noted (namings ++ naming ∷ [])
  noted_more =
      let urls = first_urls namings in
      ap (λ b. cond b (with_one naming (noted namings)) (cond (nat_le 100 (length (noted namings))) (noted namings) (noted namings ++ first_note naming ∷ [])))
      (there naming namings urls)
      ∙ ap (λ n. cond (list_any (bytes_eq naming.url) urls) (with_one naming (noted namings)) (cond (nat_le 100 n) (noted namings) (noted namings ++ first_note naming ∷ [])))
      (length-map urls (note_of namings))
      ∙ noted_in urls (list_any (bytes_eq naming.url) urls) (nat_le 100 (length urls)) refl (all_differ namings [] tt) (none_named naming.url namings [])
      ∙ ap (map (note_of (namings ++ naming ∷ []))) (sym urls_more)

-- the notes of some namings, after one more
noted_at : (namings : List NamingSeen) (naming : NamingSeen) (old new : NotesSeen) (was short : Bool) → old.is_short ≡ was → new.is_short ≡ short
    → MatchBool was ⊤ (old.notes ≡ noted namings) → MatchBool short ⊤ ((old.is_short ≡ false) × (new.notes ≡ noting old.notes naming))
    → MatchBool short ⊤ (new.notes ≡ noted (namings ++ naming ∷ []))
noted_at namings naming old new was true e f are is = tt
noted_at namings naming old new true false e f are is = absurd (let both = sym e ∙ is.0 in cc)
noted_at namings naming old new false false e f are is = is.1 ∙ ap (λ l. noting l naming) are ∙ noted_more naming namings

pub noted_after : (namings : List NamingSeen) (naming : NamingSeen) (old new : NotesSeen) → AreNotesOf namings old → IsNoted old naming new
    → AreNotesOf (namings ++ naming ∷ []) new
noted_after namings naming old new are is = noted_at namings naming old new old.is_short new.is_short refl refl are is

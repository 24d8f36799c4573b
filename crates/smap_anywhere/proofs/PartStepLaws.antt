-- What becomes of parts one after another, over maps that are looked for, and what they may become.
use Rattle.std.proofs.Common.{◌≡◌, ℕ, List, [], ◌∷◌, ◌++◌, map, unwrap_or, refl, sym, ap, subst, ◌∙◌, append_assoc, append-nil}
use Rattle.std.specs.List.{FoldsTo}
use Rattle.smap_trace.specs.Laws.Looked.{looked_both, looked_none, looked_one}
use Rattle.smap_trace.specs.Rewriting.{Looked}
use Rattle.smap_trace.specs.UrlNotes.{NamingSeen}
use Rattle.smap_anywhere.specs.Parts.{Part, found, other}
use Rattle.smap_anywhere.specs.PartSteps.{MayBeBy, MayBecomeBy, PartStep, PlacesNow, naming_of}
use Rattle.smap_anywhere.specs.Replaced.{Replacing}

-- ---- what parts may become

module _ {F : Type 0} (by : Replacing F) (Allows : (url : List ℕ) → F → Type 0) where
  pub may_both : (parts more : List Part) (text later : List ℕ) → MayBecomeBy by Allows parts text → MayBecomeBy by Allows more later
      → MayBecomeBy by Allows (parts ++ more) (text ++ later)
  may_both [] more text later one two = subst (MayBecomeBy by Allows more) (ap (λ l. l ++ later) (sym one)) two
  may_both (part ∷ parts) more text later one two = (
    one.0,
    one.1 ++ later,
    one.2,
    may_both parts more one.1 later one.3 two,
    ap (λ l. l ++ later) one.4 ∙ append_assoc one.0 one.1 later,
  )

  pub may_apart : (parts more : List Part) (text : List ℕ) → MayBecomeBy by Allows (parts ++ more) text →
      (first : List ℕ) × (rest : List ℕ) × MayBecomeBy by Allows parts first × MayBecomeBy by Allows more rest × (text ≡ first ++ rest)
  may_apart [] more text is = ([], text, refl, is, refl)
  may_apart (part ∷ parts) more text is =
      let deeper = may_apart parts more is.1 is.3 in (
        is.0 ++ deeper.0,
        deeper.1,
        (is.0, deeper.0, is.2, deeper.2, refl),
        deeper.3,
        is.4 ∙ ap (λ l. is.0 ++ l) deeper.4 ∙ sym (append_assoc is.0 deeper.0 deeper.1),
      )

  -- there is such a text
  module _ (some : (url : List ℕ) → (one : F) × Allows url one) where
    some_part : (part : Part) → (text : List ℕ) × MayBeBy by Allows part text
    some_part (other byte) = (byte ∷ [], refl)
    some_part (found place bytes) =
        let one = some place.url in (unwrap_or (by.text one.0 place) bytes, (one.0, one.1, refl))

    pub some_text : (parts : List Part) → (text : List ℕ) × MayBecomeBy by Allows parts text
    some_text [] = ([], refl)
    some_text (part ∷ parts) =
        let one = some_part part in
        let more = some_text parts in
        (one.0 ++ more.0, (one.0, more.0, one.1, more.1, refl))

-- where more maps are allowed, it may become more
module _ {F : Type 0} (by : Replacing F) (Allows More : (url : List ℕ) → F → Type 0)
    (wider : (url : List ℕ) (one : F) → Allows url one → More url one) where
  part_wider : (part : Part) (text : List ℕ) → MayBeBy by Allows part text → MayBeBy by More part text
  part_wider (other byte) text is = is
  part_wider (found place bytes) text is = (is.0, wider place.url is.0 is.1, is.2)

  pub may_wider : (parts : List Part) (text : List ℕ) → MayBecomeBy by Allows parts text → MayBecomeBy by More parts text
  may_wider [] text is = is
  may_wider (part ∷ parts) text is = (is.0, is.1, part_wider part is.0 is.2, may_wider parts is.1 is.3, is.4)

-- ---- what became of them

module _ {M F : Type 0} (by : Replacing F) (Finds : M → (url : List ℕ) → M → Type 0) (under : M → (url : List ℕ) → F) where
  abbrev pub Steps : PlacesNow M → List Part → PlacesNow M → Type 0
  Steps old parts new = FoldsTo (PartStep by Finds under) old parts new

  pub steps_both : (old mid new : PlacesNow M) (parts more : List Part) → Steps old parts mid → Steps mid more new → Steps old (parts ++ more) new
  steps_both old mid new [] more one two = subst (λ m. Steps m more new) (sym one) two
  steps_both old mid new (part ∷ parts) more one two = (one.0, one.1, steps_both one.0 mid new parts more one.2 two)

  abbrev pub with_text : PlacesNow M → (text : List ℕ) → PlacesNow M
  with_text now text = record { maps = now.maps; text = text; places = now.places; mapped = now.mapped; namings = now.namings }

  -- bytes that belong to no place
  pub steps_others : (bytes : List ℕ) (old : PlacesNow M) → Steps old (map other bytes) (with_text old (old.text ++ bytes))
  steps_others [] old = ap (with_text old) (sym (append-nil old.text))
  steps_others (byte ∷ bytes) old =
      let mid : PlacesNow M = with_text old (old.text ++ byte ∷ []) in
      (mid, refl, subst (λ l. Steps mid (map other bytes) (with_text old l)) (append_assoc old.text (byte ∷ []) bytes) (steps_others bytes mid))

  -- the same behind another text and other namings
  abbrev behind : (front : List ℕ) → (first : List NamingSeen) → PlacesNow M → PlacesNow M
  behind front first now =
      record { maps = now.maps; text = front ++ now.text; places = now.places; mapped = now.mapped; namings = first ++ now.namings }

  part_behind : (front : List ℕ) (first : List NamingSeen) (old new : PlacesNow M) (part : Part) → PartStep by Finds under old part new
      → PartStep by Finds under (behind front first old) part (behind front first new)
  part_behind front first old new (other byte) is =
      ap (behind front first) is ∙ ap (with_text (behind front first old)) (sym (append_assoc front old.text (byte ∷ [])))
  part_behind front first old new (found place bytes) is = record {
    finds = is.finds;
    text_is = ap (λ l. front ++ l) is.text_is
        ∙ sym (append_assoc front old.text (unwrap_or (by.text (under new.maps place.url) place) bytes));
    places = is.places;
    mapped = is.mapped;
    named = ap (λ l. first ++ l) is.named ∙ sym (append_assoc first old.namings (naming_of by place (under new.maps place.url) ∷ []));
  }

  pub steps_behind : (front : List ℕ) (first : List NamingSeen) (old new : PlacesNow M) (parts : List Part) → Steps old parts new
      → Steps (behind front first old) parts (behind front first new)
  steps_behind front first old new [] is = ap (behind front first) is
  steps_behind front first old new (part ∷ parts) is =
      (behind front first is.0, part_behind front first old is.0 part is.1, steps_behind front first is.0 new parts is.2)

  -- the maps after it
  part_looked : (old new : PlacesNow M) (part : Part) → PartStep by Finds under old part new → Looked Finds old.maps new.maps
  part_looked old new (other byte) is = subst (λ m. Looked Finds old.maps m) (ap (λ (now : PlacesNow M). now.maps) (sym is)) (looked_none Finds old.maps)
  part_looked old new (found place bytes) is = looked_one Finds old.maps new.maps place.url is.finds

  pub steps_looked : (old new : PlacesNow M) (parts : List Part) → Steps old parts new → Looked Finds old.maps new.maps
  steps_looked old new [] is = subst (λ m. Looked Finds old.maps m) (ap (λ (now : PlacesNow M). now.maps) is) (looked_none Finds old.maps)
  steps_looked old new (part ∷ parts) is =
      looked_both Finds old.maps is.0.maps new.maps (part_looked old is.0 part is.1) (steps_looked is.0 new parts is.2)

-- ---- what the trait of maps promises

module _ {M F : Type 0} (Gives : M → (url : List ℕ) → F → Type 0) (Finds : M → (url : List ℕ) → M → Type 0) where
  abbrev pub IsSame : Type 0
  IsSame = (maps after : M) (url other : List ℕ) (one : F) → Finds maps url after → Gives after other one → Gives maps other one

  abbrev pub IsGiven : (under : M → (url : List ℕ) → F) → Type 0
  IsGiven under = (maps after : M) (url : List ℕ) → Finds maps url after → Gives maps url (under after url)

-- what a URL may have after others were looked for, it may have before
module _ {M F : Type 0} (by : Replacing F) (Gives : M → (url : List ℕ) → F → Type 0) (Finds : M → (url : List ℕ) → M → Type 0)
    (same : IsSame Gives Finds) where
  urls_before : (old new : M) (urls : List (List ℕ)) → FoldsTo Finds old urls new → (url : List ℕ) (one : F) → Gives new url one
      → Gives old url one
  urls_before old new [] is url stated gives = subst (λ m. Gives m url stated) (sym is) gives
  urls_before old new (first ∷ urls) is url stated gives = same old is.0 first url stated is.1 (urls_before is.0 new urls is.2 url stated gives)

  pub looked_before : (old new : M) → Looked Finds old new → (url : List ℕ) (one : F) → Gives new url one → Gives old url one
  looked_before old new looked = urls_before old new looked.0 looked.1

  -- what became of parts, they may become
  module _ (under : M → (url : List ℕ) → F) (given : IsGiven Gives Finds under) where
    part_may : (old new : PlacesNow M) (part : Part) → PartStep by Finds under old part new →
        (text : List ℕ) × MayBeBy by (Gives old.maps) part text × (new.text ≡ old.text ++ text)
    part_may old new (other byte) is = (byte ∷ [], refl, ap (λ (now : PlacesNow M). now.text) is)
    part_may old new (found place bytes) is = (
      unwrap_or (by.text (under new.maps place.url) place) bytes,
      (under new.maps place.url, given old.maps new.maps place.url is.finds, refl),
      is.text_is,
    )

    pub steps_may : (old new : PlacesNow M) (parts : List Part) → FoldsTo (PartStep by Finds under) old parts new →
        (text : List ℕ) × MayBecomeBy by (Gives old.maps) parts text × (new.text ≡ old.text ++ text)
    steps_may old new [] is = ([], refl, ap (λ (now : PlacesNow M). now.text) (sym is) ∙ sym (append-nil old.text))
    steps_may old new (part ∷ parts) is =
        let one = part_may old is.0 part is.1 in
        let more = steps_may is.0 new parts is.2 in
        let before = looked_before old.maps is.0.maps (part_looked by Finds under old is.0 part is.1) in (
          one.0 ++ more.0,
          (one.0, more.0, one.1, may_wider by (Gives is.0.maps) (Gives old.maps) before parts more.0 more.1, refl),
          more.2 ∙ ap (λ l. l ++ more.0) one.2 ∙ append_assoc old.text one.0 more.0,
        )

    -- from the beginning of a text on
    pub became_may : (old : M) (new : PlacesNow M) (parts : List Part) (places mapped : ℕ)
        → FoldsTo (PartStep by Finds under) (record { maps = old; text = []; places = places; mapped = mapped; namings = [] }) parts new
        → MayBecomeBy by (Gives old) parts new.text
    became_may old new parts places mapped is =
        let all = steps_may (record { maps = old; text = []; places = places; mapped = mapped; namings = [] }) new parts is in
        subst (MayBecomeBy by (Gives old) parts) (sym all.2) all.1

-- Parts of a text in a string of JSON: where each place begins and ends between two characters, the string stays one.
use Rattle.std.proofs.Common.{◌≡◌, ◌&&◌, ◌++◌, ℕ, true, List, [], ◌∷◌, Option, Some, None, ap, refl, subst, sym, ◌∙◌}
use Rattle.std.specs.Prelude.{unwrap_or}
use Rattle.std.specs.List.{flat_map}
use Rattle.std.proofs.lemmas.Bool.{and_parts}
use Rattle.smap_pairs.specs.Json.{InString, all_may_stand, may_stand, past, past_all}
use Rattle.smap_pairs.specs.Json.InString.{between}
use Rattle.smap_pairs.proofs.JsonLaws.{both_may_stand, past_both, past_quotation_mark}
use Rattle.smap_record.specs.Record.{MapRecord}
use Rattle.smap_anywhere.specs.JsonParts.{AnyMap}
use Rattle.smap_anywhere.specs.Parts.{Part, PlaceUrl, found, other, part_bytes}
use Rattle.smap_anywhere.specs.PartSteps.{MayBecome}
use Rattle.smap_anywhere.specs.Replaced.{part_text, parts_text, replacement}
use Rattle.smap_anywhere.proofs.PrintedLaws.{ArePlain, plain_between, plain_stay, replacement_plain}

-- ---- what holds of each place where it stands

abbrev pub Each : (InString → PlaceUrl → (bytes : List ℕ) → Type 0) → InString → List Part → Type 0
Each P state [] = Unit {0}
Each P state (other byte ∷ parts) = Each P (past state byte) parts
Each P state (found place bytes ∷ parts) = P state place bytes × Each P (past_all state bytes) parts

module _ (P : InString → PlaceUrl → (bytes : List ℕ) → Type 0) where
  pub each_both : (state : InString) (first second : List Part) → Each P state first → Each P (past_all state (flat_map part_bytes first)) second
      → Each P state (first ++ second)
  each_both state [] second one more = more
  each_both state (other byte ∷ first) second one more = each_both (past state byte) first second one more
  each_both state (found place bytes ∷ first) second one more = (
    one.0,
    each_both (past_all state bytes) first second one.1
        (subst (λ s. Each P s second) (past_both state bytes (flat_map part_bytes first)) more),
  )

  pub each_second : (state : InString) (first second : List Part) → Each P state (first ++ second) → Each P (past_all state (flat_map part_bytes first)) second
  each_second state [] second all = all
  each_second state (other byte ∷ first) second all = each_second (past state byte) first second all
  each_second state (found place bytes ∷ first) second all =
      subst (λ s. Each P s second) (sym (past_both state bytes (flat_map part_bytes first))) (each_second (past_all state bytes) first second all.1)

  pub each_first : (state : InString) (first second : List Part) → Each P state (first ++ second) → Each P state first
  each_first state [] second all = tt
  each_first state (other byte ∷ first) second all = each_first (past state byte) first second all
  each_first state (found place bytes ∷ first) second all = (all.0, each_first (past_all state bytes) first second all.1)

  -- between two quotation marks that are in no place
  pub each_inside : (before inside behind : List Part) → Each P between (before ++ other 34 ∷ (inside ++ other 34 ∷ behind)) → Each P between inside
  each_inside before inside behind all =
      let state = past_all between (flat_map part_bytes before) in
      let later : Each P (past state 34) (inside ++ other 34 ∷ behind) = each_second between before (other 34 ∷ (inside ++ other 34 ∷ behind)) all in
      each_first between inside (other 34 ∷ behind) (subst (λ s. Each P s (inside ++ other 34 ∷ behind)) (past_quotation_mark state) later)

-- a place begins between two characters, if its bytes may stand there, and it ends between two
abbrev pub IsPlaced : InString → PlaceUrl → (bytes : List ℕ) → Type 0
IsPlaced state place bytes = (all_may_stand state bytes ≡ true → state ≡ between) × (past_all state bytes ≡ between)

abbrev pub Stand : InString → List Part → Type 0
Stand = Each IsPlaced

-- ---- what they become

-- what becomes of bytes may stand where they do, and the next byte stands where it did
abbrev pub Stays : InString → (bytes became : List ℕ) → Type 0
Stays state bytes became = (all_may_stand state became ≡ true) × (past_all state became ≡ past_all state bytes)

place_stays : (state : InString) (bytes : List ℕ) (printed : Option (List ℕ)) → ((text : List ℕ) → printed ≡ Some text → ArePlain text)
    → (all_may_stand state bytes ≡ true → state ≡ between) → past_all state bytes ≡ between → all_may_stand state bytes ≡ true
    → Stays state bytes (unwrap_or printed bytes)
place_stays state bytes None plain begin end stands = (stands, refl)
place_stays state bytes (Some text) plain begin end stands =
    let here = begin stands in (
      ap (λ s. all_may_stand s text) here ∙ plain_stay text (plain text refl),
      ap (λ s. past_all s text) here ∙ plain_between text (plain text refl) ∙ sym end,
    )

pub stays_both : (state : InString) (bytes rest became later text : List ℕ) → Stays state bytes became → Stays (past_all state bytes) rest later
    → text ≡ became ++ later → Stays state (bytes ++ rest) text
stays_both state bytes rest became later text one more is = (
  ap (all_may_stand state) is ∙ both_may_stand state became later ∙ ap (λ b. b && all_may_stand (past_all state became) later) one.0
      ∙ ap (λ s. all_may_stand s later) one.1 ∙ more.0,
  ap (past_all state) is ∙ past_both state became later ∙ ap (λ s. past_all s later) one.1 ∙ more.1 ∙ sym (past_both state bytes rest),
)

pub parts_stay : (state : InString) (parts : List Part) → Stand state parts → all_may_stand state (flat_map part_bytes parts) ≡ true
    → (became : List ℕ) → MayBecome AnyMap parts became → Stays state (flat_map part_bytes parts) became
parts_stay state [] stand stands became may = (ap (all_may_stand state) may, ap (past_all state) may)
parts_stay state (other byte ∷ parts) stand stands became may =
    let both = and_parts (may_stand state byte) (all_may_stand (past state byte) (flat_map part_bytes parts)) stands in
    let here : all_may_stand state (byte ∷ []) ≡ true = ap (λ b. b && true) both.0 in
    stays_both state (byte ∷ []) (flat_map part_bytes parts) may.0 may.1 became
    (ap (all_may_stand state) may.2 ∙ here, ap (past_all state) may.2)
    (parts_stay (past state byte) parts stand both.1 may.1 may.3) may.4
parts_stay state (found place bytes ∷ parts) stand stands became may =
    let both = and_parts (all_may_stand state bytes) (all_may_stand (past_all state bytes) (flat_map part_bytes parts))
    (sym (both_may_stand state bytes (flat_map part_bytes parts)) ∙ stands) in
    let one = place_stays state bytes (replacement may.2.0 place) (λ text is. replacement_plain may.2.0 place text is) stand.0.0 stand.0.1 both.0 in
    stays_both state bytes (flat_map part_bytes parts) may.0 may.1 became
    (subst (Stays state bytes) (sym may.2.2) one)
    (parts_stay (past_all state bytes) parts stand.1 both.1 may.1 may.3) may.4

-- over the maps that a function gives
pub text_may : (maps : List ℕ → Option MapRecord) (parts : List Part) → MayBecome AnyMap parts (parts_text maps parts)
text_may maps [] = refl
text_may maps (other byte ∷ parts) = (byte ∷ [], parts_text maps parts, refl, text_may maps parts, refl)
text_may maps (found place bytes ∷ parts) =
    (part_text maps (found place bytes), parts_text maps parts, (maps place.url, tt, refl), text_may maps parts, refl)

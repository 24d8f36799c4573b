-- Parts of a text in a string of JSON with the written names of functions: the string stays one.
use Rattle.std.proofs.Common.{◌≡◌, ◌≢◌, ◌&&◌, ◌++◌, ◌≤◌, ℕ, true, false, List, [], ◌∷◌, Option, Some, None, IfSome, ap, arith, drop, map, option_map, refl, subst, sym, take, ◌∙◌}
use Rattle.std.specs.Prelude.{is_some, not, unwrap_or}
use Rattle.std.specs.List.{All, flat_map, list_all}
use Rattle.std.proofs.lemmas.Bool.{and_parts}
use Rattle.std.proofs.lemmas.Bool.Decides.{nat_tests}
use Rattle.std.proofs.lemmas.Grind.{flat_map-append}
use Rattle.std.proofs.lemmas.List.{take-append-drop}
use Rattle.std.proofs.lemmas.List.Elements.{All-cons, All-head, All-nil, All-tail}
use Rattle.smap_declarations.specs.Bytes.{is_word_byte}
use Rattle.smap_declarations.specs.Frames.{is_name}
use Rattle.smap_declarations.specs.Functions.{is_empty}
use Rattle.smap_pairs.specs.Json.{InString, all_may_stand, is_between, is_string_inside, may_stand, past, past_all}
use Rattle.smap_pairs.specs.Json.InString.{between}
use Rattle.smap_pairs.specs.Known.{UrlsKnown}
use Rattle.smap_pairs.specs.StringPlaces.{AreForStrings}
use Rattle.smap_pairs.proofs.JsonLaws.{both_may_stand, past_both}
use Rattle.smap_trace.specs.FunctionNames.{FunctionNames, written_name}
use Rattle.smap_anywhere.specs.JsonParts.{AnyNames, AreFramesKnown}
use Rattle.smap_anywhere.specs.NamedParts.{by_names, function_bytes, function_named, function_text, named_parts_in}
use Rattle.smap_anywhere.specs.Parts.{FrameFunction, Part, PlaceUrl, found, other, part_bytes}
use Rattle.smap_anywhere.specs.PartSteps.{MayBecomeBy}
use Rattle.smap_anywhere.specs.Replaced.{replacement}
use Rattle.smap_anywhere.proofs.NamedLaws.{own_bytes, own_parts, parts_own}
use Rattle.smap_anywhere.proofs.NamedTextLaws.{BeginsWith, HasFunction, parts_have}
use Rattle.smap_anywhere.proofs.FunctionStates.{IsClear, functions_clear}
use Rattle.smap_anywhere.proofs.PartStates.{Each, IsPlaced, Stand, Stays, each_first, each_inside, each_second, stays_both}
use Rattle.smap_anywhere.proofs.PrintedLaws.{ArePlain, plain_between, plain_stay, replacement_plain}
use Rattle.smap_anywhere.proofs.StringParts.{others_are, parts_stand, within_all}

-- ---- names

word_least : (byte : ℕ) → is_word_byte byte ≡ true → 32 ≤ byte
word_least byte is = grind (arith, nat_tests, is)

word_unlike : (byte sign : ℕ) → is_word_byte sign ≡ false → is_word_byte byte ≡ true → byte ≢ sign
word_unlike byte sign none is same = let lost : true ≡ false = sym is ∙ ap is_word_byte same ∙ none in cc

words_plain : (name : List ℕ) → list_all is_word_byte name ≡ true → ArePlain name
words_plain [] all = tt
words_plain (byte ∷ name) all =
    let both = and_parts (is_word_byte byte) (list_all is_word_byte name) all in
    ((word_least byte both.0, word_unlike byte 34 refl both.0, word_unlike byte 92 refl both.0), words_plain name both.1)

name_plain : (name : List ℕ) → is_name name ≡ true → ArePlain name
name_plain name is = words_plain name (and_parts (not (is_empty name)) (list_all is_word_byte name) is).1

-- ---- a function

-- what is put for it stays between two characters, where it began so
function_stays : (function : FrameFunction) (bytes : List ℕ) (written : Option (List ℕ)) → IfSome written (λ name. is_name name ≡ true)
    → is_name function.name ≡ true → bytes ≡ function.name ++ function.behind → all_may_stand between bytes ≡ true
    → Stays between bytes (function_named function written)
function_stays function bytes None is name there stands = (ap (all_may_stand between) (sym there) ∙ stands, ap (past_all between) (sym there))
function_stays function bytes (Some written) is name there stands =
    let own = name_plain function.name name in
    let new = name_plain written is in
    let both = sym (both_may_stand between function.name function.behind) ∙ ap (all_may_stand between) (sym there) ∙ stands in
    let behind : all_may_stand between function.behind ≡ true =
    ap (λ s. all_may_stand s function.behind) (sym (plain_between function.name own))
    ∙ (and_parts (all_may_stand between function.name) (all_may_stand (past_all between function.name) function.behind) both).1 in (
      both_may_stand between written function.behind ∙ ap (λ b. b && all_may_stand (past_all between written) function.behind) (plain_stay written new)
          ∙ ap (λ s. all_may_stand s function.behind) (plain_between written new) ∙ behind,
      past_both between written function.behind ∙ ap (λ s. past_all s function.behind) (plain_between written new)
          ∙ ap (λ s. past_all s function.behind) (sym (plain_between function.name own)) ∙ sym (past_both between function.name function.behind)
          ∙ ap (past_all between) (sym there),
    )

-- ---- a part

module _ (state : InString) (place : PlaceUrl) (text : List ℕ) (names : Option FunctionNames)
    (are : (function : List ℕ) (line column : ℕ) → IfSome (written_name names function line column) (λ name. is_name name ≡ true)) where
  lead_stays : (function : Option FrameFunction) → IfSome function (BeginsWith text) → (is_some function ≡ true → state ≡ between)
      → all_may_stand state (take (function_bytes function) text) ≡ true
      → Stays state (take (function_bytes function) text) (function_text names place function)
  lead_stays None begins clear stands = (refl, refl)
  lead_stays (Some function) begins clear stands =
      let here = clear refl in
      subst (λ s. Stays s (take (function_bytes (Some function)) text) (function_text names place (Some function))) (sym here)
      (function_stays function (take (function_bytes (Some function)) text) (written_name names function.name place.line place.column)
      (are function.name place.line place.column) begins.0 begins.1
      (ap (λ s. all_may_stand s (take (function_bytes (Some function)) text)) (sym here) ∙ stands))

  module _ (function : Option FrameFunction) (begins : IfSome function (BeginsWith text)) (clear : is_some function ≡ true → state ≡ between)
      (stands : all_may_stand state text ≡ true) where
    abbrev lead : List ℕ
    lead = take (function_bytes function) text

    abbrev own : List ℕ
    own = drop (function_bytes function) text

    halves : (all_may_stand state lead && all_may_stand (past_all state lead) own) ≡ true
    halves = sym (both_may_stand state lead own) ∙ ap (all_may_stand state) (take-append-drop (function_bytes function) text) ∙ stands

    part_stays : (new : Option (List ℕ)) → ((t : List ℕ) → new ≡ Some t → ArePlain t)
        → (all_may_stand (past_all state lead) own ≡ true → past_all state lead ≡ between) → past_all (past_all state lead) own ≡ between
        → Stays state text (unwrap_or (option_map (λ t. function_text names place function ++ t) new) text)
    part_stays None plain begin end = (stands, refl)
    part_stays (Some t) plain begin end =
        let both = and_parts (all_may_stand state lead) (all_may_stand (past_all state lead) own) halves in
        let mid = begin both.1 in
        let second : Stays (past_all state lead) own t = (
          ap (λ s. all_may_stand s t) mid ∙ plain_stay t (plain t refl),
          ap (λ s. past_all s t) mid ∙ plain_between t (plain t refl) ∙ sym end,
        ) in
        subst (λ l. Stays state l (function_text names place function ++ t)) (take-append-drop (function_bytes function) text)
        (stays_both state lead own (function_text names place function) t (function_text names place function ++ t)
        (lead_stays function begins clear both.0) second refl)

-- ---- parts

named_stay : (state : InString) (parts : List Part) → Stand state (flat_map own_parts parts) → All HasFunction parts → Each IsClear state parts
    → all_may_stand state (flat_map part_bytes parts) ≡ true → (became : List ℕ) → MayBecomeBy by_names AnyNames parts became
    → Stays state (flat_map part_bytes parts) became
named_stay state [] stand have clear stands became may = (ap (all_may_stand state) may, ap (past_all state) may)
named_stay state (other byte ∷ parts) stand have clear stands became may =
    let both = and_parts (may_stand state byte) (all_may_stand (past state byte) (flat_map part_bytes parts)) stands in
    let here : all_may_stand state (byte ∷ []) ≡ true = ap (λ b. b && true) both.0 in
    stays_both state (byte ∷ []) (flat_map part_bytes parts) may.0 may.1 became
    (ap (all_may_stand state) may.2 ∙ here, ap (past_all state) may.2)
    (named_stay (past state byte) parts stand (All-tail HasFunction (other byte) parts have) clear both.1 may.1 may.3) may.4
named_stay state (found place text ∷ parts) stand have clear stands became may =
    let n = function_bytes place.function in
    let lead : List ℕ = take n text in
    let own : List ℕ = drop n text in
    let both = and_parts (all_may_stand state text) (all_may_stand (past_all state text) (flat_map part_bytes parts))
    (sym (both_may_stand state text (flat_map part_bytes parts)) ∙ stands) in
    let here = each_first IsPlaced state (own_parts (found place text)) (flat_map own_parts parts) stand in
    let at_place = (each_second IsPlaced state (map other lead) (found (record place { function = None }) own ∷ []) here).0 in
    let mid : past_all state (flat_map part_bytes (map other lead)) ≡ past_all state lead = ap (past_all state) (others_are lead) in
    let begin = subst (λ s. all_may_stand s own ≡ true → s ≡ between) mid at_place.0 in
    let end : past_all (past_all state lead) own ≡ between = ap (λ s. past_all s own) (sym mid) ∙ at_place.1 in
    let later = subst (λ s. Stand s (flat_map own_parts parts)) (ap (past_all state) (own_bytes (found place text)))
    (each_second IsPlaced state (own_parts (found place text)) (flat_map own_parts parts) stand) in
    let one = part_stays state place text may.2.0.1 may.2.1 place.function (All-head HasFunction (found place text) parts have)
    clear.0 both.0 (replacement may.2.0.0 place) (λ t same. replacement_plain may.2.0.0 place t same) begin end in
    stays_both state text (flat_map part_bytes parts) may.0 may.1 became
    (subst (Stays state text) (sym may.2.2) one)
    (named_stay (past_all state text) parts later (All-tail HasFunction (found place text) parts have) clear.1 both.1 may.1 may.3) may.4

-- ---- between two quotation marks that are in no place

all_front : {X : Type 0} (P : X → Type 0) (first second : List X) → All P (first ++ second) → All P first
all_front P [] second all = All-nil P
all_front P (one ∷ first) second all =
    All-cons P one first (All-head P one (first ++ second) all) (all_front P first second (All-tail P one (first ++ second) all))

all_back : {X : Type 0} (P : X → Type 0) (first second : List X) → All P (first ++ second) → All P second
all_back P [] second all = all
all_back P (one ∷ first) second all = all_back P first second (All-tail P one (first ++ second) all)

pub named_inside : (known : UrlsKnown) → AreForStrings known → AreFramesKnown known → (text became : List ℕ) (before inside behind : List Part)
    → named_parts_in known text ≡ before ++ other 34 ∷ (inside ++ other 34 ∷ behind) → is_string_inside (flat_map part_bytes inside) ≡ true
    → MayBecomeBy by_names AnyNames inside became → is_string_inside became ≡ true
named_inside known strings frames text became before inside behind joined is may =
    let within = within_all known strings in
    let rest : List Part = inside ++ other 34 ∷ behind in
    let own : flat_map own_parts (before ++ other 34 ∷ rest)
    ≡ flat_map own_parts before ++ other 34 ∷ (flat_map own_parts inside ++ other 34 ∷ flat_map own_parts behind) =
    flat_map-append own_parts before (other 34 ∷ rest)
    ∙ ap (λ l. flat_map own_parts before ++ other 34 ∷ l) (flat_map-append own_parts inside (other 34 ∷ behind)) in
    let stand = each_inside IsPlaced (flat_map own_parts before) (flat_map own_parts inside) (flat_map own_parts behind)
    (subst (Stand between) (sym (parts_own known within text) ∙ ap (flat_map own_parts) joined ∙ own) (parts_stand known strings text)) in
    let clear = each_inside IsClear before inside behind (subst (Each IsClear between) joined (functions_clear known strings frames text)) in
    let have = all_front HasFunction inside (other 34 ∷ behind) (All-tail HasFunction (other 34) rest
    (all_back HasFunction before (other 34 ∷ rest) (subst (All HasFunction) joined (parts_have known within text)))) in
    let parts = and_parts (all_may_stand between (flat_map part_bytes inside)) (is_between (past_all between (flat_map part_bytes inside))) is in
    let stays = named_stay between inside stand have clear parts.0 became may in
    ap (λ b. b && is_between (past_all between became)) stays.0 ∙ ap is_between stays.1 ∙ parts.1

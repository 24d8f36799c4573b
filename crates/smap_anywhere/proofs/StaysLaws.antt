-- JSON stays JSON.
use Rattle.std.proofs.Common.{◌≡◌, ◌&&◌, ◌+◌, ◌++◌, ℕ, true, List, ◌∷◌, Option, ap, append_assoc, arith, length, length-append, refl, subst, sym, ◌∙◌}
use Rattle.std.specs.List.{flat_map}
use Rattle.std.proofs.lemmas.Bool.{and_parts}
use Rattle.smap_pairs.specs.Json.{all_may_stand, is_between, is_string_inside, past_all}
use Rattle.smap_pairs.specs.Json.InString.{between}
use Rattle.smap_pairs.specs.Known.{UrlsKnown}
use Rattle.smap_pairs.specs.StringPlaces.{AreForStrings}
use Rattle.smap_record.specs.Record.{MapRecord}
use Rattle.smap_anywhere.specs.ChunkParts.{parts_in}
use Rattle.smap_anywhere.specs.JsonParts.{AnyMap, IsOutsideQuotedFrames, StaysString, with_marks}
use Rattle.smap_anywhere.specs.Parts.{Part, other, part_bytes}
use Rattle.smap_anywhere.specs.PartSteps.{MayBecome}
use Rattle.smap_anywhere.specs.Replaced.{parts_text}
use Rattle.smap_anywhere.proofs.MarkLaws.{between_marks, split_text}
use Rattle.smap_anywhere.proofs.PartStates.{IsPlaced, Stand, each_inside, parts_stay, text_may}
use Rattle.smap_anywhere.proofs.StringParts.{parts_stand}

module _ (known : UrlsKnown) (strings : AreForStrings known) where
  -- between two quotation marks that are in no place
  pub inside_stays : (text became : List ℕ) (before inside behind : List Part) → parts_in known text ≡ before ++ other 34 ∷ (inside ++ other 34 ∷ behind)
      → is_string_inside (flat_map part_bytes inside) ≡ true → MayBecome AnyMap inside became → is_string_inside became ≡ true
  inside_stays text became before inside behind joined is may =
      let all = subst (Stand between) joined (parts_stand known strings text) in
      let stand = each_inside IsPlaced before inside behind all in
      let parts = and_parts (all_may_stand between (flat_map part_bytes inside)) (is_between (past_all between (flat_map part_bytes inside))) is in
      let stays = parts_stay between inside stand parts.0 became may in
      ap (λ b. b && is_between (past_all between became)) stays.0 ∙ ap is_between stays.1 ∙ parts.1

  pub strings_stay : (maps : List ℕ → Option MapRecord) (before inside behind : List ℕ) → is_string_inside inside ≡ true
      → IsOutsideQuotedFrames known (with_marks before inside behind) (length before)
      → IsOutsideQuotedFrames known (with_marks before inside behind) (length before + 1 + length inside) → StaysString known maps before inside behind
  strings_stay maps before inside behind is first second =
      let text : List ℕ = with_marks before inside behind in
      let at : length before + 1 + length inside ≡ length (before ++ 34 ∷ inside) = omega (arith, length-append before (34 ∷ inside)) in
      let one = split_text known strings text before (inside ++ 34 ∷ behind) first refl in
      let two = split_text known strings text (before ++ 34 ∷ inside) behind (subst (IsOutsideQuotedFrames known text) at second)
      (sym (append_assoc before (34 ∷ inside) (34 ∷ behind))) in
      let are = between_marks (parts_in known text) before inside behind one two in
      record {
        parts_before = are.parts_before;
        parts_inside = are.parts_inside;
        parts_behind = are.parts_behind;
        joined = are.joined;
        before_is = are.before_is;
        inside_is = are.inside_is;
        behind_is = are.behind_is;
        stays = inside_stays text (parts_text maps are.parts_inside) are.parts_before are.parts_inside are.parts_behind are.joined
            (ap is_string_inside are.inside_is ∙ is) (text_may maps are.parts_inside);
      }

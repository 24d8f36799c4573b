-- Which frames have no file where places are sought: for them at most a pattern has one.
use Rattle.std.proofs.Common.{◌≡◌, ◌&&◌, ◌||◌, ℕ, Bool, true, false, List, Option, Some, None, is_some, refl, sym}
use Rattle.std.proofs.lemmas.Bool.{or_parts}
use Rattle.smap_locations.specs.ByText.{value_under}
use Rattle.smap_locations.specs.Locations.{has_path_as_named, has_pattern_path_in_text, or_else, path_in_folders}
use Rattle.smap_locations.specs.Paths.{without_query}
use Rattle.smap_locations.specs.Patterns.{path_by_patterns}
use Rattle.smap_trace.specs.Frame.{FrameParts}
use Rattle.smap_anywhere.specs.FramePlaces.{IsLeftToPatterns, has_file, is_no_sentence_in, is_one_url_in}
use Rattle.smap_anywhere.specs.FrameUrl.{url_in}
use Rattle.smap_anywhere.specs.MapUrls.{is_argument, is_listed, urls_known}
use Rattle.smap_anywhere.specs.MapsSeen.{MapsSeen}

-- where there is none of three, there is what the last is
last_of : (one two three other : Option (List ℕ)) → is_some (or_else one (or_else two (or_else three None))) ≡ false
    → or_else one (or_else two (or_else three other)) ≡ other
last_of (Some path) two three other none = cc
last_of None (Some path) three other none = cc
last_of None None (Some path) other none = cc
last_of None None None other none = refl

-- a URL that is named has a file, also by that name
named_has : (argument : Bool) (one two three : Option (List ℕ)) → (argument || is_some one) ≡ true
    → (argument || is_some (or_else one (or_else two (or_else three None)))) ≡ true
named_has true one two three is = refl
named_has false (Some path) two three is = refl
named_has false None two three is = absurd (cc)

-- of a URL that has a file and none here, neither is so
no_name : (own name fits : Bool) → (name ≡ true → own ≡ true) → (own && (name || fits)) ≡ false → name ≡ false
no_name own false fits so none = refl
no_name false true fits so none = sym (so refl)
no_name true true fits so none = none

no_file : (own name fits : Bool) → fits ≡ true → (own && (name || fits)) ≡ false → own ≡ false
no_file false name fits is none = refl
no_file true true fits is none = none
no_file true false true is none = none
no_file true false false is none = sym is

pub left_to_patterns : (maps : MapsSeen) (line : List ℕ) (parts : FrameParts) → has_file (urls_known maps) line parts ≡ false
    → IsLeftToPatterns maps line parts
left_to_patterns maps line parts none =
    let url = parts.url in
    let own = is_argument maps url || has_path_as_named maps.locations url in
    let name = is_argument maps url || is_listed maps url in
    let fits = is_no_sentence_in line (url_in parts) in
    let file = value_under url maps.locations.files in
    let cut = value_under (without_query url) maps.locations.files in
    let folder = path_in_folders maps.locations.folders (without_query url) in
    let either = or_parts (own && (name || fits)) (is_one_url_in line (url_in parts) && has_pattern_path_in_text maps.locations url) none in
    record {
      name = no_name own name fits (named_has (is_argument maps url) file cut folder) either.0;
      path = λ is.
          last_of file cut folder (path_by_patterns maps.locations.patterns url (without_query url))
          (or_parts (is_argument maps url) (has_path_as_named maps.locations url) (no_file own name fits is either.0)).1;
      apart = either.1;
    }

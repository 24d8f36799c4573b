-- The table in `src/words.rt` holds, at each character of ASCII, whether it is one of a word.
use Rattle.std.proofs.Common.{◌≡◌, ℕ, ◌<◌, false, get_or, map, refl, sym, zero-add, ◌∙◌, ap}
use Rattle.std.specs.List.{range_with_len}
use Rattle.std.proofs.lemmas.List.FromFn.{get_or-map-range_with_len}
use Rattle.smap_fit.specs.Words.{is_word_character}
use Rattle.ucd_category.proofs.Computing.{ucd_category}
use Rattle.smap_fit.specs.declared.words.TheConstants.{ASCII_WORDS}

all_of_ascii : map (λ c. get_or ASCII_WORDS c false) (range_with_len 0 128) ≡ map is_word_character (range_with_len 0 128)
unfolding ucd_category
all_of_ascii = refl

pub word_of_ascii_is : (c : ℕ) → c < 128 → get_or ASCII_WORDS c false ≡ is_word_character c
word_of_ascii_is c below =
    sym (get_or-map-range_with_len (λ c. get_or ASCII_WORDS c false) 0 128 c c false below (zero-add c))
    ∙ ap (λ values. get_or values c false) all_of_ascii ∙ get_or-map-range_with_len is_word_character 0 128 c c false below (zero-add c)

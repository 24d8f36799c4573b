-- An argument of `rewrite` prints part by part.
use Rattle.std.proofs.Common.{◌≡◌, ℕ, List, ◌∷◌, ◌++◌}
use Rattle.std.proofs.lemmas.List.{map-append}
use Rattle.smap_text.specs.Shown.{shown}
use Rattle.smap_replies.specs.Arguments.{argument_text}

shown_pair : (url path : List ℕ) → shown (url ++ 61 ∷ path) ≡ shown url ++ 61 ∷ shown path
unfolding shown
shown_pair url path = map-append _ url (61 ∷ path)

pub shown_argument : (url path : List ℕ) → shown (argument_text url path) ≡ shown url ++ 61 ∷ shown path
shown_argument url path = shown_pair url path

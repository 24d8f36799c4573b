-- What looks like a URL (this project's own), where none is known: it holds `://`, or ends as paths of generated programs do, or
-- begins as a whole path does.
use Rattle.std.specs.Prelude.{ℕ, ◌==◌, ◌||◌, ◌&&◌, Bool, false, List, [], ◌∷◌, None, codes}
use Rattle.std.specs.Bool.{nat_eq}
use Rattle.std.specs.Char.{is_ascii_alphabetic}
use Rattle.std.specs.List.{ends_with, starts_with}
use Rattle.smap_locations.specs.Patterns.{begins_with_separator, is_separator}
use Rattle.smap_pairs.specs.Known.{UrlsKnown}
use Rattle.smap_anywhere.specs.FrameUrl.{frame_url}

-- it holds `://`
unfoldable pub holds_scheme : (url : List ℕ) → Bool
holds_scheme [] = false
holds_scheme (byte ∷ url) = starts_with nat_eq (byte ∷ url) (codes "://") || holds_scheme url

-- it ends as the path of a generated program
abbrev pub ends_as_script : (url : List ℕ) → Bool
ends_as_script url =
    ends_with nat_eq url (codes ".js") || ends_with nat_eq url (codes ".mjs") || ends_with nat_eq url (codes ".cjs")
    || ends_with nat_eq url (codes ".bundle")

-- what stands behind the letter of a drive
abbrev pub is_behind_drive : (url : List ℕ) → Bool
is_behind_drive [] = false
is_behind_drive (byte ∷ url) = byte == 58 && begins_with_separator url

-- it begins with a `/`, a `\` or a drive
abbrev pub begins_as_path : (url : List ℕ) → Bool
begins_as_path [] = false
begins_as_path (byte ∷ url) = is_separator byte || is_ascii_alphabetic byte && is_behind_drive url

abbrev pub looks_like_url : (url : List ℕ) → Bool
looks_like_url url = holds_scheme url || ends_as_script url || begins_as_path url

-- no URL is named, and what looks like one is as that of a pattern
abbrev pub urls_seeming : UrlsKnown
urls_seeming = record {
  frame_url = frame_url;
  has_own = λ url. false;
  is_name = λ url. false;
  is_named = λ by url. false;
  is_prefix = λ text. false;
  has_pattern = looks_like_url;
  front = None;
}

-- A text in which each `\` may stand for `/`: it is UTF-8 where the text is, and its pieces are names where those of the text are.
use Rattle.std.proofs.Common.{◌≡◌, ◌⊎◌, ◌<◌, ◌≤◌, ◌+◌, ◌/◌, ◌%◌, ◌==◌, ◌&&◌, ltb, ℕ, Bool, true, false, cond, not, List, [], ◌∷◌, ◌++◌, Some, None, is_some, length, map, inl, inr, refl, sym, ap, subst, arith, ◌∙◌}
use Rattle.std.specs.Prelude.{codes}
use Rattle.std.specs.Cmp.{both_ways}
use Rattle.std.specs.List.{ends_with, list_all, onto_first, slice_split}
use Rattle.std.specs.Bool.{nat_eq}
use Rattle.std.specs.Str.{IsUtf8, bytes_eq, is_utf8}
use Rattle.std.proofs.lemmas.Bool.{and_parts, eqb-true, ltb-true, ne_eqb}
use Rattle.std.proofs.lemmas.List.{length-map, map-id}
use Rattle.std.proofs.lemmas.List.Folds.{list_all-map}
use Rattle.std.proofs.lemmas.Str.{IsUtf8-append, IsUtf8-encode, IsUtf8-from_ascii, IsUtf8-from_is_utf8, IsUtf8-nil, is_utf8-from_IsUtf8}
use Rattle.std.proofs.lemmas.Str.Ascii.{IsAscii-cons, IsAscii-nil}
use lib.Utf8.{encode, encodes, scalar, scalars}
use Rattle.smap_locations.specs.ListLine.{is_folder}
use Rattle.smap_locations.specs.Paths.{has_map_path, is_plain, is_plain_byte, is_plain_piece, map_path}
use Rattle.smap_locations.specs.Patterns.{path_by, path_byte, path_in, rest_behind, slash_for, with_slashes}

-- ---- UTF-8

-- two texts have the same bytes, but for those of ASCII
abbrev AreAlike : (byte other : ℕ) → Type 0
AreAlike byte other = ((byte < 128) × (other < 128)) ⊎ (byte ≡ other)

abbrev Alike : (text other : List ℕ) → Type 0
Alike [] [] = Unit {0}
Alike [] (byte ∷ other) = ⊥
Alike (byte ∷ text) [] = ⊥
Alike (byte ∷ text) (one ∷ other) = AreAlike byte one × Alike text other

low_alike : (byte other : ℕ) → byte < 128 → AreAlike byte other → other < 128
low_alike byte other low (inl both) = both.1
low_alike byte other low (inr same) = omega (arith, low, same)

high_alike : (byte other : ℕ) → 128 ≤ byte → AreAlike byte other → other ≡ byte
high_alike byte other high (inl both) = absurd (omega (arith, high, both.0))
high_alike byte other high (inr same) = sym same

abbrev AllHigh : List ℕ → Type 0
AllHigh [] = Unit {0}
AllHigh (byte ∷ text) = (128 ≤ byte) × AllHigh text

record Behind (front text other : List ℕ) : Type 0 where
  rest : List ℕ
  cut : other ≡ front ++ rest
  alike : Alike text rest

same_front : (front text other : List ℕ) → AllHigh front → Alike (front ++ text) other → Behind front text other
same_front [] text other high alike = record { rest = other; cut = refl; alike = alike }
same_front (byte ∷ front) text [] high alike = absurd alike
same_front (byte ∷ front) text (one ∷ other) high alike =
    let more = same_front front text other high.1 alike.1 in
    record {
      rest = more.rest;
      cut = ap (λ b. b ∷ other) (high_alike byte one high.0 alike.0) ∙ ap (λ l. byte ∷ l) more.cut;
      alike = more.alike;
    }

-- the bytes of a character: one of ASCII, or two, three or four others
abbrev bytes_by : (low two three : Bool) → ℕ → List ℕ
bytes_by low two three c =
    cond low (c ∷ []) (cond two ((192 + c / 64) ∷ (128 + c % 64) ∷ [])
    (cond three ((224 + c / 4096) ∷ (128 + c / 64 % 64) ∷ (128 + c % 64) ∷ [])
    ((240 + c / 262144) ∷ (128 + c / 4096 % 64) ∷ (128 + c / 64 % 64) ∷ (128 + c % 64) ∷ [])))

bytes_of : (c : ℕ) → encode c ≡ bytes_by (ltb c 128) (ltb c 2048) (ltb c 65536) c
unfolding encode
bytes_of c = refl

high_bytes : (two three : Bool) (c : ℕ) → AllHigh (bytes_by false two three c)
high_bytes true three c = (omega arith, (omega arith, tt))
high_bytes false true c = (omega arith, (omega arith, (omega arith, tt)))
high_bytes false false c = (omega arith, (omega arith, (omega arith, (omega arith, tt))))

-- the first character of one is that of the other, or both are of ASCII
module _ (c : ℕ) (text : List ℕ) (is_scalar : scalar c ≡ true) (below : (rest : List ℕ) → Alike text rest → IsUtf8 rest) where
  low_first : (other : List ℕ) → c < 128 → Alike (c ∷ text) other → IsUtf8 other
  low_first [] low alike = absurd alike
  low_first (one ∷ other) low alike =
      IsUtf8-append (one ∷ []) other (IsUtf8-from_ascii (one ∷ []) (IsAscii-cons one [] (low_alike c one low alike.0) IsAscii-nil))
      (below other alike.1)

  high_first : (front other : List ℕ) → encode c ≡ front → AllHigh front → Alike (encode c ++ text) other → IsUtf8 other
  high_first front other is high alike =
      let behind = same_front front text other high (subst (λ l. Alike (l ++ text) other) is alike) in
      subst IsUtf8 (ap (λ l. l ++ behind.rest) is ∙ sym behind.cut) (IsUtf8-append (encode c) behind.rest (IsUtf8-encode c is_scalar) (below behind.rest behind.alike))

  one_first : (other : List ℕ) → Alike (encode c ++ text) other → IsUtf8 other
  one_first other alike = go (ltb c 128) refl
    where
      go : (low : Bool) → ltb c 128 ≡ low → IsUtf8 other
      go true low =
          low_first other (ltb-true c 128 low)
          (subst (λ l. Alike (l ++ text) other) (bytes_of c ∙ ap (λ b. bytes_by b (ltb c 2048) (ltb c 65536) c) low) alike)
      go false low =
          high_first (bytes_by false (ltb c 2048) (ltb c 65536) c) other
          (bytes_of c ∙ ap (λ b. bytes_by b (ltb c 2048) (ltb c 65536) c) low) (high_bytes (ltb c 2048) (ltb c 65536) c) alike

of_characters : (cs other : List ℕ) → scalars cs ≡ true → Alike (encodes cs) other → IsUtf8 other
of_characters [] [] all alike = IsUtf8-nil
of_characters [] (one ∷ other) all alike = absurd alike
of_characters (c ∷ cs) other all alike =
    let parts = and_parts (scalar c) (scalars cs) all in
    one_first c (encodes cs) parts.0 (λ rest more. of_characters cs rest parts.1 more) other alike

utf8_alike : (text other : List ℕ) → Alike text other → is_utf8 text ≡ true → is_utf8 other ≡ true
utf8_alike text other alike on =
    let utf8 = IsUtf8-from_is_utf8 text on in
    is_utf8-from_IsUtf8 other (of_characters utf8.0 other utf8.1.0 (subst (λ l. Alike l other) (sym utf8.1.1) alike))

alike_back : (text other : List ℕ) → Alike text other → Alike other text
alike_back [] [] alike = tt
alike_back [] (one ∷ other) alike = absurd alike
alike_back (byte ∷ text) [] alike = absurd alike
alike_back (byte ∷ text) (one ∷ other) alike = (back alike.0, alike_back text other alike.1)
  where
    back : AreAlike byte one → AreAlike one byte
    back (inl both) = inl (both.1, both.0)
    back (inr same) = inr (sym same)

slash_alike : (byte : ℕ) → AreAlike byte (slash_for byte)
slash_alike byte = go (byte == 92) refl
  where
    go : (b : Bool) → (byte == 92) ≡ b → AreAlike byte (cond b 47 byte)
    go true is = inl (omega (arith, eqb-true byte 92 is), omega arith)
    go false is = inr refl

bytes_alike : (has_backslashes : Bool) (text : List ℕ) → Alike text (map (path_byte has_backslashes) text)
bytes_alike b [] = tt
bytes_alike true (byte ∷ text) = (slash_alike byte, bytes_alike true text)
bytes_alike false (byte ∷ text) = (inr refl, bytes_alike false text)

pub same_utf8 : (has_backslashes : Bool) (text : List ℕ) → is_utf8 (map (path_byte has_backslashes) text) ≡ is_utf8 text
same_utf8 b text =
    let other = map (path_byte b) text in
    both_ways (is_utf8 other) (is_utf8 text) (utf8_alike other text (alike_back text other (bytes_alike b text)))
    (utf8_alike text other (bytes_alike b text))

-- ---- pieces

dot_stays : (has_backslashes : Bool) (byte : ℕ) → (path_byte has_backslashes byte == 46) ≡ (byte == 46)
dot_stays true byte = go (byte == 92) refl
  where
    go : (b : Bool) → (byte == 92) ≡ b → (cond b 47 byte == 46) ≡ (byte == 46)
    go true is = sym (ne_eqb byte 46 (λ same. absurd (omega (arith, same, eqb-true byte 92 is))))
    go false is = refl
dot_stays false byte = refl

module _ (f : ℕ → ℕ) (dot : (byte : ℕ) → (f byte == 46) ≡ (byte == 46)) where
  one_dot : (piece : List ℕ) → bytes_eq (map f piece) (codes ".") ≡ bytes_eq piece (codes ".")
  one_dot [] = refl
  one_dot (byte ∷ []) = ap (λ b. b && true) (dot byte)
  one_dot (byte ∷ next ∷ piece) = ap (λ b. b && false) (dot byte)

  two_dots : (piece : List ℕ) → bytes_eq (map f piece) (codes "..") ≡ bytes_eq piece (codes "..")
  two_dots [] = refl
  two_dots (byte ∷ piece) = ap (λ b. b && bytes_eq (map f piece) (codes ".")) (dot byte) ∙ ap (λ b. (byte == 46) && b) (one_dot piece)

  same_piece : (piece : List ℕ) → is_plain_piece (map f piece) ≡ is_plain_piece piece
  same_piece piece =
      ap (λ n. not (n == 0) && not (bytes_eq (map f piece) (codes ".")) && not (bytes_eq (map f piece) (codes ".."))) (length-map piece f)
      ∙ ap (λ b. not (length piece == 0) && not b && not (bytes_eq (map f piece) (codes ".."))) (one_dot piece)
      ∙ ap (λ b. not (length piece == 0) && not (bytes_eq piece (codes ".")) && not b) (two_dots piece)

  same_pieces : (pieces : List (List ℕ)) → list_all is_plain_piece (map (map f) pieces) ≡ list_all is_plain_piece pieces
  same_pieces [] = refl
  same_pieces (piece ∷ pieces) =
      ap (λ b. b && list_all is_plain_piece (map (map f) pieces)) (same_piece piece) ∙ ap (λ b. is_plain_piece piece && b) (same_pieces pieces)

  onto : (byte : ℕ) (pieces : List (List ℕ)) → onto_first (f byte) (map (map f) pieces) ≡ map (map f) (onto_first byte pieces)
  onto byte [] = refl
  onto byte (piece ∷ pieces) = refl

  split_map : (p : ℕ → Bool) (text : List ℕ) → slice_split p (map f text) ≡ map (map f) (slice_split (λ byte. p (f byte)) text)
  split_map p [] = refl
  split_map p (byte ∷ text) = go (p (f byte)) (split_map p text)
    where
      go : (b : Bool) → slice_split p (map f text) ≡ map (map f) (slice_split (λ byte. p (f byte)) text)
          → cond b ([] ∷ slice_split p (map f text)) (onto_first (f byte) (slice_split p (map f text)))
          ≡ map (map f) (cond b ([] ∷ slice_split (λ byte. p (f byte)) text) (onto_first byte (slice_split (λ byte. p (f byte)) text)))
      go true rest = ap (λ l. [] ∷ l) rest
      go false rest = ap (onto_first (f byte)) rest ∙ onto byte (slice_split (λ byte. p (f byte)) text)

-- bytes and pieces that are tested where they stand
pub plain_is : (has_backslashes : Bool) (text : List ℕ)
    → (list_all (λ byte. is_plain_byte (path_byte has_backslashes byte)) text
    && list_all is_plain_piece (slice_split (λ byte. path_byte has_backslashes byte == 47) text))
    ≡ is_plain (map (path_byte has_backslashes) text)
plain_is b text =
    let f = path_byte b in
    let pieces = slice_split (λ byte. f byte == 47) text in
    let other : list_all is_plain_piece (slice_split (λ byte. byte == 47) (map f text)) ≡ list_all is_plain_piece pieces =
    ap (list_all is_plain_piece) (split_map f (dot_stays b) (λ byte. byte == 47) text) ∙ same_pieces f (dot_stays b) pieces in
    ap (λ t. t && list_all is_plain_piece pieces) (sym (list_all-map is_plain_byte f text))
    ∙ ap (λ t. list_all is_plain_byte (map f text) && t) (sym other)

-- ---- the path

pub bytes_stay : (text : List ℕ) → map (path_byte false) text ≡ text
bytes_stay text = map-id text

pub slashes_are : (text rest : List ℕ) → map (path_byte (ends_with nat_eq text (codes "\\"))) rest ≡ with_slashes text rest
slashes_are text rest = go (ends_with nat_eq text (codes "\\"))
  where
    go : (b : Bool) → map (path_byte b) rest ≡ cond b (map slash_for rest) rest
    go true = refl
    go false = map-id rest

path_if : (folder rest : List ℕ) → is_some (map_path folder rest) ≡ has_map_path rest
path_if folder rest = go (has_map_path rest)
  where
    go : (b : Bool) → is_some (cond b (Some (folder ++ (rest ++ codes ".map"))) None) ≡ b
    go true = refl
    go false = refl

-- what a pattern with a folder gives
pub folder_path_is : (text folder short rest : List ℕ) → is_folder folder ≡ true → rest_behind text short ≡ Some rest
    → is_some (path_by (text, folder) short) ≡ has_map_path (with_slashes text rest)
folder_path_is text folder short rest on behind =
    ap (λ b. is_some (cond b (path_in text folder (rest_behind text short)) (Some folder))) on
    ∙ ap (λ found. is_some (path_in text folder found)) behind ∙ path_if folder (with_slashes text rest)

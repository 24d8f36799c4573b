-- What is seen of a line has the bytes of the line.
use Rattle.std.proofs.Common.{◌≡◌, ◌-◌, ◌<◌, ◌++◌, ℕ, zero, suc, Bool, true, false, List, [], ◌∷◌, length, map, take, drop, ap, refl, sym, ◌∙◌, arith, take-append-drop}
use Rattle.std.specs.Prelude.{if◌then◌else◌, not, slice_index, ◌||◌}
use Rattle.std.proofs.lemmas.List.{length-map, map-append}
use Rattle.smap_pairs.specs.declared.seen.SeenByte.{SeenByte}
use Rattle.smap_pairs.specs.declared.token.Token.{Token}
use Rattle.smap_pairs.specs.declared.token.Token.TheVariants.{Bytes, Colour, Escaped}
use Rattle.smap_pairs.specs.Seen.{by_itself, counted, counted_from, ends_with_drive, ends_with_file, is_apostrophe, is_before_path, is_before_root, seen_of, settled, settled_from, token_bytes, token_of, token_size, within}
use Rattle.smap_pairs.proofs.TokenLaws.{AreInner, Fits, IsClear, token_fits}

abbrev pub bytes_seen : List SeenByte → List ℕ
bytes_seen line = map (λ (seen : SeenByte). seen.byte) line

plain_bytes : (bytes : List ℕ) → bytes_seen (map by_itself bytes) ≡ bytes
plain_bytes [] = refl
plain_bytes (byte ∷ bytes) = ap (λ l. byte ∷ l) (plain_bytes bytes)

inner_bytes : (many : ℕ) (text : List ℕ) (last : SeenByte) → AreInner (suc many) text → last.byte ≡ slice_index text many
    → bytes_seen (map within (take many text) ++ last ∷ []) ≡ take (suc many) text
inner_bytes many [] last inner is = absurd inner
inner_bytes zero (byte ∷ text) last inner is = ap (λ b. b ∷ []) is
inner_bytes (suc many) (byte ∷ text) last inner is = ap (λ l. byte ∷ l) (inner_bytes many text last inner.1 is)

counted_bytes : (size counts : ℕ) (is_edge : Bool) (text : List ℕ) → IsClear size text → bytes_seen (counted size counts is_edge text) ≡ take size text
counted_bytes zero counts is_edge text clear = absurd (omega arith)
counted_bytes (suc many) counts is_edge text clear =
    let same : suc many - 1 ≡ many = omega arith in rw same (inner_bytes many text _ clear.1 refl)

token_bytes_are : (token : Token) (text : List ℕ) → Fits token text → bytes_seen (token_bytes token text) ≡ take (token_size token) text
token_bytes_are (Bytes size) text fits = plain_bytes (take size text)
token_bytes_are (Escaped escape) text fits = counted_bytes escape.size _ _ text fits
token_bytes_are (Colour size) text fits = counted_bytes size 255 true text fits

some_bytes : (token : Token) (text : List ℕ) → Fits token text → 0 < token_size token
some_bytes (Bytes size) text fits = fits
some_bytes (Escaped escape) text fits = fits.0
some_bytes (Colour size) text fits = fits.0

rest_of : (size byte : ℕ) (text : List ℕ) → 0 < size → take size (byte ∷ text) ++ drop (size - 1) text ≡ byte ∷ text
rest_of zero byte text some = absurd (omega arith)
rest_of (suc many) byte text some =
    let same : suc many - 1 ≡ many = omega arith in rw same (ap (λ l. byte ∷ l) (take-append-drop many text))

pub all_bytes : (skip : ℕ) (text : List ℕ) → bytes_seen (counted_from skip text) ≡ drop skip text
unfolding counted_from
all_bytes zero [] = refl
all_bytes (suc skip) [] = refl
all_bytes (suc skip) (byte ∷ text) = all_bytes skip text
all_bytes zero (byte ∷ text) =
    let token = token_of (byte ∷ text) in
    let fits = token_fits byte text in
    map-append (λ (seen : SeenByte). seen.byte) (token_bytes token (byte ∷ text)) (counted_from (token_size token - 1) text)
    ∙ ap (λ l. l ++ bytes_seen (counted_from (token_size token - 1) text)) (token_bytes_are token (byte ∷ text) fits)
    ∙ ap (λ l. take (token_size token) (byte ∷ text) ++ l) (all_bytes (token_size token - 1) text)
    ∙ rest_of (token_size token) byte text (some_bytes token (byte ∷ text) fits)

pub settled_byte : (before : List SeenByte) (one : SeenByte) (text : List ℕ) → (settled before one text).byte ≡ one.byte
unfolding settled
settled_byte before one text = go (is_before_path one text) (is_apostrophe before one text) (is_before_root before one text)
  where
    go : (path word root : Bool) → (if path then record one { is_edge = not (ends_with_drive before || ends_with_file before) }
        else if word then record one { counts = 226; is_edge = false } else if root then record one { is_edge = true } else one).byte ≡ one.byte
    go true word root = refl
    go false true root = refl
    go false false true = refl
    go false false false = refl

pub settled_bytes : (before : List SeenByte) (text : List ℕ) (seen : List SeenByte) → bytes_seen (settled_from before text seen) ≡ bytes_seen seen
unfolding settled_from
settled_bytes before text [] = refl
settled_bytes before text (one ∷ seen) =
    ap (λ b. b ∷ bytes_seen (settled_from (one ∷ before) (drop 1 text) seen)) (settled_byte before one (drop 1 text))
    ∙ ap (λ l. one.byte ∷ l) (settled_bytes (one ∷ before) (drop 1 text) seen)

pub bytes_kept : (line : List ℕ) → bytes_seen (seen_of line) ≡ line
unfolding seen_of
bytes_kept line = settled_bytes [] line (counted_from 0 line) ∙ all_bytes 0 line

pub length_kept : (line : List ℕ) → length (seen_of line) ≡ length line
length_kept line = sym (length-map (seen_of line) (λ (seen : SeenByte). seen.byte)) ∙ ap length (bytes_kept line)

-- The bytes that were seen are those of the line.
use Rattle.std.proofs.Common.{◌≡◌, ℕ, ◌+◌, ◌-◌, ◌<◌, ◌≤◌, Bool, true, List, [], ◌∷◌, ◌++◌, ap, append_assoc, arith, drop, get_or, length, map, refl, sym, take, ◌∙◌}
use Rattle.std.proofs.lemmas.List.{map-append, take-append-drop, take_more}
use Rattle.smap_pairs.specs.Seen.{by_itself, counted, token_bytes, token_size, within}
use Rattle.smap_pairs.specs.Signs.{text_of}
use Rattle.smap_pairs.specs.declared.seen.SeenByte.{SeenByte}
use Rattle.smap_pairs.specs.declared.token.Token.{Token}
use Rattle.smap_pairs.specs.declared.token.Token.TheVariants.{Bytes, Colour, Escaped}

-- ---- what a text begins with

by_themselves : (text : List ℕ) → text_of (map by_itself text) ≡ text
by_themselves [] = refl
by_themselves (byte ∷ text) = ap (λ l. byte ∷ l) (by_themselves text)

all_within : (text : List ℕ) → text_of (map within text) ≡ text
all_within [] = refl
all_within (byte ∷ text) = ap (λ l. byte ∷ l) (all_within text)

all_counted : (size counts : ℕ) (is_edge : Bool) (text : List ℕ) → 0 < size → size ≤ length text → text_of (counted size counts is_edge text) ≡ take size text
all_counted size counts is_edge text some enough =
    let last : size - 1 + 1 ≡ size = omega (arith, some) in
    map-append (λ seen. seen.byte) (map within (take (size - 1) text)) (record { size = size; byte = get_or text (size - 1) 0; counts = counts; is_edge = is_edge } ∷ [])
    ∙ ap (λ l. l ++ get_or text (size - 1) 0 ∷ []) (all_within (take (size - 1) text))
    ∙ sym (take_more text (size - 1) 0 (omega (arith, some, enough))) ∙ ap (λ n. take n text) last

token_stands : (token : Token) (text : List ℕ) → 0 < token_size token → token_size token ≤ length text → text_of (token_bytes token text) ≡ take (token_size token) text
token_stands (Bytes size) text some enough = by_themselves (take size text)
token_stands (Escaped escape) text some enough = all_counted escape.size _ _ text some enough
token_stands (Colour size) text some enough = all_counted size 255 true text some enough

-- ---- one more of a line

pub token_line : (items now : List SeenByte) (rest back line : List ℕ) (token : Token) (size : ℕ) → now ≡ items ++ token_bytes token rest → 0 < token_size token
    → token_size token ≤ length rest → size ≡ token_size token → back ≡ drop size rest → text_of items ++ rest ≡ line → text_of now ++ back ≡ line
token_line items now rest back line token size is some enough size_is back_is before =
    ap (λ l. text_of l ++ back) is
    ∙ ap (λ l. l ++ back) (map-append (λ seen. seen.byte) items (token_bytes token rest) ∙ ap (λ l. text_of items ++ l) (token_stands token rest some enough))
    ∙ append_assoc (text_of items) (take (token_size token) rest) back
    ∙ ap (λ l. text_of items ++ (take (token_size token) rest ++ l)) (back_is ∙ ap (λ n. drop n rest) size_is)
    ∙ ap (λ l. text_of items ++ l) (take-append-drop (token_size token) rest) ∙ before

pub run_line : (items now : List SeenByte) (rest run behind : List ℕ) (n : ℕ) → now ≡ items ++ map by_itself run → run ≡ take n rest → behind ≡ drop n rest
    → text_of now ++ behind ≡ text_of items ++ rest
run_line items now rest run behind n is run_is behind_is =
    ap (λ l. text_of l ++ behind) is
    ∙ ap (λ l. l ++ behind) (map-append (λ seen. seen.byte) items (map by_itself run) ∙ ap (λ l. text_of items ++ l) (by_themselves run))
    ∙ append_assoc (text_of items) run behind ∙ (λ i. text_of items ++ (run_is i ++ behind_is i)) ∙ ap (λ l. text_of items ++ l) (take-append-drop n rest)

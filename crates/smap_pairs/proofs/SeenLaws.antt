-- What the bytes of a line count as, step by step.
use Rattle.std.proofs.Common.{◌≡◌, ℕ, ◌==◌, ◌&&◌, ne_eqb, cond, subst, zero, suc, ◌+◌, ◌-◌, ◌<◌, Bool, true, false, not, ◌||◌, List, [], ◌∷◌, ◌++◌, drop, get_or, length, map, max, min, nat_eq, nat_le, reverse, set, take, refl, ap, sym, ◌∙◌, arith, length-drop, if◌then◌else◌, None}
use Rattle.std.specs.List.{prefix_len}
use Rattle.std.proofs.Math.Bool.{and-false}
use Rattle.std.proofs.lemmas.Bool.{or_parts}
use Rattle.std.proofs.lemmas.List.{append-nil, append_assoc, drop-drop, drop_all, drop_at, drop_min, drop_more, get_or_at, length-reverse, length-take-le, map-append, nil_from_length, reverse-append, set_at, take-append-drop, take_all, take_at, take_more}
use Rattle.smap_pairs.specs.Laws.Chunks.{behind_first}
use Rattle.smap_pairs.specs.Escapes.{escape_from, escape_of, is_backslash, octal, of_size}
use Rattle.smap_pairs.specs.Seen.{by_itself, bytes_of, counted_from, escape_or_colour, is_by_itself, settled, settled_from, token_by, token_bytes, token_of, token_size, begins_drive, begins_file, begins_letter, begins_path, ends_sign, ends_with_drive, ends_with_file, first_byte, is_apostrophe, is_before_root, is_continuation, is_in_word}
use Rattle.smap_pairs.specs.declared.seen.SeenByte.{SeenByte}
use Rattle.smap_pairs.specs.declared.token.Token.{Token}
use Rattle.smap_pairs.specs.declared.token.Token.TheVariants.{Bytes}

-- ---- lists

pub drop_reverse : {X : Type 0} → (k : ℕ) (xs : List X) → drop k (reverse xs) ≡ reverse (take (length xs - k) xs)
drop_reverse k xs =
    let m = length xs - k in
    let back = reverse (drop m xs) in
    let front = reverse (take m xs) in
    let parts : reverse xs ≡ back ++ front = ap reverse (sym (take-append-drop m xs)) ∙ reverse-append (take m xs) (drop m xs) in
    let size : length back ≡ min k (length (reverse xs)) = omega (arith, length-reverse (drop m xs), length-drop m xs, length-reverse xs) in
    sym (drop_min k (reverse xs)) ∙ ap (drop (min k (length (reverse xs)))) parts ∙ drop_at back front (min k (length (reverse xs))) size

-- one more byte of a part was added
pub added : (f : ℕ → SeenByte) (before items : List SeenByte) (part : List ℕ) (i : ℕ) → i < length part → items ≡ before ++ map f (take i part)
    → items ++ f (get_or part i 0) ∷ [] ≡ before ++ map f (take (i + 1) part)
added f before items part i here so_far =
    ap (λ l. l ++ f (get_or part i 0) ∷ []) so_far ∙ append_assoc before (map f (take i part)) (f (get_or part i 0) ∷ [])
    ∙ ap (λ l. before ++ l) (sym (ap (map f) (take_more part i 0 here) ∙ map-append f (take i part) (get_or part i 0 ∷ [])))

-- ---- what a text begins with

pub passed : (skip : ℕ) (text : List ℕ) → counted_from skip text ≡ counted_from 0 (drop skip text)
unfolding counted_from
passed zero text = refl
passed (suc skip) [] = refl
passed (suc skip) (byte ∷ text) = passed skip text

begun : (byte : ℕ) (behind : List ℕ) → 0 < token_size (token_of (byte ∷ behind))
    → counted_from 0 (byte ∷ behind)
    ≡ token_bytes (token_of (byte ∷ behind)) (byte ∷ behind) ++ counted_from 0 (drop (token_size (token_of (byte ∷ behind))) (byte ∷ behind))
unfolding counted_from
begun byte behind some =
    let token = token_of (byte ∷ behind) in
    ap (λ l. token_bytes token (byte ∷ behind) ++ l)
    (passed (token_size token - 1) behind ∙ ap (counted_from 0) (behind_first (token_size token) byte behind some))

by_itself_on : (is_slash is_sharp is_esc : Bool) (byte : ℕ) (behind : List ℕ) → not (is_slash || is_sharp || is_esc) ≡ true
    → is_backslash byte ≡ is_slash → nat_eq byte 35 ≡ is_sharp → nat_eq byte 27 ≡ is_esc → token_of (byte ∷ behind) ≡ Bytes 1
unfolding token_of escape_of
by_itself_on true is_sharp is_esc byte behind none slash sharp esc = cc
by_itself_on false true is_esc byte behind none slash sharp esc = cc
by_itself_on false false true byte behind none slash sharp esc = cc
by_itself_on false false false byte behind none slash sharp esc =
    let text = byte ∷ behind in
    let no_escape : escape_of text ≡ None =
    ap (λ is. if is then escape_from 0 0 None text else if nat_eq byte 35 then of_size 4 (octal text) else None) slash
    ∙ ap (λ is. if is then of_size 4 (octal text) else None) sharp in
    ap (token_by text) no_escape ∙ ap (λ is. escape_or_colour is 1 (bytes_of text) text) esc
    ∙ ap (λ is. Bytes (max 1 (cond is (1 + prefix_len is_backslash behind) 0))) slash

pub by_itself_next : (text : List ℕ) (byte : ℕ) (behind : List ℕ) → text ≡ byte ∷ behind → is_by_itself byte ≡ true
    → counted_from 0 text ≡ by_itself byte ∷ counted_from 0 behind
unfolding counted_from
by_itself_next text byte behind begins is =
    let token : token_of (byte ∷ behind) ≡ Bytes 1 = by_itself_on (is_backslash byte) (nat_eq byte 35) (nat_eq byte 27) byte behind is refl refl refl in
    ap (counted_from 0) begins
    ∙ ap (λ token. token_bytes token (byte ∷ behind) ++ counted_from (token_size token - 1) behind) token

-- bytes by themselves
run_next : (text : List ℕ) → counted_from 0 text
    ≡ map by_itself (take (prefix_len is_by_itself text) text) ++ counted_from 0 (drop (prefix_len is_by_itself text) text)
unfolding counted_from
run_next [] = refl
run_next (byte ∷ text) = go (is_by_itself byte) refl (run_next text)
  where
    go : (is : Bool) → is_by_itself byte ≡ is
        → counted_from 0 text ≡ map by_itself (take (prefix_len is_by_itself text) text) ++ counted_from 0 (drop (prefix_len is_by_itself text) text)
        → let n = cond is (1 + prefix_len is_by_itself text) 0 in
        counted_from 0 (byte ∷ text) ≡ map by_itself (take n (byte ∷ text)) ++ counted_from 0 (drop n (byte ∷ text))
    go true is more =
        let next : suc (prefix_len is_by_itself text) ≡ 1 + prefix_len is_by_itself text = omega arith in
        by_itself_next (byte ∷ text) byte text refl is ∙ ap (λ l. by_itself byte ∷ l) more
        ∙ ap (λ n. map by_itself (take n (byte ∷ text)) ++ counted_from 0 (drop n (byte ∷ text))) next
    go false is more = refl

-- the loop adds them
pub run_added : (items now : List SeenByte) (rest run behind : List ℕ) (n : ℕ) → n ≡ prefix_len is_by_itself rest → run ≡ take n rest → behind ≡ drop n rest
    → now ≡ items ++ map by_itself run → now ++ counted_from 0 behind ≡ items ++ counted_from 0 rest
run_added items now rest run behind n is run_is behind_is more =
    (λ i. more i ++ counted_from 0 (behind_is i)) ∙ append_assoc items (map by_itself run) (counted_from 0 (drop n rest))
    ∙ ap (λ l. items ++ (map by_itself l ++ counted_from 0 (drop n rest))) run_is
    ∙ ap (λ k. items ++ (map by_itself (take k rest) ++ counted_from 0 (drop k rest))) is ∙ ap (λ l. items ++ l) (sym (run_next rest))

-- the loop adds what the rest begins with
pub token_added : (items now : List SeenByte) (rest : List ℕ) (token : Token) (size : ℕ) (back : List ℕ) → 0 < length rest → token ≡ token_of rest
    → 0 < token_size token → size ≡ token_size token → back ≡ drop size rest → now ≡ items ++ token_bytes token rest
    → now ++ counted_from 0 back ≡ items ++ counted_from 0 rest
token_added items now [] token size back more is some size_is back_is now_is = absurd (omega (arith, more))
token_added items now (byte ∷ behind) token size back more is some size_is back_is now_is =
    let rest = byte ∷ behind in
    let left : back ≡ drop (token_size (token_of rest)) rest = back_is ∙ ap (λ n. drop n rest) (size_is ∙ ap token_size is) in
    let P : Token → Type 0 = λ t. 0 < token_size t in
    ap (λ l. l ++ counted_from 0 back) now_is ∙ append_assoc items (token_bytes token rest) (counted_from 0 back)
    ∙ ap (λ l. items ++ l)
    (ap (λ t. token_bytes t rest ++ counted_from 0 back) is ∙ ap (λ l. token_bytes (token_of rest) rest ++ counted_from 0 l) left
    ∙ sym (begun byte behind (subst P is some)))

pub all_added : (items : List SeenByte) (rest line : List ℕ) → length rest ≡ 0 → items ++ counted_from 0 rest ≡ counted_from 0 line
    → items ≡ counted_from 0 line
unfolding counted_from
all_added items rest line none so_far =
    sym (append-nil items) ∙ ap (λ l. items ++ counted_from 0 l) (sym (nil_from_length rest none)) ∙ so_far

-- ---- what depends on what stands beside

-- the element of no list
abbrev pub no_byte : SeenByte
no_byte = record { size = 0; byte = 0; counts = 0; is_edge = false }

-- those from this byte on are settled, and depend on those before
pub settled_to : (line : List ℕ) (seen : List SeenByte) (i : ℕ) → List SeenByte
settled_to line seen i = take i seen ++ settled_from (reverse (take i seen)) (drop i line) (drop i seen)

pub none_settled : (line : List ℕ) (seen : List SeenByte) → seen ≡ settled_to line seen (length seen)
unfolding settled_to settled_from
none_settled line seen =
    let n = length seen in
    sym (append-nil seen) ∙ ap (λ l. l ++ []) (sym (take_all n seen (omega arith)))
    ∙ ap (λ l. take n seen ++ settled_from (reverse (take n seen)) (drop n line) l) (sym (drop_all n seen (omega arith)))

pub all_settled : (line : List ℕ) (seen : List SeenByte) → settled_to line seen 0 ≡ settled_from [] line seen
unfolding settled_to
all_settled line seen = refl

-- the parts of a list of which all but the first i and one more are settled
pub parted : (line : List ℕ) (seen : List SeenByte) (i : ℕ) → i < length seen → settled_to line seen (i + 1)
    ≡ take i seen ++ get_or seen i no_byte ∷ settled_from (reverse (take (i + 1) seen)) (drop (i + 1) line) (drop (i + 1) seen)
unfolding settled_to
parted line seen i here =
    let back = settled_from (reverse (take (i + 1) seen)) (drop (i + 1) line) (drop (i + 1) seen) in
    ap (λ l. l ++ back) (take_more seen i no_byte here) ∙ append_assoc (take i seen) (get_or seen i no_byte ∷ []) back

-- the byte before them is settled
pub one_more : (line : List ℕ) (seen : List SeenByte) (i : ℕ) (one : SeenByte) → i < length seen
    → one ≡ settled (reverse (take i seen)) (get_or seen i no_byte) (drop (i + 1) line)
    → take i seen ++ one ∷ settled_from (reverse (take (i + 1) seen)) (drop (i + 1) line) (drop (i + 1) seen) ≡ settled_to line seen i
unfolding settled_to settled_from
one_more line seen i one here is =
    let this = get_or seen i no_byte in
    let front = take i seen in
    let next : drop 1 (drop i line) ≡ drop (i + 1) line = drop-drop 1 i line in
    let before : reverse (take (i + 1) seen) ≡ this ∷ reverse front =
    ap reverse (take_more seen i no_byte here) ∙ reverse-append front (this ∷ []) in
    ap (λ l. front ++ l)
    (ap (λ o. o ∷ settled_from (reverse (take (i + 1) seen)) (drop (i + 1) line) (drop (i + 1) seen)) is
    ∙ ap (λ l. settled (reverse front) this (drop (i + 1) line) ∷ settled_from l (drop (i + 1) line) (drop (i + 1) seen)) before
    ∙ ap (λ l. settled (reverse front) this l ∷ settled_from (this ∷ reverse front) l (drop (i + 1) seen)) (sym next)
    ∙ ap (settled_from (reverse front) (drop i line)) (sym (drop_more seen i no_byte here)))

-- a sign beyond ASCII may end with a byte
abbrev pub may_be_of_sign : SeenByte → Bool
may_be_of_sign one = nat_le 128 one.byte || one.counts == 226

no_sign_ends : (before : List SeenByte) (one : SeenByte) → may_be_of_sign one ≡ false → ends_sign before one ≡ false
no_sign_ends before one none = go (one.size == 0)
  where
    go : (alone : Bool) → (if alone then is_continuation one.byte && not (begins_letter (first_byte before)) else one.counts == 226) ≡ false
    go true =
        ap (λ b. (b && nat_le one.byte 191) && not (begins_letter (first_byte before))) (or_parts (nat_le 128 one.byte) (one.counts == 226) none).0
    go false = (or_parts (nat_le 128 one.byte) (one.counts == 226) none).1

settled_same : (before : List SeenByte) (one : SeenByte) (text : List ℕ) → (one.byte ≡ 58 → ⊥) → (one.counts ≡ 39 → ⊥) → may_be_of_sign one ≡ false
    → one ≡ settled before one text
unfolding settled
settled_same before one text no_colon no_quote no_sign =
    sym (ap (λ is. if is && begins_path text then record one { is_edge = not (ends_with_drive before || ends_with_file before) }
    else if is_apostrophe before one text then record one { counts = 226; is_edge = false }
    else if is_before_root before one text then record one { is_edge = true } else one) (ne_eqb one.byte 58 no_colon)
    ∙ ap (λ is. if is && is_in_word (drop (one.size - 1) before) text then record one { counts = 226; is_edge = false }
    else if is_before_root before one text then record one { is_edge = true } else one)
    (ne_eqb one.counts 39 no_quote)
    ∙ ap (λ is. if (begins_drive text || begins_file text) && is then record one { is_edge = true } else one) (no_sign_ends before one no_sign)
    ∙ ap (λ is. if is then record one { is_edge = true } else one) (and-false (begins_drive text || begins_file text)))

-- what the loop has at byte i, and before it
pub front_is : (line : List ℕ) (seen now : List SeenByte) (i : ℕ) → i < length seen → now ≡ settled_to line seen (i + 1) → take i now ≡ take i seen
front_is line seen now i here is =
    ap (take i) (is ∙ parted line seen i here)
    ∙ take_at (take i seen) (get_or seen i no_byte ∷ settled_from (reverse (take (i + 1) seen)) (drop (i + 1) line) (drop (i + 1) seen)) i
    (length-take-le i seen (omega arith))

pub this_is : (line : List ℕ) (seen now : List SeenByte) (i : ℕ) → i < length seen → now ≡ settled_to line seen (i + 1)
    → get_or now i no_byte ≡ get_or seen i no_byte
this_is line seen now i here is =
    ap (λ l. get_or l i no_byte) (is ∙ parted line seen i here)
    ∙ get_or_at (take i seen) (get_or seen i no_byte) (settled_from (reverse (take (i + 1) seen)) (drop (i + 1) line) (drop (i + 1) seen)) no_byte i
    (length-take-le i seen (omega arith))

-- the loop settles byte i
pub settles : (line : List ℕ) (seen now : List SeenByte) (i : ℕ) (one : SeenByte) → i < length seen → now ≡ settled_to line seen (i + 1)
    → one ≡ settled (reverse (take i now)) (get_or now i no_byte) (drop (i + 1) line) → set now i one ≡ settled_to line seen i
settles line seen now i one here is settled_is =
    ap (λ l. set l i one) (is ∙ parted line seen i here)
    ∙ set_at (take i seen) (get_or seen i no_byte) (settled_from (reverse (take (i + 1) seen)) (drop (i + 1) line) (drop (i + 1) seen)) one i
    (length-take-le i seen (omega arith))
    ∙ one_more line seen i one here
    (settled_is ∙ ap (λ l. settled (reverse l) (get_or now i no_byte) (drop (i + 1) line)) (front_is line seen now i here is)
    ∙ ap (λ o. settled (reverse (take i seen)) o (drop (i + 1) line)) (this_is line seen now i here is))

-- the loop leaves byte i
pub leaves : (line : List ℕ) (seen now : List SeenByte) (i : ℕ) → i < length seen → now ≡ settled_to line seen (i + 1)
    → ((get_or now i no_byte).byte ≡ 58 → ⊥) → ((get_or now i no_byte).counts ≡ 39 → ⊥) → may_be_of_sign (get_or now i no_byte) ≡ false
    → now ≡ settled_to line seen i
leaves line seen now i here is no_colon no_quote no_sign =
    let this = this_is line seen now i here is in
    is ∙ parted line seen i here
    ∙ one_more line seen i (get_or seen i no_byte) here
    (settled_same (reverse (take i seen)) (get_or seen i no_byte) (drop (i + 1) line) (λ e. no_colon (ap (λ (o : SeenByte). o.byte) this ∙ e))
    (λ e. no_quote (ap (λ (o : SeenByte). o.counts) this ∙ e)) (sym (ap may_be_of_sign this) ∙ no_sign))

-- The bytes that are owned from a position on, one character after another.
use Rattle.std.proofs.Common.{◌≡◌, ◌<◌, ◌≤◌, ◌+◌, ℕ, Bool, true, false, cond, List, [], ◌∷◌, length, Option, Some, None, inl, inr, refl, sym, ap, ◌∙◌, arith}
use Rattle.std.specs.Prelude.{IfSome, encode_utf8, slice_index}
use Rattle.std.proofs.lemmas.Bool.Decides.{nat_tests}
use Rattle.std.proofs.lemmas.Str.{length-encode}
use Rattle.smap_index.proofs.PositionLaws.{at_or_before}
use Rattle.smap_mappings.specs.Order.{IsAtOrBefore}
use Rattle.smap_mappings.specs.Range.{position_at}
use Rattle.smap_mappings.specs.declared.mapping.Mapping.{Mapping}
use Rattle.smap_text.specs.Lines.{is_line_end}
use Rattle.smap_text.specs.Units.{units_of}
use Rattle.smap_fit.specs.Owners.{bytes_if, column_after, ends_line, is_same_owner, line_after, owned_bytes, owner_of}
use Rattle.smap_fit.specs.Private.Counts.{counts_after, unmapped_after}
use Rattle.smap_fit.specs.Private.Left.{OwnsAlike}
use Rattle.smap_fit.proofs.CountedLaws.{one_count}

-- the next character stands behind one
later : (ends : Bool) (line column units : ℕ) → IsAtOrBefore (position_at line column) (position_at (cond ends (line + 1) line) (cond ends 0 (column + units)))
later true line column units = inl (omega arith)
later false line column units = inr (refl, omega arith)

pub behind : (line column c : ℕ) (cs : List ℕ) → IsAtOrBefore (position_at line column) (position_at (line_after line c cs) (column_after column c cs))
behind line column c cs = later (ends_line c cs) line column (units_of c)

-- lists that own alike from a position on own the same bytes from there on
pub same_bytes : (owner : Option ℕ) (line column : ℕ) (a b : List Mapping) (cs : List ℕ) → OwnsAlike line column a b
    → owned_bytes owner a line column cs ≡ owned_bytes owner b line column cs
unfolding owned_bytes
same_bytes owner line column a b [] alike = refl
same_bytes owner line column a b (c ∷ cs) alike =
    let here : owner_of a line column c ≡ owner_of b line column c =
    ap (λ o. cond (is_line_end c) None o) (alike line column (inr (refl, omega arith))) in
    let rest = same_bytes owner (line_after line c cs) (column_after column c cs) a b cs
    (λ l k past. alike l k (at_or_before (position_at line column) (position_at (line_after line c cs) (column_after column c cs)) (position_at l k) (behind line column c cs) past)) in
    ap (λ o. bytes_if (is_same_owner o owner) c + owned_bytes owner a (line_after line c cs) (column_after column c cs) cs) here
    ∙ ap (λ n. bytes_if (is_same_owner (owner_of b line column c) owner) c + n) rest

pub first_bytes : (owner : Option ℕ) (list : List Mapping) (line column c : ℕ) (cs : List ℕ)
    → owned_bytes owner list line column (c ∷ cs) ≡ bytes_if (is_same_owner (owner_of list line column c) owner) c
    + owned_bytes owner list (line_after line c cs) (column_after column c cs) cs
unfolding owned_bytes
first_bytes owner list line column c cs = refl

pub no_bytes : (owner : Option ℕ) (list : List Mapping) (line column : ℕ) → owned_bytes owner list line column [] ≡ 0
unfolding owned_bytes
no_bytes owner list line column = refl

-- what a character adds for a source, and for none
adds : (owner : Option ℕ) (counts : List ℕ) (c s : ℕ) → IfSome owner (λ t. t < length counts)
    → slice_index (counts_after counts owner (length (encode_utf8 c))) s ≡ slice_index counts s + bytes_if (is_same_owner owner (Some s)) c
adds None counts c s within = omega arith
adds (Some t) counts c s within = one_count counts t (length (encode_utf8 c)) s within

adds_none : (owner : Option ℕ) (unmapped c : ℕ) → unmapped_after unmapped owner (length (encode_utf8 c)) ≡ unmapped + bytes_if (is_same_owner owner None) c
adds_none None unmapped c = refl
adds_none (Some t) unmapped c = omega arith

-- what was counted and what is left stay the same in all
pub each_after : (old new : List Mapping) (line column c s : ℕ) (cs text counts : List ℕ) (owner : Option ℕ) (bytes all : ℕ)
    → OwnsAlike line column old new → text ≡ c ∷ cs → owner ≡ owner_of new line column c → IfSome owner (λ t. t < length counts) → bytes ≡ length (encode_utf8 c)
    → slice_index counts s + owned_bytes (Some s) old line column text ≡ all
    → slice_index (counts_after counts owner bytes) s + owned_bytes (Some s) new (line_after line c cs) (column_after column c cs) cs ≡ all
each_after old new line column c s cs text counts owner bytes all alike is_text is_owner within is_bytes so_far =
    let whole = same_bytes (Some s) line column old new text alike
    ∙ ap (owned_bytes (Some s) new line column) is_text ∙ first_bytes (Some s) new line column c cs
    ∙ ap (λ o. bytes_if (is_same_owner o (Some s)) c + owned_bytes (Some s) new (line_after line c cs) (column_after column c cs) cs) (sym is_owner) in
    let more = ap (λ n. slice_index (counts_after counts owner n) s) is_bytes ∙ adds owner counts c s within in
    omega (arith, whole, more, so_far)

pub none_after : (old new : List Mapping) (line column c : ℕ) (cs text : List ℕ) (owner : Option ℕ) (unmapped bytes all : ℕ)
    → OwnsAlike line column old new → text ≡ c ∷ cs → owner ≡ owner_of new line column c → bytes ≡ length (encode_utf8 c)
    → unmapped + owned_bytes None old line column text ≡ all
    → unmapped_after unmapped owner bytes + owned_bytes None new (line_after line c cs) (column_after column c cs) cs ≡ all
none_after old new line column c cs text owner unmapped bytes all alike is_text is_owner is_bytes so_far =
    let whole = same_bytes None line column old new text alike
    ∙ ap (owned_bytes None new line column) is_text ∙ first_bytes None new line column c cs
    ∙ ap (λ o. bytes_if (is_same_owner o None) c + owned_bytes None new (line_after line c cs) (column_after column c cs) cs) (sym is_owner) in
    let more = ap (λ n. unmapped_after unmapped owner n) is_bytes ∙ adds_none owner unmapped c in
    omega (arith, whole, more, so_far)

-- ---- how far places go

line_with : (ends : Bool) (line bytes : ℕ) → 0 < bytes → cond ends (line + 1) line ≤ line + bytes
line_with true line bytes some = omega arith
line_with false line bytes some = omega arith

column_with : (ends : Bool) (column units bytes : ℕ) → units ≤ bytes → cond ends 0 (column + units) ≤ column + bytes
column_with true column units bytes few = omega arith
column_with false column units bytes few = omega arith

pub line_within : (line c : ℕ) (cs : List ℕ) (bytes : ℕ) → 0 < bytes → line_after line c cs ≤ line + bytes
line_within line c cs bytes some = line_with (ends_line c cs) line bytes some

pub column_within : (column c : ℕ) (cs : List ℕ) → column_after column c cs ≤ column + length (encode_utf8 c)
column_within column c cs = column_with (ends_line c cs) column (units_of c) (length (encode_utf8 c)) few
  where
    few : units_of c ≤ length (encode_utf8 c)
    few = rw (length-encode c) (grind (arith, nat_tests))

pub none_long : (xs : List ℕ) → length xs ≡ 0 → xs ≡ []
none_long [] none = refl
none_long (x ∷ xs) none = absurd (omega arith)

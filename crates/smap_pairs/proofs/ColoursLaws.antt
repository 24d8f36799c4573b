-- A colour, byte by byte.
use Rattle.std.proofs.Common.{◌≡◌, ℕ, zero, suc, ◌+◌, ◌-◌, ◌<◌, true, false, nat_eq, List, [], ◌∷◌, Some, None, refl, ap, ◌∙◌, arith, if◌then◌else◌}
use Rattle.smap_pairs.specs.Colours.{colour_from, is_parameter}

pub none_left : (size : ℕ) (text : List ℕ) → colour_from size 0 text ≡ None
unfolding colour_from
none_left size text = refl

pub text_ends : (size many : ℕ) → colour_from size many [] ≡ None
unfolding colour_from
text_ends size zero = refl
text_ends size (suc many) = refl

pub colour_ends : (size many : ℕ) (text : List ℕ) → 0 < many → colour_from size many (109 ∷ text) ≡ Some (size + 1)
unfolding colour_from
colour_ends size zero text some = absurd (omega arith)
colour_ends size (suc many) text some = refl

pub goes_on : (size many byte : ℕ) (text : List ℕ) → 0 < many → nat_eq byte 109 ≡ false → is_parameter byte ≡ true
    → colour_from size many (byte ∷ text) ≡ colour_from (size + 1) (many - 1) text
unfolding colour_from
goes_on size zero byte text some other on = absurd (omega arith)
goes_on size (suc many) byte text some other on =
    ap (λ is. if is then Some (size + 1) else if is_parameter byte then colour_from (size + 1) many text else None) other
    ∙ ap (λ is. if is then colour_from (size + 1) many text else None) on ∙ ap (λ n. colour_from (size + 1) n text) (omega arith)

pub breaks_off : (size many byte : ℕ) (text : List ℕ) → nat_eq byte 109 ≡ false → is_parameter byte ≡ false → colour_from size many (byte ∷ text) ≡ None
unfolding colour_from
breaks_off size zero byte text other off = refl
breaks_off size (suc many) byte text other off =
    ap (λ is. if is then Some (size + 1) else if is_parameter byte then colour_from (size + 1) many text else None) other
    ∙ ap (λ is. if is then colour_from (size + 1) many text else None) off

pub ruleset colour_steps = (none_left, text_ends, colour_ends, goes_on, breaks_off)

-- Laws of how often URLs stand in a line, of one argument after another.
use Rattle.std.proofs.Common.{◌≡◌, ◌+◌, ◌<◌, ℕ, List, ◌∷◌, ap, arith, drop, get_or, length, map, suc, sym, add-one, drop-cons, ◌∙◌}
use Rattle.smap_anywhere.specs.Counted.{mentions_in, mentions_of}
use Rattle.smap_trace.specs.UrlNotes.{as_counted}

counted_both : (count one rest : ℕ) → as_counted (as_counted (count + one) + rest) ≡ as_counted (count + (one + rest))
counted_both count one rest = grind arith

pub counted_once : (n : ℕ) → as_counted (as_counted n) ≡ as_counted n
counted_once n = grind arith

pub mentions_next : (line : List ℕ) (all left : List (List ℕ × List ℕ)) (argument : List ℕ × List ℕ) (count new whole : ℕ) → all ≡ argument ∷ left
    → new ≡ as_counted (count + mentions_of line argument) → as_counted (count + mentions_in all line) ≡ whole
    → as_counted (new + mentions_in left line) ≡ whole
mentions_next line all left argument count new whole is is_new so_far =
    ap (λ n. as_counted (n + mentions_in left line)) is_new ∙ counted_both count (mentions_of line argument) (mentions_in left line)
    ∙ ap (λ l. as_counted (count + mentions_in l line)) (sym is) ∙ so_far

-- what is left of pairs from a place on
pub pairs_left : {W A : Type 0} (of : W → A) (items : List W) (i : ℕ) (item : W) → i < length items → item ≡ get_or items i item
    → map of (drop i items) ≡ of item ∷ map of (drop (i + 1) items)
pairs_left of items i item less is =
    let here : drop i items ≡ item ∷ drop (i + 1) items = rw (add-one) (drop-cons items i item less ∙ ap (λ first. first ∷ drop (suc i) items) (sym is)) in
    ap (map of) here

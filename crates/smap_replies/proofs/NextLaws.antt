-- What is left of a list from a place on.
use Rattle.std.proofs.Common.{◌≡◌, ℕ, ◌+◌, ◌<◌, List, ◌∷◌, add-one, ap, drop, drop-cons, get_or, length, map, suc, sym, ◌∙◌}

pub item_at : {W : Type 0} (items : List W) (i : ℕ) (item : W) → i < length items → item ≡ get_or items i item
    → drop i items ≡ item ∷ drop (i + 1) items
item_at items i item less is = rw (add-one) (drop-cons items i item less ∙ ap (λ first. first ∷ drop (suc i) items) (sym is))

pub next_of : {W A : Type 0} (of : W → A) (items : List W) (i : ℕ) (item : W) → i < length items → item ≡ get_or items i item
    → map of (drop i items) ≡ of item ∷ map of (drop (i + 1) items)
next_of of items i item less is = ap (map of) (item_at items i item less is)

-- A text that grows.
use Rattle.std.specs.Prelude.{◌≡◌, true, is_ok, ℕ, List, [], ◌++◌}
use Rattle.std.proofs.Common.{sym, ap, ◌∙◌, append_assoc, append-nil}
use Rattle.smap_printing.specs.declared.growing_text.GrowingText.{GrowingText}

-- where memory has not run out, these bytes stand after those before
abbrev pub Grows : (old new : GrowingText) → List ℕ → Type 0
Grows old new bytes = is_ok new.done ≡ true → (is_ok old.done ≡ true) × (new.bytes.items ≡ old.bytes.items ++ bytes)

pub grows_none : (text : GrowingText) → Grows text text []
grows_none text works = (works, sym (append-nil text.bytes.items))

pub grows_both : (old mid new : GrowingText) (first second : List ℕ) → Grows old mid first → Grows mid new second → Grows old new (first ++ second)
grows_both old mid new first second one two works =
    let (mid_works, more) = two works in
    let (old_works, some) = one mid_works in
    (old_works, more ∙ ap (λ l. l ++ second) some ∙ append_assoc old.bytes.items first second)

-- Laws of the first bytes of a text.
use Rattle.std.specs.Prelude.{◌≡◌, ◌≤◌, ◌<◌, ◌+◌, ◌++◌, ℕ, List, [], ◌∷◌, length, take}
use Rattle.std.proofs.Common.{ap, append_assoc, arith, get_or, refl, suc, sym, zero, ◌∙◌}
use Rattle.std.proofs.lemmas.List.{append-nil, length-take, take_all, take_at, take_more}
use Rattle.smap_trace.specs.TextNote.{opening_with}

-- what is kept of what was kept and of more is what is kept of both
kept_of_kept : (n : ℕ) (front more : List ℕ) → take n (take n front ++ more) ≡ take n (front ++ more)
kept_of_kept zero front more = refl
kept_of_kept (suc n) [] more = refl
kept_of_kept (suc n) (byte ∷ front) more = ap (λ l. byte ∷ l) (kept_of_kept n front more)

pub opening_both : (opening more rest : List ℕ) → opening_with (opening_with opening more) rest ≡ opening_with opening (more ++ rest)
opening_both opening more rest = kept_of_kept 6 (opening ++ more) rest ∙ ap (take 6) (append_assoc opening more rest)

-- nothing more
pub opening_none : (bytes : List ℕ) (len : ℕ) → len ≤ 6 → take len bytes ≡ opening_with (take len bytes) []
opening_none bytes len few =
    let long : length (take len bytes) ≤ 6 = (let is = length-take len bytes in grind (arith, is, few)) in
    sym (ap (take 6) (append-nil (take len bytes)) ∙ take_all 6 (take len bytes) long)

-- nor is there room
pub opening_full : (bytes : List ℕ) (len : ℕ) (more : List ℕ) → length bytes ≡ 6 → 6 ≤ len → take len bytes ≡ opening_with (take len bytes) more
opening_full bytes len more six full =
    let long : length (take len bytes) ≡ 6 = (let is = length-take len bytes in grind (arith, is, six, full)) in
    sym (take_at (take len bytes) more 6 long)

-- the next byte
pub opening_next : (opening : List ℕ) (new : List ℕ) (more : List ℕ) (i d : ℕ) → i < length more
    → new ≡ opening_with (opening_with opening (take i more)) (get_or more i d ∷ []) → new ≡ opening_with opening (take (i + 1) more)
opening_next opening new more i d within is =
    is ∙ opening_both opening (take i more) (get_or more i d ∷ []) ∙ ap (opening_with opening) (sym (take_more more i d within))

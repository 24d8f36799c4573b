use Rattle.std.proofs.Common.{◌≡◌, ◌+◌, ◌≤◌, ℕ, List, ◌++◌, length, take, ap, sym, ◌∙◌, arith, append_assoc, length-append, length-take-le}
use Rattle.std.proofs.lemmas.List.{take-take, take_at}
use Rattle.smap_lines.proofs.gathered.Gathered.hold.Goals as goal

-- the bytes stand after the first `len` of the room
held : (len all : ℕ) (room bytes after more : List ℕ) → len ≤ length room → len + length bytes ≤ all →
    take (len + length bytes) (take all ((take len room ++ (bytes ++ after)) ++ more)) ≡ take len room ++ bytes
held len all room bytes after more within fits =
    let size : length (take len room ++ bytes) ≡ len + length bytes = omega (arith, length-append (take len room) bytes, length-take-le len room within) in
    take-take (len + length bytes) all _ fits
    ∙ ap (take (len + length bytes)) (ap (λ l. l ++ more) (sym (append_assoc (take len room) bytes after)) ∙ append_assoc (take len room ++ bytes) after more)
    ∙ take_at (take len room ++ bytes) (after ++ more) (len + length bytes) size

pub returns : goal.returns
returns c =
    let room = c.deref_mut.result.now in
    let whole : length c.self.inside.room.items ≡ 65536 = c.self.invariant.1 in
    let size : length c.args.self.now ≡ c.self.inside.len =
    ap length (sym c.self.view_is) ∙ length-take-le c.self.inside.len _ (omega (arith, c.self.invariant)) in
    let same = ap length c.deref_mut.ensures.value in
    rw c.copy_from_slice.ensures.after
    (held c.self.inside.len c.self.inside.room.len room c.args.bytes.now _ _
    (omega (arith, same, whole, c.self.invariant)) (omega (arith, whole, size, c.self.invariant, c.requires, c.self.inside.room.ok.0))
    ∙ ap (λ l. l ++ c.args.bytes.now) (ap (take c.self.inside.len) c.deref_mut.ensures.value ∙ c.self.view_is))

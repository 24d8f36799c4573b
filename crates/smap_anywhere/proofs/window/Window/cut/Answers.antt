use Rattle.std.proofs.Common.{◌≡◌, ◌+◌, ◌-◌, ◌≤◌, ℕ, List, ap, arith, sym, ◌∙◌, length, take, drop, length-drop, length-take-le}
use Rattle.std.proofs.Math.Seq.{paste}
use Rattle.std.proofs.lemmas.List.{drop-take}
use Rattle.std.proofs.lemmas.List.Edits.{length-paste, take-paste}
use Rattle.smap_anywhere.specs.Private.Window.{WindowState}
use Rattle.smap_anywhere.proofs.window.Window.cut.Goals as goal

kept : (room : List ℕ) (len count : ℕ) → len ≤ length room → count ≤ len
    → take (len - count) (paste room 0 (drop count room) (len - count)) ≡ drop count (take len room)
kept room len count within few =
    let zero : len - count ≡ 0 + (len - count) = omega arith in
    let back : count + (len - count) ≡ len = omega (arith, few) in
    ap (λ n. take n (paste room 0 (drop count room) (len - count))) zero
    ∙ take-paste room 0 (drop count room) (len - count) (omega arith) (omega (arith, length-drop count room, within, few))
    ∙ sym (drop-take count (len - count) room) ∙ ap (λ n. drop count (take n room)) back

as_long : (room : List ℕ) (len count : ℕ) → len ≤ length room → count ≤ len → length (paste room 0 (drop count room) (len - count)) ≡ length room
as_long room len count within few =
    length-paste room 0 (drop count room) (len - count) (omega (arith, within)) (omega (arith, length-drop count room, within, few))

pub returns : goal.returns
returns c =
    let few : c.args.count ≤ c.self.inside.len =
    omega (
      arith,
      c.requires,
      ap (λ (s : WindowState). length s.bytes) c.self.view_is,
      length-take-le c.self.inside.len c.self.inside.room.items c.self.invariant,
    ) in
    let bytes = ap (take (c.self.inside.len - c.args.count)) c.copy_within.ensures.items
    ∙ kept c.self.inside.room.items c.self.inside.len c.args.count c.self.invariant few
    ∙ ap (λ (s : WindowState). drop c.args.count s.bytes) c.self.view_is in
    let size = ap length c.copy_within.ensures.items ∙ as_long c.self.inside.room.items c.self.inside.len c.args.count c.self.invariant few
    ∙ ap (λ (s : WindowState). s.size) c.self.view_is in
    λ i. record { bytes = bytes i; size = size i }

use Rattle.std.proofs.Common.{◌≡◌, ◌+◌, ◌-◌, ◌≤◌, ℕ, List, ◌++◌, ap, arith, sym, ◌∙◌, length, take, drop, length-append, length-drop, length-take-le}
use Rattle.std.proofs.Math.Seq.{take-append-add}
use Rattle.std.proofs.lemmas.List.{take-append-le, with_items_is}
use borrow.Rule.Slice.PartMut.{post_of}
use Rattle.smap_anywhere.specs.Private.Window.{WindowState}
use Rattle.smap_anywhere.proofs.window.Window.read.Goals as goal

grown : (len count : ℕ) (room new post : List ℕ) → len ≤ length room → count ≤ length new →
    take (len + count) (take len room ++ (new ++ post)) ≡ take len room ++ take count new
grown len count room new post within few =
    ap (λ n. take (n + count) (take len room ++ (new ++ post))) (sym (length-take-le len room within))
    ∙ take-append-add (take len room) (new ++ post) count ∙ ap (λ l. take len room ++ l) (take-append-le count new post few)

as_long : (len : ℕ) (room new : List ℕ) → len ≤ length room → length new ≡ length room - len →
    length (take len room ++ (new ++ post_of len (length room - len) room)) ≡ length room
as_long len room new within size =
    omega (
      arith,
      within,
      size,
      length-append (take len room) (new ++ post_of len (length room - len) room),
      length-append new (post_of len (length room - len) room),
      length-take-le len room within,
      length-drop (length room - len) (drop len room),
      length-drop len room,
    )

pub returns-clause-gives : goal.returns-clause-gives
returns-clause-gives g c =
    let within : c.self.inside.len ≤ length c.deref_mut.result.now = omega (arith, c.self.invariant, ap length c.deref_mut.ensures.value) in
    let post = post_of c.self.inside.len (length c.deref_mut.result.now - c.self.inside.len) c.deref_mut.result.now in
    let items = take c.self.inside.len c.deref_mut.result.now ++ (c.read.new.room ++ post) in
    let same : length c.read.new.room ≡ length c.deref_mut.result.now - c.self.inside.len = omega (arith, c.read.auto.room) in
    let long = as_long c.self.inside.len c.deref_mut.result.now c.read.new.room within same in
    let whole = with_items_is c.self.inside.room items (omega (arith, long, ap length c.deref_mut.ensures.value, c.self.inside.room.ok.0)) in
    let bytes = ap (take (c.self.inside.len + c.in_ok-count.count)) whole
    ∙ grown c.self.inside.len c.in_ok-count.count c.deref_mut.result.now c.read.new.room post within c.in_ok-count.ensures.fits
    ∙ ap (λ l. take c.self.inside.len l ++ take c.in_ok-count.count c.read.new.room) c.deref_mut.ensures.value
    ∙ ap (λ (s : WindowState). s.bytes ++ take c.in_ok-count.count c.read.new.room) c.self.view_is in
    let size = ap length whole ∙ long ∙ ap length c.deref_mut.ensures.value
    ∙ ap (λ (s : WindowState). s.size) c.self.view_is in
    record {
      more = take c.in_ok-count.count c.read.new.room;
      given = c.in_ok-count.ensures.gives;
      counted = length-take-le c.in_ok-count.count c.read.new.room c.in_ok-count.ensures.fits;
      is = λ i. record { bytes = bytes i; size = size i };
    }

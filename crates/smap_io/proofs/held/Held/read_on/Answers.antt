use Rattle.std.proofs.Common.{◌≡◌, ◌∙◌, ◌-◌, ◌++◌, ◌<◌, ap, arith, length, length-append, length-drop, length-take, rules, slice_range, take}
use Rattle.std.proofs.lemmas.Grind.{common_steps}
use Rattle.smap_io.proofs.KeptLaws.{front_is, more_or_end, read_behind}
use Rattle.smap_io.proofs.held.Held.read_on.Goals as goal

pub returns-clause-more : goal.returns-clause-more
returns-clause-more g c =
    let inside = c.self.inside in
    let count = inside.end - inside.start in
    let held = slice_range inside.room inside.start inside.end in
    let first : c.copy_from_slice.new.self ≡ held = c.copy_from_slice.ensures.after in
    let size : length c.copy_from_slice.new.self ≡ count = first_of (search rules, grind (arith, common_steps)) in
    let second : c.copy_from_slice-2.new.self ≡ c.copy_from_slice.new.self =
    c.copy_from_slice-2.ensures.after ∙ front_is c.copy_from_slice.new.self _ count size in
    let second_size : length c.copy_from_slice-2.new.self ≡ count = ap length second ∙ size in
    let some : 0 < length c.read.new.room = first_of (search rules, grind (arith, common_steps), omega (arith, simp (length-take, length-drop, length-append) at c.read.auto.room, second_size, c.requires.few)) in
    let at = read_behind c.copy_from_slice-2.new.self _ c.read.new.room _ count c.in_ok-more.more second_size c.in_ok-more.ensures.fits in (
      take c.in_ok-more.more c.read.new.room,
      c.in_ok-more.ensures.gives,
      at ∙ ap (λ l. l ++ take c.in_ok-more.more c.read.new.room) (second ∙ (first ∙ c.self.view_is)),
      more_or_end c.in_ok-more.more c.read.new.room _ c.in_ok-more.ensures.fits (λ none. c.in_ok-more.ensures.ends none some),
    )

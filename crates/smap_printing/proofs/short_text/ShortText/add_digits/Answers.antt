use Rattle.std.proofs.Common.{◌≡◌, ◌+◌, ◌≤◌, ℕ, List, length, take, decimal, sym, ap, arith}
use Rattle.std.proofs.lemmas.Fmt.{length-decimal-le}
use Rattle.std.proofs.lemmas.List.{length-take}
use Rattle.smap_printing.proofs.ShortTextLaws.{written_behind}
use Rattle.smap_printing.proofs.short_text.ShortText.add_digits.Goals as goal

-- a text is as long as what it takes of its room
long : (room text : List ℕ) (count : ℕ) → take count room ≡ text → count ≤ length room → length text ≡ count
long room text count is within = omega (arith, ap length is, length-take count room)

pub overflow_add-end : goal.overflow_add-end
overflow_add-end c =
    omega (arith, c.requires.digits, length-decimal-le 20 c.args.number (omega arith) (omega arith) (omega arith))

pub write_digits-requires : goal.write_digits-requires
write_digits-requires c =
    let few = length-decimal-le 20 c.args.number (omega arith) (omega arith) (omega arith) in
    let text = long c.self.inside.bytes c.args.self.now c.self.inside.length c.self.view_is (omega (arith, c.self.told, c.self.invariant)) in
    (omega (arith, c.requires.digits), omega (arith, few, text, c.requires.digits, c.requires.room, c.self.told))

pub returns : goal.returns
returns c =
    let start : c.write_digits.result ≡ c.self.inside.length = omega (arith, c.write_digits.ensures.start, c.requires.digits) in
    let before = rw start at c.write_digits.ensures.before in
    let written = rw start at c.write_digits.ensures.written in
    rw (← c.self.view_is) (written_behind c.self.inside.bytes c.write_digits.new.buf (decimal c.args.number) c.self.inside.length _
    (omega (arith, c.self.told, c.self.invariant)) (ap (λ n. c.self.inside.length + n) (sym c.requires.digits)) before written)

use Rattle.std.proofs.Common.{◌≡◌, ◌∷◌, ap, arith, length, sym, ◌∙◌}
use Rattle.std.specs.Str.{chars}
use Rattle.std.specs.Str.Iter.{chars_rest}
use Rattle.std.proofs.lemmas.List.{nil_from_length}
use Rattle.std.proofs.lemmas.Str.{chars-nil, chars_past_char}
use Rattle.smap_fit.proofs.characters.split_character.Goals as goal

pub returns-in-Some-clause-chars : goal.returns-in-Some-clause-chars
returns-in-Some-clause-chars c =
    chars_past_char c.args.text.now (chars_rest c.next.new.self) c.in-Some.first c.utf8.text
    (sym c.chars-characters.ensures.rest ∙ c.in-Some.ensures.steps.0)
    ∙ ap (λ t. c.in-Some.first ∷ chars t) (sym c.as_str.ensures)

pub returns-in-None-clause-chars : goal.returns-in-None-clause-chars
returns-in-None-clause-chars c =
    let none : length c.args.text.now ≡ 0 = omega (arith, c.in-None.ensures.steps.0.0, ap length c.chars-characters.ensures.rest) in
    ap chars (nil_from_length c.args.text.now none) ∙ chars-nil

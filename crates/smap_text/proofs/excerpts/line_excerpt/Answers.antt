use Rattle.std.proofs.Common.{Some, ap, sym, ◌∙◌}
use Rattle.std.specs.Option.{option_map}
use Rattle.std.specs.Str.{chars, encode_utf8_all}
use Rattle.smap_text.specs.Excerpt.{excerpt_text}
use Rattle.smap_text.proofs.PlaceLaws.{before_past, before_place}
use Rattle.smap_text.proofs.excerpts.line_excerpt.Goals as goal

pub returns-in-Past : goal.returns-in-Past
returns-in-Past c = rw (before_past c.args.line.now c.args.column c.in-Past.field-0 c.in-Past.ensures)

pub returns-in_ok-excerpt_text-in-At : goal.returns-in_ok-excerpt_text-in-At
returns-in_ok-excerpt_text-in-At c =
    ap Some c.in_ok-excerpt_text-in-At.ensures
    ∙ ap (option_map (λ number. encode_utf8_all (excerpt_text (chars c.args.line.now) number)))
    (sym (before_place c.args.line.now c.args.column c.in-At.byte c.unit_place.result c.utf8.line c.unit_place.ensures c.in-At.is))

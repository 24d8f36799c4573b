use Rattle.std.proofs.Common.{◌≡◌, ◌∙◌, List, Some, ap, inr, is_some, sym, ℕ}
use Rattle.std.specs.Borrow.{Bor}
use Rattle.std.specs.Prelude.{option_map, string_bytes}
use Rattle.smap_arguments.specs.Excludes.{excluded_line}
use Rattle.smap_arguments.proofs.rewrite.rewrite_in.Goals as goal

pub returns-in-Some-clause-refused : goal.returns-in-Some-clause-refused
returns-in-Some-clause-refused c =
    let maps = c.in_ok-maps.maps.items in
    let hide_ignored = c.flag_in-hide_ignored.result in
    let options = c.in_ok-options.options in
    let of_maps = rw (c.deref.ensures.value, c.is_some.ensures) at c.excluded_line.ensures in
    let line : excluded_line maps (is_some c.args.base) hide_ignored options ≡ Some (string_bytes c.in_ok-from_str.field-0) =
    sym of_maps ∙ (ap (option_map (λ (s : Bor (List ℕ)). s.now)) c.in-Some.is ∙ ap (λ text. Some text) (sym c.in_ok-from_str.ensures.ok)) in
    inr (inr (
      maps,
      c.args.base,
      hide_ignored,
      options,
      (c.in_ok-maps.ensures.given, c.in_ok-maps.ensures.some),
      c.requires.given,
      c.flag_in-hide_ignored.ensures,
      c.in_ok-options.ensures.given,
      line,
    ))

use Rattle.std.proofs.Common.{◌≡◌, ◌∙◌, ◌-◌, ap, arith, subst, sym, take}
use Rattle.std.specs.Prelude.{List, ℕ}
use Rattle.serde_json.specs.Data.{string}
use Rattle.serde_json.specs.Written.{compact_text}
use Rattle.std.proofs.lemmas.Str.{encodes-chars}
use Rattle.smap_text.specs.ShownLine.{shown_bytes}
use Rattle.smap_printing.proofs.context_form.put_line.Goals as goal

pub returns : goal.returns
returns g c =
    let all : c.shown_bytes.result - 0 ≡ c.shown_bytes.result = omega arith in
    let value : c.range.result.now ≡ take c.shown_bytes.result c.args.line.now = c.range.ensures.value ∙ ap (λ n. take n c.args.line.now) all in
    let shown = rw (value, c.shown_bytes.ensures.bytes) at c.put_json_text.ensures in
    subst (λ (bytes : List ℕ). g.O.Output.Puts c.args.output.now c.put_json_text.new.output (compact_text (string (take (shown_bytes bytes) bytes))))
    (sym (encodes-chars c.args.line.now c.utf8.line)) shown

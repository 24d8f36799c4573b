use Rattle.std.proofs.Common.{◌&&◌, ◌||◌, ap, option_map, string_bytes, ◌∙◌}
use Rattle.smap_trace.specs.Hiding.{has_text}
use Rattle.smap_trace.proofs.HidingLaws.{any_map}
use Rattle.smap_trace.proofs.hiding.Hiding.hides.Goals as goal

pub returns : goal.returns
returns c =
    c.is_hidden.ensures
    ∙ ap (λ named. named || c.args.self.now.ignored && c.args.ignored)
    (c.has_any-named.ensures ∙ any_map (has_text (option_map (λ n. n.now) c.args.name)) string_bytes c.args.self.now.texts.now)

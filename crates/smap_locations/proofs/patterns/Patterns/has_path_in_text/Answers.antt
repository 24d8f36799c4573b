use Rattle.std.proofs.Common.{◌≡◌, ◌&&◌, ℕ, List, None, Option, is_some, option_map, ap, sym, ◌∙◌}
use Rattle.smap_locations.specs.Named.{Named}
use Rattle.smap_locations.specs.PatternSeen.{pattern_seen}
use Rattle.smap_locations.specs.Patterns.{deciding, has_path_in_text, path_by}
use Rattle.smap_locations.proofs.InTextLaws.{gives, in_text_is}
use Rattle.smap_locations.proofs.patterns.Patterns.has_path_in_text.Goals as goal

decided : (url short : List ℕ) (patterns : Named) (one : Option (List ℕ × List ℕ)) → one ≡ deciding url short None patterns
    → gives url short one ≡ has_path_in_text patterns url short
decided url short patterns one is = ap (gives url short) is ∙ sym (in_text_is url short patterns)

pub returns-then-is_for_texts : goal.returns-then-is_for_texts
returns-then-is_for_texts c =
    let url = c.args.url.now in
    let short = c.args.short.now in
    c.has_path.ensures
    ∙ ap (λ b. b && is_some (path_by (pattern_seen c.in-Some.pattern.now) short)) (sym c.if-is_for_texts.true ∙ c.is_for_texts.ensures)
    ∙ ap (λ one. gives url short (option_map (λ pattern. pattern_seen pattern.now) one)) (sym c.in-Some.is)
    ∙ decided url short c.args.self.now _ c.deciding.ensures

pub returns-else-is_for_texts : goal.returns-else-is_for_texts
returns-else-is_for_texts c =
    let url = c.args.url.now in
    let short = c.args.short.now in
    c.if-is_for_texts.false
    ∙ ap (λ b. b && is_some (path_by (pattern_seen c.in-Some.pattern.now) short)) (sym c.if-is_for_texts.false ∙ c.is_for_texts.ensures)
    ∙ ap (λ one. gives url short (option_map (λ pattern. pattern_seen pattern.now) one)) (sym c.in-Some.is)
    ∙ decided url short c.args.self.now _ c.deciding.ensures

pub returns-in-None : goal.returns-in-None
returns-in-None c =
    let url = c.args.url.now in
    let short = c.args.short.now in
    ap (λ one. gives url short (option_map (λ pattern. pattern_seen pattern.now) one)) (sym c.in-None.is)
    ∙ decided url short c.args.self.now _ c.deciding.ensures

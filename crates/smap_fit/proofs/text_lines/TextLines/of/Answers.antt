use Rattle.std.proofs.Common.{◌++◌, ap, arith, length, map, refl, ◌∙◌}
use Rattle.std.specs.Borrow.{Bor}
use Rattle.std.specs.Prelude.{ℕ, List, Option, option_copied}
use Rattle.std.specs.Str.{chars}
use Rattle.smap_text.specs.Lines.{lines_behind, lines_of}
use Rattle.smap_fit.specs.Lines.{lines_in}
use Rattle.smap_fit.specs.Private.Texts.{line_text}
use Rattle.smap_fit.proofs.ContentLaws.{cut_all, cut_next}
use Rattle.smap_fit.proofs.text_lines.TextLines.of.Goals as goal

pub loop-rest-init : goal.loop-rest-init
loop-rest-init c =
    ap (λ (l : List (Bor (List ℕ))). map line_text l ++ lines_of (chars c.code_of.result.now)) c.new-lines.ensures.items ∙ ap lines_of c.code_of.ensures.code

pub loop-rest-preserved : goal.loop-rest-preserved
loop-rest-preserved c =
    let behind = c.split_line.result.1 in
    let line = c.split_line.result.0 in
    let split = ap (λ (o : Option (Bor (List ℕ))). lines_behind (option_copied o)) c.in-Some.is ∙ c.split_line.ensures.lines in
    ap (λ (l : List (Bor (List ℕ))). map line_text l ++ lines_behind (option_copied behind)) c.in_ok-push.ensures.items
    ∙ cut_next line_text c.loop-rest.lines.items line (chars line.now) (lines_behind (option_copied c.loop-rest.rest)) (lines_behind (option_copied behind))
    (lines_in c.args.text.now) c.loop-rest.invariant split refl

pub loop-rest-smaller : goal.loop-rest-smaller
loop-rest-smaller c =
    let split = ap (λ (o : Option (Bor (List ℕ))). lines_behind (option_copied o)) c.in-Some.is ∙ c.split_line.ensures.lines in
    omega (arith, ap length split)

pub returns : goal.returns
returns c =
    cut_all line_text c.loop-rest.lines.items (lines_behind (option_copied c.loop-rest.rest)) (lines_in c.args.text.now) c.loop-rest.invariant
    (ap (λ (o : Option (Bor (List ℕ))). lines_behind (option_copied o)) c.in_default.is)

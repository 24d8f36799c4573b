use Rattle.std.proofs.Common.{◌≡◌, ◌∷◌, [], ◌++◌, ap, sym, ◌∙◌, subst}
use Rattle.std.proofs.lemmas.Bool.{ne_eqb}
use Rattle.smap_pairs.specs.Chunks.{IsInOneLine}
use Rattle.smap_anywhere.specs.ChunkParts.{line_of}
use Rattle.smap_anywhere.proofs.LineOfLaws.{few_of_whole, line_of_ended, line_of_whole}
use Rattle.smap_anywhere.proofs.chunk_line.line_of.Goals as goal

pub returns-then-byte-eq10-clause-line : goal.returns-then-byte-eq10-clause-line
returns-then-byte-eq10-clause-line c =
    let line = c.in-Some.line.now in
    let text : c.args.text.now ≡ line ++ 10 ∷ [] = c.in-Some.ensures.cases.0 ∙ ap (λ b. line ++ b ∷ []) c.if-byte-eq10.true in
    line_of_ended line (subst IsInOneLine text c.requires) ∙ ap line_of (sym text)

pub returns-else-byte-eq10-clause-line : goal.returns-else-byte-eq10-clause-line
returns-else-byte-eq10-clause-line c =
    let text : c.args.text.now ≡ c.in-Some.line.now ++ c.in-Some.byte.now ∷ [] = c.in-Some.ensures.cases.0 in
    text ∙ line_of_whole c.in-Some.line.now c.in-Some.byte.now (ne_eqb _ _ c.if-byte-eq10.false) (subst IsInOneLine text c.requires) ∙ ap line_of (sym text)

pub returns-else-byte-eq10-clause-few : goal.returns-else-byte-eq10-clause-few
returns-else-byte-eq10-clause-few c =
    let text : c.args.text.now ≡ c.in-Some.line.now ++ c.in-Some.byte.now ∷ [] = c.in-Some.ensures.cases.0 in
    rw text (few_of_whole c.in-Some.line.now c.in-Some.byte.now (ne_eqb _ _ c.if-byte-eq10.false) (subst IsInOneLine text c.requires))

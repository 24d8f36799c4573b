use Rattle.std.proofs.Common.{◌≡◌, ◌&&◌, ◌+◌, ◌-◌, ℕ, List, false, ap, arith, drop, get_or, length, subst, sym, ◌∙◌}
use Rattle.std.proofs.lemmas.List.{drop-map}
use Rattle.smap_pairs.specs.Behind.{is_behind_slash, without_query}
use Rattle.smap_pairs.specs.FilePaths.{is_file_path}
use Rattle.smap_pairs.specs.Private.Rest.{IsPiece, IsRest, piece_with}
use Rattle.smap_pairs.specs.Signs.{text_of}
use Rattle.smap_pairs.specs.declared.behind.Piece.{Piece}
use Rattle.smap_pairs.specs.declared.behind.Rest.{Rest}
use Rattle.smap_pairs.specs.declared.seen.SeenByte.{SeenByte}
use Rattle.smap_pairs.proofs.RestLaws.{end_barred, end_open, length_bytes, path_here, piece_within, rest_closed, rest_few, rest_free, rest_piece}
use Rattle.smap_pairs.proofs.behind.Rest.with_byte_before.Goals as goal

abbrev no_byte : SeenByte
no_byte = record { size = 0; byte = 0; counts = 0; is_edge = false }

pub returns-then-is_barred : goal.returns-then-is_barred
returns-then-is_barred c = λ i below.
    end_barred c.args.before.now (c.args.self.at - 1) no_byte (omega (arith, c.requires.some, c.requires.rest.within))
    (sym c.is_barred.ensures ∙ c.if-is_barred.true) i (omega (arith, below, c.requires.some))

pub with-requires-clause-round : goal.with-requires-clause-round
with-requires-clause-round c = omega (arith, rest_few c.args.before.now c.args.self c.requires.rest)

pub with-requires-clause-square : goal.with-requires-clause-square
with-requires-clause-square c = omega (arith, rest_few c.args.before.now c.args.self c.requires.rest)

pub with-requires-clause-curly : goal.with-requires-clause-curly
with-requires-clause-curly c = omega (arith, rest_few c.args.before.now c.args.self c.requires.rest)

pub returns-in_default : goal.returns-in_default
returns-in_default c = λ i below.
    end_open c.args.before.now (c.args.self.at - 1)
    (rest_closed c.args.before.now c.args.self (c.args.self.at - 1) no_byte c.requires.rest (omega (arith, c.requires.some))
    ∙ sym c.with.ensures ∙ c.in_default.is) i (omega (arith, below, c.requires.some))

-- the first piece, as the text has it
of_text : (before : List SeenByte) (text : List ℕ) (self : Rest) (at : ℕ) (piece : Piece) → text_of before ≡ text → IsRest before self → at + 1 ≡ self.at
    → piece ≡ piece_with at (get_or before at no_byte).byte self.is_path self.piece → IsPiece at (drop at text) piece
of_text before text self at piece bytes rest next is =
    let P : List ℕ → Type 0 = λ l. IsPiece at l piece in
    let Q : Piece → Type 0 = IsPiece at (text_of (drop at before)) in
    subst P (sym (drop-map (λ seen. seen.byte) at before) ∙ ap (drop at) bytes) (subst Q (sym is) (rest_piece before self at no_byte rest next))

pub begins_path-requires-clause-within : goal.begins_path-requires-clause-within
begins_path-requires-clause-within c =
    let piece = of_text c.args.before.now c.args.text.now c.args.self (c.args.self.at - 1) c.with-piece.result c.requires.bytes c.requires.rest
    (omega (arith, c.requires.some)) c.with-piece.ensures in
    let size : length c.args.text.now ≡ length c.args.before.now = ap length (sym c.requires.bytes) ∙ length_bytes c.args.before.now in
    (piece_within (c.args.self.at - 1) c.args.text.now c.with-piece.result piece (omega (arith, size, c.requires.rest.within))).1

pub begins_path-requires-clause-order : goal.begins_path-requires-clause-order
begins_path-requires-clause-order c =
    let piece = of_text c.args.before.now c.args.text.now c.args.self (c.args.self.at - 1) c.with-piece.result c.requires.bytes c.requires.rest
    (omega (arith, c.requires.some)) c.with-piece.ensures in
    let size : length c.args.text.now ≡ length c.args.before.now = ap length (sym c.requires.bytes) ∙ length_bytes c.args.before.now in
    (piece_within (c.args.self.at - 1) c.args.text.now c.with-piece.result piece (omega (arith, size, c.requires.rest.within))).0

pub returns : goal.returns
returns c =
    let before = c.args.before.now in
    let text = c.args.text.now in
    let self = c.args.self in
    let at : ℕ = c.args.self.at - 1 in
    let next : at + 1 ≡ self.at = omega (arith, c.requires.some) in
    let piece = of_text before text self at c.with-piece.result c.requires.bytes c.requires.rest next c.with-piece.ensures in
    let Q : Piece → Type 0 = IsPiece at (text_of (drop at before)) in (
      next,
      record {
        within = omega (arith, c.requires.rest.within);
        free = rest_free before self at no_byte c.requires.rest next (sym c.is_barred.ensures ∙ c.if-is_barred.false);
        closed = rest_closed before self at no_byte c.requires.rest next ∙ sym c.with.ensures ∙ c.in-Some.is;
        piece = subst Q (sym c.with-piece.ensures) (rest_piece before self at no_byte c.requires.rest next);
        path = c.begins_path.ensures
            ∙ ap (λ b. is_behind_slash text at && b) (path_here at text c.with-piece.result piece)
            ∙ ap (λ l. is_behind_slash l at && is_file_path (without_query (drop at l))) (sym c.requires.bytes)
            ∙ ap (λ l. is_behind_slash (text_of before) at && is_file_path (without_query l)) (drop-map (λ seen. seen.byte) at before);
      },
    )

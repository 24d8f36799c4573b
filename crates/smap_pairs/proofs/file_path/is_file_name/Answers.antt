use Rattle.std.proofs.Common.{sym, ◌∙◌}
use Rattle.std.specs.Str.{is_utf8}
use Rattle.std.proofs.lemmas.Bool.{and_from, and_right, false_from_ne_true}
use Rattle.std.proofs.lemmas.Str.{IsUtf8-from_is_utf8, is_utf8-from_IsUtf8}
use Rattle.smap_pairs.proofs.file_path.is_file_name.Goals as goal

pub returns-in-Ok : goal.returns-in-Ok
returns-in-Ok c =
    let piece = c.args.piece.now in
    sym (and_from _ _
    (and_from _ _ (sym c.is_plain_piece.ensures ∙ c.if-not-is_plain_piece.false) (sym c.has_plain_bytes.ensures ∙ c.if-not-has_plain_bytes.false))
    (is_utf8-from_IsUtf8 piece c.in-Ok.ensures.cases.1))

pub returns-in-Err : goal.returns-in-Err
returns-in-Err c =
    sym (and_right _ _ (false_from_ne_true (is_utf8 c.args.piece.now) (λ on. c.in-Err.ensures.cases.0 (IsUtf8-from_is_utf8 c.args.piece.now on))))

use Rattle.std.proofs.Common.{◌++◌, ◌∷◌, [], ap, refl, string_bytes, sym, ◌∙◌, take_all}
use Rattle.std.specs.List.{filter}
use Rattle.smap_codes.specs.Words.{is_called}
use Rattle.smap_codes.proofs.ToldLaws.{called_next, one_more, passed_next, told_next, told_of_none, told_of_some}
use Rattle.smap_codes.proofs.word.told.Goals as goal
use Rattle.smap_codes.proofs.word.told.Goals.{then-is_called+in_ok-known+in_ok-push_str, else-is_called}

pub loop-code-init : goal.loop-code-init
loop-code-init c = record { rows = []; codes = refl; told = c.new-text.ensures.bytes; known = refl }

pub loop-code-preserved : goal.loop-code-preserved
loop-code-preserved c = elim c.if-is_called.branch [
  | then-is_called+in_ok-known+in_ok-push_str w ↦ record {
    rows = c.loop-code.invariant.rows ++ w.row_of.result.now ∷ [];
    codes = called_next (is_called c.args.exactly c.args.word.now) c.all-codes.result.now c.loop-code.code-index _ c.loop-code.invariant.rows w.row_of.result.now
        c.loop-code-test.true c.loop-code.invariant.codes w.row_of.ensures (sym c.is_called.ensures ∙ w.if-is_called.true);
    told = told_next c.loop-code.invariant.rows w.row_of.result.now _ _ w.deref.result.now c.loop-code.invariant.told
        (w.deref.ensures ∙ w.in_ok-known.ensures) (ap string_bytes w.text-is ∙ w.in_ok-push_str.ensures.bytes);
    known = w.is_known-is ∙ one_more c.loop-code.invariant.rows w.row_of.result.now;
  }
  | else-is_called w ↦ record {
    rows = c.loop-code.invariant.rows;
    codes = passed_next (is_called c.args.exactly c.args.word.now) c.all-codes.result.now c.loop-code.code-index _ c.loop-code.invariant.rows
        c.loop-code-test.true c.loop-code.invariant.codes (sym c.is_called.ensures ∙ w.if-is_called.false);
    told = ap string_bytes w.text-is ∙ c.loop-code.invariant.told;
    known = w.is_known-is ∙ c.loop-code.invariant.known;
  }
]

pub returns-then-is_known : goal.returns-then-is_known
returns-then-is_known c =
    told_of_some c.loop-code.invariant.rows _ _
    (c.loop-code.invariant.codes ∙ ap (filter (is_called c.args.exactly c.args.word.now)) (take_all c.loop-code.code-index c.all-codes.result.now c.loop-code-test.false ∙ c.all-codes.ensures.all)) c.loop-code.invariant.told (sym c.if-is_known.true ∙ c.loop-code.invariant.known)

pub returns-else-is_known : goal.returns-else-is_known
returns-else-is_known c =
    told_of_none c.loop-code.invariant.rows _
    (c.loop-code.invariant.codes ∙ ap (filter (is_called c.args.exactly c.args.word.now)) (take_all c.loop-code.code-index c.all-codes.result.now c.loop-code-test.false ∙ c.all-codes.ensures.all)) (sym c.if-is_known.false ∙ c.loop-code.invariant.known)

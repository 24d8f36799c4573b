use Rattle.std.proofs.Common.{◌≡◌, ◌+◌, ◌<◌, length, sym, ◌∙◌, arith}
use Rattle.std.specs.Prelude.{slice_get}
use Rattle.std.proofs.lemmas.Iterator.Consumers.{YieldsList-from_first, nth_from_yields_List}
use Rattle.memchr.specs.Find.{is_byte, places}
use Rattle.smap_explain.proofs.StopLaws.{after_end, after_last, end_within, same_found}
use Rattle.smap_explain.proofs.stop.after_line_end.Goals as goal

pub overflow_add-result : goal.overflow_add-result
overflow_add-result c =
    let found : slice_get (places (is_byte 10) c.args.text.now) c.args.number ≡ c.nth.result =
    sym (sym (same_found c.nth.result) ∙ nth_from_yields_List c.nth.result _ c.args.number c.nth.ensures.ran
    (YieldsList-from_first (λ x. x) (λ rest. rest) (places (is_byte 10) c.args.text.now) c.memchr_iter.ensures.value)) in
    let within : c.in-Some.at < length c.args.text.now = end_within c.args.text.now c.args.number c.in-Some.at (found ∙ c.in-Some.is) in
    omega arith

pub returns-in-Some : goal.returns-in-Some
returns-in-Some c =
    let found : slice_get (places (is_byte 10) c.args.text.now) c.args.number ≡ c.nth.result =
    sym (sym (same_found c.nth.result) ∙ nth_from_yields_List c.nth.result _ c.args.number c.nth.ensures.ran
    (YieldsList-from_first (λ x. x) (λ rest. rest) (places (is_byte 10) c.args.text.now) c.memchr_iter.ensures.value)) in
    after_end c.args.text.now c.args.number c.in-Some.at (found ∙ c.in-Some.is)

pub returns-in-None : goal.returns-in-None
returns-in-None c =
    let found : slice_get (places (is_byte 10) c.args.text.now) c.args.number ≡ c.nth.result =
    sym (sym (same_found c.nth.result) ∙ nth_from_yields_List c.nth.result _ c.args.number c.nth.ensures.ran
    (YieldsList-from_first (λ x. x) (λ rest. rest) (places (is_byte 10) c.args.text.now) c.memchr_iter.ensures.value)) in
    after_last c.args.text.now c.args.number (found ∙ c.in-None.is)

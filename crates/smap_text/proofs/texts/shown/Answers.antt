use Rattle.std.proofs.Common.{◌≡◌, map, IfOk, string_bytes, subst, encode_utf8_all, rules}
use Rattle.std.specs.Str.{chars}
use Rattle.std.proofs.lemmas.Str.{chars_from_encodes}
use Rattle.smap_text.specs.Shown.{shown_byte}
use Rattle.smap_text.proofs.ShownLaws.{shown_encodes}
use Rattle.smap_text.proofs.texts.shown.Goals as goal

pub returns : goal.returns
returns c =
    let h : IfOk c.collect.result (λ clean. string_bytes clean ≡ encode_utf8_all (map shown_byte (chars c.args.text.now))) =
    search (rules, chars_from_encodes) in
    subst (λ bytes. IfOk c.collect.result (λ clean. string_bytes clean ≡ bytes)) (shown_encodes c.args.text.now c.utf8.text) h

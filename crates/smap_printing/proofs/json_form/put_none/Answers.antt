use Rattle.std.proofs.Common.{true, codes, subst}
use Rattle.std.specs.Prelude.{option_map}
use Rattle.json.specs.Print.{escape_byte}
use Rattle.serde_json.specs.Data.{member}
use Rattle.serde_json.specs.Written.{members_text}
use Rattle.smap_printing.specs.Functions.{pieces_text}
use Rattle.smap_printing.specs.Json.{count, url_members}
use Rattle.smap_printing.proofs.MemberLaws.{function_first}
use Rattle.smap_printing.proofs.json_form.put_none.Goals as goal

pub returns : goal.returns
unfolding escape_byte
returns g c =
    let both = g.met.O.Output.puts_both in
    let Puts = g.O.Output.Puts in
    let asked = c.args.asked in
    let rest = member (codes "line") (count asked.line) (url_members (option_map (λ url. url.now) asked.url)) in
    let line : Puts c.put_function_member.new.output c.put_end.new.output (members_text true rest) = both _ _ _ _ _ c.put_number-2.ensures c.put_end.ensures in
    both _ _ _ _ _ c.put_number.ensures (subst (Puts c.put_number.new.output c.put_end.new.output)
    (function_first (option_map pieces_text asked.function) rest) (both _ _ _ _ _ c.put_function_member.ensures line))

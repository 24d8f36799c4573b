use Rattle.std.proofs.Common.{◌≡◌, ◌++◌, true, List, ℕ, Option, Some, None, refl, subst}
use Rattle.std.specs.Prelude.{codes, option_map}
use Rattle.json.specs.Print.{escape_byte}
use Rattle.serde_json.specs.Data.{Members, member, string}
use Rattle.serde_json.specs.Written.{members_text}
use Rattle.smap_codes.specs.Codes.{label_of}
use Rattle.smap_codes.specs.declared.code.Code.{Code}
use Rattle.smap_record.specs.Written.{member_where}
use Rattle.smap_printing.specs.Functions.{pieces_text}
use Rattle.smap_printing.specs.Json.{count, function_members, url_members}
use Rattle.smap_printing.specs.Places.{code_of, fault_of}
use Rattle.smap_printing.specs.Private.Members.{code_member}
use Rattle.smap_printing.proofs.MemberLaws.{function_first}
use Rattle.smap_printing.proofs.places.put_unanswered_object.Goals as goal

fault_first : (fault : Option Code) (rest : Members) → code_member (codes ",\"fault\":") fault ++ members_text true rest
    ≡ members_text true (member_where (codes "fault") (option_map (λ code. string (label_of code)) fault) rest)
unfolding escape_byte
fault_first None rest = refl
fault_first (Some code) rest = refl

refusal_first : (refusal : Option Code) (rest : Members) → code_member (codes ",\"refusal\":") refusal ++ members_text true rest
    ≡ members_text true (member_where (codes "refusal") (option_map (λ code. string (label_of code)) refusal) rest)
unfolding escape_byte
refusal_first None rest = refl
refusal_first (Some code) rest = refl

pub returns : goal.returns
unfolding escape_byte
returns g c =
    let both = g.met.O.Output.puts_both in
    let Puts = g.O.Output.Puts in
    let function = option_map pieces_text c.args.function in
    let word = rw c.word_of.ensures at c.put_json_text.ensures in
    let column = rw c.from.ensures at c.put_number.ensures in
    let fault = rw c.fault_of.ensures at c.put_code.ensures in
    let line = rw c.from-2.ensures at c.put_number-2.ensures in
    let refusal = rw c.code_of.ensures at c.put_code-2.ensures in
    let refused = member_where (codes "refusal") (option_map (λ code. string (label_of code)) (code_of c.args.why)) (url_members (Some c.args.place.url.now)) in
    let lined = member (codes "line") (count c.args.place.position.line) refused in
    let end : Puts c.put_number-2.new.output c.put_end.new.output (members_text true refused) =
    subst (Puts c.put_number-2.new.output c.put_end.new.output) (refusal_first (code_of c.args.why) _) (both _ _ _ _ _ refusal c.put_end.ensures) in
    let behind : Puts c.put_function_member.new.output c.put_end.new.output (members_text true lined) = both _ _ _ _ _ line end in
    let later = subst (Puts c.put_code.new.output c.put_end.new.output) (function_first function lined) (both _ _ _ _ _ c.put_function_member.ensures behind) in
    let faulty = subst (Puts c.put_number.new.output c.put_end.new.output) (fault_first (fault_of c.args.why) (function_members function lined))
    (both _ _ _ _ _ fault later) in
    both _ _ _ _ _ c.put.ensures (both _ _ _ _ _ word (both _ _ _ _ _ column faulty))

use Rattle.std.proofs.Common.{◌≡◌, ◌+◌, ◌++◌, true, List, ℕ, Option, Some, None, codes, decimal, refl, subst}
use Rattle.std.specs.Prelude.{option_and_then, option_map, slice_get}
use Rattle.json.specs.Print.{escape_byte}
use Rattle.serde_json.specs.Data.{Members, boolean, member}
use Rattle.serde_json.specs.Written.{members_text}
use Rattle.smap_record.specs.Written.{is_ignored_where, member_where}
use Rattle.smap_printing.specs.Context.{Context, context_value, source_context}
use Rattle.smap_printing.specs.Functions.{pieces_text}
use Rattle.smap_printing.specs.Json.{count, excerpt_value, function_members, origin_members, url_members}
use Rattle.smap_printing.specs.Private.Members.{context_member, excerpt_member}
use Rattle.smap_printing.proofs.MemberLaws.{function_first}
use Rattle.smap_printing.proofs.json_form.put_found.Goals as goal

context_first : (context : Option Context) (rest : Members) →
    context_member context ++ members_text true rest ≡ members_text true (member_where (codes "context") (option_map context_value context) rest)
unfolding escape_byte
context_first None rest = refl
context_first (Some context) rest = refl

excerpt_first : (excerpt : Option (List ℕ)) (rest : Members) →
    excerpt_member excerpt ++ members_text true rest ≡ members_text true (member_where (codes "excerpt") (option_map excerpt_value excerpt) rest)
unfolding escape_byte
excerpt_first None rest = refl
excerpt_first (Some excerpt) rest = refl

pub returns : goal.returns
unfolding escape_byte
returns g c =
    let both = g.met.O.Output.puts_both in
    let Puts = g.O.Output.Puts in
    let stated = c.args.map.now.stated in
    let origin = c.args.origin.now in
    let source = slice_get stated.sources origin.source in
    let name = option_and_then (slice_get stated.names) origin.name in
    let url = option_map (λ url. url.now) c.args.asked.url in
    let function = option_map pieces_text c.args.asked.function in
    let excerpt = option_map (λ excerpt. excerpt.now) c.args.excerpt in
    let generated = rw c.from_one.ensures at c.put_number-2.ensures in
    let ignored = rw c.source-entry.ensures at c.put_ignored.ensures in
    let context = rw c.source-entry.ensures at c.put_context.ensures in
    let from = rw (c.source-entry.ensures, c.name_at.ensures) at c.put_origin_members.ensures in
    let members = member (codes "generatedColumn") (count (c.args.generated_column + 1)) (member (codes "ignored") (boolean (is_ignored_where source))
    (member (codes "line") (count c.args.asked.line) (origin_members origin source name (url_members url)))) in
    let behind : Puts c.put_function_member.new.output c.put_origin_members.new.output (members_text true members) =
    both _ _ _ _ _ generated (both _ _ _ _ _ ignored (both _ _ _ _ _ c.put_number-3.ensures from)) in
    let rest = subst (Puts c.put_excerpt.new.output c.put_origin_members.new.output) (function_first function members)
    (both _ _ _ _ _ c.put_function_member.ensures behind) in
    let excerpted = subst (Puts c.put_context.new.output c.put_origin_members.new.output) (excerpt_first excerpt (function_members function members))
    (both _ _ _ _ _ c.put_excerpt.ensures rest) in
    let around = subst (Puts c.put_number.new.output c.put_origin_members.new.output)
    (context_first (source_context c.args.context source origin.line) (member_where (codes "excerpt") (option_map excerpt_value excerpt) (function_members function members)))
    (both _ _ _ _ _ context excerpted) in
    both _ _ _ _ _ c.put_number.ensures around

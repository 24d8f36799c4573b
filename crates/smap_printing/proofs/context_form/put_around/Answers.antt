use Rattle.std.proofs.Common.{◌≡◌, ◌≤◌, ◌++◌, true, false, Bool, None, arith, codes, length, refl, subst, sym, take}
use Rattle.std.specs.Prelude.{ℕ, Option, ◌-◌, option_copied}
use Rattle.std.specs.Str.{chars}
use Rattle.json.specs.Print.{escape_byte}
use Rattle.serde_json.specs.Data.{Members, member, no_members, string}
use Rattle.serde_json.specs.Written.{members_text}
use Rattle.smap_record.specs.Written.{member_where}
use Rattle.smap_printing.specs.Context.{Context, cut_value, has_cut, shown_line}
use Rattle.smap_printing.specs.Private.Members.{context_member, cut_member}
use Rattle.smap_printing.proofs.ContextLaws.{context_is, no_context, no_rest}
use Rattle.smap_text.specs.Lines.{lines_behind, lines_of}
use Rattle.smap_printing.proofs.context_form.put_around.Goals as goal

cut_first : (cut : Bool) (rest : Members) → cut_member cut ++ members_text true rest ≡ members_text true (member_where (codes "cut") (cut_value cut) rest)
unfolding escape_byte
cut_first false rest = refl
cut_first true rest = refl

pub returns : goal.returns
unfolding escape_byte
returns g c =
    let both = g.met.O.Output.puts_both in
    let Puts = g.O.Output.Puts in
    let line = c.args.line in
    let most = c.args.most in
    let all = lines_of (chars c.args.content.now) in
    let before = lines_of (chars c.in-Some.before.now) in
    let behind = lines_behind (option_copied c.split_line.result.1) in
    let text = chars c.split_line.result.0.now in
    let context : Context = record { before = take (line - (line - most)) before; line = text; after = take most behind } in
    let from_first = rw c.saturating_sub-first.ensures at c.in-Some.ensures.lines in
    let from_line = rw c.saturating_sub-first.ensures at c.in-Some-rest_from.ensures.lines in
    let is = context_is all before (lines_of (chars c.in-Some-rest_from.rest.now)) behind text line most from_first from_line c.split_line.ensures.lines in
    let before_put = rw c.saturating_sub-first.ensures at c.put_lines-before_cut.ensures in
    let cut = rw (c.put_behind-after_cut.ensures.cut, before_put.cut, c.is_cut-text_cut.ensures) at c.put_cut.ensures in
    let members = member (codes "line") (string (shown_line text)) no_members in
    let lined : Puts c.put_cut.new.output c.put-4.new.self (members_text true members) =
    both _ _ _ _ _ c.put-3.ensures (both _ _ _ _ _ c.put_line.ensures c.put-4.ensures) in
    let told = subst (Puts c.put_lines-before_cut.new.output c.put-4.new.self) (cut_first (has_cut context) members) (both _ _ _ _ _ cut lined) in
    subst (λ context. Puts c.args.output.now c.put-4.new.self (context_member context)) (sym is)
    (both _ _ _ _ _ c.put.ensures (both _ _ _ _ _ c.put_behind-after_cut.ensures.lines (both _ _ _ _ _ c.put-2.ensures (both _ _ _ _ _ before_put.lines told))))

pub returns-in_default-rest_from : goal.returns-in_default-rest_from
returns-in_default-rest_from g c =
    let line = c.args.line in
    let most = c.args.most in
    let all = lines_of (chars c.args.content.now) in
    let before = lines_of (chars c.in-Some.before.now) in
    let from_first = rw c.saturating_sub-first.ensures at c.in-Some.ensures.lines in
    let some = rw c.saturating_sub-first.ensures at c.in-Some.ensures.some in
    let few = rw (c.in_default-rest_from.is, c.saturating_sub-first.ensures) at c.rest_from-2.ensures in
    subst (λ context. g.O.Output.Puts c.args.output.now c.args.output.now (context_member context)) (sym (no_rest all before line most from_first few some))
    (g.met.O.Output.puts_none c.args.output.now)

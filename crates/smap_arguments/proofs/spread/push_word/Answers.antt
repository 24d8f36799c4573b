use Rattle.std.proofs.Common.{◌≡◌, ◌∙◌, ◌++◌, ◌∷◌, [], None, Some, ap, false, true, rules, subst, sym}
use Rattle.smap_arguments.specs.Arguments.{texts}
use Rattle.smap_arguments.specs.Spread.{IsPushed, position_of}
use Rattle.smap_arguments.proofs.SpreadLaws.{pushed_no_position, pushed_position, texts_with}
use Rattle.smap_arguments.proofs.spread.push_word.Goals as goal

pub returns-in_default : goal.returns-in_default
returns-in_default c =
    let none : position_of c.args.is_generated c.args.word.now ≡ None = search rules in
    let new = texts_with c.args.all.now.items c.push-in_default.new.self.items c.in_ok-from_str-2.field-0 c.args.word.now c.in_ok-push-2.ensures.items
    c.in_ok-from_str-2.ensures.ok in
    subst (λ b. IsPushed c.args.is_generated (texts c.args.all.now.items) (texts c.push-in_default.new.self.items) c.args.word.now b false) (sym c.if-is_spread.false)
    (pushed_no_position c.args.is_generated (texts c.args.all.now.items) (texts c.push-in_default.new.self.items) c.args.word.now none new)

pub returns : goal.returns
returns c =
    let found : position_of c.args.is_generated c.args.word.now ≡ Some (c.in-Some.line.now, c.in-Some.column.now) = sym c.in-Some.ensures in
    let first = texts_with c.args.all.now.items c.push-2.new.self.items c.in_ok-from_str-3.field-0 c.in-Some.line.now c.in_ok-push-3.ensures.items
    c.in_ok-from_str-3.ensures.ok in
    let second = texts_with c.push-2.new.self.items c.push-3.new.self.items c.in_ok-from_str-4.field-0 c.in-Some.column.now c.in_ok-push-4.ensures.items
    c.in_ok-from_str-4.ensures.ok in
    subst (λ b. IsPushed c.args.is_generated (texts c.args.all.now.items) (texts c.push-3.new.self.items) c.args.word.now b true) (sym c.if-is_spread.false)
    (pushed_position c.args.is_generated (texts c.args.all.now.items) (texts c.push-3.new.self.items) c.args.word.now c.in-Some.line.now c.in-Some.column.now found
    (second ∙ ap (λ l. l ++ c.in-Some.column.now ∷ []) first))

use Rattle.std.proofs.Common.{◌≡◌, ℕ, ◌+◌, sym, ap, subst, ◌∙◌}
use Rattle.smap_mappings.specs.LineWalk.{IsWalked}
use Rattle.smap_mappings.specs.State.{IsAfter}
use Rattle.smap_mappings.specs.declared.cursor.Cursor.{Cursor}
use Rattle.smap_index.specs.Checkpoint.{mapping_of, state_of}
use Rattle.smap_index.specs.Private.Walk.{end_in}
use Rattle.smap_index.proofs.LineLaws.{last_found, next_found, last_in_range, next_in_range}
use Rattle.smap_index.proofs.resume.decode_after.Goals as goal
use Rattle.smap_index.proofs.resume.decode_after.Goals.{After-walk_line-walk}

walked : (c : After-walk_line-walk) (j : ℕ) → IsAfter c.args.part.now.text j (state_of c.args.part.now c.args.checkpoint.now)
    → IsWalked c.args.part.now.text j c.state-state.result c.end_in-end.result c.args.most c.walk_line-walk.result
walked c j after = c.walk_line-walk.ensures.walked j (subst (IsAfter c.args.part.now.text j) (sym c.state-state.ensures) after)

same : (c : After-walk_line-walk) → c.args.part.now.line + c.state-state.result.line ≡ c.args.bound.now.line
same c = ap (λ (s : Cursor). c.args.part.now.line + s.line) c.state-state.ensures ∙ c.requires.on_line

end_is : (c : After-walk_line-walk) → c.end_in-end.result ≡ end_in c.args.part.now c.args.bound.now c.state-state.result.line
end_is c = c.end_in-end.ensures ∙ ap (λ (s : Cursor). end_in c.args.part.now c.args.bound.now s.line) c.cursor.ensures

pub last_walked-requires : goal.last_walked-requires
last_walked-requires c =
    last_in_range c.args.part.now _ _ _ _ c.walk_line-walk.result
    (walked (goal.at.last_walked-requires c).After-walk_line-walk c.requires.state.0 c.requires.state.1) c.requires.in_range

pub next_walked-requires : goal.next_walked-requires
next_walked-requires c =
    next_in_range c.args.part.now _ _ _ _ c.walk_line-walk.result
    (walked (goal.at.next_walked-requires c).After-walk_line-walk c.requires.state.0 c.requires.state.1) c.requires.in_range

pub returns-clause-last : goal.returns-clause-last
returns-clause-last c j after =
    let at = (goal.at.returns-clause-last c).After-walk_line-walk in
    last_found c.args.bound.now c.args.part.now j c.state-state.result c.end_in-end.result c.args.most c.walk_line-walk.result
    (walked at j after) c.walk_line-walk.ensures.few (same at) (end_is at)
    (mapping_of c.args.checkpoint.now) c.last_walked.result c.last_walked.ensures.none c.last_walked.ensures.some

pub returns-clause-next : goal.returns-clause-next
returns-clause-next c j after =
    let at = (goal.at.returns-clause-next c).After-walk_line-walk in
    c.next_walked.ensures
    ∙ sym (next_found c.args.bound.now c.args.part.now j c.state-state.result c.end_in-end.result c.args.most c.walk_line-walk.result
    (walked at j after) c.walk_line-walk.ensures.few (same at) (end_is at))

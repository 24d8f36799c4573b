use Rattle.std.proofs.Common.{◌≡◌, true, false, sym, ap, subst, ◌∙◌, OnOk}
use Rattle.smap_kept.specs.OwnUrls.{OwnSeen, has_query, has_room_beside, is_own, own_seen, own_with}
use Rattle.smap_kept.proofs.OwnLaws.{put_is}
use Rattle.smap_kept.proofs.own_urls.OwnUrls.add.Goals.{in-Ok, in-Err}
use Rattle.smap_kept.proofs.own_urls.OwnUrls.add.Goals as goal

pub returns-clause-put : goal.returns-clause-put
returns-clause-put c =
    let url = c.args.url.now in
    let own = own_seen c.self.inside in
    let query : has_query url ≡ true = sym c.has_query.ensures ∙ c.if-not-has_query.false in
    let apart : is_own own url ≡ false = ap (λ it. is_own it url) c.self.view_is ∙ sym c.has.ensures ∙ c.if-has.false in
    let room : has_room_beside own url ≡ true = sym c.has_room_beside.ensures ∙ c.if-not-has_room_beside.false in
    let new : OwnSeen = own_seen (record { urls = c.put.new.self; are_all = c.self.inside.are_all }) in
    let with_it = sym (put_is url own query apart room) ∙ ap (own_with url) c.self.view_is in
    elim c.match-put.branch [
      | in-Ok w ↦ subst (λ r. OnOk r (new ≡ own_with url c.args.self.now)) (sym w.result-is)
          (ap (λ all. record own { urls = all.entries; most = all.most }) w.in-Ok.ensures.put ∙ with_it)
      | in-Err w ↦ subst (λ r. OnOk r (new ≡ own_with url c.args.self.now)) (sym w.result-is) tt
    ]

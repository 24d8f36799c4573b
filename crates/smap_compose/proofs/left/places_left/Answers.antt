use Rattle.std.proofs.Common.{◌≡◌, ℕ, Bool, List, Some, slice_get, refl}
use Rattle.std.specs.Ordering.{eq_by_cmp}
use Rattle.std.specs.BTreeMap.{get}
use Rattle.std.proofs.lemmas.Cmp.{eq_by_cmp_equiv}
use Rattle.std.proofs.lemmas.Option.{slice_get_read}
use Rattle.smap_compose.specs.Private.Left.{is_marked}
use Rattle.smap_compose.proofs.LeftLaws.{known_next, new_next}
use Rattle.smap_compose.proofs.left.places_left.Goals as goal

pub loop-i-preserved-in-Some : goal.loop-i-preserved-in-Some
loop-i-preserved-in-Some g c =
    let same : g.row.K.Denot → g.row.K.Denot → Bool = eq_by_cmp g.K.Ord.cmp in
    let is_used : ℕ → Bool = is_marked c.args.used.now in
    let keys : List g.row.K.Denot = c.args.keys.now in
    let i : ℕ = c.loop-i.i in
    let key : g.row.K.Denot = c.index-keys-i.result in
    let there : slice_get keys i ≡ Some key = slice_get_read keys _ i key refl c.loop-i-test.true c.index-keys-i.is in
    known_next same is_used (eq_by_cmp_equiv g.met.K.Ord.total) keys i (get g.K.Ord.cmp c.loop-i.found) c.loop-i.many c.loop-i.places.items
    c.loop-i.stays.items c.loop-i.invariant key there c.push-in-Some.new.self.items c.push-in-Some-2.new.self.items
    c.in-Some.place.now c.in-Some.ensures.value c.in_ok-push-3.ensures.items c.in_ok-push-4.ensures.items

pub loop-i-preserved : goal.loop-i-preserved
loop-i-preserved g c =
    let same : g.row.K.Denot → g.row.K.Denot → Bool = eq_by_cmp g.K.Ord.cmp in
    let is_used : ℕ → Bool = is_marked c.args.used.now in
    let keys : List g.row.K.Denot = c.args.keys.now in
    let i : ℕ = c.loop-i.i in
    let key : g.row.K.Denot = c.index-keys-i.result in
    let there : slice_get keys i ≡ Some key = slice_get_read keys _ i key refl c.loop-i-test.true c.index-keys-i.is in
    new_next same is_used (eq_by_cmp_equiv g.met.K.Ord.total) keys i (get g.K.Ord.cmp c.loop-i.found) c.loop-i.many c.loop-i.places.items
    c.loop-i.stays.items c.loop-i.invariant key there c.push-in-loop-i.new.self.items c.push-in-loop-i-2.new.self.items
    (get g.K.Ord.cmp c.insert.new.self) c.if-not-used-i.false c.in_default.ensures.value c.in_ok-insert.ensures.updates.0
    c.in_ok-push-5.ensures.items c.in_ok-push-6.ensures.items

use Rattle.std.proofs.Common.{◌≡◌, ◌∙◌, ◌<◌, arith, length, refl, rules, sym, true, false}
use Rattle.std.proofs.lemmas.Grind.{common_steps}
use Rattle.smap_io.specs.WithoutSequences.{without_seen}
use Rattle.smap_io.proofs.SeenLaws.{given_last, gone_on, nearer_end, no_more, seen_end, some_more}
use Rattle.smap_io.proofs.without_sequences.WithoutSequencesByteSource.read.Goals as goal

pub give_one-requires-clause-undecided : goal.give_one-requires-clause-undecided
give_one-requires-clause-undecided g c =
    let none : c.give-count.result ≡ 0 = omega (arith, c.if-count-gt0.false) in
    let room : 0 < length c.give-count.new.room = first_of (search rules, grind (arith, common_steps)) in
    let ended : c.in_ok-read_on.field-0 ≡ false = search rules in
    let no = no_more (g.R.ByteSource.seen c.loop-self.self.inner) (g.R.ByteSource.seen c.read_on.new.inner) _ _ _ ended c.in_ok-read_on.ensures.more in
    rw no.0 (c.give-count.ensures.undecided none room)

pub returns-then-not-branch : goal.returns-then-not-branch
returns-then-not-branch g c =
    let seen = g.R.ByteSource.seen in
    let none : c.give-count.result ≡ 0 = omega (arith, c.if-count-gt0.false) in
    let ended : c.in_ok-read_on.field-0 ≡ false = search rules in
    let no = no_more (seen c.loop-self.self.inner) (seen c.read_on.new.inner) _ _ _ ended c.in_ok-read_on.ensures.more in
    let at = gone_on (without_seen c.args.self.now.held c.args.self.now.most (seen c.args.self.now.inner)) (seen c.loop-self.self.inner) (seen c.loop-self.self.inner) (seen c.read_on.new.inner) _ _ _ _ _ _ _ _ c.loop-self.invariant.seen none c.give-count.ensures.gives
    refl c.in_ok-read_on.ensures.more c.in_ok-read_on.ensures.no_failure in (
      c.give_one.ensures.fits,
      given_last (without_seen c.args.self.now.held c.args.self.now.most (seen c.args.self.now.inner)) (seen c.read_on.new.inner) (seen c.read_on.new.inner) _ _ _ _ _ at no.2 c.give_one.ensures.gives refl,
      λ none _. seen_end _ _ (c.give_one.ensures.end none) _ no.2,
      sym c.failed.ensures ∙ c.if-failed.false,
      c.in_ok-read_on.ensures.no_failure ∙ c.loop-self.invariant.works,
    )

pub loop-self-smaller : goal.loop-self-smaller
loop-self-smaller g c =
    let none : c.give-count.result ≡ 0 = omega (arith, c.if-count-gt0.false) in
    let room : 0 < length c.give-count.new.room = first_of (search rules, grind (arith, common_steps)) in
    let more : c.in_ok-read_on.field-0 ≡ true = search rules in
    nearer_end _ _ _ _ _ (c.give-count.ensures.nearer none) (c.give-count.ensures.undecided none room).0 (some_more (g.R.ByteSource.seen c.loop-self.self.inner) (g.R.ByteSource.seen c.read_on.new.inner) _ _ _ more c.in_ok-read_on.ensures.more)

pub loop-self-preserved : goal.loop-self-preserved
loop-self-preserved g c =
    let seen = g.R.ByteSource.seen in
    let none : c.give-count.result ≡ 0 = omega (arith, c.if-count-gt0.false) in
    record {
      works = c.in_ok-read_on.ensures.no_failure ∙ c.loop-self.invariant.works;
      seen = gone_on (without_seen c.args.self.now.held c.args.self.now.most (seen c.args.self.now.inner)) (seen c.loop-self.self.inner) (seen c.loop-self.self.inner) (seen c.read_on.new.inner) _ _ _ _ _ _ _ _ c.loop-self.invariant.seen none c.give-count.ensures.gives
          refl c.in_ok-read_on.ensures.more c.in_ok-read_on.ensures.no_failure;
    }

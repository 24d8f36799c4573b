use Rattle.std.proofs.Common.{arith}
use Rattle.smap_mappings.proofs.StraightLaws.{sound_steps}
use Rattle.smap_mappings.proofs.walk.step_straight.Goals as goal

pub returns-then-is_sound : goal.returns-then-is_sound
returns-then-is_sound c =
    sound_steps c.args.bytes.now c.args.sources c.args.names c.args.cursor.now c.in_ok-straight.straight c.in_ok-straight.ensures.some
    (c.is_sound.ensures.fits c.if-is_sound.true) (c.is_sound.ensures.listed c.if-is_sound.true) (omega arith) c.requires.in_range

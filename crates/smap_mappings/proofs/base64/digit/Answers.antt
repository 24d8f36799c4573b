use Rattle.smap_mappings.proofs.Digits.{digit_found, digit_missing}
use Rattle.smap_mappings.proofs.base64.digit.Goals as goal

pub returns-then-value-lt-NO_DIGIT : goal.returns-then-value-lt-NO_DIGIT
returns-then-value-lt-NO_DIGIT c = digit_found c.args.byte c.ranges.byte.fits c.if-value-lt-NO_DIGIT.true

pub returns-else-value-lt-NO_DIGIT : goal.returns-else-value-lt-NO_DIGIT
returns-else-value-lt-NO_DIGIT c = digit_missing c.args.byte c.ranges.byte.fits c.if-value-lt-NO_DIGIT.false

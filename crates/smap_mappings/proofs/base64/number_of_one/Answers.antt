use Rattle.smap_mappings.proofs.Digits.{number_found, number_missing}
use Rattle.smap_mappings.proofs.base64.number_of_one.Goals as goal

pub returns-then-number-lt-NO_NUMBER : goal.returns-then-number-lt-NO_NUMBER
returns-then-number-lt-NO_NUMBER c = number_found c.args.byte c.ranges.byte.fits c.if-number-lt-NO_NUMBER.true

pub returns-else-number-lt-NO_NUMBER : goal.returns-else-number-lt-NO_NUMBER
returns-else-number-lt-NO_NUMBER c = number_missing c.args.byte c.ranges.byte.fits c.if-number-lt-NO_NUMBER.false

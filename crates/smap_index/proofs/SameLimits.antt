-- The code's limit is that of the definitions.
use Rattle.std.proofs.Common.{◌≡◌, refl}
use Rattle.smap_index.specs.Faults.{most_interval}
use Rattle.smap_index.specs.declared.interval.TheConstants.{MOST_INTERVAL}

most_interval_is : MOST_INTERVAL ≡ most_interval
most_interval_is = refl

-- The code's numbers are those of the definitions.
use Rattle.std.proofs.Common.{◌≡◌, refl}
use Rattle.smap_command.specs.Limits.{limit, most_bytes, most_context, most_hidden, most_interval, usual_cache_bytes, usual_interval, usual_limit_bytes}
use Rattle.smap_command.specs.declared.limits.TheConstants.{LIMIT, MOST_OPTION_BYTES, MOST_CONTEXT, MOST_HIDDEN, MOST_INTERVAL, USUAL_CACHE_BYTES, USUAL_INTERVAL, USUAL_LIMIT_BYTES}

limit_is : LIMIT ≡ limit
limit_is = refl

most_interval_is : MOST_INTERVAL ≡ most_interval
most_interval_is = refl

usual_interval_is : USUAL_INTERVAL ≡ usual_interval
usual_interval_is = refl

most_hidden_is : MOST_HIDDEN ≡ most_hidden
most_hidden_is = refl

most_context_is : MOST_CONTEXT ≡ most_context
most_context_is = refl

most_bytes_is : MOST_OPTION_BYTES ≡ most_bytes
most_bytes_is = refl

usual_cache_bytes_is : USUAL_CACHE_BYTES ≡ usual_cache_bytes
usual_cache_bytes_is = refl

usual_limit_bytes_is : USUAL_LIMIT_BYTES ≡ usual_limit_bytes
usual_limit_bytes_is = refl

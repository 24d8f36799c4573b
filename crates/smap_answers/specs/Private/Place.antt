-- How the maps are read of a command that says this itself.
use Rattle.std.specs.Prelude.{ℕ, Option, None}
use Rattle.smap_command.specs.Limits.{usual_interval}
use Rattle.smap_command.specs.declared.command.Command.{Command}
use Rattle.smap_command.specs.declared.command.Command.TheVariants.{Check, Show, Lookup, Rewrite, Compose}
use Rattle.url.specs.Parts.{Parts}

-- the URL against which sources are resolved, and the interval at which checkpoints stand; any other command has its own reader
abbrev pub place_of : Command → Option Parts × ℕ
place_of (Check path base interval options) = (base, interval)
place_of (Show path base options) = (base, usual_interval)
place_of (Lookup path line column base interval after options) = (base, interval)
place_of (Rewrite maps base interval hide_ignored options) = (base, interval)
place_of (Compose outer source inner base options) = (base, usual_interval)
place_of other = (None, usual_interval)

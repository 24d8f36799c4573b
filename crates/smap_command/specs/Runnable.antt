-- What a run of a command asks of it.
use Rattle.std.specs.Prelude.{◌≡◌, Bool, true, false, ⊤}
use Rattle.smap_command.specs.Limits.{is_interval}
use Rattle.smap_command.specs.Options.{HasBytes}
use Rattle.smap_command.specs.declared.command.Command.{Command}
use Rattle.smap_command.specs.declared.command.Command.TheVariants.{Raw, Rewrite}

-- the control sequences of a terminal are left out of standard input
abbrev pub strips_ansi : Command → Bool
strips_ansi (Rewrite maps base interval hide_ignored options) = options.strip_ansi
strips_ansi other = false

-- a command that can be run: checkpoints may stand in a bare text at its interval, and its numbers of bytes are in their ranges
abbrev pub IsRunnable : Command → Type 0
IsRunnable (Raw line column interval) = is_interval interval ≡ true
IsRunnable (Rewrite maps base interval hide_ignored options) = HasBytes options
IsRunnable other = ⊤

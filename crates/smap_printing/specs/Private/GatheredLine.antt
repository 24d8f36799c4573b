-- A line that is put after bytes that wait.
use Rattle.std.specs.Prelude.{◌≡◌, ℕ, List, [], ◌++◌, Result, Ok, Err}
use Rattle.std.proofs.Common.{refl, sym, ◌∙◌, subst, append_assoc, append-nil}
use Rattle.smap_io.specs.Device.{SinkSeen}
use Rattle.smap_io.specs.declared.device.DeviceFault.{DeviceFault}
use Rattle.smap_lines.specs.LineOutput.{FailsToPut, Puts}
use Rattle.smap_lines.specs.declared.line_output.LineOutput.{LineOutput}
use Rattle.smap_printing.specs.declared.gathered_line.GatheredLine.{GatheredLine}

-- since the output was like this, these bytes were put, of which a short text still waits; or a write failed
abbrev pub IsPutBut : {W : Type 0} → (seen : W → SinkSeen) → (old new : LineOutput W) (short bytes : List ℕ) → Result Unit DeviceFault → Type 0
IsPutBut seen old new short bytes (Ok done) = (front : List ℕ) × Puts seen old new front × (bytes ≡ front ++ short)
IsPutBut seen old new short bytes (Err fault) = FailsToPut seen old new bytes

abbrev pub IsPutSince : {W : Type 0} (seen : W → SinkSeen) (start : LineOutput W) (line : GatheredLine W) → List ℕ → Type 0
IsPutSince seen start line bytes = IsPutBut seen start line.output.now line.text bytes line.done

-- the line is over the same output, and whatever was put before, these bytes stand behind it
pub record Gathers {W : Type 0} (seen : W → SinkSeen) (old new : GatheredLine W) (bytes : List ℕ) : Type 0 where
  pub same : new.output.ghost_name ≡ old.output.ghost_name
  pub puts : (start : LineOutput W) (front : List ℕ) → IsPutSince seen start old front → IsPutSince seen start new (front ++ bytes)

module _ {W : Type 0} (seen : W → SinkSeen) where
  pub gathers_none : (line : GatheredLine W) → Gathers seen line line []
  gathers_none line = record {
    same = refl;
    puts = λ start front put. subst (λ l. IsPutSince seen start line l) (sym (append-nil front)) put;
  }

  pub gathers_both : (old mid new : GatheredLine W) (first second : List ℕ) → Gathers seen old mid first → Gathers seen mid new second
      → Gathers seen old new (first ++ second)
  gathers_both old mid new first second one two = record {
    same = two.same ∙ one.same;
    puts = λ start front put. subst (λ l. IsPutSince seen start new l) (append_assoc front first second)
        (two.puts start (front ++ first) (one.puts start front put));
  }

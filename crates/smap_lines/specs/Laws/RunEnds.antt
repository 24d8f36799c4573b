-- Laws of how a run over devices may end: what each end owes, and what becomes of it where the result is told in other words.
use Rattle.std.specs.Prelude.{◌≡◌, ℕ, List, [], true, false, Option, Some, None, Result, Ok, Err}
use Rattle.std.proofs.Common.{arith, refl}
use Rattle.smap_io.specs.Device.{Gives, SinkSeen, SourceSeen}
use Rattle.smap_lines.specs.Editing.{DevicesSeen, EditsFrontInto, devices_seen}
use Rattle.smap_lines.specs.Lines.{Line}
use Rattle.smap_lines.specs.Laws.Put.{takes_none}
use Rattle.smap_lines.specs.RunEnds.{RunEnds}
use Rattle.smap_lines.specs.declared.fault.LineFault.{LineFault}
use Rattle.smap_lines.specs.declared.fault.LineFault.TheVariants.{Read, Write, TooMuch, Memory}

module _ {R W A : Type 0} {input_seen : R → SourceSeen} {output_seen : W → SinkSeen} {input_old input_new : R} {output_old output_new : W}
    {Whole : (before after : DevicesSeen) → A → Type 0} {Front : (before after : DevicesSeen) → LineFault → Type 0} where
  -- ---- what each end owes

  pub ends_whole : {done : A} → (input_seen input_new).failed ≡ false → (output_seen output_new).failed ≡ false → Whole (devices_seen (input_seen input_old) (output_seen output_old)) (devices_seen (input_seen input_new) (output_seen output_new)) done
      → RunEnds input_seen output_seen input_old input_new output_old output_new Whole Front (Ok done)
  ends_whole input output whole = record {
    whole = whole;
    front = tt;
    input_failure = input;
    output_failure = output;
    memory_input = tt;
    memory_output = tt;
  }

  pub ends_read : (input_seen input_new).failed ≡ true → (output_seen output_new).failed ≡ false → Front (devices_seen (input_seen input_old) (output_seen output_old)) (devices_seen (input_seen input_new) (output_seen output_new)) Read
      → RunEnds input_seen output_seen input_old input_new output_old output_new Whole Front (Err Read)
  ends_read input output front = record {
    whole = tt;
    front = front;
    input_failure = input;
    output_failure = output;
    memory_input = λ e. absurd (cc);
    memory_output = λ e. absurd (cc);
  }

  pub ends_write : (input_seen input_new).failed ≡ false → (output_seen output_new).failed ≡ true → Front (devices_seen (input_seen input_old) (output_seen output_old)) (devices_seen (input_seen input_new) (output_seen output_new)) Write
      → RunEnds input_seen output_seen input_old input_new output_old output_new Whole Front (Err Write)
  ends_write input output front = record {
    whole = tt;
    front = front;
    input_failure = input;
    output_failure = output;
    memory_input = λ e. absurd (cc);
    memory_output = λ e. absurd (cc);
  }

  pub ends_too_much : (input_seen input_new).failed ≡ false → (output_seen output_new).failed ≡ false → Front (devices_seen (input_seen input_old) (output_seen output_old)) (devices_seen (input_seen input_new) (output_seen output_new)) TooMuch
      → RunEnds input_seen output_seen input_old input_new output_old output_new Whole Front (Err TooMuch)
  ends_too_much input output front = record {
    whole = tt;
    front = front;
    input_failure = input;
    output_failure = output;
    memory_input = λ e. absurd (cc);
    memory_output = λ e. absurd (cc);
  }

  -- ---- in other words

  module _ {B : Type 0} {More : (before after : DevicesSeen) → B → Type 0} {Later : (before after : DevicesSeen) → LineFault → Type 0} where
    -- a run that came to its end
    pub ends_done : {done : A} {told : B} → RunEnds input_seen output_seen input_old input_new output_old output_new Whole Front (Ok done)
        → More (devices_seen (input_seen input_old) (output_seen output_old)) (devices_seen (input_seen input_new) (output_seen output_new)) told → RunEnds input_seen output_seen input_old input_new output_old output_new More Later (Ok told)
    ends_done is more = record {
      whole = more;
      front = tt;
      input_failure = is.input_failure;
      output_failure = is.output_failure;
      memory_input = tt;
      memory_output = tt;
    }

    -- one that did not
    pub ends_failed : {fault : LineFault} → RunEnds input_seen output_seen input_old input_new output_old output_new Whole Front (Err fault)
        → Later (devices_seen (input_seen input_old) (output_seen output_old)) (devices_seen (input_seen input_new) (output_seen output_new)) fault → RunEnds input_seen output_seen input_old input_new output_old output_new More Later (Err fault)
    ends_failed is later = record {
      whole = tt;
      front = later;
      input_failure = is.input_failure;
      output_failure = is.output_failure;
      memory_input = is.memory_input;
      memory_output = is.memory_output;
    }

  -- any run, of which less is said
  module _ {More : (before after : DevicesSeen) → A → Type 0} {Later : (before after : DevicesSeen) → LineFault → Type 0} where
    pub ends_wider : (result : Result A LineFault) → ((done : A) → Whole (devices_seen (input_seen input_old) (output_seen output_old)) (devices_seen (input_seen input_new) (output_seen output_new)) done → More (devices_seen (input_seen input_old) (output_seen output_old)) (devices_seen (input_seen input_new) (output_seen output_new)) done)
        → ((fault : LineFault) → Front (devices_seen (input_seen input_old) (output_seen output_old)) (devices_seen (input_seen input_new) (output_seen output_new)) fault → Later (devices_seen (input_seen input_old) (output_seen output_old)) (devices_seen (input_seen input_new) (output_seen output_new)) fault)
        → RunEnds input_seen output_seen input_old input_new output_old output_new Whole Front result
        → RunEnds input_seen output_seen input_old input_new output_old output_new More Later result
    ends_wider (Ok done) more later is = ends_done is (more done is.whole)
    ends_wider (Err fault) more later is = ends_failed is (later fault is.front)

-- where memory runs out before anything is asked
pub ends_memory : {R W A : Type 0} {input_seen : R → SourceSeen} {output_seen : W → SinkSeen} {input : R} {output : W}
    {Whole : (before after : DevicesSeen) → A → Type 0} {Front : (before after : DevicesSeen) → LineFault → Type 0}
    → (input_seen input).failed ≡ false → (output_seen output).failed ≡ false
    → Front (devices_seen (input_seen input) (output_seen output)) (devices_seen (input_seen input) (output_seen output)) Memory
    → RunEnds input_seen output_seen input input output output Whole Front (Err Memory)
ends_memory works output_works front = record {
  whole = tt;
  front = front;
  input_failure = works;
  output_failure = output_works;
  memory_input = λ _. refl;
  memory_output = λ _. refl;
}

-- ---- what nothing becomes

pub gives_none : (left : Option (List ℕ)) → Gives left left []
gives_none None = refl
gives_none (Some bytes) = refl

pub front_of_none : (Becomes : Line → List ℕ → Type 0) (most : ℕ) (now : DevicesSeen) → EditsFrontInto Becomes most now now Memory
front_of_none Becomes most now = record {
  bytes = [];
  written = [];
  later = [];
  read = gives_none now.input.left;
  taken = takes_none now.output.taken;
  front = record { texts = []; each = tt; joined = refl };
  many = (λ e. absurd (cc), λ less. absurd (omega (arith, less)));
  whole = λ e. absurd (cc);
}

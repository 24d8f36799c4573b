-- Laws of `IsPut`, for all who put a line piece by piece: what is put in a row is put as one.
use Rattle.std.specs.Prelude.{◌≡◌, ℕ, List, [], ◌++◌, Option, Some, None, Result, Ok, Err, refl}
use Rattle.std.proofs.Common.{sym, ap, ◌∙◌, append_assoc, append-nil}
use Rattle.std.specs.Io.KnownBytes.{append_known}
use Rattle.smap_io.specs.Device.{SinkSeen, Takes}
use Rattle.smap_io.specs.declared.device.DeviceFault.{DeviceFault}
use Rattle.smap_lines.specs.LineOutput.{FailsToPut, IsPut, Puts}
use Rattle.smap_lines.specs.declared.line_output.LineOutput.{LineOutput}

pub takes_none : (old : Option (List ℕ)) → Takes old old []
takes_none None = refl
takes_none (Some bytes) = ap Some (sym (append-nil bytes))

pub takes_both : (old mid new : Option (List ℕ)) (first second : List ℕ) → Takes old mid first → Takes mid new second → Takes old new (first ++ second)
takes_both None mid new first second p q = q ∙ ap (λ o. append_known o second) p
takes_both (Some bytes) mid new first second p q = q ∙ ap (λ o. append_known o second) p ∙ ap Some (append_assoc bytes first second)

module _ {W : Type 0} {seen : W → SinkSeen} where
  pub puts_none : (old : LineOutput W) → Puts seen old old []
  puts_none old = record { same = (refl, refl); put = ([], takes_none _, append-nil old.gathered.now); works = refl }

  -- the first of two pieces, in which a write fails
  pub fails_first : {old new : LineOutput W} {first : List ℕ} (second : List ℕ) → FailsToPut seen old new first → FailsToPut seen old new (first ++ second)
  fails_first {old = old} {first = first} second fails = record {
    same = fails.same;
    front = (
      fails.front.0,
      fails.front.1 ++ second,
      sym (append_assoc old.gathered.now first second) ∙ ap (λ l. l ++ second) fails.front.2 ∙ append_assoc fails.front.0 fails.front.1 second,
      fails.front.3,
    );
    failed = fails.failed;
  }

  module _ {old mid : LineOutput W} {first : List ℕ} (one : Puts seen old mid first) where
    joined : (second : List ℕ) → old.gathered.now ++ (first ++ second) ≡ one.put.0 ++ (mid.gathered.now ++ second)
    joined second = sym (append_assoc old.gathered.now first second) ∙ ap (λ l. l ++ second) one.put.2 ∙ append_assoc one.put.0 mid.gathered.now second

    -- a piece, and then a second one
    pub puts_both : {new : LineOutput W} {second : List ℕ} → Puts seen mid new second → Puts seen old new (first ++ second)
    puts_both {new = new} {second = second} two = record {
      same = (two.same.0 ∙ one.same.0, two.same.1 ∙ one.same.1);
      put = (
        one.put.0 ++ two.put.0,
        takes_both _ _ _ one.put.0 two.put.0 one.put.1 two.put.1,
        joined second ∙ ap (λ l. one.put.0 ++ l) two.put.2 ∙ sym (append_assoc one.put.0 two.put.0 new.gathered.now),
      );
      works = two.works ∙ one.works;
    }

    -- a piece, and then a second one, in which a write fails
    pub fails_second : {new : LineOutput W} {second : List ℕ} → FailsToPut seen mid new second → FailsToPut seen old new (first ++ second)
    fails_second {second = second} fails = record {
      same = (fails.same.0 ∙ one.same.0, fails.same.1 ∙ one.same.1);
      front = (
        one.put.0 ++ fails.front.0,
        fails.front.1,
        joined second ∙ ap (λ l. one.put.0 ++ l) fails.front.2 ∙ sym (append_assoc one.put.0 fails.front.0 fails.front.1),
        takes_both _ _ _ one.put.0 fails.front.0 one.put.1 fails.front.3,
      );
      failed = fails.failed;
    }

    -- a piece, and then a second one, in which a write fails or not
    pub put_then : {T : Type 0} (new : LineOutput W) (second : List ℕ) (result : Result T DeviceFault) →
        IsPut seen mid new second result → IsPut seen old new (first ++ second) result
    put_then new second (Ok done) two = puts_both two
    put_then new second (Err fault) fails = fails_second fails

-- What is put piece by piece, over a short text that waits too.
use Rattle.std.proofs.Common.{◌≡◌, ℕ, true, false, List, [], ◌++◌, Result, Ok, Err, refl, sym, ap, ◌∙◌, subst, append_assoc, append-nil}
use Rattle.std.specs.Prelude.{OnOk, is_ok}
use Rattle.std.specs.Result.{is_err}
use Rattle.smap_io.specs.Device.{SinkSeen}
use Rattle.smap_io.specs.declared.device.DeviceFault.{DeviceFault}
use Rattle.smap_lines.specs.LineOutput.{IsPut}
use Rattle.smap_lines.specs.Laws.Put.{fails_first, put_then}
use Rattle.smap_lines.specs.declared.line_output.LineOutput.{LineOutput}
use Rattle.smap_printing.specs.Private.GatheredLine.{Gathers, IsPutBut, IsPutSince}
use Rattle.smap_printing.specs.declared.gathered_line.GatheredLine.{GatheredLine}

module _ {W : Type 0} (seen : W → SinkSeen) (start old : LineOutput W) where
  -- a piece that is put behind the short text, unless an earlier one failed
  pub put_short : (short front bytes : List ℕ) (done : Result Unit DeviceFault) → IsPutBut seen start old short front done →
      IsPutBut seen start old (short ++ bytes) (front ++ bytes) done
  put_short short front bytes (Ok done) (before, puts, is) = (before, puts, ap (λ l. l ++ bytes) is ∙ append_assoc before short bytes)
  put_short short front bytes (Err fault) fails = fails_first bytes fails

  -- a piece that stays out, since an earlier one failed
  pub put_none : (short front bytes : List ℕ) (done : Result Unit DeviceFault) → is_ok done ≡ false →
      IsPutBut seen start old short front done → IsPutBut seen start old short (front ++ bytes) done
  put_none short front bytes (Ok done) failed put = cc
  put_none short front bytes (Err fault) failed fails = fails_first bytes fails

  module _ (new : LineOutput W) where
    -- all is put, and no short text waits
    all_put : (bytes : List ℕ) (result : Result Unit DeviceFault) → IsPut seen start new bytes result → IsPutBut seen start new [] bytes result
    all_put bytes (Ok done) puts = (bytes, puts, sym (append-nil bytes))
    all_put bytes (Err fault) fails = fails

    -- the short text that is put
    pub put_held : (short front : List ℕ) (done result : Result Unit DeviceFault) → is_ok done ≡ true →
        IsPut seen old new short result → IsPutBut seen start old short front done → IsPutBut seen start new [] front result
    put_held short front (Ok done) result works put (before, puts, is) =
        all_put front result (subst (λ l. IsPut seen start new l result) (sym is) (put_then puts new short result put))
    put_held short front (Err fault) result works put fails = cc

    -- a piece that is put where no short text waits
    pub put_behind : (front bytes : List ℕ) (done result : Result Unit DeviceFault) → is_ok done ≡ true →
        IsPut seen old new bytes result → IsPutBut seen start old [] front done → IsPutBut seen start new [] (front ++ bytes) result
    put_behind front bytes done result works put before = put_held bytes (front ++ bytes) done result works put (put_short [] front bytes done before)

    -- where no short text waits, all is put
    pub put_whole : (output : LineOutput W) (short bytes : List ℕ) (result : Result Unit DeviceFault) → output ≡ new → OnOk result (short ≡ []) →
        IsPutBut seen start new short bytes result → IsPut seen start output bytes result
    put_whole output short bytes (Ok done) same empty (front, puts, is) = rw (same, is, empty, append-nil front) puts
    put_whole output short bytes (Err fault) same empty fails = rw same fails

not_ok : (done : Result Unit DeviceFault) → is_err done ≡ true → is_ok done ≡ false
not_ok (Ok done) failed = cc
not_ok (Err fault) failed = refl

-- where a write failed, more stays out
pub gathers_more : {W : Type 0} (seen : W → SinkSeen) (old new : GatheredLine W) (bytes more : List ℕ) → is_err new.done ≡ true →
    Gathers seen old new bytes → Gathers seen old new (bytes ++ more)
gathers_more seen old new bytes more failed put = record {
  same = put.same;
  puts = λ start front before. subst (λ l. IsPutSince seen start new l) (append_assoc front bytes more)
      (put_none seen start new.output.now new.text (front ++ bytes) more new.done (not_ok new.done failed) (put.puts start front before));
}

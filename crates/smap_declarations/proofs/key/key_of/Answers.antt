use Rattle.std.proofs.Common.{◌≡◌, ◌-◌, ◌+◌, ◌*◌, ◌<◌, ◌∷◌, ℕ, List, Bor, ap, ap₂, arith, sym, subst, refl, ◌∙◌}
use Rattle.smap_declarations.specs.Private.Keys.{AreBytes, followed_by}
use Rattle.smap_declarations.proofs.KeyLaws.{bytes_behind, one_more, room, with_byte, with_none, with_zero}
use Rattle.smap_declarations.proofs.key.key_of.Goals as goal
use Rattle.smap_declarations.proofs.key.key_of.Goals.{in-Some, in-None}

pub loop-i-init : goal.loop-i-init
loop-i-init c = record { key = refl; bytes = λ j. omega (arith, c.type_inv.name j); below = omega arith }

pub overflow_mul-key : goal.overflow_mul-key
overflow_mul-key c = omega (arith, room c.loop-i.i c.loop-i.key (omega arith) c.loop-i.invariant.below)

pub overflow_add-key : goal.overflow_add-key
overflow_add-key c =
    let byte = subst AreBytes c.in-Some.ensures c.loop-i.invariant.bytes 0 in
    omega (arith, byte, room c.loop-i.i c.loop-i.key (omega arith) c.loop-i.invariant.below)

pub overflow_mul-key-in-None : goal.overflow_mul-key-in-None
overflow_mul-key-in-None c = omega (arith, room c.loop-i.i c.loop-i.key (omega arith) c.loop-i.invariant.below)

pub loop-i-preserved : goal.loop-i-preserved
loop-i-preserved c =
    let i = c.loop-i.i in
    let key = c.loop-i.key in
    let few : i < 8 = omega arith in
    elim c.match-split_byte.branch [
      | in-Some w ↦
          let byte = w.in-Some.byte in
          let behind = w.in-Some.behind.now in
          let bytes : AreBytes (byte ∷ behind) = subst AreBytes w.in-Some.ensures c.loop-i.invariant.bytes in
          record {
            key = ap₂ (λ k (r : Bor (List ℕ)). followed_by (8 - (i + 1)) k r.now) w.key-is w.rest-is
                ∙ with_byte i key byte behind few ∙ ap (followed_by (8 - i) key) (sym w.in-Some.ensures) ∙ c.loop-i.invariant.key;
            bytes = subst (λ (r : Bor (List ℕ)). AreBytes r.now) (sym w.rest-is) (bytes_behind byte behind bytes);
            below = omega (arith, w.key-is, one_more i key byte c.loop-i.invariant.below (bytes 0));
          }
      | in-None w ↦ record {
        key = ap₂ (λ k (r : Bor (List ℕ)). followed_by (8 - (i + 1)) k r.now) w.key-is w.rest-is
            ∙ ap (followed_by (8 - (i + 1)) (key * 256)) w.in-None.ensures
            ∙ with_zero i key few ∙ ap (followed_by (8 - i) key) (sym w.in-None.ensures) ∙ c.loop-i.invariant.key;
        bytes = subst (λ (r : Bor (List ℕ)). AreBytes r.now) (sym w.rest-is) c.loop-i.invariant.bytes;
        below = omega (arith, w.key-is, one_more i key 0 c.loop-i.invariant.below (omega arith));
      }
    ]

pub returns : goal.returns
returns c = (with_none c.loop-i.i c.loop-i.key c.loop-i.rest.now (omega arith) ∙ c.loop-i.invariant.key, λ j. omega (arith, c.type_inv.name j))

-- The walks of a handle, once for whatever it holds. Assumes `Logic`.
use Rattle.std.proofs.Common.{◌≡◌, ℕ, List, [], ◌∷◌, ◌++◌, refl, sym, ap, ◌∙◌, subst, Option, Some, None, IsSome}
use seplogic.Ra.Ura.{Ura}
use base.Fraction.{full_share}
use mir.Syntax.{Sym, Ty, ty_ptr, Fn, Callee, named, erased, local, value_local, seq, block, assign, place, rv_opd, addr_of, copy, deref, field}
use mir.Syntax.{aggregate, return}
use mir.Raw.{raw as bare}
use mir.Val.{Val, vptr, vstruct, vcons, vnil, of_list}
use base.Logic.{SProp, ent, sep, emp, id⊢}
use base.Fml.{Fml, GName, ftrue, flft, fsep}
use base.Stored.{Coded}
use prog.Wp.{WpFn, Closed}
use prog.Model.{Model}
use types.Logic.{Logic, sem}
use types.Kit.{‵, raw, ◌⊛◌, some, later, at_ret, ◌$◌, ◌∵◌, !, qed, by, move, keep, drop, use0, use1, split, join, pick, await, rewrite, fsplit, fsplit3}
use types.Kit.{fjoin, fpick, fpack, feq_i, feq_l, suffices, frame, group, done}
use types.Run.{stop, fld, load, of_opd, addr, no_more, and_then, first, blocks, exec, returns, enter}
use types.Part.{agg, whole, sub, look_in}
use types.ByLocal.{alloc_all, pass_all, free_all, look_at, get, get_in, through, sets, sets_last, env}
use contract.Monad.{fact, fact_i}
use contract.Running.{Running, MachineTables, tables}
use denote.Exit.{yes, no}
use denote.RattleType.{RattleType, Valss, owns}
use denote.Signature.{types_at, plain, mut_ref_to}
use denote.Builtin.{RawPtr}
use denote.Memory.{part_at, mem, cell_at, part_of, lone}
use denote.Param.{layout}
use denote.RawPtr.{Ptr, block_ptr, ptr_val}
use denote.Ref.{MutRef, mut_vals, mut_Tells}
use denote.Steps.{nothing, heard, opens, closes}
use denote.Struct.Field.{RawPtr-field}
use denote.Struct.Record.{Record, Also, Done}
use denote.Struct.Struct.{within}
use denote.Struct.Owning.{Owning, owning, row, shape}
use denote.Follow.{follows, Part, lends_Part}
use denote.Triple.Clauses.{Ended, Clauses, closing}
use denote.Triple.Spec.{Meets}
use denote.Triple.Walked.{says, Stays, stay_dropped, stay_ref, walk_of, ends_at, Goes-ref, Goes-spent_ref}
use Rattle.std.proofs.alloc.Calls.{Goes-blank, handle_tells}
use Rattle.std.proofs.mem.Facts.{says_two}
use Rattle.std.proofs.raw_atomic.Walks.{proved, proved_at, leaves}
use Rattle.std.proofs.VecSteps.Shapes.{after}
use Rattle.std.specs.contracts.alloc.Global.{the_row as Z}
use Rattle.std.proofs.alloc.Global.TheLaws.{the_row_laws as LZ}
use Rattle.std.specs.contracts.impls.GlobalAllocator.TheImpl.{ghosts as g}
use Rattle.std.specs.Borrow.{Lends}
use Rattle.std.specs.Box.Ownership.{box_owns}
use Rattle.smap_c.specs.Owned.{chunk, owns_held}
use Rattle.smap_c.proofs.Held.{held_out}
use Rattle.smap_c.proofs.Values.{Loose, loose_good, loose_out, loose_in, both, al}

abbrev word : ℕ → ℕ → Val
word b o = vstruct (vcons (vptr b o) vnil)

-- a handle's record: its name, what it holds, and how it is made
pub record Kind : Type 2 where
  pub R : RattleType
  pub name : Sym
  pub D : Type 0
  pub at : D → Ptr
  pub held : D → Option R.Denot
  pub make : Ptr → Option R.Denot → D
  pub eta : (d : D) → make (at d) (held d) ≡ d
  pub at_made : (p : Ptr) (o : Option R.Denot) → at (make p o) ≡ p
  pub held_made : (p : Ptr) (o : Option R.Denot) → held (make p o) ≡ o
  pub codes : Ptr × Unit {0} → Coded (Also (Option R.Denot) (λ _. Done))

module _ (N : Kind) where
  open N use {R, at, held, make, at_made, held_made}

  abbrev struct : Record
  struct = record {
    name = N.name;
    args = [];
    types = [];
    parts = RawPtr-field ∷ [];
    D = N.D;
    as_values = λ d. (at d, tt);
    Ghost = λ v. Also (Option R.Denot) (λ _. Done);
    ghosts = λ d. (held d, tt);
    make = λ v g. make v.0 g.0;
    eta = N.eta;
    beta = λ v g i. (at_made v.0 g.0 i, tt);
  }

  abbrev pub the_type : Owning
  the_type = owning struct N.codes (λ d. owns_held R (at d) (held d))

  abbrev pub B : RattleType
  B = row the_type

  abbrev pub of_ended : Ended
  of_ended = record {
    signature = record { lifetimes = 0; outlives = []; params = plain (λ _. Loose R Z LZ g) ∷ []; result = plain (λ _. B) };
    kept = (yes, tt);
  }

  abbrev pub of_fn : Fn
  of_fn = record {
    lifetimes = 0;
    outlives = [];
    ty_params = [];
    givens = 0;
    params = 1;
    locals = local (layout B) value_local ∷ local (layout (Loose R Z LZ g)) value_local ∷ local ty_ptr value_local ∷ local ty_ptr value_local ∷ [];
    body = seq (assign (place 2 []) (rv_opd (copy (place 1 (field 0 ∷ []))))) (seq (assign (place 3 []) (rv_opd (copy (place 2 []))))
        (seq (assign (place 0 []) (aggregate (copy (place 3 []) ∷ []))) return));
  }

  -- a handle that is borrowed
  abbrev borrowed : Ty
  borrowed = layout (MutRef (named 0) [] B)

  abbrev with_held : N.D → R.Denot → N.D
  with_held h w = make (at h) (Some w)

  abbrev pub lend_ended : Ended
  lend_ended = record {
    signature = record {
      lifetimes = 1;
      outlives = [];
      params = mut_ref_to (0 ∷ []) tt (plain (λ _. B)) ∷ [];
      result = mut_ref_to (0 ∷ []) tt (plain (λ _. R));
    };
    kept = (no, tt);
  }

  abbrev pub lend_fn : Fn
  lend_fn = record {
    lifetimes = 1;
    outlives = [];
    ty_params = [];
    givens = 0;
    params = 1;
    locals = local (layout (MutRef (named 0) [] R)) value_local ∷ local borrowed value_local
        ∷ local (layout (MutRef erased [] R)) value_local ∷ local ty_ptr value_local ∷ local ty_ptr value_local ∷ [];
    body = seq (block (seq (assign (place 3 []) (rv_opd (copy (place 1 (deref (layout B) ∷ field 0 ∷ [])))))
        (seq (assign (place 4 []) (rv_opd (copy (place 3 [])))) (assign (place 2 []) (addr_of (place 4 (deref (layout R) ∷ [])))))))
        (seq (assign (place 0 []) (rv_opd (copy (place 2 [])))) return);
  }

  abbrev pub take_ended : Ended
  take_ended = record {
    signature = record {
      lifetimes = 1;
      outlives = [];
      params = mut_ref_to (0 ∷ []) tt (plain (λ _. B)) ∷ plain (λ _. Z) ∷ [];
      result = plain (λ _. Loose R Z LZ g);
    };
    kept = (yes, (yes, tt));
  }

  abbrev pub take_fn : Fn
  take_fn = record {
    lifetimes = 1;
    outlives = [];
    ty_params = [];
    givens = 0;
    params = 2;
    locals = local (layout (Loose R Z LZ g)) value_local ∷ local borrowed value_local ∷ local (layout Z) value_local
        ∷ local ty_ptr value_local ∷ local ty_ptr value_local ∷ [];
    body = seq (assign (place 3 []) (rv_opd (copy (place 1 (deref (layout B) ∷ field 0 ∷ []))))) (seq (assign (place 4 []) (rv_opd (copy (place 3 []))))
        (seq (assign (place 0 []) (aggregate (copy (place 4 []) ∷ copy (place 2 []) ∷ []))) return));
  }

  module _ {M : Type 1} {𝓤 : Ura M} (𝓛 : Logic 𝓤) (h : N.D) (rb ro b o : ℕ) where
    -- all of the handle but its value
    abbrev Rest : Fml
    Rest = fsep (chunk (bare (lone R.mir)) (block_ptr b o)) (cell_at full_share B.mir (word b o ∷ []) rb ro)

    back : at h ≡ block_ptr b o → (w : R.Denot)
        → ent 𝓤 (sep 𝓤 (sem 𝓛 ((mem R).own_at w b o)) (sem 𝓛 Rest)) (sem 𝓛 ((mem B).own_at (with_held h w) rb ro))
    unfolding part_of
    back e w = let x : Option R.Denot = Some w in let made : N.D = make (at h) x in let to : block_ptr b o ≡ at made = sym (at_made (at h) x ∙ e) in
        qed 𝓛 (‵ (part_at R full_share w b o) ∷ ‵ Rest ∷ []) ∵ move ! (1 ∷ []) $ fsplit ! $ move ! (2 ∷ 0 ∷ []) $ fjoin ! $
        rewrite ! 0 (λ (p : Ptr). ‵ (box_owns chunk R p w)) to refl $
        rewrite ! 0 (λ (y : Option R.Denot). ‵ (owns_held R (at made) y)) (sym (held_made (at h) x)) refl $
        nothing ! $ feq_i ! (List Val) (vptr b o ∷ []) (ptr_val (at made) ∷ []) (ap (λ (p : Ptr). ptr_val p ∷ []) to) $ fjoin ! $ feq_i !
        (List Val) (word b o ∷ []) (word b o ∷ []) refl $ fjoin ! $
        fpack ! (Valss (RawPtr ∷ [])) (within (shape the_type) (at made, tt) (word b o ∷ [])) (vptr b o ∷ [], tt) $ fjoin ! $ move ! (1 ∷ 0 ∷ []) $ fjoin ! $
        fpack ! (List Val) (λ us. fsep (cell_at full_share B.mir us rb ro) (B.own_val made us)) (word b o ∷ []) $ done !

  module _ {M : Type 1} (𝓤 : Ura M) (𝓛 : Logic 𝓤) (𝓜 : Model 𝓤 𝓛.H) (𝓡 : Running 𝓤 𝓛.H 𝓜) (self : Callee) where
    open 𝓛 use {H}

    abbrev 𝓣 : MachineTables 𝓤 H 𝓜
    𝓣 = tables 𝓤 H 𝓜 𝓡 𝓡.env

    abbrev pub of_clauses : Clauses 𝓤 of_ended
    of_clauses = λ κs args. record {
      ghost = Unit {0};
      requires = λ _. emp 𝓤;
      ensures = λ _ res _. fact 𝓤 (held res ≡ Some args.0.value);
    }

    -- `of` keeps the pointer and what it owns
    pub of_walk : Closed 𝓤 H 𝓣.C 𝓣.Λ self of_fn → Meets 𝓛 of_ended.signature (𝓣.C self) (closing 𝓛 of_ended of_clauses)
    of_walk unfolded =
        let hs : Stays of_ended.signature.params of_ended.kept = (stay_dropped (plain (λ _. Loose R Z LZ g)) yes, tt) in
        proved_at 𝓛 of_ended hs of_clauses 𝓜 𝓡 (Goes-blank 𝓛 0 (plain (λ _. Loose R Z LZ g)) yes (λ κs x f. tt), tt) self of_fn unfolded (λ z are.
        let κs = z.0.0 in let v = z.0.3.0 in let Post : Val → SProp 𝓤 = (walk_of 𝓛 of_ended hs of_clauses).post z in let Run : List Val
        → SProp 𝓤 = λ ws. WpFn 𝓤 H 𝓣.C 𝓣.Λ of_fn ws Post in
        let asked = raw ((of_clauses κs z.0.3).requires z.1) in
        qed 𝓛 ((‵ ftrue ⊛ ‵ (owns (types_at of_ended.signature.params κs) z.0.3 z.0.4)) ∷ asked ∷ []) ∵ split ! $ move ! (1 ∷ []) $ fsplit ! $
        loose_out R Z LZ g ! v z.0.4.0 (λ b o h e ws fits.
        let w : Val = both (vptr b o) h in let s : Val = vstruct (vcons (vptr b o) vnil) in
        let p : Ptr = block_ptr b o in let x : Option R.Denot = Some v.value in let made : N.D = make p x in
        suffices ! (Run (w ∷ [])) (subst (λ (us : List Val). ent 𝓤 (Run (w ∷ [])) (Run us)) (sym (λ i. ws i ++ [])) (id⊢ 𝓤 (Run (w ∷ [])))) $
        enter ! 𝓣.C 𝓣.Λ of_fn (w ∷ []) Post $ alloc_all ! (λ l. pass_all ! refl (loose_good R Z LZ g b o h fits, tt) $
        sets ! (of_opd ! (get_in ! (fld ! refl (stop !)) (sub ! 0 refl (whole !)))) refl (tt, tt) $
        sets ! (of_opd ! (get ! refl)) refl (tt, tt) $
        sets ! (agg ! (and_then ! (get ! refl) (no_more !))) refl (tt, (tt, tt)) $
        returns ! (look_at ! 0 refl) $ free_all ! refl $
        rewrite ! 0 (λ (q : Ptr). ‵ (box_owns chunk R q v.value)) (sym (at_made p x)) refl $
        rewrite ! 0 (λ (y : Option R.Denot). ‵ (owns_held R (at made) y)) (sym (held_made p x)) refl $
        nothing ! $ feq_i ! (List Val) (vptr b o ∷ []) (ptr_val (at made) ∷ []) (ap (λ (q : Ptr). ptr_val q ∷ []) (sym (at_made p x))) $ fjoin ! $
        feq_i ! (List Val) (s ∷ []) (s ∷ []) refl $ fjoin ! $
        fpack ! (Valss (RawPtr ∷ [])) (within (shape the_type) (at made, tt) (s ∷ [])) (vptr b o ∷ [], tt) $ fjoin ! $
        use0 𝓛 (raw (fact 𝓤 (held made ≡ Some v.value))) (fact_i 𝓤 (held made ≡ Some v.value) (emp 𝓤) (held_made p x)) $
        nothing ! $ nothing ! $ fjoin ! $ nothing ! $
        keep ! (0 ∷ 1 ∷ 3 ∷ 2 ∷ []) $ by ! (leaves 𝓛 of_ended hs of_clauses z s made (tt, tt) (tt, tt)))))

    abbrev pub lend_clauses : Clauses 𝓤 lend_ended
    lend_clauses = λ κs args. record {
      ghost = Unit {0};
      requires = λ _. fact 𝓤 (IsSome (held args.0.now));
      ensures = λ _ res _. sep 𝓤 (sem 𝓛 (Lends B R args.0 res (with_held args.0.now))) (fact 𝓤 (Some res.now ≡ held args.0.now));
    }

    -- `lend` lends the value, and the handle follows it
    pub lend_walk : Closed 𝓤 H 𝓣.C 𝓣.Λ self lend_fn → Meets 𝓛 lend_ended.signature (𝓣.C self) (closing 𝓛 lend_ended lend_clauses)
    lend_walk unfolded =
        let hs : Stays lend_ended.signature.params lend_ended.kept = (stay_dropped (mut_ref_to (0 ∷ []) tt (plain (λ _. B))) no, tt) in
        let W = walk_of 𝓛 lend_ended hs lend_clauses in
        proved 𝓛 lend_ended hs lend_clauses 𝓜 𝓡 (Goes-spent_ref 𝓛 1 (0 ∷ []) tt (plain (λ _. B)), tt) self lend_fn unfolded
        (λ κs. (mut_vals, tt)) (λ κs. (mut_Tells (named 0) κs.0 B, tt)) (λ κs qs bounds a gh are.
        let κ = κs.0 in let q = qs.0 in let rb = a.0.ref_ptr.0 in let ro = a.0.ref_ptr.1 in let γ = a.0.ghost_name in let h = a.0.now in
        let vs = mut_vals a.0 in let y : W.Ghost = ((κs, qs, bounds, a, (vs, tt)), gh) in
        qed 𝓛 (((‵ (flft κ q) ⊛ ‵ ftrue) ⊛ ‵ ((MutRef (named 0) κ B).own_val a.0 vs) ⊛ ‵ ftrue) ∷ raw (fact 𝓤 (IsSome (held h))) ∷ []) ∵
        move ! (1 ∷ []) $ heard ! (IsSome (held h)) (λ has. split ! $ split ! $ move ! (2 ∷ []) $ split ! $ keep ! (0 ∷ 2 ∷ []) $
        enter ! 𝓣.C 𝓣.Λ lend_fn vs _ $ alloc_all ! (λ l. pass_all ! refl ((tt, tt), tt) $ let Ev = env lend_fn.locals l in
        fsplit3 ! $ move ! (1 ∷ 2 ∷ 3 ∷ []) $ opens ! tt B rb ro (λ us. move ! (1 ∷ []) $
        fsplit ! $ fpick ! (λ vss. fsplit ! $ feq_l ! (λ ev. fsplit ! $ feq_l ! (λ ep. drop ! $
        held_out R ! (at h) (held h) has (λ b o x e m. fsplit ! $
        let ws : us ≡ word b o ∷ [] = subst (λ (p : Ptr). us ≡ vstruct (of_list (ptr_val p ∷ [])) ∷ []) e
        (subst (λ (ps : List Val). us ≡ vstruct (of_list (ps ++ [])) ∷ []) ep ev) in
        rewrite ! 2 (λ (xs : List Val). ‵ (cell_at full_share B.mir xs rb ro)) ws refl $
        first ! $ blocks ! $
        sets ! (of_opd ! (load ! (through ! refl (fld ! refl (stop !))) (look_in ! 2 (sub ! 0 refl (whole !))))) refl (tt, tt) $
        sets ! (of_opd ! (get ! refl)) refl (tt, tt) $
        sets_last ! (addr ! (through ! refl (stop !))) refl (tt, tt) $
        exec ! 𝓣.C 𝓣.Λ Ev (after 1 lend_fn.body) (at_ret Ev (W.post y)) $
        sets ! (of_opd ! (get ! refl)) refl (tt, tt) $
        move ! (1 ∷ 2 ∷ []) $ fjoin ! $ move ! (2 ∷ 3 ∷ 4 ∷ 1 ∷ 0 ∷ []) $ group ! 5 $
        use1 𝓛 (later (some (λ (γ' : GName). raw (Part 𝓛 B R (with_held h) (named 0) κ q rb ro b o γ (sem 𝓛 (Rest 𝓛 h rb ro b o))
        (back 𝓛 h rb ro b o e) x γ'))))
        (lends_Part 𝓛 B R (with_held h) (named 0) κ q rb ro b o γ (sem 𝓛 (Rest 𝓛 h rb ro b o)) (back 𝓛 h rb ro b o e) (B.coded.code h)
        (B.coded.code h) x) $ await ! tt $ pick ! (λ γ'.
        returns ! (look_at ! 0 refl) $ free_all ! refl $ keep ! (0 ∷ []) $
        use1 𝓛 (‵ ((MutRef (named 0) κ R).own_val (record { ref_ptr = (b, o); ghost_name = γ'; now = x }) (vptr b o ∷ [])) ⊛
        (‵ (flft κ q) ⊛ ‵ (follows B R γ γ' (with_held h)))) (id⊢ 𝓤 _) $ split ! $ move ! (1 ∷ []) $ split ! $ move ! (2 ∷ 0 ∷ 1 ∷ []) $
        suffices ! _ (ends_at 𝓛 lend_ended hs lend_clauses y (vptr b o) (record { ref_ptr = (b, o); ghost_name = γ'; now = x }) (tt, tt) (tt, tt)) $
        nothing ! $ nothing ! $ fjoin ! $ join ! $ nothing ! $ move ! (2 ∷ 0 ∷ []) $ join ! $ join ! $ frame ! $ says ! (sym m) $ done !)))))))))

    abbrev pub take_clauses : Clauses 𝓤 take_ended
    take_clauses = λ κs args. record {
      ghost = Unit {0};
      requires = λ _. fact 𝓤 (IsSome (held args.0.now));
      ensures = λ _ res end. sep 𝓤 (fact 𝓤 (Some res.value ≡ held args.0.now)) (fact 𝓤 (held end.0.now ≡ None));
    }

    -- `take` hands on the pointer with what it owns, and leaves the handle empty
    pub take_walk : Closed 𝓤 H 𝓣.C 𝓣.Λ self take_fn → Meets 𝓛 take_ended.signature (𝓣.C self) (closing 𝓛 take_ended take_clauses)
    take_walk unfolded =
        let hs : Stays take_ended.signature.params take_ended.kept = (stay_ref (0 ∷ []) tt (plain (λ _. B)), (stay_dropped (plain (λ _. Z)) yes, tt)) in
        let W = walk_of 𝓛 take_ended hs take_clauses in
        proved_at 𝓛 take_ended hs take_clauses 𝓜 𝓡
        (Goes-ref 𝓛 1 0 tt (plain (λ _. B)), (Goes-blank 𝓛 1 (plain (λ _. Z)) yes (λ κs x f. tt), tt)) self take_fn unfolded (λ z are.
        let κs = z.0.0 in let qs = z.0.1 in let κ = κs.0 in let q = qs.0 in let s = z.0.3.0 in let rb = s.ref_ptr.0 in let ro = s.ref_ptr.1
        in let h = s.now in let a = z.0.3.1.0 in let made : N.D = make (at h) None in
        let Post : Val → SProp 𝓤 = W.post z in let Run : List Val → SProp 𝓤 = λ ws. WpFn 𝓤 H 𝓣.C 𝓣.Λ take_fn ws Post in
        qed 𝓛 (((‵ (flft κ q) ⊛ ‵ ftrue) ⊛ ‵ (owns (types_at take_ended.signature.params κs) z.0.3 z.0.4)) ∷ raw (fact 𝓤 (IsSome (held h))) ∷ []) ∵
        move ! (1 ∷ []) $ heard ! (IsSome (held h)) (λ has. split ! $ split ! $ move ! (2 ∷ []) $ fsplit ! $ move ! (1 ∷ []) $ fsplit ! $
        handle_tells (al R Z LZ g) ! a z.0.4.1.0 (λ hv eh fits. move ! (2 ∷ []) $ fsplit3 ! $ feq_l ! (λ es.
        suffices ! (Run (vptr rb ro ∷ hv ∷ [])) (subst (λ (us : List Val). ent 𝓤 (Run (vptr rb ro ∷ hv ∷ [])) (Run us))
        (λ i. sym es i ++ (sym eh i ++ [])) (id⊢ 𝓤 (Run (vptr rb ro ∷ hv ∷ [])))) $
        enter ! 𝓣.C 𝓣.Λ take_fn (vptr rb ro ∷ hv ∷ []) Post $ alloc_all ! (λ l. pass_all ! refl ((tt, tt), (fits, tt)) $
        move ! (0 ∷ 1 ∷ 4 ∷ []) $ opens ! tt B rb ro
        (λ us. move ! (1 ∷ []) $ fsplit ! $ fpick ! (λ vss. fsplit ! $ feq_l ! (λ ev. fsplit ! $ feq_l ! (λ ep. drop ! $
        held_out R ! (at h) (held h) has (λ b o x e m.
        let ws : us ≡ word b o ∷ [] = subst (λ (p : Ptr). us ≡ vstruct (of_list (ptr_val p ∷ [])) ∷ []) e
        (subst (λ (ps : List Val). us ≡ vstruct (of_list (ps ++ [])) ∷ []) ep ev) in
        let to : block_ptr b o ≡ at made = sym (at_made (at h) None ∙ e) in
        rewrite ! 1 (λ (xs : List Val). ‵ (cell_at full_share B.mir xs rb ro)) ws refl $
        sets ! (of_opd ! (load ! (through ! refl (fld ! refl (stop !))) (look_in ! 1 (sub ! 0 refl (whole !))))) refl (tt, tt) $
        sets ! (of_opd ! (get ! refl)) refl (tt, tt) $
        sets ! (agg ! (and_then ! (get ! refl) (and_then ! (get ! refl) (no_more !)))) refl (loose_good R Z LZ g b o hv fits) $
        nothing ! $ rewrite ! 0 (λ (y : Option R.Denot). ‵ (owns_held R (at made) y)) (sym (held_made (at h) None)) refl $
        nothing ! $ feq_i ! (List Val) (vptr b o ∷ []) (ptr_val (at made) ∷ []) (ap (λ (p : Ptr). ptr_val p ∷ []) to) $ fjoin ! $
        feq_i ! (List Val) (word b o ∷ []) (word b o ∷ []) refl $ fjoin ! $
        fpack ! (Valss (RawPtr ∷ [])) (within (shape the_type) (at made, tt) (word b o ∷ [])) (vptr b o ∷ [], tt) $ fjoin ! $
        move ! (2 ∷ 0 ∷ 3 ∷ 4 ∷ 5 ∷ []) $ closes ! tt B made (word b o ∷ []) rb ro $
        returns ! (look_at ! 0 refl) $ free_all ! refl $ move ! (3 ∷ 4 ∷ []) $ loose_in R Z LZ g ! b o hv a x $
        suffices ! _ (ends_at 𝓛 take_ended hs take_clauses z (both (vptr b o) hv) (record { at = block_ptr b o; alloc = a; value = x })
        (made, (tt, tt)) (tt, (tt, tt))) $ says_two ! (sym m, held_made (at h) None) $
        feq_i ! (List Val) z.0.4.0 (vptr rb ro ∷ []) es $ move ! (0 ∷ 2 ∷ 3 ∷ []) $ group ! 3 $ nothing ! $ nothing ! $ join ! $ move ! (1 ∷ 0 ∷ []) $ join ! $
        nothing ! $ move ! (3 ∷ 0 ∷ []) $ join ! $ keep ! (0 ∷ 1 ∷ 2 ∷ []) $ frame ! $ frame ! $ done !))))))))))

-- Names that wait for the ends of their bodies.
use Rattle.std.proofs.Common.{◌≡◌, ◌+◌, ◌-◌, ◌<◌, ◌≤◌, ℕ, zero, suc, Bool, true, false, cond, ◌&&◌, List, [], ◌∷◌, ◌++◌, length, refl, sym, ap, subst, ◌∙◌, arith, get_or, slice_set, Some, None, Option, ap₂, length-append}
use Rattle.std.specs.Prelude.{nat_eq, nat_le, unwrap_or}
use Rattle.std.proofs.lemmas.Bool.Decides.{nat_tests}
use Rattle.std.proofs.lemmas.List.{map_push}
use Rattle.smap_declarations.specs.Bodies.{end_from}
use Rattle.smap_declarations.specs.Declarations.{Named}
use Rattle.smap_declarations.specs.Private.Found.{all_named, named, named_until}
use Rattle.smap_declarations.specs.Private.Waiting.{AreWaiting, ended_from, last_waiting, others_waiting, with_end, with_ends}
use Rattle.smap_declarations.specs.Walk.{place_after}
use Rattle.smap_declarations.specs.declared.bodies.Waiting.{Waiting}
use Rattle.smap_declarations.specs.declared.naming.Found.{Found}
use Rattle.smap_declarations.specs.declared.walk.DeclarationPlace.{DeclarationPlace}

-- ---- one of a list with another end

end_keeps_length : (i : ℕ) (p : DeclarationPlace) (all : List Named) → length (with_end i p all) ≡ length all
unfolding with_end
end_keeps_length i p [] = refl
end_keeps_length zero p (n ∷ all) = refl
end_keeps_length (suc i) p (n ∷ all) = ap suc (end_keeps_length i p all)

end_before_more : (i : ℕ) (p : DeclarationPlace) (all more : List Named) → i < length all → with_end i p (all ++ more) ≡ with_end i p all ++ more
unfolding with_end
end_before_more i p [] more within = absurd (omega (arith, within))
end_before_more zero p (n ∷ all) more within = refl
end_before_more (suc i) p (n ∷ all) more within = ap (λ l. n ∷ l) (end_before_more i p all more (omega (arith, within)))

end_of_last : (p : DeclarationPlace) (all : List Named) (n : Named) → with_end (length all) p (all ++ n ∷ []) ≡ all ++ (record n { until = p }) ∷ []
unfolding with_end
end_of_last p [] n = refl
end_of_last p (m ∷ all) n = ap (λ l. m ∷ l) (end_of_last p all n)

-- ---- all that wait

waits_within : (most most' count count' : ℕ) (ws : List Waiting) → most ≤ most' → count ≤ count' → AreWaiting most count ws → AreWaiting most' count' ws
unfolding AreWaiting
waits_within most most' count count' [] far many order = tt
waits_within most most' count count' (w ∷ ws) far many order =
    (omega (arith, far, order.0), omega (arith, many, order.1), waits_within w.level w.level count count' ws (omega arith) many order.2)

pub waits_further : (most most' count : ℕ) (ws : List Waiting) → most ≤ most' → AreWaiting most count ws → AreWaiting most' count ws
waits_further most most' count ws far order = waits_within most most' count count ws far (omega arith) order

pub ends_alike : (f g : ℕ → DeclarationPlace) (most count : ℕ) (ws : List Waiting) (all : List Named) → AreWaiting most count ws → ((l : ℕ) → l ≤ most → f l ≡ g l)
    → with_ends f ws all ≡ with_ends g ws all
unfolding with_ends AreWaiting
ends_alike f g most count [] all order same = refl
ends_alike f g most count (w ∷ ws) all order same =
    ap (λ p. with_ends f ws (with_end w.index p all)) (same w.level order.0)
    ∙ ends_alike f g w.level count ws (with_end w.index (g w.level) all) order.2 (λ l less. same l (omega (arith, less, order.0)))

ends_before_more : (f : ℕ → DeclarationPlace) (most : ℕ) (ws : List Waiting) (all more : List Named) → AreWaiting most (length all) ws
    → with_ends f ws (all ++ more) ≡ with_ends f ws all ++ more
unfolding with_ends AreWaiting
ends_before_more f most [] all more order = refl
ends_before_more f most (w ∷ ws) all more order =
    ap (with_ends f ws) (end_before_more w.index (f w.level) all more order.1)
    ∙ ends_before_more f w.level ws (with_end w.index (f w.level) all) more
    (subst (λ n. AreWaiting w.level n ws) (sym (end_keeps_length w.index (f w.level) all)) order.2)

-- one more, which waits
pub one_waits : (f : ℕ → DeclarationPlace) (level : ℕ) (ws : List Waiting) (all : List Named) (n : Named) → AreWaiting level (length all) ws
    → with_ends f ((record { index = length all; level = level }) ∷ ws) (all ++ n ∷ []) ≡ with_ends f ws all ++ (record n { until = f level }) ∷ []
unfolding with_ends
one_waits f level ws all n order =
    ap (with_ends f ws) (end_of_last (f level) all n)
    ∙ ends_before_more f level ws all ((record n { until = f level }) ∷ []) order

pub one_is_waiting : (level count : ℕ) (ws : List Waiting) → AreWaiting level count ws → AreWaiting level (count + 1) ((record { index = count; level = level }) ∷ ws)
unfolding AreWaiting
one_is_waiting level count ws order = (omega arith, omega arith, waits_within level level count (count + 1) ws (omega arith) (omega arith) order)

-- ---- a byte

pub opened : (level around : ℕ) (place : DeclarationPlace) (text : List ℕ) → around ≤ level
    → end_from (level + 1 - around) (place_after place 0x7B text) text ≡ end_from (level - around) place (0x7B ∷ text)
unfolding end_from
opened level around place text within =
    let more : level + 1 - around ≡ level - around + 1 = omega (arith, within) in
    ap (λ d. end_from d (place_after place 0x7B text) text) more

closed_here : (depth : ℕ) (place : DeclarationPlace) (text : List ℕ) → nat_le depth 1 ≡ true → end_from depth place (0x7D ∷ text) ≡ place
unfolding end_from
closed_here depth place text few = ap (λ b. cond b place (end_from (depth - 1) (place_after place 0x7D text) text)) few

closed_within : (depth : ℕ) (place : DeclarationPlace) (text : List ℕ) → nat_le depth 1 ≡ false
    → end_from depth place (0x7D ∷ text) ≡ end_from (depth - 1) (place_after place 0x7D text) text
unfolding end_from
closed_within depth place text many = ap (λ b. cond b place (end_from (depth - 1) (place_after place 0x7D text) text)) many

le_true : (d : ℕ) → d ≤ 1 → nat_le d 1 ≡ true
le_true d few = grind (arith, nat_tests)

le_false : (d : ℕ) → 1 < d → nat_le d 1 ≡ false
le_false d many = grind (arith, nat_tests)

-- those that a `}` ends
pub ends_first : (level : ℕ) (place : DeclarationPlace) (text : List ℕ) (w : Waiting) (ws : List Waiting) (all : List Named) → level - w.level ≤ 1
    → ended_from level place (0x7D ∷ text) (w ∷ ws) all ≡ ended_from level place (0x7D ∷ text) ws (with_end w.index place all)
unfolding with_ends
ends_first level place text w ws all few =
    ap (λ p. with_ends (λ around. end_from (level - around) place (0x7D ∷ text)) ws (with_end w.index p all))
    (closed_here (level - w.level) place text (le_true (level - w.level) few))

-- those that it does not end
pub ends_none : (level count most : ℕ) (place : DeclarationPlace) (text : List ℕ) (ws : List Waiting) (all : List Named) → AreWaiting most count ws → most + 2 ≤ level
    → ended_from (level - 1) (place_after place 0x7D text) text ws all ≡ ended_from level place (0x7D ∷ text) ws all
ends_none level count most place text ws all order below =
    ends_alike (λ around. end_from (level - 1 - around) (place_after place 0x7D text) text) (λ around. end_from (level - around) place (0x7D ∷ text))
    most count ws all order
    (λ around less.
    let many : 1 < level - around = omega (arith, less, below) in
    let one : level - 1 - around ≡ level - around - 1 = omega arith in
    ap (λ d. end_from d (place_after place 0x7D text) text) one
    ∙ sym (closed_within (level - around) place text (le_false (level - around) many)))

-- at the text's end all do
pub ends_at_last : (level : ℕ) (place : DeclarationPlace) (w : Waiting) (ws : List Waiting) (all : List Named)
    → ended_from level place [] (w ∷ ws) all ≡ ended_from level place [] ws (with_end w.index place all)
unfolding with_ends end_from
ends_at_last level place w ws all = refl

-- a byte that is no brace
pub passed_by : (level : ℕ) (place : DeclarationPlace) (c : ℕ) (text : List ℕ) → nat_eq c 0x7B ≡ false → nat_eq c 0x7D ≡ false
    → end_from level (place_after place c text) text ≡ end_from level place (c ∷ text)
unfolding end_from
passed_by level place c text no_begin no_end =
    sym (ap (λ b. cond (b && nat_le level 1) place (end_from (cond (nat_eq c 0x7B) (level + 1) (cond b (level - 1) level)) (place_after place c text) text)) no_end
    ∙ ap (λ b. end_from (cond b (level + 1) level) (place_after place c text) text) no_begin)

pub others_pass_by : (level count : ℕ) (place : DeclarationPlace) (c : ℕ) (text : List ℕ) (ws : List Waiting) (all : List Named) → AreWaiting level count ws
    → nat_eq c 0x7B ≡ false → nat_eq c 0x7D ≡ false
    → ended_from level (place_after place c text) text ws all ≡ ended_from level place (c ∷ text) ws all
others_pass_by level count place c text ws all order no_begin no_end =
    ends_alike (λ around. end_from (level - around) (place_after place c text) text) (λ around. end_from (level - around) place (c ∷ text))
    level count ws all order (λ around less. passed_by (level - around) place c text no_begin no_end)

pub all_opened : (level count : ℕ) (place : DeclarationPlace) (text : List ℕ) (ws : List Waiting) (all : List Named) → AreWaiting level count ws
    → ended_from (level + 1) (place_after place 0x7B text) text ws all ≡ ended_from level place (0x7B ∷ text) ws all
all_opened level count place text ws all order =
    ends_alike (λ around. end_from (level + 1 - around) (place_after place 0x7B text) text) (λ around. end_from (level - around) place (0x7B ∷ text))
    level count ws all order (λ around less. opened level around place text less)

-- the last with its end, and the others
pub end_is_set : (items new : List Found) (i : ℕ) (p : DeclarationPlace) (d : Found) → i < length items
    → new ≡ slice_set items i (record (get_or items i d) { until = p }) → all_named new ≡ with_end i p (all_named items)
unfolding with_end
end_is_set [] new i p d within is = absurd (omega (arith, within))
end_is_set (x ∷ items) new zero p d within is = ap all_named is
end_is_set (x ∷ items) new (suc i) p d within is =
    ap all_named is ∙ ap (λ l. named x ∷ l) (end_is_set items (slice_set items i (record (get_or items i d) { until = p })) i p d (omega (arith, within)) refl)

-- ---- the last of them

pub set_keeps_length : (items : List Found) (i : ℕ) (x : Found) → length (slice_set items i x) ≡ length items
set_keeps_length [] i x = refl
set_keeps_length (y ∷ items) zero x = refl
set_keeps_length (y ∷ items) (suc i) x = ap suc (set_keeps_length items i x)

split_last : (ws : List Waiting) (w : Waiting) → Some w ≡ last_waiting ws → ws ≡ w ∷ others_waiting ws
split_last [] w is = absurd (cc)
split_last (v ∷ ws) w is = ap (λ o. unwrap_or o v ∷ ws) (sym is)

pub last_waits : (most count : ℕ) (ws : List Waiting) (w : Waiting) → Some w ≡ last_waiting ws → AreWaiting most count ws → (w.level ≤ most) × (w.index < count)
unfolding AreWaiting
last_waits most count ws w is order =
    let whole = subst (AreWaiting most count) (split_last ws w is) order in
    (whole.0, whole.1)

pub others_wait : (most count : ℕ) (ws : List Waiting) (w : Waiting) → Some w ≡ last_waiting ws → AreWaiting most count ws → AreWaiting most count (others_waiting ws)
unfolding AreWaiting
others_wait most count ws w is order =
    let whole = subst (AreWaiting most count) (split_last ws w is) order in
    waits_further w.level most count (others_waiting ws) whole.0 whole.2

-- where the last has more than one brace behind it, so have all
pub none_ends : (level count most : ℕ) (place : DeclarationPlace) (text : List ℕ) (ws : List Waiting) (w : Waiting) (all : List Named) → Some w ≡ last_waiting ws
    → AreWaiting most count ws → 1 < level - w.level
    → (ended_from (level - 1) (place_after place 0x7D text) text ws all ≡ ended_from level place (0x7D ∷ text) ws all) × AreWaiting (level - 1) count ws
unfolding AreWaiting
none_ends level count most place text ws w all is order many =
    let whole = subst (AreWaiting most count) (split_last ws w is) order in
    let own : AreWaiting w.level count (w ∷ others_waiting ws) = (omega arith, whole.1, whole.2) in
    let here = subst (AreWaiting w.level count) (sym (split_last ws w is)) own in
    (ends_none level count w.level place text ws all here (omega (arith, many)), waits_further w.level (level - 1) count ws (omega (arith, many)) here)

-- the last one has its end, which a `}` gives it
pub last_ends : (level : ℕ) (place : DeclarationPlace) (text : List ℕ) (ws : List Waiting) (w : Waiting) (items new : List Found) (d : Found) (total : List Named)
    → Some w ≡ last_waiting ws → w.index < length items → level - w.level ≤ 1 → new ≡ slice_set items w.index (record (get_or items w.index d) { until = place })
    → ended_from level place (0x7D ∷ text) ws (all_named items) ≡ total
    → ended_from level place (0x7D ∷ text) (others_waiting ws) (all_named new) ≡ total
last_ends level place text ws w items new d total is within few set so_far =
    ap (ended_from level place (0x7D ∷ text) (others_waiting ws)) (end_is_set items new w.index place d within set)
    ∙ sym (ends_first level place text w (others_waiting ws) (all_named items) few)
    ∙ ap (λ v. ended_from level place (0x7D ∷ text) v (all_named items)) (sym (split_last ws w is))
    ∙ so_far

-- or which the text's end gives it
pub last_ends_with_text : (level : ℕ) (place : DeclarationPlace) (ws : List Waiting) (w : Waiting) (items new : List Found) (d : Found) (total : List Named)
    → Some w ≡ last_waiting ws → w.index < length items → new ≡ slice_set items w.index (record (get_or items w.index d) { until = place })
    → ended_from level place [] ws (all_named items) ≡ total
    → ended_from level place [] (others_waiting ws) (all_named new) ≡ total
last_ends_with_text level place ws w items new d total is within set so_far =
    ap (ended_from level place [] (others_waiting ws)) (end_is_set items new w.index place d within set)
    ∙ sym (ends_at_last level place w (others_waiting ws) (all_named items))
    ∙ ap (λ v. ended_from level place [] v (all_named items)) (sym (split_last ws w is))
    ∙ so_far

no_last : (ws : List Waiting) → None ≡ last_waiting ws → ws ≡ []
no_last [] is = refl
no_last (w ∷ ws) is = absurd (cc)

-- where none is left
pub none_left : (ends ends' : ℕ → DeclarationPlace) (ws : List Waiting) (all : List Named) → None ≡ last_waiting ws → with_ends ends ws all ≡ with_ends ends' ws all
unfolding with_ends
none_left ends ends' ws all is = ap (λ v. with_ends ends v all) (no_last ws is) ∙ sym (ap (λ v. with_ends ends' v all) (no_last ws is))

pub nothing_left : (ends : ℕ → DeclarationPlace) (ws : List Waiting) (all : List Named) → None ≡ last_waiting ws → with_ends ends ws all ≡ all
unfolding with_ends
nothing_left ends ws all is = ap (λ v. with_ends ends v all) (no_last ws is)

pub none_waits : (most' count' : ℕ) (ws : List Waiting) → None ≡ last_waiting ws → AreWaiting most' count' ws
unfolding AreWaiting
none_waits most' count' ws is = subst (AreWaiting most' count') (sym (no_last ws is)) tt

named_alike : (items : List Found) → length (all_named items) ≡ length items
named_alike [] = refl
named_alike (x ∷ items) = ap suc (named_alike items)

-- one more is found, which waits
pub pushed : (ends : ℕ → DeclarationPlace) (level index : ℕ) (ws ws' : List Waiting) (items items' : List Found) (n : Found) → AreWaiting level (length items) ws
    → index ≡ length items → ws' ≡ (record { index = index; level = level }) ∷ ws → items' ≡ items ++ n ∷ []
    → with_ends ends ws' (all_named items') ≡ with_ends ends ws (all_named items) ++ named_until (ends level) n ∷ []
pushed ends level index ws ws' items items' n order index_is ws_is items_is =
    let long : length (all_named items) ≡ length items = named_alike items in
    let waits : ℕ → Waiting = λ k. record { index = k; level = level } in
    ap₂ (λ (b : List Waiting) (f : List Found). with_ends ends b (all_named f)) ws_is items_is
    ∙ ap (with_ends ends (waits index ∷ ws)) (map_push named items n)
    ∙ ap (λ k. with_ends ends (waits k ∷ ws) (all_named items ++ named n ∷ [])) (index_is ∙ sym long)
    ∙ one_waits ends level ws (all_named items) (named n) (subst (λ k. AreWaiting level k ws) (sym long) order)

pub pushed_waits : (level index : ℕ) (ws ws' : List Waiting) (items items' : List Found) (n : Found) → AreWaiting level (length items) ws
    → index ≡ length items → ws' ≡ (record { index = index; level = level }) ∷ ws → items' ≡ items ++ n ∷ [] → AreWaiting level (length items') ws'
unfolding AreWaiting
pushed_waits level index ws ws' items items' n order index_is ws_is items_is =
    let more : length items' ≡ length items + 1 = ap length items_is ∙ length-append items (n ∷ []) in
    subst (AreWaiting level (length items')) (sym ws_is)
    (omega arith, omega (arith, more, index_is), waits_within level level (length items) (length items') ws (omega arith) (omega (arith, more)) order)

pub all_opened_by : (level count : ℕ) (place : DeclarationPlace) (c : ℕ) (text : List ℕ) (ws : List Waiting) (all : List Named) → AreWaiting level count ws → c ≡ 0x7B
    → ended_from (level + 1) (place_after place c text) text ws all ≡ ended_from level place (c ∷ text) ws all
all_opened_by level count place c text ws all order is =
    subst (λ d. ended_from (level + 1) (place_after place d text) text ws all ≡ ended_from level place (d ∷ text) ws all) (sym is)
    (all_opened level count place text ws all order)

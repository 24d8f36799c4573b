-- A root that is read byte by byte.
use Rattle.std.proofs.Common.{◌≡◌, ◌==◌, ◌&&◌, ◌||◌, ℕ, Bool, true, false, cond, not, List, [], ◌∷◌, codes, refl, sym, ap, ◌∙◌, arith}
use Rattle.std.proofs.Math.Bool.{or_assoc}
use Rattle.std.proofs.lemmas.Bool.{eqb-true}
use Rattle.std.proofs.lemmas.Bool.Decides.{nat_tests}
use Rattle.std.specs.Char.{is_ascii_alphabetic, is_ascii_digit}
use Rattle.std.specs.List.{fold, list_all, list_any}
use Rattle.smap_pairs.specs.Private.PathReading.{is_root_read, root_after, root_in_host}
use Rattle.smap_pairs.specs.Root.{behind, is_empty, is_host_byte, is_of_name, is_port, is_root, is_text, until}
use Rattle.smap_pairs.specs.declared.root.Root.{Root}
use Rattle.smap_pairs.specs.declared.root.Root.TheVariants.{Begins, Drive, F, Fi, Fil, File, Host, Colon, Port, Other}

abbrev reads : Root → List ℕ → Bool
reads root piece = is_root_read (fold root_after root piece)

other_reads : (piece : List ℕ) → reads Other piece ≡ false
other_reads [] = refl
other_reads (byte ∷ piece) = other_reads piece

port_reads : (piece : List ℕ) → reads Port piece ≡ list_all is_ascii_digit piece
port_reads [] = refl
port_reads (byte ∷ piece) = go (is_ascii_digit byte) (port_reads piece)
  where
    go : (on : Bool) → reads Port piece ≡ list_all is_ascii_digit piece → reads (cond on Port Other) piece ≡ (on && list_all is_ascii_digit piece)
    go true more = more
    go false more = other_reads piece

colon_reads : (is_whole : Bool) (piece : List ℕ) → reads (Colon is_whole) piece ≡ (is_whole && is_empty piece || not (is_empty piece) && list_all is_ascii_digit piece)
colon_reads true [] = refl
colon_reads false [] = refl
colon_reads is_whole (byte ∷ piece) = go is_whole (is_ascii_digit byte)
  where
    go : (whole on : Bool) → reads (cond on Port Other) piece ≡ (whole && false || (on && list_all is_ascii_digit piece))
    go true true = port_reads piece
    go false true = port_reads piece
    go true false = other_reads piece
    go false false = other_reads piece

-- a host and its port, of which a byte of a name has been read or not
abbrev host_in : (is_named : Bool) → (piece : List ℕ) → Bool
host_in is_named piece = list_all is_host_byte (until 58 piece) && (is_named || list_any is_of_name (until 58 piece)) && is_port (behind 58 piece)

colon_is_no_host : (byte : ℕ) → (byte == 58) ≡ true → is_host_byte byte ≡ false
colon_is_no_host byte is = grind (arith, nat_tests)

host_colon : (is_named : Bool) (byte : ℕ) (piece : List ℕ) → (byte == 58) ≡ true → host_in is_named (byte ∷ piece) ≡ (is_named && not (is_empty piece) && list_all is_ascii_digit piece)
host_colon true byte piece is = rw is refl
host_colon false byte piece is = rw is refl

host_on : (is_named : Bool) (byte : ℕ) (piece : List ℕ) → (byte == 58) ≡ false → is_host_byte byte ≡ true
    → host_in is_named (byte ∷ piece) ≡ host_in (is_named || is_of_name byte) piece
host_on true byte piece off on = rw (off, on) refl
host_on false byte piece off on = rw (off, on) refl

host_off : (is_named : Bool) (byte : ℕ) (piece : List ℕ) → (byte == 58) ≡ false → is_host_byte byte ≡ false → host_in is_named (byte ∷ piece) ≡ false
host_off is_named byte piece off on = rw (off, on) refl

-- what is read behind a byte of a host
host_after : (is_named : Bool) (byte : ℕ) (piece : List ℕ) → (byte == 58) ≡ false
    → ((named : Bool) → reads (Host named) piece ≡ host_in named piece) → reads (root_in_host is_named byte) piece ≡ host_in is_named (byte ∷ piece)
host_after is_named byte piece off more = go (is_host_byte byte) refl
  where
    go : (on : Bool) → is_host_byte byte ≡ on → reads (root_in_host is_named byte) piece ≡ host_in is_named (byte ∷ piece)
    go true on = ap (λ b. reads (cond b (Host (is_named || is_of_name byte)) Other) piece) on ∙ more (is_named || is_of_name byte) ∙ sym (host_on is_named byte piece off on)
    go false on = ap (λ b. reads (cond b (Host (is_named || is_of_name byte)) Other) piece) on ∙ other_reads piece ∙ sym (host_off is_named byte piece off on)

host_reads : (is_named : Bool) (piece : List ℕ) → reads (Host is_named) piece ≡ host_in is_named piece
host_reads true [] = refl
host_reads false [] = refl
host_reads true (byte ∷ piece) = go (byte == 58) refl (λ named. host_reads named piece)
  where
    go : (on : Bool) → (byte == 58) ≡ on → ((named : Bool) → reads (Host named) piece ≡ host_in named piece) → reads (Host true) (byte ∷ piece) ≡ host_in true (byte ∷ piece)
    go true on more = ap (λ b. reads (cond b (Colon false) (root_in_host true byte)) piece) on ∙ colon_reads false piece ∙ sym (host_colon true byte piece on)
    go false on more = ap (λ b. reads (cond b (Colon false) (root_in_host true byte)) piece) on ∙ host_after true byte piece on more
host_reads false (byte ∷ piece) = go (byte == 58) refl (λ named. host_reads named piece)
  where
    go : (on : Bool) → (byte == 58) ≡ on → ((named : Bool) → reads (Host named) piece ≡ host_in named piece) → reads (root_in_host false byte) piece ≡ host_in false (byte ∷ piece)
    go true on more =
        ap (λ b. reads (cond b (Host (is_of_name byte)) Other) piece) (colon_is_no_host byte on) ∙ other_reads piece ∙ sym (host_colon false byte piece on)
    go false on more = host_after false byte piece on more

-- ---- a drive, `file:`, and hosts that begin like these

abbrev or_host : (is_other : Bool) → (piece : List ℕ) → Bool
or_host is_other piece = is_other || host_in true piece

same_empty : (piece : List ℕ) → is_text [] piece ≡ is_empty piece
same_empty [] = refl
same_empty (byte ∷ piece) = refl

-- a `:` behind it
colon_of_root : (is_root : Bool) (byte : ℕ) (piece : List ℕ) → (byte == 58) ≡ true
    → reads (Colon is_root) piece ≡ or_host (is_root && is_text [] piece) (byte ∷ piece)
colon_of_root is_root byte piece on =
    colon_reads is_root piece ∙ ap (λ b. is_root && b || not (is_empty piece) && list_all is_ascii_digit piece) (sym (same_empty piece))
    ∙ ap (λ b. is_root && is_text [] piece || b) (sym (host_colon true byte piece on))

-- another byte behind it
byte_of_host : (byte : ℕ) (piece : List ℕ) → (byte == 58) ≡ false → reads (root_in_host true byte) piece ≡ host_in true (byte ∷ piece)
byte_of_host byte piece off = host_after true byte piece off (λ named. host_reads named piece)

-- behind a whole root
whole_reads : (byte : ℕ) (piece : List ℕ)
    → reads (cond (byte == 58) (Colon true) (root_in_host true byte)) piece ≡ or_host (is_text (codes ":") (byte ∷ piece)) (byte ∷ piece)
whole_reads byte piece = go (byte == 58) refl
  where
    go : (on : Bool) → (byte == 58) ≡ on
        → reads (cond on (Colon true) (root_in_host true byte)) piece ≡ or_host (on && is_text [] piece) (byte ∷ piece)
    go true on = colon_of_root true byte piece on
    go false on = byte_of_host byte piece on

-- behind a part of `file`, where this byte and then this root would follow
part_reads : (next : ℕ) (root : Root) (others : List ℕ) (is_whole : Bool) (byte : ℕ) (piece : List ℕ) → is_host_byte next ≡ true → (next == 58) ≡ false
    → reads root piece ≡ or_host (is_text others piece) piece
    → reads (cond (byte == 58) (Colon is_whole) (cond (byte == next) root (root_in_host true byte))) piece
    ≡ (is_whole && (byte == 58 && is_text [] piece) || or_host (is_text (next ∷ others) (byte ∷ piece)) (byte ∷ piece))
part_reads next root others is_whole byte piece host colon more = go is_whole (byte == 58) (byte == next) refl refl
  where
    go : (whole on same : Bool) → (byte == 58) ≡ on → (byte == next) ≡ same
        → reads (cond on (Colon whole) (cond same root (root_in_host true byte))) piece
        ≡ (whole && (on && is_text [] piece) || or_host (same && is_text others piece) (byte ∷ piece))
    go true true true is_on is_same = absurd (no is_on is_same)
      where
        no : (byte == 58) ≡ true → (byte == next) ≡ true → ⊥
        no is_on is_same = let a : byte ≡ 58 = eqb-true byte 58 is_on in let b : byte ≡ next = eqb-true byte next is_same in cc (colon, ap (λ n. n == 58) (sym b ∙ a))
    go false true true is_on is_same = absurd (no is_on is_same)
      where
        no : (byte == 58) ≡ true → (byte == next) ≡ true → ⊥
        no is_on is_same = let a : byte ≡ 58 = eqb-true byte 58 is_on in let b : byte ≡ next = eqb-true byte next is_same in cc (colon, ap (λ n. n == 58) (sym b ∙ a))
    go true true false is_on is_same = colon_of_root true byte piece is_on
    go false true false is_on is_same = colon_of_root false byte piece is_on
    go true false true is_on is_same = same_byte is_on is_same
      where
        same_byte : (byte == 58) ≡ false → (byte == next) ≡ true → reads root piece ≡ or_host (is_text others piece) (byte ∷ piece)
        same_byte is_on is_same =
            more ∙ ap (λ b. is_text others piece || b) (sym (host_on true byte piece is_on (ap is_host_byte (eqb-true byte next is_same) ∙ host)))
    go false false true is_on is_same = same_byte is_on is_same
      where
        same_byte : (byte == 58) ≡ false → (byte == next) ≡ true → reads root piece ≡ or_host (is_text others piece) (byte ∷ piece)
        same_byte is_on is_same =
            more ∙ ap (λ b. is_text others piece || b) (sym (host_on true byte piece is_on (ap is_host_byte (eqb-true byte next is_same) ∙ host)))
    go true false false is_on is_same = byte_of_host byte piece is_on
    go false false false is_on is_same = byte_of_host byte piece is_on

drive_reads : (piece : List ℕ) → reads Drive piece ≡ or_host (is_text (codes ":") piece) piece
drive_reads [] = refl
drive_reads (byte ∷ piece) = whole_reads byte piece

file_reads : (piece : List ℕ) → reads File piece ≡ or_host (is_text (codes ":") piece) piece
file_reads [] = refl
file_reads (byte ∷ piece) = whole_reads byte piece

fil_reads : (piece : List ℕ) → reads Fil piece ≡ or_host (is_text (codes "e:") piece) piece
fil_reads [] = refl
fil_reads (byte ∷ piece) = part_reads 101 File (codes ":") false byte piece refl refl (file_reads piece)

fi_reads : (piece : List ℕ) → reads Fi piece ≡ or_host (is_text (codes "le:") piece) piece
fi_reads [] = refl
fi_reads (byte ∷ piece) = part_reads 108 Fil (codes "e:") false byte piece refl refl (fil_reads piece)

f_reads : (piece : List ℕ) → reads F piece ≡ (is_text (codes ":") piece || or_host (is_text (codes "ile:") piece) piece)
f_reads [] = refl
f_reads (byte ∷ piece) = part_reads 105 Fi (codes "le:") true byte piece refl refl (fi_reads piece)

-- ---- all

letter_is_of_host : (byte : ℕ) → is_ascii_alphabetic byte ≡ true → ((byte == 58) ≡ false) × (is_host_byte byte ≡ true) × (is_of_name byte ≡ true)
letter_is_of_host byte is = (grind (arith, nat_tests), grind (arith, nat_tests), ap (λ b. b || byte == 46) is)

f_is_letter : (byte : ℕ) → (byte == 102) ≡ true → is_ascii_alphabetic byte ≡ true
f_is_letter byte is = grind (arith, nat_tests)

behind_letter : (byte : ℕ) (piece : List ℕ) → is_ascii_alphabetic byte ≡ true → host_in true piece ≡ host_in false (byte ∷ piece)
behind_letter byte piece is =
    let of = letter_is_of_host byte is in
    ap (λ b. host_in b piece) (sym of.2) ∙ sym (host_on false byte piece of.0 of.1)

pub root_reads : (piece : List ℕ) → is_root_read (fold root_after Begins piece) ≡ is_root piece
unfolding is_root
root_reads [] = refl
root_reads (byte ∷ piece) = go (byte == 102) (is_ascii_alphabetic byte) refl refl
  where
    other : (on : Bool) → (byte == 58) ≡ on → reads (root_in_host false byte) piece ≡ host_in false (byte ∷ piece)
    other true on =
        ap (λ b. reads (cond b (Host (is_of_name byte)) Other) piece) (colon_is_no_host byte on) ∙ other_reads piece ∙ sym (host_colon false byte piece on)
    other false on = host_after false byte piece on (λ named. host_reads named piece)

    go : (f letter : Bool) → (byte == 102) ≡ f → is_ascii_alphabetic byte ≡ letter
        → reads (cond f F (cond letter Drive (root_in_host false byte))) piece
        ≡ (letter && is_text (codes ":") piece || f && is_text (codes "ile:") piece || host_in false (byte ∷ piece))
    go true false f letter = absurd (cc (f_is_letter byte f, letter))
    go true true f letter =
        f_reads piece ∙ ap (λ b. is_text (codes ":") piece || (is_text (codes "ile:") piece || b)) (behind_letter byte piece letter)
        ∙ sym (or_assoc (is_text (codes ":") piece) (is_text (codes "ile:") piece) (host_in false (byte ∷ piece)))
    go false true f letter =
        drive_reads piece ∙ ap (λ b. is_text (codes ":") piece || b) (behind_letter byte piece letter)
        ∙ sym (or_assoc (is_text (codes ":") piece) false (host_in false (byte ∷ piece)))
    go false false f letter = other (byte == 58) refl

-- A path that is read byte by byte.
use Rattle.std.proofs.Common.{◌≡◌, ◌==◌, ◌&&◌, ◌||◌, ℕ, Bool, true, false, cond, not, List, [], ◌∷◌, ◌++◌, Some, refl, sym, ap, arith, ◌∙◌}
use Rattle.std.proofs.Math.Bool.{or_assoc, or-false}
use Rattle.std.proofs.lemmas.Bool.{eqb-true}
use Rattle.std.proofs.lemmas.List.{append-nil, append_assoc}
use Rattle.std.proofs.lemmas.List.Sums.{fold-append}
use Rattle.std.specs.List.{fold, list_all, list_any}
use Rattle.smap_pairs.proofs.RootLaws.{root_reads}
use Rattle.smap_pairs.specs.Bytes.{is_edge_byte, is_letter_or_digit}
use Rattle.smap_pairs.specs.Path.{before_next, begins_with_mark, has_plain_pieces, is_dots_or_home, is_first, is_of_no_path, is_path, is_path_of, last_byte}
use Rattle.smap_pairs.specs.Private.PathReading.{first_after, first_begins, is_name_with, is_path_begun, is_path_read, path_read, root_after, start_after}
use Rattle.smap_pairs.specs.Root.{behind, is_root, is_text, until}
use Rattle.smap_pairs.specs.declared.path.FirstPiece.{FirstPiece}
use Rattle.smap_pairs.specs.declared.path.PathReader.{PathReader}
use Rattle.smap_pairs.specs.declared.path.PathReader.TheVariants.{First, Later, Read}
use Rattle.smap_pairs.specs.declared.path.Start.{Start}
use Rattle.smap_pairs.specs.declared.path.Start.TheVariants.{Dots, Home, Mark, Name, Nothing}

-- ---- as what the first piece begins

abbrev pub started : Start → List ℕ → Start
started start piece = fold start_after start piece

name_stays : (piece : List ℕ) → started Name piece ≡ Name
name_stays [] = refl
name_stays (byte ∷ piece) = name_stays piece

mark_stays : (piece : List ℕ) → started Mark piece ≡ Mark
mark_stays [] = refl
mark_stays (byte ∷ piece) = mark_stays piece

dots_read : (has : Bool) (piece : List ℕ) → is_name_with has (started Dots piece) ≡ (has || list_all (λ byte. byte == 46) piece)
dots_read true [] = refl
dots_read false [] = refl
dots_read has (byte ∷ piece) = go has (byte == 46) (dots_read has piece)
  where
    go : (has dot : Bool) → is_name_with has (started Dots piece) ≡ (has || list_all (λ byte. byte == 46) piece)
        → is_name_with has (started (cond dot Dots Name) piece) ≡ (has || dot && list_all (λ byte. byte == 46) piece)
    go has true more = more
    go true false more = ap (is_name_with true) (name_stays piece)
    go false false more = ap (is_name_with false) (name_stays piece)

home_read : (has : Bool) (piece : List ℕ) → is_name_with has (started Home piece) ≡ (has || is_text [] piece)
home_read true [] = refl
home_read false [] = refl
home_read true (byte ∷ piece) = ap (is_name_with true) (name_stays piece)
home_read false (byte ∷ piece) = ap (is_name_with false) (name_stays piece)

-- one that has a byte, with a letter or a digit or not
begun_read : (has : Bool) (byte : ℕ) (piece : List ℕ)
    → is_name_with has (started Nothing (byte ∷ piece)) ≡ (has && not (begins_with_mark (byte ∷ piece)) || is_dots_or_home (byte ∷ piece))
begun_read has byte piece = go has (byte == 46) (byte == 126) (byte == 43 || byte == 45) refl refl refl
  where
    go : (has dot home mark : Bool) → (byte == 46) ≡ dot → (byte == 126) ≡ home → (byte == 43 || byte == 45) ≡ mark
        → is_name_with has (started (cond dot Dots (cond home Home (cond mark Mark Name))) piece)
        ≡ (has && not mark || (dot && list_all (λ byte. byte == 46) piece || home && is_text [] piece))
    go has true true mark is_dot is_home is_mark =
        let one = eqb-true byte 46 is_dot in let other = eqb-true byte 126 is_home in absurd (omega arith)
    go has true false true is_dot is_home is_mark =
        let none : (byte == 43 || byte == 45) ≡ false = ap (λ b. b == 43 || b == 45) (eqb-true byte 46 is_dot) in cc
    go true true false false is_dot is_home is_mark = dots_read true piece
    go false true false false is_dot is_home is_mark = dots_read false piece ∙ sym (or-false (list_all (λ byte. byte == 46) piece))
    go has false true true is_dot is_home is_mark =
        let none : (byte == 43 || byte == 45) ≡ false = ap (λ b. b == 43 || b == 45) (eqb-true byte 126 is_home) in cc
    go true false true false is_dot is_home is_mark = home_read true piece
    go false false true false is_dot is_home is_mark = home_read false piece
    go true false false true is_dot is_home is_mark = ap (is_name_with true) (mark_stays piece)
    go false false false true is_dot is_home is_mark = ap (is_name_with false) (mark_stays piece)
    go true false false false is_dot is_home is_mark = ap (is_name_with true) (name_stays piece)
    go false false false false is_dot is_home is_mark = ap (is_name_with false) (name_stays piece)

name_read : (piece : List ℕ) → is_name_with (list_any is_letter_or_digit piece) (started Nothing piece)
    ≡ (list_any is_letter_or_digit piece && not (begins_with_mark piece) || is_dots_or_home piece)
name_read [] = refl
name_read (byte ∷ piece) = begun_read (list_any is_letter_or_digit (byte ∷ piece)) byte piece

module _ (is_strange : ℕ → Bool) where
  -- ---- the first piece

  abbrev first_read : FirstPiece → List ℕ → FirstPiece
  first_read first piece = fold (λ read byte. first_after (is_strange byte) byte read) first piece

  abbrev first_is : FirstPiece → List ℕ → FirstPiece
  first_is first piece = record {
    root = fold root_after first.root piece;
    last = last_byte first.last piece;
    start = started first.start piece;
    has_letter = first.has_letter || list_any is_letter_or_digit piece;
    has_strange = first.has_strange || list_any is_strange piece;
    has_colon = first.has_colon || list_any (λ byte. byte == 58) piece;
  }

  all_read : (first : FirstPiece) (piece : List ℕ) → first_read first piece ≡ first_is first piece
  all_read first [] = λ i. record {
    root = first.root;
    last = first.last;
    start = first.start;
    has_letter = sym (or-false first.has_letter) i;
    has_strange = sym (or-false first.has_strange) i;
    has_colon = sym (or-false first.has_colon) i;
  }
  all_read first (byte ∷ piece) =
      all_read (first_after (is_strange byte) byte first) piece ∙ λ i. record {
        root = fold root_after first.root (byte ∷ piece);
        last = last_byte byte piece;
        start = started first.start (byte ∷ piece);
        has_letter = or_assoc first.has_letter (is_letter_or_digit byte) (list_any is_letter_or_digit piece) i;
        has_strange = or_assoc first.has_strange (is_strange byte) (list_any is_strange piece) i;
        has_colon = or_assoc first.has_colon (byte == 58) (list_any (λ byte. byte == 58) piece) i;
      }

  begun : (piece : List ℕ) → is_path_begun (first_read first_begins piece) ≡ is_first is_strange piece
  begun piece =
      ap is_path_begun (all_read first_begins piece)
      ∙ ap (λ b. b || not (list_any (λ byte. byte == 58) piece) && not (is_edge_byte (last_byte 47 piece))
      && (is_name_with (list_any is_letter_or_digit piece) (started Nothing piece) && not (list_any is_strange piece))) (root_reads piece)
      ∙ ap (λ b. is_root piece || not (list_any (λ byte. byte == 58) piece) && not (is_edge_byte (last_byte 47 piece))
      && (b && not (list_any is_strange piece))) (name_read piece)

  -- ---- what stands behind it

  abbrev reads : PathReader → List ℕ → Bool
  reads reader url = is_path_read (path_read is_strange reader url)

  read_stays : (is_path : Bool) (url : List ℕ) → reads (Read is_path) url ≡ is_path
  read_stays is_path [] = refl
  read_stays is_path (byte ∷ url) = read_stays is_path url

  later_reads : (last : ℕ) (url : List ℕ) → reads (Later last) url ≡ has_plain_pieces last (until 63 url)
  later_reads last [] = refl
  later_reads last (byte ∷ url) = go (byte == 63) (is_of_no_path byte || byte == 47 && is_edge_byte last) refl (later_reads (before_next last byte) url)
    where
      go : (query bad : Bool) → (is_of_no_path byte || byte == 47 && is_edge_byte last) ≡ bad
          → reads (Later (before_next last byte)) url ≡ has_plain_pieces (before_next last byte) (until 63 url)
          → reads (cond query (Read true) (cond bad (Read false) (Later (before_next last byte)))) url ≡ has_plain_pieces last (cond query [] (byte ∷ until 63 url))
      go true bad is more = read_stays true url
      go false true is more = read_stays false url ∙ ap (λ b. not b && has_plain_pieces (before_next last byte) (until 63 url)) (sym is)
      go false false is more = more ∙ ap (λ b. not b && has_plain_pieces (before_next last byte) (until 63 url)) (sym is)

  -- ---- all

  with_byte : (read : List ℕ) (byte : ℕ) → first_read first_begins (read ++ byte ∷ []) ≡ first_after (is_strange byte) byte (first_read first_begins read)
  with_byte read byte = fold-append (λ first one. first_after (is_strange one) one first) first_begins read (byte ∷ [])

  abbrev Behind : (read url : List ℕ) → Type 0
  Behind read url = reads (First (first_read first_begins read)) url ≡ is_path_of is_strange (read ++ until 47 (until 63 url)) (behind 47 (until 63 url))

  first_reads : (read url : List ℕ) → Behind read url
  first_reads read [] = refl
  first_reads read (byte ∷ url) = at_query (byte == 63) (first_reads (read ++ byte ∷ []) url)
    where
      at_slash : (begun_is : Bool) → is_path_begun (first_read first_begins read) ≡ begun_is
          → reads (cond begun_is (Later 47) (Read false)) url ≡ (is_first is_strange (read ++ []) && has_plain_pieces 47 (until 63 url))
      at_slash true is =
          later_reads 47 url
          ∙ ap (λ b. b && has_plain_pieces 47 (until 63 url)) (sym (ap (is_first is_strange) (append-nil read) ∙ sym (begun read) ∙ is))
      at_slash false is =
          read_stays false url
          ∙ ap (λ b. b && has_plain_pieces 47 (until 63 url)) (sym (ap (is_first is_strange) (append-nil read) ∙ sym (begun read) ∙ is))

      in_path : (slash : Bool) → Behind (read ++ byte ∷ []) url
          → reads (cond slash (cond (is_path_begun (first_read first_begins read)) (Later 47) (Read false)) (First (first_after (is_strange byte) byte (first_read first_begins read)))) url
          ≡ is_path_of is_strange (read ++ cond slash [] (byte ∷ until 47 (until 63 url))) (cond slash (Some (until 63 url)) (behind 47 (until 63 url)))
      in_path true more = at_slash (is_path_begun (first_read first_begins read)) refl
      in_path false more =
          ap (λ first. reads (First first) url) (sym (with_byte read byte)) ∙ more
          ∙ ap (λ first. is_path_of is_strange first (behind 47 (until 63 url))) (append_assoc read (byte ∷ []) (until 47 (until 63 url)))

      at_query : (query : Bool) → Behind (read ++ byte ∷ []) url
          → reads (cond query (Read true) (cond (byte == 47) (cond (is_path_begun (first_read first_begins read)) (Later 47) (Read false)) (First (first_after (is_strange byte) byte (first_read first_begins read))))) url
          ≡ is_path_of is_strange (read ++ until 47 (cond query [] (byte ∷ until 63 url))) (behind 47 (cond query [] (byte ∷ until 63 url)))
      at_query true more = read_stays true url
      at_query false more = in_path (byte == 47) more

  pub path_reads : (url : List ℕ) → is_path_read (path_read is_strange (First first_begins) url) ≡ is_path is_strange url
  unfolding is_path
  path_reads url = first_reads [] url

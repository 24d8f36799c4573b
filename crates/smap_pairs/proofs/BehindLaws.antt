-- The first piece of what stands behind a name, and a byte before it.
use Rattle.std.proofs.Common.{◌≡◌, ◌==◌, ◌||◌, ◌&&◌, ◌+◌, ℕ, suc, Bool, true, false, cond, not, List, [], ◌∷◌, ap, arith, drop, refl, sym, take, ◌∙◌}
use Rattle.std.specs.List.{list_all, onto_first, prefix_len, slice_split}
use Rattle.std.proofs.lemmas.Bool.{eqb-true}
use Rattle.smap_pairs.specs.Behind.{begins_query, has_backslash, without_query}
use Rattle.smap_pairs.specs.FilePaths.{is_file_name, is_file_path}
use Rattle.smap_pairs.specs.Private.Rest.{IsPiece, has_path_behind, is_in_piece, piece_with}
use Rattle.smap_pairs.specs.declared.behind.Piece.{Piece}

one_more : (n : ℕ) → 1 + n ≡ suc n
one_more n = omega arith

-- ---- the query

take_one_more : (n byte : ℕ) (text : List ℕ) → take (1 + n) (byte ∷ text) ≡ byte ∷ take n text
take_one_more n byte text = ap (λ k. take k (byte ∷ text)) (one_more n)

drop_one_more : (n byte : ℕ) (text : List ℕ) → drop (1 + n) (byte ∷ text) ≡ drop n text
drop_one_more n byte text = ap (λ k. drop k (byte ∷ text)) (one_more n)

pub without_more : (byte : ℕ) (text : List ℕ) → without_query (byte ∷ text) ≡ cond (begins_query byte) [] (byte ∷ without_query text)
without_more byte text = go (begins_query byte)
  where
    go : (query : Bool) → take (cond (not query) (1 + prefix_len (λ byte. not (begins_query byte)) text) 0) (byte ∷ text) ≡ cond query [] (byte ∷ without_query text)
    go true = refl
    go false = take_one_more (prefix_len (λ byte. not (begins_query byte)) text) byte text

-- ---- pieces

-- what stands behind the first piece
pieces_behind : List ℕ → List (List ℕ)
pieces_behind [] = []
pieces_behind (byte ∷ text) = cond (begins_query byte) [] (slice_split (λ byte. byte == 47) (without_query text))

pieces_are : (text : List ℕ) → slice_split (λ byte. byte == 47) (without_query text)
    ≡ take (prefix_len is_in_piece text) text ∷ pieces_behind (drop (prefix_len is_in_piece text) text)
unfolding pieces_behind
pieces_are [] = refl
pieces_are (byte ∷ text) = ap (slice_split (λ byte. byte == 47)) (without_more byte text) ∙ go (pieces_are text) (begins_query byte) (byte == 47) refl refl
  where
    go : slice_split (λ byte. byte == 47) (without_query text) ≡ take (prefix_len is_in_piece text) text ∷ pieces_behind (drop (prefix_len is_in_piece text) text)
        → (query slash : Bool) → begins_query byte ≡ query → (byte == 47) ≡ slash
        → slice_split (λ byte. byte == 47) (cond query [] (byte ∷ without_query text))
        ≡ take (cond (not (query || slash)) (1 + prefix_len is_in_piece text) 0) (byte ∷ text)
        ∷ pieces_behind (drop (cond (not (query || slash)) (1 + prefix_len is_in_piece text) 0) (byte ∷ text))
    go later true slash is is_slash = ap (λ b. [] ∷ cond b [] (slice_split (λ byte. byte == 47) (without_query text))) (sym is)
    go later false true is is_slash =
        ap (λ b. cond b ([] ∷ slice_split (λ byte. byte == 47) (without_query text)) (onto_first byte (slice_split (λ byte. byte == 47) (without_query text)))) is_slash
        ∙ ap (λ b. [] ∷ cond b [] (slice_split (λ byte. byte == 47) (without_query text))) (sym is)
    go later false false is is_slash =
        ap (λ b. cond b ([] ∷ slice_split (λ byte. byte == 47) (without_query text)) (onto_first byte (slice_split (λ byte. byte == 47) (without_query text)))) is_slash
        ∙ ap (onto_first byte) later
        ∙ (λ i. sym (take_one_more (prefix_len is_in_piece text) byte text) i ∷ pieces_behind (sym (drop_one_more (prefix_len is_in_piece text) byte text) i))

all_behind : (text : List ℕ) → list_all is_file_name (pieces_behind text) ≡ has_path_behind text
unfolding pieces_behind
all_behind [] = refl
all_behind (byte ∷ text) = go (begins_query byte)
  where
    go : (query : Bool) → list_all is_file_name (cond query [] (slice_split (λ byte. byte == 47) (without_query text)))
        ≡ cond query true (is_file_path (without_query text))
    go true = refl
    go false = refl

-- a path is one of a file where its first piece is a name and what stands behind that is one
pub path_is : (text : List ℕ) → is_file_path (without_query text)
    ≡ (is_file_name (take (prefix_len is_in_piece text) text) && has_path_behind (drop (prefix_len is_in_piece text) text))
path_is text = ap (list_all is_file_name) (pieces_are text) ∙ ap (λ b. is_file_name (take (prefix_len is_in_piece text) text) && b) (all_behind (drop (prefix_len is_in_piece text) text))

-- ---- the first piece, with a byte before it

abbrev piece_by : (at : ℕ) (is_path : Bool) (piece : Piece) (query slash back : Bool) → Piece
piece_by at is_path piece query slash back =
    cond query (record { end = at; has_backslash = false; has_path = true })
    (cond slash (record piece { end = at; has_path = is_path })
    (cond back (record piece { has_backslash = true }) piece))

pub piece_more : (at byte : ℕ) (text : List ℕ) (is_path : Bool) (piece : Piece) → IsPiece (at + 1) text piece
    → ((byte == 47) ≡ true → is_path ≡ is_file_path (without_query text)) → IsPiece at (byte ∷ text) (piece_with at byte is_path piece)
piece_more at byte text is_path piece is path = record {
  ends = ends (begins_query byte) (byte == 47) (byte == 92);
  backslash = backslash (begins_query byte) (byte == 47) (byte == 92) refl refl ∙ sym (ap has_backslash (without_more byte text) ∙ any (begins_query byte));
  path = behind (begins_query byte) (byte == 47) (byte == 92) refl refl;
}
  where
    ends : (query slash back : Bool) → (piece_by at is_path piece query slash back).end ≡ at + cond (not (query || slash)) (1 + prefix_len is_in_piece text) 0
    ends true slash back = omega arith
    ends false true back = omega arith
    ends false false true = omega (arith, is.ends)
    ends false false false = omega (arith, is.ends)

    any : (query : Bool) → has_backslash (cond query [] (byte ∷ without_query text)) ≡ cond query false ((byte == 92) || has_backslash (without_query text))
    any true = refl
    any false = refl

    backslash : (query slash back : Bool) → (byte == 47) ≡ slash → (byte == 92) ≡ back
        → (piece_by at is_path piece query slash back).has_backslash ≡ cond query false ((byte == 92) || has_backslash (without_query text))
    backslash true slash back is_slash is_back = refl
    backslash false true back is_slash is_back = is.backslash ∙ sym (ap (λ b. (b == 92) || has_backslash (without_query text)) (eqb-true byte 47 is_slash))
    backslash false false true is_slash is_back = sym (ap (λ b. b || has_backslash (without_query text)) is_back)
    backslash false false false is_slash is_back = is.backslash ∙ sym (ap (λ b. b || has_backslash (without_query text)) is_back)

    behind : (query slash back : Bool) → begins_query byte ≡ query → (byte == 47) ≡ slash
        → (piece_by at is_path piece query slash back).has_path
        ≡ has_path_behind (drop (cond (not (query || slash)) (1 + prefix_len is_in_piece text) 0) (byte ∷ text))
    behind true slash back is_query is_slash = sym (ap (λ b. cond b true (is_file_path (without_query text))) is_query)
    behind false true back is_query is_slash = path is_slash ∙ sym (ap (λ b. cond b true (is_file_path (without_query text))) is_query)
    behind false false true is_query is_slash = is.path ∙ sym (ap has_path_behind (drop_one_more (prefix_len is_in_piece text) byte text))
    behind false false false is_query is_slash = is.path ∙ sym (ap has_path_behind (drop_one_more (prefix_len is_in_piece text) byte text))
